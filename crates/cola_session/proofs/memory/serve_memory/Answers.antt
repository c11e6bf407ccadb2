use Rattle.std.proofs.Common.{◌≡◌, ◌∙◌, List, refl, ap, sym}
use Rattle.cola_spec.specs.Lines.{Line}
use Rattle.cola_spec.specs.Map.{empty_map}
use Rattle.cola_spec.specs.Machine.{Open}
use Rattle.cola_table.specs.contracts.flat.FlatTableTable.TheImpl.{ghosts}
use Rattle.cola_session.specs.declared.memory.MemorySession.{MemorySession}
use Rattle.cola_session.specs.Ends.{Ending, Well, Ill, Anyhow, UnlessIll}
use Rattle.cola_session.specs.Memory.{memory_home, state_of}
use Rattle.cola_session.proofs.InMemory.{replied, replied-front}
use Rattle.cola_session.proofs.Sessions.{ends-with}
use Rattle.cola_session.proofs.memory.serve_memory.Goals as goal

unless : (A B : List Line → Type 0) → ((lines : List Line) → A lines → B lines) → (ending : Ending) (lines : List Line) → UnlessIll ending (A lines) → UnlessIll ending (B lines)
unless A B turn Well lines a = turn lines a
unless A B turn Ill lines a = a
unless A B turn Anyhow lines a = turn lines a

pub returns-in-Ok : goal.returns-in-Ok
returns-in-Ok g c =
    let is = c.begin.ensures in
    let limit : c.begin.result.table.limit ≡ c.args.keys = ap (λ (s : MemorySession). s.table.limit) is ∙ ap (λ t. t.limit) c.in-Ok.ensures in
    let at : memory_home.at c.args.keys c.begin.result (Open empty_map) = (limit, sym (ap (λ (s : MemorySession). state_of s.is_open s.table.map) is ∙ ap (λ t. Open t.map) c.in-Ok.ensures)) in
    let r = c.serve_lines-status in
    ends-with g.S.Source g.K.Sink c.args.source.now r.new.source c.args.sink.now r.new.sink _ _ _ _ _ _ (λ n never. absurd never)
    (unless _ _ (replied ghosts (λ table. refl) g.K.Sink c.args.keys c.args.sink.now c.args.steps.now c.begin.result at r.result.0 r.new.sink r.new.steps))
    (replied-front ghosts (λ table. refl) g.K.Sink c.args.keys c.args.sink.now c.args.steps.now c.begin.result at r.result.0 r.new.sink r.new.steps) r.result.1 r.ensures
