use Rattle.std.proofs.Common.{◌≡◌, ◌+◌, ◌/◌, ◌%◌, ◌^◌, false, List, ap, sym, subst, ◌∙◌, ℕ, arith}
use Rattle.std.proofs.lemmas.Bool.{false≢true}
use Rattle.cola_cell.specs.declared.sink.Shadow.{Shadow}
use Rattle.cola_cell.specs.Flat.{shadow_at}
use Rattle.cola_cell.specs.Places.{IsPlace}
use Rattle.cola_cell.specs.Packed.{given}
use Rattle.cola_cell.specs.Reads.{Reads}
use Rattle.cola_cell.specs.Spent.{buffer_for}
use Rattle.cola_run.specs.Cells.{IsOnDevice, block_cells, block_number, is_in_tail}
use Rattle.cola_run.specs.Store.{Store, spent_of, state_of}
use Rattle.cola_run.specs.Parts.{Finds}
use Rattle.cola_run.specs.Turns.{Turns}
use Rattle.cola_run.proofs.Spots.{tail-is}
use Rattle.cola_run.proofs.Reading.{reads-memory, reads-device}
use Rattle.cola_run.proofs.Views.{store_of}
use Rattle.cola_run.proofs.run_store.RunStore.read_by.Goals as goal

pub returns-then-level-front_levels-clause-reads : goal.returns-then-level-front_levels-clause-reads
returns-then-level-front_levels-clause-reads g c =
    let view = store_of c.self.inside in
    let now : Store _ = record view { ticked = (view.ticked + 1) % 2 ^ 64 } in
    subst (λ (s : Store _). Reads (state_of g.D.Device.bytes g.D.Device.counts s) (state_of g.D.Device.bytes g.D.Device.counts now) (buffer_for c.args.reader c.args.level) c.args.level c.args.slot c.args.index (given c.read_in_front.new.into c.read_in_front.result)) c.self.view_is
    (reads-memory (state_of g.D.Device.bytes g.D.Device.counts view) ((view.ticked + 1) % 2 ^ 64) (buffer_for c.args.reader c.args.level) c.args.level c.args.slot c.args.index (given c.read_in_front.new.into c.read_in_front.result)
    (omega arith) (c.read_in_front.ensures.answer (spent_of g.D.Device.counts view).faults))

pub returns-then-has_in_tail-clause-reads : goal.returns-then-has_in_tail-clause-reads
returns-then-has_in_tail-clause-reads g c =
    let view = store_of c.self.inside in
    let now : Store _ = record view { ticked = (view.ticked + 1) % 2 ^ 64 } in
    subst (λ (s : Store _). Reads (state_of g.D.Device.bytes g.D.Device.counts s) (state_of g.D.Device.bytes g.D.Device.counts now) (buffer_for c.args.reader c.args.level) c.args.level c.args.slot c.args.index (given c.read_in_tail.new.into c.read_in_tail.result)) c.self.view_is
    (reads-memory (state_of g.D.Device.bytes g.D.Device.counts view) ((view.ticked + 1) % 2 ^ 64) (buffer_for c.args.reader c.args.level) c.args.level c.args.slot c.args.index (given c.read_in_tail.new.into c.read_in_tail.result)
    (omega arith) (c.read_in_tail.ensures.answer (spent_of g.D.Device.counts view).faults))

pub returns-clause-reads : goal.returns-clause-reads
returns-clause-reads g c =
    let i = c.self.inside in
    let view = store_of i in
    let now : Store _ = record view { buffers = c.read_by_buffer.new.buffers; ticked = (i.ticked + 1) % 2 ^ 64 } in
    let place : IsPlace (i.geometry.bottom + 1) c.args.level c.args.slot c.args.index = subst (λ (s : Store _). IsPlace (s.geometry.bottom + 1) c.args.level c.args.slot c.args.index) (sym c.self.view_is) c.requires in
    let device : IsOnDevice i.geometry c.args.level = record { within = omega (arith, place.level_in); whole = omega (arith, c.front_levels.ensures, c.if-level-front_levels.false) } in
    let shadow : c.shadow_of-shadow.result ≡ shadow_at i.shadows.items.items c.args.level = c.shadow_of-shadow.ensures ∙ ap (λ (xs : List Shadow). shadow_at xs c.args.level) c.deref.ensures.value in
    let outside : is_in_tail (block_cells i.geometry) (shadow_at i.shadows.items.items c.args.level) c.args.slot c.args.index ≡ false =
    ap (λ (x : Shadow). is_in_tail (block_cells i.geometry) x c.args.slot c.args.index) (sym shadow) ∙ sym c.has_in_tail.ensures ∙ c.if-has_in_tail.false in
    let answer = given c.read_by_buffer.new.into c.read_by_buffer.result in
    let finds = subst (λ (n : ℕ). Finds (g.D.Device.bytes i.buffers.cache.device) i.geometry.format n answer) c.place-number.ensures.value c.read_by_buffer.ensures.finds in
    let turns = subst (λ (n : ℕ). Turns g.D.Device.counts i.buffers c.read_by_buffer.new.buffers n (block_number i.geometry c.args.level c.args.slot c.args.index) answer) c.buffer_of-buffer.ensures
    (subst (λ (n : ℕ). Turns g.D.Device.counts i.buffers c.read_by_buffer.new.buffers c.buffer_of-buffer.result (n / block_cells i.geometry) answer) c.place-number.ensures.value c.read_by_buffer.ensures.turns) in
    subst (λ (s : Store _). Reads (state_of g.D.Device.bytes g.D.Device.counts s) (state_of g.D.Device.bytes g.D.Device.counts now) (buffer_for c.args.reader c.args.level) c.args.level c.args.slot c.args.index answer) c.self.view_is
    (reads-device g.D.Device.bytes g.D.Device.counts view c.read_by_buffer.new.buffers ((i.ticked + 1) % 2 ^ 64) c.args.reader c.args.level c.args.slot c.args.index answer
    c.self.invariant.cells.shape.block c.self.invariant.buffers_many place device
    (λ q. false≢true (sym outside ∙ tail-is (block_cells i.geometry) (shadow_at i.shadows.items.items c.args.level) c.args.slot c.args.index q))
    finds turns c.read_by_buffer.ensures.bytes_stay (omega arith))
