-- Steps of the machine are those that may be chosen, and its runs are those of scripts.
use Rattle.std.proofs.Common.{◌≡◌, ◌↔◌, Bool, true, false, cond, refl, sym, ◌∙◌, ap, subst, List, [], ◌∷◌, map, All, Option, Some, None, is_some, unwrap_or}
use Rattle.std.proofs.lemmas.List.Elements.{All-cons, All-nil, All-head, All-tail}
use Rattle.cola_spec.specs.Map.{Shape}
use Rattle.cola_spec.specs.Command.{Command, Put, PutIf, Del, Get, Stamp, Range, Scan, Count, Close, Reopen}
use Rattle.cola_spec.specs.Reply as reply
use Rattle.cola_spec.specs.Reply.{Reply, Memory, Refused}
use Rattle.cola_spec.specs.Machine.{State, Open, Closing, Closed, Kind, PlainStep, FaultedStep, ShortStep, kind_of, Turn, Step, StepOf, History, plain_after, plain_reply, plain_last, plain_turn, plain_turns}
use Rattle.cola_spec.specs.Machine as machine
use Rattle.cola_spec.proofs.MachineLaws.{plain_kind}
use Rattle.cola_plain.specs.declared.script.Choice.{Choice}
use Rattle.cola_plain.specs.declared.script.Choice.TheVariants.{Plain, Faulted, ShortOfMemory}
use Rattle.cola_plain.specs.declared.script.Move.{Move}
use Rattle.cola_plain.specs.Scripts.{IsChoice, chosen_after, chosen_reply, scripted_after, scripted_last, scripted_turn, scripted_turns, next_move, later_moves}
use Rattle.cola_plain.proofs.FaultLaws.{some_is, fault_is_chosen, chosen_is_fault, short_is_chosen, short_is_memory}
use Rattle.cola_plain.proofs.ScriptLemmas.{not_chosen_keeps}

fault_kind : (state : State) (request : Option Command) (answer : Reply) (next : State) → machine.Faulted state request answer next → kind_of answer ≡ FaultedStep
fault_kind state None answer next h = absurd h
fault_kind (Open m) (Some (Put key value)) answer next h = ap kind_of h.0
fault_kind (Open m) (Some (PutIf key seen value)) answer next h = ap kind_of h.0
fault_kind (Open m) (Some (Del key)) answer next h = ap kind_of h.0
fault_kind (Open m) (Some (Get key)) answer next h = ap kind_of h.0
fault_kind (Open m) (Some (Stamp key)) answer next h = ap kind_of h.0
fault_kind (Open m) (Some (Range low high)) answer next h = ap kind_of h.0.1
fault_kind (Open m) (Some (Scan low most)) answer next h = ap kind_of h.0.1
fault_kind (Open m) (Some Count) answer next h = absurd h
fault_kind (Open m) (Some Close) answer next h = ap kind_of h.0
fault_kind (Open m) (Some Reopen) answer next h = absurd h
fault_kind (Closing m) (Some (Put key value)) answer next h = absurd h
fault_kind (Closing m) (Some (PutIf key seen value)) answer next h = absurd h
fault_kind (Closing m) (Some (Del key)) answer next h = absurd h
fault_kind (Closing m) (Some (Get key)) answer next h = absurd h
fault_kind (Closing m) (Some (Stamp key)) answer next h = absurd h
fault_kind (Closing m) (Some (Range low high)) answer next h = absurd h
fault_kind (Closing m) (Some (Scan low most)) answer next h = absurd h
fault_kind (Closing m) (Some Count) answer next h = absurd h
fault_kind (Closing m) (Some Close) answer next h = ap kind_of h.0
fault_kind (Closing m) (Some Reopen) answer next h = absurd h
fault_kind (Closed m byte) (Some (Put key value)) answer next h = absurd h
fault_kind (Closed m byte) (Some (PutIf key seen value)) answer next h = absurd h
fault_kind (Closed m byte) (Some (Del key)) answer next h = absurd h
fault_kind (Closed m byte) (Some (Get key)) answer next h = absurd h
fault_kind (Closed m byte) (Some (Stamp key)) answer next h = absurd h
fault_kind (Closed m byte) (Some (Range low high)) answer next h = absurd h
fault_kind (Closed m byte) (Some (Scan low most)) answer next h = absurd h
fault_kind (Closed m byte) (Some Count) answer next h = absurd h
fault_kind (Closed m byte) (Some Close) answer next h = absurd h
fault_kind (Closed m byte) (Some Reopen) answer next h = ap kind_of h.0

abbrev is_short : Kind → Bool
is_short PlainStep = false
is_short FaultedStep = false
is_short ShortStep = true

not_short : (kind : Kind) → is_short kind ≡ false → kind ≡ ShortStep → ⊥
not_short kind other is = let never : false ≡ true = sym other ∙ ap is_short is in cc

-- a reply of a step that found no memory is the one that says so
short_kind : (answer : Reply) → kind_of answer ≡ ShortStep → answer ≡ Refused Memory
short_kind (reply.Put outcome) is = absurd (not_short PlainStep refl is)
short_kind (reply.Deleted value) is = absurd (not_short PlainStep refl is)
short_kind (reply.Got value) is = absurd (not_short PlainStep refl is)
short_kind (reply.Stamped stamp) is = absurd (not_short PlainStep refl is)
short_kind (reply.Rows rows) is = absurd (not_short PlainStep refl is)
short_kind (reply.Cut rows reply.Fault) is = absurd (not_short FaultedStep refl is)
short_kind (reply.Cut rows (reply.Damaged cell)) is = absurd (not_short PlainStep refl is)
short_kind (reply.Cut rows (reply.Overfull level)) is = absurd (not_short PlainStep refl is)
short_kind (reply.Counted keys) is = absurd (not_short PlainStep refl is)
short_kind (reply.Failed reply.Fault) is = absurd (not_short FaultedStep refl is)
short_kind (reply.Failed (reply.Damaged cell)) is = absurd (not_short PlainStep refl is)
short_kind (reply.Failed (reply.Overfull level)) is = absurd (not_short PlainStep refl is)
short_kind reply.Closed is = absurd (not_short PlainStep refl is)
short_kind (reply.Opened keys) is = absurd (not_short PlainStep refl is)
short_kind (reply.Refused reply.NotStore) is = absurd (not_short PlainStep refl is)
short_kind (reply.Refused reply.NotClosed) is = absurd (not_short PlainStep refl is)
short_kind (reply.Refused reply.Small) is = absurd (not_short PlainStep refl is)
short_kind (reply.Refused reply.Memory) is = refl
short_kind reply.Already is = absurd (not_short PlainStep refl is)
short_kind reply.Shut is = absurd (not_short PlainStep refl is)
short_kind reply.Bad is = absurd (not_short PlainStep refl is)

-- the step goes as some choice says
abbrev pub IsChosenStep : Shape → State → Turn → State → Type 0
IsChosenStep shape state turn next = (choice : Choice) × IsChoice choice × (chosen_reply choice shape state turn.request ≡ Some turn.answer) × (next ≡ chosen_after choice shape state turn.request)

chosen_by_kind : (shape : Shape) (state : State) (turn : Turn) (next : State) (kind : Kind) → kind_of turn.answer ≡ kind → StepOf shape state turn next kind → IsChosenStep shape state turn next
chosen_by_kind shape state turn next PlainStep is step = (Plain, tt, ap Some (sym step.0), step.1)
chosen_by_kind shape state turn next FaultedStep is step =
    let chosen = fault_is_chosen state turn.request turn.answer next step in
    (Faulted chosen.0 chosen.1, chosen.2, chosen.3, chosen.4)
chosen_by_kind shape state turn next ShortStep is step =
    let chosen = (short_is_chosen state turn.request next).0 step in
    (ShortOfMemory, tt, chosen.0 ∙ ap Some (sym (short_kind turn.answer is)), chosen.1)

chosen_is_step : (shape : Shape) (state : State) (turn : Turn) (next : State) (choice : Choice) → IsChoice choice → chosen_reply choice shape state turn.request ≡ Some turn.answer → next ≡ chosen_after choice shape state turn.request → Step shape state turn next
chosen_is_step shape state turn next Plain may told after =
    let is = some_is (plain_reply shape state turn.request) turn.answer told in
    subst (StepOf shape state turn next) (sym (ap kind_of is ∙ plain_kind shape state turn.request)) (is, after)
chosen_is_step shape state turn next (Faulted rows byte) may told after =
    let fault = chosen_is_fault state turn.request turn.answer next rows byte may told after in
    subst (StepOf shape state turn next) (sym (fault_kind state turn.request turn.answer next fault)) fault
chosen_is_step shape state turn next ShortOfMemory may told after =
    let is = short_is_memory state turn.request turn.answer told in
    subst (StepOf shape state turn next) (sym (ap kind_of is)) ((short_is_chosen state turn.request next).1 (told ∙ ap Some is, after))

pub steps_chosen : (shape : Shape) (state : State) (turn : Turn) (next : State) → Step shape state turn next ↔ IsChosenStep shape state turn next
steps_chosen shape state turn next =
    (chosen_by_kind shape state turn next (kind_of turn.answer) refl, λ chosen. chosen_is_step shape state turn next chosen.0 chosen.1 chosen.2 chosen.3)

pub not_chosen : (choice : Choice) (shape : Shape) (state : State) (request : Option Command) → chosen_reply choice shape state request ≡ None → chosen_after choice shape state request ≡ state
not_chosen choice shape state request none = not_chosen_keeps choice shape state request (sym none)

step_by_reply : (next : Move) (shape : Shape) (state : State) (request : Option Command) (told : Option Reply) → IsChoice next.choice → chosen_reply next.choice shape state request ≡ told
    → Step shape state (record { request = request; answer = unwrap_or told (plain_reply shape state request); ticks = next.ticks }) (cond (is_some told) (chosen_after next.choice shape state request) (plain_after shape state request))
step_by_reply next shape state request None may is =
    subst (StepOf shape state (record { request = request; answer = plain_reply shape state request; ticks = next.ticks }) (plain_after shape state request)) (sym (plain_kind shape state request)) (refl, refl)
step_by_reply next shape state request (Some answer) may is =
    chosen_is_step shape state (record { request = request; answer = answer; ticks = next.ticks }) (chosen_after next.choice shape state request) next.choice may is refl

-- the step of a script is one of the machine's
pub scripted_is_step : (next : Move) (shape : Shape) (state : State) (request : Option Command) → IsChoice next.choice → Step shape state (scripted_turn next shape state request) (scripted_after next.choice shape state request)
scripted_is_step next shape state request may = step_by_reply next shape state request (chosen_reply next.choice shape state request) may refl

-- Runs

abbrev pub AreChoices : List Move → Type 0
AreChoices script = All (λ (move : Move). IsChoice move.choice) script

next_is_choice : (script : List Move) → AreChoices script → IsChoice (next_move script).choice
next_is_choice [] all = tt
next_is_choice (move ∷ moves) all = All-head (λ (m : Move). IsChoice m.choice) move moves all

later_are_choices : (script : List Move) → AreChoices script → AreChoices (later_moves script)
later_are_choices [] all = all
later_are_choices (move ∷ moves) all = All-tail (λ (m : Move). IsChoice m.choice) move moves all

pub script_is_run : (script : List Move) (shape : Shape) (state : State) (asked : List (Option Command)) → AreChoices script → History shape state (scripted_turns script shape state asked) (scripted_last script shape state asked)
script_is_run script shape state [] all = refl
script_is_run script shape state (request ∷ requests) all =
    let next = next_move script in
    let after = scripted_after next.choice shape state request in
    (after, scripted_is_step next shape state request (next_is_choice script all), script_is_run (later_moves script) shape after requests (later_are_choices script all))

-- the run is that of some script
abbrev pub IsScripted : Shape → State → List Turn → State → Type 0
IsScripted shape state turns last =
    (script : List Move) × AreChoices script × (turns ≡ scripted_turns script shape state (map (λ turn. turn.request) turns)) × (last ≡ scripted_last script shape state (map (λ turn. turn.request) turns))

scripted_after_chosen : (choice : Choice) (shape : Shape) (state : State) (request : Option Command) (answer : Reply) (next : State) → chosen_reply choice shape state request ≡ Some answer → next ≡ chosen_after choice shape state request → next ≡ scripted_after choice shape state request
scripted_after_chosen choice shape state request answer next told after =
    after ∙ ap (λ o. cond (is_some o) (chosen_after choice shape state request) (plain_after shape state request)) (sym told)

scripted_chosen : (choice : Choice) (shape : Shape) (state : State) (turn : Turn) → chosen_reply choice shape state turn.request ≡ Some turn.answer → turn ≡ scripted_turn (record { choice = choice; ticks = turn.ticks }) shape state turn.request
scripted_chosen choice shape state turn told =
    ap (λ o. record { request = turn.request; answer = unwrap_or o (plain_reply shape state turn.request); ticks = turn.ticks }) (sym told)

pub run_is_scripted : (shape : Shape) (state : State) (turns : List Turn) (last : State) → History shape state turns last → IsScripted shape state turns last
run_is_scripted shape state [] last run = ([], All-nil (λ (m : Move). IsChoice m.choice), refl, run)
run_is_scripted shape state (turn ∷ turns) last run =
    let chosen = chosen_by_kind shape state turn run.0 (kind_of turn.answer) refl run.1 in
    let rest = run_is_scripted shape run.0 turns last run.2 in
    let move : Move = record { choice = chosen.0; ticks = turn.ticks } in
    let asked = map (λ (t : Turn). t.request) turns in
    let after = scripted_after_chosen chosen.0 shape state turn.request turn.answer run.0 chosen.2 chosen.3 in (
      move ∷ rest.0,
      All-cons (λ (m : Move). IsChoice m.choice) move rest.0 chosen.1 rest.1,
      ap (λ t. t ∷ turns) (scripted_chosen chosen.0 shape state turn chosen.2)
          ∙ ap (λ ts. scripted_turn move shape state turn.request ∷ ts) (rest.2 ∙ ap (λ s. scripted_turns rest.0 shape s asked) after),
      rest.3 ∙ ap (λ s. scripted_last rest.0 shape s asked) after,
    )

pub empty_script_is_plain : (shape : Shape) (state : State) (asked : List (Option Command)) → (scripted_turns [] shape state asked ≡ plain_turns shape state asked) × (scripted_last [] shape state asked ≡ plain_last shape state asked)
empty_script_is_plain shape state [] = (refl, refl)
empty_script_is_plain shape state (request ∷ requests) =
    let rest = empty_script_is_plain shape (plain_after shape state request) requests in
    (ap (λ ts. plain_turn shape state request ∷ ts) rest.0, rest.1)
