-- The steps that are short of memory, and the bounds of runs.
use Rattle.std.proofs.Common.{ℕ, zero, ◌≡◌, ◌≤◌, ◌+◌, refl, sym, subst, List, [], ◌∷◌, ◌++◌, Option, Some, All, map, arith}
use Rattle.std.proofs.lemmas.List.Elements.{All-head, All-tail}
use Rattle.cola_spec.specs.Map.{Shape, Map}
use Rattle.cola_spec.specs.Command.{Command, Reopen}
use Rattle.cola_spec.specs.Reply.{Reply, Failure, Fault, Damaged, Overfull, NotStore, NotClosed, Small, Memory, Failed, Cut, Refused}
use Rattle.cola_spec.specs.Machine.{State, Closed, Turn, ShortStep, kind_of, failure_kind, StepOf, ShortOfMemory, ticks_of}
use Rattle.cola_spec.specs.Bounds.{request_bound}
use Rattle.cola_spec.specs.Kinds.{IsShort, requests_bound, turn_of}

-- a step short of memory is answered so
failure_is_not_short : (failure : Failure) → failure_kind failure ≡ ShortStep → ⊥
failure_is_not_short Fault kind = cc
failure_is_not_short (Damaged cell) kind = cc
failure_is_not_short (Overfull level) kind = cc

pub answered_memory : (answer : Reply) → kind_of answer ≡ ShortStep → answer ≡ Refused Memory
answered_memory (Failed failure) kind = absurd (failure_is_not_short failure kind)
answered_memory (Cut rows failure) kind = absurd (failure_is_not_short failure kind)
answered_memory (Refused NotStore) kind = cc
answered_memory (Refused NotClosed) kind = cc
answered_memory (Refused Small) kind = cc
answered_memory (Refused Memory) kind = refl
answered_memory _ kind = cc

short_states : (state : State) (request : Option Command) (next : State) → ShortOfMemory state request next → (m : Map) × (state ≡ Closed m 0) × (request ≡ Some Reopen) × (next ≡ state)
short_states (Closed m zero) (Some Reopen) next step = (m, refl, refl, step)
short_states _ _ next step = absurd step

pub short_row : (shape : Shape) (state next : State) (request : Option Command) (answer : Reply) (ticks : ℕ) → IsShort shape state (turn_of request answer ticks) next → (m : Map) × (state ≡ Closed m 0) × (request ≡ Some Reopen) × (answer ≡ Refused Memory) × (next ≡ state)
short_row shape state next request answer ticks step =
    let row = short_states state request next (subst (λ kind. StepOf shape state (turn_of request answer ticks) next kind) step.0 step.1) in
    (row.0, row.1, row.2, answered_memory answer step.0, row.3)

short_step : (shape : Shape) (m : Map) (ticks : ℕ) → IsShort shape (Closed m 0) (turn_of (Some Reopen) (Refused Memory) ticks) (Closed m 0)
short_step shape m ticks = (refl, refl)

pub row_is_short : (shape : Shape) (state next : State) (request : Option Command) (answer : Reply) (ticks : ℕ) → (m : Map) × (state ≡ Closed m 0) × (request ≡ Some Reopen) × (answer ≡ Refused Memory) × (next ≡ state) → IsShort shape state (turn_of request answer ticks) next
row_is_short shape state next request answer ticks row =
    subst (λ s. IsShort shape state (turn_of request answer ticks) s) (sym row.4)
    (subst (λ s. IsShort shape s (turn_of request answer ticks) s) (sym row.1)
    (subst (λ r. IsShort shape (Closed row.0 0) (turn_of r answer ticks) (Closed row.0 0)) (sym row.2)
    (subst (λ a. IsShort shape (Closed row.0 0) (turn_of (Some Reopen) a ticks) (Closed row.0 0)) (sym row.3) (short_step shape row.0 ticks))))

-- Bounds of runs

pub bound_of_both : (levels : ℕ) (front rest : List (Option Command)) → requests_bound levels (front ++ rest) ≡ requests_bound levels front + requests_bound levels rest
bound_of_both levels [] rest = omega arith
bound_of_both levels (request ∷ front) rest = let more = bound_of_both levels front rest in omega arith

pub run_within : (levels : ℕ) (turns : List Turn) → All (λ turn. turn.ticks ≤ request_bound levels turn.request) turns → ticks_of turns ≤ requests_bound levels (map (λ turn. turn.request) turns)
run_within levels [] all = omega arith
run_within levels (turn ∷ turns) all =
    let first = All-head (λ t. t.ticks ≤ request_bound levels t.request) turn turns all in
    let rest = run_within levels turns (All-tail (λ t. t.ticks ≤ request_bound levels t.request) turn turns all) in
    omega (arith, first, rest)
