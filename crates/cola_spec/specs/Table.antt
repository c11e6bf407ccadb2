-- The rows of the session machine's table, as its laws say them.
use Rattle.std.specs.Prelude.{ℕ, ◌≡◌, ◌↔◌, Some}
use Rattle.cola_spec.specs.Map.{Shape}
use Rattle.cola_spec.specs.Command.{Command}
use Rattle.cola_spec.specs.Reply.{Reply}
use Rattle.cola_spec.specs.Machine.{State}
use Rattle.cola_spec.specs.Kinds.{IsFaulted, IsPlain, turn_of}

-- a session in this state that is asked the command answers so and goes to that state, by its one plain step
abbrev pub Answers : Shape → State → Command → Reply → State → Type 0
Answers shape state command reply after = (next : State) (answer : Reply) (ticks : ℕ) →
    IsPlain shape state (turn_of (Some command) answer ticks) next ↔ ((answer ≡ reply) × (next ≡ after))

-- where the device fails, it answers so and goes to that state, by its one faulted step
abbrev pub Faults : Shape → State → Command → Reply → State → Type 0
Faults shape state command reply after = (next : State) (answer : Reply) (ticks : ℕ) →
    IsFaulted shape state (turn_of (Some command) answer ticks) next ↔ ((answer ≡ reply) × (next ≡ after))

-- no device is asked there: there is no faulted step
abbrev pub MeetsNoFault : Shape → State → Command → Type 0
MeetsNoFault shape state command = (next : State) (answer : Reply) (ticks : ℕ) →
    IsFaulted shape state (turn_of (Some command) answer ticks) next → ⊥
