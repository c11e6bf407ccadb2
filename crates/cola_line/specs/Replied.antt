-- A reply of the code as a reply of the session machine, and when a turn is a step of it.
use Rattle.std.specs.Prelude.{ℕ, ◌≡◌, List, take, Option, Result, MatchResult}
use Rattle.cola_outside.specs.Faults.{Rose}
use Rattle.cola_io.specs.Streams.{Appended}
use Rattle.cola_spec.specs.Map.{Shape, Map, PutOutcome}
use Rattle.cola_spec.specs.Map as map
use Rattle.cola_spec.specs.Reply as reply
use Rattle.cola_spec.specs.Machine.{Kind, PlainStep, FaultedStep, ShortStep, Turn, Step, Open}
use Rattle.cola_line.specs.declared.reply.Outcome.{Outcome}
use Rattle.cola_line.specs.declared.reply.Outcome.TheVariants as outcome
use Rattle.cola_line.specs.declared.reply.Failure.{Failure}
use Rattle.cola_line.specs.declared.reply.Failure.TheVariants as failure
use Rattle.cola_line.specs.declared.reply.Refusal.{Refusal}
use Rattle.cola_line.specs.declared.reply.Refusal.TheVariants as refusal
use Rattle.cola_line.specs.declared.reply.Reply.{Reply}
use Rattle.cola_line.specs.declared.reply.Reply.TheVariants as code

abbrev pub outcome_of : Outcome → PutOutcome
outcome_of outcome.New = map.New
outcome_of (outcome.Old value) = map.Old value
outcome_of outcome.Full = map.Full
outcome_of outcome.Worn = map.Worn
outcome_of (outcome.Other stamp) = map.Other stamp

abbrev pub failure_of : Failure → reply.Failure
failure_of failure.Fault = reply.Fault
failure_of (failure.Damaged cell) = reply.Damaged cell
failure_of (failure.Overfull level) = reply.Overfull level

abbrev pub refusal_of : Refusal → reply.Refusal
refusal_of refusal.NotStore = reply.NotStore
refusal_of refusal.NotClosed = reply.NotClosed
refusal_of refusal.Small = reply.Small
refusal_of refusal.Memory = reply.Memory

-- the reply as the session machine sees it
abbrev pub reply_of : Reply → reply.Reply
reply_of (code.Put outcome) = reply.Put (outcome_of outcome)
reply_of (code.Deleted value) = reply.Deleted value
reply_of (code.Got value) = reply.Got value
reply_of (code.Stamped stamp) = reply.Stamped stamp
reply_of (code.Counted keys) = reply.Counted keys
reply_of (code.Failed failure) = reply.Failed (failure_of failure)
reply_of code.Closed = reply.Closed
reply_of (code.Opened keys) = reply.Opened keys
reply_of (code.Refused refusal) = reply.Refused (refusal_of refusal)
reply_of code.Already = reply.Already
reply_of code.Shut = reply.Shut
reply_of code.Bad = reply.Bad

-- all of a text was appended, or some of its front where the sink failed
abbrev pub Wrote : {A E : Type 0} → List ℕ → Result A E → Option (List ℕ) → Option (List ℕ) → Type 0
Wrote text result before after = MatchResult result (λ _. Appended text before after) (λ _. (n : ℕ) × Appended (take n text) before after)

-- the count of faults of a table rises in a faulted step, and stays in every other
abbrev pub KindFaults : Kind → ℕ → ℕ → Type 0
KindFaults PlainStep before now = now ≡ before
KindFaults FaultedStep before now = Rose before now
KindFaults ShortStep before now = now ≡ before

-- from the map m the turn is a step of the session machine that leaves it open, with a map that is held
pub record StepsFrom (shape : Shape) (m : Map) (Holds : Map → Type 0) (turn : Turn) : Type 0 where
  pub next : Map
  pub holds : Holds next
  pub step : Step shape (Open m) turn (Open next)
