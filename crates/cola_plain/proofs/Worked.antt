-- The steps that may be chosen, computed on worked examples.
use Rattle.std.specs.Prelude.{ℕ, ◌≡◌, refl, List, [], ◌∷◌, map, Some, None}
use Rattle.cola_spec.specs.Map.{Shape, Map, count}
use Rattle.cola_spec.specs.Command.{Get, Count, Close, Reopen}
use Rattle.cola_spec.specs.Reply as reply
use Rattle.cola_spec.specs.Reply.{Reply, Failed, Fault, Refused, Memory, NotClosed, NotStore, Opened, Counted, Shut}
use Rattle.cola_spec.specs.Machine.{Open, Closed, Turn}
use Rattle.cola_plain.specs.declared.script.Choice.TheVariants.{Faulted, ShortOfMemory}
use Rattle.cola_plain.specs.declared.script.Move.{Move}
use Rattle.cola_plain.specs.Faults.{faulted_reply, short_reply}
use Rattle.cola_plain.specs.Scripts.{scripted_turns}

abbrev answers : List Turn → List Reply
answers turns = map (λ turn. turn.answer) turns

abbrev fault : ℕ → ℕ → Move
fault rows byte = record { choice = Faulted rows byte; ticks = 0 }

-- a closing that met a fault is done again, and the session answers nothing else till then
pub closed_again : (shape : Shape) (m : Map) (key : List ℕ) → answers (scripted_turns (fault 0 7 ∷ []) shape (Open m) (Some Close ∷ Some (Get key) ∷ Some Close ∷ [])) ≡ Failed Fault ∷ Shut ∷ reply.Closed ∷ []
closed_again shape m key = refl

-- an opening that met a fault leaves the byte that the next one reads
pub byte_is_left : (shape : Shape) (m : Map) → answers (scripted_turns (fault 0 7 ∷ []) shape (Closed m 0) (Some Reopen ∷ Some Reopen ∷ [])) ≡ Failed Fault ∷ Refused NotStore ∷ []
byte_is_left shape m = refl

pub open_byte_is_left : (shape : Shape) (m : Map) → answers (scripted_turns (fault 0 1 ∷ []) shape (Closed m 0) (Some Reopen ∷ Some Reopen ∷ [])) ≡ Failed Fault ∷ Refused NotClosed ∷ []
open_byte_is_left shape m = refl

-- an opening that found no memory leaves the store as it was
pub memory_is_found_later : (shape : Shape) (m : Map) → answers (scripted_turns (record { choice = ShortOfMemory; ticks = 0 } ∷ []) shape (Closed m 0) (Some Reopen ∷ Some Reopen ∷ [])) ≡ Refused Memory ∷ Opened (count m) ∷ []
memory_is_found_later shape m = refl

-- no fault comes at a count, at an opening of an open store, or at what is no command
pub no_fault_at_a_count : (m : Map) → faulted_reply 0 (Open m) (Some Count) ≡ None
no_fault_at_a_count m = refl

pub no_fault_at_an_open_store : (m : Map) → faulted_reply 0 (Open m) (Some Reopen) ≡ None
no_fault_at_an_open_store m = refl

pub no_fault_without_command : (m : Map) → faulted_reply 0 (Open m) None ≡ None
no_fault_without_command m = refl

-- memory is short only where the store was closed
pub memory_of_another_file : (m : Map) → short_reply (Closed m 1) (Some Reopen) ≡ None
memory_of_another_file m = refl

-- a step that cannot go as chosen goes plainly
pub counted_all_the_same : (shape : Shape) (m : Map) → answers (scripted_turns (fault 0 0 ∷ []) shape (Open m) (Some Count ∷ [])) ≡ Counted (count m) ∷ []
counted_all_the_same shape m = refl
