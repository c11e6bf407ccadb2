-- The rows of the session machine, computed on worked examples: first the steps that meet a fault or find no memory, then whole runs.
use Rattle.std.proofs.Common.{ℕ, ◌≡◌, refl, true, List, [], ◌∷◌, ◌++◌, codes, take, Some, None, arith}
use Rattle.cola_spec.specs.Map.{Map, range, scan}
use Rattle.cola_spec.specs.Command.{Command, Put, PutIf, Del, Get, Stamp, Range, Scan, Count, Close, Reopen}
use Rattle.cola_spec.specs.Reply as reply
use Rattle.cola_spec.specs.Reply.{Reply, Fault, Failed, Cut, Opened, Already, Shut, Bad, Refused, NotClosed, NotStore, Memory}
use Rattle.cola_spec.specs.Machine.{State, Open, Closing, Closed, Turn, Step, History, faulted_steps, ticks_of, turns_text}
use Rattle.cola_spec.specs.Kinds.{turn_of}
use Rattle.cola_spec.proofs.Worked.{stamped_shape}

abbrev a : List ℕ
a = codes "a"

abbrev b : List ℕ
b = codes "b"

-- a command, its answer and the state after it
abbrev Steps : State → Command → Reply → State → Type 0
Steps state command answer next = Step stamped_shape state (turn_of (Some command) answer 7) next

-- an open store at a fault

pub a_faulted_put : (m : Map) → Steps (Open m) (Put a b) (Failed Fault) (Open m)
a_faulted_put m = (refl, refl)

pub a_faulted_put_if : (m : Map) → Steps (Open m) (PutIf a 0 b) (Failed Fault) (Open m)
a_faulted_put_if m = (refl, refl)

pub a_faulted_delete : (m : Map) → Steps (Open m) (Del a) (Failed Fault) (Open m)
a_faulted_delete m = (refl, refl)

pub a_faulted_get : (m : Map) → Steps (Open m) (Get a) (Failed Fault) (Open m)
a_faulted_get m = (refl, refl)

pub a_faulted_stamp : (m : Map) → Steps (Open m) (Stamp a) (Failed Fault) (Open m)
a_faulted_stamp m = (refl, refl)

pub a_faulted_range : (m : Map) → Steps (Open m) (Range a b) (Cut (take 3 (range m a b)) Fault) (Open m)
a_faulted_range m = ((3, refl), refl)

pub a_faulted_scan : (m : Map) → Steps (Open m) (Scan a 5) (Cut (take 0 (scan m a 5)) Fault) (Open m)
a_faulted_scan m = ((0, refl), refl)

pub a_faulted_close : (m : Map) → Steps (Open m) Close (Failed Fault) (Closing m)
a_faulted_close m = (refl, refl)

pub no_faulted_count : (m : Map) (next : State) → Steps (Open m) Count (Failed Fault) next → ⊥
no_faulted_count m next step = step

pub no_faulted_open_line : (m : Map) (next : State) → Steps (Open m) Reopen (Failed Fault) next → ⊥
no_faulted_open_line m next step = step

pub no_fault_without_a_command : (m : Map) (next : State) → Step stamped_shape (Open m) (turn_of None (Failed Fault) 7) next → ⊥
no_fault_without_a_command m next step = step

-- a store whose closing met a fault

pub a_second_faulted_close : (m : Map) → Steps (Closing m) Close (Failed Fault) (Closing m)
a_second_faulted_close m = (refl, refl)

pub a_close_at_last : (m : Map) → Steps (Closing m) Close reply.Closed (Closed m 0)
a_close_at_last m = (refl, refl)

pub no_faulted_get_while_closing : (m : Map) (next : State) → Steps (Closing m) (Get a) (Failed Fault) next → ⊥
no_faulted_get_while_closing m next step = step

pub a_count_while_closing : (m : Map) → Steps (Closing m) Count Shut (Closing m)
a_count_while_closing m = (refl, refl)

-- a closed store

pub a_faulted_opening : (m : Map) → Steps (Closed m 0) Reopen (Failed Fault) (Closed m 255)
a_faulted_opening m = (refl, (255, omega arith, refl))

pub a_faulted_opening_of_no_store : (m : Map) → Steps (Closed m 7) Reopen (Failed Fault) (Closed m 0)
a_faulted_opening_of_no_store m = (refl, (0, omega arith, refl))

pub an_opening_short_of_memory : (m : Map) → Steps (Closed m 0) Reopen (Refused Memory) (Closed m 0)
an_opening_short_of_memory m = refl

pub memory_is_not_short_after_a_refusal : (m : Map) (next : State) → Steps (Closed m 1) Reopen (Refused Memory) next → ⊥
memory_is_not_short_after_a_refusal m next step = step

pub no_faulted_close_of_a_closed_store : (m : Map) (next : State) → Steps (Closed m 0) Close (Failed Fault) next → ⊥
no_faulted_close_of_a_closed_store m next step = step

pub a_scan_while_closed : (m : Map) → Steps (Closed m 3) (Scan a 1) Shut (Closed m 3)
a_scan_while_closed m = (refl, refl)

pub a_close_while_closed : (m : Map) → Steps (Closed m 3) Close Already (Closed m 3)
a_close_while_closed m = (refl, refl)

-- Runs

-- a put and a close that meet a fault, an opening short of memory, and one that leaves a byte that is no store's
abbrev some_turns : List Turn
some_turns =
    turn_of (Some (Put a b)) (Failed Fault) 40 ∷ turn_of (Some Close) (Failed Fault) 0 ∷ turn_of (Some (Get a)) Shut 0 ∷ turn_of None Bad 0 ∷ turn_of (Some Reopen) Already 0 ∷ turn_of (Some Close) reply.Closed 0
    ∷ turn_of (Some Reopen) (Refused Memory) 0 ∷ turn_of (Some Reopen) (Failed Fault) 0 ∷ turn_of (Some Reopen) (Refused NotStore) 0 ∷ turn_of (Some Reopen) (Failed Fault) 0 ∷ turn_of (Some Reopen) (Refused NotClosed) 0 ∷ []

pub a_run : (m : Map) → History stamped_shape (Open m) some_turns (Closed m 1)
a_run m = (Open m, (refl, refl), (Closing m, (refl, refl), (Closing m, (refl, refl), (Closing m, (refl, refl), (Closing m, (refl, refl), (Closed m 0, (refl, refl), (Closed m 0, refl, (Closed m 9, (refl, (9, omega arith, refl)), (Closed m 9, (refl, refl), (Closed m 1, (refl, (1, omega arith, refl)), (Closed m 1, (refl, refl), refl)))))))))))

pub faults_of_a_run : faulted_steps some_turns ≡ 4
faults_of_a_run = refl

pub ticks_of_a_run : ticks_of some_turns ≡ 40
ticks_of_a_run = refl

pub text_of_a_run : turns_text true some_turns
    ≡ codes "fault" ++ 10 ∷ codes "fault" ++ 10 ∷ codes "shut" ++ 10 ∷ codes "bad" ++ 10 ∷ codes "already" ++ 10 ∷ codes "closed" ++ 10 ∷ codes "memory" ++ 10 ∷ codes "fault" ++ 10 ∷ codes "notstore" ++ 10 ∷ codes "fault" ++ 10 ∷ codes "notclosed" ++ 10 ∷ []
text_of_a_run = refl
