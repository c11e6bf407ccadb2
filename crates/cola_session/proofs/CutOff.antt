-- Where the last opening met no fault, a closed store has the state byte 0.
use Rattle.std.proofs.Common.{◌≡◌, ℕ, ◌+◌, zero, suc, arith, nat_eq, if◌then◌else◌, Bool, true, false, List, [], ◌∷◌, Option, Some, None, refl, sym, subst}
use Rattle.cola_spec.specs.Map.{Shape, Map, count}
use Rattle.cola_spec.specs.Command.{Command, Put, PutIf, Del, Get, Stamp, Range, Scan, Count, Close, Reopen}
use Rattle.cola_spec.specs.Reply.{Reply, Failed, Fault, Opened, Refused, NotClosed, NotStore}
use Rattle.cola_spec.specs.Machine.{State, Open, Closing, Closed, Turn, Kind, PlainStep, FaultedStep, ShortStep, StepOf, History, kind_of, by_command, reopen_after, faulted_one, faulted_steps, plain_reply, plain_after, command_reply, command_after, open_after, OpenFaulted, CommandFaulted, ShortOfMemory}
use Rattle.cola_session.specs.Home.{cut_by, cut_by_request, cut_after}

-- a closed store has the state byte 0, but behind an opening that met a fault
abbrev pub Safe : State → Bool → Type 0
Safe (Open m) cut = Unit {0}
Safe (Closing m) cut = Unit {0}
Safe (Closed m byte) true = Unit {0}
Safe (Closed m byte) false = byte ≡ 0

-- it has the state byte 0 in any case
abbrev Good : State → Type 0
Good (Open m) = Unit {0}
Good (Closing m) = Unit {0}
Good (Closed m byte) = byte ≡ 0

good-safe : (state : State) (cut : Bool) → Good state → Safe state cut
good-safe (Open m) cut good = tt
good-safe (Closing m) cut good = tt
good-safe (Closed m byte) true good = tt
good-safe (Closed m byte) false good = good

good-is : (state next : State) → next ≡ state → Good state → Good next
good-is state next same good = subst Good (sym same) good

-- a choice by the command has what each of its cases has
by-each : {A : Type 0} (P : A → Type 0) (command : Command) (close reopen other : A) → P close → P reopen → P other → P (by_command command close reopen other)
by-each P (Put key value) close reopen other c r o = o
by-each P (PutIf key seen value) close reopen other c r o = o
by-each P (Del key) close reopen other c r o = o
by-each P (Get key) close reopen other c r o = o
by-each P (Stamp key) close reopen other c r o = o
by-each P (Range low high) close reopen other c r o = o
by-each P (Scan low most) close reopen other c r o = o
by-each P Count close reopen other c r o = o
by-each P Close close reopen other c r o = c
by-each P Reopen close reopen other c r o = r

-- no closing met a fault, and a closed store has the state byte 0
abbrev pub Quiet : State → Type 0
Quiet (Open m) = Unit {0}
Quiet (Closing m) = ⊥
Quiet (Closed m byte) = byte ≡ 0

quiet-good : (state : State) → Quiet state → Good state
quiet-good (Open m) quiet = tt
quiet-good (Closing m) quiet = tt
quiet-good (Closed m byte) quiet = quiet

-- from an open store
quiet-open : (shape : Shape) (m : Map) (command : Command) → Quiet (open_after shape m command)
quiet-open shape m (Put key value) = tt
quiet-open shape m (PutIf key seen value) = tt
quiet-open shape m (Del key) = tt
quiet-open shape m (Get key) = tt
quiet-open shape m (Stamp key) = tt
quiet-open shape m (Range low high) = tt
quiet-open shape m (Scan low most) = tt
quiet-open shape m Count = tt
quiet-open shape m Close = refl
quiet-open shape m Reopen = tt

good-faulted : (m : Map) (command : Command) (answer : Reply) (next : State) → OpenFaulted m command answer next → Good next
good-faulted m (Put key value) answer next step = good-is (Open m) next step.1 tt
good-faulted m (PutIf key seen value) answer next step = good-is (Open m) next step.1 tt
good-faulted m (Del key) answer next step = good-is (Open m) next step.1 tt
good-faulted m (Get key) answer next step = good-is (Open m) next step.1 tt
good-faulted m (Stamp key) answer next step = good-is (Open m) next step.1 tt
good-faulted m (Range low high) answer next step = good-is (Open m) next step.1 tt
good-faulted m (Scan low most) answer next step = good-is (Open m) next step.1 tt
good-faulted m Count answer next step = absurd step
good-faulted m Close answer next step = good-is (Closing m) next step.1 tt
good-faulted m Reopen answer next step = absurd step

-- from a store whose closing met a fault
good-closing : (shape : Shape) (m : Map) (command : Command) → Good (command_after shape (Closing m) command)
good-closing shape m command = by-each Good command (Closed m 0) (Closing m) (Closing m) refl tt tt

good-again : (m : Map) (command : Command) (answer : Reply) (next : State) → CommandFaulted (Closing m) command answer next → Good next
good-again m (Put key value) answer next step = absurd step
good-again m (PutIf key seen value) answer next step = absurd step
good-again m (Del key) answer next step = absurd step
good-again m (Get key) answer next step = absurd step
good-again m (Stamp key) answer next step = absurd step
good-again m (Range low high) answer next step = absurd step
good-again m (Scan low most) answer next step = absurd step
good-again m Count answer next step = absurd step
good-again m Close answer next step = good-is (Closing m) next step.1 tt
good-again m Reopen answer next step = absurd step

-- from a closed one
safe-reopened : (m : Map) (byte : ℕ) (cut closed used : Bool) → Safe (Closed m byte) cut → Safe (if closed then Open m else Closed m byte) (cut_by (if closed then Opened (count m) else if used then Refused NotClosed else Refused NotStore) cut)
safe-reopened m byte cut true used safe = tt
safe-reopened m byte cut false true safe = safe
safe-reopened m byte cut false false safe = safe

safe-closed : (shape : Shape) (m : Map) (byte : ℕ) (cut : Bool) (command : Command) → Safe (Closed m byte) cut → Safe (command_after shape (Closed m byte) command) (cut_by_request (Some command) (command_reply shape (Closed m byte) command) cut)
safe-closed shape m byte cut (Put key value) safe = safe
safe-closed shape m byte cut (PutIf key seen value) safe = safe
safe-closed shape m byte cut (Del key) safe = safe
safe-closed shape m byte cut (Get key) safe = safe
safe-closed shape m byte cut (Stamp key) safe = safe
safe-closed shape m byte cut (Range low high) safe = safe
safe-closed shape m byte cut (Scan low most) safe = safe
safe-closed shape m byte cut Count safe = safe
safe-closed shape m byte cut Close safe = safe
safe-closed shape m byte cut Reopen safe = safe-reopened m byte cut (nat_eq byte 0) (nat_eq byte 1) safe

safe-cut : (m : Map) (byte : ℕ) (answer : Reply) (next : State) (cut : Bool) → answer ≡ Failed Fault → next ≡ Closed m byte → Safe next (cut_by answer cut)
safe-cut m byte answer next cut failed same = subst (λ s. Safe s (cut_by answer cut)) (sym same) (subst (λ a. Safe (Closed m byte) (cut_by a cut)) (sym failed) tt)

safe-faulted : (m : Map) (byte : ℕ) (answer : Reply) (next : State) (cut : Bool) (command : Command) → CommandFaulted (Closed m byte) command answer next → Safe next (cut_by_request (Some command) answer cut)
safe-faulted m byte answer next cut (Put key value) step = absurd step
safe-faulted m byte answer next cut (PutIf key seen value) step = absurd step
safe-faulted m byte answer next cut (Del key) step = absurd step
safe-faulted m byte answer next cut (Get key) step = absurd step
safe-faulted m byte answer next cut (Stamp key) step = absurd step
safe-faulted m byte answer next cut (Range low high) step = absurd step
safe-faulted m byte answer next cut (Scan low most) step = absurd step
safe-faulted m byte answer next cut Count step = absurd step
safe-faulted m byte answer next cut Close step = absurd step
safe-faulted m byte answer next cut Reopen (failed, left) = safe-cut m left.0 answer next cut failed left.2

-- one step
good-plain : (shape : Shape) (m : Map) (request : Option Command) (next : State) → next ≡ plain_after shape (Open m) request → Good next
good-plain shape m None next same = good-is (Open m) next same tt
good-plain shape m (Some command) next same = good-is (open_after shape m command) next same (quiet-good (open_after shape m command) (quiet-open shape m command))

good-plain-closing : (shape : Shape) (m : Map) (request : Option Command) (next : State) → next ≡ plain_after shape (Closing m) request → Good next
good-plain-closing shape m None next same = good-is (Closing m) next same tt
good-plain-closing shape m (Some command) next same = good-is (command_after shape (Closing m) command) next same (good-closing shape m command)

safe-plain-closed : (shape : Shape) (m : Map) (byte : ℕ) (request : Option Command) (answer : Reply) (next : State) (cut : Bool) → answer ≡ plain_reply shape (Closed m byte) request → next ≡ plain_after shape (Closed m byte) request → Safe (Closed m byte) cut → Safe next (cut_by_request request answer cut)
safe-plain-closed shape m byte None answer next cut answered same safe = subst (λ s. Safe s cut) (sym same) safe
safe-plain-closed shape m byte (Some command) answer next cut answered same safe =
    subst (λ s. Safe s (cut_by_request (Some command) answer cut)) (sym same)
    (subst (λ a. Safe (command_after shape (Closed m byte) command) (cut_by_request (Some command) a cut)) (sym answered) (safe-closed shape m byte cut command safe))

-- only an opening of a file with the state byte 0 is short of memory, and it changes nothing
pub only-reopened : (state : State) (request : Option Command) (next : State) → ShortOfMemory state request next → (request ≡ Some Reopen) × ((next ≡ state) × Quiet state)
only-reopened (Open m) request next step = absurd step
only-reopened (Closing m) request next step = absurd step
only-reopened (Closed m zero) None next step = absurd step
only-reopened (Closed m zero) (Some (Put key value)) next step = absurd step
only-reopened (Closed m zero) (Some (PutIf key seen value)) next step = absurd step
only-reopened (Closed m zero) (Some (Del key)) next step = absurd step
only-reopened (Closed m zero) (Some (Get key)) next step = absurd step
only-reopened (Closed m zero) (Some (Stamp key)) next step = absurd step
only-reopened (Closed m zero) (Some (Range low high)) next step = absurd step
only-reopened (Closed m zero) (Some (Scan low most)) next step = absurd step
only-reopened (Closed m zero) (Some Count) next step = absurd step
only-reopened (Closed m zero) (Some Close) next step = absurd step
only-reopened (Closed m zero) (Some Reopen) next step = (refl, (step, refl))
only-reopened (Closed m (suc byte)) request next step = absurd step

pub safe-step : (shape : Shape) (state : State) (request : Option Command) (answer : Reply) (ticks : ℕ) (next : State) (kind : Kind) (cut : Bool) → StepOf shape state (record { request = request; answer = answer; ticks = ticks }) next kind → Safe state cut
    → Safe next (cut_by_request request answer cut)
safe-step shape (Open m) request answer ticks next PlainStep cut step safe = good-safe next _ (good-plain shape m request next step.1)
safe-step shape (Open m) None answer ticks next FaultedStep cut step safe = absurd step
safe-step shape (Open m) (Some command) answer ticks next FaultedStep cut step safe = good-safe next _ (good-faulted m command answer next step)
safe-step shape (Open m) request answer ticks next ShortStep cut step safe = absurd step
safe-step shape (Closing m) request answer ticks next PlainStep cut step safe = good-safe next _ (good-plain-closing shape m request next step.1)
safe-step shape (Closing m) None answer ticks next FaultedStep cut step safe = absurd step
safe-step shape (Closing m) (Some command) answer ticks next FaultedStep cut step safe = good-safe next _ (good-again m command answer next step)
safe-step shape (Closing m) request answer ticks next ShortStep cut step safe = absurd step
safe-step shape (Closed m byte) request answer ticks next PlainStep cut step safe = safe-plain-closed shape m byte request answer next cut step.0 step.1 safe
safe-step shape (Closed m byte) None answer ticks next FaultedStep cut step safe = absurd step
safe-step shape (Closed m byte) (Some command) answer ticks next FaultedStep cut step safe = safe-faulted m byte answer next cut command step
safe-step shape (Closed m byte) request answer ticks next ShortStep cut step safe = let only = only-reopened (Closed m byte) request next step in
    good-safe next (cut_by_request request answer cut) (good-is (Closed m byte) next only.1.0 (quiet-good (Closed m byte) only.1.1))

-- a run
pub safe-run : (shape : Shape) (state : State) (turns : List Turn) (last : State) (cut : Bool) → History shape state turns last → Safe state cut → Safe last (cut_after turns cut)
safe-run shape state [] last cut same safe = subst (λ s. Safe s cut) (sym same) safe
safe-run shape state (turn ∷ turns) last cut (next, step, rest) safe =
    safe-run shape next turns last (cut_by_request turn.request turn.answer cut) rest (safe-step shape state turn.request turn.answer turn.ticks next (kind_of turn.answer) cut step safe)

-- Where no step is faulted

quiet-is : (state next : State) → next ≡ state → Quiet state → Quiet next
quiet-is state next same quiet = subst Quiet (sym same) quiet

quiet-reopened : (m : Map) (byte : ℕ) (closed : Bool) → Quiet (Closed m byte) → Quiet (if closed then Open m else Closed m byte)
quiet-reopened m byte true quiet = tt
quiet-reopened m byte false quiet = quiet

quiet-plain-open : (shape : Shape) (m : Map) (request : Option Command) → Quiet (plain_after shape (Open m) request)
quiet-plain-open shape m None = tt
quiet-plain-open shape m (Some command) = quiet-open shape m command

quiet-plain-closed : (shape : Shape) (m : Map) (byte : ℕ) (request : Option Command) → byte ≡ 0 → Quiet (plain_after shape (Closed m byte) request)
quiet-plain-closed shape m byte None quiet = quiet
quiet-plain-closed shape m byte (Some command) quiet = by-each Quiet command (Closed m byte) (reopen_after m byte) (Closed m byte) quiet (quiet-reopened m byte (nat_eq byte 0) quiet) quiet

-- a step keeps it so
pub quiet-step : (shape : Shape) (state : State) (request : Option Command) (answer : Reply) (ticks : ℕ) (next : State) (kind : Kind) → StepOf shape state (record { request = request; answer = answer; ticks = ticks }) next kind → (kind ≡ FaultedStep → ⊥) → Quiet state → Quiet next
quiet-step shape (Open m) request answer ticks next PlainStep step calm quiet = quiet-is _ next step.1 (quiet-plain-open shape m request)
quiet-step shape (Open m) request answer ticks next FaultedStep step calm quiet = absurd (calm refl)
quiet-step shape (Open m) request answer ticks next ShortStep step calm quiet = absurd step
quiet-step shape (Closing m) request answer ticks next kind step calm quiet = absurd quiet
quiet-step shape (Closed m byte) request answer ticks next PlainStep step calm quiet = quiet-is _ next step.1 (quiet-plain-closed shape m byte request quiet)
quiet-step shape (Closed m byte) request answer ticks next FaultedStep step calm quiet = absurd (calm refl)
quiet-step shape (Closed m byte) request answer ticks next ShortStep step calm quiet = let only = only-reopened (Closed m byte) request next step in quiet-is (Closed m byte) next only.1.0 only.1.1

-- a turn that is not faulted
pub not-faulted : (kind : Kind) (more : ℕ) → faulted_one kind + more ≡ 0 → kind ≡ FaultedStep → ⊥
not-faulted PlainStep more none is = cc
not-faulted FaultedStep more none is = omega (arith, none)
not-faulted ShortStep more none is = cc

-- a run
pub quiet-run : (shape : Shape) (state : State) (turns : List Turn) (last : State) → History shape state turns last → faulted_steps turns ≡ 0 → Quiet state → Quiet last
quiet-run shape state [] last same none quiet = quiet-is state last same quiet
quiet-run shape state (turn ∷ turns) last (next, step, rest) none quiet =
    quiet-run shape next turns last rest (omega (arith, none))
    (quiet-step shape state turn.request turn.answer turn.ticks next (kind_of turn.answer) step (not-faulted (kind_of turn.answer) (faulted_steps turns) none) quiet)
