-- Steps that meet a fault, or find no memory, are those that may be chosen.
use Rattle.std.proofs.Common.{ℕ, zero, suc, ◌≡◌, ◌<◌, ◌↔◌, true, false, cond, refl, sym, ◌∙◌, ap, Option, Some, None, unwrap_or, is_some, take, arith}
use Rattle.std.proofs.lemmas.Bool.{ne_eqb}
use Rattle.cola_spec.specs.Map.{Map, range, scan}
use Rattle.cola_spec.specs.Command.{Command, Put, PutIf, Del, Get, Stamp, Range, Scan, Count, Close, Reopen}
use Rattle.cola_spec.specs.Reply.{Reply, Cut, Fault, Memory, Failed, Refused}
use Rattle.cola_spec.specs.Machine.{State, Open, Closing, Closed, Faulted, ShortOfMemory}
use Rattle.cola_plain.specs.Faults.{faulted_after, faulted_reply, short_reply}

pub some_is : {A : Type 0} (x y : A) → Some x ≡ Some y → y ≡ x
some_is x y e = sym (ap (λ o. unwrap_or o x) e)

pub none_is_some : {A : Type 0} (y : A) → None ≡ Some y → ⊥
none_is_some y e = let never : false ≡ true = ap is_some e in cc

-- the step of some choice
abbrev pub IsChosen : State → Option Command → Reply → State → Type 0
IsChosen state request answer next = (rows : ℕ) × (byte : ℕ) × (byte < 256) × (faulted_reply rows state request ≡ Some answer) × (next ≡ faulted_after byte state request)

pub fault_is_chosen : (state : State) (request : Option Command) (answer : Reply) (next : State) → Faulted state request answer next → IsChosen state request answer next
fault_is_chosen state None answer next h = absurd h
fault_is_chosen (Open m) (Some (Put key value)) answer next h = (0, 0, omega arith, ap Some (sym h.0), h.1)
fault_is_chosen (Open m) (Some (PutIf key seen value)) answer next h = (0, 0, omega arith, ap Some (sym h.0), h.1)
fault_is_chosen (Open m) (Some (Del key)) answer next h = (0, 0, omega arith, ap Some (sym h.0), h.1)
fault_is_chosen (Open m) (Some (Get key)) answer next h = (0, 0, omega arith, ap Some (sym h.0), h.1)
fault_is_chosen (Open m) (Some (Stamp key)) answer next h = (0, 0, omega arith, ap Some (sym h.0), h.1)
fault_is_chosen (Open m) (Some (Range low high)) answer next h = (h.0.0, 0, omega arith, ap Some (sym h.0.1), h.1)
fault_is_chosen (Open m) (Some (Scan low most)) answer next h = (h.0.0, 0, omega arith, ap Some (sym h.0.1), h.1)
fault_is_chosen (Open m) (Some Count) answer next h = absurd h
fault_is_chosen (Open m) (Some Close) answer next h = (0, 0, omega arith, ap Some (sym h.0), h.1)
fault_is_chosen (Open m) (Some Reopen) answer next h = absurd h
fault_is_chosen (Closing m) (Some (Put key value)) answer next h = absurd h
fault_is_chosen (Closing m) (Some (PutIf key seen value)) answer next h = absurd h
fault_is_chosen (Closing m) (Some (Del key)) answer next h = absurd h
fault_is_chosen (Closing m) (Some (Get key)) answer next h = absurd h
fault_is_chosen (Closing m) (Some (Stamp key)) answer next h = absurd h
fault_is_chosen (Closing m) (Some (Range low high)) answer next h = absurd h
fault_is_chosen (Closing m) (Some (Scan low most)) answer next h = absurd h
fault_is_chosen (Closing m) (Some Count) answer next h = absurd h
fault_is_chosen (Closing m) (Some Close) answer next h = (0, 0, omega arith, ap Some (sym h.0), h.1)
fault_is_chosen (Closing m) (Some Reopen) answer next h = absurd h
fault_is_chosen (Closed m before) (Some (Put key value)) answer next h = absurd h
fault_is_chosen (Closed m before) (Some (PutIf key seen value)) answer next h = absurd h
fault_is_chosen (Closed m before) (Some (Del key)) answer next h = absurd h
fault_is_chosen (Closed m before) (Some (Get key)) answer next h = absurd h
fault_is_chosen (Closed m before) (Some (Stamp key)) answer next h = absurd h
fault_is_chosen (Closed m before) (Some (Range low high)) answer next h = absurd h
fault_is_chosen (Closed m before) (Some (Scan low most)) answer next h = absurd h
fault_is_chosen (Closed m before) (Some Count) answer next h = absurd h
fault_is_chosen (Closed m before) (Some Close) answer next h = absurd h
fault_is_chosen (Closed m before) (Some Reopen) answer next h = (0, h.1.0, h.1.1, ap Some (sym h.0), h.1.2)

pub chosen_is_fault : (state : State) (request : Option Command) (answer : Reply) (next : State) (rows byte : ℕ) → byte < 256 → faulted_reply rows state request ≡ Some answer → next ≡ faulted_after byte state request → Faulted state request answer next
chosen_is_fault state None answer next rows byte small told after = none_is_some answer told
chosen_is_fault (Open m) (Some (Put key value)) answer next rows byte small told after = (some_is (Failed Fault) answer told, after)
chosen_is_fault (Open m) (Some (PutIf key seen value)) answer next rows byte small told after = (some_is (Failed Fault) answer told, after)
chosen_is_fault (Open m) (Some (Del key)) answer next rows byte small told after = (some_is (Failed Fault) answer told, after)
chosen_is_fault (Open m) (Some (Get key)) answer next rows byte small told after = (some_is (Failed Fault) answer told, after)
chosen_is_fault (Open m) (Some (Stamp key)) answer next rows byte small told after = (some_is (Failed Fault) answer told, after)
chosen_is_fault (Open m) (Some (Range low high)) answer next rows byte small told after = ((rows, some_is (Cut (take rows (range m low high)) Fault) answer told), after)
chosen_is_fault (Open m) (Some (Scan low most)) answer next rows byte small told after = ((rows, some_is (Cut (take rows (scan m low most)) Fault) answer told), after)
chosen_is_fault (Open m) (Some Count) answer next rows byte small told after = none_is_some answer told
chosen_is_fault (Open m) (Some Close) answer next rows byte small told after = (some_is (Failed Fault) answer told, after)
chosen_is_fault (Open m) (Some Reopen) answer next rows byte small told after = none_is_some answer told
chosen_is_fault (Closing m) (Some (Put key value)) answer next rows byte small told after = none_is_some answer told
chosen_is_fault (Closing m) (Some (PutIf key seen value)) answer next rows byte small told after = none_is_some answer told
chosen_is_fault (Closing m) (Some (Del key)) answer next rows byte small told after = none_is_some answer told
chosen_is_fault (Closing m) (Some (Get key)) answer next rows byte small told after = none_is_some answer told
chosen_is_fault (Closing m) (Some (Stamp key)) answer next rows byte small told after = none_is_some answer told
chosen_is_fault (Closing m) (Some (Range low high)) answer next rows byte small told after = none_is_some answer told
chosen_is_fault (Closing m) (Some (Scan low most)) answer next rows byte small told after = none_is_some answer told
chosen_is_fault (Closing m) (Some Count) answer next rows byte small told after = none_is_some answer told
chosen_is_fault (Closing m) (Some Close) answer next rows byte small told after = (some_is (Failed Fault) answer told, after)
chosen_is_fault (Closing m) (Some Reopen) answer next rows byte small told after = none_is_some answer told
chosen_is_fault (Closed m before) (Some (Put key value)) answer next rows byte small told after = none_is_some answer told
chosen_is_fault (Closed m before) (Some (PutIf key seen value)) answer next rows byte small told after = none_is_some answer told
chosen_is_fault (Closed m before) (Some (Del key)) answer next rows byte small told after = none_is_some answer told
chosen_is_fault (Closed m before) (Some (Get key)) answer next rows byte small told after = none_is_some answer told
chosen_is_fault (Closed m before) (Some (Stamp key)) answer next rows byte small told after = none_is_some answer told
chosen_is_fault (Closed m before) (Some (Range low high)) answer next rows byte small told after = none_is_some answer told
chosen_is_fault (Closed m before) (Some (Scan low most)) answer next rows byte small told after = none_is_some answer told
chosen_is_fault (Closed m before) (Some Count) answer next rows byte small told after = none_is_some answer told
chosen_is_fault (Closed m before) (Some Close) answer next rows byte small told after = none_is_some answer told
chosen_is_fault (Closed m before) (Some Reopen) answer next rows byte small told after = (some_is (Failed Fault) answer told, (byte, small, after))

pub faults_are_chosen : (state : State) (request : Option Command) (answer : Reply) (next : State) → Faulted state request answer next ↔ IsChosen state request answer next
faults_are_chosen state request answer next =
    (fault_is_chosen state request answer next, λ chosen. chosen_is_fault state request answer next chosen.0 chosen.1 chosen.2 chosen.3 chosen.4)

none_or : (o : Option Reply) → ((answer : Reply) → o ≡ Some answer → ⊥) → o ≡ None
none_or None h = refl
none_or (Some answer) h = absurd (h answer refl)

-- whether a fault can come does not depend on the rows before it
same_chance : (rows other : ℕ) (state : State) (request : Option Command) → is_some (faulted_reply rows state request) ≡ is_some (faulted_reply other state request)
same_chance rows other state None = refl
same_chance rows other (Open m) (Some (Put key value)) = refl
same_chance rows other (Open m) (Some (PutIf key seen value)) = refl
same_chance rows other (Open m) (Some (Del key)) = refl
same_chance rows other (Open m) (Some (Get key)) = refl
same_chance rows other (Open m) (Some (Stamp key)) = refl
same_chance rows other (Open m) (Some (Range low high)) = refl
same_chance rows other (Open m) (Some (Scan low most)) = refl
same_chance rows other (Open m) (Some Count) = refl
same_chance rows other (Open m) (Some Close) = refl
same_chance rows other (Open m) (Some Reopen) = refl
same_chance rows other (Closing m) (Some (Put key value)) = refl
same_chance rows other (Closing m) (Some (PutIf key seen value)) = refl
same_chance rows other (Closing m) (Some (Del key)) = refl
same_chance rows other (Closing m) (Some (Get key)) = refl
same_chance rows other (Closing m) (Some (Stamp key)) = refl
same_chance rows other (Closing m) (Some (Range low high)) = refl
same_chance rows other (Closing m) (Some (Scan low most)) = refl
same_chance rows other (Closing m) (Some Count) = refl
same_chance rows other (Closing m) (Some Close) = refl
same_chance rows other (Closing m) (Some Reopen) = refl
same_chance rows other (Closed m before) (Some (Put key value)) = refl
same_chance rows other (Closed m before) (Some (PutIf key seen value)) = refl
same_chance rows other (Closed m before) (Some (Del key)) = refl
same_chance rows other (Closed m before) (Some (Get key)) = refl
same_chance rows other (Closed m before) (Some (Stamp key)) = refl
same_chance rows other (Closed m before) (Some (Range low high)) = refl
same_chance rows other (Closed m before) (Some (Scan low most)) = refl
same_chance rows other (Closed m before) (Some Count) = refl
same_chance rows other (Closed m before) (Some Close) = refl
same_chance rows other (Closed m before) (Some Reopen) = refl

never_both : (rows other : ℕ) (state : State) (request : Option Command) (answer : Reply) → faulted_reply rows state request ≡ None → faulted_reply other state request ≡ Some answer → ⊥
never_both rows other state request answer none some = let never : false ≡ true = ap is_some (sym none) ∙ same_chance rows other state request ∙ ap is_some some in cc

pub no_fault : (rows : ℕ) (state : State) (request : Option Command) → (faulted_reply rows state request ≡ None) ↔ ((answer : Reply) (next : State) → Faulted state request answer next → ⊥)
no_fault rows state request = (
  (λ none answer next fault. let chosen = fault_is_chosen state request answer next fault in never_both rows chosen.0 state request answer none chosen.3),
  (λ never. none_or (faulted_reply rows state request) (λ answer told. never answer (faulted_after 0 state request) (chosen_is_fault state request answer (faulted_after 0 state request) rows 0 (omega arith) told refl))),
)

some_is_none : {A : Type 0} (x : A) → Some x ≡ None → ⊥
some_is_none x e = none_is_some x (sym e)

pub no_fault_keeps : (rows byte : ℕ) (state : State) (request : Option Command) → faulted_reply rows state request ≡ None → faulted_after byte state request ≡ state
no_fault_keeps rows byte state None none = refl
no_fault_keeps rows byte (Open m) (Some (Put key value)) none = refl
no_fault_keeps rows byte (Open m) (Some (PutIf key seen value)) none = refl
no_fault_keeps rows byte (Open m) (Some (Del key)) none = refl
no_fault_keeps rows byte (Open m) (Some (Get key)) none = refl
no_fault_keeps rows byte (Open m) (Some (Stamp key)) none = refl
no_fault_keeps rows byte (Open m) (Some (Range low high)) none = refl
no_fault_keeps rows byte (Open m) (Some (Scan low most)) none = refl
no_fault_keeps rows byte (Open m) (Some Count) none = refl
no_fault_keeps rows byte (Open m) (Some Close) none = absurd (some_is_none (Failed Fault) none)
no_fault_keeps rows byte (Open m) (Some Reopen) none = refl
no_fault_keeps rows byte (Closing m) (Some command) none = refl
no_fault_keeps rows byte (Closed m before) (Some (Put key value)) none = refl
no_fault_keeps rows byte (Closed m before) (Some (PutIf key seen value)) none = refl
no_fault_keeps rows byte (Closed m before) (Some (Del key)) none = refl
no_fault_keeps rows byte (Closed m before) (Some (Get key)) none = refl
no_fault_keeps rows byte (Closed m before) (Some (Stamp key)) none = refl
no_fault_keeps rows byte (Closed m before) (Some (Range low high)) none = refl
no_fault_keeps rows byte (Closed m before) (Some (Scan low most)) none = refl
no_fault_keeps rows byte (Closed m before) (Some Count) none = refl
no_fault_keeps rows byte (Closed m before) (Some Close) none = refl
no_fault_keeps rows byte (Closed m before) (Some Reopen) none = absurd (some_is_none (Failed Fault) none)

-- Steps that find no memory

-- an opening finds no memory only where the store was closed
not_short : (m : Map) (byte : ℕ) → None ≡ short_reply (Closed m (suc byte)) (Some Reopen)
not_short m byte = ap (λ b. cond b (Some (Refused Memory)) None) (sym (ne_eqb (suc byte) 0 (λ same. omega arith)))

pub short_is_chosen : (state : State) (request : Option Command) (next : State) → ShortOfMemory state request next ↔ ((short_reply state request ≡ Some (Refused Memory)) × (next ≡ state))
short_is_chosen (Open m) None next = (absurd, λ h. none_is_some (Refused Memory) h.0)
short_is_chosen (Closing m) None next = (absurd, λ h. none_is_some (Refused Memory) h.0)
short_is_chosen (Closed m zero) None next = (absurd, λ h. none_is_some (Refused Memory) h.0)
short_is_chosen (Closed m (suc byte)) None next = (absurd, λ h. none_is_some (Refused Memory) h.0)
short_is_chosen (Open m) (Some (Put key value)) next = (absurd, λ h. none_is_some (Refused Memory) h.0)
short_is_chosen (Open m) (Some (PutIf key seen value)) next = (absurd, λ h. none_is_some (Refused Memory) h.0)
short_is_chosen (Open m) (Some (Del key)) next = (absurd, λ h. none_is_some (Refused Memory) h.0)
short_is_chosen (Open m) (Some (Get key)) next = (absurd, λ h. none_is_some (Refused Memory) h.0)
short_is_chosen (Open m) (Some (Stamp key)) next = (absurd, λ h. none_is_some (Refused Memory) h.0)
short_is_chosen (Open m) (Some (Range low high)) next = (absurd, λ h. none_is_some (Refused Memory) h.0)
short_is_chosen (Open m) (Some (Scan low most)) next = (absurd, λ h. none_is_some (Refused Memory) h.0)
short_is_chosen (Open m) (Some Count) next = (absurd, λ h. none_is_some (Refused Memory) h.0)
short_is_chosen (Open m) (Some Close) next = (absurd, λ h. none_is_some (Refused Memory) h.0)
short_is_chosen (Open m) (Some Reopen) next = (absurd, λ h. none_is_some (Refused Memory) h.0)
short_is_chosen (Closing m) (Some (Put key value)) next = (absurd, λ h. none_is_some (Refused Memory) h.0)
short_is_chosen (Closing m) (Some (PutIf key seen value)) next = (absurd, λ h. none_is_some (Refused Memory) h.0)
short_is_chosen (Closing m) (Some (Del key)) next = (absurd, λ h. none_is_some (Refused Memory) h.0)
short_is_chosen (Closing m) (Some (Get key)) next = (absurd, λ h. none_is_some (Refused Memory) h.0)
short_is_chosen (Closing m) (Some (Stamp key)) next = (absurd, λ h. none_is_some (Refused Memory) h.0)
short_is_chosen (Closing m) (Some (Range low high)) next = (absurd, λ h. none_is_some (Refused Memory) h.0)
short_is_chosen (Closing m) (Some (Scan low most)) next = (absurd, λ h. none_is_some (Refused Memory) h.0)
short_is_chosen (Closing m) (Some Count) next = (absurd, λ h. none_is_some (Refused Memory) h.0)
short_is_chosen (Closing m) (Some Close) next = (absurd, λ h. none_is_some (Refused Memory) h.0)
short_is_chosen (Closing m) (Some Reopen) next = (absurd, λ h. none_is_some (Refused Memory) h.0)
short_is_chosen (Closed m zero) (Some (Put key value)) next = (absurd, λ h. none_is_some (Refused Memory) h.0)
short_is_chosen (Closed m zero) (Some (PutIf key seen value)) next = (absurd, λ h. none_is_some (Refused Memory) h.0)
short_is_chosen (Closed m zero) (Some (Del key)) next = (absurd, λ h. none_is_some (Refused Memory) h.0)
short_is_chosen (Closed m zero) (Some (Get key)) next = (absurd, λ h. none_is_some (Refused Memory) h.0)
short_is_chosen (Closed m zero) (Some (Stamp key)) next = (absurd, λ h. none_is_some (Refused Memory) h.0)
short_is_chosen (Closed m zero) (Some (Range low high)) next = (absurd, λ h. none_is_some (Refused Memory) h.0)
short_is_chosen (Closed m zero) (Some (Scan low most)) next = (absurd, λ h. none_is_some (Refused Memory) h.0)
short_is_chosen (Closed m zero) (Some Count) next = (absurd, λ h. none_is_some (Refused Memory) h.0)
short_is_chosen (Closed m zero) (Some Close) next = (absurd, λ h. none_is_some (Refused Memory) h.0)
short_is_chosen (Closed m zero) (Some Reopen) next = ((λ h. (refl, h)), λ h. h.1)
short_is_chosen (Closed m (suc byte)) (Some (Put key value)) next = (absurd, λ h. none_is_some (Refused Memory) h.0)
short_is_chosen (Closed m (suc byte)) (Some (PutIf key seen value)) next = (absurd, λ h. none_is_some (Refused Memory) h.0)
short_is_chosen (Closed m (suc byte)) (Some (Del key)) next = (absurd, λ h. none_is_some (Refused Memory) h.0)
short_is_chosen (Closed m (suc byte)) (Some (Get key)) next = (absurd, λ h. none_is_some (Refused Memory) h.0)
short_is_chosen (Closed m (suc byte)) (Some (Stamp key)) next = (absurd, λ h. none_is_some (Refused Memory) h.0)
short_is_chosen (Closed m (suc byte)) (Some (Range low high)) next = (absurd, λ h. none_is_some (Refused Memory) h.0)
short_is_chosen (Closed m (suc byte)) (Some (Scan low most)) next = (absurd, λ h. none_is_some (Refused Memory) h.0)
short_is_chosen (Closed m (suc byte)) (Some Count) next = (absurd, λ h. none_is_some (Refused Memory) h.0)
short_is_chosen (Closed m (suc byte)) (Some Close) next = (absurd, λ h. none_is_some (Refused Memory) h.0)
short_is_chosen (Closed m (suc byte)) (Some Reopen) next = (absurd, λ h. none_is_some (Refused Memory) (not_short m byte ∙ h.0))

pub short_is_memory : (state : State) (request : Option Command) (answer : Reply) → short_reply state request ≡ Some answer → answer ≡ Refused Memory
short_is_memory state None answer told = absurd (none_is_some answer told)
short_is_memory (Open m) (Some command) answer told = absurd (none_is_some answer told)
short_is_memory (Closing m) (Some command) answer told = absurd (none_is_some answer told)
short_is_memory (Closed m zero) (Some (Put key value)) answer told = absurd (none_is_some answer told)
short_is_memory (Closed m zero) (Some (PutIf key seen value)) answer told = absurd (none_is_some answer told)
short_is_memory (Closed m zero) (Some (Del key)) answer told = absurd (none_is_some answer told)
short_is_memory (Closed m zero) (Some (Get key)) answer told = absurd (none_is_some answer told)
short_is_memory (Closed m zero) (Some (Stamp key)) answer told = absurd (none_is_some answer told)
short_is_memory (Closed m zero) (Some (Range low high)) answer told = absurd (none_is_some answer told)
short_is_memory (Closed m zero) (Some (Scan low most)) answer told = absurd (none_is_some answer told)
short_is_memory (Closed m zero) (Some Count) answer told = absurd (none_is_some answer told)
short_is_memory (Closed m zero) (Some Close) answer told = absurd (none_is_some answer told)
short_is_memory (Closed m zero) (Some Reopen) answer told = some_is (Refused Memory) answer told
short_is_memory (Closed m (suc byte)) (Some (Put key value)) answer told = absurd (none_is_some answer told)
short_is_memory (Closed m (suc byte)) (Some (PutIf key seen value)) answer told = absurd (none_is_some answer told)
short_is_memory (Closed m (suc byte)) (Some (Del key)) answer told = absurd (none_is_some answer told)
short_is_memory (Closed m (suc byte)) (Some (Get key)) answer told = absurd (none_is_some answer told)
short_is_memory (Closed m (suc byte)) (Some (Stamp key)) answer told = absurd (none_is_some answer told)
short_is_memory (Closed m (suc byte)) (Some (Range low high)) answer told = absurd (none_is_some answer told)
short_is_memory (Closed m (suc byte)) (Some (Scan low most)) answer told = absurd (none_is_some answer told)
short_is_memory (Closed m (suc byte)) (Some Count) answer told = absurd (none_is_some answer told)
short_is_memory (Closed m (suc byte)) (Some Close) answer told = absurd (none_is_some answer told)
short_is_memory (Closed m (suc byte)) (Some Reopen) answer told = absurd (none_is_some answer (not_short m byte ∙ told))
