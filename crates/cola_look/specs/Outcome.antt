-- What the cells that are told say of the answer of a call that only reads.
use Rattle.std.specs.Prelude.{◌≡◌, ℕ, ⊤, Result, Ok, Err}
use Rattle.cola_cell.specs.declared.fault.ReadFault.{ReadFault}
use Rattle.cola_cell.specs.declared.fault.ReadFault.TheVariants.{Device, BadCell}

-- the answer is this one, or the cell of this number is bad and was needed; or a cell is needed of which nothing is told
pub data Outcome (A : Type 0) : Type 0 where
  Found : A → Outcome A
  BadAt : ℕ → Outcome A
  Open : Outcome A

-- what follows from an answer
abbrev pub and_then : {A B : Type 0} → Outcome A → (A → Outcome B) → Outcome B
and_then (Found a) next = next a
and_then (BadAt number) next = BadAt number
and_then Open next = Open

-- the call answers what is told of it: the answer, seen in this way, or the number of the bad
-- cell. The device may always refuse, and where a needed cell is not told nothing is said
abbrev pub Answers : {A T : Type 0} → Outcome A → (T → A) → Result T ReadFault → Type 0
Answers Open view result = ⊤
Answers (Found a) view (Ok answer) = view answer ≡ a
Answers (Found a) view (Err Device) = ⊤
Answers (Found a) view (Err (BadCell number)) = ⊥
Answers (BadAt bad) view (Ok answer) = ⊥
Answers (BadAt bad) view (Err Device) = ⊤
Answers (BadAt bad) view (Err (BadCell number)) = number ≡ bad
