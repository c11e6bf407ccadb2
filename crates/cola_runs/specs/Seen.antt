-- What a run, and a list of runs, say of one key.
use Rattle.std.specs.Prelude.{ℕ, ◌≤◌, Bool, true, false, cond, List, [], ◌∷◌, length, ⊤}
use Rattle.std.specs.declared.cmp.Ordering.{Ordering}
use Rattle.std.specs.Ordering.{is_eq}
use Rattle.std.specs.declared.option.Option.{Option}
use Rattle.std.specs.declared.option.Option.TheVariants.{None, Some}
use Rattle.std.specs.Option.{option_or}
use Rattle.std.specs.List.{AllByRecursion}
use Rattle.std.specs.List.Sorted.{IsStrictlySortedBy}
use Rattle.cola_runs.specs.Cells.{Item, Value, Tombstone, Cell, Entry, Look}

-- what a run has of a key: no item, an old item or a young one
pub data Seen (V : Type 0) : Type 0 where
  Nothing : Seen V
  Old : Item V → Seen V
  Young : Item V → Seen V

module _ {V : Type 0} where
  -- the item with this young flag
  abbrev pub flagged : Bool → Item V → Seen V
  flagged true i = Young i
  flagged false i = Old i

  -- the item, whatever its flag
  abbrev pub holds : Seen V → Option (Item V)
  holds Nothing = None
  holds (Old i) = Some i
  holds (Young i) = Some i

  -- the answer is a value: a tombstone and no item both mean absent
  abbrev pub IsLive : Option (Item V) → Type 0
  IsLive None = ⊥
  IsLive (Some (Value v)) = ⊤
  IsLive (Some Tombstone) = ⊥

  -- the value of an answer, if it is one
  abbrev pub value_of : Option (Item V) → Option V
  value_of None = None
  value_of (Some (Value v)) = Some v
  value_of (Some Tombstone) = None

module _ {K V : Type 0} (cmp : K → K → Ordering) where
  -- what the list of cells has of key q
  abbrev pub seen : K → List (Cell K V) → Seen V
  seen q [] = Nothing
  seen q (Entry k i y l ∷ cells) = cond (is_eq (cmp q k)) (flagged y i) (seen q cells)
  seen q (Look k l ∷ cells) = seen q cells

  -- the answer of a list of runs for key q: the item of the first run that has one
  abbrev pub answer : K → List (List (Cell K V)) → Option (Item V)
  answer q [] = None
  answer q (run ∷ runs) = option_or (holds (seen q run)) (answer q runs)

  -- at most so many keys have a live answer
  abbrev pub AtMost : ℕ → (K → Option (Item V)) → Type 0
  AtMost most f = (keys : List K) → IsStrictlySortedBy cmp keys → AllByRecursion (λ q. IsLive (f q)) keys → length keys ≤ most
