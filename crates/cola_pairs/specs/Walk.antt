-- A walk over the rests of a list of runs, key by key, in any order of keys.
use Rattle.std.specs.Prelude.{◌≡◌, Bool, false, cond, List, [], ◌∷◌, map, ⊤, IsTrue}
use Rattle.std.specs.declared.cmp.Ordering.{Ordering}
use Rattle.std.specs.Ordering.{is_lt, is_eq}
use Rattle.std.specs.declared.option.Option.{Option}
use Rattle.std.specs.List.{AllByRecursion}
use Rattle.std.specs.declared.option.Option.TheVariants.{None, Some}
use Rattle.std.specs.Option.{option_or}
use Rattle.cola_runs.specs.Cells.{Item, Cell, Entry, Look, key_of}
use Rattle.cola_runs.specs.Seen.{answer}
use Rattle.cola_pairs.specs.Live.{with_answer, below_end}

module _ {K : Type 0} (cmp : K → K → Ordering) where
  -- behind a key that does not lie within none does
  abbrev pub Closes : (K → Bool) → Type 0
  Closes within = (x y : K) → within x ≡ false → is_lt (cmp y x) ≡ false → within y ≡ false

module _ {K V : Type 0} where
  -- where a run has a first cell, this holds of its key
  abbrev pub AtHead : (K → Type 0) → List (Cell K V) → Type 0
  AtHead P [] = ⊤
  AtHead P (c ∷ cells) = P (key_of c)

  -- no run begins with a key that lies within
  abbrev pub HeadsOut : (K → Bool) → List (List (Cell K V)) → Type 0
  HeadsOut within = AllByRecursion (AtHead (λ h. within h ≡ false))

module _ {K V : Type 0} (cmp : K → K → Ordering) where
  -- no key is below one before it
  abbrev pub KeysOnward : List (Cell K V) → Type 0
  KeysOnward [] = ⊤
  KeysOnward (c ∷ cells) = AllByRecursion (λ d. is_lt (cmp (key_of d) (key_of c)) ≡ false) cells × KeysOnward cells

  -- the run without the cells at its front that have this key
  abbrev pub pass_key : K → List (Cell K V) → List (Cell K V)
  pass_key k [] = []
  pass_key k (c ∷ cells) = cond (is_eq (cmp k (key_of c))) (pass_key k cells) (c ∷ cells)

  -- each run without the cells at its front that have this key
  abbrev pub pass_keys : K → List (List (Cell K V)) → List (List (Cell K V))
  pass_keys k = map (pass_key k)

  -- the first item among the cells at the front of a run that have this key
  abbrev pub passed_item : K → List (Cell K V) → Option (Item V)
  passed_item k [] = None
  passed_item k (Entry x i y l ∷ cells) = cond (is_eq (cmp k x)) (Some i) None
  passed_item k (Look x l ∷ cells) = cond (is_eq (cmp k x)) (passed_item k cells) None

  -- the same of the first of the runs that has one
  abbrev pub first_passed : K → List (List (Cell K V)) → Option (Item V)
  first_passed k [] = None
  first_passed k (run ∷ runs) = option_or (passed_item k run) (first_passed k runs)

  -- no run begins with a key below k
  abbrev pub HeadsFrom : K → List (List (Cell K V)) → Type 0
  HeadsFrom k = AllByRecursion (AtHead (λ h. is_lt (cmp h k) ≡ false))

  -- a walk gives these pairs: it ends where no run begins within; else it takes a key within below which no run begins,
  -- gives what the runs have of it, and goes on behind its cells
  pub data WalksWithin (within : K → Bool) : List (List (Cell K V)) → List (K × V) → Type 0 where
    Ends : {rests : List (List (Cell K V))} → HeadsOut within rests → WalksWithin within rests []
    Takes : {rests : List (List (Cell K V))} {left : List (K × V)} {pairs : List (K × V)} (k : K) →
        IsTrue (within k) → HeadsFrom k rests → WalksWithin within (pass_keys k rests) left →
        pairs ≡ with_answer k (answer cmp k rests) left → WalksWithin within rests pairs

  -- no run begins with a key below the upper end
  abbrev pub HeadsPast : Option K → List (List (Cell K V)) → Type 0
  HeadsPast hi = HeadsOut (below_end cmp hi)

  -- a walk below the upper end, where there is one
  abbrev pub Walks : Option K → List (List (Cell K V)) → List (K × V) → Type 0
  Walks hi = WalksWithin (below_end cmp hi)
