-- What lists of runs answer, key by key, from what each run has of the key.
use Rattle.std.proofs.Common.{◌≡◌, Bool, true, false, cond, refl, sym, subst, Option, None, Some}
use Rattle.cola_runs.specs.Cells.{Item, Value, Tombstone}
use Rattle.cola_runs.specs.Seen.{Seen, Nothing, Old, Young, holds, value_of}
use Rattle.cola_runs.specs.Weave.{Part, all_items, kept, kept_or_none, own_at, woven, flagged_or_nothing}
use Rattle.std.specs.Option.{option_or}
use Rattle.cola_laws.specs.Chain.{upper_part}
use Rattle.cola_laws.specs.Sound.{Carried, Keeps}

module _ {V : Type 0} where
  -- a value over another: that of the item where there is one
  abbrev pub over_value : Option (Item V) → Option V → Option V
  over_value None w = w
  over_value (Some i) w = value_of (Some i)

  -- the value of two answers, one over the other
  pub value_or : (a b : Option (Item V)) → value_of (option_or a b) ≡ over_value a (value_of b)
  value_or None b = refl
  value_or (Some i) b = refl

  tombstone-value : (b : Bool) → value_of {V = V} (cond b None (Some Tombstone)) ≡ value_of (Some Tombstone)
  tombstone-value true = refl
  tombstone-value false = refl

  -- the value does not tell a tombstone that is kept from one that is left out
  pub kept-value : (part : Part) (i : Item V) → value_of (kept part i) ≡ value_of (Some i)
  kept-value part (Value v) = refl
  kept-value part Tombstone = tombstone-value part.drops_tombstones

  -- an upper part keeps every item
  pub upper-kept : (odd : Bool) (i : Item V) → kept (upper_part odd) i ≡ Some i
  upper-kept true (Value v) = refl
  upper-kept true Tombstone = refl
  upper-kept false (Value v) = refl
  upper-kept false Tombstone = refl

  -- an item as an old one, or nothing
  abbrev pub old_or_none : Option (Item V) → Seen V
  old_or_none None = Nothing
  old_or_none (Some i) = Old i

  -- what a finished build has of a key carries the incoming run
  flagged-holds : (y : Bool) (o : Option (Item V)) → holds (flagged_or_nothing y o) ≡ o
  flagged-holds true None = refl
  flagged-holds false None = refl
  flagged-holds true (Some i) = refl
  flagged-holds false (Some i) = refl

  -- what a finished build has of a key carries whatever is then visible above, where that keeps the incoming run
  pub woven-carried : (part : Part) (own incoming above : Seen V) → Keeps incoming above → Carried part above own (woven part own (holds incoming))
  woven-carried part own incoming Nothing h =
      subst (λ (x : Seen V). holds (woven part own (holds x)) ≡ kept_or_none part (own_at part own)) (sym h) (flagged-holds false _)
  woven-carried part own incoming (Old i) h =
      subst (λ (x : Option (Item V)). holds (woven part own x) ≡ kept part i) (sym h) (flagged-holds part.marks_young _)
  woven-carried part own incoming (Young i) h = tt

  -- the same for the items of the incoming run itself
  pub woven-settled : (part : Part) (own incoming : Seen V) → Carried part (old_or_none (holds incoming)) own (woven part own (holds incoming))
  woven-settled part own Nothing = flagged-holds false _
  woven-settled part own (Old i) = flagged-holds part.marks_young _
  woven-settled part own (Young i) = flagged-holds part.marks_young _

  -- a build of all items keeps the items of the own run
  pub woven-keeps : (own : Seen V) (incoming : Option (Item V)) → Keeps own (woven all_items own incoming)
  woven-keeps own (Some (Value v)) = tt
  woven-keeps own (Some Tombstone) = tt
  woven-keeps Nothing None = refl
  woven-keeps (Old (Value v)) None = refl
  woven-keeps (Old Tombstone) None = refl
  woven-keeps (Young (Value v)) None = refl
  woven-keeps (Young Tombstone) None = refl
