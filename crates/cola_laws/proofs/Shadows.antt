-- The flips keep the answer of every key, in one induction from the top level to the bottom.
use Rattle.std.proofs.Common.{◌≡◌, ℕ, suc, Bool, true, false, cond, List, [], ◌∷◌, refl, ◌∙◌, Option, None}
use Rattle.std.specs.Bool.{⊤}
use Rattle.std.specs.declared.cmp.Ordering.{Ordering}
use Rattle.std.specs.Option.{option_or}
use Rattle.cola_clock.specs.Clock.{period, is_odd, is_over}
use Rattle.cola_clock.proofs.Laws.{is_over-suc}
use Rattle.cola_runs.specs.Cells.{Item, Value, Tombstone, Cell}
use Rattle.cola_runs.specs.Seen.{Seen, Nothing, Old, Young, holds, seen, answer, value_of}
use Rattle.cola_runs.specs.Weave.{bottom_items, young_items, all_items}
use Rattle.cola_laws.specs.Chain.{Level, upper_part, part_of, visibles, shadows, value_at}
use Rattle.cola_laws.specs.Sound.{Carried, IsSettled}
use Rattle.cola_laws.proofs.Values.{over_value, upper-kept}

module _ {V : Type 0} where
  -- at the bottom, whose shadow answers alone
  bottom_case : (above own shadow : Seen V) → IsSettled above → Carried bottom_items above own shadow →
      value_of (option_or (holds shadow) None) ≡ over_value (holds above) (value_of (option_or (holds own) None))
  bottom_case Nothing Nothing shadow s h = rw h refl
  bottom_case Nothing (Old (Value v)) shadow s h = rw h refl
  bottom_case Nothing (Old Tombstone) shadow s h = rw h refl
  bottom_case Nothing (Young (Value v)) shadow s h = rw h refl
  bottom_case Nothing (Young Tombstone) shadow s h = rw h refl
  bottom_case (Old (Value v)) own shadow s h = rw h refl
  bottom_case (Old Tombstone) own shadow s h = rw h refl
  bottom_case (Young i) own shadow s h = absurd s

  -- at a level in an even period, below whose shadow the same runs lie as below its visible run
  even_case : (above own shadow : Seen V) (rest : Option (Item V)) → IsSettled above → Carried all_items above own shadow →
      value_of (option_or (holds shadow) rest) ≡ over_value (holds above) (value_of (option_or (holds own) rest))
  even_case Nothing Nothing shadow rest s h = rw h refl
  even_case Nothing (Old i) shadow rest s h = rw (h ∙ upper-kept false i) refl
  even_case Nothing (Young i) shadow rest s h = rw (h ∙ upper-kept false i) refl
  even_case (Old i) own shadow rest s h = rw (h ∙ upper-kept false i) refl
  even_case (Young i) own shadow rest s h = absurd s

  -- at a level in an odd period: the old items that it drops stand in the runs below, which flip too
  odd_case : (above own shadow : Seen V) (rest_shadow rest : Option (Item V)) → IsSettled above → Carried young_items above own shadow →
      (IsSettled own → value_of rest_shadow ≡ over_value (holds own) (value_of rest)) →
      value_of (option_or (holds shadow) rest_shadow) ≡ over_value (holds above) (value_of (option_or (holds own) rest))
  odd_case Nothing Nothing shadow rest_shadow rest s h below = rw h (below tt)
  odd_case Nothing (Old i) shadow rest_shadow rest s h below = rw h (below tt)
  odd_case Nothing (Young i) shadow rest_shadow rest s h below = rw (h ∙ upper-kept true i) refl
  odd_case (Old i) own shadow rest_shadow rest s h below = rw (h ∙ upper-kept true i) refl
  odd_case (Young i) own shadow rest_shadow rest s h below = absurd s

module _ {K V : Type 0} (cmp : K → K → Ordering) where
  -- for one key, each shadow from level j on that is finished at clock t carries the run above it
  abbrev pub AreCarried : K → ℕ → ℕ → Seen V → List (Level K V) → Type 0
  AreCarried q t j above [] = ⊤
  AreCarried q t j above (l ∷ below) =
      (is_over t j ≡ true → Carried (part_of (is_odd (period t j)) below) above (seen cmp q l.visible) (seen cmp q l.shadow))
      × AreCarried q t (suc j) (seen cmp q l.visible) below

  -- the next runs at the bottom: none
  bottom_step : (q : K) (odd : Bool) (above : Seen V) (own shadow : List (Cell K V)) → IsSettled above →
      Carried bottom_items above (seen cmp q own) (seen cmp q shadow) →
      value_at cmp (shadow ∷ cond odd [] []) q ≡ over_value (holds above) (value_at cmp (own ∷ []) q)
  bottom_step q true above own shadow settled h = bottom_case above (seen cmp q own) (seen cmp q shadow) settled h
  bottom_step q false above own shadow settled h = bottom_case above (seen cmp q own) (seen cmp q shadow) settled h

  -- the next runs above the bottom: in an odd period those that flip too, in an even one those that stay
  upper_step : (q : K) (odd : Bool) (above : Seen V) (own shadow : List (Cell K V)) (flipping staying : List (List (Cell K V))) → IsSettled above →
      Carried (upper_part odd) above (seen cmp q own) (seen cmp q shadow) →
      (odd ≡ true → IsSettled (seen cmp q own) → value_at cmp flipping q ≡ over_value (holds (seen cmp q own)) (value_at cmp staying q)) →
      value_at cmp (shadow ∷ cond odd flipping staying) q ≡ over_value (holds above) (value_at cmp (own ∷ staying) q)
  upper_step q true above own shadow flipping staying settled h below =
      odd_case above (seen cmp q own) (seen cmp q shadow) (answer cmp q flipping) (answer cmp q staying) settled h (below refl)
  upper_step q false above own shadow flipping staying settled h below =
      even_case above (seen cmp q own) (seen cmp q shadow) (answer cmp q staying) settled h

  -- the shadows from level j on answer as the runs above them did: the item above, and then the visible runs
  pub shadows-answer : (q : K) (t j : ℕ) (above : Seen V) (l : Level K V) (below : List (Level K V)) → IsSettled above →
      Carried (part_of (is_odd (period t j)) below) above (seen cmp q l.visible) (seen cmp q l.shadow) →
      AreCarried q t (suc j) (seen cmp q l.visible) below →
      value_at cmp (shadows t j (l ∷ below)) q ≡ over_value (holds above) (value_at cmp (visibles (l ∷ below)) q)
  shadows-answer q t j above l [] settled h rest = bottom_step q (is_odd (period t j)) above l.visible l.shadow settled h
  shadows-answer q t j above l (m ∷ below) settled h rest =
      upper_step q (is_odd (period t j)) above l.visible l.shadow (shadows t (suc j) (m ∷ below)) (visibles (m ∷ below)) settled h
      (λ odd own_settled. shadows-answer q t (suc j) (seen cmp q l.visible) m below own_settled (rest.0 (is_over-suc t j ∙ odd)) rest.1)
