-- What a caller of mirrors wants: which sides a calm one has, and when two devices have the same bytes.
use Rattle.std.proofs.Common.{◌≡◌, ℕ, zero, suc, Bool, true, false, List, Option, Some, None, refl, sym, ap, arith}
use Rattle.std.specs.Prelude.{is_some}
use Rattle.cola_outside.specs.Faults.{RoseBy, Rose}
use Rattle.cola_device.specs.declared.device.Device as device
use Rattle.cola_mirror.specs.Sides.{has_first, has_second}
use Rattle.cola_mirror.specs.Mirror.{Pair, MetFaults, IsSound}
use Rattle.cola_mirror.specs.Differ.{first_difference, IfBoth}
use Rattle.cola_mirror.proofs.DifferLemmas.{none-same}

-- a count that rose by some rose
rose-some : (own before now : ℕ) → RoseBy own before now → (Rose before now → ⊥) → own ≡ 0
rose-some zero before now met calm = refl
rose-some (suc own) before now met calm = absurd (calm (omega (arith, met)))

calm-used : (used : Bool) (own before now : ℕ) → MetFaults used own before now → (Rose before now → ⊥) → (used ≡ true) × (own ≡ 0)
calm-used true own before now met calm = (refl, rose-some own before now met calm)
calm-used false own before now met calm = absurd (calm met)

module _ {D E : Type 0} (d : device.Ghosts D) (e : device.Ghosts E) (pair : Pair D E) (sound : IsSound d e pair) where
  -- a side that met no fault since the mirror was made is in use, and the mirror met none
  pub first-calm : (Rose pair.first_faults (d.counts pair.first).faults → ⊥) → (has_first pair.sides ≡ true) × (pair.counts.faults ≡ 0)
  first-calm calm = calm-used (has_first pair.sides) pair.counts.faults pair.first_faults (d.counts pair.first).faults sound.first_met calm

  pub second-calm : (Rose pair.second_faults (e.counts pair.second).faults → ⊥) → (has_second pair.sides ≡ true) × (pair.counts.faults ≡ 0)
  second-calm calm = calm-used (has_second pair.sides) pair.counts.faults pair.second_faults (e.counts pair.second).faults sound.second_met calm

-- two devices that were found to be the same have the same bytes, where both tell theirs or neither does
pub same-told : (first second : Option (List ℕ)) → is_some first ≡ is_some second → IfBoth first second (λ xs ys. None ≡ first_difference xs ys) → first ≡ second
same-told None None both none = refl
same-told None (Some ys) both none = cc
same-told (Some xs) None both none = cc
same-told (Some xs) (Some ys) both none = ap (λ (zs : List ℕ). Some zs) (none-same xs ys (sym none))
