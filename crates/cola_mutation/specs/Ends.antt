-- The end of an accepted mutation: levels flip, and windows end.
use Rattle.std.specs.Prelude.{◌≡◌, ◌≢◌, ◌⊎◌, ℕ, suc, ◌+◌, ◌≤◌, ◌<◌, true, false, cond, List, [], ◌∷◌, ⊤}
use Rattle.cola_clock.specs.Clock.{flips, ends, visible_slot}
use Rattle.cola_cell.specs.Held.{Held, is_untold}
use Rattle.cola_cell.specs.Shadows.{emptied, IsKept}
use Rattle.cola_level.specs.declared.level.Level.{Level}
use Rattle.cola_level.specs.Marks.{out_of_window, flipped, IsOwnRunConsumed}

-- level j after the mutation at clock t, when its steps are done: it flips, or it leaves its window, or it stays
abbrev pub ended : ℕ → ℕ → Level → Level
ended t j l = cond (flips t j) (flipped l) (cond (ends t j) (out_of_window l) l)

-- the same of level j and of all below it
abbrev pub all_ended : ℕ → ℕ → List Level → List Level
all_ended t j [] = []
all_ended t j (l ∷ ls) = ended t j l ∷ all_ended t (suc j) ls

-- each level from level j on whose window ends has consumed its own run
abbrev pub AreDone : ℕ → ℕ → List Level → Type 0
AreDone t j [] = ⊤
AreDone t j (l ∷ ls) = (ends t j ≡ true → IsOwnRunConsumed l) × AreDone t (suc j) ls

-- a level that is none of `count` levels from level j on, or does not flip
abbrev pub IsStaying : ℕ → ℕ → ℕ → ℕ → Type 0
IsStaying t j count l = (l < j) ⊎ (j + count ≤ l) ⊎ (flips t l ≡ false)

-- of `count` levels from level j on, each that flips gets a new, empty shadow in the slot of the run that was visible; the others' shadows stay, and so does every cell but those of a shadow that was given up and was not kept
pub record Restarted (t j count : ℕ) (old new : Held) : Type 0 where
  pub fixed_is : new.fixed ≡ old.fixed
  pub telling_is : (l s k : ℕ) → is_untold (new.spots l s k) ≡ is_untold (old.spots l s k)
  pub flipped : (l : ℕ) → j ≤ l → l < j + count → flips t l ≡ true → new.shadows l ≡ emptied (visible_slot t l)
  pub others_stay : (l : ℕ) → IsStaying t j count l → new.shadows l ≡ old.shadows l
  pub spots_stay : (l s k : ℕ) → IsStaying t j count l ⊎ ((s ≢ (old.shadows l).slot) ⊎ IsKept old l) → new.spots l s k ≡ old.spots l s k
