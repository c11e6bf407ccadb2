-- What the flips do to a level, by the place of the clock: it turns, it leaves its window, or it stays.
use Rattle.std.proofs.Common.{◌≡◌, ℕ, suc, Bool, true, false, cond, not, ◌&&◌, List, [], ◌∷◌, refl, sym, ap, ◌∙◌}
use mathlib.Core.Path.{ap₂}
use Rattle.cola_clock.specs.Clock.{period, is_odd, is_over, flips, ends}
use Rattle.cola_clock.proofs.Laws.{is_over-suc, flips-suc, ends-suc, is_odd-next_stay}
use Rattle.cola_runs.specs.Cells.{Cell}
use Rattle.cola_laws.specs.Chain.{Level, visibles, shadows, next_runs}
use Rattle.cola_laws.specs.Mutation.{turned, left_window, level_after, levels_after}
use Rattle.cola_laws.specs.Alike.{AreAlike}

-- where level j stays, the level below it stays too, and no window ends there
pub stays-below : (t j : ℕ) → flips t j ≡ false → flips t (suc j) ≡ false
stays-below t j stay = flips-suc t j ∙ ap (λ x. x && is_odd (period t j)) stay

pub stays-open : (t j : ℕ) → flips t j ≡ false → ends t (suc j) ≡ false
stays-open t j stay = ends-suc t j ∙ ap (λ x. x && not (is_odd (period t j))) stay

-- a window's place is the same at the next clock, where the level above stays
pub stays-over : (t j : ℕ) → flips t j ≡ false → is_over t (suc j) ≡ is_over (suc t) (suc j)
stays-over t j stay = is_over-suc t j ∙ sym (is_odd-next_stay t j stay) ∙ sym (is_over-suc (suc t) j)

-- where level j flips, the level below flips with it in an odd period and stays in an even one
pub flips-odd : (t j : ℕ) → flips t j ≡ true → flips t (suc j) ≡ is_odd (period t j)
flips-odd t j flip = flips-suc t j ∙ ap (λ x. x && is_odd (period t j)) flip

module _ {K V : Type 0} where
  pub level_after-turns : (t j : ℕ) (l : Level K V) → flips t j ≡ true → level_after t j l ≡ turned l
  level_after-turns t j l flip = rw flip refl

  pub level_after-leaves : (t j : ℕ) (l : Level K V) → flips t j ≡ false → ends t j ≡ true → level_after t j l ≡ left_window l
  level_after-leaves t j l stay end = rw (stay, end) refl

  pub level_after-stays : (t j : ℕ) (l : Level K V) → flips t j ≡ false → ends t j ≡ false → level_after t j l ≡ l
  level_after-stays t j l stay open_yet = rw (stay, open_yet) refl

  -- below a level that stays, all levels stay as they are
  pub levels_after-stays : (t j : ℕ) (ls : List (Level K V)) → flips t j ≡ false → levels_after t (suc j) ls ≡ ls
  levels_after-stays t j [] stay = refl
  levels_after-stays t j (l ∷ ls) stay =
      ap₂ (λ (x : Level K V) (xs : List (Level K V)). x ∷ xs) (level_after-stays t (suc j) l (stays-below t j stay) (stays-open t j stay)) (levels_after-stays t (suc j) ls (stays-below t j stay))

  -- and they say the same at the next clock
  pub stays-alike : (t j : ℕ) (ls : List (Level K V)) → flips t j ≡ false → AreAlike t (suc t) (suc j) ls ls
  stays-alike t j [] stay = tt
  stays-alike t j (l ∷ ls) stay = (
    record { parity = sym (is_odd-next_stay t (suc j) (stays-below t j stay)); visible = refl; over = stays-over t j stay; shadow = λ over. refl },
    stays-alike t (suc j) ls (stays-below t j stay),
  )

  level_after-visible : (turns leaves : Bool) (l : Level K V) → (cond turns (turned l) (cond leaves (left_window l) l)).visible ≡ cond turns l.shadow l.visible
  level_after-visible true leaves l = refl
  level_after-visible false true l = refl
  level_after-visible false false l = refl

  runs_after : (turns odd : Bool) (own shadow : List (Cell K V)) (flipping staying : List (List (Cell K V))) →
      cond turns shadow own ∷ cond (turns && odd) flipping staying ≡ cond turns (shadow ∷ cond odd flipping staying) (own ∷ staying)
  runs_after true odd own shadow flipping staying = refl
  runs_after false odd own shadow flipping staying = refl

  no_runs : (turns : Bool) → [] ≡ cond {A = List (List (Cell K V))} turns [] []
  no_runs true = refl
  no_runs false = refl

  -- the visible runs after the flips: from a level that flips on, the shadows
  pub visibles-after : (t j : ℕ) (ls : List (Level K V)) → visibles (levels_after t j ls) ≡ cond (flips t j) (shadows t j ls) (visibles ls)
  visibles-after t j [] = no_runs (flips t j)
  visibles-after t j (l ∷ ls) =
      ap₂ (λ (x : List (Cell K V)) (xs : List (List (Cell K V))). x ∷ xs) (level_after-visible (flips t j) (ends t j) l)
      (visibles-after t (suc j) ls ∙ ap (λ (x : Bool). cond x (shadows t (suc j) ls) (visibles ls)) (flips-suc t j))
      ∙ runs_after (flips t j) (is_odd (period t j)) l.visible l.shadow (shadows t (suc j) ls) (visibles ls)

  pub visibles-flip : (t j : ℕ) (ls : List (Level K V)) → flips t j ≡ true → visibles (levels_after t j ls) ≡ shadows t j ls
  visibles-flip t j ls flip = visibles-after t j ls ∙ ap (λ (x : Bool). cond x (shadows t j ls) (visibles ls)) flip

  -- the next runs of a level that flips are those that are then visible below it
  pub next_runs-flip : (t j : ℕ) (ls : List (Level K V)) → flips t j ≡ true → next_runs t j ls ≡ visibles (levels_after t (suc j) ls)
  next_runs-flip t j ls flip =
      sym (visibles-after t (suc j) ls ∙ ap (λ (x : Bool). cond x (shadows t (suc j) ls) (visibles ls)) (flips-odd t j flip))
