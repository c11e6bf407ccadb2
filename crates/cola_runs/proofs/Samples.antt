-- The sample of a run.
use Rattle.std.proofs.Common.{◌≡◌, ℕ, zero, suc, ◌+◌, ◌-◌, ◌*◌, ◌/◌, ◌≤◌, ◌<◌, Bool, true, false, List, [], ◌∷◌, refl, sym, ap, ◌∙◌, Less, Equal, Greater, Ordering, length, arith}
use Rattle.std.specs.Ordering.{ordering_then, bool_cmp}
use Rattle.std.specs.Option.{option_map}
use Rattle.std.specs.Cmp.{IsTotalOrder, alike_right}
use Rattle.std.specs.List.{AllByRecursion, slice_get}
use Rattle.std.specs.List.Sorted.{IsStrictlySortedBy}
use Rattle.cola_runs.specs.Cells.{Cell, key_of, is_look, place_cmp, IsRising, every_eighth, sample}
use Rattle.cola_runs.proofs.Order.{all_change}

-- no three kinds rise
no_three : (x y z : Bool) → bool_cmp x y ≡ Less → bool_cmp y z ≡ Less → ⊥
no_three true true z p q = cc
no_three true false z p q = cc
no_three false false z p q = cc
no_three false true true p q = cc
no_three false true false p q = cc

module _ {K V : Type 0} {cmp : K → K → Ordering} (o : IsTotalOrder cmp) where
  -- of three cells in order the last has a greater key than the first
  key_rises : (c d e : Cell K V) → place_cmp cmp c d ≡ Less → place_cmp cmp d e ≡ Less → cmp (key_of c) (key_of e) ≡ Less
  key_rises c d e p q = go (cmp (key_of c) (key_of d)) (cmp (key_of d) (key_of e)) refl refl p q
    where
      go : (a b : Ordering) → cmp (key_of c) (key_of d) ≡ a → cmp (key_of d) (key_of e) ≡ b → ordering_then a (bool_cmp (is_look c) (is_look d)) ≡ Less → ordering_then b (bool_cmp (is_look d) (is_look e)) ≡ Less →
          cmp (key_of c) (key_of e) ≡ Less
      go Less Less f g p q = o.trans (key_of c) (key_of d) (key_of e) f g
      go Less Equal f g p q = sym (alike_right o (key_of d) (key_of e) (key_of c) g) ∙ f
      go Less Greater f g p q = cc
      go Equal Less f g p q = o.congr (key_of c) (key_of d) (key_of e) f ∙ g
      go Equal Equal f g p q = absurd (no_three (is_look c) (is_look d) (is_look e) p q)
      go Equal Greater f g p q = cc
      go Greater b f g p q = cc

  all_eighths : (P : K → Type 0) (n : ℕ) (cells : List (Cell K V)) → AllByRecursion (λ d. P (key_of d)) cells → AllByRecursion P (every_eighth n cells)
  all_eighths P n [] h = tt
  all_eighths P zero (c ∷ cells) h = (h.0, all_eighths P 7 cells h.1)
  all_eighths P (suc n) (c ∷ cells) h = all_eighths P n cells h.1

  far_keys : (c : Cell K V) (cells : List (Cell K V)) → IsRising cmp (c ∷ cells) → AllByRecursion (λ k. cmp (key_of c) k ≡ Less) (every_eighth 7 cells)
  unfolding IsStrictlySortedBy
  far_keys c [] h = tt
  far_keys c (d ∷ cells) h = all_eighths (λ k. cmp (key_of c) k ≡ Less) 6 cells (all_change (λ e f. key_rises c d e h.0.0 f) cells h.1.0)

  -- the keys of every eighth cell of a run in order rise
  pub eighths_rise : (n : ℕ) (cells : List (Cell K V)) → IsRising cmp cells → IsStrictlySortedBy cmp (every_eighth n cells)
  unfolding IsStrictlySortedBy
  eighths_rise n [] h = tt
  eighths_rise zero (c ∷ cells) h = (far_keys c cells h, eighths_rise 7 cells h.1)
  eighths_rise (suc n) (c ∷ cells) h = eighths_rise n cells h.1

module _ {K V : Type 0} where
  eighths_count : (n : ℕ) (cells : List (Cell K V)) → n ≤ 7 → (8 * length (every_eighth n cells) ≤ length cells + (7 - n)) × (length cells + (7 - n) < 8 * length (every_eighth n cells) + 8)
  eighths_count n [] h = (omega arith, omega arith)
  eighths_count zero (c ∷ cells) h = let rest = eighths_count 7 cells (omega arith) in let a = rest.0 in let b = rest.1 in (omega arith, omega arith)
  eighths_count (suc n) (c ∷ cells) h = let rest = eighths_count n cells (omega arith) in let a = rest.0 in let b = rest.1 in (omega arith, omega arith)

  -- the sample of a run has as many keys as there are whole eights in its length
  pub sample_length : (run : List (Cell K V)) → length (sample run) ≡ length run / 8
  sample_length run = let h = eighths_count 7 run (omega arith) in let a = h.0 in let b = h.1 in omega arith

  eighth_at : (n i : ℕ) (cells : List (Cell K V)) → slice_get (every_eighth n cells) i ≡ option_map key_of (slice_get cells (8 * i + n))
  eighth_at n i [] = refl
  eighth_at zero zero (c ∷ cells) = refl
  eighth_at zero (suc i) (c ∷ cells) = let e : suc (8 * i + 7) ≡ 8 * suc i + 0 = omega arith in eighth_at 7 i cells ∙ ap (λ m. option_map key_of (slice_get (c ∷ cells) m)) e
  eighth_at (suc n) i (c ∷ cells) = let e : suc (8 * i + n) ≡ 8 * i + suc n = omega arith in eighth_at n i cells ∙ ap (λ m. option_map key_of (slice_get (c ∷ cells) m)) e

  -- the i-th key of a sample is that of the cell at 8 i + 7
  pub sample_at : (i : ℕ) (run : List (Cell K V)) → slice_get (sample run) i ≡ option_map key_of (slice_get run (8 * i + 7))
  sample_at i run = eighth_at 7 i run
