-- The parity of a level's period, by what the clock answers of it.
use Rattle.std.proofs.Common.{◌≡◌, ℕ, suc, ◌-◌, ◌≤◌, ◌<◌, Bool, true, false, not, cond, if◌then◌else◌, ◌==◌, refl, ap, sym, ◌∙◌, arith}
use Rattle.std.proofs.lemmas.Bool.{ne_eqb}
use Rattle.cola_clock.specs.Clock.{period, is_odd, visible_slot}
use Rattle.cola_clock.specs.Marks.{Marks}
use Rattle.cola_clock.specs.Schedule.{part_at, below_at}
use Rattle.cola_clock.specs.declared.state.Below.TheVariants.{Visible, Shadow, Nothing}
use Rattle.cola_clock.specs.declared.state.Part.{Part}
use Rattle.cola_clock.specs.declared.state.Part.TheVariants.{All, Young}
use Rattle.cola_clock.proofs.Laws.{is_over-suc}
use Rattle.cola_clock.proofs.Sampled.{sampled-over, sampled-not_over, sampled-bottom}
use Rattle.cola_clock.proofs.Wrap.{slot-of_parity}
use Rattle.cola_cell.specs.declared.cell.Run.{Run}
use Rattle.cola_merge.specs.Feeds.{takes_young}
use Rattle.cola_level.specs.Aims.{sampled_run}

abbrev run_in : (odd : Bool) (level p q m n : ℕ) → Run
run_in odd level p q m n = record { level = level; slot = (if odd then p else q); len = cond odd m n }

odd_run : (odd : Bool) (level p q m n : ℕ) → odd ≡ true → run_in odd level p q m n ≡ record { level = level; slot = p; len = m }
odd_run true level p q m n e = refl
odd_run false level p q m n e = cc

even_run : (odd : Bool) (level p q m n : ℕ) → odd ≡ false → run_in odd level p q m n ≡ record { level = level; slot = q; len = n }
even_run true level p q m n e = cc
even_run false level p q m n e = refl

pub sampled_visible : (t j bottom : ℕ) (next : Marks) → below_at t j bottom ≡ Visible → sampled_run t j next ≡ record { level = suc j; slot = visible_slot t (suc j); len = next.visible }
sampled_visible t j bottom next e =
    even_run (is_odd (period t j)) (suc j) (1 - visible_slot t (suc j)) (visible_slot t (suc j)) next.shadow next.visible (sym (is_over-suc t j) ∙ sampled-not_over t j bottom e)

pub sampled_shadow : (t j bottom : ℕ) (next : Marks) → below_at t j bottom ≡ Shadow → sampled_run t j next ≡ record { level = suc j; slot = 1 - visible_slot t (suc j); len = next.shadow }
sampled_shadow t j bottom next e =
    odd_run (is_odd (period t j)) (suc j) (1 - visible_slot t (suc j)) (visible_slot t (suc j)) next.shadow next.visible (sym (is_over-suc t j) ∙ sampled-over t j bottom e)

-- something is sampled above the bottom
pub never_nothing : (t j bottom : ℕ) → j < bottom → below_at t j bottom ≡ Nothing → ⊥
never_nothing t j bottom h e = let f : j ≡ bottom = sampled-bottom t j bottom e in omega (arith, h, f)

-- ---- the part

chosen_part : (lowest odd : Bool) → lowest ≡ false → (if lowest then All else (if odd then Young else All)) ≡ (if odd then Young else All)
chosen_part true odd e = cc
chosen_part false odd e = refl

pub upper_part : (t j bottom : ℕ) → j < bottom → part_at t j bottom ≡ (if is_odd (period t j) then Young else All)
unfolding part_at
upper_part t j bottom h = chosen_part (j == bottom) (is_odd (period t j)) (ne_eqb j bottom (λ e. omega (arith, h, e)))

even_part : (odd : Bool) → not (takes_young (if odd then Young else All)) ≡ not odd
even_part true = refl
even_part false = refl

-- all items are taken in even periods alone
pub upper_young : (t j bottom : ℕ) → j < bottom → not (takes_young (part_at t j bottom)) ≡ not (is_odd (period t j))
upper_young t j bottom h = ap (λ (part : Part). not (takes_young part)) (upper_part t j bottom h) ∙ even_part (is_odd (period t j))

-- ---- the slots

bit : (b : Bool) → cond b 1 0 ≤ 1
bit true = omega arith
bit false = omega arith

pub slot_small : (t j : ℕ) → visible_slot t j ≤ 1
slot_small t j = let e = slot-of_parity t j in let h = bit (is_odd (period t j)) in omega (arith, e, h)
