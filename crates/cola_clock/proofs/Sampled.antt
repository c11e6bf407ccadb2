-- Which run below a level's next run is sampled from.
use Rattle.std.proofs.Common.{◌≡◌, ℕ, suc, Bool, true, false, cond, eqb, refl, ◌∙◌}
use Rattle.std.proofs.lemmas.Bool.{eqb-true, eq-eqb}
use Rattle.cola_clock.specs.Clock.{period, is_odd, is_over}
use Rattle.cola_clock.specs.Schedule.{below_at}
use Rattle.cola_clock.specs.declared.state.Below.TheVariants.{Visible, Shadow, Nothing}
use Rattle.cola_clock.proofs.Laws.{is_over-suc}

shadow_odd : (lowest odd : Bool) → cond lowest Nothing (cond odd Shadow Visible) ≡ Shadow → odd ≡ true
shadow_odd true odd h = cc
shadow_odd false true h = refl
shadow_odd false false h = cc

visible_even : (lowest odd : Bool) → cond lowest Nothing (cond odd Shadow Visible) ≡ Visible → odd ≡ false
visible_even true odd h = cc
visible_even false true h = cc
visible_even false false h = refl

nothing_lowest : (lowest odd : Bool) → cond lowest Nothing (cond odd Shadow Visible) ≡ Nothing → lowest ≡ true
nothing_lowest true odd h = refl
nothing_lowest false true h = cc
nothing_lowest false false h = cc

-- a shadow that is sampled is finished
pub sampled-over : (t j bottom : ℕ) → below_at t j bottom ≡ Shadow → is_over t (suc j) ≡ true
unfolding below_at
sampled-over t j bottom h = is_over-suc t j ∙ shadow_odd (eqb j bottom) (is_odd (period t j)) h

pub sampled-not_over : (t j bottom : ℕ) → below_at t j bottom ≡ Visible → is_over t (suc j) ≡ false
unfolding below_at
sampled-not_over t j bottom h = is_over-suc t j ∙ visible_even (eqb j bottom) (is_odd (period t j)) h

pub sampled-bottom : (t j bottom : ℕ) → below_at t j bottom ≡ Nothing → j ≡ bottom
unfolding below_at
sampled-bottom t j bottom h = eqb-true j bottom (nothing_lowest (eqb j bottom) (is_odd (period t j)) h)

pub bottom-samples : (t bottom : ℕ) → below_at t bottom bottom ≡ Nothing
unfolding below_at
bottom-samples t bottom = rw (eq-eqb bottom bottom refl) refl
