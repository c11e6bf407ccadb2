-- Two numbers of which neither is below the other are one.
use Rattle.std.proofs.Common.{◌≡◌, inl, inr, ℕ, ◌<◌}
use Rattle.std.proofs.lemmas.Bool.{cases_order}

pub only-one : (a b : ℕ) → (a < b → ⊥) → (b < a → ⊥) → a ≡ b
only-one a b not_below not_above =
    elim (cases_order a b) [
      | inl same ↦ same
      | inr apart ↦ elim apart [ inl below ↦ absurd (not_below below) | inr above ↦ absurd (not_above above) ]
    ]
