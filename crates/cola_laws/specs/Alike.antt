-- What soundness reads of a chain: two chains that agree in it are sound together.
use Rattle.std.specs.Prelude.{◌≡◌, ℕ, suc, true, List, [], ◌∷◌, ⊤}
use Rattle.cola_clock.specs.Clock.{period, is_odd, is_over}
use Rattle.cola_laws.specs.Chain.{Level}

module _ {K V : Type 0} where
  -- level j of two chains at two clocks: in periods of one parity, with one visible run, both with their window over or
  -- neither, and where it is over with one shadow
  pub record IsAlike (t u j : ℕ) (l m : Level K V) : Type 0 where
    pub parity : is_odd (period t j) ≡ is_odd (period u j)
    pub visible : l.visible ≡ m.visible
    pub over : is_over t j ≡ is_over u j
    pub shadow : is_over t j ≡ true → l.shadow ≡ m.shadow

  -- the same of level j and of all below it
  abbrev pub AreAlike : ℕ → ℕ → ℕ → List (Level K V) → List (Level K V) → Type 0
  AreAlike t u j [] [] = ⊤
  AreAlike t u j [] (m ∷ ms) = ⊥
  AreAlike t u j (l ∷ ls) [] = ⊥
  AreAlike t u j (l ∷ ls) (m ∷ ms) = IsAlike t u j l m × AreAlike t u (suc j) ls ms
