-- What the answer of a test, and of a comparison, decides.
use Rattle.std.proofs.Common.{◌≡◌, ◌↔◌, Bool, true, false, refl, sym, ◌∙◌, Less, Equal, Greater, Ordering, is_lt}
use Rattle.std.specs.Bool.{IsTrue}

pub not_less : (r : Ordering) → is_lt r ≡ false → r ≡ Less → ⊥
not_less Less e f = cc
not_less Equal e f = cc
not_less Greater e f = cc

pub is_less : (r : Ordering) → is_lt r ≡ true → r ≡ Less
is_less Less e = refl
is_less Equal e = cc
is_less Greater e = cc

not_true : IsTrue false → ⊥
not_true h = cc

pub refuses : {W : Type 0} → (W → ⊥) → (IsTrue false ↔ W)
refuses f = (λ h. absurd (not_true h), λ w. absurd (f w))

pub accepts : {W : Type 0} → W → (IsTrue true ↔ W)
accepts w = (λ h. w, λ v. refl)

pub false_is : (b : Bool) → b ≡ false → IsTrue b → ⊥
false_is b e h = let f : false ≡ true = sym e ∙ h in cc
