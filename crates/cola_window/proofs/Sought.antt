-- The cells of a window that a search looks at.
use Rattle.std.proofs.Common.{◌≡◌, ℕ, ◌+◌, ◌*◌, ◌≤◌, ◌<◌, inl, inr, nat_le, Bool, true, false, List, length, take, drop, ap, sym, subst, ◌∙◌, arith}
use Rattle.std.specs.declared.cmp.Ordering.TheVariants.{Less}
use Rattle.std.proofs.lemmas.Bool.{true≢false}
use Rattle.std.proofs.lemmas.Bool.Decides.{leb_tells}
use Rattle.std.proofs.lemmas.List.{drop-drop}
use Rattle.cola_cell.specs.declared.format.Format.{Format}
use Rattle.cola_cell.specs.Cell.{key_of}
use Rattle.cola_cell.specs.Format.{width}
use Rattle.cola_cell.specs.Decoded.{standing}
use Rattle.cola_cell.specs.Order.{key_cmp}
use Rattle.cola_window.specs.Windows.{Spells}
use Rattle.cola_window.specs.Seeking.{nth, HasCell, IsOrdered, AllBelow}
use Rattle.cola_window.proofs.Fronts.{long_front}
use Rattle.cola_window.proofs.Merging.{next_place}

module _ (f : Format) (window left : List ℕ) (n : ℕ) (e : left ≡ drop (n * width f) window) (b : Bool) (t : b ≡ nat_le (width f) (length left)) where
  pub has : b ≡ true → HasCell f window n
  has h = subst (λ (x : List ℕ). width f ≤ length x) e (long_front f left b t h)

  pub ended : b ≡ false → length (drop (n * width f) window) < width f
  ended h = subst (λ (x : List ℕ). length x < width f) e (elim (leb_tells (width f) (length left)) [
    | inl d ↦ absurd (true≢false (sym d.0 ∙ (sym t ∙ h)))
    | inr d ↦ d.1
  ])

pub nth_is : (f : Format) (window left cell : List ℕ) (n : ℕ) → left ≡ drop (n * width f) window → cell ≡ take (width f) left → cell ≡ nth f window n
nth_is f window left cell n e h = h ∙ ap (take (width f)) e

pub next_left : (f : Format) (window left next : List ℕ) (n w : ℕ) → left ≡ drop (n * width f) window → w ≡ width f → next ≡ drop w left → next ≡ drop ((n + 1) * width f) window
next_left f window left next n w e g h =
    h ∙ ap (λ (k : ℕ). drop k left) g ∙ ap (drop (width f)) e ∙ drop-drop (width f) (n * width f) window ∙ ap (λ (m : ℕ). drop m window) (sym (next_place n (width f)))

pub below_next : (f : Format) (key window cell : List ℕ) (n : ℕ) → AllBelow f key window n → HasCell f window n → cell ≡ nth f window n → Spells f cell → key_cmp (key_of (standing f cell)) key ≡ Less →
    AllBelow f key window (n + 1)
below_next f key window cell n below there e s o k l = elim (leb_tells (k + 1) n) [
  | inl d ↦ below k (let z : k < n = omega (arith, d.1) in z)
  | inr d ↦ subst (λ (x : ℕ). HasCell f window x × IsOrdered f key (nth f window x) Less) (let z : n ≡ k = omega (arith, d.1, l) in z)
      (there, subst (λ (x : List ℕ). IsOrdered f key x Less) e (record { spells = s; order_is = o }))
]
