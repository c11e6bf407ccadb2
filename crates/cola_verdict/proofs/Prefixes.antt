-- A prefix of a run in order is in order; so a run that ends its order is not, and it ends it at one cell alone.
use Rattle.std.proofs.Common.{◌≡◌, ℕ, zero, suc, ◌≤◌, List, [], ◌∷◌, length, take, refl, sym, ap, subst, arith}
use Rattle.std.specs.declared.cmp.Ordering.TheVariants.{Less}
use Rattle.std.specs.List.{AllByRecursion}
use Rattle.std.specs.List.Sorted.{IsStrictlySortedBy}
use Rattle.cola_cell.specs.Held.{LawCell}
use Rattle.cola_cell.specs.Order.{key_cmp}
use Rattle.cola_runs.specs.Cells.{Entry, Look, place_cmp, IsRising, IsLinked}
use Rattle.cola_verdict.specs.Tests.{IsInOrder, EndsOrder}
use Rattle.cola_verdict.proofs.Numbers.{only-one}

take-all : (P : LawCell → Type 0) (n : ℕ) (cells : List LawCell) → AllByRecursion P cells → AllByRecursion P (take n cells)
take-all P zero cells h = tt
take-all P (suc n) [] h = tt
take-all P (suc n) (c ∷ cells) h = (h.0, take-all P n cells h.1)

take-rising : (n : ℕ) (cells : List LawCell) → IsRising key_cmp cells → IsRising key_cmp (take n cells)
unfolding IsStrictlySortedBy
take-rising zero cells h = tt
take-rising (suc n) [] h = tt
take-rising (suc n) (c ∷ cells) h = (take-all (λ d. place_cmp key_cmp c d ≡ Less) n cells h.0, take-rising n cells h.1)

take-linked : (n k : ℕ) (cells : List LawCell) → IsLinked k cells → IsLinked k (take n cells)
take-linked zero k cells h = tt
take-linked (suc n) k [] h = tt
take-linked (suc n) k (Entry q i y l ∷ cells) h = (h.0, take-linked n k cells h.1)
take-linked (suc n) k (Look q l ∷ cells) h = (h.0, take-linked n (suc k) cells h.1)

take-take : (n m : ℕ) (cells : List LawCell) → n ≤ m → take n (take m cells) ≡ take n cells
take-take zero m cells h = refl
take-take (suc n) zero cells h = absurd (omega (arith, h))
take-take (suc n) (suc m) [] h = refl
take-take (suc n) (suc m) (c ∷ cells) h = ap (λ (run : List LawCell). c ∷ run) (take-take n m cells (omega (arith, h)))

shorter-in-order : (n m : ℕ) (cells : List LawCell) → n ≤ m → IsInOrder (take m cells) → IsInOrder (take n cells)
shorter-in-order n m cells h order =
    subst (λ (run : List LawCell). IsInOrder run) (take-take n m cells h)
    (record { rising = take-rising n (take m cells) order.rising; linked = take-linked n 0 (take m cells) order.linked })

take-length : (cells : List LawCell) (n : ℕ) → length cells ≤ n → take n cells ≡ cells
take-length [] zero h = refl
take-length [] (suc n) h = refl
take-length (c ∷ cells) zero h = absurd (omega (arith, h))
take-length (c ∷ cells) (suc n) h = ap (λ (run : List LawCell). c ∷ run) (take-length cells n (omega (arith, h)))

pub no-order : (run : List LawCell) (index : ℕ) → EndsOrder run index → IsInOrder run → ⊥
no-order run index ends order =
    ends.broken (shorter-in-order (suc index) (length run) run (let w = ends.within in omega (arith, w)) (subst (λ (cells : List LawCell). IsInOrder cells) (sym (take-length run (length run) (omega arith))) order))

pub one-end : (run : List LawCell) (i k : ℕ) → EndsOrder run i → EndsOrder run k → i ≡ k
one-end run i k a b =
    only-one i k (λ l. a.broken (shorter-in-order (suc i) k run (omega (arith, l)) b.before)) (λ l. b.broken (shorter-in-order (suc k) i run (omega (arith, l)) a.before))
