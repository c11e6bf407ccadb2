-- Lists of the cells of an object.
use Rattle.std.proofs.Common.{◌≡◌, ℕ, zero, suc, ◌+◌, ◌<◌, ◌≤◌, List, [], ◌∷◌, ◌++◌, length, Some, None, refl, ap, ◌∙◌, arith}
use Rattle.std.specs.List.{slice_get}
use Rattle.std.proofs.lemmas.Option.{slice_get_past}
use Rattle.cola_cell.specs.Held.{Spot, LawCell}
use Rattle.cola_cell.specs.Listed.{Stands}
use Rattle.cola_cell.specs.ToldCells.{cell_at, IsTold, cells}

pub length-cells : (spots : ℕ → Spot) (i n : ℕ) → length (cells spots i n) ≡ n
length-cells spots i zero = refl
length-cells spots i (suc n) = ap suc (length-cells spots (suc i) n)

pub get-cells : (spots : ℕ → Spot) (i n k : ℕ) → k < n → slice_get (cells spots i n) k ≡ Some (cell_at (spots (i + k)))
get-cells spots i zero k h = absurd (omega (arith, h))
get-cells spots i (suc n) zero h = ap (λ (j : ℕ). Some (cell_at (spots j))) (let e : i ≡ i + 0 = omega arith in e)
get-cells spots i (suc n) (suc k) h =
    get-cells spots (suc i) n k (omega (arith, h)) ∙ ap (λ (j : ℕ). Some (cell_at (spots j))) (let e : suc i + k ≡ i + suc k = omega arith in e)

pub past-cells : (spots : ℕ → Spot) (i n k : ℕ) → n ≤ k → slice_get (cells spots i n) k ≡ None
past-cells spots i n k h = slice_get_past (cells spots i n) k (let e : length (cells spots i n) ≡ n = length-cells spots i n in omega (arith, e, h))

pub cells-same : (f g : ℕ → Spot) (i n : ℕ) → ((k : ℕ) → k < i + n → f k ≡ g k) → cells f i n ≡ cells g i n
cells-same f g i zero h = refl
cells-same f g i (suc n) h =
    ap (λ (s : Spot). cell_at s ∷ cells f (suc i) n) (h i (omega arith))
    ∙ ap (λ (r : List LawCell). cell_at (g i) ∷ r) (cells-same f g (suc i) n (λ k l. h k (omega (arith, l))))

pub cells-more : (spots : ℕ → Spot) (i n : ℕ) → cells spots i (suc n) ≡ cells spots i n ++ cell_at (spots (i + n)) ∷ []
cells-more spots i zero = ap (λ (j : ℕ). cell_at (spots j) ∷ []) (let e : i ≡ i + 0 = omega arith in e)
cells-more spots i (suc n) =
    ap (λ (r : List LawCell). cell_at (spots i) ∷ r)
    (cells-more spots (suc i) n ∙ ap (λ (j : ℕ). cells spots (suc i) n ++ cell_at (spots j) ∷ []) (let e : suc i + n ≡ i + suc n = omega arith in e))

-- told cells stand one after another
pub told-stand : (spots : ℕ → Spot) (i n : ℕ) → ((k : ℕ) → k < i + n → IsTold (spots k)) → Stands spots i (cells spots i n)
told-stand spots i zero h = tt
told-stand spots i (suc n) h = (h i (omega arith), told-stand spots (suc i) n (λ k l. h k (omega (arith, l))))
