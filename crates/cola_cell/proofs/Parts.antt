-- A list from its parts.
use Rattle.std.proofs.Common.{◌≡◌, ℕ, suc, ◌+◌, ◌-◌, ◌<◌, ◌≤◌, List, ◌∷◌, ◌++◌, length, drop, slice_index, sym, ap, ◌∙◌, arith}
use Rattle.std.proofs.lemmas.List.{drop-drop, take-append-drop}
use Rattle.std.proofs.Math.Seq.{drop-cons}
use Rattle.cola_cell.specs.Spelling.{part}

-- what stands from a place on is the part there and what is behind it
pub from-place : (from to : ℕ) (xs : List ℕ) → from ≤ to → drop from xs ≡ part from to xs ++ drop to xs
from-place from to xs order =
    let is : from + (to - from) ≡ to = omega arith in
    sym (take-append-drop (to - from) (drop from xs))
    ∙ ap (λ (ys : List ℕ). part from to xs ++ ys) (drop-drop (to - from) from xs ∙ ap (λ (i : ℕ). drop i xs) is)

-- lists that agree on a part and on what is behind it agree from the part's place on
pub with-part : (from to : ℕ) (xs ys : List ℕ) → from ≤ to → part from to xs ≡ part from to ys → drop to xs ≡ drop to ys → drop from xs ≡ drop from ys
with-part from to xs ys order same behind =
    from-place from to xs order ∙ ap (λ (zs : List ℕ). zs ++ drop to xs) same
    ∙ ap (λ (zs : List ℕ). part from to ys ++ zs) behind ∙ sym (from-place from to ys order)

-- lists that agree at a place and on what is behind it agree from the place on
pub with-item : (i : ℕ) (xs ys : List ℕ) → i < length xs → i < length ys → slice_index xs i ≡ slice_index ys i → drop (suc i) xs ≡ drop (suc i) ys → drop i xs ≡ drop i ys
with-item i xs ys in_xs in_ys same behind =
    drop-cons xs i 0 in_xs ∙ ap (λ (x : ℕ). x ∷ drop (suc i) xs) same
    ∙ ap (λ (zs : List ℕ). slice_index ys i ∷ zs) behind ∙ sym (drop-cons ys i 0 in_ys)
