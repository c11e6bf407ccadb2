-- The cells that a file's bytes spell, one after the other.
use Rattle.std.proofs.Common.{◌≡◌, inl, inr, ℕ, suc, ◌+◌, ◌-◌, ◌*◌, ◌/◌, ◌<◌, ◌≤◌, min, List, [], ◌∷◌, ◌++◌, length, take, drop, map, get_or, Option, Some, None, refl, sym, ap, subst, ◌∙◌, arith, length-append}
use Rattle.std.proofs.lemmas.Bool.{cases_lt}
use Rattle.std.proofs.lemmas.List.{length-take, length-drop, get_or_append_left}
use Rattle.std.proofs.Math.Seq.{get_or-append_seam}
use Rattle.cola_cell.specs.declared.cell.Cell.{Cell}
use Rattle.cola_cell.specs.declared.format.Format.{Format}
use Rattle.cola_cell.specs.declared.format.Format.TheVariants.{One, Two}
use Rattle.cola_cell.specs.Decoded.{decoded}
use Rattle.cola_cell.specs.Flat.{spot_of}
use Rattle.cola_cell.specs.Format.{width}
use Rattle.cola_cell.specs.Held.{LawCell, Spot}
use Rattle.cola_cell.proofs.DecodedLemmas.{decoded_spells}
use Rattle.cola_cell.specs.ToldCells.{cell_at, cells}
use Rattle.cola_layout.specs.Cells.{cell_bytes, law_cell_of}

-- the bytes of the cell with this number, where a cell has so many
abbrev cell_bytes-of : ℕ → List ℕ → ℕ → List ℕ
cell_bytes-of w bytes number = take w (drop (w * number) bytes)

-- a cell has a byte at least
width-some : (format : Format) → 0 < width format
width-some One = omega arith
width-some Two = omega arith

-- bytes that are fewer than a cell's spell none
short-none-of : (format : Format) (bytes : List ℕ) (found : Option Cell) → decoded format bytes ≡ found → length bytes < width format → found ≡ None
short-none-of format bytes None is short = refl
short-none-of format bytes (Some cell) is short = let s = decoded_spells format bytes cell is in absurd (omega (arith, short, s.size))

pub short-none : (format : Format) (bytes : List ℕ) → length bytes < width format → decoded format bytes ≡ None
short-none format bytes short = short-none-of format bytes (decoded format bytes) refl short

-- bytes that end before a cell's end spell none there
pub past-none : (format : Format) (bytes : List ℕ) (number : ℕ) → length bytes < width format * number + width format → decoded format (cell_bytes format bytes number) ≡ None
past-none format bytes number short =
    short-none format (cell_bytes format bytes number)
    (let taken : length (cell_bytes format bytes number) ≡ min (width format) (length (drop (width format * number) bytes)) = length-take (width format) (drop (width format * number) bytes) in
    let rest : length (drop (width format * number) bytes) ≡ length bytes - width format * number = length-drop (width format * number) bytes in
    omega (arith, short, taken, rest, width-some format))

-- a number past the last whole cell is one of a cell that the bytes end before
past-end : (format : Format) (long number : ℕ) → long / width format ≤ number → long < width format * number + width format
past-end One long number h = omega (arith, h)
past-end Two long number h = omega (arith, h)

pub beyond-none : (format : Format) (w : ℕ) (bytes : List ℕ) (number : ℕ) → w ≡ width format → length bytes / w ≤ number → decoded format (cell_bytes format bytes number) ≡ None
beyond-none format w bytes number is h = past-none format bytes number (past-end format (length bytes) number (subst (λ (k : ℕ). length bytes / k ≤ number) is h))

-- the bytes between a cell's begin and its end
pub cell-between : (format : Format) (w : ℕ) (bytes : List ℕ) (number : ℕ) → w ≡ width format → take (w * number + w - w * number) (drop (w * number) bytes) ≡ cell_bytes format bytes number
cell-between format w bytes number is =
    (let long : w * number + w - w * number ≡ w = omega arith in ap (λ (k : ℕ). take k (drop (w * number) bytes)) long)
    ∙ ap (λ (k : ℕ). cell_bytes-of k bytes number) is

-- the cells so far, and one more
pub record AreSpelled (format : Format) (bytes : List ℕ) (number : ℕ → ℕ) (n : ℕ) (found : List (Option Cell)) : Type 0 where
  pub many : length found ≡ n
  pub each : (k : ℕ) → k < n → get_or found k None ≡ decoded format (cell_bytes format bytes (number k))

pub spelled-more : (format : Format) (bytes : List ℕ) (number : ℕ → ℕ) (n : ℕ) (found : List (Option Cell)) (next : Option Cell) → AreSpelled format bytes number n found →
    next ≡ decoded format (cell_bytes format bytes (number n)) → AreSpelled format bytes number (n + 1) (found ++ next ∷ [])
spelled-more format bytes number n found next so is = record {
  many = length-append found (next ∷ []) ∙ (let m : length found ≡ n = so.many in omega arith);
  each = λ k h. elim (cases_lt k n) [
    | inl before ↦ get_or_append_left found (next ∷ []) None k (omega (arith, before, so.many)) ∙ so.each k before
    | inr last ↦
        let here : k ≡ length found = omega (arith, last, h, so.many) in
        let there : length found ≡ n = so.many in
        ap (λ (i : ℕ). get_or (found ++ next ∷ []) i None) here ∙ get_or-append_seam found next [] None ∙ is
        ∙ ap (λ (i : ℕ). decoded format (cell_bytes format bytes (number i))) (sym there ∙ sym here)
  ];
}

-- the list of cells, where each is told
pub listed : (found : List (Option Cell)) (spots : ℕ → Spot) (i : ℕ) → ((k : ℕ) → k < length found → spot_of (get_or found k None) ≡ spots (i + k)) →
    map law_cell_of found ≡ cells spots i (length found)
listed [] spots i told = refl
listed (cell ∷ found) spots i told =
    ap (λ (s : Spot). cell_at s ∷ map law_cell_of found) (told 0 (omega arith) ∙ ap spots (let e : i + 0 ≡ i = omega arith in e))
    ∙ ap (λ (rest : List LawCell). cell_at (spots i) ∷ rest) (listed found spots (suc i) (λ k h. told (suc k) (omega (arith, h)) ∙ ap spots (let e : i + suc k ≡ suc i + k = omega arith in e)))
