-- What a store leaves on a device is what a load takes from it.
use Rattle.std.proofs.Common.{◌≡◌, ℕ, ◌+◌, ◌-◌, ◌*◌, ◌<◌, ◌≤◌, List, ◌++◌, length, take, drop, get_or, Option, None, sym, ap, ◌∙◌, arith}
use Rattle.std.proofs.lemmas.List.{drop-drop, drop_at, take_at, drop_more, take-append-drop, length-take-le}
use Rattle.cola_cell.specs.declared.format.Format.{Format}
use Rattle.cola_cell.specs.declared.format.Format.TheVariants.{One, Two}
use Rattle.cola_cell.specs.declared.cell.Cell.{Cell}
use Rattle.cola_cell.specs.Format.{width}
use Rattle.cola_cell.specs.Decoded.{decoded}
use Rattle.cola_front.specs.Front.{FrontCells, IsFront, ComesBack, cell_at, cell_bytes, stored, stored_all, image}
use Rattle.cola_front.proofs.FrontLemmas.{stored_many, stored_all_many, stored_all_append, back_taken}

-- a place behind the header stands behind its bytes
behind_header : (format : Format) (place : ℕ) → 8 ≤ place → 512 ≤ width format * place
behind_header One place behind = omega (arith, behind)
behind_header Two place behind = omega (arith, behind)

-- the bytes of a place among all
cell_stored : (format : Format) (cells : List (Option Cell)) (n : ℕ) → ((place : ℕ) → ComesBack format (get_or cells place None)) → n < length cells
    → cell_bytes format (stored_all format cells) n ≡ stored format (get_or cells n None)
cell_stored format cells n back within =
    let done : List ℕ = stored_all format (take n cells) in
    let cell : List ℕ = stored format (get_or cells n None) in
    let rest : List ℕ = stored_all format (drop (n + 1) cells) in
    let many : length done ≡ width format * n =
    stored_all_many format (take n cells) (back_taken format cells n back) ∙ ap (λ (k : ℕ). width format * k) (length-take-le n cells (omega (arith, within))) in
    let split : stored_all format cells ≡ done ++ (cell ++ rest) =
    ap (stored_all format) (sym (take-append-drop n cells))
    ∙ (stored_all_append format (take n cells) (drop n cells)
    ∙ ap (λ (xs : List (Option Cell)). done ++ stored_all format xs) (drop_more cells n None within)) in
    ap (λ (xs : List ℕ). cell_bytes format xs n) split
    ∙ (ap (λ (xs : List ℕ). take (width format) xs) (drop_at done (cell ++ rest) (width format * n) many)
    ∙ take_at cell rest (width format) (stored_many format (get_or cells n None) (back n)))

-- behind the header an image has the bytes of the places
image_from : (front : FrontCells) (header : List ℕ) (at : ℕ) → length header ≡ 512 → 512 ≤ at → drop at (image front header) ≡ drop at (stored_all front.format front.cells)
image_from front header at head behind =
    let bytes : List ℕ = stored_all front.format front.cells in
    let up : 512 + (at - 512) ≡ at = omega (arith, behind) in
    sym (drop-drop (at - 512) 512 (image front header) ∙ ap (λ (n : ℕ). drop n (image front header)) up)
    ∙ (ap (drop (at - 512)) (drop_at header (drop 512 bytes) 512 head)
    ∙ (drop-drop (at - 512) 512 bytes ∙ ap (λ (n : ℕ). drop n bytes) up))

pub image_cell : (front : FrontCells) (header : List ℕ) (place : ℕ) → IsFront front → length header ≡ 512 → 8 ≤ place → place < 2 * front.block
    → decoded front.format (cell_bytes front.format (image front header) place) ≡ cell_at front place
image_cell front header place is head behind within =
    ap (λ (xs : List ℕ). decoded front.format (take (width front.format) xs)) (image_from front header (width front.format * place) head (behind_header front.format place behind))
    ∙ (ap (decoded front.format) (cell_stored front.format front.cells place is.comes_back (let many = is.many in omega (arith, many, within)))
    ∙ is.comes_back place)
