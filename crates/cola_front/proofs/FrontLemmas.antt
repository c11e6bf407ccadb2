-- The bytes of places: how many they are, and how a block is filled with them.
use Rattle.std.proofs.Common.{◌≡◌, ℕ, suc, ◌+◌, ◌-◌, ◌*◌, ◌<◌, ◌≤◌, List, [], ◌∷◌, ◌++◌, length, take, drop, get_or, Option, None, Some, Bool, true, false, refl, sym, ap, subst, ◌∙◌, inl, inr, arith, append-nil, append_assoc, length-append}
use Rattle.std.proofs.lemmas.List.{length-replicate, take_at, drop_at, drop-drop, get_or-take, get_or-drop, get_or_past, length-take}
use Rattle.std.proofs.lemmas.Bool.{cases_lt}
use Rattle.cola_cell.specs.declared.format.Format.{Format}
use Rattle.cola_cell.specs.declared.format.Format.TheVariants.{One, Two}
use Rattle.cola_cell.specs.declared.cell.Cell.{Cell}
use Rattle.cola_cell.specs.Format.{width}
use Rattle.std.specs.Prelude.{if◌then◌else◌, is_some}
use Rattle.std.specs.Bool.{MatchBool}
use Rattle.cola_cell.specs.Spelling.{IsSpelling, IsNoSpelling}
use Rattle.cola_cell.specs.Decoded.{decoded, standing, spelling}
use Rattle.cola_cell.proofs.Unique as unique
use Rattle.cola_cell.proofs.DecodedLemmas.{spelled-so, decoded_spells, decoded_is, decoding_is}
use Rattle.cola_device.specs.Bytes.{splice}
use Rattle.cola_front.specs.Front.{cell_bytes, stored, stored_all, ComesBack}
use borrow.Rule.Slice.PartMut.{put_mid}

-- what was written to a part of a slice
pub put_is_splice : (bytes : List ℕ) (at count : ℕ) (now new : List ℕ) → now ≡ new → length new ≡ count → put_mid at (at + count - at) bytes now ≡ splice bytes at new
put_is_splice bytes at count now new is long =
    let k : at + count - at ≡ length new = omega (arith, long) in
    ap (λ (n : ℕ). put_mid at n bytes now) k ∙ ap (λ (xs : List ℕ). take at bytes ++ (xs ++ drop (length new) (drop at bytes))) is

-- the bytes of a cell are its spelling
pub spelling_is : (format : Format) (cell : Cell) (bytes : List ℕ) → IsSpelling format cell bytes → bytes ≡ spelling format cell
spelling_is format cell bytes s = unique.one-spelling format cell bytes (spelling format cell) s (spelled-so format cell s.fits s.some_key s.small_link)

-- a cell that comes back has a spelling
pub spelled_back : (format : Format) (cell : Cell) → ComesBack format (Some cell) → IsSpelling format cell (spelling format cell)
spelled_back format cell back = decoded_spells format (spelling format cell) cell back

-- a cell with a spelling comes back
pub comes_back : (format : Format) (cell : Cell) (bytes : List ℕ) → IsSpelling format cell bytes → ComesBack format (Some cell)
comes_back format cell bytes s = decoded_is format cell (spelling format cell) (spelled-so format cell s.fits s.some_key s.small_link)

-- what bytes spell comes back, and so do zeros
pub none_back : (format : Format) → ComesBack format None
none_back One = refl
none_back Two = refl

decoded_back-of : (format : Format) (bytes : List ℕ) (cell : Option Cell) → decoded format bytes ≡ cell → ComesBack format cell
decoded_back-of format bytes None is = none_back format
decoded_back-of format bytes (Some cell) is = comes_back format cell bytes (decoded_spells format bytes cell is)

pub decoded_back : (format : Format) (bytes : List ℕ) → ComesBack format (decoded format bytes)
decoded_back format bytes = decoded_back-of format bytes (decoded format bytes) refl

-- a place has as many bytes as the format says
pub stored_many : (format : Format) (cell : Option Cell) → ComesBack format cell → length (stored format cell) ≡ width format
stored_many format None back = length-replicate (width format) 0
stored_many format (Some cell) back = let s = spelled_back format cell back in s.size

-- products by the width of a cell
pub width_more : (format : Format) (n : ℕ) → width format + width format * n ≡ width format * (suc n)
width_more One n = omega arith
width_more Two n = omega arith

pub width_none : (format : Format) → 0 ≡ width format * 0
width_none One = refl
width_none Two = refl

pub width_sum : (format : Format) (m n : ℕ) → width format * m + width format * n ≡ width format * (m + n)
width_sum One m n = omega arith
width_sum Two m n = omega arith

pub room_left : (format : Format) (place count : ℕ) → place < count → width format * place + width format ≤ width format * count
room_left One place count below = omega (arith, below)
room_left Two place count below = omega (arith, below)

pub width_next : (format : Format) (place : ℕ) → width format * place + width format ≡ width format * (place + 1)
width_next One place = omega arith
width_next Two place = omega arith

-- so have all of them together
pub stored_all_many : (format : Format) (cells : List (Option Cell)) → ((place : ℕ) → ComesBack format (get_or cells place None)) → length (stored_all format cells) ≡ width format * length cells
stored_all_many format [] back = width_none format
stored_all_many format (cell ∷ cells) back =
    length-append (stored format cell) (stored_all format cells)
    ∙ (ap (λ (n : ℕ). n + length (stored_all format cells)) (stored_many format cell (back 0))
    ∙ (ap (λ (n : ℕ). width format + n) (stored_all_many format cells (λ place. back (suc place)))
    ∙ width_more format (length cells)))

pub stored_all_append : (format : Format) (first second : List (Option Cell)) → stored_all format (first ++ second) ≡ stored_all format first ++ stored_all format second
stored_all_append format [] second = refl
stored_all_append format (cell ∷ first) second =
    ap (λ (bytes : List ℕ). stored format cell ++ bytes) (stored_all_append format first second)
    ∙ sym (append_assoc (stored format cell) (stored_all format first) (stored_all format second))

pub stored_all_push : (format : Format) (first : List (Option Cell)) (cell : Option Cell) → stored_all format (first ++ cell ∷ []) ≡ stored_all format first ++ stored format cell
stored_all_push format first cell =
    stored_all_append format first (cell ∷ []) ∙ ap (λ (bytes : List ℕ). stored_all format first ++ bytes) (append-nil (stored format cell))

-- what comes back from places comes back from some of them
pub back_dropped : (format : Format) (cells : List (Option Cell)) (first : ℕ) → ((place : ℕ) → ComesBack format (get_or cells place None))
    → (place : ℕ) → ComesBack format (get_or (drop first cells) place None)
back_dropped format cells first back place = subst (ComesBack format) (sym (get_or-drop first cells place None)) (back (first + place))

pub back_taken : (format : Format) (cells : List (Option Cell)) (count : ℕ) → ((place : ℕ) → ComesBack format (get_or cells place None))
    → (place : ℕ) → ComesBack format (get_or (take count cells) place None)
back_taken format cells count back place = elim (cases_lt place count) [
  | inl below ↦ subst (ComesBack format) (sym (get_or-take count cells place None below)) (back place)
  | inr above ↦ subst (ComesBack format) (sym (get_or_past (take count cells) place None (let long = length-take count cells in omega (arith, long, above)))) (none_back format)
]

-- a place is put behind those before it
pub put_behind : (done new old : List ℕ) (at wide : ℕ) → length done ≡ at → length new ≡ wide → splice (done ++ drop at old) at new ≡ (done ++ new) ++ drop (at + wide) old
put_behind done new old at wide long whole =
    let rest : List ℕ = drop at old in
    ap (λ (xs : List ℕ). xs ++ (new ++ drop (length new) (drop at (done ++ rest)))) (take_at done rest at long)
    ∙ (ap (λ (xs : List ℕ). done ++ (new ++ drop (length new) xs)) (drop_at done rest at long)
    ∙ (ap (λ (xs : List ℕ). done ++ (new ++ xs)) (drop-drop (length new) at old ∙ ap (λ (n : ℕ). drop (at + n) old) whole)
    ∙ sym (append_assoc done new (drop (at + wide) old))))

-- the bytes of a place, where code found them
pub narrow-place : (format : Format) (block : List ℕ) (place : ℕ) → format ≡ One → take (64 * place + 64 - 64 * place) (drop (64 * place) block) ≡ cell_bytes format block place
narrow-place One block place is = let e : 64 * place + 64 - 64 * place ≡ 64 = omega arith in ap (λ (n : ℕ). take n (drop (64 * place) block)) e
narrow-place Two block place is = absurd cc

pub wide-place : (format : Format) (block : List ℕ) (place : ℕ) → format ≡ Two → take (128 * place + 128 - 128 * place) (drop (128 * place) block) ≡ cell_bytes format block place
wide-place One block place is = absurd cc
wide-place Two block place is = let e : 128 * place + 128 - 128 * place ≡ 128 = omega arith in ap (λ (n : ℕ). take n (drop (128 * place) block)) e

-- what a packed cell has that bytes were taken into
pub refilled : (format : Format) (bytes : List ℕ) (took : Bool) (cell : Cell) → MatchBool took (IsSpelling format cell bytes) (IsNoSpelling format bytes)
    → (if took then Some cell else None) ≡ decoded format bytes
refilled format bytes true cell h = decoding_is format bytes (Some cell) h
refilled format bytes false cell h = decoding_is format bytes None h

-- whether bytes spell a cell
pub tested : (format : Format) (bytes : List ℕ) (test : Bool) → MatchBool test (IsSpelling format (standing format bytes) bytes) (IsNoSpelling format bytes) → test ≡ is_some (decoded format bytes)
tested format bytes true h = ap is_some (sym (decoded_is format (standing format bytes) bytes h))
tested format bytes false h = ap is_some (decoding_is format bytes None h)
