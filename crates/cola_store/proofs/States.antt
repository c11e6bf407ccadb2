-- The state byte of a file: what a file with another one tells, and what its first bytes spell.
use Rattle.std.proofs.Common.{◌≡◌, ◌∙◌, ℕ, ◌*◌, ◌<◌, ◌≤◌, Bool, true, false, cond, List, [], ◌∷◌, ◌++◌, length, take, drop, slice_index, refl, sym, ap, arith}
use Rattle.std.proofs.lemmas.List.{append_assoc, length-append, length-take-le, take_at, take-append-le, drop-append-le, take-append-drop}
use Rattle.std.proofs.lemmas.Slice.{drop-append-drop}
use Rattle.cola_cell.specs.declared.format.Format.{Format}
use Rattle.cola_cell.specs.declared.format.Format.TheVariants.{One, Two}
use Rattle.cola_cell.specs.Decoded.{spot_of_bytes}
use Rattle.cola_cell.specs.Format.{width}
use Rattle.cola_cell.specs.Places.{number_of}
use Rattle.cola_layout.specs.Header.{Fields, IsSpelling, IsNoSpelling, header_bytes, head_bytes}
use Rattle.cola_layout.proofs.Places.{place-behind}
use Rattle.cola_layout.proofs.Refusing.{no-state}
use Rattle.cola_layout.specs.Cells.{cell_bytes, file_spots}
use Rattle.cola_image.specs.Standing.{with_state}

-- ---- the cells

apart : (state : ℕ) (bytes : List ℕ) → with_state state bytes ≡ (take 14 bytes ++ state ∷ []) ++ drop 15 bytes
apart state bytes = sym (append_assoc (take 14 bytes) (state ∷ []) (drop 15 bytes))

front-long : (state : ℕ) (bytes : List ℕ) → 15 ≤ length bytes → length (take 14 bytes ++ state ∷ []) ≡ 15
front-long state bytes long =
    let n : length (take 14 bytes) ≡ 14 = length-take-le 14 bytes (omega arith) in
    length-append (take 14 bytes) (state ∷ []) ∙ omega (arith, n)

-- the bytes behind the state byte stay
pub behind : (state k : ℕ) (bytes : List ℕ) → 15 ≤ length bytes → 15 ≤ k → drop k (with_state state bytes) ≡ drop k bytes
behind state k bytes long far =
    ap (drop k) (apart state bytes) ∙ drop-append-drop 15 bytes (take 14 bytes ++ state ∷ []) k far (front-long state bytes long)

cell-far : (format : Format) (n : ℕ) → 8 ≤ n → 15 ≤ width format * n
cell-far One n h = omega arith
cell-far Two n h = omega arith

cell-stays : (format : Format) (state n : ℕ) (bytes : List ℕ) → 15 ≤ length bytes → 8 ≤ n → cell_bytes format (with_state state bytes) n ≡ cell_bytes format bytes n
cell-stays format state n bytes long h = ap (take (width format)) (behind state (width format * n) bytes long (cell-far format n h))

-- and so does every cell
pub spots-stay : (format : Format) (state : ℕ) (bytes : List ℕ) → 15 ≤ length bytes → (level slot index : ℕ) → file_spots format (with_state state bytes) level slot index ≡ file_spots format bytes level slot index
spots-stay format state bytes long level slot index =
    ap (spot_of_bytes format) (cell-stays format state (number_of level slot index) bytes long (place-behind level slot index))

-- ---- the length and the header

pub state-long : (state : ℕ) (bytes : List ℕ) → 15 ≤ length bytes → length (with_state state bytes) ≡ length bytes
state-long state bytes long =
    let whole : length (take 15 bytes ++ drop 15 bytes) ≡ length bytes = ap length (take-append-drop 15 bytes) in
    let few : length (take 15 bytes) ≡ 15 = length-take-le 15 bytes long in
    ap length (apart state bytes) ∙ length-append (take 14 bytes ++ state ∷ []) (drop 15 bytes) ∙ omega (arith, whole, few, front-long state bytes long, length-append (take 15 bytes) (drop 15 bytes))

state-append : (state : ℕ) (front rest : List ℕ) → 15 ≤ length front → with_state state (front ++ rest) ≡ with_state state front ++ rest
state-append state front rest long =
    ap (λ (xs : List ℕ). xs ++ (state ∷ drop 15 (front ++ rest))) (take-append-le 14 front rest (omega arith))
    ∙ ap (λ (xs : List ℕ). take 14 front ++ (state ∷ xs)) (drop-append-le 15 front rest long)
    ∙ sym (append_assoc (take 14 front) (state ∷ drop 15 front) rest)

-- the first bytes have the state byte too
pub state-first : (state : ℕ) (bytes : List ℕ) → 512 ≤ length bytes → take 512 (with_state state bytes) ≡ with_state state (take 512 bytes)
state-first state bytes long =
    let many : length (take 512 bytes) ≡ 512 = length-take-le 512 bytes long in
    ap (λ (xs : List ℕ). take 512 (with_state state xs)) (sym (take-append-drop 512 bytes))
    ∙ ap (take 512) (state-append state (take 512 bytes) (drop 512 bytes) (omega (arith, many)))
    ∙ take_at (with_state state (take 512 bytes)) (drop 512 bytes) 512 (state-long state (take 512 bytes) (omega (arith, many)) ∙ many)

-- the fields of a store in use
abbrev pub in_use : Fields → Fields
in_use f = record f { closed = false }

used-bytes : (f : Fields) → with_state 1 (header_bytes f) ≡ header_bytes (in_use f)
unfolding head_bytes
used-bytes f = refl

state-said : (state : ℕ) (f : Fields) → slice_index (with_state state (header_bytes f)) 14 ≡ state
unfolding head_bytes
state-said state f = refl

-- with the state byte 1 a spelling is that of a store in use
pub used-spelling : (f : Fields) (bytes : List ℕ) → IsSpelling f bytes → IsSpelling (in_use f) (with_state 1 bytes)
used-spelling f bytes s = record {
  text = ap (with_state 1) s.text ∙ used-bytes f;
  sound = record {
    keys_in_range = s.sound.keys_in_range;
    bottom_fits = s.sound.bottom_fits;
    block_fits = s.sound.block_fits;
    count_fits = s.sound.count_fits;
    clock_fits = s.sound.clock_fits;
    last_fits = s.sound.last_fits;
    one_each = s.sound.one_each;
    marks_fit = s.sound.marks_fit;
  };
}

two-states : (state : ℕ) (closed : Bool) → 1 < state → cond closed 0 1 ≡ state → ⊥
two-states state true h e = omega arith
two-states state false h e = omega arith

-- with another state byte it is none
pub no-spelling : (state : ℕ) (f : Fields) (bytes : List ℕ) → 1 < state → IsSpelling f bytes → IsNoSpelling (with_state state bytes)
no-spelling state f bytes h s =
    no-state (with_state state bytes) (λ closed e. two-states state closed h (e ∙ ap (λ (xs : List ℕ). slice_index (with_state state xs) 14) s.text ∙ state-said state f))
