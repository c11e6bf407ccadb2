-- The cell that bytes spell, as a function, is what decoding answers.
use Rattle.std.proofs.Common.{◌≡◌, ℕ, ◌<◌, ◌≤◌, ◌^◌, Bool, true, false, Decides, bytes_eq, leb, ltb, leb-true, le-leb, ◌&&◌, List, [], ◌∷◌, ◌++◌, append-nil, length, take, slice_index, replicate, Option, Some, None, refl, sym, ap, subst, ◌∙◌, arith}
use Rattle.std.specs.Prelude.{if◌then◌else◌}
use Rattle.std.proofs.lemmas.Bool.Decides.{Decides-and, Decides-ltb}
use Rattle.std.proofs.lemmas.Slice.Eq.{bytes_eq-Decides}
use Rattle.byteorder.specs.Endian.{little_bytes, little_number}
use Rattle.byteorder.specs.Numbers.{little_number-reads_back}
use Rattle.cola_cell.specs.declared.format.Format.{Format}
use Rattle.cola_cell.specs.declared.format.Format.TheVariants.{One, Two}
use Rattle.cola_cell.specs.declared.cell.Item.TheVariants.{Value, Tombstone}
use Rattle.cola_cell.specs.declared.cell.Cell.{Cell}
use Rattle.cola_cell.specs.declared.cell.Cell.TheVariants as cell
use Rattle.cola_cell.specs.Bytes.{padded}
use Rattle.cola_cell.specs.Cell.{key_of, link_of, kind_of, young_of, value_of, stamp_of}
use Rattle.cola_cell.specs.Format.{width, key_limit, value_limit, stamp_limit, CellFits}
use Rattle.cola_cell.specs.Flat.{spot_of}
use Rattle.cola_cell.specs.Held.{Told, Bad, is_untold, as_cell}
use Rattle.cola_cell.specs.Spelling.{part, key_at, value_at, stamp_bytes, IsSpelling, IsNoSpelling, Decodes}
use Rattle.cola_cell.proofs.Limits.{small-key, small-value, small-stamp, within-limits}
use Rattle.cola_cell.proofs.Padding.{padded-front}
use Rattle.cola_cell.proofs.Unique as unique
use Rattle.cola_cell.proofs.Writing.{spelled}
use Rattle.cola_cell.specs.Decoded.{cell_of, standing, standing_stamp, spelling, is_spellable, decoded, spot_of_bytes}

-- a cell is the one of its own kind and parts
of-its-parts : (cell : Cell) → cell_of (kind_of cell) (young_of cell) (key_of cell) (value_of cell) (stamp_of cell) (link_of cell) ≡ cell
of-its-parts (cell.Item key (Value value stamp) true link) = refl
of-its-parts (cell.Item key (Value value stamp) false link) = refl
of-its-parts (cell.Item key Tombstone true link) = refl
of-its-parts (cell.Item key Tombstone false link) = refl
of-its-parts (cell.Look key link) = refl

-- the cell of a kind and parts that are a cell's
of-parts : (kind young : ℕ) (key value : List ℕ) (stamp link : ℕ) (cell : Cell) → kind ≡ kind_of cell → young ≡ young_of cell → key ≡ key_of cell
    → value ≡ value_of cell → stamp ≡ stamp_of cell → link ≡ link_of cell → cell_of kind young key value stamp link ≡ cell
of-parts kind young key value stamp link cell is_kind is_young is_key is_value is_stamp is_link =
    rw (is_kind, is_young, is_key, is_value, is_stamp, is_link) (of-its-parts cell)

-- the number whose bytes stand in a part
number-there : (n x : ℕ) (bytes : List ℕ) → x < 256 ^ n → bytes ≡ little_bytes n x → little_number n bytes ≡ x
number-there n x bytes small is = ap (λ (xs : List ℕ). little_number n xs) (is ∙ sym (append-nil (little_bytes n x))) ∙ little_number-reads_back n x [] small

-- the list that stands in a padded part
list-there : (room n : ℕ) (list bytes : List ℕ) → n ≡ length list → bytes ≡ padded room list → take n bytes ≡ list
list-there room n list bytes long is =
    ap (λ (k : ℕ). take k bytes) long ∙ ap (λ (xs : List ℕ). take (length list) xs) is ∙ padded-front room list

-- the stamp of the cell that the bytes spell
pub stamp-there : (format : Format) (cell : Cell) (bytes : List ℕ) → IsSpelling format cell bytes → standing_stamp format bytes ≡ stamp_of cell
stamp-there One cell bytes s = let limit = small-stamp One cell s.fits in omega arith
stamp-there Two cell bytes s = let limit = small-stamp Two cell s.fits in number-there 8 (stamp_of cell) (part 8 16 bytes) (omega arith) s.stamp

-- the cell that the bytes spell stands in them
pub standing-is : (format : Format) (cell : Cell) (bytes : List ℕ) → IsSpelling format cell bytes → standing format bytes ≡ cell
standing-is format cell bytes s =
    of-parts (slice_index bytes 0) (slice_index bytes 1) (take (slice_index bytes 2) (part (key_at format) (value_at format) bytes))
    (take (slice_index bytes 3) (part (value_at format) (width format) bytes)) (standing_stamp format bytes) (little_number 4 (part 4 8 bytes)) cell
    s.kind s.young
    (list-there (key_limit format) (slice_index bytes 2) (key_of cell) (part (key_at format) (value_at format) bytes) s.key_length s.key)
    (list-there (value_limit format) (slice_index bytes 3) (value_of cell) (part (value_at format) (width format) bytes) s.value_length s.value)
    (stamp-there format cell bytes s)
    (number-there 4 (link_of cell) (part 4 8 bytes) (omega (arith, s.small_link)) s.link)

-- the test of an order
Decides-leb : (a b : ℕ) → Decides (leb a b) (a ≤ b)
Decides-leb a b = (leb-true a b, le-leb a b)

-- the format can spell the cell
record Spellable (format : Format) (cell : Cell) : Type 0 where
  some_key : 1 ≤ length (key_of cell)
  small_key : length (key_of cell) ≤ key_limit format
  small_value : length (value_of cell) ≤ value_limit format
  small_stamp : stamp_of cell ≤ stamp_limit format
  small_link : link_of cell < 2 ^ 32

-- five tests in a row
all-five : {A B C D E : Type 0} (a b c d e : Bool) → Decides a A → Decides b B → Decides c C → Decides d D → Decides e E
    → Decides (a && b && c && d && e) ((((A × B) × C) × D) × E)
all-five a b c d e is_a is_b is_c is_d is_e =
    Decides-and (a && b && c && d) e (Decides-and (a && b && c) d (Decides-and (a && b) c (Decides-and a b is_a is_b) is_c) is_d) is_e

-- the test is true exactly where it can
can-spell : (format : Format) (cell : Cell) → Decides (is_spellable format cell) (Spellable format cell)
can-spell format cell =
    let five = all-five (leb 1 (length (key_of cell))) (leb (length (key_of cell)) (key_limit format)) (leb (length (value_of cell)) (value_limit format))
    (leb (stamp_of cell) (stamp_limit format)) (ltb (link_of cell) (2 ^ 32))
    (Decides-leb 1 (length (key_of cell))) (Decides-leb (length (key_of cell)) (key_limit format)) (Decides-leb (length (value_of cell)) (value_limit format))
    (Decides-leb (stamp_of cell) (stamp_limit format)) (Decides-ltb (link_of cell) (2 ^ 32)) in (
      λ yes.
          let is = five.0 yes in
          record { some_key = is.0.0.0.0; small_key = is.0.0.0.1; small_value = is.0.0.1; small_stamp = is.0.1; small_link = is.1 },
      λ s. five.1 ((((s.some_key, s.small_key), s.small_value), s.small_stamp), s.small_link),
    )

-- a cell that has a spelling in the format is spelled by its parts, one behind the other
pub spelled-so : (format : Format) (cell : Cell) → CellFits format cell → 1 ≤ length (key_of cell) → link_of cell < 2 ^ 32 → IsSpelling format cell (spelling format cell)
spelled-so format cell fits some small =
    spelled format cell (spelling format cell) (kind_of cell ∷ young_of cell ∷ length (key_of cell) ∷ length (value_of cell) ∷ []) (little_bytes 4 (link_of cell))
    (stamp_bytes format (stamp_of cell)) (padded (key_limit format) (key_of cell)) (padded (value_limit format) (value_of cell))
    fits some small refl refl refl refl refl refl

-- the test is true exactly where the bytes spell the cell
tells : (format : Format) (cell : Cell) (bytes : List ℕ) → Decides (is_spellable format cell && bytes_eq (spelling format cell) bytes) (IsSpelling format cell bytes)
tells format cell bytes =
    let both = Decides-and (is_spellable format cell) (bytes_eq (spelling format cell) bytes) (can-spell format cell) (bytes_eq-Decides (spelling format cell) bytes) in (
      λ yes.
          let is = both.0 yes in
          let limits = is.0 in
          subst (IsSpelling format cell) is.1
          (spelled-so format cell (within-limits format cell limits.small_key limits.small_value limits.small_stamp) limits.some_key limits.small_link),
      λ s.
          both.1 (
            record { some_key = s.some_key; small_key = small-key format cell s.fits; small_value = small-value format cell s.fits; small_stamp = small-stamp format cell s.fits; small_link = s.small_link },
            unique.one-spelling format cell (spelling format cell) bytes (spelled-so format cell s.fits s.some_key s.small_link) s,
          ),
    )

-- the answer that a test gives, where the bytes spell no other cell
answered : (format : Format) (bytes : List ℕ) (cell : Cell) (yes : Bool) → Decides yes (IsSpelling format cell bytes)
    → ((other : Cell) → IsSpelling format other bytes → cell ≡ other) → Decodes format bytes (if yes then Some cell else None)
answered format bytes cell true test only = test.0 refl
answered format bytes cell false test only = λ other s.
    let yes : false ≡ true = test.1 (subst (λ (c : Cell). IsSpelling format c bytes) (sym (only other s)) s) in cc

-- the function gives what decoding is to answer
pub decodes : (format : Format) (bytes : List ℕ) → Decodes format bytes (decoded format bytes)
decodes format bytes =
    answered format bytes (standing format bytes)
    (is_spellable format (standing format bytes) && bytes_eq (spelling format (standing format bytes)) bytes) (tells format (standing format bytes) bytes)
    (λ other s. standing-is format other bytes s)

-- two answers of decoding the same bytes are the same
same-answer : (format : Format) (bytes : List ℕ) (first second : Option Cell) → Decodes format bytes first → Decodes format bytes second → first ≡ second
same-answer format bytes None None a b = refl
same-answer format bytes None (Some other) a b = absurd (a other b)
same-answer format bytes (Some cell) second a b = sym (unique.decoded format cell bytes second a b)

-- where it gives a cell, the bytes spell it
pub decoded_spells : (format : Format) (bytes : List ℕ) (cell : Cell) → decoded format bytes ≡ Some cell → IsSpelling format cell bytes
decoded_spells format bytes cell is = subst (Decodes format bytes) is (decodes format bytes)

-- where the bytes spell a cell, it gives that cell
pub decoded_is : (format : Format) (cell : Cell) (bytes : List ℕ) → IsSpelling format cell bytes → decoded format bytes ≡ Some cell
decoded_is format cell bytes s = unique.decoded format cell bytes (decoded format bytes) s (decodes format bytes)

-- an answer of decoding is what it gives
pub decoding_is : (format : Format) (bytes : List ℕ) (answer : Option Cell) → Decodes format bytes answer → answer ≡ decoded format bytes
decoding_is format bytes answer answers = same-answer format bytes answer (decoded format bytes) answers (decodes format bytes)

-- a cell that it gives fits the format
pub decoded_fits : (format : Format) (bytes : List ℕ) (cell : Cell) → decoded format bytes ≡ Some cell → CellFits format cell
decoded_fits format bytes cell is = let s = decoded_spells format bytes cell is in s.fits

-- spoiled bytes spell no cell
pub spoiled_none : decoded One (replicate 64 165) ≡ None
spoiled_none = refl

-- zeros spell no cell
pub zeros_none : decoded One (replicate 64 0) ≡ None
zeros_none = refl

-- what bytes tell of a cell, from any answer of decoding them
pub spot_is : (format : Format) (bytes : List ℕ) (answer : Option Cell) → Decodes format bytes answer → spot_of_bytes format bytes ≡ spot_of answer
spot_is format bytes answer answers = ap spot_of (sym (decoding_is format bytes answer answers))

-- the bytes of a cell tell it
pub spot_told : (format : Format) (cell : Cell) (bytes : List ℕ) → IsSpelling format cell bytes → spot_of_bytes format bytes ≡ Told (as_cell cell)
spot_told format cell bytes s = ap spot_of (decoded_is format cell bytes s)

-- bytes that spell no cell tell so
pub spot_bad : (format : Format) (bytes : List ℕ) → IsNoSpelling format bytes → spot_of_bytes format bytes ≡ Bad
spot_bad format bytes none = spot_is format bytes None none

-- a cell told or none: never untold
some-spot : (answer : Option Cell) → is_untold (spot_of answer) ≡ false
some-spot None = refl
some-spot (Some cell) = refl

-- bytes always tell something
pub spot_is_told : (format : Format) (bytes : List ℕ) → is_untold (spot_of_bytes format bytes) ≡ false
spot_is_told format bytes = some-spot (decoded format bytes)

-- worked: key k03, value 3, old, link 0
worked-value : decoded One (((0 ∷ 0 ∷ 3 ∷ 1 ∷ 0 ∷ 0 ∷ 0 ∷ 0 ∷ 107 ∷ 48 ∷ 51 ∷ []) ++ replicate 21 0) ++ (51 ∷ []) ++ replicate 31 0)
    ≡ Some (cell.Item (107 ∷ 48 ∷ 51 ∷ []) (Value (51 ∷ []) 0) false 0)
worked-value = refl

-- worked: a young tombstone of key a with link 258
worked-tombstone : decoded One ((1 ∷ 1 ∷ 1 ∷ 0 ∷ 2 ∷ 1 ∷ 0 ∷ 0 ∷ 97 ∷ []) ++ replicate 55 0) ≡ Some (cell.Item (97 ∷ []) Tombstone true 258)
worked-tombstone = refl

-- worked: a lookahead cell of key k09 with link 0
worked-look : decoded One ((2 ∷ 0 ∷ 3 ∷ 0 ∷ 0 ∷ 0 ∷ 0 ∷ 0 ∷ 107 ∷ 48 ∷ 57 ∷ []) ++ replicate 53 0) ≡ Some (cell.Look (107 ∷ 48 ∷ 57 ∷ []) 0)
worked-look = refl

-- worked: key k03, value 3, old, link 0, stamp 258 in format Two
worked-wide : decoded Two ((((0 ∷ 0 ∷ 3 ∷ 1 ∷ 0 ∷ 0 ∷ 0 ∷ 0 ∷ 2 ∷ 1 ∷ []) ++ replicate 6 0) ++ (107 ∷ 48 ∷ 51 ∷ []) ++ replicate 37 0) ++ (51 ∷ []) ++ replicate 71 0)
    ≡ Some (cell.Item (107 ∷ 48 ∷ 51 ∷ []) (Value (51 ∷ []) 258) false 0)
worked-wide = refl

-- worked: a stamp above 2 ^ 63 is none
worked-late : decoded Two ((((0 ∷ 0 ∷ 3 ∷ 1 ∷ 0 ∷ 0 ∷ 0 ∷ 0 ∷ 1 ∷ []) ++ replicate 6 0) ++ (128 ∷ 107 ∷ 48 ∷ 51 ∷ []) ++ replicate 37 0) ++ (51 ∷ []) ++ replicate 71 0) ≡ None
worked-late = refl

-- worked: a young lookahead cell is none
worked-young-look : decoded One ((2 ∷ 1 ∷ 1 ∷ 0 ∷ 0 ∷ 0 ∷ 0 ∷ 0 ∷ 97 ∷ []) ++ replicate 55 0) ≡ None
worked-young-look = refl

-- worked: a tombstone with a value is none
worked-tombstone-with-value : decoded One (((1 ∷ 0 ∷ 1 ∷ 1 ∷ 0 ∷ 0 ∷ 0 ∷ 0 ∷ 97 ∷ []) ++ replicate 23 0) ++ (51 ∷ []) ++ replicate 31 0) ≡ None
worked-tombstone-with-value = refl

-- worked: a fourth kind is none
worked-fourth-kind : decoded One ((3 ∷ 0 ∷ 1 ∷ 0 ∷ 0 ∷ 0 ∷ 0 ∷ 0 ∷ 97 ∷ []) ++ replicate 55 0) ≡ None
worked-fourth-kind = refl

-- worked: a youth of 2 is none
worked-youth : decoded One ((1 ∷ 2 ∷ 1 ∷ 0 ∷ 0 ∷ 0 ∷ 0 ∷ 0 ∷ 97 ∷ []) ++ replicate 55 0) ≡ None
worked-youth = refl

-- worked: a byte behind the key is none
worked-behind-key : decoded One ((1 ∷ 0 ∷ 1 ∷ 0 ∷ 0 ∷ 0 ∷ 0 ∷ 0 ∷ 97 ∷ 97 ∷ []) ++ replicate 54 0) ≡ None
worked-behind-key = refl

-- worked: a key longer than its room is none
worked-long-key : decoded One ((1 ∷ 0 ∷ 25 ∷ 0 ∷ 0 ∷ 0 ∷ 0 ∷ 0 ∷ []) ++ replicate 25 97 ++ replicate 31 0) ≡ None
worked-long-key = refl

-- worked: bytes of another number are none
worked-short : decoded One ((1 ∷ 0 ∷ 1 ∷ 0 ∷ 0 ∷ 0 ∷ 0 ∷ 0 ∷ 97 ∷ []) ++ replicate 54 0) ≡ None
worked-short = refl

-- bytes that spell a cell are its spelling
pub spelling_back : (format : Format) (cell : Cell) (bytes : List ℕ) → IsSpelling format cell bytes → spelling format cell ≡ bytes
spelling_back format cell bytes s =
    unique.one-spelling format cell (spelling format cell) bytes (spelled-so format cell s.fits s.some_key s.small_link) s
