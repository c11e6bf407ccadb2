-- A cell has one spelling in a format, and bytes spell one cell.
use Rattle.std.proofs.Common.{◌≡◌, ℕ, ◌<◌, ◌≤◌, ◌^◌, Bool, true, false, List, [], ◌++◌, length, take, drop, slice_index, refl, sym, ap, ◌∙◌, arith}
use Rattle.std.specs.Prelude.{if◌then◌else◌, Option, Some, None}
use Rattle.std.proofs.lemmas.List.{drop_all}
use Rattle.byteorder.specs.Endian.{little_bytes, little_number}
use Rattle.byteorder.specs.Numbers.{little_number-reads_back}
use Rattle.cola_cell.specs.declared.format.Format.{Format}
use Rattle.cola_cell.specs.declared.format.Format.TheVariants.{One, Two}
use Rattle.cola_cell.specs.declared.cell.Item.TheVariants.{Value, Tombstone}
use Rattle.cola_cell.specs.declared.cell.Cell.{Cell}
use Rattle.cola_cell.specs.declared.cell.Cell.TheVariants as cell
use Rattle.cola_cell.specs.Bytes.{padded}
use Rattle.cola_cell.specs.Cell.{key_of, link_of, kind_of, young_of, value_of, stamp_of}
use Rattle.cola_cell.specs.Format.{key_limit, value_limit, stamp_limit}
use Rattle.cola_cell.specs.Spelling.{stamp_bytes, IsSpelling, Decodes}
use Rattle.cola_cell.proofs.Limits.{small-stamp}
use Rattle.cola_cell.proofs.Padding.{padded-front}
use Rattle.cola_cell.proofs.Parts.{with-part, with-item}

-- lists that agree on their first four bytes and behind them are the same
with-head : (xs ys : List ℕ) → 4 ≤ length xs → 4 ≤ length ys → slice_index xs 0 ≡ slice_index ys 0 → slice_index xs 1 ≡ slice_index ys 1
    → slice_index xs 2 ≡ slice_index ys 2 → slice_index xs 3 ≡ slice_index ys 3 → drop 4 xs ≡ drop 4 ys → xs ≡ ys
with-head xs ys in_xs in_ys at0 at1 at2 at3 behind =
    with-item 0 xs ys (omega arith) (omega arith) at0
    (with-item 1 xs ys (omega arith) (omega arith) at1
    (with-item 2 xs ys (omega arith) (omega arith) at2
    (with-item 3 xs ys (omega arith) (omega arith) at3 behind)))

-- nothing is behind the end of either list
no-rest : (n : ℕ) (xs ys : List ℕ) → length xs ≡ n → length ys ≡ n → drop n xs ≡ drop n ys
no-rest n xs ys in_xs in_ys = drop_all n xs (omega arith) ∙ sym (drop_all n ys (omega arith))

-- a cell has one spelling
pub one-spelling : (format : Format) (cell : Cell) (first second : List ℕ) → IsSpelling format cell first → IsSpelling format cell second → first ≡ second
one-spelling One cell xs ys a b =
    with-head xs ys (omega (arith, a.size)) (omega (arith, b.size)) (a.kind ∙ sym b.kind) (a.young ∙ sym b.young)
    (a.key_length ∙ sym b.key_length) (a.value_length ∙ sym b.value_length)
    (with-part 4 8 xs ys (omega arith) (a.link ∙ sym b.link)
    (with-part 8 32 xs ys (omega arith) (a.key ∙ sym b.key)
    (with-part 32 64 xs ys (omega arith) (a.value ∙ sym b.value) (no-rest 64 xs ys a.size b.size))))
one-spelling Two cell xs ys a b =
    with-head xs ys (omega (arith, a.size)) (omega (arith, b.size)) (a.kind ∙ sym b.kind) (a.young ∙ sym b.young)
    (a.key_length ∙ sym b.key_length) (a.value_length ∙ sym b.value_length)
    (with-part 4 8 xs ys (omega arith) (a.link ∙ sym b.link)
    (with-part 8 16 xs ys (omega arith) (a.stamp ∙ sym b.stamp)
    (with-part 16 56 xs ys (omega arith) (a.key ∙ sym b.key)
    (with-part 56 128 xs ys (omega arith) (a.value ∙ sym b.value) (no-rest 128 xs ys a.size b.size)))))

-- numbers that have the same bytes are the same
pub same-number : (n x y : ℕ) → x < 256 ^ n → y < 256 ^ n → little_bytes n x ≡ little_bytes n y → x ≡ y
same-number n x y small_x small_y same =
    sym (little_number-reads_back n x [] small_x) ∙ ap (λ (xs : List ℕ). little_number n (xs ++ [])) same ∙ little_number-reads_back n y [] small_y

-- lists of one length that fill a room alike are the same
pub same-list : (room : ℕ) (xs ys : List ℕ) → length xs ≡ length ys → padded room xs ≡ padded room ys → xs ≡ ys
same-list room xs ys long same =
    sym (padded-front room xs) ∙ ap (take (length xs)) same ∙ ap (λ (n : ℕ). take n (padded room ys)) long ∙ padded-front room ys

-- youth of an item, by its byte
same-youth : (a b : Bool) → ◌≡◌ {A = ℕ} (if a then 1 else 0) (if b then 1 else 0) → a ≡ b
same-youth true true same = refl
same-youth true false same = absurd (omega arith)
same-youth false true same = absurd (omega arith)
same-youth false false same = refl

-- cells of the same parts are the same
pub same-cell : (a b : Cell) → kind_of a ≡ kind_of b → young_of a ≡ young_of b → link_of a ≡ link_of b → stamp_of a ≡ stamp_of b
    → key_of a ≡ key_of b → value_of a ≡ value_of b → a ≡ b
same-cell (cell.Item k (Value v s) y l) (cell.Item k' (Value v' s') y' l') kind young link stamp key value = let is = same-youth y y' young in cc
same-cell (cell.Item k Tombstone y l) (cell.Item k' Tombstone y' l') kind young link stamp key value = let is = same-youth y y' young in cc
same-cell (cell.Look k l) (cell.Look k' l') kind young link stamp key value = cc
same-cell (cell.Item k (Value v s) y l) (cell.Item k' Tombstone y' l') kind young link stamp key value = absurd (omega arith)
same-cell (cell.Item k (Value v s) y l) (cell.Look k' l') kind young link stamp key value = absurd (omega arith)
same-cell (cell.Item k Tombstone y l) (cell.Item k' (Value v' s') y' l') kind young link stamp key value = absurd (omega arith)
same-cell (cell.Item k Tombstone y l) (cell.Look k' l') kind young link stamp key value = absurd (omega arith)
same-cell (cell.Look k l) (cell.Item k' (Value v' s') y' l') kind young link stamp key value = absurd (omega arith)
same-cell (cell.Look k l) (cell.Item k' Tombstone y' l') kind young link stamp key value = absurd (omega arith)

-- stamps within the limit that have the same bytes are the same
pub same-stamp : (format : Format) (a b : ℕ) → a ≤ stamp_limit format → b ≤ stamp_limit format → stamp_bytes format a ≡ stamp_bytes format b → a ≡ b
same-stamp One a b in_a in_b same = omega arith
same-stamp Two a b in_a in_b same = same-number 8 a b (omega arith) (omega arith) same

-- bytes spell one cell
pub one-cell : (format : Format) (a b : Cell) (bytes : List ℕ) → IsSpelling format a bytes → IsSpelling format b bytes → a ≡ b
one-cell format a b bytes s t =
    same-cell a b (sym s.kind ∙ t.kind) (sym s.young ∙ t.young)
    (same-number 4 (link_of a) (link_of b) (omega (arith, s.small_link)) (omega (arith, t.small_link)) (sym s.link ∙ t.link))
    (same-stamp format (stamp_of a) (stamp_of b) (small-stamp format a s.fits) (small-stamp format b t.fits) (sym s.stamp ∙ t.stamp))
    (same-list (key_limit format) (key_of a) (key_of b) (sym s.key_length ∙ t.key_length) (sym s.key ∙ t.key))
    (same-list (value_limit format) (value_of a) (value_of b) (sym s.value_length ∙ t.value_length) (sym s.value ∙ t.value))

-- an answer of decoding is the cell that the bytes spell
pub decoded : (format : Format) (cell : Cell) (bytes : List ℕ) (answer : Option Cell) → IsSpelling format cell bytes → Decodes format bytes answer → answer ≡ Some cell
decoded format cell bytes None s answers = absurd (answers cell s)
decoded format cell bytes (Some other) s answers = ap Some (one-cell format other cell bytes answers s)
