-- The bytes that encoding writes.
use Rattle.std.proofs.Common.{◌≡◌, ℕ, ◌+◌, ◌<◌, ◌≤◌, ◌^◌, List, [], ◌∷◌, ◌++◌, length, take, drop, refl, sym, ap, ◌∙◌, arith, length-append}
use Rattle.std.proofs.lemmas.List.{take_all}
use Rattle.std.proofs.Math.Seq.{take-append_seam, drop-append_seam}
use Rattle.byteorder.specs.Endian.{little_bytes}
use Rattle.cola_cell.specs.declared.format.Format.{Format}
use Rattle.cola_cell.specs.declared.format.Format.TheVariants.{One, Two}
use Rattle.cola_cell.specs.declared.cell.Cell.{Cell}
use Rattle.cola_cell.specs.Bytes.{padded}
use Rattle.cola_cell.specs.Cell.{key_of, link_of, kind_of, young_of, value_of, stamp_of}
use Rattle.cola_cell.specs.Format.{width, key_limit, value_limit, CellFits}
use Rattle.cola_cell.specs.Spelling.{part, key_at, value_at, stamp_bytes, IsSpelling}
use Rattle.cola_cell.proofs.Limits.{small-key, small-value}
use Rattle.cola_cell.proofs.Padding.{length-padded}

-- the parts of a spelling, one after another
abbrev pub laid_out : Format → Cell → List ℕ
laid_out format cell =
    (((((kind_of cell ∷ young_of cell ∷ length (key_of cell) ∷ length (value_of cell) ∷ []) ++ little_bytes 4 (link_of cell))
    ++ stamp_bytes format (stamp_of cell)) ++ padded (key_limit format) (key_of cell)) ++ padded (value_limit format) (value_of cell))

-- the first of two lists, by its length
front : (n : ℕ) (xs ys : List ℕ) → length xs ≡ n → take n (xs ++ ys) ≡ xs
front n xs ys long = ap (λ (m : ℕ). take m (xs ++ ys)) (sym long) ∙ take-append_seam xs ys

-- the second of two lists, by the lengths of both
back : (n m : ℕ) (xs ys : List ℕ) → length xs ≡ n → length ys ≡ m → take m (drop n (xs ++ ys)) ≡ ys
back n m xs ys long rest =
    ap (take m) (ap (λ (k : ℕ). drop k (xs ++ ys)) (sym long) ∙ drop-append_seam xs ys) ∙ take_all m ys (omega arith)

-- key and value fill their rooms
full : (format : Format) (cell : Cell) → CellFits format cell
    → (length (padded (key_limit format) (key_of cell)) ≡ key_limit format) × (length (padded (value_limit format) (value_of cell)) ≡ value_limit format)
full format cell fits = (
  length-padded (key_limit format) (key_of cell) (small-key format cell fits),
  length-padded (value_limit format) (value_of cell) (small-value format cell fits),
)

-- the parts one after another have the width of the format
width-laid_out : (format : Format) (cell : Cell) → CellFits format cell → length (laid_out format cell) ≡ width format
width-laid_out One cell fits =
    let rooms = full One cell fits in
    omega (arith, rooms.0, rooms.1, length-append (padded 24 (key_of cell)) (padded 32 (value_of cell)))
width-laid_out Two cell fits =
    let rooms = full Two cell fits in
    omega (arith, rooms.0, rooms.1, length-append (padded 40 (key_of cell)) (padded 72 (value_of cell)))

-- the parts one after another are a spelling
spelled-parts : (format : Format) (cell : Cell) → CellFits format cell → 1 ≤ length (key_of cell) → link_of cell < 2 ^ 32
    → IsSpelling format cell (laid_out format cell)
spelled-parts One cell fits key_here small =
    let rooms = full One cell fits in
    record {
      size = width-laid_out One cell fits;
      fits = fits;
      some_key = key_here;
      small_link = small;
      kind = refl;
      young = refl;
      key_length = refl;
      value_length = refl;
      link = refl;
      stamp = refl;
      key = front 24 (padded 24 (key_of cell)) (padded 32 (value_of cell)) rooms.0;
      value = back 24 32 (padded 24 (key_of cell)) (padded 32 (value_of cell)) rooms.0 rooms.1;
    }
spelled-parts Two cell fits key_here small =
    let rooms = full Two cell fits in
    record {
      size = width-laid_out Two cell fits;
      fits = fits;
      some_key = key_here;
      small_link = small;
      kind = refl;
      young = refl;
      key_length = refl;
      value_length = refl;
      link = refl;
      stamp = refl;
      key = front 40 (padded 40 (key_of cell)) (padded 72 (value_of cell)) rooms.0;
      value = back 40 72 (padded 40 (key_of cell)) (padded 72 (value_of cell)) rooms.0 rooms.1;
    }

-- bytes that are written part by part are a spelling
pub spelled : (format : Format) (cell : Cell) (bytes head link stamp key value : List ℕ) → CellFits format cell → 1 ≤ length (key_of cell) → link_of cell < 2 ^ 32
    → head ≡ kind_of cell ∷ young_of cell ∷ length (key_of cell) ∷ length (value_of cell) ∷ [] → link ≡ little_bytes 4 (link_of cell)
    → stamp ≡ stamp_bytes format (stamp_of cell) → key ≡ padded (key_limit format) (key_of cell) → value ≡ padded (value_limit format) (value_of cell)
    → bytes ≡ (((head ++ link) ++ stamp) ++ key) ++ value → IsSpelling format cell bytes
spelled format cell bytes head link stamp key value fits key_here small is_head is_link is_stamp is_key is_value is =
    rw (is, is_head, is_link, is_stamp, is_key, is_value) (spelled-parts format cell fits key_here small)

-- what was written up to a place, by the lengths of what was written
upto : (place n end : ℕ) (bytes before part : List ℕ) → length part ≡ n → place + n ≡ end → take (place + length part) bytes ≡ before ++ part
    → take end bytes ≡ before ++ part
upto place n end bytes before part long sum is =
    let same : end ≡ place + length part = omega arith in
    ap (λ (k : ℕ). take k bytes) same ∙ is

-- where the key's room ends, and the value's
ends : (format : Format) → (key_at format + key_limit format ≡ value_at format) × (value_at format + value_limit format ≡ width format)
ends One = (refl, refl)
ends Two = (refl, refl)

-- the bytes after five writes, each from where the one before ended
pub written : (format : Format) (k v : ℕ) (b1 b2 b3 b4 b5 head link stamp key value : List ℕ) → k ≡ key_at format → v ≡ value_at format
    → length head ≡ 4 → length link ≡ 4 → length key ≡ key_limit format → length value ≡ value_limit format → length b5 ≡ width format
    → take (0 + length head) b1 ≡ head → take (4 + length link) b2 ≡ take 4 b1 ++ link → take (key_at format) b3 ≡ take 8 b2 ++ stamp
    → take (k + length key) b4 ≡ take k b3 ++ key → take (v + length value) b5 ≡ take v b4 ++ value
    → b5 ≡ (((head ++ link) ++ stamp) ++ key) ++ value
written format k v b1 b2 b3 b4 b5 head link stamp key value is_k is_v four_head four_link long_key long_value size w1 w2 w3 w4 w5 =
    let end = ends format in
    let u1 : take 4 b1 ≡ head = upto 0 4 4 b1 [] head four_head refl w1 in
    let u2 : take 8 b2 ≡ head ++ link = upto 4 4 8 b2 (take 4 b1) link four_link refl w2 ∙ ap (λ (xs : List ℕ). xs ++ link) u1 in
    let u3 : take k b3 ≡ (head ++ link) ++ stamp = ap (λ (n : ℕ). take n b3) is_k ∙ w3 ∙ ap (λ (xs : List ℕ). xs ++ stamp) u2 in
    let u4 : take v b4 ≡ ((head ++ link) ++ stamp) ++ key =
    upto k (key_limit format) v b4 (take k b3) key long_key (omega (arith, end.0)) w4 ∙ ap (λ (xs : List ℕ). xs ++ key) u3 in
    let u5 : take (width format) b5 ≡ (((head ++ link) ++ stamp) ++ key) ++ value =
    upto v (value_limit format) (width format) b5 (take v b4) value long_value (omega (arith, end.1)) w5 ∙ ap (λ (xs : List ℕ). xs ++ value) u4 in
    sym (take_all (width format) b5 (omega arith)) ∙ u5

-- the room of a list, by the length of the room
pub long-room : (n room : ℕ) (list bytes : List ℕ) → n ≡ room → length list ≤ room → bytes ≡ padded n list → (length bytes ≡ room) × (bytes ≡ padded room list)
long-room n room list bytes same fits is =
    let at : bytes ≡ padded room list = is ∙ ap (λ (k : ℕ). padded k list) same in
    (ap length at ∙ length-padded room list fits, at)
