-- Cells that are their bytes.
use Rattle.std.proofs.Common.{Ordering, Less, Equal, Greater, ◌%◌, ◌≡◌, ℕ, zero, suc, ◌+◌, ◌-◌, ◌<◌, ◌≤◌, ◌^◌, Bool, true, false, nat_eq, List, [], ◌∷◌, ◌++◌, length, take, drop, slice_index, refl, sym, ap, subst, ◌∙◌, arith}
use Rattle.std.specs.Prelude.{if◌then◌else◌, slice_set, Some, None}
use Rattle.std.specs.Ordering.{nat_cmp, ordering_then}
use Rattle.std.specs.Cmp.Lexicographic.{slice_cmp}
use Rattle.std.proofs.Math.Seq.{take-append_seam}
use Rattle.byteorder.specs.Numbers.{little_from-lt}
use Rattle.std.proofs.lemmas.List.{append-nil, drop-drop, drop-take, drop_all, get_or-take, length-take-le, take-take, take_all}
use Rattle.byteorder.specs.Endian.{little_bytes, little_number}
use Rattle.cola_cell.specs.declared.format.Format.{Format}
use Rattle.cola_cell.specs.declared.format.Format.TheVariants.{One, Two}
use Rattle.cola_cell.specs.declared.cell.Item.{Item}
use Rattle.cola_cell.specs.declared.cell.Item.TheVariants.{Value, Tombstone}
use Rattle.cola_cell.specs.declared.cell.Cell.{Cell}
use Rattle.cola_cell.specs.declared.cell.Cell.TheVariants as cell
use Rattle.cola_cell.specs.Bytes.{padded, Fills}
use Rattle.cola_cell.specs.Cell.{key_of, link_of, kind_of, young_of, value_of, stamp_of, KindIs}
use Rattle.cola_cell.specs.Format.{width, key_limit, value_limit, CellFits}
use Rattle.cola_cell.specs.Decoded.{cell_of, standing, standing_stamp}
use Rattle.cola_cell.specs.Packed.{is_look, is_tombstone, is_young, item_of, renewed}
use Rattle.cola_cell.specs.Spelling.{part, key_at, value_at, StampIs, IsSpelling}
use Rattle.cola_cell.proofs.DecodedLemmas.{standing-is, stamp-there}
use Rattle.cola_cell.proofs.Limits.{small-key, small-value}
use Rattle.cola_cell.proofs.Padding.{length-padded, padded-front}
use Rattle.cola_cell.proofs.KeyWords.{room-order}
use Rattle.cola_cell.proofs.Numbers.{AreBytes, take-bytes, drop-bytes}
use Rattle.cola_cell.proofs.Reading.{IsRead, reads, spells-value, spells-tombstone, spells-look}

-- bytes that spell some cell
pub record Spelled (format : Format) (bytes : List ℕ) : Type 0 where
  pub cell : Cell
  pub is : IsSpelling format cell bytes

-- they spell the cell that stands in them
pub stands : (format : Format) (bytes : List ℕ) → Spelled format bytes → IsSpelling format (standing format bytes) bytes
stands format bytes s = subst (λ (c : Cell). IsSpelling format c bytes) (sym (standing-is format s.cell bytes s.is)) s.is

-- bytes of which so much was read spell a cell
read-by : (format : Format) (bytes key value : List ℕ) (stamp link kind : ℕ) → IsRead format bytes key value stamp link
    → KindIs (slice_index bytes 0) (slice_index bytes 1) (slice_index bytes 3) stamp → slice_index bytes 0 ≡ kind → Spelled format bytes
read-by format bytes key value stamp link zero r k is =
    record { cell = cell.Item key (Value value stamp) (nat_eq (slice_index bytes 1) 1) link; is = spells-value format bytes key value stamp link r k is }
read-by format bytes key value stamp link (suc zero) r k is =
    record { cell = cell.Item key Tombstone (nat_eq (slice_index bytes 1) 1) link; is = spells-tombstone format bytes key value stamp link r k is }
read-by format bytes key value stamp link (suc (suc kind)) r k is =
    record { cell = cell.Look key link; is = spells-look format bytes key value stamp link r k (λ z. omega arith) (λ z. omega arith) }

pub read-stands : (format : Format) (bytes key value : List ℕ) (stamp link : ℕ) → IsRead format bytes key value stamp link
    → KindIs (slice_index bytes 0) (slice_index bytes 1) (slice_index bytes 3) stamp → IsSpelling format (standing format bytes) bytes
read-stands format bytes key value stamp link r k =
    stands format bytes (read-by format bytes key value stamp link (slice_index bytes 0) r k refl)

-- the parts of a cell that is made of parts
key-part : (kind young : ℕ) (key value : List ℕ) (stamp link : ℕ) → key_of (cell_of kind young key value stamp link) ≡ key
key-part zero young key value stamp link = refl
key-part (suc zero) young key value stamp link = refl
key-part (suc (suc kind)) young key value stamp link = refl

link-part : (kind young : ℕ) (key value : List ℕ) (stamp link : ℕ) → link_of (cell_of kind young key value stamp link) ≡ link
link-part zero young key value stamp link = refl
link-part (suc zero) young key value stamp link = refl
link-part (suc (suc kind)) young key value stamp link = refl

-- the key that stands in bytes
pub key-stands : (format : Format) (bytes : List ℕ) → key_of (standing format bytes) ≡ take (slice_index bytes 2) (part (key_at format) (value_at format) bytes)
key-stands format bytes =
    key-part (slice_index bytes 0) (slice_index bytes 1) (take (slice_index bytes 2) (part (key_at format) (value_at format) bytes))
    (take (slice_index bytes 3) (part (value_at format) (width format) bytes)) (standing_stamp format bytes) (little_number 4 (part 4 8 bytes))

-- the link that stands in bytes
pub link-stands : (format : Format) (bytes : List ℕ) → link_of (standing format bytes) ≡ little_number 4 (part 4 8 bytes)
link-stands format bytes =
    link-part (slice_index bytes 0) (slice_index bytes 1) (take (slice_index bytes 2) (part (key_at format) (value_at format) bytes))
    (take (slice_index bytes 3) (part (value_at format) (width format) bytes)) (standing_stamp format bytes) (little_number 4 (part 4 8 bytes))

-- its key fills its room
pub key-fills : (format : Format) (cell : Cell) (bytes : List ℕ) → IsSpelling format cell bytes
    → Fills (part (key_at format) (value_at format) bytes) (slice_index bytes 2) (take (slice_index bytes 2) (part (key_at format) (value_at format) bytes))
key-fills format cell bytes s =
    let room = part (key_at format) (value_at format) bytes in
    let limit = small-key format cell s.fits in
    let size : length room ≡ key_limit format = ap length s.key ∙ length-padded (key_limit format) (key_of cell) limit in
    let front : take (slice_index bytes 2) room ≡ key_of cell =
    ap (λ (n : ℕ). take n room) s.key_length ∙ ap (take (length (key_of cell))) s.key ∙ padded-front (key_limit format) (key_of cell) in
    record {
      long = ap length front ∙ sym s.key_length;
      within = omega (arith, ap length front, limit, size);
      is = s.key ∙ ap (padded (key_limit format)) (sym front) ∙ ap (λ (n : ℕ). padded n (take (slice_index bytes 2) room)) (sym size);
    }

-- what the first bytes tell
pub look-told : (cell : Cell) → nat_eq (kind_of cell) 2 ≡ is_look cell
look-told (cell.Item key (Value value stamp) young link) = refl
look-told (cell.Item key Tombstone young link) = refl
look-told (cell.Look key link) = refl

pub tombstone-told : (cell : Cell) → nat_eq (kind_of cell) 1 ≡ is_tombstone cell
tombstone-told (cell.Item key (Value value stamp) young link) = refl
tombstone-told (cell.Item key Tombstone young link) = refl
tombstone-told (cell.Look key link) = refl

pub young-told : (cell : Cell) → nat_eq (young_of cell) 1 ≡ is_young cell
young-told (cell.Item key item true link) = refl
young-told (cell.Item key item false link) = refl
young-told (cell.Look key link) = refl

-- a part behind the eighth byte is that of other bytes that are the same there
later : (from to more : ℕ) (new old : List ℕ) → 8 + more ≡ from → drop 8 new ≡ drop 8 old → part from to new ≡ part from to old
later from to more new old at same =
    ap (take (to - from))
    (ap (λ (k : ℕ). drop k new) (sym at) ∙ sym (drop-drop more 8 new) ∙ ap (drop more) same ∙ drop-drop more 8 old ∙ ap (λ (k : ℕ). drop k old) at)

-- bytes that differ in youth and link
pub record Differ (new old : List ℕ) (youth next : ℕ) : Type 0 where
  pub size : length new ≡ length old
  pub kind : slice_index new 0 ≡ slice_index old 0
  pub young : slice_index new 1 ≡ youth
  pub key : slice_index new 2 ≡ slice_index old 2
  pub value : slice_index new 3 ≡ slice_index old 3
  pub link : part 4 8 new ≡ little_bytes 4 next
  pub rest : drop 8 new ≡ drop 8 old
  pub small_link : next < 2 ^ 32

-- they spell the item with another youth and link
again : (format : Format) (key : List ℕ) (item : Item) (young now : Bool) (link next : ℕ) (new old : List ℕ)
    → IsSpelling format (cell.Item key item young link) old → Differ new old (if now then 1 else 0) next → IsSpelling format (cell.Item key item now next) new
again One key item young now link next new old s d = record {
  size = d.size ∙ s.size;
  fits = s.fits;
  some_key = s.some_key;
  small_link = d.small_link;
  kind = d.kind ∙ s.kind;
  young = d.young;
  key_length = d.key ∙ s.key_length;
  value_length = d.value ∙ s.value_length;
  link = d.link;
  stamp = later 8 8 0 new old refl d.rest ∙ s.stamp;
  key = later 8 32 0 new old refl d.rest ∙ s.key;
  value = later 32 64 24 new old refl d.rest ∙ s.value;
}
again Two key item young now link next new old s d = record {
  size = d.size ∙ s.size;
  fits = s.fits;
  some_key = s.some_key;
  small_link = d.small_link;
  kind = d.kind ∙ s.kind;
  young = d.young;
  key_length = d.key ∙ s.key_length;
  value_length = d.value ∙ s.value_length;
  link = d.link;
  stamp = later 8 16 0 new old refl d.rest ∙ s.stamp;
  key = later 16 56 8 new old refl d.rest ∙ s.key;
  value = later 56 128 48 new old refl d.rest ∙ s.value;
}

pub again-cell : (format : Format) (cell : Cell) (now : Bool) (next : ℕ) (new old : List ℕ) → is_look cell ≡ false
    → IsSpelling format cell old → Differ new old (if now then 1 else 0) next → IsSpelling format (renewed now next cell) new
again-cell format (cell.Item key item young link) now next new old plain s d = again format key item young now link next new old s d
again-cell format (cell.Look key link) now next new old plain s d = absurd cc

wide : (format : Format) → 8 ≤ width format
wide One = omega arith
wide Two = omega arith

within : (format : Format) → width format ≤ 128
within One = omega arith
within Two = omega arith

-- the same of the first bytes of longer lists
front-differs : (n : ℕ) (new old : List ℕ) (young link : ℕ) → 8 ≤ n → length (take n new) ≡ length (take n old) → Differ new old young link → Differ (take n new) (take n old) young link
front-differs n new old young link wide size d =
    let sum : 8 + (n - 8) ≡ n = omega arith in
    let four : 4 + (n - 4) ≡ n = omega arith in
    let first : 0 < n = omega arith in
    let second : 1 < n = omega arith in
    let third : 2 < n = omega arith in
    let fourth : 3 < n = omega arith in
    let low : 4 ≤ n - 4 = omega arith in
    record {
      size = size;
      kind = get_or-take n new 0 0 first ∙ d.kind ∙ sym (get_or-take n old 0 0 first);
      young = get_or-take n new 1 0 second ∙ d.young;
      key = get_or-take n new 2 0 third ∙ d.key ∙ sym (get_or-take n old 2 0 third);
      value = get_or-take n new 3 0 fourth ∙ d.value ∙ sym (get_or-take n old 3 0 fourth);
      link = ap (λ (k : ℕ). take 4 (drop 4 (take k new))) (sym four) ∙ ap (take 4) (drop-take 4 (n - 4) new) ∙ take-take 4 (n - 4) (drop 4 new) low ∙ d.link;
      rest = ap (λ (k : ℕ). drop 8 (take k new)) (sym sum) ∙ drop-take 8 (n - 8) new ∙ ap (take (n - 8)) d.rest
          ∙ sym (ap (λ (k : ℕ). drop 8 (take k old)) (sym sum) ∙ drop-take 8 (n - 8) old);
      small_link = d.small_link;
    }

-- what the new bytes spell
pub renews : (format : Format) (cell : Cell) (now : Bool) (next : ℕ) (new old : List ℕ) → is_look cell ≡ false → length new ≡ 128 → length old ≡ 128
    → IsSpelling format cell (take (width format) old) → Differ new old (if now then 1 else 0) next
    → (IsSpelling format (standing format (take (width format) new)) (take (width format) new)) × (standing format (take (width format) new) ≡ renewed now next cell)
renews format cell now next new old plain long was s d =
    let made = again-cell format cell now next (take (width format) new) (take (width format) old) plain s
    (front-differs (width format) new old (if now then 1 else 0) next (wide format) (length-take-le (width format) new (omega (arith, long, within format)) ∙ sym (length-take-le (width format) old (omega (arith, was, within format)))) d) in
    (stands format (take (width format) new) (record { cell = renewed now next cell; is = made }), standing-is format (renewed now next cell) (take (width format) new) made)

-- the second byte is the one that was put there
pub second-put : (xs zs : List ℕ) (y : ℕ) → 2 ≤ length xs → slice_index (take 4 (slice_set xs 1 y) ++ zs) 1 ≡ y
second-put [] zs y h = absurd (omega arith)
second-put (x ∷ []) zs y h = absurd (omega arith)
second-put (x ∷ (w ∷ xs)) zs y h = refl

-- the room of a key, where code found it
pub room-is : (format : Format) (bytes : List ℕ) (from to : ℕ) → from ≡ key_at format → to ≡ value_at format → IsSpelling format (standing format bytes) bytes
    → take (to - from) (drop from bytes) ≡ padded (key_limit format) (key_of (standing format bytes))
room-is format bytes from to is_from is_to s = ap (λ (n : ℕ). part n to bytes) is_from ∙ ap (λ (n : ℕ). part (key_at format) n bytes) is_to ∙ s.key

pub room-size : (format : Format) (bytes : List ℕ) (from to : ℕ) → from ≡ key_at format → to ≡ value_at format → IsSpelling format (standing format bytes) bytes
    → length (take (to - from) (drop from bytes)) ≡ key_limit format
room-size format bytes from to is_from is_to s =
    ap length (room-is format bytes from to is_from is_to s) ∙ length-padded (key_limit format) (key_of (standing format bytes)) (small-key format (standing format bytes) s.fits)

-- a room is no longer than the longest, and whole words
pub few : (format : Format) → key_limit format ≤ 40
few One = omega arith
few Two = omega arith

pub whole-words : (format : Format) (n : ℕ) → n ≡ key_limit format → n % 8 ≡ 0
whole-words One n e = omega arith
whole-words Two n e = omega arith

-- the front of another key's room has its length
pub front-size : (format : Format) (bytes : List ℕ) (from to : ℕ) (key whole : List ℕ) → from ≡ key_at format → to ≡ value_at format
    → IsSpelling format (standing format bytes) bytes → whole ≡ padded 40 key → length key ≤ 40
    → length (take (to - from) (drop from bytes)) ≡ length (take (length (take (to - from) (drop from bytes))) whole)
front-size format bytes from to key whole is_from is_to s is_whole fits =
    let size = room-size format bytes from to is_from is_to s in
    sym (length-take-le (length (take (to - from) (drop from bytes))) whole (omega (arith, size, few format, ap length is_whole, length-padded 40 key fits)))

-- of two orders in turn the first that is no tie decides
pub tied : (first second : Ordering) → first ≡ Equal → ordering_then first second ≡ second
tied first second e = ap (λ (o : Ordering). ordering_then o second) e

pub decided : (first second : Ordering) → (first ≡ Equal → ⊥) → ordering_then first second ≡ first
decided Less second h = refl
decided Equal second h = absurd (h refl)
decided Greater second h = refl

-- the order of the keys of two cells, from that of their rooms
pub keys-ordered : (format : Format) (left right : List ℕ) (from to : ℕ) → from ≡ key_at format → to ≡ value_at format
    → IsSpelling format (standing format left) left → IsSpelling format (standing format right) right
    → slice_cmp nat_cmp (key_of (standing format left)) (key_of (standing format right))
    ≡ ordering_then (slice_cmp nat_cmp (take (to - from) (drop from left)) (take (to - from) (drop from right))) (nat_cmp (slice_index left 2) (slice_index right 2))
keys-ordered format left right from to is_from is_to s t =
    let room = take (to - from) (drop from left) in
    let other = take (to - from) (drop from right) in
    let size = room-size format right from to is_from is_to t in
    room-order (key_limit format) (key_limit format) (key_of (standing format left)) (key_of (standing format right)) room other
    (room-is format left from to is_from is_to s) (room-is format right from to is_from is_to t) (small-key format (standing format left) s.fits) (small-key format (standing format right) t.fits) (omega arith)
    ∙ ap (λ (zs : List ℕ). ordering_then (slice_cmp nat_cmp room zs) (nat_cmp (length (key_of (standing format left))) (length (key_of (standing format right))))) (take_all (key_limit format) other (omega (arith, size)))
    ∙ ap (λ (n : ℕ). ordering_then (slice_cmp nat_cmp room other) (nat_cmp n (length (key_of (standing format right))))) (sym s.key_length)
    ∙ ap (λ (n : ℕ). ordering_then (slice_cmp nat_cmp room other) (nat_cmp (slice_index left 2) n)) (sym t.key_length)

-- the order of keys, from that of their rooms
pub key-ordered : (format : Format) (bytes : List ℕ) (from to : ℕ) (key whole : List ℕ) → from ≡ key_at format → to ≡ value_at format
    → IsSpelling format (standing format bytes) bytes → whole ≡ padded 40 key → length key ≤ 40
    → slice_cmp nat_cmp (key_of (standing format bytes)) key
    ≡ ordering_then (slice_cmp nat_cmp (take (to - from) (drop from bytes)) (take (length (take (to - from) (drop from bytes))) whole)) (nat_cmp (slice_index bytes 2) (length key))
key-ordered format bytes from to key whole is_from is_to s is_whole fits =
    let room = take (to - from) (drop from bytes) in
    let size : length room ≡ key_limit format = room-size format bytes from to is_from is_to s in
    room-order (key_limit format) 40 (key_of (standing format bytes)) key room whole (room-is format bytes from to is_from is_to s) is_whole
    (small-key format (standing format bytes) s.fits) fits (few format)
    ∙ ap (λ (n : ℕ). ordering_then (slice_cmp nat_cmp room (take n whole)) (nat_cmp (length (key_of (standing format bytes))) (length key))) (sym size)
    ∙ ap (λ (n : ℕ). ordering_then (slice_cmp nat_cmp room (take (length room) whole)) (nat_cmp n (length key))) (sym s.key_length)

-- its key fills its room, where code found it
pub key-filled : (format : Format) (bytes : List ℕ) (from to : ℕ) → from ≡ key_at format → to ≡ value_at format → IsSpelling format (standing format bytes) bytes
    → Fills (take (to - from) (drop from bytes)) (slice_index bytes 2) (take (slice_index bytes 2) (take (to - from) (drop from bytes)))
key-filled format bytes from to is_from is_to s = rw (is_from, is_to) (key-fills format (standing format bytes) bytes s)

-- a spelling with other bytes behind it
front-is : (n : ℕ) (xs zs : List ℕ) → length xs ≡ n → take n (xs ++ zs) ≡ xs
front-is n xs zs e = ap (λ (k : ℕ). take k (xs ++ zs)) (sym e) ∙ take-append_seam xs zs

front-spells : (format : Format) (cell : Cell) (xs zs : List ℕ) → IsSpelling format cell xs → IsSpelling format cell (take (width format) (xs ++ zs))
front-spells format cell xs zs s = subst (IsSpelling format cell) (sym (front-is (width format) xs zs s.size)) s

pub made-spells : (format : Format) (cell : Cell) (xs zs : List ℕ) → IsSpelling format cell xs
    → IsSpelling format (standing format (take (width format) (xs ++ zs))) (take (width format) (xs ++ zs))
made-spells format cell xs zs s = stands format (take (width format) (xs ++ zs)) (record { cell = cell; is = front-spells format cell xs zs s })

pub made-is : (format : Format) (cell : Cell) (xs zs : List ℕ) → IsSpelling format cell xs → standing format (take (width format) (xs ++ zs)) ≡ cell
made-is format cell xs zs s = standing-is format cell (take (width format) (xs ++ zs)) (front-spells format cell xs zs s)

-- what decoding reads, where no part is unpacked
pub checked : (format : Format) (bytes : List ℕ) (stamp from to at end : ℕ) → length bytes ≡ width format → AreBytes bytes
    → from ≡ key_at format → to ≡ value_at format → at ≡ value_at format → end ≡ width format → (slice_index bytes 2 ≡ 0 → ⊥)
    → Fills (part from to bytes) (slice_index bytes 2) (take (slice_index bytes 2) (part from to bytes))
    → Fills (part at end bytes) (slice_index bytes 3) (take (slice_index bytes 3) (part at end bytes))
    → StampIs format stamp bytes → KindIs (slice_index bytes 0) (slice_index bytes 1) (slice_index bytes 3) stamp
    → IsSpelling format (standing format bytes) bytes
checked format bytes stamp from to at end size small is_from is_to is_at is_end some in_key in_value in_stamp kind =
    let key = take (slice_index bytes 2) (part from to bytes) in
    let value = take (slice_index bytes 3) (part at end bytes) in
    let link = little_number 4 (part 4 8 bytes) in
    read-stands format bytes key value stamp link
    (reads format bytes key value stamp link from to at end size small is_from is_to is_at is_end some in_key in_value refl refl in_stamp refl
    (little_from-lt 0 4 (part 4 8 bytes) (take-bytes 4 (drop 4 bytes) (drop-bytes 4 bytes small))))
    kind

-- the value that stands in bytes
pub value-stands : (format : Format) (cell : Cell) (bytes : List ℕ) → IsSpelling format cell bytes → value_of cell ≡ take (slice_index bytes 3) (part (value_at format) (width format) bytes)
value-stands format cell bytes s =
    sym (ap (λ (n : ℕ). take n (part (value_at format) (width format) bytes)) s.value_length ∙ ap (take (length (value_of cell))) s.value ∙ padded-front (value_limit format) (value_of cell))

pub value-filled : (format : Format) (cell : Cell) (bytes : List ℕ) (from to : ℕ) → from ≡ value_at format → to ≡ width format → IsSpelling format cell bytes
    → Fills (take (to - from) (drop from bytes)) (slice_index bytes 3) (take (slice_index bytes 3) (take (to - from) (drop from bytes)))
value-filled format cell bytes from to is_from is_to s =
    let room = part (value_at format) (width format) bytes in
    let limit = small-value format cell s.fits in
    let size : length room ≡ value_limit format = ap length s.value ∙ length-padded (value_limit format) (value_of cell) limit in
    let front : value_of cell ≡ take (slice_index bytes 3) room = value-stands format cell bytes s in
    let fills : Fills room (slice_index bytes 3) (take (slice_index bytes 3) room) = record {
      long = sym (ap length front) ∙ sym s.value_length;
      within = omega (arith, ap length front, limit, size);
      is = s.value ∙ ap (padded (value_limit format)) front ∙ ap (λ (n : ℕ). padded n (take (slice_index bytes 3) room)) (sym size);
    } in
    rw (is_from, is_to) fills

-- a cell from its parts
pub item-value : (cell : Cell) → kind_of cell ≡ 0 → Some (Value (value_of cell) (stamp_of cell)) ≡ item_of cell
item-value (cell.Item key (Value value stamp) young link) e = refl
item-value (cell.Item key Tombstone young link) e = absurd (omega arith)
item-value (cell.Look key link) e = absurd (omega arith)

pub item-tombstone : (cell : Cell) → kind_of cell ≡ 1 → Some Tombstone ≡ item_of cell
item-tombstone (cell.Item key (Value value stamp) young link) e = absurd (omega arith)
item-tombstone (cell.Item key Tombstone young link) e = refl
item-tombstone (cell.Look key link) e = absurd (omega arith)

pub item-none : (cell : Cell) → (kind_of cell ≡ 0 → ⊥) → (kind_of cell ≡ 1 → ⊥) → None ≡ item_of cell
item-none (cell.Item key (Value value stamp) young link) a b = absurd (a refl)
item-none (cell.Item key Tombstone young link) a b = absurd (b refl)
item-none (cell.Look key link) a b = refl

pub whole-item : (c : Cell) (key : List ℕ) (item : Item) (young : Bool) (link : ℕ) → key ≡ key_of c → Some item ≡ item_of c → young ≡ is_young c → link ≡ link_of c → cell.Item key item young link ≡ c
whole-item (cell.Item key item young link) k i y l ek ei ey el = cc
whole-item (cell.Look key link) k i y l ek ei ey el = absurd cc

pub whole-look : (c : Cell) (key : List ℕ) (link : ℕ) → key ≡ key_of c → None ≡ item_of c → link ≡ link_of c → cell.Look key link ≡ c
whole-look (cell.Item key item young link) k l ek ei el = absurd cc
whole-look (cell.Look key link) k l ek ei el = cc

-- a stamp that was read
pub stamp-two : (format : Format) (cell : Cell) (bytes : List ℕ) (x : ℕ) → format ≡ Two → x ≡ little_number 8 (part 8 16 bytes) → IsSpelling format cell bytes → x ≡ stamp_of cell
stamp-two One cell bytes x two is s = absurd cc
stamp-two Two cell bytes x two is s = is ∙ stamp-there Two cell bytes s

-- a copy of a spelling
pub copy-spells : (format own : Format) (cell other : Cell) (bytes into : List ℕ) (n : ℕ) → IsSpelling own cell (take (width own) bytes) → format ≡ own → n ≡ width own
    → into ≡ take n bytes → cell ≡ other → IsSpelling format other into
copy-spells format own cell other bytes into n s same is_n is is_cell = rw (is, is_n, same, ← is_cell) s

-- another youth and link fit as well
pub renewed-fits : (format : Format) (cell : Cell) (now : Bool) (next : ℕ) → CellFits format cell → CellFits format (renewed now next cell)
renewed-fits format (cell.Item key item young link) now next h = h
renewed-fits format (cell.Look key link) now next h = h

-- a copy of a whole list
pub whole-copy : (n : ℕ) (new from into : List ℕ) → length from ≡ n → length into ≡ n → new ≡ take n from → new ++ drop n into ≡ from
whole-copy n new from into a b is =
    ap (λ (xs : List ℕ). xs ++ drop n into) (is ∙ take_all n from (omega arith)) ∙ ap (λ (xs : List ℕ). from ++ xs) (drop_all n into (omega arith)) ∙ append-nil from

-- bytes that were checked and copied to the front of longer ones spell the cell that stands in them
pub copied : (format : Format) (bytes new zs : List ℕ) → IsSpelling format (standing format bytes) bytes → new ≡ bytes
    → (IsSpelling format (standing format (take (width format) (new ++ zs))) (take (width format) (new ++ zs)))
    × (IsSpelling format (standing format (take (width format) (new ++ zs))) bytes)
copied format bytes new zs s is =
    let spelled : IsSpelling format (standing format bytes) new = subst (IsSpelling format (standing format bytes)) (sym is) s in (
      made-spells format (standing format bytes) new zs spelled,
      subst (λ (c : Cell). IsSpelling format c bytes) (sym (made-is format (standing format bytes) new zs spelled)) s,
    )

-- a lookahead cell with the key of a cell fits as well
pub look-fits : (format : Format) (c : Cell) (next : ℕ) → CellFits format c → CellFits format (cell.Look (key_of c) next)
look-fits format (cell.Item key item young link) next h = h.0
look-fits format (cell.Look key link) next h = h

-- the first bytes of a lookahead cell
pub head-of-look : (from key : List ℕ) → slice_index from 2 ≡ length key → (2 ∷ 0 ∷ slice_index from 2 ∷ 0 ∷ []) ≡ 2 ∷ 0 ∷ length key ∷ 0 ∷ []
head-of-look from key is = ap (λ (n : ℕ). 2 ∷ 0 ∷ n ∷ 0 ∷ []) is

-- nothing taken from a number
pub minus-zero : (n : ℕ) → n ≡ n - 0
minus-zero n = omega arith
