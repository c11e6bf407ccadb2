-- What decoding reads of the bytes.
use Rattle.std.proofs.Common.{◌≡◌, ℕ, zero, suc, ◌+◌, ◌-◌, ◌<◌, ◌≤◌, ◌^◌, nat_eq, List, [], ◌∷◌, length, take, drop, slice_index, refl, sym, ap, ◌∙◌, arith, length-drop}
use Rattle.std.specs.Prelude.{if◌then◌else◌}
use Rattle.std.proofs.lemmas.List.{length-take-le}
use Rattle.byteorder.specs.Endian.{little_bytes, little_number}
use Rattle.cola_cell.specs.declared.format.Format.{Format}
use Rattle.cola_cell.specs.declared.format.Format.TheVariants.{One, Two}
use Rattle.cola_cell.specs.declared.cell.Item.TheVariants.{Value, Tombstone}
use Rattle.cola_cell.specs.declared.cell.Cell.{Cell}
use Rattle.cola_cell.specs.declared.cell.Cell.TheVariants as cell
use Rattle.cola_cell.specs.Bytes.{padded, Fills}
use Rattle.cola_cell.specs.Cell.{key_of, link_of, kind_of, young_of, value_of, stamp_of, KindIs}
use Rattle.cola_cell.specs.Format.{width, key_limit, value_limit}
use Rattle.cola_cell.specs.Spelling.{part, key_at, value_at, stamp_bytes, StampIs, IsSpelling}
use Rattle.cola_cell.proofs.Limits.{within-limits}
use Rattle.cola_cell.proofs.Numbers.{AreBytes, bytes-of-number, take-bytes, drop-bytes}

-- the length of a part
pub length-part : (from to : ℕ) (bytes : List ℕ) → from ≤ to → to ≤ length bytes → length (part from to bytes) ≡ to - from
length-part from to bytes order fits =
    let rest = length-drop from bytes in
    length-take-le (to - from) (drop from bytes) (omega arith)

-- a part has the bytes of the number that it reads as
pub part-number : (n from to : ℕ) (bytes : List ℕ) (x : ℕ) → from + n ≡ to → to ≤ length bytes → AreBytes bytes
    → x ≡ little_number n (part from to bytes) → part from to bytes ≡ little_bytes n x
part-number n from to bytes x order fits small is =
    let long = length-part from to bytes (omega arith) fits in
    sym (bytes-of-number n (part from to bytes) (omega arith) (take-bytes (to - from) (drop from bytes) (drop-bytes from bytes small)))
    ∙ ap (little_bytes n) (sym is)

-- a stamp that was read
pub stamp-read : (format : Format) (bytes : List ℕ) (stamp : ℕ) → format ≡ Two → length bytes ≡ width format → AreBytes bytes
    → stamp ≡ little_number 8 (part 8 16 bytes) → stamp ≤ 2 ^ 63 → StampIs format stamp bytes
stamp-read One bytes stamp two size small is limit = absurd cc
stamp-read Two bytes stamp two size small is limit = (limit, part-number 8 8 16 bytes stamp refl (omega arith) small is)

-- the rooms of key and value
rooms : (format : Format) (bytes : List ℕ) → length bytes ≡ width format
    → (length (part (key_at format) (value_at format) bytes) ≡ key_limit format) × (length (part (value_at format) (width format) bytes) ≡ value_limit format)
rooms One bytes size = (length-part 8 32 bytes (omega arith) (omega arith), length-part 32 64 bytes (omega arith) (omega arith))
rooms Two bytes size = (length-part 16 56 bytes (omega arith) (omega arith), length-part 56 128 bytes (omega arith) (omega arith))

-- a number of 32 bits ends before the narrowest cell does
wide-enough : (format : Format) (bytes : List ℕ) → length bytes ≡ width format → 8 ≤ length bytes
wide-enough One bytes size = omega arith
wide-enough Two bytes size = omega arith

-- the room of a list, by its size
in-room : (size n : ℕ) (room list : List ℕ) → length room ≡ size → Fills room n list → room ≡ padded size list
in-room size n room list long f = f.is ∙ ap (λ (k : ℕ). padded k list) long

-- what was read of bytes: key, value, stamp and link
pub record IsRead (format : Format) (bytes key value : List ℕ) (stamp link : ℕ) : Type 0 where
  pub size : length bytes ≡ width format
  pub small : AreBytes bytes
  pub some_key : 1 ≤ slice_index bytes 2
  pub in_key : Fills (part (key_at format) (value_at format) bytes) (slice_index bytes 2) key
  pub in_value : Fills (part (value_at format) (width format) bytes) (slice_index bytes 3) value
  pub stamp_is : StampIs format stamp bytes
  pub link_is : link ≡ little_number 4 (part 4 8 bytes)
  pub small_link : link < 2 ^ 32

-- bytes spell a cell that has what was read of them
pub spells-read : (format : Format) (bytes key value : List ℕ) (stamp link : ℕ) (cell : Cell) → IsRead format bytes key value stamp link
    → kind_of cell ≡ slice_index bytes 0 → young_of cell ≡ slice_index bytes 1 → key_of cell ≡ key → value_of cell ≡ value
    → stamp_of cell ≡ stamp → link_of cell ≡ link → IsSpelling format cell bytes
spells-read format bytes key value stamp link cell r kind young is_key is_value is_stamp is_link =
    let room = rooms format bytes r.size in
    let end = wide-enough format bytes r.size in
    let long_key = ap length is_key in
    let long_value = ap length is_value in
    record {
      size = r.size;
      fits = within-limits format cell (omega (arith, r.in_key.within, room.0)) (omega (arith, r.in_value.within, room.1)) (omega (arith, r.stamp_is.0, is_stamp));
      some_key = omega (arith, r.some_key, r.in_key.long);
      small_link = omega (arith, r.small_link, is_link);
      kind = sym kind;
      young = sym young;
      key_length = sym r.in_key.long ∙ sym long_key;
      value_length = sym r.in_value.long ∙ sym long_value;
      link = part-number 4 4 8 bytes link refl end r.small r.link_is ∙ ap (little_bytes 4) (sym is_link);
      stamp = r.stamp_is.1 ∙ ap (stamp_bytes format) (sym is_stamp);
      key = in-room (key_limit format) (slice_index bytes 2) (part (key_at format) (value_at format) bytes) key room.0 r.in_key
          ∙ ap (padded (key_limit format)) (sym is_key);
      value = in-room (value_limit format) (slice_index bytes 3) (part (value_at format) (width format) bytes) value room.1 r.in_value
          ∙ ap (padded (value_limit format)) (sym is_value);
    }

-- what is no value has an empty one
no-value : (format : Format) (bytes key value : List ℕ) (stamp link : ℕ) → IsRead format bytes key value stamp link → slice_index bytes 3 ≡ 0 → [] ≡ value
no-value format bytes key [] stamp link r empty = refl
no-value format bytes key (x ∷ value) stamp link r empty = absurd (omega (arith, r.in_value.long))

-- a byte of 0 or 1, from the youth that it says
youth-byte : (b : ℕ) → b ≤ 1 → ◌≡◌ {A = ℕ} (if nat_eq b 1 then 1 else 0) b
youth-byte zero small = refl
youth-byte (suc zero) small = refl
youth-byte (suc (suc b)) small = absurd (omega arith)

-- bytes of each kind
module _ (format : Format) (bytes key value : List ℕ) (stamp link : ℕ) (r : IsRead format bytes key value stamp link)
    (k : KindIs (slice_index bytes 0) (slice_index bytes 1) (slice_index bytes 3) stamp) where
  pub spells-value : slice_index bytes 0 ≡ 0 → IsSpelling format (cell.Item key (Value value stamp) (nat_eq (slice_index bytes 1) 1) link) bytes
  spells-value kind =
      spells-read format bytes key value stamp link (cell.Item key (Value value stamp) (nat_eq (slice_index bytes 1) 1) link) r (sym kind)
      (youth-byte (slice_index bytes 1) k.1) refl refl refl refl

  pub spells-tombstone : slice_index bytes 0 ≡ 1 → IsSpelling format (cell.Item key Tombstone (nat_eq (slice_index bytes 1) 1) link) bytes
  spells-tombstone kind =
      spells-read format bytes key value stamp link (cell.Item key Tombstone (nat_eq (slice_index bytes 1) 1) link) r (sym kind)
      (youth-byte (slice_index bytes 1) k.1) refl
      (no-value format bytes key value stamp link r (k.3 (omega arith))) (sym (k.4 (omega arith))) refl

  pub spells-look : (slice_index bytes 0 ≡ 0 → ⊥) → (slice_index bytes 0 ≡ 1 → ⊥) → IsSpelling format (cell.Look key link) bytes
  spells-look not_value not_tombstone =
      let kind : 2 ≡ slice_index bytes 0 = omega (arith, k.0) in
      spells-read format bytes key value stamp link (cell.Look key link) r kind (sym (k.2 (sym kind))) refl
      (no-value format bytes key value stamp link r (k.3 (omega arith))) (sym (k.4 (omega arith))) refl

-- a room that code found by places that are equal to the format's
pub found-room : (from to at end n : ℕ) (bytes list : List ℕ) → from ≡ at → to ≡ end → Fills (part from to bytes) n list → Fills (part at end bytes) n list
found-room from to at end n bytes list same_from same_to f = rw (← same_from, ← same_to) f

-- what was read, from what code found
pub reads : (format : Format) (bytes key value : List ℕ) (stamp link from to at end : ℕ) → length bytes ≡ width format → AreBytes bytes
    → from ≡ key_at format → to ≡ value_at format → at ≡ value_at format → end ≡ width format → (slice_index bytes 2 ≡ 0 → ⊥)
    → Fills (part from to bytes) (slice_index bytes 2) (take (slice_index bytes 2) (part from to bytes))
    → Fills (part at end bytes) (slice_index bytes 3) (take (slice_index bytes 3) (part at end bytes))
    → key ≡ take (slice_index bytes 2) (part from to bytes) → value ≡ take (slice_index bytes 3) (part at end bytes)
    → StampIs format stamp bytes → link ≡ little_number 4 (part 4 8 bytes) → link < 2 ^ 32 → IsRead format bytes key value stamp link
reads format bytes key value stamp link from to at end size small is_from is_to is_at is_end some in_key in_value is_key is_value in_stamp is_link small_link =
    record {
      size = size;
      small = small;
      some_key = omega arith;
      in_key = rw is_key (found-room from to (key_at format) (value_at format) (slice_index bytes 2) bytes (take (slice_index bytes 2) (part from to bytes)) is_from is_to in_key);
      in_value = rw is_value (found-room at end (value_at format) (width format) (slice_index bytes 3) bytes (take (slice_index bytes 3) (part at end bytes)) is_at is_end in_value);
      stamp_is = in_stamp;
      link_is = is_link;
      small_link = small_link;
    }
