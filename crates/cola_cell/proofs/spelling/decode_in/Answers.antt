use Rattle.std.proofs.Common.{◌≡◌, ℕ, List, take, refl, arith}
use Rattle.std.specs.List.{slice_index}
use Rattle.cola_cell.specs.Spelling.{part}
use Rattle.cola_cell.proofs.Reading.{IsRead, reads, spells-value, spells-tombstone, spells-look}
use Rattle.cola_cell.proofs.spelling.decode_in.Goals.{After-of_room-key}
use Rattle.cola_cell.proofs.spelling.decode_in.Goals as goal

read : (c : After-of_room-key) (value : List ℕ) → value ≡ take (slice_index c.args.bytes.now 3) (part c.value_at-2.result c.width.result c.args.bytes.now)
    → IsRead c.args.format c.args.bytes.now c.of_room-key.result value c.in_ok-stamp.stamp c.read_u32-link.result
read c value is =
    reads c.args.format c.args.bytes.now c.of_room-key.result value c.in_ok-stamp.stamp c.read_u32-link.result
    c.key_at.result c.value_at.result c.value_at-2.result c.width.result c.requires (λ i. let fits = c.type_inv.bytes i in omega arith)
    c.key_at.ensures c.value_at.ensures c.value_at-2.ensures c.width.ensures c.if-bytes-eq0.false c.if-not-is_filled.ensures c.if-not-is_filled-2.ensures
    c.of_room-key.ensures is c.in_ok-stamp.ensures c.read_u32-link.ensures c.read_u32-link.type_inv

pub returns-then-bytes-eq0-2 : goal.returns-then-bytes-eq0-2
returns-then-bytes-eq0-2 c =
    spells-value c.args.format c.args.bytes.now c.of_room-key.result c.of_room-value.result c.in_ok-stamp.stamp c.read_u32-link.result
    (read (goal.at.returns-then-bytes-eq0-2 c).After-of_room-key c.of_room-value.result c.of_room-value.ensures)
    (c.is_kind.ensures.0 c.if-not-is_kind.false) c.if-bytes-eq0-2.true

pub returns-then-bytes-eq1 : goal.returns-then-bytes-eq1
returns-then-bytes-eq1 c =
    let value = take (slice_index c.args.bytes.now 3) (part c.value_at-2.result c.width.result c.args.bytes.now) in
    spells-tombstone c.args.format c.args.bytes.now c.of_room-key.result value c.in_ok-stamp.stamp c.read_u32-link.result
    (read (goal.at.returns-then-bytes-eq1 c).After-of_room-key value refl) (c.is_kind.ensures.0 c.if-not-is_kind.false) c.if-bytes-eq1.true

pub returns : goal.returns
returns c =
    let value = take (slice_index c.args.bytes.now 3) (part c.value_at-2.result c.width.result c.args.bytes.now) in
    spells-look c.args.format c.args.bytes.now c.of_room-key.result value c.in_ok-stamp.stamp c.read_u32-link.result
    (read (goal.at.returns c).After-of_room-key value refl) (c.is_kind.ensures.0 c.if-not-is_kind.false) c.if-bytes-eq0-2.false c.if-bytes-eq1.false
