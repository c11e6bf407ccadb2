use Rattle.std.proofs.Common.{◌≡◌, length, ap, ◌∙◌, arith}
use Rattle.byteorder.specs.Endian.{little_bytes}
use Rattle.cola_cell.specs.Bytes.{padded}
use Rattle.cola_cell.specs.Cell.{key_of, value_of}
use Rattle.cola_cell.specs.Format.{width, key_limit, value_limit}
use Rattle.cola_cell.specs.Spelling.{stamp_bytes}
use Rattle.cola_cell.proofs.Limits.{small-key, small-value}
use Rattle.cola_cell.proofs.Writing.{spelled, written, long-room}
use Rattle.cola_cell.proofs.spelling.encode_in.Goals as goal

pub returns : goal.returns
returns c =
    let key = long-room c.key_limit.result (key_limit c.args.format) (key_of c.args.cell.now) c.room.result.now c.key_limit.ensures
    (small-key c.args.format c.args.cell.now c.requires.fits) (c.room.ensures.value ∙ ap (padded c.key_limit.result) c.key.ensures) in
    let value = long-room c.value_limit.result (value_limit c.args.format) (value_of c.args.cell.now) c.value_room.result.now c.value_limit.ensures
    (small-value c.args.format c.args.cell.now c.requires.fits) c.value_room.ensures in
    let size : length c.put-4.new.into ≡ width c.args.format =
    c.put-4.ensures.size ∙ c.put-3.ensures.size ∙ c.put_stamp.ensures.size ∙ c.put-2.ensures.size ∙ c.put.ensures.size ∙ c.requires.size in
    spelled c.args.format c.args.cell.now c.put-4.new.into c.head.result c.write_u32.new.buf (stamp_bytes c.args.format c.stamp.result) c.room.result.now
    c.value_room.result.now c.requires.fits (omega (arith, c.room.ensures.limits.0, ap length c.key.ensures)) (omega (arith, c.link.ensures, c.link.type_inv))
    c.head.ensures (c.write_u32.ensures ∙ ap (little_bytes 4) c.link.ensures) (ap (stamp_bytes c.args.format) c.stamp.ensures) key.1 value.1
    (written c.args.format c.key_at.result c.value_at.result c.put.new.into c.put-2.new.into c.put_stamp.new.into c.put-3.new.into c.put-4.new.into
    c.head.result c.write_u32.new.buf (stamp_bytes c.args.format c.stamp.result) c.room.result.now c.value_room.result.now
    c.key_at.ensures c.value_at.ensures (ap length c.head.ensures) (ap length c.write_u32.ensures) key.0 value.0 size
    c.put.ensures.front c.put-2.ensures.front c.put_stamp.ensures.front c.put-3.ensures.front c.put-4.ensures.front)
