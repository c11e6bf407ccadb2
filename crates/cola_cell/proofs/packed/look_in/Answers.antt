use Rattle.std.proofs.Common.{◌≡◌, length, ap, ◌∙◌, arith, refl, ℕ, [], replicate}
use Rattle.cola_cell.specs.declared.cell.Cell.{Cell}
use Rattle.cola_cell.specs.declared.cell.Cell.TheVariants as cell
use Rattle.cola_cell.specs.Cell.{key_of}
use Rattle.cola_cell.specs.Decoded.{standing}
use Rattle.cola_cell.specs.Format.{width, value_limit}
use Rattle.cola_cell.specs.Spelling.{stamp_bytes}
use Rattle.cola_cell.proofs.Packs.{look-fits, room-is, room-size, head-of-look, minus-zero}
use Rattle.cola_cell.proofs.Writing.{spelled, written, long-room}
use Rattle.cola_cell.proofs.packed.look_in.Goals as goal

pub returns : goal.returns
returns c =
    let source : Cell = standing c.args.format c.args.from.now in
    let look : Cell = cell.Look (key_of source) c.args.link in
    let key = room-is c.args.format c.args.from.now c.key_at-2.result c.value_at.result c.key_at-2.ensures c.value_at.ensures c.requires.spelled in
    let key_size = room-size c.args.format c.args.from.now c.key_at-2.result c.value_at.result c.key_at-2.ensures c.value_at.ensures c.requires.spelled in
    let value = long-room c.value_limit.result (value_limit c.args.format) [] c.zeros.result.now c.value_limit.ensures (omega arith) (c.zeros.ensures ∙ ap (λ (k : ℕ). replicate k 0) (minus-zero c.value_limit.result)) in
    let size : length c.put-4.new.into ≡ width c.args.format =
    c.put-4.ensures.size ∙ c.put-3.ensures.size ∙ c.put_stamp.ensures.size ∙ c.put-2.ensures.size ∙ c.put.ensures.size ∙ c.requires.size in
    spelled c.args.format look c.put-4.new.into _ c.write_u32.new.buf (stamp_bytes c.args.format 0) _
    c.zeros.result.now (look-fits c.args.format source c.args.link c.requires.spelled.fits) c.requires.spelled.some_key (omega arith)
    (head-of-look c.args.from.now (key_of source) c.requires.spelled.key_length) c.write_u32.ensures refl key value.1
    (written c.args.format c.key_at.result c.value_at-2.result c.put.new.into c.put-2.new.into c.put_stamp.new.into c.put-3.new.into c.put-4.new.into
    _ c.write_u32.new.buf (stamp_bytes c.args.format 0) _ c.zeros.result.now
    c.key_at.ensures c.value_at-2.ensures refl (ap length c.write_u32.ensures) key_size value.0 size
    c.put.ensures.front c.put-2.ensures.front c.put_stamp.ensures.front c.put-3.ensures.front c.put-4.ensures.front)
