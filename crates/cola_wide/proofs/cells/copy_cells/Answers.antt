use Rattle.std.proofs.Common.{◌≡◌, ◌∙◌, ◌+◌, ◌-◌, ◌*◌, ◌≤◌, length, arith}
use Rattle.cola_device.proofs.BytesLemmas.{length-part}
use Rattle.cola_layout.specs.Fields.{fields_of}
use Rattle.cola_wide.proofs.Blocks.{block-bad, block-next}
use Rattle.cola_wide.proofs.cells.copy_cells.Goals as goal

pub returns-then-not-copy_cell : goal.returns-then-not-copy_cell
returns-then-not-copy_cell c =
    record { copied = block-bad (fields_of c.args.header.now) c.args.first c.args.count c.loop-place.place c.args.narrow.now c.loop-place.wide c.loop-place-test.true c.loop-place.invariant c.if-not-copy_cell.ensures }

pub loop-place-preserved : goal.loop-place-preserved
loop-place-preserved c =
    let place = c.loop-place.place in
    let room : 128 * place + 128 ≤ length c.loop-place.wide = omega (arith, c.loop-place.auto.wide, c.requires.wide, c.loop-place-test.true) in
    let long : length c.copy_cell.new.wide ≡ 128 = c.copy_cell.auto.wide ∙ (length-part c.loop-place.wide (128 * place) (128 * place + 128 - 128 * place) (omega (arith, room)) ∙ omega arith) in
    block-next (fields_of c.args.header.now) c.args.first place c.args.narrow.now c.loop-place.wide c.copy_cell.new.wide room long c.loop-place.invariant c.if-not-copy_cell.ensures
