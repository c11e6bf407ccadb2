use Rattle.std.proofs.Common.{◌≤◌, ◌^◌, ◌+◌, arith}
use Rattle.cola_layout.specs.Marks.{numbers_of}
use Rattle.cola_layout.proofs.Powers.{power-le}
use Rattle.cola_plain_runs.specs.Runs.{as_run}
use Rattle.cola_plain_files.proofs.Loading.{level_built}
use Rattle.cola_plain_files.proofs.verdict.file.level_of_file.Goals as goal

pub returns : goal.returns
returns c =
    level_built c.args.header.now c.args.bytes.now c.args.level c.slot_of-slot.result (numbers_of c.marks_of-marks.result) c.marks_of-marks.ensures.value c.slot_of-slot.ensures.value c.slot_of-slot.ensures.bound
    (as_run c.in_ok-visible.visible.items) (as_run c.in_ok-shadow.shadow.items) c.in_ok-visible.ensures.cells c.in_ok-shadow.ensures.cells

pub invariant_of-result : goal.invariant_of-result
invariant_of-result c =
    let grows : 2 ^ (c.args.level + 2) ≤ 2 ^ 24 = power-le (c.args.level + 2) 24 (omega (arith, c.requires, c.args.header.now.geometry.shallow)) in record {
      visible_small = omega (arith, grows, c.in_ok-visible.ensures.small, c.marks_of-marks.ensures.visible);
      shadow_small = omega (arith, grows, c.in_ok-shadow.ensures.small, c.marks_of-marks.ensures.shadow);
    }
