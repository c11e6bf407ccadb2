use Rattle.std.proofs.Common.{◌≤◌, below_more, arith}
use Rattle.cola_plain_files.specs.File.{file_of, IsLevelTold, IsLowestOfLevel}
use Rattle.cola_plain_files.proofs.File.{some_of, none_of, lowest_of_all, run_len-fits, marks_many, all_told}
use Rattle.cola_plain_files.proofs.verdict.file.lowest_bad.Goals as goal

pub returns-in-Some : goal.returns-in-Some
returns-in-Some c =
    let below : c.loop-level.level ≤ c.args.header.now.geometry.bottom = omega (arith, c.loop-level-test.true, c.levels-level-end.ensures.value) in
    lowest_of_all (file_of c.args.header.now c.args.bytes.now) c.loop-level.level c.in-Some.number (omega (arith, below, marks_many c.args.header.now c.args.bytes.now))
    (some_of _ (IsLevelTold (file_of c.args.header.now c.args.bytes.now) c.loop-level.level) (IsLowestOfLevel (file_of c.args.header.now c.args.bytes.now) c.loop-level.level) c.in-Some.number c.in-Some.is c.in_ok-number.ensures)
    c.loop-level.invariant (λ s. run_len-fits c.args.header.now c.args.bytes.now c.loop-level.level s below)

pub loop-level-preserved : goal.loop-level-preserved
loop-level-preserved c =
    below_more _ _ c.loop-level.invariant
    (none_of _ (IsLevelTold (file_of c.args.header.now c.args.bytes.now) c.loop-level.level) (IsLowestOfLevel (file_of c.args.header.now c.args.bytes.now) c.loop-level.level) c.in-None.is c.in_ok-number.ensures)

pub returns : goal.returns
returns c =
    all_told (file_of c.args.header.now c.args.bytes.now) c.loop-level.level (omega (arith, c.loop-level-test.false, c.levels-level-end.ensures.value, marks_many c.args.header.now c.args.bytes.now)) c.loop-level.invariant
