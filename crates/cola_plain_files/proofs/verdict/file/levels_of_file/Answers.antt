use Rattle.std.proofs.Common.{◌≡◌, ◌<◌, ◌+◌, ◌∷◌, [], length, ap, ◌∙◌, arith, length-append}
use Rattle.cola_plain_files.specs.File.{file_of}
use Rattle.cola_plain_files.proofs.File.{marks_many}
use Rattle.cola_plain_files.proofs.Loading.{levels_more, levels_all, level_of_told}
use Rattle.cola_plain_files.proofs.verdict.file.levels_of_file.Goals as goal

pub loop-level-preserved : goal.loop-level-preserved
loop-level-preserved c =
    let file = file_of c.args.header.now c.args.bytes.now in
    let within : c.loop-level.level < length file.marks = omega (arith, c.loop-level-test.true, c.levels-level-end.ensures.value, marks_many c.args.header.now c.args.bytes.now) in
    let more : length c.push.new.self.items ≡ length c.loop-level.levels.items + 1 = ap length c.in_ok-push.ensures.items ∙ length-append c.loop-level.levels.items (c.in_ok-plain.plain ∷ []) in (
      omega (arith, more, c.loop-level.invariant.0),
      λ told. levels_more file c.loop-level.level c.loop-level.levels.items c.push.new.self.items c.in_ok-plain.plain within c.in_ok-push.ensures.items
          (c.in_ok-plain.ensures (level_of_told file c.loop-level.level within told)) (c.loop-level.invariant.1 told),
    )

pub returns-clause-levels : goal.returns-clause-levels
returns-clause-levels c = λ told.
    levels_all (file_of c.args.header.now c.args.bytes.now) c.loop-level.level c.loop-level.levels.items
    (omega (arith, c.loop-level-test.false, c.levels-level-end.ensures.value, marks_many c.args.header.now c.args.bytes.now)) (c.loop-level.invariant.1 told)

pub returns-clause-many : goal.returns-clause-many
returns-clause-many c = omega (arith, c.loop-level.invariant.0, c.loop-level-test.false, c.loop-level.auto.level-end, c.levels-level-end.ensures.value)
