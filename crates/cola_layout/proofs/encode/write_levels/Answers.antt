use Rattle.std.proofs.Common.{◌≡◌, length, take, ◌∙◌, arith}
use Rattle.cola_layout.proofs.Writes.{levels-more, levels-all}
use Rattle.cola_layout.proofs.encode.write_levels.Goals as goal

pub loop-level-preserved : goal.loop-level-preserved
loop-level-preserved c = record {
  written = levels-more c.loop-level.level (take 48 c.args.into.now) c.loop-level.into c.write_marks.new.into c.args.levels.now c.loop-level-test.true
      c.loop-level.invariant.written c.write_marks.ensures.text;
  size = c.write_marks.ensures.size ∙ c.loop-level.invariant.size;
}

pub returns-clause-text : goal.returns-clause-text
returns-clause-text c =
    let all : length c.args.levels.now ≡ c.loop-level.level = omega arith in
    levels-all c.loop-level.level (take 48 c.args.into.now) c.loop-level.into c.args.levels.now all c.loop-level.invariant.written
