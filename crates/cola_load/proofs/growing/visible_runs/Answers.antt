use Rattle.std.proofs.Common.{All, sym, subst, ◌∙◌, arith}
use Rattle.cola_cursor.specs.Seeking.{LevelsRise}
use Rattle.cola_layout.specs.Marks.{all_numbers}
use Rattle.cola_look.specs.Runs.{HasRun}
use Rattle.cola_load.proofs.Copying.{levels-rise, header-has, all-pushed, one-more}
use Rattle.cola_load.proofs.growing.visible_runs.Goals as goal

pub loop-level-preserved : goal.loop-level-preserved
loop-level-preserved c =
    let many = c.loop-level.invariant.many in
    record {
      many = omega (arith, many, c.push.ensures.len);
      so_far = c.push.ensures.items ∙ one-more c.args.header.now c.loop-level.level c.visible_at.result c.marks_at.result c.loop-level.runs.items (omega (arith, c.loop-level-test.true, c.levels-level-end.ensures.value))
          c.visible_at.ensures.value c.marks_at.ensures.value c.loop-level.invariant.so_far;
    }

pub returns : goal.returns
returns c =
    let is = all-pushed c.args.header.now c.loop-level.level c.loop-level.runs.items (omega (arith, c.loop-level-test.false, c.levels-level-end.ensures.value)) c.loop-level.invariant.so_far in
    record {
      runs = is;
      has = λ held levels. subst (All (HasRun held)) (sym is) (header-has c.args.header.now held levels);
      rise = subst (LevelsRise 0) (sym is) (levels-rise c.args.header.now.clock 0 (all_numbers c.args.header.now.levels.items));
    }
