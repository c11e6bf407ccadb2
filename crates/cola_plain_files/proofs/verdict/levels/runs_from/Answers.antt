use Rattle.std.proofs.Common.{◌+◌, ◌&&◌, ◌∙◌, ap, drop, arith}
use Rattle.cola_plain_runs.proofs.Setting.{mapped_from}
use Rattle.cola_plain_files.specs.Levels.{as_level, as_levels, as_runs, runs_from, shown_of}
use Rattle.cola_plain_files.proofs.Levels.{runs_from_next, runs_more, runs_append}
use Rattle.cola_plain_files.proofs.verdict.levels.runs_from.Goals as goal

pub loop-level-preserved : goal.loop-level-preserved
loop-level-preserved c =
    let behind = drop (c.loop-level.level-index + 1) (as_levels c.args.levels.now) in
    let here = mapped_from as_level c.args.levels.now c.loop-level.level-index c.level-item.result c.loop-level-test.true c.level-item.is in
    let run = shown_of c.loop-level.shows_shadow (as_level c.level-item.result) in
    let next = c.loop-level.shows_shadow && c.is_odd-shows_shadow.result in (
      runs_more (as_runs c.loop-level.runs.items) (as_runs c.push.new.self.items) _ (runs_from next c.args.clock (c.loop-level.number + 1) behind) _ run
          (ap (runs_from c.loop-level.shows_shadow c.args.clock c.loop-level.number) here
          ∙ runs_from_next c.loop-level.shows_shadow next c.args.clock c.loop-level.number (c.loop-level.number + 1) (as_level c.level-item.result) behind
          (ap (λ b. c.loop-level.shows_shadow && b) c.is_odd-shows_shadow.ensures) (omega arith))
          (ap as_runs c.in_ok-push.ensures.items ∙ runs_append c.loop-level.runs.items c.in_ok-run.run' run (c.in_ok-run.ensures ∙ c.shown.ensures.run))
          c.loop-level.invariant.0,
      omega arith,
    )
