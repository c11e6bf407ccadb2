use Rattle.std.proofs.Common.{◌<◌, List, length, sym, ap, subst, ◌∙◌, arith}
use Rattle.std.proofs.lemmas.List.{length-map}
use Rattle.cola_plain_files.specs.declared.verdict.verdicts.LevelTest.TheVariants.{Order}
use Rattle.cola_plain_files.specs.Levels.{as_level, as_levels}
use Rattle.cola_plain_files.specs.Tests.{EachPasses, IsFirstToFail}
use Rattle.cola_plain_files.proofs.File.{clock_small, some_of, none_of}
use Rattle.cola_cell.specs.Held.{LawCell}
use Rattle.cola_plain_runs.specs.Runs.{as_run}
use Rattle.cola_plain_files.specs.declared.verdict.level.PlainLevel.{PlainLevel}
use Rattle.cola_verdict.specs.Tests.{FileLevel, IsInOrder, EndsOrder, level_at}
use Rattle.cola_plain_files.proofs.Levels.{level_visible}
use Rattle.cola_plain_files.proofs.Flaws.{each_of, first_of, after_first}
use Rattle.cola_plain_files.proofs.verdict.flaws.order_flaw.Goals as goal

pub first_to_fail-requires-clause-levels_in_range : goal.first_to_fail-requires-clause-levels_in_range
first_to_fail-requires-clause-levels_in_range c = omega (arith, c.requires, c.args.header.now.geometry.shallow)

pub first_to_fail-requires-clause-clock_in_range : goal.first_to_fail-requires-clause-clock_in_range
first_to_fail-requires-clause-clock_in_range c = clock_small c.args.header.now

pub visible_cell-requires : goal.visible_cell-requires
visible_cell-requires c =
    let h = c.args.header.now in
    let found = some_of c.in_ok-level.field-0 (EachPasses Order h.geometry.keys h.clock (as_levels c.args.levels.now)) (IsFirstToFail Order h.geometry.keys h.clock (as_levels c.args.levels.now)) c.in-Some.level c.in-Some.is c.in_ok-level.ensures in
    omega (arith, found.within, length-map c.args.levels.now as_level, c.requires)

pub bounds-levels-level : goal.bounds-levels-level
bounds-levels-level c =
    let h = c.args.header.now in
    let found = some_of c.in_ok-level.field-0 (EachPasses Order h.geometry.keys h.clock (as_levels c.args.levels.now)) (IsFirstToFail Order h.geometry.keys h.clock (as_levels c.args.levels.now)) c.in-Some.level c.in-Some.is c.in_ok-level.ensures in
    omega (arith, found.within, length-map c.args.levels.now as_level)

pub first_disorder-index-requires : goal.first_disorder-index-requires
first_disorder-index-requires c =
    let h = c.args.header.now in
    let found = some_of c.in_ok-level.field-0 (EachPasses Order h.geometry.keys h.clock (as_levels c.args.levels.now)) (IsFirstToFail Order h.geometry.keys h.clock (as_levels c.args.levels.now)) c.in-Some.level c.in-Some.is c.in_ok-level.ensures in
    let within : c.in-Some.level < length c.args.levels.now = omega (arith, found.within, length-map c.args.levels.now as_level) in
    let run = level_visible c.args.levels.now c.in-Some.level c.index-levels-level.result (as_run c.as_slice.result.now) within c.index-levels-level.is
    (ap as_run c.as_slice.ensures.value ∙ ap (λ (x : PlainLevel). as_run x.visible.items) (sym c.index-levels-level.is)) in
    λ ordered. found.fails (subst IsInOrder run ordered)

pub returns-in-Some : goal.returns-in-Some
returns-in-Some c = λ bytes same.
    let h = c.args.header.now in
    let found = some_of c.in_ok-level.field-0 (EachPasses Order h.geometry.keys h.clock (as_levels c.args.levels.now)) (IsFirstToFail Order h.geometry.keys h.clock (as_levels c.args.levels.now)) c.in-Some.level c.in-Some.is c.in_ok-level.ensures in
    let within : c.in-Some.level < length c.args.levels.now = omega (arith, found.within, length-map c.args.levels.now as_level) in
    let run = level_visible c.args.levels.now c.in-Some.level c.index-levels-level.result (as_run c.as_slice.result.now) within c.index-levels-level.is
    (ap as_run c.as_slice.ensures.value ∙ ap (λ (x : PlainLevel). as_run x.visible.items) (sym c.index-levels-level.is)) in
    record {
      first = first_of h bytes Order (as_levels c.args.levels.now) same c.in-Some.level found;
      index = c.first_disorder-index.result;
      ends = subst (λ (levels : List FileLevel). EndsOrder (level_at levels c.in-Some.level).visible c.first_disorder-index.result) same
          (subst (λ (cells : List LawCell). EndsOrder cells c.first_disorder-index.result) run c.first_disorder-index.ensures);
      number_is = after_first _ c.visible_cell.result c.first_disorder-index.result (c.visible_cell.ensures.value bytes);
    }

pub returns-in-None : goal.returns-in-None
returns-in-None c = λ bytes same.
    let h = c.args.header.now in
    each_of h bytes Order (as_levels c.args.levels.now) same
    (none_of c.in_ok-level.field-0 (EachPasses Order h.geometry.keys h.clock (as_levels c.args.levels.now)) (IsFirstToFail Order h.geometry.keys h.clock (as_levels c.args.levels.now)) c.in-None.is c.in_ok-level.ensures)
