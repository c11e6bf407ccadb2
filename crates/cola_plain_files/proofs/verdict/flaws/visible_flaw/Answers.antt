use Rattle.std.proofs.Common.{arith}
use Rattle.std.proofs.lemmas.List.{length-map}
use Rattle.cola_plain_files.specs.Levels.{as_level, as_levels}
use Rattle.cola_plain_files.specs.Tests.{EachPasses, IsFirstToFail}
use Rattle.cola_plain_files.proofs.File.{clock_small, some_of, none_of}
use Rattle.cola_plain_files.proofs.Flaws.{each_of, first_of}
use Rattle.cola_plain_files.proofs.verdict.flaws.visible_flaw.Goals as goal

pub first_to_fail-requires-clause-levels_in_range : goal.first_to_fail-requires-clause-levels_in_range
first_to_fail-requires-clause-levels_in_range c = omega (arith, c.requires, c.args.header.now.geometry.shallow)

pub first_to_fail-requires-clause-clock_in_range : goal.first_to_fail-requires-clause-clock_in_range
first_to_fail-requires-clause-clock_in_range c = clock_small c.args.header.now

pub visible_cell-requires : goal.visible_cell-requires
visible_cell-requires c =
    let h = c.args.header.now in
    let found = some_of c.in_ok-level.field-0 (EachPasses c.args.test h.geometry.keys h.clock (as_levels c.args.levels.now)) (IsFirstToFail c.args.test h.geometry.keys h.clock (as_levels c.args.levels.now)) c.in-Some.level c.in-Some.is c.in_ok-level.ensures in
    omega (arith, found.within, length-map c.args.levels.now as_level, c.requires)

pub returns-in-Some : goal.returns-in-Some
returns-in-Some c = λ bytes same.
    let h = c.args.header.now in
    let found = some_of c.in_ok-level.field-0 (EachPasses c.args.test h.geometry.keys h.clock (as_levels c.args.levels.now)) (IsFirstToFail c.args.test h.geometry.keys h.clock (as_levels c.args.levels.now)) c.in-Some.level c.in-Some.is c.in_ok-level.ensures in
    (first_of h bytes c.args.test (as_levels c.args.levels.now) same c.in-Some.level found, c.visible_cell.ensures.value bytes)

pub returns-in-None : goal.returns-in-None
returns-in-None c = λ bytes same.
    let h = c.args.header.now in
    each_of h bytes c.args.test (as_levels c.args.levels.now) same
    (none_of c.in_ok-level.field-0 (EachPasses c.args.test h.geometry.keys h.clock (as_levels c.args.levels.now)) (IsFirstToFail c.args.test h.geometry.keys h.clock (as_levels c.args.levels.now)) c.in-None.is c.in_ok-level.ensures)
