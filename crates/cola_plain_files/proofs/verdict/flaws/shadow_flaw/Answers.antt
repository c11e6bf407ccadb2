use Rattle.std.proofs.Common.{arith}
use Rattle.std.proofs.lemmas.List.{length-map}
use Rattle.cola_plain_files.specs.declared.verdict.verdicts.LevelTest.TheVariants.{Shadow}
use Rattle.cola_plain_files.specs.Levels.{as_level, as_levels}
use Rattle.cola_plain_files.specs.Tests.{EachPasses, IsLastToFail}
use Rattle.cola_plain_files.proofs.File.{clock_small, some_of, none_of}
use Rattle.cola_plain_files.proofs.Flaws.{each_of, last_of}
use Rattle.cola_plain_files.proofs.verdict.flaws.shadow_flaw.Goals as goal

pub last_to_fail-requires-clause-levels_in_range : goal.last_to_fail-requires-clause-levels_in_range
last_to_fail-requires-clause-levels_in_range c = omega (arith, c.requires, c.args.header.now.geometry.shallow)

pub last_to_fail-requires-clause-clock_in_range : goal.last_to_fail-requires-clause-clock_in_range
last_to_fail-requires-clause-clock_in_range c = clock_small c.args.header.now

pub shadow_cell-requires : goal.shadow_cell-requires
shadow_cell-requires c =
    let h = c.args.header.now in
    let found = some_of c.in_ok-level.field-0 (EachPasses Shadow h.geometry.keys h.clock (as_levels c.args.levels.now)) (IsLastToFail Shadow h.geometry.keys h.clock (as_levels c.args.levels.now)) c.in-Some.level c.in-Some.is c.in_ok-level.ensures in
    omega (arith, found.within, length-map c.args.levels.now as_level, c.requires)

pub returns-in-Some : goal.returns-in-Some
returns-in-Some c = λ bytes same.
    let h = c.args.header.now in
    let found = some_of c.in_ok-level.field-0 (EachPasses Shadow h.geometry.keys h.clock (as_levels c.args.levels.now)) (IsLastToFail Shadow h.geometry.keys h.clock (as_levels c.args.levels.now)) c.in-Some.level c.in-Some.is c.in_ok-level.ensures in
    (last_of h bytes Shadow (as_levels c.args.levels.now) same c.in-Some.level found, c.shadow_cell.ensures bytes)

pub returns-in-None : goal.returns-in-None
returns-in-None c = λ bytes same.
    let h = c.args.header.now in
    each_of h bytes Shadow (as_levels c.args.levels.now) same
    (none_of c.in_ok-level.field-0 (EachPasses Shadow h.geometry.keys h.clock (as_levels c.args.levels.now)) (IsLastToFail Shadow h.geometry.keys h.clock (as_levels c.args.levels.now)) c.in-None.is c.in_ok-level.ensures)
