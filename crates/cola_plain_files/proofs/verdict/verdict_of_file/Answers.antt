use Rattle.std.proofs.Common.{length, ap, ◌∙◌}
use Rattle.cola_plain_files.specs.Levels.{as_levels}
use Rattle.cola_plain_files.specs.File.{file_of}
use Rattle.cola_plain_files.specs.Verdict.{PassLevels}
use Rattle.cola_verdict.specs.Tests.{AreCellsTold, IsLowestBad}
use Rattle.cola_verdict.specs.Verdict.{IsVerdict}
use Rattle.cola_plain_files.proofs.File.{some_of, none_of}
use Rattle.cola_plain_files.proofs.verdict.verdict_of_file.Goals as goal

pub returns-in-Some : goal.returns-in-Some
returns-in-Some c =
    let file = file_of c.args.header.now c.args.bytes.now in
    (tt, some_of c.in_ok-at.field-0 (AreCellsTold file) (λ place. IsLowestBad file place.0 place.1) c.in-Some.at c.in-Some.is c.in_ok-at.ensures)

pub first_flaw-requires : goal.first_flaw-requires
first_flaw-requires c = ap length c.as_slice.ensures.value ∙ c.in_ok-levels.ensures.many

pub verdict_of_keys-requires : goal.verdict_of_keys-requires
verdict_of_keys-requires c = ap length c.as_slice-in-None-2.ensures.value ∙ c.in_ok-levels.ensures.many

pub returns-in-Some-2 : goal.returns-in-Some-2
returns-in-Some-2 c =
    let file = file_of c.args.header.now c.args.bytes.now in
    let told : AreCellsTold file = none_of c.in_ok-at.field-0 (AreCellsTold file) (λ place. IsLowestBad file place.0 place.1) c.in-None.is c.in_ok-at.ensures in
    some_of c.in_ok-verdict.field-0 (PassLevels file) (IsVerdict file) c.in-Some-2.verdict c.in-Some-2.is
    (c.in_ok-verdict.ensures c.args.bytes.now told (ap as_levels c.as_slice.ensures.value ∙ c.in_ok-levels.ensures.levels told))

pub returns : goal.returns
returns c =
    let file = file_of c.args.header.now c.args.bytes.now in
    let told : AreCellsTold file = none_of c.in_ok-at.field-0 (AreCellsTold file) (λ place. IsLowestBad file place.0 place.1) c.in-None.is c.in_ok-at.ensures in
    let same = ap as_levels c.as_slice.ensures.value ∙ c.in_ok-levels.ensures.levels told in
    let passed : PassLevels file = none_of c.in_ok-verdict.field-0 (PassLevels file) (IsVerdict file) c.in-None-2.is (c.in_ok-verdict.ensures c.args.bytes.now told same) in
    c.verdict_of_keys.ensures c.args.bytes.now (ap as_levels c.as_slice-in-None-2.ensures.value ∙ c.in_ok-levels.ensures.levels told) passed
