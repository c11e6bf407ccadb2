use Rattle.std.proofs.Common.{◌<◌, ◌^◌, ◌+◌, below_more, arith}
use Rattle.std.specs.Bool.{⊤}
use Rattle.cola_layout.proofs.Powers.{power-le}
use Rattle.cola_plain_files.specs.File.{file_of, IsSlotTold, IsFirstBad}
use Rattle.cola_plain_files.proofs.File.{some_of, none_of, lowest_of, run_len-fits}
use Rattle.cola_plain_files.proofs.verdict.file.lowest_of_level.Goals as goal

pub overflow_cast-index : goal.overflow_cast-index
overflow_cast-index c =
    let small : c.in-Some.index < 2 ^ (c.args.level + 2) = some_of _ ⊤ (λ index. index < 2 ^ (c.args.level + 2)) c.in-Some.index c.in-Some.is c.in_ok-index.ensures.fits in
    let grows = power-le (c.args.level + 2) 24 (omega (arith, c.requires, c.args.header.now.geometry.shallow)) in
    omega (arith, small, grows)

pub place-requires-clause-index_exists : goal.place-requires-clause-index_exists
place-requires-clause-index_exists c = some_of _ ⊤ (λ index. index < 2 ^ (c.args.level + 2)) c.in-Some.index c.in-Some.is c.in_ok-index.ensures.fits

pub returns-in-Some : goal.returns-in-Some
returns-in-Some c =
    lowest_of (file_of c.args.header.now c.args.bytes.now) c.args.level c.loop-slot.slot c.in-Some.index c.place.result c.loop-slot-test.true
    (some_of _ (IsSlotTold (file_of c.args.header.now c.args.bytes.now) c.args.level c.loop-slot.slot) (IsFirstBad (file_of c.args.header.now c.args.bytes.now) c.args.level c.loop-slot.slot) c.in-Some.index c.in-Some.is c.in_ok-index.ensures.bad)
    c.loop-slot.invariant (run_len-fits c.args.header.now c.args.bytes.now c.args.level c.loop-slot.slot c.requires) c.place.ensures.value

pub loop-slot-preserved : goal.loop-slot-preserved
loop-slot-preserved c =
    below_more _ _ c.loop-slot.invariant
    (none_of _ (IsSlotTold (file_of c.args.header.now c.args.bytes.now) c.args.level c.loop-slot.slot) (IsFirstBad (file_of c.args.header.now c.args.bytes.now) c.args.level c.loop-slot.slot) c.in-None.is c.in_ok-index.ensures.bad)
