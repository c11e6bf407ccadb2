use Rattle.std.proofs.Common.{◌≡◌, ◌+◌, ◌^◌, arith}
use Rattle.cola_layout.proofs.Places.{front-below}
use Rattle.cola_layout.proofs.Powers.{next_power}
use Rattle.cola_run.proofs.saving.bad_in_run.Goals as goal

pub is_there-requires-clause-within : goal.is_there-requires-clause-within
is_there-requires-clause-within c =
    let b = c.args.geometry.now.block_exp in
    let slot = c.requires.slot in
    let most = c.requires.len in
    let twice : 2 ^ (b + 1) ≡ 2 ^ b + 2 ^ b = next_power b (b + 1) (omega arith) in
    let block = c.requires.block in
    let number = c.place-number.ensures.value in
    omega (arith, front-below b c.args.level c.args.slot c.loop-index.index (omega (arith, slot)) (omega (arith, c.loop-index-test.true, most)) c.requires.level, twice, block, number)
