-- The growing of a file ends by its answer.
use Rattle.cola_filling.proofs.Sizes.{suits-keys, suits-block}
use Rattle.cola_filling.proofs.GrowEnding.{ends-by}
use Rattle.cola_filling.proofs.growing.grow_file.Goals as goal

pub grow-device-requires-clause-keys : goal.grow-device-requires-clause-keys
grow-device-requires-clause-keys g c = suits-keys c.args.keys c.args.block_exp c.requires

pub grow-device-requires-clause-block : goal.grow-device-requires-clause-block
grow-device-requires-clause-block g c = suits-block c.args.keys c.args.block_exp c.requires

pub returns-clause-ends : goal.returns-clause-ends
returns-clause-ends g c =
    ends-by g.K.Sink g.D.Device c.args.keys c.args.block_exp c.args.device c.grow-device.result.0 c.args.second.now c.grow-device.new.to c.args.sink.now c.write_answer-status.new.sink c.args.steps.now c.grow-device.new.steps
    c.write_answer-status.result c.grow-device.result.1 c.grow-device.ensures.grows c.write_answer-status.ensures
