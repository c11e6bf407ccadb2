use Rattle.std.proofs.Common.{}
use Rattle.cola_load.proofs.Saving.{tail-kept, tail-index, tail-saves, tail-front}
use Rattle.cola_load.proofs.loader.Loader.write_tail_of.Goals as goal

pub returns-then-len-cells_of_block-eq0-clause-saves : goal.returns-then-len-cells_of_block-eq0-clause-saves
returns-then-len-cells_of_block-eq0-clause-saves g c =
    tail-kept c.args.level c.self.view_is c.requires.front c.requires.level c.self.invariant c.len_of_run-len.ensures.value c.cells_of_block.ensures.value
    (g.D.Device.bytes c.args.device.now) c.if-len-cells_of_block-eq0.true

pub write_tail-requires-clause-index : goal.write_tail-requires-clause-index
write_tail-requires-clause-index g c =
    tail-index c.args.level c.self.view_is c.requires.front c.requires.level c.self.invariant c.len_of_run-len.ensures.value c.cells_of_block.ensures.value
    c.if-len-cells_of_block-eq0.false

pub returns-clause-saves : goal.returns-clause-saves
returns-clause-saves g c =
    tail-saves c.args.level c.self.view_is c.requires.front c.requires.level c.self.invariant c.len_of_run-len.ensures.value c.cells_of_block.ensures.value
    c.if-len-cells_of_block-eq0.false c.write_tail.result (g.D.Device.bytes c.args.device.now) (g.D.Device.bytes c.write_tail.new.device) c.requires.inside c.write_tail.ensures.wrote

pub returns-clause-front_stays : goal.returns-clause-front_stays
returns-clause-front_stays g c =
    tail-front c.args.level c.self.view_is c.requires.front c.requires.level c.self.invariant c.len_of_run-len.ensures.value c.cells_of_block.ensures.value
    c.if-len-cells_of_block-eq0.false c.write_tail.result (g.D.Device.bytes c.args.device.now) (g.D.Device.bytes c.write_tail.new.device) c.requires.inside c.write_tail.ensures.wrote
