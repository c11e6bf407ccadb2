use Rattle.cola_plain_files.proofs.File.{clock_small}
use Rattle.cola_plain_files.proofs.verdict.file.slot_of.Goals as goal

pub visible_slot-requires-clause-clock_in_range : goal.visible_slot-requires-clause-clock_in_range
visible_slot-requires-clause-clock_in_range c = clock_small c.args.header.now
