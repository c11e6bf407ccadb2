use Rattle.std.proofs.Common.{ap, refl}
use Rattle.cola_cell.specs.Spent.{Search, By}
use Rattle.cola_cell.specs.Flat.{held_of}
use Rattle.cola_cell.proofs.FlatLemmas.{read_meets}
use Rattle.cola_cell.proofs.flat_cells.FlatCellsCellSource.TheImpl.Goals as goal

pub read-tells : goal.read-tells
read-tells g c = record {
  kept = refl;
  one_tick = c.ensures.one_tick;
  reads = read_meets c.args.self.now c.new.self.now Search c.args.level c.args.slot c.args.index c.result c.ensures.sound c.requires c.ensures.answer c.ensures.after;
}

pub read_for-tells : goal.read_for-tells
read_for-tells g c = record {
  kept = refl;
  one_tick = c.ensures.one_tick;
  reads = read_meets c.args.self.now c.new.self.now (By c.args.reader c.args.level) c.args.level c.args.slot c.args.index c.result c.ensures.sound c.requires c.ensures.answer c.ensures.after;
}
