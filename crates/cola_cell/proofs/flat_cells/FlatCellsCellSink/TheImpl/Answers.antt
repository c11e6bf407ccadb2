use Rattle.std.proofs.Common.{refl}
use Rattle.cola_cell.proofs.FlatLemmas.{restart_meets, push_meets, finish_meets}
use Rattle.cola_cell.proofs.flat_cells.FlatCellsCellSink.TheImpl.Goals as goal

pub restart-tells : goal.restart-tells
restart-tells c =
    let h = restart_meets c.args.self.now c.new.self.now c.args.level c.args.slot c.ensures.sound c.requires.level_in c.ensures.after in
    record { kept = refl; restarts = h.0; spends_nothing = h.1 }

pub push-tells : goal.push-tells
push-tells g c =
    let h = push_meets c.args.self.now c.new.self.now c.args.level c.args.cell.now c.result c.ensures.sound c.requires.level_in c.ensures.answer c.ensures.after in
    record { kept = refl; ticks = c.ensures.ticks; pushes = h.0; spends = h.1 }

pub finish-tells : goal.finish-tells
finish-tells c =
    let h = finish_meets c.args.self.now c.new.self.now c.args.level c.result c.ensures.sound c.requires c.ensures.answer c.ensures.after in
    record { kept = refl; finishes = h.0; spends = h.1 }
