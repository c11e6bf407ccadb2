use Rattle.std.proofs.Common.{rules}
use Rattle.cola_check.proofs.RunBlocks.{levels-read, second-cause}
use Rattle.cola_check.proofs.level_walks.LevelWalks.pass.Goals as goal

pub returns-clause-blocks : goal.returns-clause-blocks
returns-clause-blocks g c =
    levels-read (g.W.CellSource.state c.pass-2.new.work) c.args.self.now (record { visible = c.pass.new.self; shadow = c.pass-2.new.self; odd = c.args.self.now.odd }) c.pass-2.result c.in_ok-pass.ensures.looks.cells_stay
    c.pass-2.ensures.looks.cells_stay c.in_ok-pass.ensures.hears.passes.reader_is c.in_ok-pass.ensures.blocks c.pass-2.ensures.blocks

pub returns-clause-reads : goal.returns-clause-reads
returns-clause-reads g c = record {
  cause =
      let w = g.W.CellSource in
      second-cause (w.state c.pass.new.work).held (w.state c.args.work.now).held c.args.self.now.visible.walk.run c.args.self.now.shadow.walk.run (w.state c.args.work.now).spent.faults (w.state c.pass.new.work).spent.faults (w.state c.pass-2.new.work).spent.faults
      c.pass-2.result c.in_ok-pass.ensures.looks.cells_stay c.in_ok-pass.ensures.looks.calm c.pass-2.ensures.reads.cause;
  unread = search rules;
  turns = search rules;
}
