-- What the steps of one mutation say.
use Rattle.cola_merge.specs.States.{state}
use Rattle.cola_level.proofs.Stepping.{takes_of, goes_on_of, whole_of, cause_of, calm_of, only_of, ends_of}
use Rattle.cola_level.proofs.building.take_steps.Goals as goal

pub returns-clause-kept : goal.returns-clause-kept
returns-clause-kept g c = c.advance.ensures.kept

pub returns-clause-stepped : goal.returns-clause-stepped
returns-clause-stepped g c =
    let e = c.advance.ensures.advances in
    record {
      moves = record {
        ready = e.ready;
        grows = e.frames;
        lasts = e.lasts;
        takes = takes_of c.args.aim.now c.args.merger.now c.advance.new.self c.advance.result e.consumes;
        rises = e.rises;
        emits = e.emits;
        samples = e.samples;
        builds = e.builds;
        told = e.told;
        cut = λ going. goes_on_of c.args.aim.now c.args.merger.now c.advance.new.self (g.W.CellSource.state c.args.work.now).held (g.W.CellSource.state c.advance.new.work).held c.advance.result (e.cut going);
        whole = λ going. whole_of c.args.aim.now c.args.merger.now c.advance.new.self (g.W.CellSource.state c.args.work.now).held (g.W.CellSource.state c.advance.new.work).held c.advance.result e.consumes (e.whole going);
        cause = cause_of c.args.aim.now (g.W.CellSource.state c.args.work.now).spent.faults (state (g.W.CellSource.state c.advance.new.work) c.advance.new.self c.advance.new.steps) c.advance.result e.cause;
        calm = calm_of (g.W.CellSource.state c.args.work.now).spent.faults (g.W.CellSource.state c.advance.new.work).spent.faults c.advance.result e.calm;
        only = λ going fits. only_of c.advance.result (e.only going fits);
        turned = e.turned;
      };
      ends = ends_of c.args.aim.now c.args.merger.now c.advance.new.self c.advance.result e.consumes;
      spends = e.spends;
      ticks = e.ticks;
      saved = e.saved;
      written = e.written;
    }
