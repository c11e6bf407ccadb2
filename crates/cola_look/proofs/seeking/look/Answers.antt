-- What the object let it see, or else what it read.
use Rattle.std.proofs.Common.{◌-◌}
use Rattle.cola_look.specs.Scanning.{sight_in}
use Rattle.cola_look.proofs.ScanLemmas.{looks_after}
use Rattle.cola_look.proofs.seeking.look.Goals as goal

pub returns-then-accessed-eq0-clause-looks : goal.returns-then-accessed-eq0-clause-looks
returns-then-accessed-eq0-clause-looks g c =
    let most = c.args.last - c.args.index in
    looks_after most c.in_ok-accessed.ensures.scans c.if-accessed-eq0.true (g.W.CellSource.state c.read_alone.new.work) c.read_alone.new.steps
    (sight_in c.read_alone.new.sight c.read_alone.result) (c.read_alone.ensures.looks most)
