use Rattle.std.proofs.Common.{sym, subst}
use Rattle.cola_command.specs.declared.place.Place.{Place}
use Rattle.cola_command.specs.Moves.{AreFew}
use Rattle.cola_command.proofs.PlaceTurns.{session-keeps}
use Rattle.cola_command.proofs.lines.SessionHome.know.Goals as goal

pub returns-in-Open-clause-stays : goal.returns-in-Open-clause-stays
returns-in-Open-clause-stays g c = session-keeps g.D.Device c.args.self.now

pub returns-in-Closing-clause-stays : goal.returns-in-Closing-clause-stays
returns-in-Closing-clause-stays g c = session-keeps g.D.Device c.args.self.now

pub returns-in-Closed-clause-stays : goal.returns-in-Closed-clause-stays
returns-in-Closed-clause-stays g c = session-keeps g.D.Device c.args.self.now

pub returns-in-Open-clause-few : goal.returns-in-Open-clause-few
returns-in-Open-clause-few g c =
    let t = c.transfers-reads.ensures in
    subst (λ (p : Place g.row.D.Denot g.D.Device). AreFew g.D.Device p) (sym c.in-Open.is) (record { writes = t.writes_few; reads = t.reads_few; reads_once = t.reads_once })

pub returns-in-Closing-clause-few : goal.returns-in-Closing-clause-few
returns-in-Closing-clause-few g c = subst (λ (p : Place g.row.D.Denot g.D.Device). AreFew g.D.Device p) (sym c.in-Closing.is) tt

pub returns-in-Closed-clause-few : goal.returns-in-Closed-clause-few
returns-in-Closed-clause-few g c = subst (λ (p : Place g.row.D.Denot g.D.Device). AreFew g.D.Device p) (sym c.in-Closed.is) tt
