-- What the room has makes the seat.
use Rattle.std.proofs.Common.{sym, subst, Result}
use Rattle.cola_cell.specs.declared.fault.ReadFault.{ReadFault}
use Rattle.cola_look.specs.declared.seeking.Seat.{Seat}
use Rattle.cola_look.specs.Seeks.{Seeks}
use Rattle.cola_look.proofs.Looking.{err_is, looked_none, looks_as, looks_refused}
use Rattle.cola_look.proofs.seeking.seek.Goals as goal

pub seek_into-requires : goal.seek_into-requires
seek_into-requires g c = record { run = c.requires; none = c.blank-sight.ensures }

pub returns-in_err-pos : goal.returns-in_err-pos
returns-in_err-pos g c =
    let fault = c.in_err-pos.field-0.0 in
    let is = err_is c.from_residual.result fault c.from_residual.ensures.1 in
    let E : Result Seat ReadFault → Type 0 = λ x. Seeks c.args.run.now c.args.next_len c.args.start c.args.key.now (g.W.CellSource.state c.args.work.now) (g.W.CellSource.state c.seek_into.new.work)
    c.args.steps.now c.seek_into.new.steps x in
    record {
      looks = looks_refused fault c.from_residual.result looked_none c.in_err-pos.ensures.looks is;
      seeks = subst E (sym is) c.in_err-pos.ensures.seeks;
    }

pub returns : goal.returns
returns g c = record { looks = looks_as c.in_ok-pos.ensures.looks; seeks = c.in_ok-pos.ensures.seeks }
