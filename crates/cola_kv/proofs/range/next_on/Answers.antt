use Rattle.std.proofs.Common.{Ok, Err, refl}
use Rattle.cola_kv.specs.Errors.{of_read}
use Rattle.cola_kv.proofs.Ranging.{nexts, nexts-err}
use Rattle.cola_kv.proofs.range.next_on.Goals as goal

pub returns-in_err-next : goal.returns-in_err-next
returns-in_err-next g c =
    let f = c.in_err-next.field-0.0 in
    nexts-err g.D.Device c.args.kv.now _ c.args.walk.now c.next.new.walk c.from_residual.result (of_read f) c.from_residual.ensures.1
    (nexts g.D.Device c.args.kv.now _ refl refl c.next.ensures.kept c.next.ensures.call.faults_kept c.args.walk.now c.next.new.walk
    (Err f) c.in_err-next.ensures.answer c.next.ensures.sound c.in_err-next.ensures.given c.next.ensures.stands c.in_err-next.ensures.fewer c.in_err-next.ensures.refused c.in_err-next.ensures.faults)

pub returns : goal.returns
returns g c =
    nexts g.D.Device c.args.kv.now _ refl refl c.next.ensures.kept c.next.ensures.call.faults_kept c.args.walk.now c.next.new.walk
    (Ok c.in_ok-next.field-0) c.in_ok-next.ensures.answer c.next.ensures.sound c.in_ok-next.ensures.given c.next.ensures.stands c.in_ok-next.ensures.fewer c.in_ok-next.ensures.refused c.in_ok-next.ensures.faults
