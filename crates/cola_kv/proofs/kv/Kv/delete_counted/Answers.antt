use Rattle.std.proofs.Common.{Ok, Err, refl, arith}
use Rattle.cola_kv.specs.Errors.{of_step}
use Rattle.cola_kv.proofs.Answered.{deletes, deletes-at, deletes-err, spends-told, spends-few}
use Rattle.cola_kv.proofs.kv.Kv.delete_counted.Goals as goal

pub returns-in_err-answer-clause-deletes : goal.returns-in_err-answer-clause-deletes
returns-in_err-answer-clause-deletes g c =
    let d = g.D.Device in
    let f = c.in_err-answer.field-0.0 in
    deletes-err d c.args.self.now _ c.args.key.now c.from_residual-in_err-answer.result (of_step f) c.from_residual-in_err-answer.ensures.1
    (deletes-at d c.args.self.now _ c.in_ok-key.key c.args.key.now (Err (of_step f)) c.in_ok-key.ensures.value
    (deletes d c.args.self.now _ c.in_ok-key.key c.in_ok-key.ensures.exact refl c.delete.ensures.kept c.delete.ensures.call.faults_kept (Err f)
    c.in_err-answer.ensures.answer c.in_err-answer.ensures.given.0 c.in_err-answer.ensures.faults refl
    (spends-few _ _ c.args.steps.now c.delete.new.steps _ c.delete.ensures.call.within c.in_err-answer.ensures.given.1)))

pub returns-clause-deletes : goal.returns-clause-deletes
returns-clause-deletes g c =
    let d = g.D.Device in
    let a = c.in_ok-answer.answer in
    deletes-at d c.args.self.now _ c.in_ok-key.key c.args.key.now (Ok a.0) c.in_ok-key.ensures.value
    (deletes d c.args.self.now _ c.in_ok-key.key c.in_ok-key.ensures.exact refl c.delete.ensures.kept c.delete.ensures.call.faults_kept (Ok a)
    c.in_ok-answer.ensures.answer c.in_ok-answer.ensures.given.0 c.in_ok-answer.ensures.faults (omega (arith, c.in_ok-answer.ensures.counted, c.delete.ensures.call.within))
    (spends-told _ _ c.args.steps.now c.delete.new.steps a.1 c.in_ok-answer.ensures.counted c.in_ok-answer.ensures.given.1))
