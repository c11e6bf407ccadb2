use Rattle.std.proofs.Common.{Ok, Err, refl, arith}
use Rattle.cola_kv.specs.Errors.{of_read}
use Rattle.cola_kv.proofs.Answered.{gets, gets-at, gets-err, spends-told, spends-few}
use Rattle.cola_kv.proofs.kv.Kv.get_counted.Goals as goal

pub returns-in_err-answer-clause-gets : goal.returns-in_err-answer-clause-gets
returns-in_err-answer-clause-gets g c =
    let d = g.D.Device in
    let f = c.in_err-answer.field-0.0 in
    gets-err d c.args.self.now _ c.args.key.now c.from_residual-in_err-answer.result (of_read f) c.from_residual-in_err-answer.ensures.1
    (gets-at d c.args.self.now _ c.in_ok-key.key c.args.key.now (Err (of_read f)) c.in_ok-key.ensures.value
    (gets d c.args.self.now _ c.in_ok-key.key c.in_ok-key.ensures.exact refl c.get.ensures.kept c.get.ensures.call.faults_kept (Err f)
    c.in_err-answer.ensures.answer c.in_err-answer.ensures.given.0 c.in_err-answer.ensures.faults refl
    (spends-few _ _ c.args.steps.now c.get.new.steps _ c.get.ensures.call.within c.in_err-answer.ensures.given.1)))

pub returns-clause-gets : goal.returns-clause-gets
returns-clause-gets g c =
    let d = g.D.Device in
    let a = c.in_ok-answer.answer in
    gets-at d c.args.self.now _ c.in_ok-key.key c.args.key.now (Ok a.0) c.in_ok-key.ensures.value
    (gets d c.args.self.now _ c.in_ok-key.key c.in_ok-key.ensures.exact refl c.get.ensures.kept c.get.ensures.call.faults_kept (Ok a)
    c.in_ok-answer.ensures.answer c.in_ok-answer.ensures.given.0 c.in_ok-answer.ensures.faults (omega (arith, c.in_ok-answer.ensures.counted, c.get.ensures.call.within))
    (spends-told _ _ c.args.steps.now c.get.new.steps a.1 c.in_ok-answer.ensures.counted c.in_ok-answer.ensures.given.1))
