use Rattle.std.proofs.Common.{Ok, Err, refl, arith}
use Rattle.cola_kv.specs.Errors.{of_put}
use Rattle.cola_kv.proofs.Answered.{puts, puts-at, puts-err, spends-told, spends-few}
use Rattle.cola_kv.proofs.kv.Kv.put_counted.Goals as goal

pub returns-in_err-answer-clause-puts : goal.returns-in_err-answer-clause-puts
returns-in_err-answer-clause-puts g c =
    let d = g.D.Device in
    let f = c.in_err-answer.field-0.0 in
    puts-err d c.args.self.now _ c.args.key.now c.args.value.now c.from_residual-in_err-answer.result (of_put f) c.from_residual-in_err-answer.ensures.1
    (puts-at d c.args.self.now _ c.in_ok-key.key c.args.key.now c.in_ok-value.value c.args.value.now (Err (of_put f)) c.in_ok-key.ensures.value c.in_ok-value.ensures.value
    (puts d c.args.self.now _ c.in_ok-key.key c.in_ok-key.ensures.exact refl c.put.ensures.kept c.put.ensures.call.faults_kept c.in_ok-value.value c.in_ok-value.ensures.exact (Err f)
    c.in_err-answer.ensures.answer c.in_err-answer.ensures.given.0 c.in_err-answer.ensures.faults refl
    (spends-few _ _ c.args.steps.now c.put.new.steps _ c.put.ensures.call.within c.in_err-answer.ensures.given.1)))

pub returns-clause-puts : goal.returns-clause-puts
returns-clause-puts g c =
    let d = g.D.Device in
    let a = c.in_ok-answer.answer in
    puts-at d c.args.self.now _ c.in_ok-key.key c.args.key.now c.in_ok-value.value c.args.value.now (Ok a.0) c.in_ok-key.ensures.value c.in_ok-value.ensures.value
    (puts d c.args.self.now _ c.in_ok-key.key c.in_ok-key.ensures.exact refl c.put.ensures.kept c.put.ensures.call.faults_kept c.in_ok-value.value c.in_ok-value.ensures.exact (Ok a)
    c.in_ok-answer.ensures.answer c.in_ok-answer.ensures.given.0 c.in_ok-answer.ensures.faults (omega (arith, c.in_ok-answer.ensures.counted, c.put.ensures.call.within))
    (spends-told _ _ c.args.steps.now c.put.new.steps a.1 c.in_ok-answer.ensures.counted c.in_ok-answer.ensures.given.1))
