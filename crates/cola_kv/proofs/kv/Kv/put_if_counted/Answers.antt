use Rattle.std.proofs.Common.{Ok, Err, refl, arith}
use Rattle.cola_kv.specs.Errors.{of_put}
use Rattle.cola_kv.proofs.Answered.{puts-if, puts-if-at, puts-if-err, spends-told, spends-few}
use Rattle.cola_kv.proofs.kv.Kv.put_if_counted.Goals as goal

pub returns-in_err-answer-clause-puts : goal.returns-in_err-answer-clause-puts
returns-in_err-answer-clause-puts g c =
    let d = g.D.Device in
    let f = c.in_err-answer.field-0.0 in
    puts-if-err d c.args.self.now _ c.args.key.now c.args.value.now c.args.seen c.from_residual-in_err-answer.result (of_put f) c.from_residual-in_err-answer.ensures.1
    (puts-if-at d c.args.self.now _ c.in_ok-key.key c.args.key.now c.in_ok-value.value c.args.value.now c.args.seen (Err (of_put f)) c.in_ok-key.ensures.value c.in_ok-value.ensures.value
    (puts-if d c.args.self.now _ c.in_ok-key.key c.in_ok-key.ensures.exact refl c.put_if.ensures.kept c.put_if.ensures.call.faults_kept c.in_ok-value.value c.in_ok-value.ensures.exact c.args.seen (Err f)
    c.in_err-answer.ensures.answer c.in_err-answer.ensures.given.0 c.in_err-answer.ensures.faults refl
    (spends-few _ _ c.args.steps.now c.put_if.new.steps _ c.put_if.ensures.call.within c.in_err-answer.ensures.given.1)))

pub returns-clause-puts : goal.returns-clause-puts
returns-clause-puts g c =
    let d = g.D.Device in
    let a = c.in_ok-answer.answer in
    puts-if-at d c.args.self.now _ c.in_ok-key.key c.args.key.now c.in_ok-value.value c.args.value.now c.args.seen (Ok a.0) c.in_ok-key.ensures.value c.in_ok-value.ensures.value
    (puts-if d c.args.self.now _ c.in_ok-key.key c.in_ok-key.ensures.exact refl c.put_if.ensures.kept c.put_if.ensures.call.faults_kept c.in_ok-value.value c.in_ok-value.ensures.exact c.args.seen (Ok a)
    c.in_ok-answer.ensures.answer c.in_ok-answer.ensures.given.0 c.in_ok-answer.ensures.faults (omega (arith, c.in_ok-answer.ensures.counted, c.put_if.ensures.call.within))
    (spends-told _ _ c.args.steps.now c.put_if.new.steps a.1 c.in_ok-answer.ensures.counted c.in_ok-answer.ensures.given.1))
