use Rattle.std.proofs.Common.{rules, ◌+◌, List, Result, sym, subst, arith}
use Rattle.std.proofs.lemmas.List.{get_or_default}
use Rattle.cola_kv.specs.declared.error.Error.{Error}
use Rattle.cola_kv.specs.declared.list.Answer.{Answer}
use Rattle.cola_kv.proofs.Listing.{Progress, progress-none, progress-more, progress-steps, pushed, pushed-len, within-more}
use Rattle.cola_kv.specs.Kv.{steps_of}
use Rattle.cola_kv.proofs.kv.Kv.carry_out_all.Goals as goal

pub loop-call-init : goal.loop-call-init
loop-call-init g c = (progress-none g.D.Device _ c.args.calls.now _ _ c.in_ok-results.ensures.items, (search (rules, arith), c.in_ok-results.ensures.len))

pub loop-call-preserved : goal.loop-call-preserved
loop-call-preserved g c =
    let d = g.D.Device in
    let p = c.loop-call.invariant in
    let room = p.1.0 in
    let many = p.1.1 in
    let more = c.push.ensures.capacity in
    let here = c.loop-call-test.true in
    let ok = c.push.ensures.succeeds (omega arith) in
    let items = pushed c.push.result c.loop-call.results.items c.push.new.self.items c.carry_out-result.result ok c.push.ensures.items in (
      subst (λ (rs : List (Result Answer Error)). Progress d c.args.self.now c.carry_out-result.new.self c.args.calls.now (c.loop-call.call-index + 1) rs c.args.steps.now c.carry_out-result.new.steps) (sym items)
          (progress-more d c.args.self.now c.loop-call.self c.carry_out-result.new.self c.args.calls.now c.loop-call.call-index c.loop-call.results.items c.args.steps.now c.loop-call.steps c.carry_out-result.new.steps _ c.carry_out-result.result here (get_or_default c.args.calls.now c.loop-call.call-index _ _ here) p.0 c.carry_out-result.ensures.carries c.carry_out-result.ensures.within),
      (omega arith, pushed-len c.push.result _ _ _ ok c.push.ensures.len many),
    )

pub returns-clause-writes : goal.returns-clause-writes
returns-clause-writes g c = λ counting.
    let d = g.D.Device in
    let p = c.loop-call.invariant in
    within-more d c.loop-call.self (steps_of c.loop-call.self) _ (progress-steps d c.args.self.now c.loop-call.self c.args.calls.now c.loop-call.call-index c.loop-call.results.items c.args.steps.now c.loop-call.steps p.0) (c.writes-after.ensures.within counting)
