use Rattle.std.proofs.Common.{rules, ◌≡◌, ◌∙◌, subst}
use Rattle.cola_kv.specs.Calls as kv
use Rattle.cola_handle.specs.declared.session.Session.{Session}
use Rattle.cola_handle.specs.Open.{lent_device}
use Rattle.cola_c.proofs.Inside.{inside}
use Rattle.cola_c.proofs.cola_core_put_if.Goals as goal

pub returns-clause-answered : goal.returns-clause-answered
returns-clause-answered c = λ session is.
    let old : c.deref_mut.result.now ≡ session = c.deref_mut.ensures.value ∙ inside _ session _ is c.in-Some.ensures.taken in
    record {
      new = record { kv = c.put_if-answer.new.self };
      answer = c.put_if-answer.result;
      is_open = c.put.ensures;
      number_is = search (rules, c.tell_put_if.ensures.number);
      says = (
        subst (λ (o : Session). kv.PutsIf lent_device o.kv c.put_if-answer.new.self c.args.key.now c.args.seen c.args.value.now c.put_if-answer.result) old c.put_if-answer.ensures,
        c.tell_put_if.ensures.stamp,
      );
    }
