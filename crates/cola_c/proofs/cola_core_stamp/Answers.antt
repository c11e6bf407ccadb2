use Rattle.std.proofs.Common.{rules, ◌≡◌, ◌∙◌, subst}
use Rattle.cola_kv.specs.Calls as kv
use Rattle.cola_handle.specs.declared.session.Session.{Session}
use Rattle.cola_handle.specs.Open.{lent_device}
use Rattle.cola_c.proofs.Inside.{inside}
use Rattle.cola_c.proofs.cola_core_stamp.Goals as goal

pub returns-clause-answered : goal.returns-clause-answered
returns-clause-answered c = λ session is.
    let old : c.deref_mut.result.now ≡ session = c.deref_mut.ensures.value ∙ inside _ session _ is c.in-Some.ensures.taken in
    record {
      new = record { kv = c.stamp-answer.new.self };
      answer = c.stamp-answer.result;
      is_open = c.put.ensures;
      number_is = search (rules, c.tell_stamp.ensures.number);
      says = (
        subst (λ (o : Session). kv.Stamps lent_device o.kv c.stamp-answer.new.self c.args.key.now c.stamp-answer.result) old c.stamp-answer.ensures,
        c.tell_stamp.ensures.stamp,
      );
    }
