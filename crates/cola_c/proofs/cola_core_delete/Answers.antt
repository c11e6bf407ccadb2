use Rattle.std.proofs.Common.{rules, ◌≡◌, ◌∙◌, subst}
use Rattle.cola_kv.specs.Calls as kv
use Rattle.cola_handle.specs.declared.session.Session.{Session}
use Rattle.cola_handle.specs.Open.{lent_device}
use Rattle.cola_c.proofs.Inside.{inside}
use Rattle.cola_c.proofs.cola_core_delete.Goals as goal

pub returns-clause-answered : goal.returns-clause-answered
returns-clause-answered c = λ session is.
    let old : c.deref_mut.result.now ≡ session = c.deref_mut.ensures.value ∙ inside _ session _ is c.in-Some.ensures.taken in
    record {
      new = record { kv = c.delete-answer.new.self };
      answer = c.delete-answer.result;
      is_open = c.put.ensures;
      number_is = search (rules, c.tell_delete.ensures);
      says = subst (λ (o : Session). kv.Deletes lent_device o.kv c.delete-answer.new.self c.args.key.now c.delete-answer.result) old c.delete-answer.ensures;
    }
