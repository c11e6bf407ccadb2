use Rattle.std.proofs.Common.{rules, ◌≡◌, ◌∙◌, subst}
use Rattle.cola_handle.specs.declared.session.Session.{Session}
use Rattle.cola_handle.specs.Open.{lent_device}
use Rattle.cola_replay.specs.Replays.{Replays}
use Rattle.cola_c.proofs.Inside.{inside}
use Rattle.cola_c.proofs.log.cola_core_log_replay.Goals as goal

pub returns-clause-answered : goal.returns-clause-answered
returns-clause-answered c = λ session is.
    let old : c.deref_mut.result.now ≡ session = c.deref_mut.ensures.value ∙ inside _ session _ is c.in-Some.ensures.taken in
    record {
      new = record { kv = c.replay-answer.new.kv };
      answer = c.replay-answer.result;
      is_open = c.put.ensures;
      number_is = search (rules, c.tell.ensures.number);
      says = record {
        replays = subst (λ (o : Session). Replays lent_device o.kv c.replay-answer.new.kv c.args.page.now c.args.bytes.now c.replay-answer.result) old c.replay-answer.ensures;
        sum_is = c.tell.ensures.sum;
        whole_is = c.tell.ensures.whole;
        done_is = c.tell.ensures.done;
      };
    }
