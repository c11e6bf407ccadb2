use Rattle.std.proofs.Common.{rules, ◌≡◌, ◌∙◌, ℕ, length, pos, Some, subst}
use Rattle.cola_handle.specs.declared.session.Session.{Session}
use Rattle.cola_handle.specs.Cursors.{gave}
use Rattle.cola_handle.specs.Numbers.{number}
use Rattle.cola_c.specs.Exports.{Nexts}
use Rattle.cola_c.proofs.Ended.{ended}
use Rattle.cola_c.proofs.Inside.{inside}
use Rattle.cola_c.proofs.cola_core_next.Goals as goal

-- the number is that of the answer for so many rows as were asked for
told : (c : goal.After-tell_next) → c.tell_next.result ≡ pos (number (gave (length c.args.rows.now) c.next_on-next.result))
told c = subst (λ (wanted : ℕ). c.tell_next.result ≡ pos (number (gave wanted c.next_on-next.result))) c.next_on-next.auto.rows c.tell_next.ensures.number

-- what is said of the session that was taken out is said of the one behind the handle
nexts : (c : goal.After-tell_next) (session : Session) → c.args.cola.now.owned.session ≡ Some session → Nexts session c.args.cursor.now c.args.rows.now c.next_on-next.new.session c.next_on-next.new.cursor c.next_on-next.new.rows c.next_on-next.result
nexts c session is =
    let old : c.deref_mut.result.now ≡ session = c.deref_mut.ensures.value ∙ inside _ session _ is c.in-Some.ensures.taken in
    subst (λ (o : Session). Nexts o c.args.cursor.now c.args.rows.now c.next_on-next.new.session c.next_on-next.new.cursor c.next_on-next.new.rows c.next_on-next.result) old c.next_on-next.ensures

pub returns-clause-answered : goal.returns-clause-answered
returns-clause-answered c = λ session is. record {
  new = c.next_on-next.new.session;
  answer = c.next_on-next.result;
  is_open = c.put.ensures;
  number_is = search (rules, told c);
  says = (nexts c session is, c.tell_next.ensures.given);
}

pub returns-clause-ended : goal.returns-clause-ended
returns-clause-ended c = λ session is m held good.
    ended m session c.next_on-next.new.session c.args.cursor.now c.next_on-next.new.cursor c.args.rows.now c.next_on-next.new.rows c.next_on-next.result _ (search (rules, told c)) c.next_on-next.auto.rows held good (nexts c session is)
