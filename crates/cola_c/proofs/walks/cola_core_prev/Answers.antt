use Rattle.std.proofs.Common.{rules, ◌≡◌, ◌∙◌, ℕ, length, pos, Some, subst}
use Rattle.cola_handle.specs.declared.session.Session.{Session}
use Rattle.cola_handle.specs.Cursors.{gave}
use Rattle.cola_handle.specs.Numbers.{number}
use Rattle.cola_c.specs.Walks.{Prevs}
use Rattle.cola_c.proofs.Started.{started}
use Rattle.cola_c.proofs.Inside.{inside}
use Rattle.cola_c.proofs.walks.cola_core_prev.Goals as goal

-- the number is that of the answer for so many rows as were asked for
told : (c : goal.After-tell_next) → c.tell_next.result ≡ pos (number (gave (length c.args.rows.now) c.prev_on-prev.result))
told c = subst (λ (wanted : ℕ). c.tell_next.result ≡ pos (number (gave wanted c.prev_on-prev.result))) c.prev_on-prev.auto.rows c.tell_next.ensures.number

-- what is said of the session that was taken out is said of the one behind the handle
prevs : (c : goal.After-tell_next) (session : Session) → c.args.cola.now.owned.session ≡ Some session → Prevs session c.args.cursor.now c.args.rows.now c.prev_on-prev.new.session c.prev_on-prev.new.cursor c.prev_on-prev.new.rows c.prev_on-prev.result
prevs c session is =
    let old : c.deref_mut.result.now ≡ session = c.deref_mut.ensures.value ∙ inside _ session _ is c.in-Some.ensures.taken in
    subst (λ (o : Session). Prevs o c.args.cursor.now c.args.rows.now c.prev_on-prev.new.session c.prev_on-prev.new.cursor c.prev_on-prev.new.rows c.prev_on-prev.result) old c.prev_on-prev.ensures

pub returns-clause-answered : goal.returns-clause-answered
returns-clause-answered c = λ session is. record {
  new = c.prev_on-prev.new.session;
  answer = c.prev_on-prev.result;
  is_open = c.put.ensures;
  number_is = search (rules, told c);
  says = (prevs c session is, c.tell_next.ensures.given);
}

pub returns-clause-ended : goal.returns-clause-ended
returns-clause-ended c = λ session is m held good.
    started m session c.prev_on-prev.new.session c.args.cursor.now c.prev_on-prev.new.cursor c.args.rows.now c.prev_on-prev.new.rows c.prev_on-prev.result _ (search (rules, told c)) c.prev_on-prev.auto.rows held good (prevs c session is)
