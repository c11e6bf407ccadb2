-- By how much a tally rises in a list of commands, by their kind.
use Rattle.std.proofs.Common.{◌≡◌, ◌+◌, ◌*◌, ◌≤◌, ℕ, refl, sym, subst, ap, ◌∙◌, arith, List, length, true, false, Result, Ok, Err}
use Rattle.cola_spec.specs.Command.{Command}
use Rattle.cola_spec.specs.Reply.{Reply, Deleted, Got}
use Rattle.cola_spec.specs.Reply as reply
use Rattle.cola_spec.specs.Map.{New}
use Rattle.cola_spec.specs.Machine.{Turn}
use Rattle.cola_spec.specs.Bounds.{command_bound}
use Rattle.cola_table.specs.declared.table.Table as table
use Rattle.cola_gen.specs.declared.Tally.{Tally}
use Rattle.cola_gen.specs.Commands.{puts, deletes, gets}
use Rattle.cola_gen.specs.Turns.{Tallied, RisesBy, accepts, counted, is_new, is_found, is_wrong, is_over}
use Rattle.cola_gen.specs.Answered.{State, Spent, Answered, Ran}
use Rattle.cola_gen.proofs.Totals.{counted_at_most, counted_none, counted_not_over, spent_answered, spent_stopped}

-- What no reply that accepts a command is

pub put_not_found : (place p : ℕ) (answer : Reply) → accepts answer (puts place) ≡ true → is_found answer ≡ false
put_not_found place p (Deleted value) is = cc
put_not_found place p _ is = refl

pub put_not_wrong : (place p : ℕ) (answer : Reply) → accepts answer (puts place) ≡ true → is_wrong p answer ≡ false
put_not_wrong place p (Got value) is = cc
put_not_wrong place p _ is = refl

pub delete_not_new : (place p : ℕ) (answer : Reply) → accepts answer (deletes place) ≡ true → is_new answer ≡ false
delete_not_new place p (reply.Put New) is = cc
delete_not_new place p _ is = refl

pub delete_not_wrong : (place p : ℕ) (answer : Reply) → accepts answer (deletes place) ≡ true → is_wrong p answer ≡ false
delete_not_wrong place p (Got value) is = cc
delete_not_wrong place p _ is = refl

pub get_not_new : (place p : ℕ) (answer : Reply) → accepts answer (gets place) ≡ true → is_new answer ≡ false
get_not_new place p (reply.Put New) is = cc
get_not_new place p _ is = refl

pub get_not_found : (place p : ℕ) (answer : Reply) → accepts answer (gets place) ≡ true → is_found answer ≡ false
get_not_found place p (Deleted value) is = cc
get_not_found place p _ is = refl

-- rises one after another
pub rises_both : (f g w o f' g' w' o' : ℕ) (old between new : Tally) → RisesBy f g w o old between → RisesBy f' g' w' o' between new → RisesBy (f + f') (g + g') (w + w') (o + o') old new
rises_both f g w o f' g' w' o' old between new a b = record {
  fresh_kept = omega (arith, a.fresh_kept, b.fresh_kept);
  fresh_within = omega (arith, a.fresh_within, b.fresh_within);
  gone_kept = omega (arith, a.gone_kept, b.gone_kept);
  gone_within = omega (arith, a.gone_within, b.gone_within);
  wrong_kept = omega (arith, a.wrong_kept, b.wrong_kept);
  wrong_within = omega (arith, a.wrong_within, b.wrong_within);
  over_kept = omega (arith, a.over_kept, b.over_kept);
  over_within = omega (arith, a.over_within, b.over_within);
}

pub rises_less : (f g w o f' g' w' o' : ℕ) (old new : Tally) → f ≤ f' → g ≤ g' → w ≤ w' → o ≤ o' → RisesBy f g w o old new → RisesBy f' g' w' o' old new
rises_less f g w o f' g' w' o' old new lf lg lw lo a = record {
  fresh_kept = a.fresh_kept;
  fresh_within = omega (arith, a.fresh_within);
  gone_kept = a.gone_kept;
  gone_within = omega (arith, a.gone_within);
  wrong_kept = a.wrong_kept;
  wrong_within = omega (arith, a.wrong_within);
  over_kept = a.over_kept;
  over_within = omega (arith, a.over_within);
}

rises_as : (levels count f g w : ℕ) (turns : List Turn) (old new : Tally) → length turns ≡ count → Tallied levels turns old new
    → counted (λ place turn. is_new turn.answer) turns ≤ f → counted (λ place turn. is_found turn.answer) turns ≤ g → counted (λ place turn. is_wrong place turn.answer) turns ≤ w
    → RisesBy f g w count old new
rises_as levels count f g w turns old new number tallied new_most found_most wrong_most =
    let over_most = counted_at_most (λ place turn. is_over levels turn) turns in
    record {
      fresh_kept = omega (arith, tallied.fresh);
      fresh_within = omega (arith, tallied.fresh, new_most);
      gone_kept = omega (arith, tallied.gone);
      gone_within = omega (arith, tallied.gone, found_most);
      wrong_kept = omega (arith, tallied.wrong);
      wrong_within = omega (arith, tallied.wrong, wrong_most);
      over_kept = omega (arith, tallied.over);
      over_within = omega (arith, tallied.over, over_most, number);
    }

module _ {T W : Type 0} (t : table.Ghosts T W) (bound levels count : ℕ) (old new : State T) where
  pub puts_rise : (turns : List Turn) → Answered t puts bound levels count old new turns → RisesBy count 0 0 count old.tally new.tally
  puts_rise turns a =
      let fresh = counted_at_most (λ place turn. is_new turn.answer) turns in
      let found = counted_none t puts (λ place. is_found) (λ place. put_not_found place place) turns old.table new.table a.gave in
      let wrong = counted_none t puts is_wrong (λ place. put_not_wrong place place) turns old.table new.table a.gave in
      rises_as levels count count 0 0 turns old.tally new.tally a.number a.tallied (omega (arith, fresh, a.number)) (omega (arith, found)) (omega (arith, wrong))

  pub deletes_rise : (turns : List Turn) → Answered t deletes bound levels count old new turns → RisesBy 0 count 0 count old.tally new.tally
  deletes_rise turns a =
      let fresh = counted_none t deletes (λ place. is_new) (λ place. delete_not_new place place) turns old.table new.table a.gave in
      let found = counted_at_most (λ place turn. is_found turn.answer) turns in
      let wrong = counted_none t deletes is_wrong (λ place. delete_not_wrong place place) turns old.table new.table a.gave in
      rises_as levels count 0 count 0 turns old.tally new.tally a.number a.tallied (omega (arith, fresh)) (omega (arith, found, a.number)) (omega (arith, wrong))

  pub gets_rise : (turns : List Turn) → Answered t gets bound levels count old new turns → RisesBy 0 0 count count old.tally new.tally
  gets_rise turns a =
      let fresh = counted_none t gets (λ place. is_new) (λ place. get_not_new place place) turns old.table new.table a.gave in
      let found = counted_none t gets (λ place. is_found) (λ place. get_not_found place place) turns old.table new.table a.gave in
      let wrong = counted_at_most (λ place turn. is_wrong place turn.answer) turns in
      rises_as levels count 0 0 count turns old.tally new.tally a.number a.tallied (omega (arith, fresh)) (omega (arith, found)) (omega (arith, wrong, a.number))

  pub not_over : (command : ℕ → Command) (limit : ℕ) (turns : List Turn) → bound ≤ limit → ((place : ℕ) → command_bound levels (command place) ≡ limit) → Answered t command bound levels count old new turns → new.tally.over ≡ old.tally.over
  not_over command limit turns most is a = omega (arith, a.tallied.over, counted_not_over t command bound limit levels most is turns old.table new.table a.gave a.within)

-- Of a list that was answered, or stopped at the first refusal

module _ {T W E : Type 0} (t : table.Ghosts T W) (reply : E → Reply) (bound levels count : ℕ) (old new : State T) where
  pub spent_ran : (command : ℕ → Command) → ((place depth : ℕ) → command_bound depth (command place) ≡ command_bound depth (command 0)) → command_bound (t.terms old.table).depth (command 0) ≡ bound → (result : Result (Unit {0}) E) → Ran t command reply bound levels count result old new → Spent t (count * bound) old new
  spent_ran command alike is (Ok _) ran = spent_answered t command bound levels count old new ran.turns ran.answered
  spent_ran command alike is (Err fault) ran = spent_stopped t command bound levels count (reply fault) old new alike is ran

  pub puts_ran : (result : Result (Unit {0}) E) → Ran t puts reply bound levels count result old new → RisesBy count 0 0 count old.tally new.tally
  puts_ran (Ok _) ran = puts_rise t bound levels count old new ran.turns ran.answered
  puts_ran (Err fault) ran = subst (RisesBy count 0 0 count old.tally) (sym ran.refused.same_tally) (rises_less ran.place 0 0 ran.place count 0 0 count old.tally ran.before.tally (omega (arith, ran.in_range)) (omega arith) (omega arith) (omega (arith, ran.in_range)) (puts_rise t bound levels ran.place old ran.before ran.turns ran.answered))

  pub deletes_ran : (result : Result (Unit {0}) E) → Ran t deletes reply bound levels count result old new → RisesBy 0 count 0 count old.tally new.tally
  deletes_ran (Ok _) ran = deletes_rise t bound levels count old new ran.turns ran.answered
  deletes_ran (Err fault) ran = subst (RisesBy 0 count 0 count old.tally) (sym ran.refused.same_tally) (rises_less 0 ran.place 0 ran.place 0 count 0 count old.tally ran.before.tally (omega arith) (omega (arith, ran.in_range)) (omega arith) (omega (arith, ran.in_range)) (deletes_rise t bound levels ran.place old ran.before ran.turns ran.answered))

  pub gets_ran : (result : Result (Unit {0}) E) → Ran t gets reply bound levels count result old new → RisesBy 0 0 count count old.tally new.tally
  gets_ran (Ok _) ran = gets_rise t bound levels count old new ran.turns ran.answered
  gets_ran (Err fault) ran = subst (RisesBy 0 0 count count old.tally) (sym ran.refused.same_tally) (rises_less 0 0 ran.place ran.place 0 0 count count old.tally ran.before.tally (omega arith) (omega arith) (omega (arith, ran.in_range)) (omega (arith, ran.in_range)) (gets_rise t bound levels ran.place old ran.before ran.turns ran.answered))

  pub not_over_ran : (command : ℕ → Command) (limit : ℕ) → bound ≤ limit → ((place : ℕ) → command_bound levels (command place) ≡ limit) → (result : Result (Unit {0}) E) → Ran t command reply bound levels count result old new → new.tally.over ≡ old.tally.over
  not_over_ran command limit most is (Ok _) ran = not_over t bound levels count old new command limit ran.turns most is ran.answered
  not_over_ran command limit most is (Err fault) ran = ap (λ tally. tally.over) ran.refused.same_tally ∙ not_over t bound levels ran.place old ran.before command limit ran.turns most is ran.answered
