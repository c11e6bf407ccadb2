-- One more turn of a list of commands.
use Rattle.std.proofs.Common.{◌≡◌, ◌+◌, ◌≤◌, ◌<◌, ℕ, suc, refl, sym, subst, ap, ◌∙◌, arith, List, [], ◌∷◌, length, Bool, true, false, Some}
use Rattle.std.proofs.lemmas.List.Elements.{All-cons, All-nil}
use Rattle.cola_spec.specs.Map.{Map}
use Rattle.cola_spec.specs.Command.{Command}
use Rattle.cola_spec.specs.Reply.{Reply}
use Rattle.cola_spec.specs.Machine.{Turn, open_reply}
use Rattle.cola_table.specs.declared.table.Table as table
use Rattle.cola_table.specs.Terms.{shape}
use Rattle.cola_gen.specs.declared.Tally.{Tally}
use Rattle.cola_gen.specs.Commands.{map_after, after_first}
use Rattle.cola_gen.specs.Turns.{Tallied, TalliedOne, HasOneMore, HasCounted, accepts, one, is_new, is_found, is_wrong, is_over}
use Rattle.cola_gen.specs.Answered.{State, AsMap, Answered, Accepted, Refused, Stopped, AllAnswered}

-- no turn yet

pub tallied_none : (levels : ℕ) (tally : Tally) → Tallied levels [] tally tally
tallied_none levels tally = record { fresh = omega arith; gone = omega arith; wrong = omega arith; over = omega arith }

-- one more

one_at_most : (holds : Bool) → one holds ≤ 1
one_at_most true = omega arith
one_at_most false = omega arith

pub tallied_more : (levels place : ℕ) (turns : List Turn) (turn : Turn) (old middle new : Tally) → length turns ≡ place → Tallied levels turns old middle → TalliedOne levels place turn middle new → Tallied levels (turn ∷ turns) old new
tallied_more levels place turns turn old middle new number tallied more = record {
  fresh = omega (arith, tallied.fresh, more.fresh);
  gone = omega (arith, tallied.gone, more.gone);
  wrong = omega (arith, tallied.wrong, more.wrong, ap (λ at. one (is_wrong at turn.answer)) number);
  over = omega (arith, tallied.over, more.over);
}

pub counted_more : (levels place count : ℕ) (turn : Turn) (old new : Tally) → TalliedOne levels place turn old new → HasCounted count old → HasCounted (count + 1) new
counted_more levels place count turn old new more counts = record {
  fresh = omega (arith, counts.fresh, more.fresh, one_at_most (is_new turn.answer));
  gone = omega (arith, counts.gone, more.gone, one_at_most (is_found turn.answer));
  wrong = omega (arith, counts.wrong, more.wrong, one_at_most (is_wrong place turn.answer));
  over = omega (arith, counts.over, more.over, one_at_most (is_over levels turn));
}

pub room_for_one : (count : ℕ) (tally : Tally) → count < 9223372036854775807 → HasCounted count tally → HasOneMore tally
room_for_one count tally few counts = record {
  fresh = omega (arith, counts.fresh);
  gone = omega (arith, counts.gone);
  wrong = omega (arith, counts.wrong);
  over = omega (arith, counts.over);
}

module _ {T W : Type 0} (t : table.Ghosts T W) (command : ℕ → Command) (bound levels : ℕ) where
  pub none_answered : (old : State T) → Answered t command bound levels 0 old old []
  none_answered old = record {
    number = refl;
    gave = refl;
    tallied = tallied_none levels old.tally;
    ticks = omega arith;
    within = All-nil _;
    faults = refl;
    keeps = record { kept = refl; same_terms = refl };
    as_map = λ m held. (tt, held);
  }

  map_more : (place : ℕ) (old middle new : State T) (turns : List Turn) (turn : Turn) (m : Map) → t.terms middle.table ≡ t.terms old.table → length turns ≡ place
      → AsMap (shape (t.terms old.table)) m command turns
      → (turn.answer ≡ open_reply (shape (t.terms middle.table)) (after_first (shape (t.terms old.table)) m command place) (command place)) × t.holds new.table (map_after (shape (t.terms middle.table)) (after_first (shape (t.terms old.table)) m command place) (command place))
      → AsMap (shape (t.terms old.table)) m command (turn ∷ turns) × t.holds new.table (after_first (shape (t.terms old.table)) m command (suc place))
  map_more place old middle new turns turn m terms number as_map answer = (
    (answer.0 ∙ ap (λ s. open_reply (shape s) (after_first (shape (t.terms old.table)) m command place) (command place)) terms ∙ ap (λ at. open_reply (shape (t.terms old.table)) (after_first (shape (t.terms old.table)) m command at) (command at)) (sym number), as_map),
    subst (λ s. t.holds new.table (map_after (shape s) (after_first (shape (t.terms old.table)) m command place) (command place))) terms answer.1,
  )

  pub one_more : (place : ℕ) (old middle new : State T) (turns : List Turn) → Answered t command bound levels place old middle turns → (a : Accepted t (command place) bound levels place middle new) → Answered t command bound levels (place + 1) old new (a.turn ∷ turns)
  one_more place old middle new turns answered a = record {
    number = omega (arith, answered.number);
    gave = (middle.table, (answered.gave, a.given, a.asked ∙ ap (λ at. Some (command at)) (sym answered.number), ap (λ at. accepts a.turn.answer (command at)) answered.number ∙ a.accepted));
    tallied = tallied_more levels place turns a.turn old.tally middle.tally new.tally answered.number answered.tallied a.tallied;
    ticks = omega (arith, answered.ticks, a.ticks);
    within = All-cons (λ turn. turn.ticks ≤ bound) a.turn turns a.within answered.within;
    faults = a.faults ∙ answered.faults;
    keeps = record { kept = a.keeps.kept ∙ answered.keeps.kept; same_terms = a.keeps.same_terms ∙ answered.keeps.same_terms };
    as_map = λ m held.
        let so_far = answered.as_map m held in
        let more = map_more place old middle new turns a.turn m answered.keeps.same_terms answered.number so_far.0 (a.as_map (after_first (shape (t.terms old.table)) m command place) so_far.1) in
        let next : suc place ≡ place + 1 = omega arith in
        (more.0, subst (λ count. t.holds new.table (after_first (shape (t.terms old.table)) m command count)) next more.1);
  }

  -- the loop's state
  pub record SoFar (place : ℕ) (old now : State T) : Type 0 where
    pub turns : List Turn
    pub answered : Answered t command bound levels place old now turns

  pub ended : (place count : ℕ) (old now : State T) → place ≡ count → SoFar place old now → AllAnswered t command bound levels count old now
  ended place count old now is so_far = record { turns = so_far.turns; answered = subst (λ n. Answered t command bound levels n old now so_far.turns) is so_far.answered }

module _ {T W : Type 0} (t : table.Ghosts T W) (command : ℕ → Command) (bound : ℕ → ℕ) (levels : ℕ) where
  pub begun : (old : State T) → SoFar t command (bound (t.terms old.table).depth) levels 0 old old
  begun old = record { turns = []; answered = none_answered t command (bound (t.terms old.table).depth) levels old }

  pub goes_on : (place : ℕ) (old middle new : State T) → SoFar t command (bound (t.terms old.table).depth) levels place old middle → Accepted t (command place) (bound (t.terms middle.table).depth) levels place middle new → SoFar t command (bound (t.terms old.table).depth) levels (place + 1) old new
  goes_on place old middle new so_far a =
      let b : Accepted t (command place) (bound (t.terms old.table).depth) levels place middle new = subst (λ s. Accepted t (command place) (bound s.depth) levels place middle new) so_far.answered.keeps.same_terms a in
      record { turns = b.turn ∷ so_far.turns; answered = one_more t command (bound (t.terms old.table).depth) levels place old middle new so_far.turns so_far.answered b }

  pub counts_on : (place count : ℕ) (middle new : State T) (depth : ℕ) → Accepted t (command place) depth levels place middle new → HasCounted count middle.tally → HasCounted (count + 1) new.tally
  counts_on place count middle new depth a counts = counted_more levels place count a.turn middle.tally new.tally a.tallied counts

  pub stops : (place count : ℕ) (answer : Reply) (old middle new : State T) → place < count → SoFar t command (bound (t.terms old.table).depth) levels place old middle → Refused t (command place) answer middle new → Stopped t command (bound (t.terms old.table).depth) levels count answer old new
  stops place count answer old middle new in_range so_far refused = record { place = place; in_range = in_range; before = middle; turns = so_far.turns; answered = so_far.answered; refused = refused }
