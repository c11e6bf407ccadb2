-- What all turns of a list of commands come to.
use Rattle.std.proofs.Common.{◌≡◌, ◌+◌, ◌*◌, ◌≤◌, ◌<◌, ℕ, refl, All, ap, ◌∙◌, arith, List, [], ◌∷◌, length, Bool, true, false}
use Rattle.std.proofs.lemmas.Bool.{le-ltb}
use Rattle.std.proofs.lemmas.List.Elements.{All-head, All-tail}
use Rattle.std.proofs.Math.Nat.{mul-le-mul_right}
use Rattle.cola_spec.specs.Map.{Shape, Map}
use Rattle.cola_spec.specs.Command.{Command}
use Rattle.cola_spec.specs.Reply.{Reply}
use Rattle.cola_spec.specs.Machine.{Turn, ticks_of, open_reply}
use Rattle.cola_spec.specs.Bounds.{command_bound, request_bound}
use Rattle.cola_table.specs.declared.table.Table as table
use Rattle.cola_table.specs.Terms.{shape}
use Rattle.cola_gen.specs.Commands.{after_first}
use Rattle.cola_gen.specs.Turns.{accepts, counted, one, is_over}
use Rattle.cola_gen.specs.Answered.{State, Spent, Gave, AsMap, Answered, Stopped}

-- no more turns pass a test than there are

pub counted_at_most : (test : ℕ → Turn → Bool) (turns : List Turn) → counted test turns ≤ length turns
counted_at_most test [] = omega arith
counted_at_most test (turn ∷ turns) =
    let rest = counted_at_most test turns in
    let first : one (test (length turns) turn) ≤ 1 = elim (test (length turns) turn) as (λ b. one b ≤ 1) [ true ↦ omega arith | false ↦ omega arith ] in
    omega arith

-- the cell accesses of turns that are each within a bound
pub ticks_at_most : (bound : ℕ) (turns : List Turn) (within : All (λ turn. turn.ticks ≤ bound) turns) → ticks_of turns ≤ length turns * bound
ticks_at_most bound [] within = omega arith
ticks_at_most bound (turn ∷ turns) within =
    let rest = ticks_at_most bound turns (All-tail (λ turn. turn.ticks ≤ bound) turn turns within) in
    let first = All-head (λ turn. turn.ticks ≤ bound) turn turns within in
    grind arith

module _ {T W : Type 0} (t : table.Ghosts T W) (command : ℕ → Command) where
  -- a test that no accepting reply passes
  pub counted_none : (test : ℕ → Reply → Bool) → ((place : ℕ) (answer : Reply) → accepts answer (command place) ≡ true → test place answer ≡ false) → (turns : List Turn) (old new : T) → Gave t command old turns new → counted (λ place turn. test place turn.answer) turns ≡ 0
  counted_none test never [] old new gave = refl
  counted_none test never (turn ∷ turns) old new gave =
      let rest = counted_none test never turns old gave.0 gave.1.0 in
      let first : one (test (length turns) turn.answer) ≡ 0 = ap one (never (length turns) turn.answer gave.1.3) in
      omega arith

  -- where no turn makes more cell accesses than its bound, none is over
  pub counted_not_over : (bound limit levels : ℕ) → bound ≤ limit → ((place : ℕ) → command_bound levels (command place) ≡ limit) → (turns : List Turn) (old new : T) → Gave t command old turns new → All (λ turn. turn.ticks ≤ bound) turns → counted (λ place turn. is_over levels turn) turns ≡ 0
  counted_not_over bound limit levels most is [] old new gave within = refl
  counted_not_over bound limit levels most is (turn ∷ turns) old new gave within =
      let rest = counted_not_over bound limit levels most is turns old gave.0 gave.1.0 (All-tail (λ turn. turn.ticks ≤ bound) turn turns within) in
      let head = All-head (λ turn. turn.ticks ≤ bound) turn turns within in
      let asked : request_bound levels turn.request ≡ limit = ap (request_bound levels) gave.1.2 ∙ is (length turns) in
      let first : one (is_over levels turn) ≡ 0 = ap one (le-ltb (request_bound levels turn.request) turn.ticks (omega (arith, head, asked, most))) in
      omega arith

-- every turn of a map that passes a test is counted, where the map's reply at every place passes
pub counted_all : (test : ℕ → Reply → Bool) (shape : Shape) (m : Map) (command : ℕ → Command) (turns : List Turn) (most : ℕ) → length turns ≤ most
    → ((place : ℕ) → place < most → test place (open_reply shape (after_first shape m command place) (command place)) ≡ true)
    → AsMap shape m command turns → counted (λ place turn. test place turn.answer) turns ≡ length turns
counted_all test shape m command [] most within always as_map = refl
counted_all test shape m command (turn ∷ turns) most within always as_map =
    let rest = counted_all test shape m command turns most (omega arith) always as_map.1 in
    let first : one (test (length turns) turn.answer) ≡ 1 = ap (λ answer. one (test (length turns) answer)) as_map.0 ∙ ap one (always (length turns) (omega arith)) in
    omega arith

-- What a whole list of commands spent

module _ {T W : Type 0} (t : table.Ghosts T W) (command : ℕ → Command) (bound levels : ℕ) where
  pub spent_answered : (count : ℕ) (old new : State T) (turns : List Turn) → Answered t command bound levels count old new turns → Spent t (count * bound) old new
  spent_answered count old new turns answered =
      let ticks = ticks_at_most bound turns answered.within in
      let same : length turns * bound ≡ count * bound = ap (λ n. n * bound) answered.number in
      record { keeps = answered.keeps; steps_kept = omega (arith, answered.ticks); within = omega (arith, answered.ticks) }

  pub spent_stopped : (count : ℕ) (answer : Reply) (old new : State T) → ((place : ℕ) (depth : ℕ) → command_bound depth (command place) ≡ command_bound depth (command 0)) → command_bound (t.terms old.table).depth (command 0) ≡ bound → Stopped t command bound levels count answer old new → Spent t (count * bound) old new
  spent_stopped count answer old new alike is stopped =
      let before = spent_answered stopped.place old stopped.before stopped.turns stopped.answered in
      let depth : (t.terms stopped.before.table).depth ≡ (t.terms old.table).depth = ap (λ s. s.depth) before.keeps.same_terms in
      let last : command_bound (t.terms stopped.before.table).depth (command stopped.place) ≡ bound = ap (λ d. command_bound d (command stopped.place)) depth ∙ alike stopped.place (t.terms old.table).depth ∙ is in
      let more : (stopped.place + 1) * bound ≤ count * bound = mul-le-mul_right bound (omega (arith, stopped.in_range)) in
      let spread : (stopped.place + 1) * bound ≡ stopped.place * bound + bound = grind arith in
      record {
        keeps = record { kept = stopped.refused.keeps.kept ∙ before.keeps.kept; same_terms = stopped.refused.keeps.same_terms ∙ before.keeps.same_terms };
        steps_kept = omega (arith, before.steps_kept, stopped.refused.steps_kept);
        within = omega (arith, before.within, stopped.refused.within, last, more, spread);
      }
