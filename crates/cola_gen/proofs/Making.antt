-- The puts and then the deletes.
use Rattle.std.proofs.Common.{◌≡◌, ◌+◌, ◌*◌, ◌≤◌, ◌<◌, inl, inr, ℕ, refl, subst, ap, ◌∙◌, arith, List, Some, Option, Result, Ok, Err, OnOk, MatchResult}
use Rattle.std.proofs.Math.Nat.{mul-le-mul_right}
use Rattle.cola_spec.specs.Map.{Map, empty_map, New, put_outcome, value_of}
use Rattle.cola_spec.specs.Reply.{Reply, Failed, Fault, Deleted}
use Rattle.cola_spec.specs.Reply as reply
use Rattle.cola_spec.specs.Machine.{Turn}
use Rattle.cola_spec.specs.Bounds.{put_bound}
use Rattle.cola_table.specs.declared.PutFault.{PutFault}
use Rattle.cola_table.specs.declared.PutFault.TheVariants as fault
use Rattle.cola_table.specs.declared.table.Table as table
use Rattle.cola_table.specs.Terms.{shape}
use Rattle.cola_table.specs.Replies.{put_refused}
use Rattle.cola_gen.specs.Keys.{evens, key_text, value_text}
use Rattle.cola_gen.specs.Commands.{puts, deletes, after_first, left_by}
use Rattle.cola_gen.specs.Turns.{RisesBy, TalliedAll, is_new, is_found}
use Rattle.cola_gen.specs.Answered.{State, Spent, AsMap, Answered, Stopped, Ran, Second, Generated, MadeOdd}
use Rattle.cola_gen.proofs.Totals.{counted_none, counted_all}
use Rattle.cola_gen.proofs.Rising.{spent_ran, puts_ran, deletes_ran, not_over_ran, rises_both, rises_less, put_not_found, delete_not_new}
use Rattle.cola_gen.proofs.Left.{all_new, all_found, has_odd}

-- Which refusals a sound table may answer

device_only : (refusal : PutFault) → put_refused refusal ≡ Failed Fault → refusal ≡ fault.Device
device_only fault.Full is = cc
device_only fault.Worn is = cc
device_only fault.Device is = refl
device_only (fault.BadCell cell) is = cc
device_only (fault.Overfull level) is = cc

never_new : (refusal : PutFault) → put_refused refusal ≡ reply.Put New → ⊥
never_new fault.Full is = cc
never_new fault.Worn is = cc
never_new fault.Device is = cc
never_new (fault.BadCell cell) is = cc
never_new (fault.Overfull level) is = cc

never_deleted : (refusal : PutFault) (value : Option (List ℕ)) → put_refused refusal ≡ Deleted value → ⊥
never_deleted fault.Full value is = cc
never_deleted fault.Worn value is = cc
never_deleted fault.Device value is = cc
never_deleted (fault.BadCell cell) value is = cc
never_deleted (fault.Overfull level) value is = cc

module _ {T W : Type 0} (t : table.Ghosts T W) (levels number : ℕ) (old new : State T) where
  abbrev bound : ℕ
  bound = put_bound (t.terms old.table).depth

  -- after the puts, the deletes ended so
  pub and_second : (result : Result (Unit {0}) PutFault) (between : State T) → Ran t puts put_refused bound levels number (Ok tt) old between → Ran t deletes put_refused (put_bound (t.terms between.table).depth) levels (evens number) result between new → Second t bound levels number result old new
  and_second result between first second = record {
    between = between;
    first = first;
    second = subst (λ s. Ran t deletes put_refused (put_bound s.depth) levels (evens number) result between new) first.answered.keeps.same_terms second;
  }

  pub generated : (result : Result (Unit {0}) PutFault) → Second t bound levels number result old new → Generated t bound levels number result old new
  generated (Ok _) second = second
  generated (Err refusal) second = inr second

  -- What it spent, and by how much the tally rose

  terms_between : (result : Result (Unit {0}) PutFault) (second : Second t bound levels number result old new) → put_bound (t.terms second.between.table).depth ≡ bound
  terms_between result second = ap (λ s. put_bound s.depth) second.first.answered.keeps.same_terms

  second_spent : (result : Result (Unit {0}) PutFault) → Second t bound levels number result old new → Spent t ((number + evens number) * bound) old new
  second_spent result second =
      let a = spent_ran t put_refused bound levels number old second.between puts (λ place depth. refl) refl (Ok tt) second.first in
      let b = spent_ran t put_refused bound levels (evens number) second.between new deletes (λ place depth. refl) (terms_between result second) result second.second in
      let spread : (number + evens number) * bound ≡ number * bound + evens number * bound = grind arith in
      record {
        keeps = record { kept = b.keeps.kept ∙ a.keeps.kept; same_terms = b.keeps.same_terms ∙ a.keeps.same_terms };
        steps_kept = omega (arith, a.steps_kept, b.steps_kept);
        within = omega (arith, a.within, b.within, spread);
      }

  first_spent : (refusal : PutFault) → Stopped t puts bound levels number (put_refused refusal) old new → Spent t ((number + evens number) * bound) old new
  first_spent refusal stopped =
      let a = spent_ran t put_refused bound levels number old new puts (λ place depth. refl) refl (Err refusal) stopped in
      let more : number * bound ≤ (number + evens number) * bound = mul-le-mul_right bound (omega arith) in
      record { keeps = a.keeps; steps_kept = a.steps_kept; within = omega (arith, a.within, more) }

  pub spent : (result : Result (Unit {0}) PutFault) → Generated t bound levels number result old new → Spent t ((number + evens number) * bound) old new
  spent (Ok _) made = second_spent (Ok tt) made
  spent (Err refusal) made = elim made [ inl stopped ↦ first_spent refusal stopped | inr second ↦ second_spent (Err refusal) second ]

  second_rises : (result : Result (Unit {0}) PutFault) → Second t bound levels number result old new → RisesBy number (evens number) 0 (number + evens number) old.tally new.tally
  second_rises result second =
      let a = puts_ran t put_refused bound levels number old second.between (Ok tt) second.first in
      let b = deletes_ran t put_refused bound levels (evens number) second.between new result second.second in
      rises_less (number + 0) (0 + evens number) 0 (number + evens number) number (evens number) 0 (number + evens number) old.tally new.tally (omega arith) (omega arith) (omega arith) (omega arith)
      (rises_both number 0 0 number 0 (evens number) 0 (evens number) old.tally second.between.tally new.tally a b)

  pub rises : (result : Result (Unit {0}) PutFault) → Generated t bound levels number result old new → RisesBy number (evens number) 0 (number + evens number) old.tally new.tally
  rises (Ok _) made = second_rises (Ok tt) made
  rises (Err refusal) made = elim made [
    | inl stopped ↦ rises_less number 0 0 number number (evens number) 0 (number + evens number) old.tally new.tally (omega arith) (omega arith) (omega arith) (omega arith) (puts_ran t put_refused bound levels number old new (Err refusal) stopped)
    | inr second ↦ second_rises (Err refusal) second
  ]

  more_levels : (t.terms old.table).depth ≤ levels → bound ≤ put_bound levels
  more_levels deep = omega (arith, deep)

  second_not_over : (result : Result (Unit {0}) PutFault) → (t.terms old.table).depth ≤ levels → Second t bound levels number result old new → new.tally.over ≡ old.tally.over
  second_not_over result deep second =
      not_over_ran t put_refused bound levels (evens number) second.between new deletes (put_bound levels) (more_levels deep) (λ place. refl) result second.second
      ∙ not_over_ran t put_refused bound levels number old second.between puts (put_bound levels) (more_levels deep) (λ place. refl) (Ok tt) second.first

  pub not_over : (result : Result (Unit {0}) PutFault) → (t.terms old.table).depth ≤ levels → Generated t bound levels number result old new → new.tally.over ≡ old.tally.over
  not_over (Ok _) deep made = second_not_over (Ok tt) deep made
  not_over (Err refusal) deep made = elim made [
    | inl stopped ↦ not_over_ran t put_refused bound levels number old new puts (put_bound levels) (more_levels deep) (λ place. refl) (Err refusal) stopped
    | inr second ↦ second_not_over (Err refusal) deep second
  ]

  -- Where the table held a map

  terms_at : (result : Result (Unit {0}) PutFault) (second : Second t bound levels number result old new) → shape (t.terms second.between.table) ≡ shape (t.terms old.table)
  terms_at result second = ap shape second.first.answered.keeps.same_terms

  pub left : (result : Result (Unit {0}) PutFault) (m : Map) → t.holds old.table m → Generated t bound levels number result old new → OnOk result (t.holds new.table (left_by (shape (t.terms old.table)) m number))
  left (Ok _) m held made =
      let a = (made.first.answered.as_map m held).1 in
      let b = (made.second.answered.as_map (after_first (shape (t.terms old.table)) m puts number) a).1 in
      subst (λ s. t.holds new.table (after_first s (after_first (shape (t.terms old.table)) m puts number) deletes (evens number))) (terms_at (Ok tt) made) b
  left (Err refusal) m held made = tt

  -- From the empty map

  module _ (held : t.holds old.table empty_map) (small : number < 4294967296) (room : number ≤ (t.terms old.table).limit) where
    -- the map after so many puts
    abbrev put_so_far : ℕ → Map
    put_so_far place = after_first (shape (t.terms old.table)) empty_map puts place

    new_at : (place : ℕ) → place < number → put_outcome (shape (t.terms old.table)) (put_so_far place) (key_text place) ≡ New
    new_at place below = all_new (shape (t.terms old.table)) number place below small room

    found_at : (half : ℕ) → half < evens number → (value : List ℕ) × (value_of (after_first (shape (t.terms old.table)) (put_so_far number) deletes half) (key_text (2 * half)) ≡ Some value)
    found_at half below = (value_text (2 * half), all_found (shape (t.terms old.table)) number small room half below)

    first_all : (between : State T) (turns : List Turn) → Answered t puts bound levels number old between turns → between.tally.fresh ≡ old.tally.fresh + number
    first_all between turns a =
        let each = counted_all (λ place. is_new) (shape (t.terms old.table)) empty_map puts turns number (omega (arith, a.number)) (λ place below. ap (λ o. is_new (reply.Put o)) (new_at place below)) (a.as_map empty_map held).0 in
        omega (arith, a.tallied.fresh, each, a.number)

    second_all : (between : State T) (turns : List Turn) → shape (t.terms between.table) ≡ shape (t.terms old.table) → t.holds between.table (put_so_far number) → Answered t deletes bound levels (evens number) between new turns → new.tally.gone ≡ between.tally.gone + evens number
    second_all between turns same held a =
        let as_map = subst (λ s. AsMap s (put_so_far number) deletes turns) same (a.as_map (put_so_far number) held).0 in
        let each = counted_all (λ place. is_found) (shape (t.terms old.table)) (put_so_far number) deletes turns (evens number) (omega (arith, a.number)) (λ half below. ap (λ v. is_found (Deleted v)) (found_at half below).1) as_map in
        omega (arith, a.tallied.gone, each, a.number)

    all_made : Second t bound levels number (Ok tt) old new → TalliedAll number old.tally new.tally
    all_made made =
        let between = made.between in
        let a = made.first in
        let b = made.second in
        let fresh = first_all between a.turns a.answered in
        let gone = second_all between b.turns (terms_at (Ok tt) made) (a.answered.as_map empty_map held).1 b.answered in
        let not_gone = counted_none t puts (λ place. is_found) (λ place. put_not_found place place) a.turns old.table between.table a.answered.gave in
        let not_fresh = counted_none t deletes (λ place. is_new) (λ place. delete_not_new place place) b.turns between.table new.table b.answered.gave in
        record { fresh = omega (arith, fresh, b.answered.tallied.fresh, not_fresh); gone = omega (arith, gone, a.answered.tallied.gone, not_gone) }

    put_stopped : (refusal : PutFault) → Stopped t puts bound levels number (put_refused refusal) old new → refusal ≡ fault.Device
    put_stopped refusal s =
        let m = put_so_far s.place in
        elim (s.refused.as_map m (s.answered.as_map empty_map held).1).0 [
          | inl device ↦ device_only refusal device
          | inr answer ↦ absurd (never_new refusal (answer ∙ ap (λ z. reply.Put (put_outcome (shape z) m (key_text s.place))) s.answered.keeps.same_terms ∙ ap reply.Put (new_at s.place s.in_range)))
        ]

    delete_stopped : (refusal : PutFault) → Second t bound levels number (Err refusal) old new → refusal ≡ fault.Device
    delete_stopped refusal made =
        let s = made.second in
        elim (s.refused.as_map (after_first (shape (t.terms made.between.table)) (put_so_far number) deletes s.place) (s.answered.as_map (put_so_far number) (made.first.answered.as_map empty_map held).1).1).0 [
          | inl device ↦ device_only refusal device
          | inr answer ↦ absurd (never_deleted refusal _ answer)
        ]

    pub from_empty : (result : Result (Unit {0}) PutFault) → Generated t bound levels number result old new → MatchResult result (λ _. MadeOdd t number old new) (λ refusal. refusal ≡ fault.Device)
    from_empty (Ok _) made = record { map = left_by (shape (t.terms old.table)) empty_map number; holds = left (Ok tt) empty_map held made; odd = has_odd (shape (t.terms old.table)) number small room; tallied = all_made made }
    from_empty (Err refusal) made = elim made [ inl stopped ↦ put_stopped refusal stopped | inr second ↦ delete_stopped refusal second ]
