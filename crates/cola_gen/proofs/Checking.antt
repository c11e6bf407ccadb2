-- The gets.
use Rattle.std.proofs.Common.{◌≡◌, ◌+◌, ◌*◌, ◌≤◌, inl, inr, ℕ, zero, suc, refl, subst, ap, ◌∙◌, arith, List, [], ◌∷◌, length, true, not, Some, None, Option, Result, Ok, Err, OnOk, MatchResult}
use Rattle.std.proofs.lemmas.Slice.Eq.{bytes_eq-Decides}
use Rattle.cola_cell.specs.declared.fault.ReadFault.{ReadFault}
use Rattle.cola_cell.specs.declared.fault.ReadFault.TheVariants as fault
use Rattle.cola_spec.specs.Map.{Shape, Map, value_of}
use Rattle.cola_spec.specs.Reply.{Failed, Fault, Got}
use Rattle.cola_spec.specs.Machine.{Turn}
use Rattle.cola_spec.specs.Bounds.{get_bound}
use Rattle.cola_table.specs.declared.table.Table as table
use Rattle.cola_table.specs.Terms.{shape}
use Rattle.cola_gen.specs.Keys.{key_text, expected, HasOdd}
use Rattle.cola_gen.specs.Commands.{gets, after_first}
use Rattle.cola_gen.specs.Turns.{RisesBy, counted, one, same, is_wrong, wrong_in}
use Rattle.cola_gen.specs.Answered.{State, Spent, AsMap, Ran, read_refused}
use Rattle.cola_gen.proofs.Rising.{spent_ran, gets_ran, not_over_ran}

-- a get leaves the map
gets_keep : (shape : Shape) (m : Map) (count : ℕ) → after_first shape m gets count ≡ m
gets_keep shape m zero = refl
gets_keep shape m (suc count) = gets_keep shape m count

-- the wrong answers of a map
wrong_as_map : (shape : Shape) (m : Map) (turns : List Turn) → AsMap shape m gets turns → counted (λ place turn. is_wrong place turn.answer) turns ≡ wrong_in m (length turns)
wrong_as_map shape m [] as_map = refl
wrong_as_map shape m (turn ∷ turns) as_map =
    let rest = wrong_as_map shape m turns as_map.1 in
    let first = ap (λ answer. one (is_wrong (length turns) answer)) as_map.0 ∙ ap (λ n. one (is_wrong (length turns) (Got (value_of n (key_text (length turns)))))) (gets_keep shape m (length turns)) in
    omega (arith, first, rest)

same_self : (value : Option (List ℕ)) → same value value ≡ true
same_self None = refl
same_self (Some bytes) = (bytes_eq-Decides bytes bytes).1 refl

none_wrong_in : (m : Map) (number below : ℕ) → below ≤ number → HasOdd number m → wrong_in m below ≡ 0
none_wrong_in m number zero within has = refl
none_wrong_in m number (suc place) within has =
    let rest = none_wrong_in m number place (omega arith) has in
    let first : one (not (same (value_of m (key_text place)) (expected place))) ≡ 0 =
    ap (λ v. one (not (same v (expected place)))) (has.values place (omega arith)) ∙ ap (λ b. one (not b)) (same_self (expected place)) in
    omega (arith, first, rest)

device_only : (refusal : ReadFault) → read_refused refusal ≡ Failed Fault → refusal ≡ fault.Device
device_only fault.Device is = refl
device_only (fault.BadCell cell) is = cc

never_got : (refusal : ReadFault) (value : Option (List ℕ)) → read_refused refusal ≡ Got value → ⊥
never_got refusal value is = cc

module _ {T W : Type 0} (t : table.Ghosts T W) (levels number : ℕ) (old new : State T) where
  abbrev bound : ℕ
  bound = get_bound (t.terms old.table).depth

  pub sound : (result : Result (Unit {0}) ReadFault) (m : Map) → t.holds old.table m → Ran t gets read_refused bound levels number result old new → t.holds new.table m
  sound (Ok _) m held ran = subst (t.holds new.table) (gets_keep (shape (t.terms old.table)) m number) (ran.answered.as_map m held).1
  sound (Err refusal) m held ran =
      (ran.refused.as_map m (subst (t.holds ran.before.table) (gets_keep (shape (t.terms old.table)) m ran.place) (ran.answered.as_map m held).1)).1

  pub wrong : (result : Result (Unit {0}) ReadFault) (m : Map) → t.holds old.table m → Ran t gets read_refused bound levels number result old new → MatchResult result (λ _. new.tally.wrong ≡ old.tally.wrong + wrong_in m number) (λ refusal. refusal ≡ fault.Device)
  wrong (Ok _) m held ran =
      let as_map = wrong_as_map (shape (t.terms old.table)) m ran.turns (ran.answered.as_map m held).0 in
      let counts = ap (wrong_in m) ran.answered.number in
      omega (arith, ran.answered.tallied.wrong, as_map, counts)
  wrong (Err refusal) m held ran =
      let before = subst (t.holds ran.before.table) (gets_keep (shape (t.terms old.table)) m ran.place) (ran.answered.as_map m held).1 in
      elim (ran.refused.as_map m before).0 [ inl device ↦ device_only refusal device | inr answer ↦ absurd (never_got refusal _ answer) ]

  pub none_wrong : (result : Result (Unit {0}) ReadFault) (m : Map) → t.holds old.table m → HasOdd number m → Ran t gets read_refused bound levels number result old new → OnOk result (new.tally.wrong ≡ old.tally.wrong)
  none_wrong (Ok unit) m held has ran = omega (arith, wrong (Ok unit) m held ran, none_wrong_in m number number (omega arith) has)
  none_wrong (Err refusal) m held has ran = tt

  pub not_over : (result : Result (Unit {0}) ReadFault) → (t.terms old.table).depth ≤ levels → Ran t gets read_refused bound levels number result old new → new.tally.over ≡ old.tally.over
  not_over result deep ran = not_over_ran t read_refused bound levels number old new gets (get_bound levels) (omega (arith, deep)) (λ place. refl) result ran

  pub rises : (result : Result (Unit {0}) ReadFault) → Ran t gets read_refused bound levels number result old new → RisesBy 0 0 number number old.tally new.tally
  rises result ran = gets_ran t read_refused bound levels number old new result ran

  pub spent : (result : Result (Unit {0}) ReadFault) → Ran t gets read_refused bound levels number result old new → Spent t (number * bound) old new
  spent result ran = spent_ran t read_refused bound levels number old new gets (λ place depth. refl) refl result ran
