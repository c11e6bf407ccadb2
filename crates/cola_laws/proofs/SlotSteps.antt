-- One mutation of levels in their slots, at a clock that wraps.
use Rattle.std.proofs.Common.{◌≡◌, ℕ, suc, ◌+◌, ◌-◌, ◌%◌, ◌^◌, ◌≤◌, List, [], ◌∷◌, length, refl, sym, ap, subst, arith, Option}
use mathlib.Core.Path.{ap₂}
use Rattle.std.specs.declared.cmp.Ordering.{Ordering}
use Rattle.std.specs.Cmp.{IsTotalOrder}
use Rattle.cola_clock.specs.Clock.{visible_slot, SameSchedule}
use Rattle.cola_clock.proofs.Wrap.{schedule-wrap}
use Rattle.cola_clock.proofs.MarkLaws.{length-after}
use Rattle.cola_runs.specs.Cells.{Item, Cell}
use Rattle.cola_laws.specs.Chain.{Level, updated}
use Rattle.cola_laws.specs.Sound.{HasAtMost, IsSound}
use Rattle.cola_laws.specs.Mutation.{AreAdvanced, IsBuilt, level_after, levels_after}
use Rattle.cola_clock.specs.Marks.{Marks, marks_after, all_marks_after}
use Rattle.cola_laws.specs.Slots.{level_of, levels_of}
use Rattle.cola_laws.proofs.InSlots.{flips-level, flips-move_nothing}
use Rattle.cola_laws.proofs.Mutations.{mutation}
use Rattle.cola_laws.proofs.Wraps.{clock-wraps}

module _ {K V : Type 0} (cells : ℕ → ℕ → ℕ → List (Cell K V)) where
  -- levels in slots read of the clock only their visible slots
  level_of-same : (t u j : ℕ) (m : Marks) → visible_slot t j ≡ visible_slot u j → level_of cells t j m ≡ level_of cells u j m
  level_of-same t u j m e = λ i. record { visible = cells j (e i) m.visible; shadow = cells j (1 - e i) m.shadow; own = m.own; incoming = m.incoming; sampled = m.sampled }

  pub levels_of-same : (bottom t u : ℕ) → ((j : ℕ) → j ≤ bottom → SameSchedule t u j) → (j : ℕ) (ms : List Marks) → j + length ms ≤ suc bottom → levels_of cells t j ms ≡ levels_of cells u j ms
  levels_of-same bottom t u same j [] h = refl
  levels_of-same bottom t u same j (m ∷ ms) h =
      ap₂ (λ (x : Level K V) (xs : List (Level K V)). x ∷ xs) (level_of-same t u j m (same j (omega arith)).slot) (levels_of-same bottom t u same (suc j) ms (omega arith))

  levels_of-length : (t j : ℕ) (ms : List Marks) → length (levels_of cells t j ms) ≡ length ms
  levels_of-length t j [] = refl
  levels_of-length t j (m ∷ ms) = ap suc (levels_of-length t (suc j) ms)

module _ {K V : Type 0} {cmp : K → K → Ordering} (o : IsTotalOrder cmp) (most : ℕ) where
  -- a chain in slots at a clock of the wrap
  pub wrapped-in-slots : (cells : ℕ → ℕ → ℕ → List (Cell K V)) (t : ℕ) (map : K → Option V) (m : Marks) (ms : List Marks) →
      IsSound cmp most t map (level_of cells t 0 m) (levels_of cells t 1 ms) →
      IsSound cmp most (t % 2 ^ suc (length ms)) map (level_of cells (t % 2 ^ suc (length ms)) 0 m) (levels_of cells (t % 2 ^ suc (length ms)) 1 ms)
  wrapped-in-slots cells t map m ms s =
      let u : ℕ = t % 2 ^ suc (length ms) in
      let n : length (levels_of cells t 1 ms) ≡ length ms = levels_of-length cells t 1 ms in
      let at_u : IsSound cmp most u map (level_of cells t 0 m) (levels_of cells t 1 ms) =
      subst (λ (x : ℕ). IsSound cmp most (t % 2 ^ suc x) map (level_of cells t 0 m) (levels_of cells t 1 ms)) n (clock-wraps cmp most t map (level_of cells t 0 m) (levels_of cells t 1 ms) s) in
      let same : (j : ℕ) → j ≤ length ms → SameSchedule u t j = λ j h. schedule-wrap t (length ms) j h in
      let top : level_of cells u 0 m ≡ level_of cells t 0 m = level_of-same cells u t 0 m (same 0 (omega arith)).slot in
      let below : levels_of cells u 1 ms ≡ levels_of cells t 1 ms = levels_of-same cells (length ms) u t same 1 ms (omega arith) in
      subst (λ (x : Level K V). IsSound cmp most u map x (levels_of cells u 1 ms)) (sym top)
      (subst (λ (xs : List (Level K V)). IsSound cmp most u map (level_of cells t 0 m) xs) (sym below) at_u)

  -- one mutation: from the marks and cells before it to the marks after the flips, over the cells as the steps have left them
  pub mutation-in-slots : (before after : ℕ → ℕ → ℕ → List (Cell K V)) → ((j s : ℕ) → after j s 0 ≡ []) →
      (t : ℕ) (map : K → Option V) (k : K) (item : Item V) (m n : Marks) (ms ns : List Marks) →
      IsSound cmp most t map (level_of before t 0 m) (levels_of before t 1 ms) →
      IsBuilt cmp t k item (level_of before t 0 m) (levels_of before t 1 ms) (level_of after t 0 n) →
      AreAdvanced cmp 28 t 1 (level_of before t 0 m).visible (levels_of before t 1 ms) (levels_of after t 1 ns) →
      most ≤ 2 ^ (length ms + 2) → HasAtMost cmp most (updated cmp k item map) →
      IsSound cmp most (suc t % 2 ^ suc (length ns)) (updated cmp k item map)
      (level_of after (suc t % 2 ^ suc (length ns)) 0 (marks_after t 0 n)) (levels_of after (suc t % 2 ^ suc (length ns)) 1 (all_marks_after t 1 ns))
  mutation-in-slots before after none t map k item m n ms ns s b h room few =
      let e : length ms ≡ length (levels_of before t 1 ms) = sym (levels_of-length before t 1 ms) in
      let next : IsSound cmp most (suc t) (updated cmp k item map) (level_after t 0 (level_of after t 0 n)) (levels_after t 1 (levels_of after t 1 ns)) =
      mutation o most t map k item (level_of before t 0 m) (level_of after t 0 n) (levels_of before t 1 ms) (levels_of after t 1 ns) s b h (subst (λ (x : ℕ). most ≤ 2 ^ (x + 2)) e room) few in
      let in_slots : IsSound cmp most (suc t) (updated cmp k item map) (level_of after (suc t) 0 (marks_after t 0 n)) (levels_of after (suc t) 1 (all_marks_after t 1 ns)) =
      subst (λ (x : Level K V). IsSound cmp most (suc t) (updated cmp k item map) x (levels_of after (suc t) 1 (all_marks_after t 1 ns))) (sym (flips-level after none t 0 n))
      (subst (λ (xs : List (Level K V)). IsSound cmp most (suc t) (updated cmp k item map) (level_after t 0 (level_of after t 0 n)) xs) (sym (flips-move_nothing after none t 1 ns)) next) in
      let c : length (all_marks_after t 1 ns) ≡ length ns = length-after t 1 ns in
      subst (λ (x : ℕ). IsSound cmp most (suc t % 2 ^ suc x) (updated cmp k item map)
      (level_of after (suc t % 2 ^ suc x) 0 (marks_after t 0 n)) (levels_of after (suc t % 2 ^ suc x) 1 (all_marks_after t 1 ns))) c
      (wrapped-in-slots after (suc t) (updated cmp k item map) (marks_after t 0 n) (all_marks_after t 1 ns) in_slots)
