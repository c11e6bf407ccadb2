-- The lowest bad cell of the runs of the front.
use Rattle.std.proofs.Common.{◌≡◌, ◌≢◌, inl, inr, ℕ, ◌+◌, ◌*◌, ◌^◌, ◌<◌, ◌≤◌, ◌==◌, Bool, true, false, if◌then◌else◌, List, Option, None, Some, refl, sym, ap, subst, ◌∙◌, arith}
use Rattle.std.proofs.lemmas.Bool.{cases_order}
use Rattle.cola_cell.specs.declared.format.Format.{Format}
use Rattle.cola_cell.specs.declared.cell.Cell.{Cell}
use Rattle.cola_cell.specs.Decoded.{decoded}
use Rattle.cola_cell.specs.Flat.{spot_of}
use Rattle.cola_cell.specs.Held.{Bad}
use Rattle.cola_cell.specs.Places.{number_of, slot_size}
use Rattle.cola_front.specs.Front.{FrontCells, IsLoaded, cell_at, cell_bytes}
use Rattle.cola_layout.specs.declared.header.Header.{Header}
use Rattle.cola_layout.proofs.Places.{place-from, place-below, place-behind, front-below}
use Rattle.cola_clock.specs.Clock.{visible_slot}
use Rattle.cola_layout.specs.Marks.{marks_of}
use Rattle.cola_layout.proofs.Levels.{fits-here}
use Rattle.cola_layout.proofs.Powers.{next_power, power-le}
use Rattle.cola_layout.specs.Cells.{file_spots}
use Rattle.cola_run.specs.Saving.{run_len, IsFrontRun, AreFrontRunsSpelled, IsLowestBad}
use Rattle.cola_run.specs.Loading.{BadInLevel, BadInFront, NoneBadInFront}

-- a run of the front fits its slot
abbrev pub RunsFit : Header → Type 0
RunsFit header = (level slot : ℕ) → level ≤ header.geometry.bottom → run_len header level slot ≤ slot_size level

-- what was found in the levels up to one that has a bad cell
pub front-bad : (header : Header) (front : FrontCells) (level number : ℕ) → level + 2 < header.geometry.block_exp → RunsFit header → header.geometry.block_exp ≤ header.geometry.bottom + 2
    → ((l s i : ℕ) → l < level → IsFrontRun header l s i → cell_at front (number_of l s i) ≢ None) → BadInLevel header front level number → BadInFront header front number
front-bad header front level number low fit few above bad = record {
  level = level;
  slot = bad.slot;
  index = bad.bad.index;
  run = record { front = low; slot_in = bad.slot_in; within = bad.bad.within };
  at = bad.bad.at;
  bad = bad.bad.bad;
  lowest = λ l s i run below. elim (cases_order l level) [
    | inl same ↦ subst (λ (x : ℕ). cell_at front (number_of x s i) ≢ None) (sym same) (here s i (subst (λ (x : ℕ). IsFrontRun header x s i) same run) (subst (λ (x : ℕ). number_of x s i < number) same below))
    | inr (inl less) ↦ above l s i less run
    | inr (inr more) ↦ absurd (
        let most : run_len header level bad.slot ≤ slot_size level = fit level bad.slot (omega (arith, low, few)) in
        let grow : 2 ^ (level + 4) ≤ 2 ^ (l + 3) = power-le (level + 4) (l + 3) (omega (arith, more)) in
        omega (arith, below, bad.bad.at, place-below level bad.slot bad.bad.index (omega (arith, bad.slot_in)) (omega (arith, bad.bad.within, most)), place-from l s i, grow))
  ];
}
  where
    here : (s i : ℕ) → IsFrontRun header level s i → number_of level s i < number → cell_at front (number_of level s i) ≢ None
    here s i run below =
        elim (cases_order s bad.slot) [
          | inl same ↦
              let e : number ≡ number_of level s bad.bad.index = bad.bad.at ∙ ap (λ (x : ℕ). number_of level x bad.bad.index) (sym same) in
              subst (λ (x : ℕ). cell_at front (number_of level x i) ≢ None) (sym same) (bad.bad.first i (omega (arith, below, e)))
          | inr (inl less) ↦
              let zero : s ≡ 0 = omega (arith, less, bad.slot_in) in
              let one : bad.slot ≡ 1 = omega (arith, less, bad.slot_in) in
              subst (λ (x : ℕ). cell_at front (number_of level x i) ≢ None) (sym zero) (bad.before one i (let w = run.within in subst (λ (x : ℕ). i < run_len header level x) zero w))
          | inr (inr more) ↦ absurd (
              let zero : bad.slot ≡ 0 = omega (arith, more, run.slot_in) in
              let one : s ≡ 1 = omega (arith, more, run.slot_in) in
              let e : number ≡ (2 + 0) * slot_size level + bad.bad.index = bad.bad.at ∙ ap (λ (x : ℕ). number_of level x bad.bad.index) zero in
              omega (arith, below, e, ap (λ (x : ℕ). number_of level x i) one, bad.bad.within, fit level bad.slot (omega (arith, low, few))))
        ]

-- a place of the front's runs is one that a load takes
module _ (header : Header) (front : FrontCells) (bytes : List ℕ) (loaded : IsLoaded bytes front) (format : front.format ≡ header.geometry.format) (block : front.block ≡ 2 ^ header.geometry.block_exp)
    (fit : RunsFit header) (few : header.geometry.block_exp ≤ header.geometry.bottom + 2) where
  spot-is : (l s i : ℕ) → IsFrontRun header l s i → file_spots header.geometry.format bytes l s i ≡ spot_of (cell_at front (number_of l s i))
  spot-is l s i run =
      let low = run.front in
      let most : run_len header l s ≤ slot_size l = fit l s (omega (arith, low, few)) in
      let below : number_of l s i < 2 ^ (header.geometry.block_exp + 1) = front-below header.geometry.block_exp l s i (omega (arith, run.slot_in)) (omega (arith, run.within, most)) low in
      let twice : 2 ^ (header.geometry.block_exp + 1) ≡ 2 ^ header.geometry.block_exp + 2 ^ header.geometry.block_exp = next_power header.geometry.block_exp (header.geometry.block_exp + 1) (omega arith) in
      sym (ap (λ (c : Option Cell). spot_of c) (loaded (number_of l s i) (place-behind l s i) (omega (arith, below, twice, block))) ∙ ap (λ (f : Format). spot_of (decoded f (cell_bytes f bytes (number_of l s i)))) format)

  bad-of : (c : Option Cell) → spot_of c ≡ Bad → c ≡ None
  bad-of None e = refl
  bad-of (Some cell) e = absurd (cc)

  pub runs-spelled : NoneBadInFront header front → AreFrontRunsSpelled header (file_spots header.geometry.format bytes)
  runs-spelled none l s i run e = none l s i run (bad-of (cell_at front (number_of l s i)) (sym (spot-is l s i run) ∙ e))

  pub lowest-bad : (number : ℕ) → BadInFront header front number → IsLowestBad header (file_spots header.geometry.format bytes) number
  lowest-bad number b = record {
    level = b.level;
    slot = b.slot;
    index = b.index;
    run = b.run;
    at = b.at;
    bad = spot-is b.level b.slot b.index b.run ∙ ap (λ (n : ℕ). spot_of (cell_at front n)) (sym b.at) ∙ ap (λ (c : Option Cell). spot_of c) b.bad;
    lowest = λ l s i run below e. b.lowest l s i run below (bad-of (cell_at front (number_of l s i)) (sym (spot-is l s i run) ∙ e));
  }

-- the runs of a header's levels fit their slots
pub runs-fit : (header : Header) → RunsFit header
runs-fit header level slot low = by-test (slot == visible_slot header.clock level)
  where
    by-test : (t : Bool) → (if t then (marks_of header.levels.items level).visible else (marks_of header.levels.items level).shadow) ≤ slot_size level
    by-test true = (fits-here header.clock header.levels.items header.marks_fit level (let one = header.one_each in omega (arith, one, low))).visible_fits
    by-test false = (fits-here header.clock header.levels.items header.marks_fit level (let one = header.one_each in omega (arith, one, low))).shadow_fits
