-- An accepted mutation leaves a chain at the next clock.
use Rattle.std.proofs.Common.{◌≡◌, ◌≢◌, ◌⊎◌, inl, inr, ℕ, zero, suc, ◌+◌, ◌-◌, ◌/◌, ◌%◌, ◌^◌, ◌<◌, ◌≤◌, false, List, [], ◌∷◌, length, Result, Ok, Err, refl, ap, sym, subst, ◌∙◌, arith}
use Rattle.std.proofs.lemmas.Nat.{pow_pos}
use Rattle.std.proofs.lemmas.Bool.{true≢false}
use Rattle.cola_clock.specs.Clock.{works, flips, ends, window_step, window_length, visible_slot, working_levels, SameSchedule}
use Rattle.cola_clock.specs.Marks.{Marks, merge_steps, AreCursorsAtRest, AreAllMarks, AreChainMarks}
use Rattle.cola_clock.proofs.Laws.{flips-zero}
use Rattle.cola_clock.proofs.Wrap.{schedule-wrap, slot-turns}
use Rattle.cola_clock.proofs.Counts.{working_levels-half}
use Rattle.cola_clock.proofs.MarkLaws.{marks-next, marks-wrapped}
use Rattle.cola_cell.specs.declared.cell.Cell.{Cell}
use Rattle.cola_cell.specs.declared.fault.StepFault.{StepFault}
use Rattle.cola_cell.specs.declared.sink.Shadow.{Shadow}
use Rattle.cola_cell.specs.Held.{Held, Fixed}
use Rattle.cola_cell.specs.Places.{slot_size}
use Rattle.cola_merge.specs.declared.merging.Merger.{Merger}
use Rattle.cola_merge.specs.Heads.{fresh}
use Rattle.cola_merge.specs.States.{Grows}
use Rattle.cola_level.specs.declared.level.Level.{Level}
use Rattle.cola_level.specs.Marks.{marks_of, all_marks_of}
use Rattle.cola_mutation.specs.Levels.{AreFit, IsChain}
use Rattle.cola_mutation.specs.Work.{WorkState, Keeps, TakeTurns, with_shadow, Builds, one_working, many_working}
use Rattle.cola_mutation.specs.Ends.{ended, all_ended, AreDone, Restarted}
use Rattle.cola_mutation.specs.Standing.{first_marks, ThenBuilds, Prepares, PreparesAll}
use Rattle.cola_mutation.proofs.Keeping.{keeps_grows, fits_stay}
use Rattle.cola_mutation.proofs.Marking.{ends_at_end}
use Rattle.cola_mutation.proofs.Advancing.{visible_apart}
use Rattle.cola_mutation.proofs.Readying.{slot_below, length_levels}
use Rattle.cola_mutation.proofs.Following.{all_marks_ended, length_marks, length_ended, merger_choice, all_fit_next, all_fit_same}

-- ---- what was accepted

-- the turns were accepted, and level 0 was built
pub record Accepted (t : ℕ) (c : Cell) (s u : WorkState) (top built : Level) (below worked : List Level) : Type 0 where
  pub mid : WorkState
  pub turns : TakeTurns {A = Unit {0}} t 0 top.visible s mid below worked (Ok tt)
  pub builds : Builds {A = Unit {0}} t c mid u top built (first_marks worked) (Ok tt)

accepted_by : (t : ℕ) (c : Cell) (s mid u : WorkState) (top built : Level) (below worked : List Level) (first : Result (Unit {0}) StepFault) → TakeTurns t 0 top.visible s mid below worked first →
    ThenBuilds t c mid u top built worked first (Ok tt) → Accepted t c s u top built below worked
accepted_by t c s mid u top built below worked (Ok tt) turns builds = record { mid = mid; turns = turns; builds = builds }
accepted_by t c s mid u top built below worked (Err fault) turns builds = let e = builds.2 in absurd (let f : ⊥ = cc in f)

pub accepted_of : (t : ℕ) (c : Cell) (s u : WorkState) (top built : Level) (below worked : List Level) → Prepares {A = Unit {0}} t c s u top built below worked (Ok tt) → Accepted t c s u top built below worked
accepted_of t c s u top built below worked p = accepted_by t c s p.mid u top built below worked p.first p.turns p.builds

-- ---- the build of level 0 leaves the others

-- every level but level 0
abbrev pub IsBelow : ℕ → Type 0
IsBelow l = l ≢ 0

pub keeps_top : {a b : Held} → Grows a b 0 → Keeps IsBelow a b
keeps_top g = keeps_grows 0 (λ l d. d) g

near_top : (a : Held) (t i : ℕ) → (a.shadows 0).slot ≡ 1 - visible_slot t 0 → IsBelow i ⊎ (visible_slot t i ≢ (a.shadows i).slot)
near_top a t zero e = inr (visible_apart t 0 (a.shadows 0).slot e)
near_top a t (suc i) e = inl (λ f. let x : suc i ≡ 0 = f in omega (arith, x))

pub all_fit_top : {a b : Held} (t i above : ℕ) (ls : List Level) → Keeps IsBelow a b → (a.shadows 0).slot ≡ 1 - visible_slot t 0 → AreFit a t i above ls → AreFit b t i above ls
all_fit_top t i above [] k e f = tt
all_fit_top {a} {b} t i above (l ∷ ls) k e f = (
  fits_stay t i above l (all_marks_of ls) k (λ g. let x : suc i ≡ 0 = g in omega (arith, x)) (λ w. (near_top a t i e, λ g. let x : suc (suc i) ≡ 0 = g in omega (arith, x))) f.0,
  all_fit_top t (suc i) l.visible ls k e f.1,
)

-- ---- windows that end

ends_zero : (t : ℕ) → ends t 0 ≡ false
unfolding ends works window_step window_length
ends_zero t = refl

pub all_done : (t i above : ℕ) (ls : List Level) → above ≤ slot_size i → AreAllMarks merge_steps t (suc i) above (all_marks_of ls) → AreDone t (suc i) ls
all_done t i above [] fits marks = tt
all_done t i above (l ∷ ls) fits marks = (
  λ e. (ends_at_end t i above (marks_of l) (all_marks_of ls) e fits marks).own,
  all_done t (suc i) l.visible ls marks.0.visible_fits marks.1,
)

-- the marks after the turns
pub marks_worked : {held : Held} {s mid : WorkState} (t : ℕ) (top : Level) (below worked : List Level) → IsChain held t (top ∷ below) → TakeTurns {A = Unit {0}} t 0 top.visible s mid below worked (Ok tt) →
    AreAllMarks merge_steps t 1 top.visible (all_marks_of worked)
marks_worked t top below worked chain turns = turns.marked chain.marks.1

pub done_all : {held : Held} (t : ℕ) (c : Cell) (s u : WorkState) (ls ms : List Level) → IsChain held t ls → PreparesAll {A = Unit {0}} t c s u ls ms (Ok tt) → AreDone t 0 ms
done_all t c s u [] ms chain p = absurd p
done_all t c s u (top ∷ below) [] chain p = absurd p
done_all t c s u (top ∷ below) (built ∷ worked) chain p =
    let a = accepted_of t c s u top built below worked p in (
      (λ e. absurd (true≢false (sym e ∙ ends_zero t))),
      all_done t 0 top.visible worked chain.marks.0.visible_fits (marks_worked t top below worked chain a.turns),
    )

-- ---- the chain at the next clock

module _ (s u : WorkState) (v : Held) (t : ℕ) (c : Cell) (top : Level) (below worked : List Level) where
  rest_built : (n : ℕ) → top.merger ≡ fresh → AreCursorsAtRest (marks_of (with_shadow top n))
  rest_built n e = record {
    own_rests = ap (λ (m : Merger). m.own.at) e;
    incoming_rests = ap (λ (m : Merger). m.incoming.at) e;
    sampled_rests = ap (λ (m : Merger). m.sample.at) e;
  }

  pub next_chain : IsChain s.held t (top ∷ below) → Accepted t c s u top (with_shadow top (u.held.shadows 0).len) below worked →
      Restarted t 0 (suc (length worked)) u.held v → IsChain v (suc t % 2 ^ suc (length below)) (all_ended t 0 (with_shadow top (u.held.shadows 0).len ∷ worked))
  next_chain chain a r =
      let n : ℕ = (u.held.shadows 0).len in
      let built : Level = with_shadow top (u.held.shadows 0).len in
      let marks = marks_worked t top below worked chain a.turns in
      let many = length_levels t 0 below worked a.turns.turned in
      let counted = chain.counted in
      let same : (j : ℕ) → j ≤ length below → SameSchedule (suc t % 2 ^ suc (length below)) (suc t) j = λ j h. schedule-wrap (suc t) (length below) j h in
      let fixed : v.fixed ≡ s.held.fixed = r.fixed_is ∙ a.builds.grows.around.fixed_is ∙ a.turns.keeps.fixed_is in
      let levels : v.fixed.levels ≡ s.held.fixed.levels = ap (λ (f : Fixed). f.levels) fixed in
      let slot : (a.mid.held.shadows 0).slot ≡ 1 - visible_slot t 0 = a.turns.keeps.slots_stay 0 ∙ chain.fit.0.slot_is in
      let after : AreChainMarks (suc t) (all_marks_of (all_ended t 0 (built ∷ worked))) =
      subst (λ (ms : List Marks). AreChainMarks (suc t) ms) (sym (all_marks_ended t 0 (built ∷ worked))) (marks-next t (marks_of built) (all_marks_of worked) (rest_built n chain.fit.0.merger) a.builds.within marks) in
      let wrapped : AreChainMarks (suc t % 2 ^ suc (length (all_marks_of worked))) (all_marks_of (all_ended t 0 (built ∷ worked))) =
      subst (λ (ms : List Marks). AreChainMarks (suc t % 2 ^ suc (length (all_marks_of worked))) ms) (sym (all_marks_ended t 0 (built ∷ worked))) (marks-wrapped t (marks_of built) (all_marks_of worked) (rest_built n chain.fit.0.merger) a.builds.within marks) in
      let fit_u : AreFit u.held t 0 top.visible worked = all_fit_top t 0 top.visible worked (keeps_top a.builds.grows) slot a.turns.fit in
      let fit_next : AreFit v (suc t) 0 (ended t 0 built).visible (all_ended t 1 worked) =
      all_fit_next t (suc (length worked)) 0 top.visible (ended t 0 built).visible worked r (omega arith) (omega (arith, levels, counted, many)) (λ f. absurd (true≢false (sym (flips-zero t) ∙ f))) after.0.visible_fits after.1 fit_u in
      let shadow = r.flipped 0 (omega arith) (omega arith) (flips-zero t) in
      record {
        many = let m = chain.many in let o = length_ended t 1 worked in omega (arith, m, o, many);
        counted = let o = length_ended t 1 worked in omega (arith, counted, levels, many, o);
        clock_in = subst (λ (k : ℕ). suc t % 2 ^ suc (length below) < 2 ^ k) (let o = length_ended t 1 worked in let e : suc (length below) ≡ suc (length (all_ended t 1 worked)) = omega (arith, o, many) in e) (let p : 0 < 2 ^ suc (length below) = pow_pos (suc (length below)) in omega (arith, p));
        fit = (
          record {
            empty = ap (λ (x : Shadow). x.len) shadow;
            slot_is =
                ap (λ (x : Shadow). x.slot) shadow
                ∙ (let b = slot_below t 0 in let e : visible_slot t 0 ≡ 1 - (1 - visible_slot t 0) = omega (arith, b) in e)
                ∙ ap (λ (x : ℕ). 1 - x) (sym (slot-turns t 0 (flips-zero t)))
                ∙ ap (λ (x : ℕ). 1 - x) (sym (same 0 (omega arith)).slot);
            merger = merger_choice (flips t 0) (ends t 0) built chain.fit.0.merger;
          },
          all_fit_same v (suc t) (suc t % 2 ^ suc (length below)) 0 (ended t 0 built).visible (length below) (all_ended t 1 worked) same (let o = length_ended t 1 worked in omega (arith, o, many)) fit_next,
        );
        marks = subst (λ (k : ℕ). AreChainMarks (suc t % 2 ^ suc k) (all_marks_of (all_ended t 0 (built ∷ worked)))) (length_marks worked ∙ many) wrapped;
      }

-- ---- how many levels work

working_more : (t i : ℕ) → working_levels t (suc i) ≡ working_levels t i + one_working t i
unfolding working_levels
working_more t i = refl

many_from : {X : Type 0} (t i : ℕ) (xs : List X) → many_working t i xs + working_levels t i ≡ working_levels t (i + length xs)
many_from t i [] = let e : 0 + working_levels t i ≡ working_levels t i = omega arith in e ∙ ap (λ (n : ℕ). working_levels t n) (let e : i ≡ i + 0 = omega arith in e)
many_from t i (x ∷ xs) =
    let more = working_more t i in
    let rest = many_from t (suc i) xs in
    let e : one_working t i + many_working t (suc i) xs + working_levels t i ≡ working_levels t (suc i + length xs) = omega (arith, more, rest) in
    e ∙ ap (λ (n : ℕ). working_levels t n) (let f : suc i + length xs ≡ i + suc (length xs) = omega arith in f)

none_working : (t : ℕ) → working_levels t 0 ≡ 0
unfolding working_levels
none_working t = refl

pub half_work : {X : Type 0} (t : ℕ) (xs : List X) → many_working t 0 xs ≤ suc (length xs) / 2
half_work t xs =
    let e = many_from t 0 xs in
    let z = none_working t in
    let h = working_levels-half t (0 + length xs) in
    omega (arith, e, z, h)
