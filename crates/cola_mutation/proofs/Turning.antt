-- One level's turn, and the turns of all levels.
use Rattle.std.proofs.Common.{◌≡◌, inl, inr, ℕ, zero, suc, ◌+◌, ◌*◌, ◌<◌, ◌≤◌, min, Bool, true, false, cond, List, [], ◌∷◌, ◌++◌, length, take, drop, get_or, Result, Ok, Err, IfErr, OnOk, refl, ap, sym, subst, ◌∙◌, arith}
use Rattle.std.proofs.lemmas.Bool.{true≢false}
use Rattle.std.specs.Result.{IsErrAnd}
use Rattle.cola_clock.specs.Clock.{works}
use Rattle.cola_clock.specs.Marks.{Marks, merge_steps, AreAllMarks}
use Rattle.cola_laws.proofs.Facts.{rests-advanced}
use Rattle.cola_cell.specs.declared.fault.StepFault.{StepFault}
use Rattle.cola_cell.specs.Order.{key_cmp}
use Rattle.cola_cell.specs.Held.{Held, Fixed}
use Rattle.cola_cell.specs.Places.{slot_size}
use Rattle.cola_merge.specs.declared.aims.Aim.{Aim}
use Rattle.cola_merge.specs.declared.merging.Merger.{Merger}
use Rattle.cola_merge.specs.Heads.{consumed, IsReady, IsUsedUp}
use Rattle.cola_merge.specs.States.{StepCause, Grows}
use Rattle.cola_merge.specs.Advance.{BuildsBy}
use Rattle.cola_transfers.specs.Chain.{IsLevelWorked, IsLevelsTurn}
use Rattle.cola_level.specs.declared.level.Level.{Level}
use Rattle.cola_level.specs.Marks.{marks_of, all_marks_of}
use Rattle.cola_level.specs.Aims.{aim_at}
use Rattle.cola_level.specs.Standing.{visible_cells, stood, all_stood}
use Rattle.cola_level.specs.Work.{taken, sources, IsSavedAtEnd}
use Rattle.cola_level.specs.Works.{Works}
use Rattle.cola_mutation.specs.Levels.{Fits, AreFit, DoRest, last_visible}
use Rattle.cola_mutation.specs.Work.{WorkState, object_of, with_merger, transfers, Keeps, IsBeside, IsQuiet, HaveTurned, Costs, one_working, many_working, HasTaken, IsTurnRefused, TakesTurn, TakeTurns}
use Rattle.cola_mutation.proofs.Keeping.{keeps_same, keeps_then, keeps_weaker, keeps_grows, apart_of, quiet_beside, quiet_below, aim_level, fits_stay, all_fit_stay}
use Rattle.cola_mutation.proofs.Marking.{fits_below}
use Rattle.cola_mutation.proofs.AddingUp.{spends_none, spends_more, costs_then, refused_then, calm_then, marks_then, saved_then, worked_then}
use Rattle.cola_mutation.proofs.Advancing.{advance_then, advance_refused}
use Rattle.cola_clock.proofs.Laws.{adjacent-rest}

-- ---- a level that rests

one_resting : (t i : ℕ) → works t (suc i) ≡ false → one_working t i ≡ 0
one_resting t i w = ap (λ (b : Bool). cond b 1 0) w

pub turn_rests : {A : Type 0} (a : A) (t i above : ℕ) (s : WorkState) (l : Level) (below : List Marks) → works t (suc i) ≡ false → Fits s.held t i above l below → TakesTurn t i above s s l l below (Ok a)
turn_rests a t i above s l below w f = record {
  fits = f;
  keeps = keeps_same (IsBeside t i) s.held;
  turned = record { visible = refl; progress = omega arith; rests = λ _. refl };
  marked = λ marks. record {
    visible_fits = marks.visible_fits;
    shadow_fits = marks.shadow_fits;
    first = marks.first;
    before = marks.before;
    inside = λ some v. absurd (true≢false (sym v ∙ w));
    after = marks.after;
  };
  advances = λ c. record {
    advanced = rests-advanced key_cmp merge_steps t (suc i) (visible_cells s.held t i above) (stood s.held t (suc i) (marks_of l)) (all_stood s.held t (suc (suc i)) below) w;
    told = c.told;
    only = tt;
  };
  saved = λ v. absurd (true≢false (sym v ∙ w));
  worked = subst (λ (b : Bool). IsLevelsTurn s.held.fixed.doublings t i above (marks_of l) (marks_of l) below (transfers s) (transfers s) b) (sym w) (record { marks = refl; transfers = refl });
  took = record { consumes = λ v. absurd (true≢false (sym v ∙ w)); emits = omega arith; samples = omega arith; builds = λ v. absurd (true≢false (sym v ∙ w)); keeps = keeps_same (IsBeside t i) s.held };
  refused = tt;
  calm = refl;
  costs = spends_none s.spent s.steps (59 * one_working t i) (one_working t i);
}

-- ---- a level that works

one_busy : (t i : ℕ) → works t (suc i) ≡ true → one_working t i ≡ 1
one_busy t i w = ap (λ (b : Bool). cond b 1 0) w

saved_turn : {A : Type 0} (r : Result A StepFault) (held : Held) (t i : ℕ) (aim : Aim) (m : Level) → aim.level ≡ suc i → OnOk r (IsSavedAtEnd held aim m.merger) →
    OnOk r (works t (suc i) ≡ true → IsUsedUp aim m.merger → (held.shadows (suc i)).saved ≡ true)
saved_turn (Ok a) held t i aim m e h = λ w up. subst (λ (n : ℕ). (held.shadows n).saved ≡ true) e (h up)
saved_turn (Err fault) held t i aim m e h = tt

worked_turn : {A : Type 0} (r : Result A StepFault) (t i above : ℕ) (s u : WorkState) (l m : Level) (below : List Marks) → works t (suc i) ≡ true →
    OnOk r (IsLevelWorked s.held.fixed.doublings t i above (marks_of l) (marks_of m) below (transfers s) (transfers u)) →
    OnOk r (IsLevelsTurn s.held.fixed.doublings t i above (marks_of l) (marks_of m) below (transfers s) (transfers u) (works t (suc i)))
worked_turn (Ok a) t i above s u l m below w h = subst (λ (b : Bool). IsLevelsTurn s.held.fixed.doublings t i above (marks_of l) (marks_of m) below (transfers s) (transfers u) b) (sym w) h
worked_turn (Err fault) t i above s u l m below w h = tt

-- the steps that were taken are those of the mutation, or all that were left
steps_exact : {held : Held} (aim : Aim) (m n : Merger) → IsReady held aim n → min (sources aim) (consumed m + merge_steps) ≤ consumed n → consumed n ≤ consumed m + merge_steps →
    consumed n ≡ min (sources aim) (consumed m + merge_steps)
steps_exact aim m n ready enough few = omega (arith, enough, few, ready.own.within, ready.incoming.within, ready.sample.within)

took_turn : {A : Type 0} (r : Result A StepFault) (t i above : ℕ) (s u : WorkState) (l m : Level) (below : List Marks) → Fits s.held t i above l below → (aim : Aim) → aim ≡ aim_at t i m.visible above below → aim.level ≡ suc i →
    Keeps (IsBeside t i) s.held u.held → Works aim (object_of s) (object_of u) l m s.steps u.steps r → OnOk r (HasTaken t i above s.held u.held l m below)
took_turn (Ok a) t i above s u l m below f aim same level keeps h =
    let was : l.shadow ≡ (s.held.shadows aim.level).len = f.shadow_is ∙ ap (λ (n : ℕ). (s.held.shadows n).len) (sym level) in
    record {
      consumes = λ _. subst (λ (x : Aim). consumed m.merger ≡ min (sources x) (consumed l.merger + merge_steps)) same
          (steps_exact aim l.merger m.merger h.ready h.takes.enough h.takes.at_most);
      emits = let e = h.emits in let n = h.length in omega (arith, e, n, was);
      samples = let e = h.samples in let n = h.length in omega (arith, e, n, was);
      builds = λ _. subst (λ (x : Aim). BuildsBy s.held u.held x l.merger m.merger) same h.builds;
      keeps = keeps;
    }
took_turn (Err fault) t i above s u l m below f aim same level keeps h = tt

refused_turn : {A : Type 0} (r : Result A StepFault) (t i above before : ℕ) (begun : Held) (u : WorkState) (m : Level) (below : List Marks) → works t (suc i) ≡ true → Keeps (IsBeside t i) begun u.held → IsReady u.held (aim_at t i m.visible above below) m.merger →
    IfErr r (StepCause (aim_at t i m.visible above below) before (with_merger u m.merger)) → IfErr r (IsTurnRefused t i above before begun u m below)
refused_turn (Ok a) t i above before begun u m below w keeps ready h = tt
refused_turn (Err fault) t i above before begun u m below w keeps ready h = record { works = w; keeps = keeps; ready = ready; cause = h }

pub turn_works : {A : Type 0} (r : Result A StepFault) (t i above : ℕ) (s u : WorkState) (l m : Level) (below : List Marks) → works t (suc i) ≡ true → Fits s.held t i above l below →
    Works (aim_at t i l.visible above below) (object_of s) (object_of u) l m s.steps u.steps r → TakesTurn t i above s u l m below r
turn_works r t i above s u l m below w f h =
    let aim : Aim = aim_at t i l.visible above below in
    let level : aim.level ≡ suc i = aim_level t i l.visible above below in
    let grows : Grows s.held u.held (suc i) = subst (λ (n : ℕ). Grows s.held u.held n) level h.frames in
    let same : aim_at t i l.visible above below ≡ aim_at t i m.visible above below = ap (λ (n : ℕ). aim_at t i n above below) (sym h.visible) in
    let keeps = keeps_grows (suc i) (λ k q. apart_of t i k w q) grows in
    let ready : IsReady u.held (aim_at t i m.visible above below) m.merger = subst (λ (a : Aim). IsReady u.held a m.merger) same h.ready in
    record {
      fits = record {
        level_in = subst (λ (y : Fixed). suc i < y.levels) (sym grows.around.fixed_is) f.level_in;
        shadow_is = h.length ∙ ap (λ (n : ℕ). (u.held.shadows n).len) level;
        slot_is = grows.slot_is ∙ f.slot_is;
        ready = λ _. ready;
        rests = λ v. absurd (true≢false (sym w ∙ v));
      };
      keeps = keeps;
      turned = record { visible = h.visible; progress = h.takes.rises; rests = λ v. absurd (true≢false (sym w ∙ v)) };
      marked = h.marked t i above below refl f.shadow_is w;
      advances = λ c. h.advances t i above below refl (c.can w);
      saved = saved_turn r u.held t i (aim_at t i m.visible above below) m (aim_level t i m.visible above below) (subst (λ (a : Aim). OnOk r (IsSavedAtEnd u.held a m.merger)) same h.saved);
      worked = worked_turn r t i above s u l m below w (h.worked t i above below refl f.shadow_is);
      took = took_turn r t i above s u l m below f aim same level keeps h;
      refused = refused_turn r t i above s.spent.faults s.held u m below w keeps ready (subst (λ (a : Aim). IfErr r (StepCause a s.spent.faults (with_merger u m.merger))) same h.cause);
      calm = h.calm;
      costs = subst (λ (n : ℕ). Costs s u (59 * n) n) (sym (one_busy t i w)) (record {
        steps_stay = h.spends.steps_stay;
        steps_rise = let e = h.spends.steps_rise in omega (arith, e);
        ticked_is = h.spends.ticked_is;
        turned_stays = h.spends.turned_stays;
        written_stays = h.spends.written_stays;
        transfers = h.spends.transfers;
        faults_stay = h.spends.faults_stay;
      });
    }

-- ---- all turns

turns_none : {A : Type 0} (a : A) (t i above : ℕ) (s : WorkState) → TakeTurns t i above s s [] [] (Ok a)
turns_none a t i above s = record {
  fit = tt;
  keeps = keeps_same (IsQuiet t i) s.held;
  turned = tt;
  marked = λ _. tt;
  advance = λ c. record { advanced = tt; told = tt; only = tt };
  saved = λ fits marks k lo hi e. absurd (omega (arith, lo, hi));
  worked = refl;
  took = refl;
  refused = tt;
  calm = refl;
  costs = spends_none s.spent s.steps 0 0;
}

all_rest : (t i : ℕ) (ls : List Level) → HaveTurned t i ls ls
all_rest t i [] = tt
all_rest t i (l ∷ ls) = (record { visible = refl; progress = omega arith; rests = λ _. refl }, all_rest t (suc i) ls)

pub turns_refused : {A B : Type 0} (fault : StepFault) (t i above : ℕ) (s u : WorkState) (l m : Level) (ls : List Level) → Fits s.held t i above l (all_marks_of ls) → AreFit s.held t (suc i) l.visible ls →
    TakesTurn {A = B} t i above s u l m (all_marks_of ls) (Err fault) → TakeTurns {A = A} t i above s u (l ∷ ls) (m ∷ ls) (Err fault)
turns_refused fault t i above s u l m ls f fs h = record {
  fit = (h.fits, subst (λ (n : ℕ). AreFit u.held t (suc i) n ls) (sym h.turned.visible) (all_fit_stay t i (suc i) l.visible ls (omega arith) h.keeps fs));
  keeps = keeps_weaker (quiet_beside t i) h.keeps;
  turned = (h.turned, all_rest t (suc i) ls);
  marked = λ marks. (h.marked marks.0, subst (λ (n : ℕ). AreAllMarks 0 t (suc (suc i)) n (all_marks_of ls)) (sym h.turned.visible) marks.1);
  advance = advance_refused fault s.held u.held t i above l m ls h.keeps h.turned f h.fits (keeps_same (IsQuiet t (suc i)) u.held) h.advances;
  saved = tt;
  worked = tt;
  took = tt;
  refused = inl (h.refused, refl);
  calm = h.calm;
  costs = spends_more (omega arith) (omega arith) h.costs;
}

on_ok : {A : Type 0} (r : Result A StepFault) (P Q : Type 0) → (taken r ≡ merge_steps → P → Q) → OnOk r P → OnOk r Q
on_ok (Ok a) P Q f p = f refl p
on_ok (Err fault) P Q f p = tt

pub turns_then : {A B : Type 0} (r : Result A StepFault) (b : B) (t i above : ℕ) (s u v : WorkState) (l m : Level) (ls ms : List Level) → Fits s.held t i above l (all_marks_of ls) →
    TakesTurn t i above s u l m (all_marks_of ls) (Ok b) → TakeTurns t (suc i) m.visible u v ls ms r → TakeTurns t i above s v (l ∷ ls) (m ∷ ms) r
turns_then r b t i above s u v l m ls ms f h g =
    let marked = marks_then r t i above l m ls ms h.turned g.turned h.marked (λ marks. subst (λ (n : ℕ). AreAllMarks (taken r) t (suc (suc i)) n (all_marks_of ms)) h.turned.visible (g.marked (subst (λ (n : ℕ). AreAllMarks 0 t (suc (suc i)) n (all_marks_of ls)) (sym h.turned.visible) marks))) in
    record {
      fit = (
        fits_below t i above m ls ms g.turned
            (fits_stay t i above m (all_marks_of ls) g.keeps (inl (omega arith)) (λ w. (inl (inl (omega arith)), inr (adjacent-rest t i w))) h.fits),
        g.fit,
      );
      keeps = keeps_then (quiet_beside t i) (quiet_below t i) h.keeps g.keeps;
      turned = (h.turned, g.turned);
      marked = marked;
      advance = advance_then r b s.held u.held v.held t i above l m ls ms h.keeps g.keeps h.turned f h.fits h.advances g.advance;
      saved = on_ok r _ _ (λ e rest fits marks.
          let after : AreAllMarks merge_steps t (suc i) above (all_marks_of (m ∷ ms)) = subst (λ (n : ℕ). AreAllMarks n t (suc i) above (all_marks_of (m ∷ ms))) e (marked marks) in
          saved_then u v t i above l m ls ms h.turned g.turned g.keeps h.saved
          (rest (subst (λ (n : ℕ). n ≤ slot_size (suc i)) (sym h.turned.visible) marks.0.visible_fits) (subst (λ (n : ℕ). AreAllMarks 0 t (suc (suc i)) n (all_marks_of ls)) (sym h.turned.visible) marks.1))
          fits after) g.saved;
      worked = on_ok r _ _ (λ e rest. worked_then s u v t i above l m ls ms h.keeps.fixed_is h.turned h.worked rest) g.worked;
      took = on_ok r _ _ (λ e rest. (u.held, h.took, rest)) g.took;
      refused = refused_then r t i above s.spent.faults u.spent.faults s.held u.held v l m ls ms h.costs.faults_stay h.took g.refused;
      calm = calm_then s.spent.faults u.spent.faults v.spent.faults r h.calm g.calm;
      costs = costs_then s u v (one_working t i) (many_working t (suc i) ls) h.costs g.costs;
    }

-- the error that a `?` hands on
pub err_is : {T : Type 0} (r : Result T StepFault) (f : StepFault) → IsErrAnd r (λ y. y ≡ f) → r ≡ Err f
err_is (Ok x) f h = absurd h
err_is (Err y) f h = ap Err h

-- what the levels behind one stand on after its turn
pub rest_fit : {A : Type 0} (r : Result A StepFault) (t i above : ℕ) (s u : WorkState) (l m : Level) (ls : List Level) → AreFit s.held t i above (l ∷ ls) → TakesTurn t i above s u l m (all_marks_of ls) r → AreFit u.held t (suc i) m.visible ls
rest_fit r t i above s u l m ls f h = subst (λ (n : ℕ). AreFit u.held t (suc i) n ls) (sym h.turned.visible) (all_fit_stay t i (suc i) l.visible ls (omega arith) h.keeps f.1)

-- ---- levels that rest are passed over

rests_first : (t i n : ℕ) → DoRest t i (suc n) → works t (suc i) ≡ false
rests_first t i n d = ap (λ (x : ℕ). works t x) (let e : suc i ≡ i + 0 + 1 = omega arith in e) ∙ d 0 (omega arith)

rests_later : (t i n : ℕ) → DoRest t i (suc n) → DoRest t (suc i) n
rests_later t i n d k h = ap (λ (x : ℕ). works t x) (let e : suc i + k + 1 ≡ i + suc k + 1 = omega arith in e) ∙ d (suc k) (omega (arith, h))

pub fit_past : (held : Held) (t i above n : ℕ) (ls : List Level) → AreFit held t i above ls → n ≤ length ls → AreFit held t (i + n) (last_visible above (take n ls)) (drop n ls)
fit_past held t i above zero ls f h = subst (λ (x : ℕ). AreFit held t x above ls) (let e : i ≡ i + 0 = omega arith in e) f
fit_past held t i above (suc n) [] f h = absurd (omega (arith, h))
fit_past held t i above (suc n) (l ∷ ls) f h =
    subst (λ (x : ℕ). AreFit held t x (last_visible l.visible (take n ls)) (drop n ls)) (let e : suc i + n ≡ i + suc n = omega arith in e) (fit_past held t (suc i) l.visible n ls f.1 (omega (arith, h)))

pub turns_past : {A : Type 0} (r : Result A StepFault) (t i above n : ℕ) (s u : WorkState) (ls ms : List Level) → DoRest t i n → AreFit s.held t i above ls → n ≤ length ls →
    TakeTurns t (i + n) (last_visible above (take n ls)) s u (drop n ls) ms r → TakeTurns t i above s u ls (take n ls ++ ms) r
turns_past r t i above zero s u ls ms d f h g = subst (λ (x : ℕ). TakeTurns t x above s u ls ms r) (let e : i + 0 ≡ i = omega arith in e) g
turns_past r t i above (suc n) s u [] ms d f h g = absurd (omega (arith, h))
turns_past r t i above (suc n) s u (l ∷ ls) ms d f h g =
    turns_then r zero t i above s s u l l ls (take n ls ++ ms) f.0 (turn_rests zero t i above s l (all_marks_of ls) (rests_first t i n d) f.0)
    (turns_past r t (suc i) l.visible n s u ls ms (rests_later t i n d) f.1 (omega (arith, h))
    (subst (λ (x : ℕ). TakeTurns t x (last_visible l.visible (take n ls)) s u (drop n ls) ms r) (let e : i + suc n ≡ suc i + n = omega arith in e) g))

pub last_there : (above n : ℕ) (ls : List Level) (d : Level) → n < length ls → (get_or ls n d).visible ≡ last_visible above (take (suc n) ls)
last_there above n [] d h = absurd (omega (arith, h))
last_there above zero (l ∷ ls) d h = refl
last_there above (suc n) (l ∷ ls) d h = last_there l.visible n ls d (omega (arith, h))

-- the same of the parts of the levels, cut behind those that rest
pub past_fit : (held : Held) (t i above n : ℕ) {over : ℕ} (ls : List Level) {left : List Level} (l : Level) (below : List Level) → AreFit held t i above ls → n ≤ length ls → over ≡ last_visible above (take n ls) → left ≡ drop n ls → left ≡ l ∷ below →
    AreFit held t (i + n) over (l ∷ below)
past_fit held t i above n {over} ls l below f h o d e =
    subst (λ (x : List Level). AreFit held t (i + n) over x) (sym d ∙ e) (subst (λ (x : ℕ). AreFit held t (i + n) x (drop n ls)) (sym o) (fit_past held t i above n ls f h))

pub past_turns : {A : Type 0} (r : Result A StepFault) (t i above n : ℕ) {over : ℕ} (s u : WorkState) (ls : List Level) {front left : List Level} (ms : List Level) → DoRest t i n → AreFit s.held t i above ls → n ≤ length ls →
    over ≡ last_visible above (take n ls) → front ≡ take n ls → left ≡ drop n ls → TakeTurns t (i + n) over s u left ms r → TakeTurns t i above s u ls (front ++ ms) r
past_turns r t i above n s u ls {left = left} ms d f h o e k g =
    subst (λ (x : List Level). TakeTurns t i above s u ls (x ++ ms) r) (sym e)
    (turns_past r t i above n s u ls ms d f h (subst (λ (x : List Level). TakeTurns t (i + n) (last_visible above (take n ls)) s u x ms r) k (subst (λ (x : ℕ). TakeTurns t (i + n) x s u left ms r) o g)))

pub turns_no_level : {A : Type 0} (a : A) (t i above : ℕ) (s : WorkState) (ls : List Level) → length ls ≡ 0 → TakeTurns t i above s s ls ls (Ok a)
turns_no_level a t i above s [] e = turns_none a t i above s
turns_no_level a t i above s (l ∷ ls) e = absurd (omega (arith, e))
