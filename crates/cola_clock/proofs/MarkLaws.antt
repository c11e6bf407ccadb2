-- The rules on marks: level by level, and at the next clock.
use Rattle.std.proofs.Common.{◌≡◌, inl, inr, ℕ, zero, suc, ◌+◌, ◌*◌, ◌/◌, ◌%◌, ◌^◌, ◌<◌, ◌≤◌, Bool, true, false, cond, List, [], ◌∷◌, length, drop, refl, sym, ◌∙◌, ap, subst, arith}
use Rattle.std.proofs.lemmas.Bool.{cases_Bool, false≢true}
use Rattle.std.proofs.Math.Nat.{add-zero}
use Rattle.std.proofs.Props.{props}
use Rattle.cola_clock.specs.Clock.{period, is_odd, works, is_before, is_over, window_step, flips, ends, SameSchedule}
use Rattle.cola_clock.specs.Marks.{Marks, merge_steps, sample_end, marks_at, above_at, AreCursorsAtRest, AreMarksIdle, AreMarksInside, AreLevelMarks, AreAllMarks, AreChainMarks, AreMarksAt, marks_after, all_marks_after}
use Rattle.cola_clock.proofs.Laws.{flips-zero, flips-over, flips-not_over, over-not_works, over-next, not_over-next, ends-over, works-not_over, before-not_over, before-not_works, before_else, window-keeps_above, window-keeps_self, window-keeps_below, window-next, window_step-next, window_step-first, is_odd-next_stay}
use Rattle.cola_clock.proofs.Wrap.{schedule-wrap, same-back}

-- the rules are a fact: they hold in one way at most
pub marks-fact : (ahead t j above : ℕ) (levels : List Marks) → IsProp (AreAllMarks ahead t j above levels)
marks-fact ahead t j above [] = hlevel props
marks-fact ahead t j above (m ∷ below) = hlevel (props, marks-fact ahead t (suc j) m.visible below)

-- ---- level by level

each-from : (ahead t j above : ℕ) (levels : List Marks) → AreAllMarks ahead t j above levels → (i : ℕ) → i < length levels →
    AreLevelMarks ahead t (j + i) (above_at above levels i) (marks_at levels i) (drop (suc i) levels)
each-from ahead t j above [] h i within = absurd (omega arith)
each-from ahead t j above (m ∷ below) h zero within = rw (add-zero j) h.0
each-from ahead t j above (m ∷ below) h (suc zero) within =
    let place : j + 1 ≡ suc j + 0 = omega arith in
    rw place (each-from ahead t (suc j) m.visible below h.1 zero (omega arith))
each-from ahead t j above (m ∷ below) h (suc (suc i)) within =
    let place : j + suc (suc i) ≡ suc j + suc i = omega arith in
    rw place (each-from ahead t (suc j) m.visible below h.1 (suc i) (omega arith))

-- what holds of each level holds of each but the first
behind-first : (ahead t j above : ℕ) (m : Marks) (below : List Marks) →
    ((i : ℕ) → i < length (m ∷ below) → AreLevelMarks ahead t (j + i) (above_at above (m ∷ below) i) (marks_at (m ∷ below) i) (drop (suc i) (m ∷ below))) →
    (i : ℕ) → i < length below → AreLevelMarks ahead t (suc j + i) (above_at m.visible below i) (marks_at below i) (drop (suc i) below)
behind-first ahead t j above m below h zero within =
    let place : suc j + 0 ≡ j + 1 = omega arith in
    rw place (h 1 (omega arith))
behind-first ahead t j above m below h (suc i) within =
    let place : suc j + suc i ≡ j + suc (suc i) = omega arith in
    rw place (h (suc (suc i)) (omega arith))

all-from : (ahead t j above : ℕ) (levels : List Marks) →
    ((i : ℕ) → i < length levels → AreLevelMarks ahead t (j + i) (above_at above levels i) (marks_at levels i) (drop (suc i) levels)) →
    AreAllMarks ahead t j above levels
all-from ahead t j above [] h = tt
all-from ahead t j above (m ∷ below) h = (
  rw (sym (add-zero j)) (h 0 (omega arith)),
  all-from ahead t (suc j) m.visible below (behind-first ahead t j above m below h),
)

-- a store's levels from 0 on, by their numbers
from-zero : (t : ℕ) (levels : List Marks) → ((j : ℕ) → j < length levels → AreMarksAt t levels j) →
    (j : ℕ) → j < length levels → AreLevelMarks 0 t (0 + j) (above_at 0 levels j) (marks_at levels j) (drop (suc j) levels)
from-zero t levels h j within =
    let place : j ≡ 0 + j = omega arith in
    subst (λ (x : ℕ). AreLevelMarks 0 t x (above_at 0 levels j) (marks_at levels j) (drop (suc j) levels)) place (h j within)

pub marks-each : (t : ℕ) (levels : List Marks) → AreChainMarks t levels → (j : ℕ) → j < length levels → AreMarksAt t levels j
marks-each t levels h j within =
    let place : 0 + j ≡ j = omega arith in
    subst (λ (x : ℕ). AreLevelMarks 0 t x (above_at 0 levels j) (marks_at levels j) (drop (suc j) levels)) place (each-from 0 t 0 0 levels h j within)

pub marks-all : (t : ℕ) (levels : List Marks) → ((j : ℕ) → j < length levels → AreMarksAt t levels j) → AreChainMarks t levels
marks-all t levels h = all-from 0 t 0 0 levels (from-zero t levels h)

-- how many keys a level samples, by the number of the level below it; none where there is none
pub end-at : (odd : Bool) (j : ℕ) (levels : List Marks) → j < length levels →
    sample_end odd (drop j levels) ≡ cond odd (marks_at levels j).shadow (marks_at levels j).visible / 8
end-at odd zero [] within = absurd (omega arith)
end-at odd (suc j) [] within = absurd (omega arith)
end-at odd zero (m ∷ below) within = refl
end-at odd (suc j) (m ∷ below) within = end-at odd j below (omega arith)

pub end-past : (odd : Bool) (j : ℕ) (levels : List Marks) → length levels ≤ j → sample_end odd (drop j levels) ≡ 0
end-past odd zero [] past = refl
end-past odd (suc j) [] past = refl
end-past odd zero (m ∷ below) past = absurd (omega arith)
end-past odd (suc j) (m ∷ below) past = end-past odd j below (omega arith)

-- ---- steps ahead, and clocks that no level can tell apart

inside-fewer : (due less incoming_end sampled_end : ℕ) (m : Marks) → less ≤ due → AreMarksInside due incoming_end sampled_end m → AreMarksInside less incoming_end sampled_end m
inside-fewer due less incoming_end sampled_end m h is =
    let enough = is.enough in
    record {
      own_within = is.own_within;
      incoming_within = is.incoming_within;
      sampled_within = is.sampled_within;
      enough = omega arith;
      sampled_done = is.sampled_done;
      done_consumed = is.done_consumed;
    }

pub marks-fewer : (ahead less t j above : ℕ) (levels : List Marks) → less ≤ ahead → AreAllMarks ahead t j above levels → AreAllMarks less t j above levels
marks-fewer ahead less t j above [] h marks = tt
marks-fewer ahead less t j above (m ∷ below) h marks = (
  record {
    visible_fits = marks.0.visible_fits;
    shadow_fits = marks.0.shadow_fits;
    first = marks.0.first;
    before = marks.0.before;
    inside = λ some work. inside-fewer (ahead + merge_steps * window_step t j) (less + merge_steps * window_step t j) above _ m (omega arith) (marks.0.inside some work);
    after = marks.0.after;
  },
  marks-fewer ahead less t (suc j) m.visible below h marks.1,
)

same-level : (t u j above : ℕ) (m : Marks) (below : List Marks) → SameSchedule t u j → AreLevelMarks 0 t j above m below → AreLevelMarks 0 u j above m below
same-level t u j above m below same h = record {
  visible_fits = h.visible_fits;
  shadow_fits = h.shadow_fits;
  first = h.first;
  before = λ early. h.before (same.before ∙ early);
  inside = λ some work. rw (sym same.step, sym same.parity) (h.inside some (same.work ∙ work));
  after = λ over. h.after (same.over ∙ over);
}

pub marks-same : (t u : ℕ) (levels : List Marks) → ((j : ℕ) → j < length levels → SameSchedule t u j) → AreChainMarks t levels → AreChainMarks u levels
marks-same t u levels same h =
    marks-all u levels (λ j within. same-level t u j _ _ _ (same j within) (marks-each t levels h j within))

-- ---- the next clock

-- marks at rest are those of a merge that has not begun
rest-inside : (due incoming_end sampled_end : ℕ) (m : Marks) → AreMarksIdle m → due ≡ 0 → AreMarksInside due incoming_end sampled_end m
rest-inside due incoming_end sampled_end m idle none =
    let empty = idle.empty in
    let own = idle.at_rest.own_rests in
    let incoming = idle.at_rest.incoming_rests in
    let sampled = idle.at_rest.sampled_rests in
    record {
      own_within = omega arith;
      incoming_within = omega arith;
      sampled_within = omega arith;
      enough = omega arith;
      sampled_done = omega arith;
      done_consumed = omega arith;
    }

-- a level that flips begins anew
flipped : (t j above above_next : ℕ) (m : Marks) (below next : List Marks) → flips t (suc j) ≡ true → AreLevelMarks merge_steps t (suc j) above m below →
    AreLevelMarks 0 (suc t) (suc j) above_next (record { visible = m.shadow; shadow = 0; own = m.own; incoming = m.incoming; sampled = m.sampled }) next
flipped t j above above_next m below next flip h =
    let over : is_over t (suc j) ≡ true = flips-over t j flip in
    let rest = h.after over in
    let idle : AreMarksIdle (record { visible = m.shadow; shadow = 0; own = m.own; incoming = m.incoming; sampled = m.sampled }) =
    record { empty = refl; at_rest = record { own_rests = rest.own_rests; incoming_rests = rest.incoming_rests; sampled_rests = rest.sampled_rests } }
    in
    record {
      visible_fits = h.shadow_fits;
      shadow_fits = omega arith;
      first = λ zero_level. absurd (omega arith);
      before = λ early. idle;
      inside = λ some work.
          let new : window_step (suc t) (suc j) ≡ 0 = window_step-first t j (over-not_works t j over) work in
          rest-inside (0 + merge_steps * window_step (suc t) (suc j)) above_next _ _ idle (omega arith);
      after = λ over_next. absurd (false≢true (sym (flips-not_over t j flip) ∙ over_next));
    }

-- a level whose window ends has its cursors at 0
left : (t j above above_next : ℕ) (m : Marks) (below next : List Marks) → ends t (suc j) ≡ true → AreLevelMarks merge_steps t (suc j) above m below →
    AreLevelMarks 0 (suc t) (suc j) above_next (record { visible = m.visible; shadow = m.shadow; own = 0; incoming = 0; sampled = 0 }) next
left t j above above_next m below next end h =
    let over : is_over (suc t) (suc j) ≡ true = ends-over t j end in
    record {
      visible_fits = h.visible_fits;
      shadow_fits = h.shadow_fits;
      first = λ zero_level. absurd (omega arith);
      before = λ early. absurd (false≢true (sym (before-not_over (suc t) j early) ∙ over));
      inside = λ some work. absurd (false≢true (sym (works-not_over (suc t) j work) ∙ over));
      after = λ _. record { own_rests = refl; incoming_rests = refl; sampled_rests = refl };
    }

-- a level that does not flip and whose window does not end has its cells; what is it at the next clock was it before
was_before : (t j : ℕ) → flips t (suc j) ≡ false → ends t (suc j) ≡ false → is_before (suc t) (suc j) ≡ true → is_before t (suc j) ≡ true
was_before t j stay goes_on early =
    elim (cases_Bool (works t (suc j))) [
      | inl work ↦ absurd (false≢true (sym (before-not_works (suc t) j early) ∙ window-next t j work goes_on))
      | inr rests ↦ elim (cases_Bool (is_over t (suc j))) [
        | inl over ↦ absurd (false≢true (sym (before-not_over (suc t) j early) ∙ over-next t j over stay))
        | inr open_yet ↦ before_else t j rests open_yet
      ]
    ]

was_over : (t j : ℕ) → ends t (suc j) ≡ false → is_over (suc t) (suc j) ≡ true → is_over t (suc j) ≡ true
was_over t j goes_on over =
    elim (cases_Bool (is_over t (suc j))) [
      | inl before ↦ before
      | inr open_yet ↦ absurd (false≢true (sym (not_over-next t j open_yet goes_on) ∙ over))
    ]

-- a level that works next and does not begin anew had its window to come or works already
was_not_over : (t j : ℕ) → flips t (suc j) ≡ false → works (suc t) (suc j) ≡ true → is_over t (suc j) ≡ false
was_not_over t j stay work =
    elim (cases_Bool (is_over t (suc j))) [
      | inl over ↦ absurd (false≢true (sym (works-not_over (suc t) j work) ∙ over-next t j over stay))
      | inr open_yet ↦ open_yet
    ]

-- a level that does not flip keeps its visible length
either-visible : (leaves : Bool) (m : Marks) → (cond leaves (record { visible = m.visible; shadow = m.shadow; own = 0; incoming = 0; sampled = 0 }) m).visible ≡ m.visible
either-visible true m = refl
either-visible false m = refl

either-shadow : (leaves : Bool) (m : Marks) → (cond leaves (record { visible = m.visible; shadow = m.shadow; own = 0; incoming = 0; sampled = 0 }) m).shadow ≡ m.shadow
either-shadow true m = refl
either-shadow false m = refl

stays-visible : (t j : ℕ) (m : Marks) → flips t j ≡ false → (marks_after t j m).visible ≡ m.visible
stays-visible t j m stay = rw stay (either-visible (ends t j) m)

stays-shadow : (t j : ℕ) (m : Marks) → flips t j ≡ false → (marks_after t j m).shadow ≡ m.shadow
stays-shadow t j m stay = rw stay (either-shadow (ends t j) m)

-- and so gives the same sample
stays-end : (odd : Bool) (t j : ℕ) (below : List Marks) → works t (suc j) ≡ true → sample_end odd (all_marks_after t (suc (suc j)) below) ≡ sample_end odd below
stays-end odd t j [] work = refl
stays-end true t j (m ∷ below) work = ap (λ (n : ℕ). n / 8) (stays-shadow t (suc (suc j)) m (window-keeps_below t j work))
stays-end false t j (m ∷ below) work = ap (λ (n : ℕ). n / 8) (stays-visible t (suc (suc j)) m (window-keeps_below t j work))

-- the sample that is read next is the sample that was read
same-end : (t j : ℕ) (below : List Marks) → works t (suc j) ≡ true →
    sample_end (is_odd (period (suc t) (suc j))) (all_marks_after t (suc (suc j)) below) ≡ sample_end (is_odd (period t (suc j))) below
same-end t j below work =
    rw (is_odd-next_stay t (suc j) (window-keeps_self t j work)) (stays-end (is_odd (period t (suc j))) t j below work)

stayed : (t j above above_next : ℕ) (m : Marks) (below : List Marks) → flips t (suc j) ≡ false → ends t (suc j) ≡ false → (flips t j ≡ false → above_next ≡ above) →
    AreLevelMarks merge_steps t (suc j) above m below → AreLevelMarks 0 (suc t) (suc j) above_next m (all_marks_after t (suc (suc j)) below)
stayed t j above above_next m below stay goes_on keeps h = record {
  visible_fits = h.visible_fits;
  shadow_fits = h.shadow_fits;
  first = λ zero_level. absurd (omega arith);
  before = λ early. h.before (was_before t j stay goes_on early);
  inside = λ some work_next.
      elim (cases_Bool (works t (suc j))) [
        | inl work ↦
            let more : window_step (suc t) (suc j) ≡ suc (window_step t (suc j)) = window_step-next t j work goes_on in
            rw (keeps (window-keeps_above t j work goes_on), same-end t j below work)
            (inside-fewer (merge_steps + merge_steps * window_step t (suc j)) (0 + merge_steps * window_step (suc t) (suc j)) above _ m (omega arith) (h.inside some work))
        | inr rests ↦
            let new : window_step (suc t) (suc j) ≡ 0 = window_step-first t j rests work_next in
            let to_come : is_before t (suc j) ≡ true = before_else t j rests (was_not_over t j stay work_next) in
            rest-inside (0 + merge_steps * window_step (suc t) (suc j)) above_next _ m (h.before to_come) (omega arith)
      ];
  after = λ over. h.after (was_over t j goes_on over);
}

pub next-level : (t j above above_next : ℕ) (m : Marks) (below : List Marks) → (flips t j ≡ false → above_next ≡ above) →
    AreLevelMarks merge_steps t (suc j) above m below → AreLevelMarks 0 (suc t) (suc j) above_next (marks_after t (suc j) m) (all_marks_after t (suc (suc j)) below)
next-level t j above above_next m below keeps h =
    elim (cases_Bool (flips t (suc j))) [
      | inl flip ↦ rw flip (flipped t j above above_next m below _ flip h)
      | inr stay ↦ elim (cases_Bool (ends t (suc j))) [
        | inl end ↦ rw (stay, end) (left t j above above_next m below (all_marks_after t (suc (suc j)) below) end h)
        | inr goes_on ↦ rw (stay, goes_on) (stayed t j above above_next m below stay goes_on keeps h)
      ]
    ]

next-levels : (t j above above_next : ℕ) (levels : List Marks) → (flips t j ≡ false → above_next ≡ above) → AreAllMarks merge_steps t (suc j) above levels →
    AreAllMarks 0 (suc t) (suc j) above_next (all_marks_after t (suc j) levels)
next-levels t j above above_next [] keeps h = tt
next-levels t j above above_next (m ∷ below) keeps h = (
  next-level t j above above_next m below keeps h.0,
  next-levels t (suc j) m.visible (marks_after t (suc j) m).visible below (stays-visible t (suc j) m) h.1,
)

first-level : (t : ℕ) (built : Marks) (next : List Marks) → AreCursorsAtRest built → built.shadow ≤ 2 ^ 2 → AreLevelMarks 0 (suc t) 0 0 (marks_after t 0 built) next
unfolding is_before is_over
first-level t built next rest fits =
    rw (flips-zero t) (record {
      visible_fits = fits;
      shadow_fits = omega arith;
      first = λ _. record { empty = refl; at_rest = record { own_rests = rest.own_rests; incoming_rests = rest.incoming_rests; sampled_rests = rest.sampled_rests } };
      before = λ early. absurd (false≢true early);
      inside = λ some _. absurd (omega arith);
      after = λ over. absurd (false≢true over);
    })

-- the marks of a whole store at the next clock
pub marks-next : (t : ℕ) (built : Marks) (worked : List Marks) → AreCursorsAtRest built → built.shadow ≤ 2 ^ 2 → AreAllMarks merge_steps t 1 built.visible worked →
    AreChainMarks (suc t) (all_marks_after t 0 (built ∷ worked))
marks-next t built worked rest fits h = (
  first-level t built (all_marks_after t 1 worked) rest fits,
  next-levels t 0 built.visible (marks_after t 0 built).visible worked (λ stay. absurd (false≢true (sym stay ∙ flips-zero t))) h,
)

pub length-after : (t j : ℕ) (levels : List Marks) → length (all_marks_after t j levels) ≡ length levels
length-after t j [] = refl
length-after t j (m ∷ below) = ap (λ (n : ℕ). suc n) (length-after t (suc j) below)

-- and at the next clock modulo 2^(L+1)
pub marks-wrapped : (t : ℕ) (built : Marks) (worked : List Marks) → AreCursorsAtRest built → built.shadow ≤ 2 ^ 2 → AreAllMarks merge_steps t 1 built.visible worked →
    AreChainMarks (suc t % 2 ^ suc (length worked)) (all_marks_after t 0 (built ∷ worked))
marks-wrapped t built worked rest fits h =
    let size : length (all_marks_after t 1 worked) ≡ length worked = length-after t 1 worked in
    marks-same (suc t) (suc t % 2 ^ suc (length worked)) (all_marks_after t 0 (built ∷ worked))
    (λ j within. same-back (suc t % 2 ^ suc (length worked)) (suc t) j (schedule-wrap (suc t) (length worked) j (omega arith)))
    (marks-next t built worked rest fits h)
