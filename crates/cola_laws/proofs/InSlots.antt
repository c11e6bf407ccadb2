-- Flipping the marks flips the chain and moves no cell; and the marks of a sound chain meet the rules on marks.
use Rattle.std.proofs.Common.{◌≡◌, inl, inr, ℕ, suc, ◌+◌, ◌/◌, ◌^◌, ◌≤◌, Bool, true, false, not, cond, List, [], ◌∷◌, length, refl, ap, subst, arith, Option, ◌-◌}
use mathlib.Core.Path.{ap₂}
use Rattle.std.proofs.lemmas.Bool.{cases_Bool, false≢true}
use Rattle.std.specs.declared.cmp.Ordering.{Ordering}
use Rattle.std.specs.Cmp.{IsTotalOrder}
use Rattle.cola_clock.specs.Clock.{period, is_odd, is_before, is_over, works, flips, ends, visible_slot}
use Rattle.cola_clock.specs.Marks.{Marks, marks_after, all_marks_after, AreCursorsAtRest, AreMarksIdle, sample_end, AreAllMarks, AreChainMarks}
use Rattle.cola_clock.proofs.Laws.{before_else}
use Rattle.cola_clock.proofs.Wrap.{slot-turns, slot-stays}
use Rattle.cola_runs.specs.Cells.{Cell}
use Rattle.cola_runs.proofs.Samples.{sample_length}
use Rattle.cola_laws.specs.Chain.{Level, part_of, build_of, visibles, next_runs, first_keys}
use Rattle.cola_laws.specs.Sound.{AreVisible, AreKept, IsIdle, IsAtRest, IsPaced, ArePaced, IsSoundFrom, IsSound}
use Rattle.cola_laws.specs.Mutation.{turned, left_window, level_after, levels_after, IsWorkable, AreWorkable}
use Rattle.cola_laws.specs.Slots.{AreHeld, marks_of, all_marks_of, level_of, levels_of}
use Rattle.cola_laws.proofs.Lengths.{room-below, fit-length, visible-length-of, next-length}
use Rattle.cola_laws.proofs.Workable.{all-workable, done-fits}

-- ---- flips in slots

module _ {K V : Type 0} (cells : ℕ → ℕ → ℕ → List (Cell K V)) (none : (j s : ℕ) → cells j s 0 ≡ []) where
  turns-level : (t j : ℕ) (m : Marks) → flips t j ≡ true →
      level_of cells (suc t) j (record { visible = m.shadow; shadow = 0; own = m.own; incoming = m.incoming; sampled = m.sampled }) ≡ turned (level_of cells t j m)
  turns-level t j m flip = λ i. record {
    visible = cells j (slot-turns t j flip i) m.shadow;
    shadow = none j (1 - visible_slot (suc t) j) i;
    own = m.own;
    incoming = m.incoming;
    sampled = m.sampled;
  }

  stays-level : (t j : ℕ) (leaves : Bool) (m : Marks) → flips t j ≡ false →
      level_of cells (suc t) j (cond leaves (record { visible = m.visible; shadow = m.shadow; own = 0; incoming = 0; sampled = 0 }) m)
      ≡ cond leaves (left_window (level_of cells t j m)) (level_of cells t j m)
  stays-level t j true m stay = rw (slot-stays t j stay) refl
  stays-level t j false m stay = rw (slot-stays t j stay) refl

  pub flips-level : (t j : ℕ) (m : Marks) → level_of cells (suc t) j (marks_after t j m) ≡ level_after t j (level_of cells t j m)
  flips-level t j m =
      elim (cases_Bool (flips t j)) [
        | inl flip ↦ rw flip (turns-level t j m flip)
        | inr stay ↦ rw stay (stays-level t j (ends t j) m stay)
      ]

  -- the levels in their slots at the next clock, with the marks flipped, are the levels flipped
  pub flips-move_nothing : (t j : ℕ) (ms : List Marks) → levels_of cells (suc t) j (all_marks_after t j ms) ≡ levels_after t j (levels_of cells t j ms)
  flips-move_nothing t j [] = refl
  flips-move_nothing t j (m ∷ ms) = ap₂ (λ (x : Level K V) (xs : List (Level K V)). x ∷ xs) (flips-level t j m) (flips-move_nothing t (suc j) ms)

-- ---- marks of levels in slots

module _ {K V : Type 0} (cells : ℕ → ℕ → ℕ → List (Cell K V)) where
  -- where the slots hold what the marks say, the levels in them have these marks
  pub held-marks : (t j : ℕ) (ms : List Marks) → AreHeld cells t j ms → all_marks_of (levels_of cells t j ms) ≡ ms
  held-marks t j [] h = refl
  held-marks t j (m ∷ ms) h =
      ap₂ (λ (x : Marks) (xs : List Marks). x ∷ xs) (λ i. record { visible = h.0 i; shadow = h.1 i; own = m.own; incoming = m.incoming; sampled = m.sampled }) (held-marks t (suc j) ms h.2)

-- ---- the rules on marks

end-none : (K V : Type 0) (b : Bool) → length (first_keys {K = K} {V = V} (cond b [] [])) ≡ 0
end-none K V true = refl
end-none K V false = refl

module _ {K V : Type 0} where
  end-choice : (b : Bool) (shadow visible : List (Cell K V)) (flipping staying : List (List (Cell K V))) →
      length (first_keys (cond b (shadow ∷ flipping) (visible ∷ staying))) ≡ cond b (length shadow) (length visible) / 8
  end-choice true shadow visible flipping staying = sample_length shadow
  end-choice false shadow visible flipping staying = sample_length visible

  keys-end : (t j : ℕ) (ls : List (Level K V)) → length (first_keys (next_runs t j ls)) ≡ sample_end (is_odd (period t j)) (all_marks_of ls)
  keys-end t j [] = end-none K V (is_odd (period t j))
  keys-end t j (l ∷ ls) = end-choice (is_odd (period t j)) l.shadow l.visible _ _

  rest-marks : (l : Level K V) → IsAtRest l → AreCursorsAtRest (marks_of l)
  rest-marks l h = record { own_rests = h.own_rests; incoming_rests = h.incoming_rests; sampled_rests = h.sampled_rests }

  idle-marks : (l : Level K V) → IsIdle l → AreMarksIdle (marks_of l)
  idle-marks l h = record {
    empty = ap (λ (x : List (Cell K V)). length x) h.empty;
    at_rest = record { own_rests = h.own_rests; incoming_rests = h.incoming_rests; sampled_rests = h.sampled_rests };
  }

module _ {K V : Type 0} {cmp : K → K → Ordering} (o : IsTotalOrder cmp) (most : ℕ) where
  -- the shadow of each level fits its slot, in each phase
  shadow-fits : (ahead t j : ℕ) (above : List (Cell K V)) (l : Level K V) (ls : List (Level K V)) → IsPaced cmp ahead t (suc j) above l ls →
      (works t (suc j) ≡ true → IsWorkable cmp (part_of (is_odd (period t (suc j))) ls) (suc j) l.visible above (first_keys (next_runs t (suc j) ls))) →
      (is_over t (suc j) ≡ true → length l.shadow ≤ 2 ^ (suc j + 2)) → length l.shadow ≤ 2 ^ (suc j + 2)
  shadow-fits ahead t j above l ls p w f =
      elim (cases_Bool (works t (suc j))) [
        | inl work ↦ done-fits o _ l.visible above _ (suc j) (build_of l) (w work).buildable (p.inside work).under_way
        | inr rests ↦ elim (cases_Bool (is_over t (suc j))) [
          | inl over ↦ f over
          | inr open_yet ↦ let e = ap (λ (x : List (Cell K V)). length x) (p.before (before_else t j rests open_yet)).empty in omega arith
        ]
      ]

  all-marks : (ahead t j : ℕ) (above : List (Cell K V)) (ls : List (Level K V)) → AreVisible cmp most t (suc j) (visibles ls) → ArePaced cmp ahead t (suc j) above ls → AreKept cmp most t (suc j) above ls →
      AreWorkable cmp t (suc j) above ls → most ≤ 2 ^ (suc j + length ls + 1) → AreAllMarks ahead t (suc j) (length above) (all_marks_of ls)
  all-marks ahead t j above [] v p kept w room = tt
  all-marks ahead t j above (l ∷ ls) v p kept w room = (
    record {
      visible_fits = visible-length-of cmp most t (suc j) l ls v room;
      shadow_fits = shadow-fits ahead t j above l ls p.0 w.0
          (λ over. fit-length cmp most (not (is_odd (period t (suc j)))) (suc j) l.shadow ls (first_keys (next_runs t (suc j) ls)) (kept.0.over over).fit
          (next-length cmp most t (suc j) l.visible ls v.1 kept.1 (room-below most (suc j) (length ls) room)) room);
      first = λ zero_level. absurd (omega arith);
      before = λ before. idle-marks l (p.0.before before);
      inside = λ some work.
          let is = p.0.inside work in
          let e = keys-end t (suc j) ls in
          let enough = is.enough in
          let sampled = is.under_way.sampled_within in
          record {
            own_within = is.under_way.own_within;
            incoming_within = is.under_way.incoming_within;
            sampled_within = omega arith;
            enough = omega arith;
            sampled_done = is.sampled_done;
            done_consumed = is.done_consumed;
          };
      after = λ over. rest-marks l (p.0.after over);
    },
    all-marks ahead t (suc j) l.visible ls v.1 p.1 kept.1 w.1 (room-below most (suc j) (length ls) room),
  )

  -- the marks of a sound chain meet the rules, below level 0 also where its levels are steps ahead
  pub sound-ahead : (ahead t : ℕ) (map : K → Option V) (top : Level K V) (ls : List (Level K V)) → IsSoundFrom cmp most ahead t map top ls → most ≤ 2 ^ (length ls + 2) →
      AreAllMarks ahead t 1 (length top.visible) (all_marks_of ls)
  sound-ahead ahead t map top ls s room =
      let e : length ls + 2 ≡ 0 + suc (length ls) + 1 = omega arith in
      let room' : most ≤ 2 ^ (0 + suc (length ls) + 1) = subst (λ (x : ℕ). most ≤ 2 ^ x) e room in
      all-marks ahead t 0 top.visible ls s.visible.1 s.paced s.kept
      (all-workable o most t 0 top.visible ls s.visible s.few s.kept room') (room-below most 0 (length ls) room')

  pub sound-marks : (t : ℕ) (map : K → Option V) (top : Level K V) (ls : List (Level K V)) → IsSound cmp most t map top ls → most ≤ 2 ^ (length ls + 2) →
      AreChainMarks t (marks_of top ∷ all_marks_of ls)
  unfolding is_before is_over
  sound-marks t map top ls s room =
      let e : length ls + 2 ≡ 0 + suc (length ls) + 1 = omega arith in
      let idle = idle-marks top s.idle in
      let empty = idle.empty in (
        record {
          visible_fits = visible-length-of cmp most t 0 top ls s.sound.visible (subst (λ (x : ℕ). most ≤ 2 ^ x) e room);
          shadow_fits = omega arith;
          first = λ _. idle;
          before = λ early. absurd (false≢true early);
          inside = λ some _. absurd (omega arith);
          after = λ over. absurd (false≢true over);
        },
        sound-ahead 0 t map top ls s.sound room,
      )
