-- Levels that pass the tests are sound for what their visible runs say, and levels that are sound for a map pass the tests.
use Rattle.std.proofs.Common.{◌≡◌, ℕ, zero, suc, ◌+◌, ◌*◌, ◌/◌, ◌≤◌, Bool, true, false, cond, List, [], ◌∷◌, length, refl, ap, ◌∙◌, arith, Option}
use Rattle.std.specs.Prelude.{⊤}
use Rattle.std.proofs.lemmas.Bool.{false≢true}
use Rattle.cola_cell.specs.Held.{LawCell, Stamped}
use Rattle.cola_cell.specs.Order.{key_cmp}
use Rattle.cola_clock.specs.Clock.{period, is_odd, works, is_over, window_step}
use Rattle.cola_clock.specs.Marks.{AreLevelMarks, AreAllMarks, AreChainMarks, AreMarksIdle, AreCursorsAtRest, sample_end}
use Rattle.cola_laws.specs.Chain.{part_of, build_of, visibles, next_runs, first_keys, value_at}
use Rattle.cola_laws.specs.Plain.{empty_level}
use Rattle.cola_laws.specs.Slots.{marks_of, all_marks_of}
use Rattle.cola_laws.specs.Sound.{IsVisible, AreVisible, IsFinished, IsKept, AreKept, IsIdle, IsAtRest, IsWorking, IsPaced, ArePaced, IsSound}
use Rattle.cola_laws.proofs.Facts.{sampled-nothing, sampled-run}
use Rattle.cola_runs.specs.Cells.{sample}
use Rattle.cola_runs.proofs.Samples.{sample_length}
use Rattle.cola_verdict.specs.Tests.{FileLevel, IsInOrder, HasSample, HasFew, HasShadow, HasFewLive}
use Rattle.cola_verdict.proofs.ByPlace.{Each}
use Rattle.cola_verdict.proofs.Living.{few-answers, few-pairs}

-- ---- marks and levels

nothing-of : {A : Type 0} (xs : List A) → length xs ≡ 0 → xs ≡ []
nothing-of [] e = refl
nothing-of (x ∷ xs) e = absurd (omega (arith, e))

choice-length : (odd : Bool) (shadow visible : List LawCell) → length (sample (cond odd shadow visible)) ≡ cond odd (length shadow) (length visible) / 8
choice-length true shadow visible = sample_length shadow
choice-length false shadow visible = sample_length visible

-- as many keys are sampled as the marks of the levels below say
keys-length : (t j : ℕ) (below : List FileLevel) → length (first_keys (next_runs t j below)) ≡ sample_end (is_odd (period t j)) (all_marks_of below)
keys-length t j [] = ap (λ (keys : List (List ℕ)). length keys) (sampled-nothing (List ℕ) Stamped t j)
keys-length t j (m ∷ below) =
    ap (λ (keys : List (List ℕ)). length keys) (sampled-run t j m below) ∙ choice-length (is_odd (period t j)) m.shadow m.visible

idle-level : (l : FileLevel) → AreMarksIdle (marks_of l) → IsIdle l
idle-level l h = record {
  empty = nothing-of l.shadow h.empty;
  own_rests = h.at_rest.own_rests;
  incoming_rests = h.at_rest.incoming_rests;
  sampled_rests = h.at_rest.sampled_rests;
}

resting-level : (l : FileLevel) → AreCursorsAtRest (marks_of l) → IsAtRest l
resting-level l h = record { own_rests = h.own_rests; incoming_rests = h.incoming_rests; sampled_rests = h.sampled_rests }

module _ (most t : ℕ) where
  -- the test of a level's shadow: level 0 has none
  abbrev pub ShadowPasses : ℕ → List LawCell → FileLevel → List FileLevel → Type 0
  ShadowPasses zero above l below = ⊤
  ShadowPasses (suc i) above l below = HasShadow most t (suc i) above l below

  -- a level passes each test of a level, under this visible run and over these levels
  pub record LevelPasses (j : ℕ) (above : List LawCell) (l : FileLevel) (below : List FileLevel) : Type 0 where
    pub order : IsInOrder l.visible
    pub samples : HasSample l.visible (visibles below)
    pub few : HasFew most (is_odd (period t j)) j l.visible below
    pub shadow_passes : ShadowPasses j above l below
    pub few_live : HasFewLive most t j l below

  abbrev pub EachPasses : ℕ → List LawCell → List FileLevel → Type 0
  EachPasses = Each empty_level (λ (l : FileLevel). l.visible) LevelPasses

  -- ---- levels that pass are sound

  passed-visible : (j : ℕ) (above : List LawCell) (ls : List FileLevel) → EachPasses j above ls → AreVisible key_cmp most t j (visibles ls)
  passed-visible j above [] h = tt
  passed-visible j above (l ∷ []) h = (record { formed = h.0.order; values = h.0.samples; few = h.0.few }, tt)
  passed-visible j above (l ∷ m ∷ ms) h = (
    record { formed = h.0.order; samples = h.0.samples; few_items = h.0.few.few_items; few_young = h.0.few.few_young },
    passed-visible (suc j) l.visible (m ∷ ms) h.1,
  )

  passed-finished : (i : ℕ) (above : List LawCell) (l : FileLevel) (ls : List FileLevel) → LevelPasses (suc i) above l ls → is_over t (suc i) ≡ true →
      IsFinished key_cmp most (is_odd (period t (suc i))) (suc i) above l.visible l.shadow ls (next_runs t (suc i) ls)
  passed-finished i above l ls h over =
      let done = h.shadow_passes.over over in
      record { fit = done.fit; carried = done.carried; keeps = done.keeps; few = few-answers most (l.shadow ∷ next_runs t (suc i) ls) (h.few_live.over over) }

  passed-kept : (i : ℕ) (above : List LawCell) (ls : List FileLevel) → EachPasses (suc i) above ls → AreKept key_cmp most t (suc i) above ls
  passed-kept i above [] h = tt
  passed-kept i above (l ∷ ls) h = (
    record { over = passed-finished i above l ls h.0; few = few-answers most (visibles (l ∷ ls)) h.0.few_live.visible },
    passed-kept (suc i) l.visible ls h.1,
  )

  -- inside its window a level's marks say how far its merge has come, and its cells that the cursors cut it there
  passed-working : (i : ℕ) (above : List LawCell) (l : FileLevel) (ls : List FileLevel) → AreLevelMarks 0 t (suc i) (length above) (marks_of l) (all_marks_of ls) →
      LevelPasses (suc i) above l ls → works t (suc i) ≡ true →
      IsWorking key_cmp (part_of (is_odd (period t (suc i))) ls) l.visible above (first_keys (next_runs t (suc i) ls)) (28 * window_step t (suc i) + 0) (build_of l)
  passed-working i above l ls marks h work =
      let some : 1 ≤ suc i = omega arith in
      let inside = marks.inside some work in
      let keys = keys-length t (suc i) ls in
      let enough = inside.enough in
      let sampled = inside.sampled_within in
      record {
        under_way = record { own_within = inside.own_within; incoming_within = inside.incoming_within; sampled_within = omega arith; cut = h.shadow_passes.inside work };
        enough = omega arith;
        sampled_done = inside.sampled_done;
        done_consumed = inside.done_consumed;
      }

  passed-paced : (i : ℕ) (above : List LawCell) (ls : List FileLevel) → AreAllMarks 0 t (suc i) (length above) (all_marks_of ls) → EachPasses (suc i) above ls →
      ArePaced key_cmp 0 t (suc i) above ls
  passed-paced i above [] marks h = tt
  passed-paced i above (l ∷ ls) marks h = (
    record {
      before = λ early. idle-level l (marks.0.before early);
      inside = passed-working i above l ls marks.0 h.0;
      after = λ over. resting-level l (marks.0.after over);
    },
    passed-paced (suc i) l.visible ls marks.1 h.1,
  )

  -- levels whose marks keep the rules, and each of which passes, are sound for what their visible runs say
  pub passed-sound : (top : FileLevel) (below : List FileLevel) → AreChainMarks t (all_marks_of (top ∷ below)) → EachPasses 0 [] (top ∷ below) →
      IsSound key_cmp most t (value_at key_cmp (visibles (top ∷ below))) top below
  passed-sound top below marks h = record {
    sound = record {
      visible = passed-visible 0 [] (top ∷ below) h;
      stands = λ q. refl;
      paced = passed-paced 0 top.visible below marks.1 h.1;
      kept = passed-kept 0 top.visible below h.1;
      few = few-answers most (visibles (top ∷ below)) h.0.few_live.visible;
    };
    idle = idle-level top (marks.0.first refl);
  }

  -- ---- levels that are sound pass

  visible-order : (odd : Bool) (j : ℕ) (run : List LawCell) (below : List FileLevel) → IsVisible key_cmp most odd j run (visibles below) (first_keys (visibles below)) → IsInOrder run
  visible-order odd j run [] v = v.formed
  visible-order odd j run (m ∷ ms) v = v.formed

  visible-sample : (odd : Bool) (j : ℕ) (run : List LawCell) (below : List FileLevel) → IsVisible key_cmp most odd j run (visibles below) (first_keys (visibles below)) →
      HasSample run (visibles below)
  visible-sample odd j run [] v = v.values
  visible-sample odd j run (m ∷ ms) v = v.samples

  visible-few : (odd : Bool) (j : ℕ) (run : List LawCell) (below : List FileLevel) → IsVisible key_cmp most odd j run (visibles below) (first_keys (visibles below)) →
      HasFew most odd j run below
  visible-few odd j run [] v = v.few
  visible-few odd j run (m ∷ ms) v = record { few_items = v.few_items; few_young = v.few_young }

  kept-shadow : (i : ℕ) (above : List LawCell) (l : FileLevel) (ls : List FileLevel) → IsPaced key_cmp 0 t (suc i) above l ls → IsKept key_cmp most t (suc i) above l ls →
      HasShadow most t (suc i) above l ls
  kept-shadow i above l ls paced kept = record {
    inside = λ work. (paced.inside work).under_way.cut;
    over = λ over. let done = kept.over over in record { fit = done.fit; carried = done.carried; keeps = done.keeps };
  }

  sound-each : (i : ℕ) (above : List LawCell) (ls : List FileLevel) → AreVisible key_cmp most t (suc i) (visibles ls) → ArePaced key_cmp 0 t (suc i) above ls →
      AreKept key_cmp most t (suc i) above ls → EachPasses (suc i) above ls
  sound-each i above [] visible paced kept = tt
  sound-each i above (l ∷ ls) visible paced kept = (
    record {
      order = visible-order (is_odd (period t (suc i))) (suc i) l.visible ls visible.0;
      samples = visible-sample (is_odd (period t (suc i))) (suc i) l.visible ls visible.0;
      few = visible-few (is_odd (period t (suc i))) (suc i) l.visible ls visible.0;
      shadow_passes = kept-shadow i above l ls paced.0 kept.0;
      few_live = record {
        visible = few-pairs most (visibles (l ∷ ls)) kept.0.few;
        over = λ over. few-pairs most (l.shadow ∷ next_runs t (suc i) ls) (kept.0.over over).few;
      };
    },
    sound-each (suc i) l.visible ls visible.1 paced.1 kept.1,
  )

  -- the window of level 0 is never over
  never-over : {A : Type 0} → is_over t 0 ≡ true → A
  unfolding is_over
  never-over over = absurd (false≢true over)

  pub sound-passes : (map : List ℕ → Option Stamped) (top : FileLevel) (below : List FileLevel) → IsSound key_cmp most t map top below → EachPasses 0 [] (top ∷ below)
  sound-passes map top below s = (
    record {
      order = visible-order (is_odd (period t 0)) 0 top.visible below s.sound.visible.0;
      samples = visible-sample (is_odd (period t 0)) 0 top.visible below s.sound.visible.0;
      few = visible-few (is_odd (period t 0)) 0 top.visible below s.sound.visible.0;
      shadow_passes = tt;
      few_live = record { visible = few-pairs most (visibles (top ∷ below)) s.sound.few; over = λ over. never-over over };
    },
    sound-each 0 top.visible below s.sound.visible.1 s.sound.paced s.sound.kept,
  )
