-- The marks of a level while the levels behind it work, and what they say where its window ends.
use Rattle.std.proofs.Common.{◌≡◌, ℕ, suc, ◌+◌, ◌*◌, ◌/◌, ◌≤◌, Bool, true, cond, List, [], ◌∷◌, refl, ap, sym, subst, arith}
use Rattle.std.proofs.lemmas.Bool.{leb-true}
use Rattle.cola_clock.specs.Clock.{period, is_odd, works, window_step, ends}
use Rattle.cola_clock.specs.Marks.{Marks, merge_steps, consumed, sample_end, AreMarksInside, AreLevelMarks, AreAllMarks}
use Rattle.cola_clock.proofs.Laws.{adjacent-rest, ends-works}
use Rattle.cola_cell.specs.Held.{Held}
use Rattle.cola_cell.specs.Places.{slot_size}
use Rattle.cola_merge.specs.declared.aims.Aim.{Aim}
use Rattle.cola_merge.specs.Feeds.{feed_len}
use Rattle.cola_merge.specs.Heads.{IsReady, IsUsedUp}
use Rattle.cola_transfers.proofs.PaidLaws.{done-all}
use Rattle.cola_level.specs.declared.level.Level.{Level}
use Rattle.cola_level.specs.Marks.{marks_of, all_marks_of}
use Rattle.cola_level.specs.Aims.{aim_at}
use Rattle.cola_mutation.specs.Levels.{Fits}
use Rattle.cola_mutation.specs.Work.{HaveTurned}

-- ---- what a level reads of those behind it

pub aim_same : (t i own above : ℕ) (ls ms : List Level) → works t (suc i) ≡ true → HaveTurned t (suc i) ls ms → aim_at t i own above (all_marks_of ls) ≡ aim_at t i own above (all_marks_of ms)
aim_same t i own above [] [] w h = refl
aim_same t i own above [] (m ∷ ms) w h = absurd h
aim_same t i own above (l ∷ ls) [] w h = absurd h
aim_same t i own above (l ∷ ls) (m ∷ ms) w h = ap (λ (x : Level). aim_at t i own above (marks_of x ∷ [])) (sym (h.0.rests (adjacent-rest t i w)))

pub end_same : (t i : ℕ) (odd : Bool) (ls ms : List Level) → works t (suc i) ≡ true → HaveTurned t (suc i) ls ms → sample_end odd (all_marks_of ls) ≡ sample_end odd (all_marks_of ms)
end_same t i odd [] [] w h = refl
end_same t i odd [] (m ∷ ms) w h = absurd h
end_same t i odd (l ∷ ls) [] w h = absurd h
end_same t i odd (l ∷ ls) (m ∷ ms) w h = ap (λ (x : Level). cond odd x.shadow x.visible / 8) (sym (h.0.rests (adjacent-rest t i w)))

pub fits_below : {held : Held} (t i above : ℕ) (l : Level) (ls ms : List Level) → HaveTurned t (suc i) ls ms → Fits held t i above l (all_marks_of ls) → Fits held t i above l (all_marks_of ms)
fits_below {held} t i above l ls ms h f = record {
  level_in = f.level_in;
  shadow_is = f.shadow_is;
  slot_is = f.slot_is;
  ready = λ w. subst (λ (a : Aim). IsReady held a l.merger) (aim_same t i l.visible above ls ms w h) (f.ready w);
  rests = f.rests;
}

inside_fewer : (due less incoming_end sampled_end : ℕ) (m : Marks) → less ≤ due → AreMarksInside due incoming_end sampled_end m → AreMarksInside less incoming_end sampled_end m
inside_fewer due less incoming_end sampled_end m h is = record {
  own_within = is.own_within;
  incoming_within = is.incoming_within;
  sampled_within = is.sampled_within;
  enough = let enough = is.enough in omega (arith, enough, h);
  sampled_done = is.sampled_done;
  done_consumed = is.done_consumed;
}

pub level_marks_below : (ahead less t i above : ℕ) (m : Marks) (ls ms : List Level) → less ≤ ahead → HaveTurned t (suc i) ls ms →
    AreLevelMarks ahead t (suc i) above m (all_marks_of ls) → AreLevelMarks less t (suc i) above m (all_marks_of ms)
level_marks_below ahead less t i above m ls ms h turned marks = record {
  visible_fits = marks.visible_fits;
  shadow_fits = marks.shadow_fits;
  first = marks.first;
  before = marks.before;
  inside = λ some w. subst (λ (n : ℕ). AreMarksInside (less + merge_steps * window_step t (suc i)) above n m) (end_same t i (is_odd (period t (suc i))) ls ms w turned)
      (inside_fewer (ahead + merge_steps * window_step t (suc i)) (less + merge_steps * window_step t (suc i)) above (sample_end (is_odd (period t (suc i))) (all_marks_of ls)) m (omega (arith, h)) (marks.inside some w));
  after = marks.after;
}

-- ---- where the window ends

sampled_length : (t i own above : ℕ) (below : List Marks) → feed_len (aim_at t i own above below).sample ≡ sample_end (is_odd (period t (suc i))) below
sampled_length t i own above [] = refl
sampled_length t i own above (next ∷ under) = refl

own_length : (t i own above : ℕ) (below : List Marks) → feed_len (aim_at t i own above below).own ≡ own
own_length t i own above [] = refl
own_length t i own above (next ∷ under) = refl

incoming_length : (t i own above : ℕ) (below : List Marks) → feed_len (aim_at t i own above below).incoming ≡ above
incoming_length t i own above [] = refl
incoming_length t i own above (next ∷ under) = refl

-- every cursor is at its end
pub record AreAtEnds (above sampled_end : ℕ) (m : Marks) : Type 0 where
  pub own : m.visible ≤ m.own
  pub incoming : above ≤ m.incoming
  pub sampled : sampled_end ≤ m.sampled

all_at_ends : (above e due : ℕ) (m : Marks) → AreMarksInside due above e m → m.visible + above + e ≤ consumed m → AreAtEnds above e m
all_at_ends above e due m is h = record {
  own = omega (arith, is.own_within, is.incoming_within, is.sampled_within, h);
  incoming = omega (arith, is.own_within, is.incoming_within, is.sampled_within, h);
  sampled = omega (arith, is.own_within, is.incoming_within, is.sampled_within, h);
}

pub ends_at_end : (t i above : ℕ) (m : Marks) (below : List Marks) → ends t (suc i) ≡ true → above ≤ slot_size i → AreAllMarks merge_steps t (suc i) above (m ∷ below) →
    AreAtEnds above (sample_end (is_odd (period t (suc i))) below) m
ends_at_end t i above m below e fits marks =
    all_at_ends above (sample_end (is_odd (period t (suc i))) below) (merge_steps + merge_steps * window_step t (suc i)) m
    (marks.0.inside (omega arith) (ends-works t (suc i) e))
    (leb-true (m.visible + above + sample_end (is_odd (period t (suc i))) below) (consumed m) (done-all t i above m below e fits marks))

pub ends_used_up : (t i above : ℕ) (l : Level) (below : List Marks) → ends t (suc i) ≡ true → above ≤ slot_size i → AreAllMarks merge_steps t (suc i) above (marks_of l ∷ below) →
    IsUsedUp (aim_at t i l.visible above below) l.merger
ends_used_up t i above l below e fits marks =
    let at = ends_at_end t i above (marks_of l) below e fits marks in
    record {
      own = subst (λ (n : ℕ). n ≤ l.merger.own.at) (sym (own_length t i l.visible above below)) at.own;
      incoming = subst (λ (n : ℕ). n ≤ l.merger.incoming.at) (sym (incoming_length t i l.visible above below)) at.incoming;
      sample = subst (λ (n : ℕ). n ≤ l.merger.sample.at) (sym (sampled_length t i l.visible above below)) at.sampled;
    }
