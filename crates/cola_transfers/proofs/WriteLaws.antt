-- The writes of the levels add up, by tidy shadows, and shadows stay tidy.
use Rattle.std.proofs.Common.{◌≡◌, inl, inr, ℕ, suc, ◌+◌, ◌-◌, ◌*◌, ◌/◌, ◌%◌, ◌^◌, ◌<◌, ◌≤◌, Bool, true, false, leb, List, [], ◌∷◌, refl, sym, ◌∙◌, ap, subst, arith}
use Rattle.std.proofs.lemmas.Bool.{cases_Bool, cases_lt, cases_eq, false≢true, leb-true, le-leb}
use Rattle.std.proofs.lemmas.Nat.{le-div}
use Rattle.std.proofs.Math.Nat.{le_trans}
use Rattle.cola_clock.specs.Clock.{period, is_odd, works, window_step}
use Rattle.cola_clock.specs.Marks.{Marks, consumed, sample_end, merge_steps, AreMarksInside, AreLevelMarks, AreAllMarks}
use Rattle.cola_transfers.specs.Blocks.{slot_cells, block_cells, put_down, unwritten, IsWrittenDown}
use Rattle.cola_transfers.specs.Chain.{Transfers, has_ended, shadow_left, writes_left, IsTidy, AreTidy, IsLevelWorked, IsLevelAtRest, AreLevelsWorked}
use Rattle.cola_transfers.proofs.BlockLaws.{block_pos, put_down_few, small_slot, slot_parts}
use Rattle.cola_transfers.proofs.WorkLaws.{turn_of, ap_le, one_more, none_more, leaves, BehindStays, behind-stays}

-- the blocks written and those put down: where the merge had ended before, the shadow has got no cell
took : (slot span old new : ℕ) (had_ended ended was now : Bool) (before after : ℕ) →
    (old % span ≡ 0 → was ≡ true) → (had_ended ≡ true → (was ≡ true) × (new ≤ old) × (ended ≡ true)) → IsWrittenDown slot span old new ended was now before after →
    after + put_down span old had_ended ≤ before + put_down span new ended
took slot span old new true ended was now before after whole over h =
    let same : new ≡ old = (let least = h.grows in let most = (over refl).1 in omega arith) in
    let kept : after + old / span ≤ before + new / span = h.still_kept same (over refl).0 in
    let sizes : new / span ≡ old / span = ap (λ (x : ℕ). x / span) same in
    let rests : new % span ≡ old % span = ap (λ (x : ℕ). x % span) same in
    rw ((over refl).2, rests) (omega arith)
took slot span old new false false was now before after whole over h = h.fills refl
took slot span old new false true was now before after whole over h =
    let finishes = h.finishes in
    elim (cases_eq (new % span) 0) [
      | inl none ↦
          let kept : after + old / span ≤ before + new / span =
          elim (cases_lt old new) [
            | inl more ↦ h.whole more none
            | inr same ↦ (let least = h.grows in
                let equal : new ≡ old = omega arith in
                h.still_kept equal (whole (ap (λ (x : ℕ). x % span) (sym equal) ∙ none)))
          ]
          in
          omega arith
      | inr some ↦ omega arith
    ]

big : (after before cap old_put new_put : ℕ) → after + old_put ≤ before + new_put → new_put ≤ cap → after + (cap - new_put) ≤ before + (cap - old_put)
big after before cap old_put new_put h k = omega arith

none_left : (after before cap old_put new_put : ℕ) → cap ≡ 0 → after ≤ before → after + (cap - new_put) ≤ before + (cap - old_put)
none_left after before cap old_put new_put e h = omega arith

-- what a level writes comes out of what it may still write
written-down : (slot span m old new : ℕ) (had_ended ended was now : Bool) (before after : ℕ) → 0 < span → (span ≤ slot → slot ≡ m * span) → new ≤ slot →
    (old % span ≡ 0 → was ≡ true) → (had_ended ≡ true → (was ≡ true) × (new ≤ old) × (ended ≡ true)) → IsWrittenDown slot span old new ended was now before after →
    after + unwritten slot span new ended ≤ before + unwritten slot span old had_ended
written-down slot span m old new had_ended ended was now before after positive parts fits whole over h =
    elim (cases_lt slot span) [
      | inl small ↦ none_left after before (slot / span) _ _ (small_slot slot span small) (h.small small)
      | inr room ↦
          let fits_parts : new ≤ m * span = (let e : slot ≡ m * span = parts room in omega arith) in
          let few : put_down span new ended ≤ m = put_down_few span m new ended positive fits_parts in
          let cap : m ≤ slot / span = le-div m slot span positive (let e : slot ≡ m * span = parts room in omega arith) in
          big after before (slot / span) _ _ (took slot span old new had_ended ended was now before after whole over h) (le_trans few cap)
    ]

-- a shadow that was tidy is so after its level's work
tidy-down : (slot span old new : ℕ) (ended was now : Bool) (before after : ℕ) → (old % span ≡ 0 → was ≡ true) → IsWrittenDown slot span old new ended was now before after →
    new % span ≡ 0 → now ≡ true
tidy-down slot span old new ended was now before after whole h none =
    elim (cases_lt old new) [
      | inl more ↦ h.kept_whole more none
      | inr same ↦ (let least = h.grows in
          let equal : new ≡ old = omega arith in
          h.kept_still equal (whole (ap (λ (x : ℕ). x % span) (sym equal) ∙ none)))
    ]

-- once all source cells are consumed, work takes none more and emits none more
over_stays : (due above end : ℕ) (m n : Marks) → n.visible ≡ m.visible → consumed m ≤ consumed n → n.shadow + consumed m ≤ m.shadow + consumed n → AreMarksInside due above end n →
    m.visible + above + end ≤ consumed m → (n.shadow ≤ m.shadow) × (n.visible + above + end ≤ consumed n)
over_stays due above end m n same goes_on emits inside all =
    let own = inside.own_within in
    let incoming = inside.incoming_within in
    let sampled = inside.sampled_within in
    (omega arith, omega arith)

ended_parts : (t i above : ℕ) (m : Marks) (below : List Marks) → has_ended t i above m below ≡ true → m.visible + above + sample_end (is_odd (period t (suc i))) below ≤ consumed m
ended_parts t i above m below h = leb-true _ _ h

parts_ended : (t i above : ℕ) (m : Marks) (below : List Marks) → m.visible + above + sample_end (is_odd (period t (suc i))) below ≤ consumed m → has_ended t i above m below ≡ true
parts_ended t i above m below h = le-leb _ _ h

-- the levels' samples end where they ended before the levels behind had their turns
same_ended : (t i above : ℕ) (n : Marks) (below under : List Marks) → sample_end (is_odd (period t (suc i))) under ≡ sample_end (is_odd (period t (suc i))) below →
    has_ended t i above n under ≡ has_ended t i above n below
same_ended t i above n below under e = ap (λ (x : ℕ). leb (n.visible + above + x) (consumed n)) e

-- a merge that had ended before a level's work
had_ended : (d t i above : ℕ) (m n : Marks) (below under : List Marks) (old next : Transfers) → works t (suc i) ≡ true →
    sample_end (is_odd (period t (suc i))) under ≡ sample_end (is_odd (period t (suc i))) below → AreLevelMarks merge_steps t (suc i) above n under → IsTidy d old.kept t i above m below →
    IsLevelWorked d t i above m n below old next → has_ended t i above m below ≡ true →
    (old.kept (suc i) ≡ true) × (n.shadow ≤ m.shadow) × (has_ended t i above n below ≡ true)
had_ended d t i above m n below under old next work end marks tidy h over =
    let inside : AreMarksInside (merge_steps + merge_steps * window_step t (suc i)) above (sample_end (is_odd (period t (suc i))) below) n =
    subst (λ (x : ℕ). AreMarksInside (merge_steps + merge_steps * window_step t (suc i)) above x n) end (marks.inside (omega arith) work)
    in
    let both = over_stays _ above _ m n h.visible h.goes_on h.emits inside (ended_parts t i above m below over) in
    (tidy.ended work over, both.0, parts_ended t i above n below both.1)

level-writes : (d t i above : ℕ) (m n : Marks) (below under : List Marks) (old next : Transfers) → works t (suc i) ≡ true →
    sample_end (is_odd (period t (suc i))) under ≡ sample_end (is_odd (period t (suc i))) below → AreLevelMarks merge_steps t (suc i) above n under → IsTidy d old.kept t i above m below →
    IsLevelWorked d t i above m n below old next →
    next.writes + shadow_left d t i above n under ≤ old.writes + shadow_left d t i above m below
level-writes d t i above m n below under old next work end marks tidy h =
    subst (λ (x : Bool). next.writes + unwritten (slot_cells (suc i)) (block_cells d) n.shadow x ≤ old.writes + shadow_left d t i above m below) (sym (same_ended t i above n below under end))
    (written-down (slot_cells (suc i)) (block_cells d) (2 ^ (suc i + 2 - (d + 3))) m.shadow n.shadow _ _ _ _ _ _ (block_pos d) (slot_parts (suc i) d) marks.shadow_fits tidy.whole
    (had_ended d t i above m n below under old next work end marks tidy h) h.writes)

level-tidy : (d t i above : ℕ) (m n : Marks) (below under : List Marks) (old next new : Transfers) →
    sample_end (is_odd (period t (suc i))) under ≡ sample_end (is_odd (period t (suc i))) below → IsTidy d old.kept t i above m below →
    IsLevelWorked d t i above m n below old next → new.kept (suc i) ≡ next.kept (suc i) → IsTidy d new.kept t i above n under
level-tidy d t i above m n below under old next new end tidy h same = record {
  whole = λ none. same ∙ tidy-down _ _ _ _ _ _ _ _ _ tidy.whole h.writes none;
  ended = λ work over. same ∙ h.writes.kept_at_end (sym (same_ended t i above n below under end) ∙ over);
}

-- shadows of the levels behind are kept where they were
pub tidy-same : (d t i above : ℕ) (kept now : ℕ → Bool) (levels : List Marks) → ((l : ℕ) → suc i ≤ l → now l ≡ kept l) → AreTidy d kept t i above levels → AreTidy d now t i above levels
tidy-same d t i above kept now [] same h = tt
tidy-same d t i above kept now (m ∷ below) same h = (
  record { whole = λ none. same (suc i) (omega arith) ∙ h.0.whole none; ended = λ work over. same (suc i) (omega arith) ∙ h.0.ended work over },
  tidy-same d t (suc i) m.visible kept now below (λ l from. same l (omega arith)) h.1,
)

-- the writes of all levels, and their shadows
pub record AreWritten (d t i above : ℕ) (levels worked : List Marks) (old new : Transfers) : Type 0 where
  pub writes : new.writes + writes_left d t i above worked ≤ old.writes + writes_left d t i above levels
  pub tidy : AreTidy d new.kept t i above worked

written-cons : (d t i above : ℕ) (m n : Marks) (below under : List Marks) (old next new : Transfers) → works t (suc i) ≡ true →
    AreLevelMarks merge_steps t (suc i) above n under → AreTidy d old.kept t i above (m ∷ below) → IsLevelWorked d t i above m n below old next → BehindStays d t i below under next new →
    AreWritten d t (suc i) m.visible below under next new → AreWritten d t i above (m ∷ below) (n ∷ under) old new
written-cons d t i above m n below under old next new e marks tidy h behind rest =
    let end = behind.end (is_odd (period t (suc i))) in
    record {
      writes = rw e
          (one_more old.writes next.writes new.writes _ _ _ _ (level-writes d t i above m n below under old next e end marks tidy.0 h)
          (subst (λ (x : ℕ). new.writes + writes_left d t (suc i) x under ≤ next.writes + writes_left d t (suc i) m.visible below) (sym h.visible) rest.writes));
      tidy = (
        level-tidy d t i above m n below under old next new end tidy.0 h behind.kept,
        subst (λ (x : ℕ). AreTidy d new.kept t (suc i) x under) (sym h.visible) rest.tidy,
      );
    }

rested-cons : (d t i above : ℕ) (m n : Marks) (below under : List Marks) (old next new : Transfers) → works t (suc i) ≡ false →
    AreTidy d old.kept t i above (m ∷ below) → n ≡ m → next ≡ old → new.kept (suc i) ≡ next.kept (suc i) →
    AreWritten d t (suc i) m.visible below under next new → AreWritten d t i above (m ∷ below) (n ∷ under) old new
rested-cons d t i above m n below under old next new e tidy same_marks same_transfers kept rest =
    let own : new.kept (suc i) ≡ old.kept (suc i) = kept ∙ ap (λ (x : Transfers). x.kept (suc i)) same_transfers in
    record {
      writes = rw (e, same_marks)
          (none_more old.writes new.writes _ _
          (subst (λ (x : Transfers). new.writes + writes_left d t (suc i) m.visible under ≤ x.writes + writes_left d t (suc i) m.visible below) same_transfers rest.writes));
      tidy = subst (λ (x : Marks). AreTidy d new.kept t i above (x ∷ under)) (sym same_marks) (
        record { whole = λ none. own ∙ tidy.0.whole none; ended = λ work over. absurd (false≢true (sym e ∙ work)) },
        rest.tidy,
      );
    }

pub work-writes : (d t i above : ℕ) (levels worked : List Marks) (old new : Transfers) → AreLevelsWorked d t i above levels worked old new →
    AreAllMarks merge_steps t (suc i) above worked → AreTidy d old.kept t i above levels → AreWritten d t i above levels worked old new
work-writes d t i above [] [] old new h marks tidy = record { writes = ap_le (ap (λ (x : Transfers). x.writes) h); tidy = tt }
work-writes d t i above [] (n ∷ under) old new h marks tidy = absurd h
work-writes d t i above (m ∷ below) [] old new h marks tidy = absurd h
work-writes d t i above (m ∷ below) (n ∷ under) old new (next, turn, rest) marks tidy =
    elim (cases_Bool (works t (suc i))) [
      | inl e ↦
          let worked : IsLevelWorked d t i above m n below old next = turn_of d t i above m n below old next true e turn in
          let behind_marks : AreAllMarks merge_steps t (suc (suc i)) m.visible under = subst (λ (x : ℕ). AreAllMarks merge_steps t (suc (suc i)) x under) worked.visible marks.1 in
          let behind_tidy : AreTidy d next.kept t (suc i) m.visible below = tidy-same d t (suc i) m.visible old.kept next.kept below (λ l from. worked.beside.kept l (λ same. omega arith)) tidy.1 in
          written-cons d t i above m n below under old next new e marks.0 tidy worked (behind-stays d t i m.visible below under next new e rest)
          (work-writes d t (suc i) m.visible below under next new rest behind_marks behind_tidy)
      | inr e ↦
          let rests : IsLevelAtRest m n old next = turn_of d t i above m n below old next false e turn in
          let behind_marks : AreAllMarks merge_steps t (suc (suc i)) m.visible under = subst (λ (x : Marks). AreAllMarks merge_steps t (suc (suc i)) x.visible under) rests.marks marks.1 in
          let behind_tidy : AreTidy d next.kept t (suc i) m.visible below = subst (λ (x : Transfers). AreTidy d x.kept t (suc i) m.visible below) (sym rests.transfers) tidy.1 in
          rested-cons d t i above m n below under old next new e tidy rests.marks rests.transfers ((leaves d t (suc i) m.visible below under next new rest).kept (suc i) (omega arith))
          (work-writes d t (suc i) m.visible below under next new rest behind_marks behind_tidy)
    ]
