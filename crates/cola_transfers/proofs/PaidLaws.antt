-- The account of a chain: a new one is paid, a mutation keeps it so, also where the clock wraps, and the bounds follow.
use Rattle.std.proofs.Common.{◌≡◌, inl, inr, ℕ, zero, suc, ◌+◌, ◌-◌, ◌*◌, ◌/◌, ◌%◌, ◌^◌, ◌<◌, ◌≤◌, min, Bool, true, false, cond, leb, List, [], ◌∷◌, length, refl, sym, ◌∙◌, ap, subst, arith}
use Rattle.std.proofs.lemmas.Bool.{cases_lt, false≢true, lt-ltb, le-leb}
use Rattle.std.proofs.lemmas.Nat.{pow_pos, pow-add, mul-le, div-add-mod', mod_below}
use Rattle.std.proofs.Math.Nat.{two-pow-succ, mul_assoc, mul-add, add-mul, mul_comm, mul-suc, suc-mul, le_trans, mul-div_right}
use Rattle.cola_clock.specs.Clock.{period, is_odd, ends, window_step, window_length, works, flips, visible_slot, SameSchedule}
use Rattle.cola_clock.specs.Marks.{Marks, consumed, sample_end, merge_steps, all_marks_after, AreMarksInside, AreLevelMarks, AreAllMarks}
use Rattle.cola_clock.proofs.Laws.{flips-zero, ends-last, ends-works}
use Rattle.cola_clock.proofs.MarkLaws.{length-after}
use Rattle.cola_clock.proofs.Wrap.{schedule-wrap}
use Rattle.cola_transfers.specs.Credit.{credit, credits, parts, file_cells, last_value}
use Rattle.cola_transfers.specs.Blocks.{slot_cells, block_cells, source_left, unwritten}
use Rattle.cola_transfers.specs.Chain.{Readers, Transfers, sampled_slot, sample_left, merge_left, reads_left, has_ended, writes_left, IsTidy, AreTidy, IsPaid, IsPaidCounting, counted, AreLevelsWorked, IsTopBuilt, IsMutated}
use Rattle.cola_transfers.proofs.BlockLaws.{block_pos, block_cells-pow, power_parts}
use Rattle.cola_transfers.proofs.CreditLaws.{credit-working, credits_below, credits-nil, credits-cons}
use Rattle.cola_transfers.proofs.WorkLaws.{AgreeFrom, three, same_source, sum_ap, same_reads, work-reads}
use Rattle.cola_transfers.proofs.WriteLaws.{AreWritten, tidy-same, work-writes}
use Rattle.cola_transfers.proofs.FlipLaws.{IsFirstFitting, first_end, slot_power, all_first, sample_few, merge_few, shadow_few, merge_same, source_same, slot_sampled, flip-reads, flip-writes, flip-tidy}

-- ---- a new chain

working_paid : (span rate p x c : ℕ) (w : Bool) → (w ≡ true → p ≤ c) → span * x ≤ rate * p → span * cond w x 0 ≤ rate * c
working_paid span rate p x c false has few = omega arith
working_paid span rate p x c true has few = le_trans few (mul-le rate p rate c (omega arith) (has refl))

both_paid : (span rate x y c d : ℕ) → span * x ≤ rate * c → span * y ≤ rate * d → span * (x + y) ≤ rate * (c + d)
both_paid span rate x y c d h k =
    let one : span * (x + y) ≡ span * x + span * y = mul-add span x y in
    let two : rate * (c + d) ≡ rate * c + rate * d = mul-add rate c d in
    omega arith

new_reads : (d t i above : ℕ) (readers : Readers) (levels : List Marks) → above ≤ slot_cells i → AreAllMarks 0 t (suc i) above levels →
    block_cells d * reads_left d readers t i above levels ≤ 14 * credits t i (length levels)
new_reads d t i above readers [] fits marks = omega arith
new_reads d t i above readers (m ∷ below) fits marks =
    rw (credits-cons t i (length below))
    (both_paid (block_cells d) 14 _ _ (credit t (suc i)) (credits t (suc i) (length below))
    (working_paid (block_cells d) 14 (2 ^ suc i) _ (credit t (suc i)) (works t (suc i)) (credit-working t i)
    (merge_few d t i above readers m below marks.0.visible_fits fits (all_first 0 t (suc i) m.visible below marks.1)))
    (new_reads d t (suc i) m.visible readers below marks.0.visible_fits marks.1))

new_writes : (d t i above : ℕ) (levels : List Marks) → block_cells d * writes_left d t i above levels ≤ 4 * credits t i (length levels)
new_writes d t i above [] = omega arith
new_writes d t i above (m ∷ below) =
    rw (credits-cons t i (length below))
    (both_paid (block_cells d) 4 _ _ (credit t (suc i)) (credits t (suc i) (length below))
    (working_paid (block_cells d) 4 (2 ^ suc i) _ (credit t (suc i)) (works t (suc i)) (credit-working t i) (shadow_few d t i above m below))
    (new_writes d t (suc i) m.visible below))

new_tidy : (d t i above : ℕ) (kept : ℕ → Bool) (levels : List Marks) → ((l : ℕ) → l ≤ i + length levels → kept l ≡ true) → AreTidy d kept t i above levels
new_tidy d t i above kept [] all = tt
new_tidy d t i above kept (m ∷ below) all = (record { whole = λ none. all (suc i) (omega arith); ended = λ work over. all (suc i) (omega arith) }, new_tidy d t (suc i) m.visible kept below (λ l in_store. all l (omega arith)))

nothing_yet : (span rate left n c : ℕ) → span * left ≤ rate * c → span * (0 + left) ≤ rate * (0 * suc n + c)
nothing_yet span rate left n c h =
    let one : 0 + left ≡ left = omega arith in
    let two : 0 * suc n + c ≡ c = omega arith in
    rw (one, two) h

pub paid-new : (d t above : ℕ) (ahead : List Marks) (s : Transfers) → s.reads ≡ 0 → s.writes ≡ 0 → above ≤ slot_cells 0 → AreAllMarks 0 t 1 above ahead → ((l : ℕ) → l ≤ length ahead → s.kept l ≡ true) → IsPaid d 0 t above ahead s
paid-new d t above ahead s reads writes fits marks kept = record {
  reads = rw reads (nothing_yet (block_cells d) 14 _ (length ahead) (credits t 0 (length ahead)) (new_reads d t 0 above s.readers ahead fits marks));
  writes = rw writes (nothing_yet (block_cells d) 4 _ (length ahead) (credits t 0 (length ahead)) (new_writes d t 0 above ahead));
  tidy = new_tidy d t 0 above s.kept ahead (λ l in_store. kept l (omega arith));
}

-- ---- one mutation

-- level 0's slots are smaller than any block, so no block of it is read
top_source : (d cursor end : ℕ) (f g : ℕ → Bool) → source_left (slot_cells 0) (block_cells d) (block_cells d) f end cursor ≡ source_left (slot_cells 0) (block_cells d) (block_cells d) g end cursor
top_source d cursor end f g = let p : 0 < 2 ^ d = pow_pos d in rw (lt-ltb (slot_cells 0) (block_cells d) (omega arith)) refl

top_sample : (d t : ℕ) (below : List Marks) (cursor : ℕ) (old new : Transfers) → ((s n : ℕ) → new.readers.sample 2 s n ≡ old.readers.sample 2 s n) →
    sample_left d new.readers t 1 below cursor ≡ sample_left d old.readers t 1 below cursor
top_sample d t [] cursor old new h = refl
top_sample d t (m ∷ below) cursor old new h = same_source _ _ _ _ cursor _ _ (λ n. h (sampled_slot t 1) n)

top_leaves : (d t above : ℕ) (levels worked : List Marks) (old new : Transfers) → IsTopBuilt d t worked old new → reads_left d new.readers t 0 above levels ≡ reads_left d old.readers t 0 above levels
top_leaves d t above [] worked old new h = refl
top_leaves d t above (m ∷ below) worked old new h =
    let agree : AgreeFrom 1 new.readers old.readers = record {
      own = λ l s n from. h.own l s n (λ e. omega arith);
      incoming = λ l s n from. h.incoming l s n (λ e. omega arith);
      sample = λ l s n from. h.sample l s n (λ e. omega arith) (λ e. omega arith);
    }
    in
    sum_ap (works t 1) _ _ _ _
    (three _ _ _ _ _ _
    (same_source _ _ _ _ m.own _ _ (λ n. h.own 1 (visible_slot t 1) n (λ e. omega arith)))
    (top_source d m.incoming above (new.readers.incoming 0 (visible_slot t 0)) (old.readers.incoming 0 (visible_slot t 0)))
    (top_sample d t below m.sampled old new (λ s n. h.sample 2 s n (λ e. omega arith) (λ e. omega arith))))
    (same_reads d t 1 m.visible new.readers old.readers below agree)

next_product : (m n d : ℕ) → suc m * suc n + d ≡ m * suc n + (suc n + d)
next_product m n d = let e : suc m * suc n ≡ m * suc n + suc n = suc-mul m (suc n) in omega arith

split_last : (rate n d : ℕ) → rate * (suc n + d) ≡ rate * n + (rate + rate * d)
split_last rate n d =
    let one : rate * (suc n + d) ≡ rate * suc n + rate * d = mul-add rate (suc n) d in
    let two : rate * suc n ≡ rate * n + rate = mul-suc rate n in
    omega arith

total : (span rate m n old mid top left0 left1 left2 c d s : ℕ) → mid + left1 ≤ old + left0 → top ≤ mid + s → span * s ≤ rate → span * left2 + rate * c ≤ span * left1 + rate * (d + n) →
    span * (old + left0) ≤ rate * (m * suc n + c) → span * (top + left2) ≤ rate * (suc m * suc n + d)
total span rate m n old mid top left0 left1 left2 c d s work built small flip paid =
    let more : span * (mid + left1) ≤ span * (old + left0) = mul-le span _ span _ (omega arith) work in
    let split : span * (mid + left1) ≡ span * mid + span * left1 = mul-add span mid left1 in
    let reach : span * top ≤ span * (mid + s) = mul-le span _ span _ (omega arith) built in
    let split_reach : span * (mid + s) ≡ span * mid + span * s = mul-add span mid s in
    let goal_left : span * (top + left2) ≡ span * top + span * left2 = mul-add span top left2 in
    let flip_right : rate * (d + n) ≡ rate * d + rate * n = mul-add rate d n in
    let paid_right : rate * (m * suc n + c) ≡ rate * (m * suc n) + rate * c = mul-add rate (m * suc n) c in
    let product : suc m * suc n + d ≡ m * suc n + (suc n + d) = next_product m n d in
    let goal_right : rate * (m * suc n + (suc n + d)) ≡ rate * (m * suc n) + rate * (suc n + d) = mul-add rate (m * suc n) (suc n + d) in
    let last_right : rate * (suc n + d) ≡ rate * n + (rate + rate * d) = split_last rate n d in
    rw product (omega arith)

same_length : (d t i above : ℕ) (levels worked : List Marks) (old new : Transfers) → AreLevelsWorked d t i above levels worked old new → length levels ≡ length worked
same_length d t i above [] [] old new h = refl
same_length d t i above [] (n ∷ under) old new h = absurd h
same_length d t i above (m ∷ below) [] old new h = absurd h
same_length d t i above (m ∷ below) (n ∷ under) old new (next, turn, rest) = ap (λ (k : ℕ). suc k) (same_length d t (suc i) m.visible below under next new rest)

never : (t : ℕ) (A : Type 0) → flips t 0 ≡ false → A
never t A stay = absurd (false≢true (sym stay ∙ flips-zero t))

pub paid-next : (d m t above above_next : ℕ) (ahead worked : List Marks) (old new : Transfers) → above_next ≤ slot_cells 0 → AreAllMarks merge_steps t 1 above worked →
    IsMutated d t above ahead worked old new → IsPaid d m t above ahead old → IsPaid d (suc m) (suc t) above_next (all_marks_after t 1 worked) new
paid-next d m t above above_next ahead worked old new fits marks h paid =
    let n : length ahead ≡ length worked = same_length d t 0 above ahead worked old h.after_work h.levels in
    let written : AreWritten d t 0 above ahead worked old h.after_work = work-writes d t 0 above ahead worked old h.after_work h.levels marks paid.tidy in
    let read : h.after_work.reads + reads_left d h.after_work.readers t 0 above worked ≤ old.reads + reads_left d old.readers t 0 above ahead =
    work-reads d t 0 above ahead worked old h.after_work h.levels in
    let readers : reads_left d new.readers t 0 above worked ≡ reads_left d h.after_work.readers t 0 above worked =
    ap (λ (r : Readers). reads_left d r t 0 above worked) h.flips.readers ∙ top_leaves d t above worked worked h.after_work h.after_top h.top
    in
    record {
      reads = rw (length-after t 1 worked, h.flips.reads)
          (total (block_cells d) 14 m (length worked) old.reads h.after_work.reads h.after_top.reads _ _ _ (credits t 0 (length worked)) (credits (suc t) 0 (length worked)) _ read h.top.reads
          (le_trans (sample_few d t 0 0 h.after_work.readers worked (all_first merge_steps t 0 above worked marks)) (omega arith))
          (subst (λ (x : ℕ). block_cells d * reads_left d new.readers (suc t) 0 above_next (all_marks_after t 1 worked) + 14 * credits t 0 (length worked) ≤ block_cells d * x + 14 * (credits (suc t) 0 (length worked) + length worked)) readers
          (flip-reads d t 0 above above_next new.readers worked (never t _) fits marks))
          (subst (λ (x : ℕ). block_cells d * (old.reads + reads_left d old.readers t 0 above ahead) ≤ 14 * (m * suc x + credits t 0 x)) n paid.reads));
      writes = rw (length-after t 1 worked, h.flips.writes)
          (total (block_cells d) 4 m (length worked) old.writes h.after_work.writes h.after_top.writes _ _ _ (credits t 0 (length worked)) (credits (suc t) 0 (length worked)) 0 written.writes
          (let none = h.top.writes in omega arith)
          (omega arith)
          (flip-writes d t 0 above above_next worked (never t _) marks)
          (subst (λ (x : ℕ). block_cells d * (old.writes + writes_left d t 0 above ahead) ≤ 4 * (m * suc x + credits t 0 x)) n paid.writes));
      tidy = flip-tidy d t 0 above above_next h.after_top.kept new.kept worked (never t _) marks (λ l in_store. h.flips.flipped l (omega arith)) (λ l in_store. h.flips.others l (omega arith))
          (tidy-same d t 0 above h.after_work.kept h.after_top.kept worked (λ l from. h.top.kept l (λ e. omega arith)) written.tidy);
    }

-- ---- a clock that no level can tell apart

sum_same : (w v : Bool) (x y p q : ℕ) → w ≡ v → x ≡ y → p ≡ q → cond w x 0 + p ≡ cond v y 0 + q
sum_same w v x y p q b e f = rw (b, e, f) refl

sample_at : (d t u i : ℕ) (readers : Readers) (below : List Marks) (cursor : ℕ) → ((k : ℕ) → k ≤ suc i + length below → SameSchedule u t k) →
    sample_left d readers u (suc i) below cursor ≡ sample_left d readers t (suc i) below cursor
sample_at d t u i readers [] cursor same = refl
sample_at d t u i readers (m ∷ below) cursor same =
    let here : SameSchedule u t (suc i) = same (suc i) (omega arith) in
    let behind : SameSchedule u t (suc (suc i)) = same (suc (suc i)) (omega arith) in
    source_same d (suc (suc i)) _ _ _ _ cursor readers (slot_sampled t u (suc i) here.parity behind.slot) (ap (λ (b : Bool). sample_end b (m ∷ below)) here.parity)

reads_at : (d t u i above : ℕ) (readers : Readers) (levels : List Marks) → ((k : ℕ) → k ≤ i + length levels → SameSchedule u t k) →
    reads_left d readers u i above levels ≡ reads_left d readers t i above levels
reads_at d t u i above readers [] same = refl
reads_at d t u i above readers (m ∷ below) same =
    let here : SameSchedule u t (suc i) = same (suc i) (omega arith) in
    let before : SameSchedule u t i = same i (omega arith) in
    sum_same _ _ _ _ _ _ here.work
    (merge_same d t u i above readers m below below here.slot before.slot (sample_at d t u i readers below m.sampled (λ k h. same k (omega arith))))
    (reads_at d t u (suc i) m.visible readers below (λ k h. same k (omega arith)))

ended_at : (t u i above : ℕ) (m : Marks) (below : List Marks) → SameSchedule u t (suc i) → has_ended u i above m below ≡ has_ended t i above m below
ended_at t u i above m below same = ap (λ (b : Bool). leb (m.visible + above + sample_end b below) (consumed m)) same.parity

writes_at : (d t u i above : ℕ) (levels : List Marks) → ((k : ℕ) → k ≤ i + length levels → SameSchedule u t k) → writes_left d u i above levels ≡ writes_left d t i above levels
writes_at d t u i above [] same = refl
writes_at d t u i above (m ∷ below) same =
    let here : SameSchedule u t (suc i) = same (suc i) (omega arith) in
    sum_same _ _ _ _ _ _ here.work
    (ap (λ (b : Bool). unwritten (slot_cells (suc i)) (block_cells d) m.shadow b) (ended_at t u i above m below here))
    (writes_at d t u (suc i) m.visible below (λ k h. same k (omega arith)))

credits_at : (t u i n : ℕ) → ((k : ℕ) → k ≤ i + n → SameSchedule u t k) → credits u i n ≡ credits t i n
unfolding credit
credits_at t u i zero same = credits-nil u i ∙ sym (credits-nil t i)
credits_at t u i (suc n) same =
    let here : SameSchedule u t (suc i) = same (suc i) (omega arith) in
    let rest : credits u (suc i) n ≡ credits t (suc i) n = credits_at t u (suc i) n (λ k h. same k (omega arith)) in
    rw (credits-cons u i n, credits-cons t i n, rest, here.before, here.place) refl

tidy_at : (d t u i above : ℕ) (kept : ℕ → Bool) (levels : List Marks) → ((k : ℕ) → k ≤ i + length levels → SameSchedule u t k) → AreTidy d kept t i above levels → AreTidy d kept u i above levels
tidy_at d t u i above kept [] same h = tt
tidy_at d t u i above kept (m ∷ below) same h =
    let here : SameSchedule u t (suc i) = same (suc i) (omega arith) in (
      record { whole = h.0.whole; ended = λ work over. h.0.ended (sym here.work ∙ work) (sym (ended_at t u i above m below here) ∙ over) },
      tidy_at d t u (suc i) m.visible kept below (λ k within. same k (omega arith)) h.1,
    )

pub paid-same : (d m t u above : ℕ) (ahead : List Marks) (s : Transfers) → ((k : ℕ) → k ≤ length ahead → SameSchedule u t k) → IsPaid d m t above ahead s → IsPaid d m u above ahead s
paid-same d m t u above ahead s same h =
    let all : (k : ℕ) → k ≤ 0 + length ahead → SameSchedule u t k = λ k within. same k (omega arith) in
    record {
      reads = rw (reads_at d t u 0 above s.readers ahead all, credits_at t u 0 (length ahead) all) h.reads;
      writes = rw (writes_at d t u 0 above ahead all, credits_at t u 0 (length ahead) all) h.writes;
      tidy = tidy_at d t u 0 above s.kept ahead all h.tidy;
    }

-- one mutation, at the next clock modulo 2^(L+1)
pub paid-wrapped : (d m t above above_next : ℕ) (ahead worked : List Marks) (old new : Transfers) → above_next ≤ slot_cells 0 → AreAllMarks merge_steps t 1 above worked →
    IsMutated d t above ahead worked old new → IsPaid d m t above ahead old → IsPaid d (suc m) (suc t % 2 ^ suc (length worked)) above_next (all_marks_after t 1 worked) new
paid-wrapped d m t above above_next ahead worked old new fits marks h paid =
    paid-same d (suc m) (suc t) (suc t % 2 ^ suc (length worked)) above_next (all_marks_after t 1 worked) new
    (λ k within. schedule-wrap (suc t) (length worked) k (let size : length (all_marks_after t 1 worked) ≡ length worked = length-after t 1 worked in omega arith))
    (paid-next d m t above above_next ahead worked old new fits marks h paid)

-- ---- the bounds

within : (span x y q done left : ℕ) → 0 < span → span * (done + left) ≤ x + y → y ≤ q * span → done ≤ parts x span + q
within span x y q done left positive paid rest =
    elim (cases_lt (parts x span + q) done) [
      | inl over ↦
          let whole : (x + (span - 1)) / span * span + (x + (span - 1)) % span ≡ x + (span - 1) = div-add-mod' (x + (span - 1)) span in
          let less : (x + (span - 1)) % span < span = mod_below (x + (span - 1)) span positive in
          let many : suc ((x + (span - 1)) / span + q) * span ≤ (done + left) * span = mul-le (suc ((x + (span - 1)) / span + q)) span (done + left) span (omega arith) (omega arith) in
          let turned : (done + left) * span ≡ span * (done + left) = mul_comm (done + left) span in
          let one : suc ((x + (span - 1)) / span + q) * span ≡ ((x + (span - 1)) / span + q) * span + span = suc-mul ((x + (span - 1)) / span + q) span in
          let two : ((x + (span - 1)) / span + q) * span ≡ (x + (span - 1)) / span * span + q * span = add-mul ((x + (span - 1)) / span) q span in
          absurd (omega arith)
      | inr fine ↦ fine
    ]

-- a file has whole blocks
file_parts : (d n : ℕ) → d ≤ suc n → file_cells n / block_cells d * block_cells d ≡ file_cells n
file_parts d n h =
    let pow : block_cells d ≡ 2 ^ (d + 3) = block_cells-pow d in
    let parts_are : 2 ^ (n + 4) ≡ 2 ^ (n + 4 - (d + 3)) * 2 ^ (d + 3) = power_parts (d + 3) (n + 4) (omega arith) in
    let turned : 2 ^ (n + 4 - (d + 3)) * 2 ^ (d + 3) ≡ 2 ^ (d + 3) * 2 ^ (n + 4 - (d + 3)) = mul_comm _ _ in
    let quotient : 2 ^ (d + 3) * 2 ^ (n + 4 - (d + 3)) / 2 ^ (d + 3) ≡ 2 ^ (n + 4 - (d + 3)) = mul-div_right (2 ^ (n + 4 - (d + 3))) (pow_pos (d + 3)) in
    let whole : 2 ^ (n + 4) / 2 ^ (d + 3) ≡ 2 ^ (n + 4 - (d + 3)) = ap (λ (x : ℕ). x / 2 ^ (d + 3)) (parts_are ∙ turned) ∙ quotient in
    rw (pow, whole) (sym parts_are)

file_power : (n : ℕ) → file_cells n ≡ 16 * 2 ^ (0 + n)
file_power n =
    let parts_are : 2 ^ (n + 4) ≡ 2 ^ n * 2 ^ 4 = pow-add 2 n 4 in
    let same : 0 + n ≡ n = omega arith in
    rw same (omega arith)

-- what the account says of the transfers themselves
pub bound-reads : (d m t above : ℕ) (ahead : List Marks) (s : Transfers) → d ≤ suc (length ahead) → IsPaid d m t above ahead s →
    s.reads ≤ parts (14 * (m * suc (length ahead))) (block_cells d) + 4 * (file_cells (length ahead) / block_cells d)
bound-reads d m t above ahead s fits h =
    let few : credits t 0 (length ahead) + 4 * 2 ^ 0 ≤ 4 * 2 ^ (0 + length ahead) = credits_below t 0 (length ahead) in
    let file : file_cells (length ahead) ≡ 16 * 2 ^ (0 + length ahead) = file_power (length ahead) in
    let whole : file_cells (length ahead) / block_cells d * block_cells d ≡ file_cells (length ahead) = file_parts d (length ahead) fits in
    let four : 4 * (file_cells (length ahead) / block_cells d) * block_cells d ≡ 4 * (file_cells (length ahead) / block_cells d * block_cells d) = mul_assoc 4 (file_cells (length ahead) / block_cells d) (block_cells d) in
    within (block_cells d) (14 * (m * suc (length ahead))) (14 * credits t 0 (length ahead)) (4 * (file_cells (length ahead) / block_cells d)) s.reads (reads_left d s.readers t 0 above ahead) (block_pos d)
    (subst (λ (x : ℕ). block_cells d * (s.reads + reads_left d s.readers t 0 above ahead) ≤ x) (mul-add 14 (m * suc (length ahead)) (credits t 0 (length ahead))) h.reads)
    (omega arith)

pub bound-writes : (d m t above : ℕ) (ahead : List Marks) (s : Transfers) → d ≤ suc (length ahead) → IsPaid d m t above ahead s →
    s.writes ≤ parts (4 * (m * suc (length ahead))) (block_cells d) + file_cells (length ahead) / block_cells d
bound-writes d m t above ahead s fits h =
    let few : credits t 0 (length ahead) + 4 * 2 ^ 0 ≤ 4 * 2 ^ (0 + length ahead) = credits_below t 0 (length ahead) in
    let file : file_cells (length ahead) ≡ 16 * 2 ^ (0 + length ahead) = file_power (length ahead) in
    let whole : file_cells (length ahead) / block_cells d * block_cells d ≡ file_cells (length ahead) = file_parts d (length ahead) fits in
    within (block_cells d) (4 * (m * suc (length ahead))) (4 * credits t 0 (length ahead)) (file_cells (length ahead) / block_cells d) s.writes (writes_left d t 0 above ahead) (block_pos d)
    (subst (λ (x : ℕ). block_cells d * (s.writes + writes_left d t 0 above ahead) ≤ x) (mul-add 4 (m * suc (length ahead)) (credits t 0 (length ahead))) h.writes)
    (omega arith)

-- ---- merges are done in time

due_enough : (t i : ℕ) → ends t (suc i) ≡ true → 7 * 2 ^ suc i ≤ 28 * suc (window_step t (suc i))
unfolding window_length
due_enough t zero end = let last : suc (window_step t 1) ≡ window_length 1 = ends-last t 1 end in omega arith
due_enough t (suc k) end =
    let last : suc (window_step t (suc (suc k))) ≡ window_length (suc (suc k)) = ends-last t (suc (suc k)) end in
    let one : 2 ^ suc k ≡ 2 ^ k + 2 ^ k = two-pow-succ k in
    let two : 2 ^ suc (suc k) ≡ 2 ^ suc k + 2 ^ suc k = two-pow-succ (suc k) in
    omega arith

-- the lesser of two numbers, where it is the first
least_all : (sources due done : ℕ) → min sources due ≤ done → sources ≤ due → sources ≤ done
least_all sources due done h k = omega arith

pub done-in-time : (t i above : ℕ) (m : Marks) (below : List Marks) → ends t (suc i) ≡ true → above ≤ slot_cells i → IsFirstFitting (suc (suc i)) below → AreLevelMarks merge_steps t (suc i) above m below →
    has_ended t i above m below ≡ true
done-in-time t i above m below end above_fits below_fits marks =
    let inside : AreMarksInside (merge_steps + merge_steps * window_step t (suc i)) above (sample_end (is_odd (period t (suc i))) below) m = marks.inside (omega arith) (ends-works t (suc i) end) in
    let enough = inside.enough in
    let due : 7 * 2 ^ suc i ≤ 28 * suc (window_step t (suc i)) = due_enough t i end in
    let visible : m.visible ≤ 2 ^ (suc i + 2) = marks.visible_fits in
    let slot : slot_cells (suc i) ≡ 4 * 2 ^ suc i = slot_power (suc i) in
    let slot_above : slot_cells i ≡ 4 * 2 ^ i = slot_power i in
    let twice : 2 ^ suc i ≡ 2 ^ i + 2 ^ i = two-pow-succ i in
    let sampled : sample_end (is_odd (period t (suc i))) below ≤ 2 ^ suc i = first_end (is_odd (period t (suc i))) (suc i) below below_fits in
    le-leb _ _ (least_all (m.visible + above + sample_end (is_odd (period t (suc i))) below) (merge_steps + merge_steps * window_step t (suc i)) (consumed m) enough (omega arith))

-- so a tidy level's shadow is kept where its window ends
pub kept-in-time : (d t i above : ℕ) (kept : ℕ → Bool) (m : Marks) (below : List Marks) → ends t (suc i) ≡ true → above ≤ slot_cells i → IsFirstFitting (suc (suc i)) below → AreLevelMarks merge_steps t (suc i) above m below →
    IsTidy d kept t i above m below → kept (suc i) ≡ true
kept-in-time d t i above kept m below end above_fits below_fits marks tidy =
    tidy.ended (ends-works t (suc i) end) (done-in-time t i above m below end above_fits below_fits marks)

-- ---- numbers that stop

uncounted : (x : ℕ) → min x last_value < last_value → min x last_value ≡ x
uncounted x h = omega arith

pub counting-next : (d m t above above_next : ℕ) (ahead worked : List Marks) (old new : Transfers) → above_next ≤ slot_cells 0 → AreAllMarks merge_steps t 1 above worked →
    IsMutated d t above ahead worked old new → old.reads ≤ new.reads → old.writes ≤ new.writes → IsPaidCounting d m t above ahead old →
    IsPaidCounting d (min (suc m) last_value) (suc t % 2 ^ suc (length worked)) above_next (all_marks_after t 1 worked) (counted new)
counting-next d m t above above_next ahead worked old new fits marks h reads_rise writes_rise paid =
    λ few few_reads few_writes.
    let m_is : min (suc m) last_value ≡ suc m = uncounted (suc m) few in
    let reads_is : min new.reads last_value ≡ new.reads = uncounted new.reads few_reads in
    let writes_is : min new.writes last_value ≡ new.writes = uncounted new.writes few_writes in
    let before : IsPaid d m t above ahead old = paid (omega arith) (omega arith) (omega arith) in
    let after = paid-wrapped d m t above above_next ahead worked old new fits marks h before in
    rw m_is (record {
      reads = rw reads_is after.reads;
      writes = rw writes_is after.writes;
      tidy = after.tidy;
    })

-- ---- the same from the rules on all marks

pub merge_all : (d steps t u i above : ℕ) (readers : Readers) (m : Marks) (below : List Marks) → above ≤ slot_cells i → AreAllMarks steps t (suc i) above (m ∷ below) →
    block_cells d * merge_left d readers u i above m below ≤ 14 * 2 ^ suc i
merge_all d steps t u i above readers m below fits marks = merge_few d u i above readers m below marks.0.visible_fits fits (all_first steps t (suc i) m.visible below marks.1)

pub done-all : (t i above : ℕ) (m : Marks) (below : List Marks) → ends t (suc i) ≡ true → above ≤ slot_cells i → AreAllMarks merge_steps t (suc i) above (m ∷ below) → has_ended t i above m below ≡ true
done-all t i above m below end fits marks = done-in-time t i above m below end fits (all_first merge_steps t (suc i) m.visible below marks.1) marks.0

pub kept-all : (d t i above : ℕ) (kept : ℕ → Bool) (m : Marks) (below : List Marks) → ends t (suc i) ≡ true → above ≤ slot_cells i → AreAllMarks merge_steps t (suc i) above (m ∷ below) →
    IsTidy d kept t i above m below → kept (suc i) ≡ true
kept-all d t i above kept m below end fits marks tidy = kept-in-time d t i above kept m below end fits (all_first merge_steps t (suc i) m.visible below marks.1) marks.0 tidy
