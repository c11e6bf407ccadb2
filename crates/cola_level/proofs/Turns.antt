-- The work of a level by the rules of a chain: its marks, its runs as the laws of levels have them, and its transfers.
use Rattle.std.proofs.Common.{◌≡◌, ◌≢◌, inl, ℕ, suc, ◌+◌, ◌-◌, ◌*◌, ◌≤◌, min, nat_le, Bool, true, List, [], ◌∷◌, length, Result, Ok, Err, OnOk, refl, ap, sym, subst, ◌∙◌, arith}
use Rattle.std.specs.Cmp.Lexicographic.{nat_list_cmp_total}
use Rattle.std.proofs.lemmas.Bool.{true≢false}
use Rattle.cola_clock.specs.Clock.{period, is_odd, works, window_step, visible_slot}
use Rattle.cola_clock.specs.Marks.{Marks, merge_steps, sample_end, AreMarksInside, AreLevelMarks}
use Rattle.cola_clock.proofs.Laws.{before-not_works, works-not_over}
use Rattle.std.specs.List.Sorted.{IsStrictlySortedBy}
use Rattle.cola_runs.specs.Weave.{Part, weave}
use Rattle.cola_runs.specs.Steps.{Build, IsUnderWay}
use Rattle.cola_runs.specs.Steps as steps
use Rattle.cola_laws.specs.Chain.{part_of, build_of, next_runs, first_keys}
use Rattle.cola_laws.specs.Mutation.{IsAdvanced}
use Rattle.cola_laws.proofs.Facts.{works-advanced}
use Rattle.cola_laws.proofs.Mutations.{fewer-advanced}
use Rattle.cola_cell.specs.declared.cell.Reader.{Reader}
use Rattle.cola_cell.specs.declared.cell.Reader.TheVariants.{Own, Incoming, Sample}
use Rattle.cola_cell.specs.Spent.{Buffer, By, Spent}
use Rattle.cola_cell.specs.State.{State}
use Rattle.cola_merge.specs.Blocks.{feed_left}
use Rattle.cola_transfers.specs.Blocks.{IsWrittenDown}
use Rattle.cola_transfers.specs.Chain.{sample_left, has_ended, StaysBeside, IsLevelWorked}
use Rattle.cola_cell.specs.declared.fault.StepFault.{StepFault}
use Rattle.cola_cell.specs.Held.{Held, Stamped, span}
use Rattle.cola_cell.specs.Places.{slot_size}
use Rattle.cola_cell.specs.Order.{key_cmp}
use Rattle.cola_merge.specs.declared.aims.Aim.{Aim}
use Rattle.cola_merge.specs.declared.merging.Merger.{Merger}
use Rattle.cola_merge.specs.Feeds as merge
use Rattle.cola_merge.specs.Feeds.{feed_len, feed_cells, feed_keys}
use Rattle.cola_merge.specs.Heads.{consumed, IsReady}
use Rattle.cola_merge.specs.Heads as heads
use Rattle.cola_merge.specs.States.{state, IsOther, TurnsWithin}
use Rattle.cola_merge.specs.Advance.{IsGoing, GoesBy, whole_run}
use Rattle.cola_merge.specs.declared.aims.Feed.TheVariants as feed
use Rattle.cola_level.specs.declared.level.Level.{Level}
use Rattle.cola_level.specs.Aims.{visible_run, sample_of, aim_at}
use Rattle.cola_level.specs.Marks.{marks_of}
use Rattle.cola_level.specs.Standing.{slot_cells, visible_cells, stood, all_stood, CanAdvance, is_kept, transfers_of}
use Rattle.cola_level.specs.Work.{taken, sources, GoesFurther, is_ended, WritesDown, Advances}
use Rattle.cola_level.specs.Built.{Moves, Built}
use Rattle.cola_level.specs.Works.{Works}
use Rattle.cola_level.proofs.Sources.{keys_of_next, part_of_aim, sample_len}
use Rattle.cola_level.proofs.Writing.{kept_same}

-- ---- marks

pace : (all same due more before after : ℕ) → all ≡ same → min all (0 + due) ≤ before → before ≤ after → min same (before + more) ≤ after → min all (more + due) ≤ after
pace all same due more before after e h k l = omega (arith, e, h, k, l)

samples_under : (m n x y a b : ℕ) → x ≡ a → y ≡ b → a + n ≤ b + m → m ≤ x → n ≤ y
samples_under m n x y a b e f h k = omega (arith, e, f, h, k)

emits_under : (m n x y a b : ℕ) → x ≡ a → y ≡ b → b + m ≤ a + n → x ≤ m → y ≤ n
emits_under m n x y a b e f h k = omega (arith, e, f, h, k)

emits_so : (m n x y a b : ℕ) → x ≡ a → y ≡ b → b + m ≤ a + n → y + m ≤ x + n
emits_so m n x y a b e f h = omega (arith, e, f, h)

-- ---- readers

abbrev reader_of : Reader → Buffer → Reader
reader_of other (By r l) = r
reader_of other _ = other

abbrev level_of : Buffer → ℕ
level_of (By r l) = l
level_of _ = 0

other_reader : (r q : Reader) (l k : ℕ) → r ≢ q → By r l ≢ By q k
other_reader r q l k d = λ e. d (ap (reader_of r) e)

other_level : (r : Reader) (l k : ℕ) → l ≢ k → By r l ≢ By r k
other_level r l k d = λ e. d (ap level_of e)

own≢incoming : Own ≢ Incoming
own≢incoming = λ e. cc

own≢sample : Own ≢ Sample
own≢sample = λ e. cc

incoming≢sample : Incoming ≢ Sample
incoming≢sample = λ e. cc

not_sampled : (t j : ℕ) (below : List Marks) (r : Reader) (l : ℕ) → r ≢ Sample → IsOther Sample (sample_of t j below) (By r l)
not_sampled t j [] r l d = tt
not_sampled t j (next ∷ under) r l d = other_reader r Sample l (suc j) d

elsewhere_sampled : (t j : ℕ) (below : List Marks) (l : ℕ) → l ≢ suc j → IsOther Sample (sample_of t j below) (By Sample l)
elsewhere_sampled t j [] l d = tt
elsewhere_sampled t j (next ∷ under) l d = other_level Sample l (suc j) d

-- ---- blocks left

left_of_sample : (doublings : ℕ) (held : Held) (spent : Spent) (t j : ℕ) (below : List Marks) (at : ℕ) →
    feed_left doublings spent.lasts Sample (sample_of t j below) at ≡ sample_left doublings (transfers_of held spent).readers t j below at
left_of_sample doublings held spent t j [] at = refl
left_of_sample doublings held spent t j (next ∷ under) at = refl

other_sample : (x y a b c p q r d s : ℕ) → c ≡ d → r ≡ s → x + (a + b + c) ≤ y + (p + q + r) → x + (a + b + d) ≤ y + (p + q + s)
other_sample x y a b c p q r d s e f h = omega (arith, e, f, h)

-- a level after its work
abbrev pub worked_level : Level → ℕ → Merger → Level
worked_level l shadow n = record { visible = l.visible; shadow = shadow; merger = n }

module _ {A : Type 0} (t i above : ℕ) (below : List Marks) (l : Level) (shadow : ℕ) (n : Merger) (old new : State) (from to : ℕ) (result : Result A StepFault)
    (moves : Moves (aim_at t i l.visible above below) (state old l.merger from) (state new n to) result)
    (length_was : l.shadow ≡ (old.held.shadows (suc i)).len) (length_is : shadow ≡ (new.held.shadows (suc i)).len) where
  all_sources : l.visible + above + sample_end (is_odd (period t (suc i))) below ≡ sources (aim_at t i l.visible above below)
  all_sources = ap (λ (n : ℕ). l.visible + above + n) (sym (sample_len t (suc i) below))

  inside : (due : ℕ) → AreMarksInside (0 + due) above (sample_end (is_odd (period t (suc i))) below) (marks_of l) →
      AreMarksInside (taken result + due) above (sample_end (is_odd (period t (suc i))) below) (marks_of (worked_level l shadow n))
  inside due h = record {
    own_within = moves.ready.own.within;
    incoming_within = moves.ready.incoming.within;
    sampled_within = subst (λ (x : ℕ). n.sample.at ≤ x) (sample_len t (suc i) below) moves.ready.sample.within;
    enough = pace (l.visible + above + sample_end (is_odd (period t (suc i))) below) (sources (aim_at t i l.visible above below)) due (taken result) (consumed l.merger) (consumed n) all_sources h.enough moves.takes.rises moves.takes.enough;
    sampled_done = samples_under l.merger.sample.at n.sample.at l.shadow shadow (old.held.shadows (suc i)).len (new.held.shadows (suc i)).len length_was length_is moves.samples h.sampled_done;
    done_consumed = emits_under (consumed l.merger) (consumed n) l.shadow shadow (old.held.shadows (suc i)).len (new.held.shadows (suc i)).len length_was length_is moves.emits h.done_consumed;
  }

  -- the level has marks that it may have, so many steps further
  marked : works t (suc i) ≡ true → shadow ≤ slot_size (suc i) → AreLevelMarks 0 t (suc i) above (marks_of l) below →
      AreLevelMarks (taken result) t (suc i) above (marks_of (worked_level l shadow n)) below
  marked w within m = record {
    visible_fits = m.visible_fits;
    shadow_fits = within;
    first = λ e. absurd (omega (arith, e));
    before = λ e. absurd (true≢false (sym w ∙ before-not_works t i e));
    inside = λ h k. inside (merge_steps * window_step t (suc i)) (m.inside h k);
    after = λ e. absurd (true≢false (sym e ∙ works-not_over t i w));
  }

  -- ---- the laws of levels

  old_slot : (old.held.shadows (suc i)).slot ≡ 1 - visible_slot t (suc i)
  old_slot = sym moves.grows.slot_is ∙ sym moves.ready.slot_is

  old_build : heads.build_of old.held (aim_at t i l.visible above below) l.merger ≡ build_of (stood old.held t (suc i) (marks_of l))
  old_build =
      ap (λ (s : ℕ). record { own = l.merger.own.at; incoming = l.merger.incoming.at; sampled = l.merger.sample.at; done = slot_cells old.held (suc i) s (old.held.shadows (suc i)).len }) old_slot
      ∙ ap (λ (x : ℕ). record { own = l.merger.own.at; incoming = l.merger.incoming.at; sampled = l.merger.sample.at; done = slot_cells old.held (suc i) (1 - visible_slot t (suc i)) x }) (sym length_was)

  new_build : heads.build_of new.held (aim_at t i l.visible above below) n ≡ build_of (stood new.held t (suc i) (marks_of (worked_level l shadow n)))
  new_build =
      ap (λ (s : ℕ). record { own = n.own.at; incoming = n.incoming.at; sampled = n.sample.at; done = slot_cells new.held (suc i) s (new.held.shadows (suc i)).len }) (sym moves.ready.slot_is)
      ∙ ap (λ (x : ℕ). record { own = n.own.at; incoming = n.incoming.at; sampled = n.sample.at; done = slot_cells new.held (suc i) (1 - visible_slot t (suc i)) x }) (sym length_is)

  part_is : merge.part_of (aim_at t i l.visible above below) ≡ part_of (is_odd (period t (suc i))) (all_stood old.held t (suc (suc i)) below)
  part_is = part_of_aim old.held t (suc i) l.visible (feed.Run (visible_run t i above)) below

  keys_are : feed_keys old.held (aim_at t i l.visible above below).sample ≡ first_keys (next_runs t (suc i) (all_stood old.held t (suc (suc i)) below))
  keys_are = keys_of_next old.held t (suc i) below

  module _ (can : CanAdvance old.held (aim_at t i l.visible above below) t i above (marks_of l) below) where
    going : IsGoing old.held (aim_at t i l.visible above below) l.merger
    going = record {
      tells = can.tells;
      feeds = can.feeds;
      shadow = can.shadow;
      own_rises = can.workable.buildable.own_rising;
      incoming_rises = can.workable.buildable.incoming_rising;
      keys_rise = subst (IsStrictlySortedBy key_cmp) (sym keys_are) can.workable.buildable.keys_rising;
      under_way =
          subst (λ (x : Part). IsUnderWay key_cmp x (visible_cells old.held t (suc i) l.visible) (visible_cells old.held t i above) (feed_keys old.held (aim_at t i l.visible above below).sample) (heads.build_of old.held (aim_at t i l.visible above below) l.merger)) (sym part_is)
          (subst (λ (x : List (List ℕ)). IsUnderWay key_cmp (part_of (is_odd (period t (suc i))) (all_stood old.held t (suc (suc i)) below)) (visible_cells old.held t (suc i) l.visible) (visible_cells old.held t i above) x (heads.build_of old.held (aim_at t i l.visible above below) l.merger)) (sym keys_are)
          (subst (λ (x : Build (List ℕ) Stamped). IsUnderWay key_cmp (part_of (is_odd (period t (suc i))) (all_stood old.held t (suc (suc i)) below)) (visible_cells old.held t (suc i) l.visible) (visible_cells old.held t i above) (first_keys (next_runs t (suc i) (all_stood old.held t (suc (suc i)) below))) x) (sym old_build)
          (can.paced.inside can.works).under_way));
    }

    by_laws : (count : ℕ) → GoesBy old.held new.held (aim_at t i l.visible above below) l.merger n count →
        steps.IsAdvanced key_cmp (part_of (is_odd (period t (suc i))) (all_stood old.held t (suc (suc i)) below)) (visible_cells old.held t (suc i) l.visible) (visible_cells old.held t i above) (first_keys (next_runs t (suc i) (all_stood old.held t (suc (suc i)) below)))
        count (build_of (stood old.held t (suc i) (marks_of l))) (build_of (stood new.held t (suc i) (marks_of (worked_level l shadow n))))
    by_laws count g =
        subst (λ (x : Part). steps.IsAdvanced key_cmp x (visible_cells old.held t (suc i) l.visible) (visible_cells old.held t i above) (first_keys (next_runs t (suc i) (all_stood old.held t (suc (suc i)) below))) count (build_of (stood old.held t (suc i) (marks_of l))) (build_of (stood new.held t (suc i) (marks_of (worked_level l shadow n))))) part_is
        (subst (λ (x : List (List ℕ)). steps.IsAdvanced key_cmp (merge.part_of (aim_at t i l.visible above below)) (visible_cells old.held t (suc i) l.visible) (visible_cells old.held t i above) x count (build_of (stood old.held t (suc i) (marks_of l))) (build_of (stood new.held t (suc i) (marks_of (worked_level l shadow n))))) keys_are
        (subst (λ (x : Build (List ℕ) Stamped). steps.IsAdvanced key_cmp (merge.part_of (aim_at t i l.visible above below)) (visible_cells old.held t (suc i) l.visible) (visible_cells old.held t i above) (feed_keys old.held (aim_at t i l.visible above below).sample) count x (build_of (stood new.held t (suc i) (marks_of (worked_level l shadow n))))) old_build
        (subst (λ (x : Build (List ℕ) Stamped). steps.IsAdvanced key_cmp (merge.part_of (aim_at t i l.visible above below)) (visible_cells old.held t (suc i) l.visible) (visible_cells old.held t i above) (feed_keys old.held (aim_at t i l.visible above below).sample) count (heads.build_of old.held (aim_at t i l.visible above below) l.merger) x) new_build g)))

    advanced_by : (count : ℕ) → GoesBy old.held new.held (aim_at t i l.visible above below) l.merger n count →
        IsAdvanced key_cmp count t (suc i) (visible_cells old.held t i above) (stood old.held t (suc i) (marks_of l)) (all_stood old.held t (suc (suc i)) below) (stood new.held t (suc i) (marks_of (worked_level l shadow n)))
    advanced_by count g =
        works-advanced nat_list_cmp_total count t (suc i) (visible_cells old.held t i above) (stood old.held t (suc i) (marks_of l)) (stood new.held t (suc i) (marks_of (worked_level l shadow n))) (all_stood old.held t (suc (suc i)) below)
        can.works can.paced can.workable (moves.cut going).own_stays (by_laws count g)

    advanced : (answer : Result A StepFault) → GoesFurther old.held new.held (aim_at t i l.visible above below) l.merger n answer →
        IsAdvanced key_cmp (taken answer) t (suc i) (visible_cells old.held t i above) (stood old.held t (suc i) (marks_of l)) (all_stood old.held t (suc (suc i)) below) (stood new.held t (suc i) (marks_of (worked_level l shadow n)))
    advanced (Ok a) g = advanced_by merge_steps g
    advanced (Err fault) g =
        fewer-advanced key_cmp g.0 0 t (suc i) (visible_cells old.held t i above) (stood old.held t (suc i) (marks_of l)) (stood new.held t (suc i) (marks_of (worked_level l shadow n))) (all_stood old.held t (suc (suc i)) below)
        (omega arith) (advanced_by g.0 g.2)

    fits : length (whole_run old.held (aim_at t i l.visible above below)) ≤ slot_size (suc i)
    fits =
        subst (λ (x : Part). length (weave key_cmp x (visible_cells old.held t (suc i) l.visible) (visible_cells old.held t i above) (feed_keys old.held (aim_at t i l.visible above below).sample)) ≤ slot_size (suc i)) (sym part_is)
        (subst (λ (x : List (List ℕ)). length (weave key_cmp (part_of (is_odd (period t (suc i))) (all_stood old.held t (suc (suc i)) below)) (visible_cells old.held t (suc i) l.visible) (visible_cells old.held t i above) x) ≤ slot_size (suc i)) (sym keys_are)
        can.workable.buildable.fits)

    -- the level is so many steps further
    advances : Advances old.held new.held t i above (marks_of l) (marks_of (worked_level l shadow n)) below result
    advances = record { advanced = advanced result (moves.cut going).further; told = (moves.cut going).going.shadow; only = moves.only going fits }

  -- ---- transfers

  beside : StaysBeside i (transfers_of old.held old.spent) (transfers_of new.held new.spent)
  beside = record {
    own = λ k s b d. moves.lasts (By Own k) (record { own = other_level Own k (suc i) d; incoming = other_reader Own Incoming k i own≢incoming; sample = not_sampled t (suc i) below Own k own≢sample }) k s b (inl d);
    incoming = λ k s b d e. moves.lasts (By Incoming k) (record { own = other_reader Incoming Own k (suc i) (λ f. own≢incoming (sym f)); incoming = other_level Incoming k i e; sample = not_sampled t (suc i) below Incoming k incoming≢sample }) k s b (inl d);
    sample = λ k s b d e. moves.lasts (By Sample k) (record { own = other_reader Sample Own k (suc i) (λ f. own≢sample (sym f)); incoming = other_reader Sample Incoming k i (λ f. incoming≢sample (sym f)); sample = elsewhere_sampled t (suc i) below k e }) k s b (inl d);
    kept = λ k d. kept_same old.held new.held k moves.grows.around.fixed_is (moves.grows.around.shadows_stay k d);
  }

  ended_is : is_ended (aim_at t i l.visible above below) n ≡ has_ended t i above (marks_of (worked_level l shadow n)) below
  ended_is = ap (λ (x : ℕ). nat_le x (consumed n)) (sym all_sources)

  -- the work of the level, as the account of transfers has it
  worked : old.spent.turned ≤ new.spent.turned → old.spent.written ≤ new.spent.written → TurnsWithin (aim_at t i l.visible above below) (state old l.merger from) (state new n to) →
      WritesDown old new (aim_at t i l.visible above below) n →
      IsLevelWorked old.held.fixed.doublings t i above (marks_of l) (marks_of (worked_level l shadow n)) below (transfers_of old.held old.spent) (transfers_of new.held new.spent)
  worked turned_stays written_stays turned written = record {
    visible = refl;
    goes_on = moves.takes.rises;
    emits = emits_so (consumed l.merger) (consumed n) l.shadow shadow (old.held.shadows (suc i)).len (new.held.shadows (suc i)).len length_was length_is moves.emits;
    reads_stay = turned_stays;
    writes_stay = written_stays;
    reads = other_sample _ _ _ _ _ _ _ _ _ _ (left_of_sample old.held.fixed.doublings new.held new.spent t (suc i) below n.sample.at) (left_of_sample old.held.fixed.doublings old.held old.spent t (suc i) below l.merger.sample.at) turned;
    writes =
        subst (λ (x : ℕ). IsWrittenDown (slot_size (suc i)) (span old.held) x shadow (has_ended t i above (marks_of (worked_level l shadow n)) below) (is_kept old.held (suc i)) (is_kept new.held (suc i)) old.spent.written new.spent.written) (sym length_was)
        (subst (λ (x : ℕ). IsWrittenDown (slot_size (suc i)) (span old.held) (old.held.shadows (suc i)).len x (has_ended t i above (marks_of (worked_level l shadow n)) below) (is_kept old.held (suc i)) (is_kept new.held (suc i)) old.spent.written new.spent.written) (sym length_is)
        (subst (λ (x : Bool). IsWrittenDown (slot_size (suc i)) (span old.held) (old.held.shadows (suc i)).len (new.held.shadows (suc i)).len x (is_kept old.held (suc i)) (is_kept new.held (suc i)) old.spent.written new.spent.written) ended_is
        written));
    beside = beside;
  }

-- ---- for an aim that is one of a level

on_ok : {A : Type 0} (P Q R : Type 0) (result : Result A StepFault) → OnOk result P → OnOk result Q → (P → Q → R) → OnOk result R
on_ok P Q R (Ok a) p q f = f p q
on_ok P Q R (Err fault) p q f = tt

written_of : {A : Type 0} (P Q : Type 0) (result : Result A StepFault) → OnOk result (P → Q) → P → OnOk result Q
written_of P Q (Ok a) h p = h p
written_of P Q (Err fault) h p = tt

module _ {A : Type 0} (t i above : ℕ) (below : List Marks) (l : Level) (shadow : ℕ) (n : Merger) (old new : State) (from to : ℕ) (result : Result A StepFault) (aim : Aim) (aimed : aim ≡ aim_at t i l.visible above below) where
  marked_at : Moves aim (state old l.merger from) (state new n to) result → l.shadow ≡ (old.held.shadows (suc i)).len → shadow ≡ (new.held.shadows aim.level).len → shadow ≤ slot_size aim.level →
      works t (suc i) ≡ true → AreLevelMarks 0 t (suc i) above (marks_of l) below → AreLevelMarks (taken result) t (suc i) above (marks_of (worked_level l shadow n)) below
  marked_at moves was is within w m =
      marked t i above below l shadow n old new from to result (subst (λ (a : Aim). Moves a (state old l.merger from) (state new n to) result) aimed moves) was
      (subst (λ (a : Aim). shadow ≡ (new.held.shadows a.level).len) aimed is) w (subst (λ (a : Aim). shadow ≤ slot_size a.level) aimed within) m

  advances_at : Moves aim (state old l.merger from) (state new n to) result → shadow ≡ (new.held.shadows aim.level).len →
      CanAdvance old.held aim t i above (marks_of l) below → Advances old.held new.held t i above (marks_of l) (marks_of (worked_level l shadow n)) below result
  advances_at moves is can =
      advances t i above below l shadow n old new from to result (subst (λ (a : Aim). Moves a (state old l.merger from) (state new n to) result) aimed moves) can.shadow_is
      (subst (λ (a : Aim). shadow ≡ (new.held.shadows a.level).len) aimed is) (subst (λ (a : Aim). CanAdvance old.held a t i above (marks_of l) below) aimed can)

  worked_at : Built aim (state old l.merger from) (state new n to) result → l.shadow ≡ (old.held.shadows (suc i)).len → shadow ≡ (new.held.shadows aim.level).len → shadow ≤ slot_size aim.level →
      OnOk result (IsLevelWorked old.held.fixed.doublings t i above (marks_of l) (marks_of (worked_level l shadow n)) below (transfers_of old.held old.spent) (transfers_of new.held new.spent))
  worked_at built was is within =
      on_ok _ _ _ result built.moves.turned (written_of _ _ result built.written (subst (λ (x : ℕ). x ≤ slot_size aim.level) is within))
      (λ turned written.
      worked t i above below l shadow n old new from to result (subst (λ (a : Aim). Moves a (state old l.merger from) (state new n to) result) aimed built.moves) was
      (subst (λ (a : Aim). shadow ≡ (new.held.shadows a.level).len) aimed is)
      built.spends.turned_stays built.spends.written_stays
      (subst (λ (a : Aim). TurnsWithin a (state old l.merger from) (state new n to)) aimed turned)
      (subst (λ (a : Aim). WritesDown old new a n) aimed written))

-- ---- what a call says

pub works_of : {A : Type 0} (aim : Aim) (l : Level) (shadow : ℕ) (n : Merger) (old new : State) (from to : ℕ) (result : Result A StepFault) → Built aim (state old l.merger from) (state new n to) result →
    shadow ≡ (new.held.shadows aim.level).len → shadow ≤ slot_size aim.level → Works aim old new l (worked_level l shadow n) from to result
works_of aim l shadow n old new from to result built is within =
    let moves = built.moves in
    record {
      ready = moves.ready;
      frames = moves.grows;
      lasts = moves.lasts;
      visible = refl;
      length = is;
      takes = moves.takes;
      rises = moves.rises;
      emits = moves.emits;
      samples = moves.samples;
      builds = moves.builds;
      told = moves.told;
      cut = moves.cut;
      whole = moves.whole;
      saved = built.saved;
      cause = moves.cause;
      calm = moves.calm;
      only = moves.only;
      spends = built.spends;
      turned = moves.turned;
      written = written_of _ _ result built.written (subst (λ (x : ℕ). x ≤ slot_size aim.level) is within);
      marked = λ t i above below aimed was w marks. marked_at t i above below l shadow n old new from to result aim aimed moves was is within w marks;
      advances = λ t i above below aimed can. advances_at t i above below l shadow n old new from to result aim aimed moves is can;
      worked = λ t i above below aimed was. worked_at t i above below l shadow n old new from to result aim aimed built was is within;
    }
