-- The test of the shadow of a level, by its phase.
use Rattle.std.proofs.Common.{◌≡◌, inl, inr, ℕ, suc, ◌+◌, ◌*◌, ◌/◌, ◌^◌, ◌<◌, ◌≤◌, Bool, true, false, cond, List, [], ◌∷◌, refl, ap, subst, ◌∙◌, arith, ◌≢◌, ◌↔◌, zero, ◌-◌, IsTrue, drop, Result, Ok, Err, IfOk, IfErr, sym, ◌==◌}
use Rattle.std.proofs.Common.{not, Option, None, Some, if◌then◌else◌, length, eq-eqb, ne_eqb, IfSome, option_to_list}
use Rattle.cola_check.proofs.Common.{AllByRecursion, IsStrictlySortedBy, cases_lt, transport, IfOk-weaker, IsWellFormed, IsRising, sample, next_runs, first_keys, upper_part, Run, ReadFault, Device, BadCell, Held, LawCell, Stamped}
use Rattle.cola_check.proofs.Common.{key_cmp, slot_size, told_is_good, run_cells, cell_at, period, is_odd, visible_slot, works, is_over, window_step, is_over-suc, works-not_over, over-not_works, marks-each, Header, all_numbers}
use Rattle.cola_check.proofs.Common.{next_power, power-le, end-nothing, HasRun, Aim, cells_read, part_of, IsSource, IsFeedTold, IsFeed, feed_len, feed_keys, Feed, FileLevel, level_at, below_at, AreCellsTold, HasSample}
use Rattle.cola_check.proofs.Common.{HasFewItems, Tested, ShadowAt, OrderAt, EachLevel, shadow_cell, no-order, Order, Sample, Length, Shadow, Verdict, Broken, IsVerdict, tested_by, visible_of, shadow_of, numbers_at, IsRunTold}
use Rattle.cola_check.proofs.Common.{HasBadIn, HasBadRun, PassCause, next_of, IsReached, upper_aim, lowest_aim, IsAimAt, cursors_of, CutAt, IsNext, FitAt, FinishedAt, HasLevels, TestCause, FindsFlaw, shadow_ticks, Cursors}
use Rattle.cola_check.proofs.Common.{run_blocks, shadow_blocks, blocks_below, CutFits, CutsAfter, runs_of_aim, aim_blocks, AtLevel, IsAway, by_bool, Few, RunTests, AreInOrder, IsCarried, AreCarried, AreFewAt, AreBothTold, OrderIs}
use Rattle.cola_check.proofs.Common.{IsFew, lists_below, sample_len}
use Rattle.cola_runs.specs.Weave.{Part, IsCut}
use Rattle.cola_laws.specs.Chain.{part_of as chain_part}
use Rattle.cola_laws.specs.Sound.{IsVisible, IsUpperRun, IsBottomRun}
use Rattle.cola_laws.proofs.Sources.{sample-sorted}
use Rattle.cola_clock.specs.Marks.{sample_end, no_marks}
use Rattle.cola_clock.specs.Schedule.{phase_at}
use Rattle.cola_clock.specs.declared.state.Phase.{Phase}
use Rattle.cola_clock.specs.declared.state.Phase.TheVariants.{Before, Inside, After}
use Rattle.cola_merge.specs.Pulls.{AreInOrder as AreSourcesInOrder}
use Rattle.cola_merge.proofs.ToldRuns.{sampled_feed}
use Rattle.cola_verdict.specs.Tests.{IsInOrder}
use Rattle.cola_verdict.specs.declared.verdict.Flaw.TheVariants.{Cell}
use Rattle.cola_check.specs.declared.visible.Few.TheVariants.{Cells}
use Rattle.cola_check.proofs.BadRuns.{level-in}
use Rattle.cola_check.proofs.Levels.{levels, slot-in, other-in, visible-is, shadow-is, visible-told, shadow-told, below-next, below-none, level-is, drop-at, of-next, none-sorted, by-place}
use Rattle.cola_check.proofs.FileBlocks.{any-cut, next-blocks, finished-blocks}
use Rattle.cola_check.proofs.LeastKeys.{key_total}
use Rattle.cola_check.proofs.Carrying.{is_none, carried_by_part, part_carried}
use Rattle.cola_merge.specs.declared.aims.Feed.TheVariants as feed

-- ---- bad cells

-- no cell of a run that is told is bad
pub bad-run : (held : Held) (run : Run) (number : ℕ) → IsRunTold held run → HasBadIn held run number → ⊥
bad-run held run number told bad = told_is_good (held.spots run.level run.slot bad.index) (cell_at (held.spots run.level run.slot bad.index)) (told bad.index bad.within) bad.bad.told

bad-runs : (held : Held) (number : ℕ) (runs : List Run) → AllByRecursion (IsRunTold held) runs → HasBadRun held number runs → ⊥
bad-runs held number [] told bad = bad
bad-runs held number (run ∷ runs) told bad = elim bad [ inl here ↦ bad-run held run number told.0 here | inr there ↦ bad-runs held number runs told.1 there ]

-- a pass over runs that are told where the cells of the file are is refused as a test is
pub cause-of-test : {T : Type 0} (header : Header) (held : Held) (runs : List Run) → (AreCellsTold (tested_by header held) → AllByRecursion (IsRunTold held) runs) →
    (before now : ℕ) (answer : Result T ReadFault) → IfErr answer (PassCause held runs before now) → IfErr answer (TestCause header held before now)
cause-of-test header held runs told before now (Ok t) h = tt
cause-of-test header held runs told before now (Err Device) rose = rose
cause-of-test header held runs told before now (Err (BadCell number)) bad = λ all. bad-runs held number runs (told all) bad

-- ---- the runs and their slots

module _ (header : Header) where
  pub visible-fits : (level : ℕ) → level ≤ header.geometry.bottom → (visible_of header level).len ≤ slot_size level
  visible-fits level low = (marks-each header.clock (all_numbers header.levels.items) header.marks_fit level (level-in header level low)).visible_fits

  pub shadow-fits : (level : ℕ) → level ≤ header.geometry.bottom → (shadow_of header level).len ≤ slot_size level
  shadow-fits level low = (marks-each header.clock (all_numbers header.levels.items) header.marks_fit level (level-in header level low)).shadow_fits

  -- a slot has four cells for each mutation of a period of its level, and twice as many as one of the level above
  pub slot-is : (level : ℕ) → slot_size level ≡ 4 * 2 ^ level
  slot-is level =
      let half : 2 ^ (level + 2) ≡ 2 ^ (level + 1) + 2 ^ (level + 1) = next_power (level + 1) (level + 2) (omega arith) in
      let quarter : 2 ^ (level + 1) ≡ 2 ^ level + 2 ^ level = next_power level (level + 1) refl in
      omega (arith, half, quarter)

  pub twice : (level : ℕ) → 2 ^ suc level ≡ 2 ^ level + 2 ^ level
  twice level = next_power level (suc level) (omega arith)

  -- the sample of the next run
  pub next-few : (level : ℕ) → level < header.geometry.bottom → (next_of header level).len / 8 ≤ 2 ^ level
  next-few level low =
      let s = shadow-fits (suc level) (omega (arith, low)) in
      let v = visible-fits (suc level) (omega (arith, low)) in
      let is = slot-is (suc level) in
      let two = twice level in
      of-next header (λ r. r.len / 8 ≤ 2 ^ level) level (omega (arith, s, is, two)) (omega (arith, v, is, two))

  module _ (held : Held) where
    pub visible-has : (level : ℕ) → HasLevels header held → level ≤ header.geometry.bottom → HasRun held (visible_of header level)
    visible-has level has low = record { level_in = omega (arith, has, low); slot_in = slot-in header.clock level; within = visible-fits level low }

    pub shadow-has : (level : ℕ) → HasLevels header held → level ≤ header.geometry.bottom → HasRun held (shadow_of header level)
    shadow-has level has low = record { level_in = omega (arith, has, low); slot_in = other-in (visible_slot header.clock level); within = shadow-fits level low }

    pub next-has : (level : ℕ) → HasLevels header held → level < header.geometry.bottom → HasRun held (next_of header level)
    next-has level has low = of-next header (HasRun held) level (shadow-has (suc level) has (omega (arith, low))) (visible-has (suc level) has (omega (arith, low)))

    pub next-told : (level : ℕ) → level < header.geometry.bottom → AreCellsTold (tested_by header held) → IsRunTold held (next_of header level)
    next-told level low told = of-next header (IsRunTold held) level (shadow-told header held (suc level) (omega (arith, low)) told) (visible-told header held (suc level) (omega (arith, low)) told)

    -- ---- the keys of the next run

    first-of : (odd : Bool) (shadow visible : List LawCell) (xs ys : List (List LawCell)) → first_keys (cond odd (shadow ∷ xs) (visible ∷ ys)) ≡ sample (cond odd shadow visible)
    first-of true shadow visible xs ys = refl
    first-of false shadow visible xs ys = refl

    pub next-keys : (level : ℕ) → level < header.geometry.bottom → first_keys (next_runs header.clock level (below_at (levels header held) level)) ≡ sample (run_cells held (next_of header level))
    next-keys level low =
        ap (λ (below : List FileLevel). first_keys (next_runs header.clock level below)) (below-next header held level low)
        ∙ first-of (is_odd (period header.clock level)) (level_at (levels header held) (suc level)).shadow (level_at (levels header held) (suc level)).visible _ _
        ∙ ap sample (by_bool (λ odd. cond odd (level_at (levels header held) (suc level)).shadow (level_at (levels header held) (suc level)).visible ≡ run_cells held (cond odd (shadow_of header (suc level)) (visible_of header (suc level))))
        (shadow-is header held (suc level) (omega (arith, low))) (visible-is header held (suc level) (omega (arith, low))) (is_odd (period header.clock level)))

    pub no-keys : (level : ℕ) → header.geometry.bottom ≤ level → first_keys (next_runs header.clock level (below_at (levels header held) level)) ≡ []
    no-keys level low =
        ap (λ (below : List FileLevel). first_keys (next_runs header.clock level below)) (below-none header held level low)
        ∙ by_bool (λ odd. first_keys {K = List ℕ} {V = Stamped} (cond odd [] []) ≡ []) refl refl (is_odd (period header.clock level))

    -- ---- where the tests of the levels below passed

    pub formed-of : {X : Type 0} (most : ℕ) (odd : Bool) (j : ℕ) (run : List LawCell) (below : List X) (keys : List (List ℕ)) → IsVisible key_cmp most odd j run below keys → IsWellFormed key_cmp run
    formed-of most odd j run [] keys h = h.formed
    formed-of most odd j run (x ∷ below) keys h = h.formed

    next-formed : (level : ℕ) → level < header.geometry.bottom → IsReached (tested_by header held) level → (odd : Bool) → is_odd (period header.clock level) ≡ odd →
        IsWellFormed key_cmp (run_cells held (cond odd (shadow_of header (suc level)) (visible_of header (suc level))))
    next-formed level low reached true is =
        subst (IsWellFormed key_cmp) (shadow-is header held (suc level) (omega (arith, low)))
        (formed-of _ _ (suc level) _ (below_at (levels header held) (suc level)) _ ((reached.behind (suc level) (omega arith) (level-in header (suc level) (omega (arith, low)))).over (is_over-suc header.clock level ∙ is)).fit)
    next-formed level low reached false is =
        subst (IsWellFormed key_cmp) (visible-is header held (suc level) (omega (arith, low))) (reached.ordered (suc level) (level-in header (suc level) (omega (arith, low))))

    pub next-rises : (level : ℕ) → level < header.geometry.bottom → IsReached (tested_by header held) level → IsRising key_cmp (run_cells held (next_of header level))
    next-rises level low reached = (next-formed level low reached (is_odd (period header.clock level)) refl).rising

    pub visible-rises : (level : ℕ) → level ≤ header.geometry.bottom → IsReached (tested_by header held) level → (i : ℕ) → i ≤ header.geometry.bottom → IsRising key_cmp (run_cells held (visible_of header i))
    visible-rises level low reached i h = subst (IsRising key_cmp) (visible-is header held i h) (reached.ordered i (level-in header i h)).rising

-- ---- a cut, by equal sources

abbrev CutOf : Part → List LawCell → List LawCell → List (List ℕ) → ℕ → ℕ → ℕ → List LawCell → Type 0
CutOf part own incoming keys a b c done = IsCut key_cmp part own incoming keys (drop a own) (drop b incoming) (drop c keys) done

same-cut : {p q : Part} {own own' incoming incoming' done done' : List LawCell} {keys keys' : List (List ℕ)} {a a' b b' c c' : ℕ} → p ≡ q → own ≡ own' → incoming ≡ incoming' → keys ≡ keys' → a ≡ a' → b ≡ b' → c ≡ c' → done ≡ done' →
    CutOf p own incoming keys a b c done → CutOf q own' incoming' keys' a' b' c' done'
same-cut ep eo ei ek ea eb ec ed h = transport (λ i. CutOf (ep i) (eo i) (ei i) (ek i) (ea i) (eb i) (ec i) (ed i)) h

module _ (header : Header) (i : ℕ) (low : suc i ≤ header.geometry.bottom) where
  abbrev odd : Bool
  odd = is_odd (period header.clock (suc i))

  number-above : i ≡ suc i - 1
  number-above = omega arith

  -- the aim is that above the bottom, or that at the bottom
  by-aim : (P : Aim → Type 0) (aim : Aim) → IsAimAt header (suc i) aim → (suc i < header.geometry.bottom → P (upper_aim odd (visible_of header (suc i)) (visible_of header i) (next_of header (suc i)))) →
      (header.geometry.bottom ≤ suc i → P (lowest_aim (visible_of header (suc i)) (visible_of header i))) → P aim
  by-aim P aim is upper lowest =
      by-place header (suc i) P is.above is.bottom (λ above. subst (λ (n : ℕ). P (upper_aim odd (visible_of header (suc i)) (visible_of header n) (next_of header (suc i)))) number-above (upper above))
      (λ bottom. subst (λ (n : ℕ). P (lowest_aim (visible_of header (suc i)) (visible_of header n))) number-above (lowest bottom))

  -- two passes over the sources and one over the shadow
  cut-ticks : (aim : Aim) → IsAimAt header (suc i) aim → 2 * cells_read aim + (shadow_of header (suc i)).len ≤ 18 * 2 ^ suc i
  cut-ticks aim is =
      let own = visible-fits header (suc i) low in
      let above = visible-fits header i (omega (arith, low)) in
      let done = shadow-fits header (suc i) low in
      let four = slot-is header (suc i) in
      let more = slot-is header i in
      let two = twice header i in
      by-aim (λ a. 2 * cells_read a + (shadow_of header (suc i)).len ≤ 18 * 2 ^ suc i) aim is
      (λ upper. let few = next-few header (suc i) upper in omega (arith, own, above, done, four, more, two, few))
      (λ lowest. omega (arith, own, above, done, four, more, two))

  -- ---- the cursors are within their sources

  sample-ends : suc i < header.geometry.bottom → sample_end odd (drop (suc (suc i)) (all_numbers header.levels.items)) ≡ (next_of header (suc i)).len / 8
  sample-ends above =
      ap (sample_end odd) (drop-at no_marks (all_numbers header.levels.items) (suc (suc i)) (level-in header (suc (suc i)) (omega (arith, above))))
      ∙ by_bool (λ o. cond o (numbers_at header (suc (suc i))).shadow (numbers_at header (suc (suc i))).visible / 8 ≡ (cond o (shadow_of header (suc (suc i))) (visible_of header (suc (suc i)))).len / 8) refl refl odd

  source : (held : Held) (run : Run) → HasRun held run → IsSource held.fixed run
  source held run has = record { level_in = has.level_in; slot_in = has.slot_in; within = has.within }

  module _ (held : Held) (has : HasLevels header held) (inside : works header.clock (suc i) ≡ true) where
    one-apart : suc i ≢ i
    one-apart e = omega (arith, e)

    next-level : (next_of header (suc i)).level ≡ suc (suc i)
    next-level = of-next header (λ r. r.level ≡ suc (suc i)) (suc i) refl refl

    next-apart : (level : ℕ) → level < suc (suc i) → level ≢ (next_of header (suc i)).level
    next-apart level h e = let n = next-level in omega (arith, h, e, n)

    -- whatever the sample is, if its level is no other's
    aim-fits : (a : Aim) (s : Feed) → IsFeed held.fixed s → sample_end odd (drop (suc (suc i)) (all_numbers header.levels.items)) ≡ feed_len s → IsAway i s → AtLevel s (λ level. level ≢ suc i) →
        CutFits held (record a { own = feed.Run (visible_of header (suc i)); incoming = feed.Run (visible_of header i); sample = s }) (cursors_of (numbers_at header (suc i))) (shadow_of header (suc i))
    aim-fits a s fits ends above own =
        let m = (marks-each header.clock (all_numbers header.levels.items) header.marks_fit (suc i) (level-in header (suc i) low)).inside (omega arith) inside in
        record {
          own = source held _ (visible-has header held (suc i) has low);
          incoming = source held _ (visible-has header held i has (omega (arith, low)));
          sample = fits;
          run = shadow-has header held (suc i) has low;
          own_within = m.own_within;
          incoming_within = m.incoming_within;
          sample_within = subst (λ (n : ℕ). (numbers_at header (suc i)).sampled ≤ n) ends m.sampled_within;
          spread = record { own_incoming = one-apart; incoming_sample = above; sample_own = own };
          shadow_away = one-apart;
        }

    cut-fits : (aim : Aim) → IsAimAt header (suc i) aim → CutFits held aim (cursors_of (numbers_at header (suc i))) (shadow_of header (suc i))
    cut-fits aim is =
        by-aim (λ a. CutFits held a (cursors_of (numbers_at header (suc i))) (shadow_of header (suc i))) aim is
        (λ above. aim-fits (upper_aim odd (visible_of header (suc i)) (visible_of header i) (next_of header (suc i))) _ (source held _ (next-has header held (suc i) has above)) (sample-ends above) (next-apart i (omega arith)) (λ e. next-apart (suc i) (omega arith) (sym e)))
        (λ bottom. aim-fits (lowest_aim (visible_of header (suc i)) (visible_of header i)) feed.Nothing tt (end-nothing header.clock (suc i) header.levels.items (let one = header.one_each in omega (arith, one, bottom))) tt tt)

  -- how many blocks the test turns to
  cut-blocks : (held : Held) (aim : Aim) → IsAimAt header (suc i) aim → 2 * aim_blocks held aim + run_blocks held (shadow_of header (suc i)) ≤ shadow_blocks header held (suc i)
  cut-blocks held aim is =
      by-aim (λ a. 2 * aim_blocks held a + run_blocks held (shadow_of header (suc i)) ≤ shadow_blocks header held (suc i)) aim is
      (λ above. any-cut header held i _ (next-blocks header held (suc i) above)) (λ bottom. any-cut header held i 0 (omega arith))

  -- ---- the sources are told and in order

  module _ (held : Held) where
    -- whatever the sample is, if its keys rise
    order-with : (a : Aim) (s : Feed) → IsReached (tested_by header held) (suc i) → IsFeedTold held s → IsStrictlySortedBy key_cmp (feed_keys held s) →
        AreSourcesInOrder held (record a { own = feed.Run (visible_of header (suc i)); incoming = feed.Run (visible_of header i); sample = s })
    order-with a s reached told rise = record {
      feeds = record { own = visible-told header held (suc i) low reached.told; incoming = visible-told header held i (omega (arith, low)) reached.told; sample = told };
      own_rises = visible-rises header held (suc i) low reached (suc i) low;
      incoming_rises = visible-rises header held (suc i) low reached i (omega (arith, low));
      keys_rise = rise;
    }

    in-order : (aim : Aim) → IsAimAt header (suc i) aim → IsReached (tested_by header held) (suc i) → AreSourcesInOrder held aim
    in-order aim is reached =
        by-aim (AreSourcesInOrder held) aim is
        (λ above. order-with (upper_aim odd (visible_of header (suc i)) (visible_of header i) (next_of header (suc i))) _ reached (λ k h. next-told header held (suc i) above reached.told (8 * k + 7) (omega (arith, h)))
        (subst (IsStrictlySortedBy key_cmp) (sym (sampled_feed held (next_of header (suc i)))) (sample-sorted key_total (run_cells held (next_of header (suc i))) (next-rises header held (suc i) above reached))))
        (λ bottom. order-with (lowest_aim (visible_of header (suc i)) (visible_of header i)) feed.Nothing reached (λ k h. absurd (omega (arith, h))) (none-sorted _))

    runs-told : (aim : Aim) → IsAimAt header (suc i) aim → AreCellsTold (tested_by header held) → AllByRecursion (IsRunTold held) (shadow_of header (suc i) ∷ runs_of_aim aim)
    runs-told aim is t =
        let own = visible-told header held (suc i) low t in
        let incoming = visible-told header held i (omega (arith, low)) t in
        (shadow-told header held (suc i) low t, by-aim (λ a. AllByRecursion (IsRunTold held) (runs_of_aim a)) aim is (λ above. (own, (incoming, (next-told header held (suc i) above t, tt)))) (λ bottom. (own, (incoming, tt))))

    -- ---- the cut of the aim is that of the level

    abbrev cursors_here : Cursors
    cursors_here = cursors_of (numbers_at header (suc i))

    both-ways : (p : Part) (keys : List (List ℕ)) → p ≡ chain_part odd (below_at (levels header held) (suc i)) →
        keys ≡ first_keys (next_runs header.clock (suc i) (below_at (levels header held) (suc i))) →
        CutOf p (run_cells held (visible_of header (suc i))) (run_cells held (visible_of header i)) keys cursors_here.own cursors_here.incoming cursors_here.sample (run_cells held (shadow_of header (suc i)))
        ↔ CutAt (tested_by header held) (suc i)
    both-ways p keys ep ek =
        let v = visible-is header held (suc i) low in
        let a = visible-is header held i (omega (arith, low)) in
        let s = shadow-is header held (suc i) low in
        let is = level-is header held (suc i) low in
        let own = ap (λ (l : FileLevel). l.own) is in
        let incoming = ap (λ (l : FileLevel). l.incoming) is in
        let sampled = ap (λ (l : FileLevel). l.sampled) is in
        (λ h. same-cut ep (sym v) (sym a) ek (sym own) (sym incoming) (sym sampled) (sym s) h, λ h. same-cut (sym ep) v a (sym ek) own incoming sampled s h)

    cuts-at : (aim : Aim) → IsAimAt header (suc i) aim → CutsAfter held aim cursors_here (run_cells held (shadow_of header (suc i))) ↔ CutAt (tested_by header held) (suc i)
    cuts-at aim is =
        by-aim (λ a. CutsAfter held a cursors_here (run_cells held (shadow_of header (suc i))) ↔ CutAt (tested_by header held) (suc i)) aim is
        (λ above. both-ways _ _ (by_bool (λ o. part_of (upper_aim o (visible_of header (suc i)) (visible_of header i) (next_of header (suc i))) ≡ upper_part o) refl refl odd ∙ sym (ap (λ (below : List FileLevel). chain_part odd below) (below-next header held (suc i) above)))
        (sampled_feed held (next_of header (suc i)) ∙ sym (next-keys header held (suc i) above)))
        (λ bottom. both-ways _ _ (sym (ap (λ (below : List FileLevel). chain_part odd below) (below-none header held (suc i) bottom))) (sym (no-keys header held (suc i) bottom)))

    cut-answer : (aim : Aim) → IsAimAt header (suc i) aim → (answer : Result Bool ReadFault) →
        (AreSourcesInOrder held aim → IsRunTold held (shadow_of header (suc i)) → IfOk answer (λ cut. IsTrue cut ↔ CutsAfter held aim cursors_here (run_cells held (shadow_of header (suc i))))) →
        IfOk answer (λ cut. IsReached (tested_by header held) (suc i) → (IsTrue cut ↔ CutAt (tested_by header held) (suc i)))
    cut-answer aim is (Err fault) h = tt
    cut-answer aim is (Ok cut) h = λ reached.
        let c : IsTrue cut ↔ CutsAfter held aim cursors_here (run_cells held (shadow_of header (suc i))) = h (in-order aim is reached) (shadow-told header held (suc i) low reached.told) in
        let e = cuts-at aim is in
        (λ t. e.0 (c.0 t), λ t. c.1 (e.1 t))

-- ---- the same of a level of 1 and more

-- what the test of a cut costs and asks, why it is refused, and what it answers
pub record CutAsks (header : Header) (held : Held) (level : ℕ) (aim : Aim) (cursors : Cursors) (shadow : Run) : Type 0 where
  pub ticks : 2 * cells_read aim + shadow.len ≤ 18 * 2 ^ level
  pub blocks : 2 * aim_blocks held aim + run_blocks held shadow ≤ shadow_blocks header held level
  pub fits : HasLevels header held → works header.clock level ≡ true → CutFits held aim cursors shadow
  pub cause : (before now : ℕ) (answer : Result Bool ReadFault) → IfErr answer (PassCause held (shadow ∷ runs_of_aim aim) before now) → IfErr answer (TestCause header held before now)
  pub answer : (answer : Result Bool ReadFault) → (AreSourcesInOrder held aim → IsRunTold held shadow → IfOk answer (λ cut. IsTrue cut ↔ CutsAfter held aim cursors (run_cells held shadow))) →
      IfOk answer (λ cut. IsReached (tested_by header held) level → (IsTrue cut ↔ CutAt (tested_by header held) level))

pub cut-asks : (header : Header) (held : Held) (level : ℕ) → 1 ≤ level → level ≤ header.geometry.bottom →
    {aim : Aim} {cursors : Cursors} {shadow : Run} → IsAimAt header level aim → cursors ≡ cursors_of (numbers_at header level) → shadow ≡ shadow_of header level → CutAsks header held level aim cursors shadow
cut-asks header held zero one low is at same = absurd (omega (arith, one))
cut-asks header held (suc i) one low {aim} is at same = transport (λ j. CutAsks header held (suc i) aim (sym at j) (sym same j)) (record {
  ticks = cut-ticks header i low aim is;
  blocks = cut-blocks header i low held aim is;
  fits = λ has inside. cut-fits header i low held has inside aim is;
  cause = cause-of-test header held (shadow_of header (suc i) ∷ runs_of_aim aim) (runs-told header i low held aim is);
  answer = cut-answer header i low held aim is;
})

-- ---- the tests of one run

-- no flaw was found
abbrev IsGood : RunTests → Type 0
IsGood tests = (tests.disorder ≡ None) × IsTrue tests.is_sampled × IsTrue tests.has_few

order-of : (run : List LawCell) (disorder : Option ℕ) → OrderIs run disorder → (disorder ≡ None) ↔ IsInOrder run
order-of run None h = (λ e. h, λ o. refl)
order-of run (Some index) h = (λ e. cc, λ o. absurd (no-order run index h o))

-- above the bottom
upper-good : (odd : Bool) (j : ℕ) (run next : List LawCell) (tests : RunTests) → OrderIs run tests.disorder → (IsTrue tests.is_sampled ↔ HasSample run (next ∷ [])) →
    (IsTrue tests.has_few ↔ HasFewItems (cond odd 3 2 * 2 ^ j) (2 ^ j) run) → IsGood tests ↔ IsUpperRun key_cmp odd j run (sample next)
upper-good _ j run next tests order sampled few =
    let o = order-of run tests.disorder order in (
      λ g. record { formed = o.0 g.0; samples = sampled.0 g.1; few_items = (few.0 g.2).few_items; few_young = (few.0 g.2).few_young },
      λ u. (o.1 u.formed, sampled.1 u.samples, few.1 (record { few_items = u.few_items; few_young = u.few_young })),
    )

-- at the bottom
lowest-good : (most : ℕ) (run : List LawCell) (tests : RunTests) → OrderIs run tests.disorder → (IsTrue tests.is_sampled ↔ HasSample run []) →
    (IsTrue tests.has_few ↔ IsFew (Cells most) run) → IsGood tests ↔ IsBottomRun key_cmp most run
lowest-good most run tests order sampled few =
    let o = order-of run tests.disorder order in (
      λ g. record { formed = o.0 g.0; values = sampled.0 g.1; few = few.0 g.2 },
      λ u. (o.1 u.formed, sampled.1 u.values, few.1 u.few),
    )

-- ---- a level

module _ (header : Header) (level : ℕ) (low : level ≤ header.geometry.bottom) where
  abbrev is_odd_at : Bool
  is_odd_at = is_odd (period header.clock level)

  -- one pass over the shadow, and one over the sample of its next run
  pub fit-ticks : (shadow : Run) (next : Option Run) → shadow ≡ shadow_of header level → IsNext header level next → shadow.len + sample_len next ≤ 5 * 2 ^ level
  fit-ticks shadow next same is =
      let fits : shadow.len ≤ slot_size level = subst (λ (r : Run). r.len ≤ slot_size level) (sym same) (shadow-fits header level low) in
      let four = slot-is header level in
      by-place header level (λ n. shadow.len + sample_len n ≤ 5 * 2 ^ level) is.above is.bottom (λ above. let few = next-few header level above in omega (arith, fits, four, few)) (λ bottom. omega (arith, fits, four))

  module _ (held : Held) where
    pub next-runs : HasLevels header held → (next : Option Run) → IsNext header level next → IfSome next (HasRun held)
    next-runs has next is = by-place header level (λ n. IfSome n (HasRun held)) is.above is.bottom (λ above. next-has header held level has above) (λ bottom. tt)

    abbrev AreAllTold : Type 0
    AreAllTold = AreCellsTold (tested_by header held)

    fit-told : (next : Option Run) → IsNext header level next → AreAllTold → AllByRecursion (IsRunTold held) (option_to_list next)
    fit-told next is t = by-place header level (λ n. AllByRecursion (IsRunTold held) (option_to_list n)) is.above is.bottom (λ above. (next-told header held level above t, tt)) (λ bottom. tt)

    both-told : (next : Option Run) → IsNext header level next → AreAllTold → AreBothTold held (shadow_of header level) next
    both-told next is t = record {
      run_told = shadow-told header held level low t;
      below_told = by-place header level (λ n. IfSome n (IsRunTold held)) is.above is.bottom (λ above. next-told header held level above t) (λ bottom. tt);
    }

    pub fit-cause : (shadow : Run) (next : Option Run) → shadow ≡ shadow_of header level → IsNext header level next → (before now : ℕ) (fault : ReadFault) (answer : Result Bool ReadFault) → answer ≡ Err fault →
        PassCause held (shadow ∷ option_to_list next) before now fault → IfErr answer (TestCause header held before now)
    fit-cause shadow next same is before now fault answer refused h =
        cause-of-test header held (shadow ∷ option_to_list next) (λ t. (subst (IsRunTold held) (sym same) (shadow-told header held level low t), fit-told next is t)) before now answer
        (subst (λ (a : Result Bool ReadFault). IfErr a (PassCause held (shadow ∷ option_to_list next) before now)) (sym refused) h)

    -- what the tests of the shadow found is whether it is fit
    abbrev FitOf : List LawCell → List FileLevel → List (List ℕ) → Type 0
    FitOf run below keys = IsVisible key_cmp header.geometry.keys (not is_odd_at) level run below keys

    shown : (tests : RunTests) (next : Option Run) (few : Few) (cells : List LawCell) → cells ≡ (level_at (levels header held) level).shadow → IsNext header level next → AreFewAt header level (not is_odd_at) few →
        OrderIs cells tests.disorder →
        ((rest : List (List LawCell)) → IsTrue tests.is_sampled ↔ HasSample cells (lists_below held next rest)) →
        (IsTrue tests.has_few ↔ IsFew few cells) → IsGood tests ↔ FitAt (tested_by header held) level
    shown tests next few cells same is fews order sampled short =
        subst (λ (run : List LawCell). IsGood tests ↔ FitOf run (below_at (levels header held) level) (first_keys (next_runs header.clock level (below_at (levels header held) level)))) same
        (elim (cases_lt level header.geometry.bottom) [
          | inl above ↦
              subst (λ (keys : List (List ℕ)). IsGood tests ↔ FitOf cells (below_at (levels header held) level) keys) (sym (next-keys header held level above))
              (subst (λ (below : List FileLevel). IsGood tests ↔ FitOf cells below (sample (run_cells held (next_of header level)))) (sym (below-next header held level above))
              (upper-good (not is_odd_at) level cells (run_cells held (next_of header level)) tests order
              (subst (λ (n : Option Run). IsTrue tests.is_sampled ↔ HasSample cells (lists_below held n [])) (is.above above) (sampled []))
              (subst (λ (f : Few). IsTrue tests.has_few ↔ IsFew f cells) (fews.above above) short)))
          | inr bottom ↦
              subst (λ (below : List FileLevel). IsGood tests ↔ FitOf cells below (first_keys (next_runs header.clock level (below_at (levels header held) level)))) (sym (below-none header held level bottom))
              (lowest-good header.geometry.keys cells tests order
              (subst (λ (n : Option Run). IsTrue tests.is_sampled ↔ HasSample cells (lists_below held n [])) (is.bottom bottom) (sampled []))
              (subst (λ (f : Few). IsTrue tests.has_few ↔ IsFew f cells) (fews.bottom bottom) short))
        ])

    pub fit-answer : (shadow : Run) (next : Option Run) (few : Few) → shadow ≡ shadow_of header level → IsNext header level next →
        AreFewAt header level (not is_odd_at) few → (tests : RunTests) (good : Bool) → (IsTrue good ↔ IsGood tests) →
        (AreBothTold held shadow next → OrderIs (run_cells held shadow) tests.disorder) →
        (AreBothTold held shadow next → (rest : List (List LawCell)) → (IsTrue tests.is_sampled ↔ HasSample (run_cells held shadow) (lists_below held next rest))) →
        (AreBothTold held shadow next → (IsTrue tests.has_few ↔ IsFew few (run_cells held shadow))) →
        AreAllTold → (IsTrue good ↔ FitAt (tested_by header held) level)
    fit-answer shadow next few same is fews tests good found order sampled short t =
        let both = subst (λ (r : Run). AreBothTold held r next) (sym same) (both-told next is t) in
        let s = shown tests next few (run_cells held shadow) (ap (run_cells held) same ∙ sym (shadow-is header held level low)) is fews (order both) (sampled both) (short both) in
        (λ g. s.0 (found.0 g), λ f. found.1 (s.1 f))

-- ---- a level of 1 and more

-- nothing lies below the bottom alone
ends : (header : Header) (held : Held) (level : ℕ) → level ≤ header.geometry.bottom → is_none (below_at (levels header held) level) ≡ (level == header.geometry.bottom)
ends header held level low =
    elim (cases_lt level header.geometry.bottom) [
      | inl above ↦ ap is_none (below-next header held level above) ∙ sym (ne_eqb level header.geometry.bottom (λ e. let h = above in omega (arith, h, e)))
      | inr bottom ↦ ap is_none (below-none header held level bottom) ∙ sym (eq-eqb level header.geometry.bottom (let e : level ≡ header.geometry.bottom = omega (arith, low, bottom) in e))
    ]

module _ (header : Header) (held : Held) (i : ℕ) (low : suc i ≤ header.geometry.bottom) where
  abbrev is_odd_here : Bool
  is_odd_here = is_odd (period header.clock (suc i))

  abbrev IsCarriedHere : Type 0
  IsCarriedHere = AreCarried held is_odd_here (is_none (below_at (levels header held) (suc i))) (visible_of header i) (visible_of header (suc i)) (shadow_of header (suc i))

  three-order : IsReached (tested_by header held) (suc i) → FitAt (tested_by header held) (suc i) → AreInOrder held (visible_of header i) (visible_of header (suc i)) (shadow_of header (suc i))
  three-order reached fit = record {
    above_in = record { told = visible-told header held i (omega (arith, low)) reached.told; rising = visible-rises header held (suc i) low reached i (omega (arith, low)) };
    own_in = record { told = visible-told header held (suc i) low reached.told; rising = visible-rises header held (suc i) low reached (suc i) low };
    shadow_in = record {
      told = shadow-told header held (suc i) low reached.told;
      rising = subst (IsRising key_cmp) (shadow-is header held (suc i) low) (formed-of header held _ _ (suc i) _ (below_at (levels header held) (suc i)) _ fit).rising;
    };
  }

  -- what is carried, by the lists of the level
  lists-carried : IsCarriedHere ↔ IsCarried is_odd_here (is_none (below_at (levels header held) (suc i))) (level_at (levels header held) i).visible (level_at (levels header held) (suc i)).visible (level_at (levels header held) (suc i)).shadow
  lists-carried =
      let a = visible-is header held i (omega (arith, low)) in
      let o = visible-is header held (suc i) low in
      let s = shadow-is header held (suc i) low in
      let C : List LawCell → List LawCell → List LawCell → Type 0 = λ x y z. IsCarried is_odd_here (is_none (below_at (levels header held) (suc i))) x y z in
      (λ h. transport (λ j. C (sym a j) (sym o j) (sym s j)) h, λ h. transport (λ j. C (a j) (o j) (s j)) h)

  finishes : FitAt (tested_by header held) (suc i) → IsCarriedHere ↔ FinishedAt (tested_by header held) (suc i)
  finishes fit = (
    λ h.
        let c = carried_by_part is_odd_here (below_at (levels header held) (suc i)) _ _ _ (lists-carried.0 h) in
        record { fit = fit; carried = c.0; keeps = c.1 },
    λ f. lists-carried.1 (part_carried is_odd_here (below_at (levels header held) (suc i)) _ _ _ f.carried f.keeps),
  )

-- what the walk beside a fit shadow costs with the tests of the shadow, why it is refused, and whether what it found is that the
-- shadow is finished
pub record FinishedAsks (header : Header) (held mid : Held) (level : ℕ) (above own shadow : Run) (odd : Bool) : Type 0 where
  pub ticks : 5 * 2 ^ level + (above.len + own.len + shadow.len) ≤ 18 * 2 ^ level
  pub blocks : run_blocks held (shadow_of header level) + blocks_below header held level + (run_blocks held above + run_blocks held own + run_blocks held shadow) ≤ shadow_blocks header held level
  pub cause : (before between now : ℕ) → between ≡ before → (answer : Result Bool ReadFault) → IfErr answer (PassCause mid (above ∷ own ∷ shadow ∷ []) between now) → IfErr answer (TestCause header held before now)
  pub answer : (AreCellsTold (tested_by header held) → FitAt (tested_by header held) level) → (answer : Result Bool ReadFault) →
      IfOk answer (λ carried. AreInOrder mid above own shadow → (IsTrue carried ↔ AreCarried mid odd (level == header.geometry.bottom) above own shadow)) →
      IfOk answer (λ finished. IsReached (tested_by header held) level → (IsTrue finished ↔ FinishedAt (tested_by header held) level))

pub finished-asks : (header : Header) (held : Held) (level : ℕ) → 1 ≤ level → level ≤ header.geometry.bottom → {mid : Held} {above own shadow : Run} {odd : Bool} → mid ≡ held →
    above ≡ visible_of header (level - 1) → own ≡ visible_of header level → shadow ≡ shadow_of header level → odd ≡ is_odd (period header.clock level) → FinishedAsks header held mid level above own shadow odd
finished-asks header held zero one low m a o s d = absurd (omega (arith, one))
finished-asks header held (suc i) one low m a o s d =
    let r = a ∙ ap (visible_of header) (let before : suc i - 1 ≡ i = omega arith in before) in
    transport (λ j. FinishedAsks header held (sym m j) (suc i) (sym r j) (sym o j) (sym s j) (sym d j)) (record {
      ticks =
          let x = visible-fits header i (omega (arith, low)) in
          let y = visible-fits header (suc i) low in
          let z = shadow-fits header (suc i) low in
          let four = slot-is header (suc i) in
          let more = slot-is header i in
          let half = twice header i in
          omega (arith, x, y, z, four, more, half);
      blocks = finished-blocks header held i;
      cause = λ before between now calm answer h.
          cause-of-test header held (visible_of header i ∷ visible_of header (suc i) ∷ shadow_of header (suc i) ∷ [])
          (λ t. (visible-told header held i (omega (arith, low)) t, (visible-told header held (suc i) low t, (shadow-told header held (suc i) low t, tt)))) before now answer
          (subst (λ (n : ℕ). IfErr answer (PassCause held (visible_of header i ∷ visible_of header (suc i) ∷ shadow_of header (suc i) ∷ []) n now)) calm h);
      answer = λ fit answer. IfOk-weaker answer _ _ (λ carried h reached.
          let c : IsTrue carried ↔ IsCarriedHere header held i low = subst (λ (b : Bool). IsTrue carried ↔ AreCarried held (is_odd (period header.clock (suc i))) b (visible_of header i) (visible_of header (suc i)) (shadow_of header (suc i))) (sym (ends header held (suc i) low))
          (h (three-order header held i low reached (fit reached.told))) in
          let f = finishes header held i low (fit reached.told) in
          (λ t. f.0 (c.0 t), λ t. c.1 (f.1 t)));
    })

-- ---- the phases

-- a level works inside its window, which is over behind it
pub record IsInPhase (t j : ℕ) (phase : Phase) : Type 0 where
  pub before : phase ≡ Before → (works t j ≡ false) × (is_over t j ≡ false)
  pub inside : (k : ℕ) → phase ≡ Inside k → works t j ≡ true
  pub after : phase ≡ After → is_over t j ≡ true

pub in-phase : (t j : ℕ) → IsInPhase t j (phase_at t j)
unfolding phase_at
in-phase t j = by (works t j) (is_over t j) refl refl
  where
    by : (w o : Bool) → works t j ≡ w → is_over t j ≡ o → IsInPhase t j (if w then Inside (window_step t j) else (if o then After else Before))
    by true o e f = record { before = λ h. cc; inside = λ k h. e; after = λ h. cc }
    by false true e f = record { before = λ h. cc; inside = λ k h. cc; after = λ h. f }
    by false false e f = record { before = λ h. (e, f); inside = λ k h. cc; after = λ h. cc }

module _ (file : Tested) where
  -- before the window of a level nothing is asked of its shadow
  pub before-has : (level : ℕ) → (works file.clock level ≡ false) × (is_over file.clock level ≡ false) → IsTrue true ↔ ShadowAt file level
  before-has zero p = (λ e. tt, λ s. refl)
  before-has (suc i) p = (λ e. record { inside = λ w. cc; over = λ o. cc }, λ s. refl)

  -- inside it the cut
  pub inside-has : (level : ℕ) → 1 ≤ level → works file.clock level ≡ true → CutAt file level ↔ ShadowAt file level
  inside-has zero one w = absurd (omega (arith, one))
  inside-has (suc i) one w = let still = works-not_over file.clock i w in (λ c. record { inside = λ x. c; over = λ o. cc }, λ s. s.inside w)

  -- behind it the finished shadow
  pub after-has : (level : ℕ) → 1 ≤ level → is_over file.clock level ≡ true → FinishedAt file level ↔ ShadowAt file level
  after-has zero one o = absurd (omega (arith, one))
  after-has (suc i) one o = let rests = over-not_works file.clock i o in (λ f. record { inside = λ w. cc; over = λ x. f }, λ s. s.over o)

  -- an answer to one of two equal questions is one to the other
  pub same-answer : {P Q : Type 0} (level : ℕ) → P ↔ Q → (answer : Result Bool ReadFault) → IfOk answer (λ has. IsReached file level → (IsTrue has ↔ P)) → IfOk answer (λ has. IsReached file level → (IsTrue has ↔ Q))
  same-answer level e answer = IfOk-weaker answer _ _ (λ has h reached. let c = h reached in (λ t. e.0 (c.0 t), λ q. c.1 (e.1 q)))

  -- ---- from the bottom up

  -- each level below one passes, where the cells are told and the visible runs well formed
  abbrev pub PassBehind : ℕ → Type 0
  PassBehind level = AreCellsTold file → EachLevel file (OrderAt file) → (i : ℕ) → level < i → i < length file.marks → ShadowAt file i

  pub reached-at : (level : ℕ) → PassBehind level → AreCellsTold file → EachLevel file (OrderAt file) → IsReached file level
  reached-at level h told ordered = record { told = told; ordered = ordered; behind = h told ordered }

  pub one-more : (level : ℕ) (has : Bool) → has ≡ true → 1 ≤ level → PassBehind level → (IsReached file level → (IsTrue has ↔ ShadowAt file level)) → PassBehind (level - 1)
  one-more level has is one h found = λ told ordered i above within.
      elim (cases_lt level i) [
        | inl less ↦ h told ordered i less within
        | inr more ↦ subst (ShadowAt file) (let e : level ≡ i = omega (arith, above, more, one) in e) ((found (reached-at level h told ordered)).0 is)
      ]

  pub one-fails : (level : ℕ) (has : Bool) (verdict : Verdict) → has ≡ false → level < length file.marks → PassBehind level → (IsReached file level → (IsTrue has ↔ ShadowAt file level)) → verdict ≡ Broken Shadow level (shadow_cell file level) →
      FindsFlaw file (Cell ∷ Order ∷ Sample ∷ Length ∷ []) (Shadow ∷ []) (Some verdict)
  one-fails level has verdict is within h found same = λ before.
      subst (IsVerdict file) (sym same) (
        before,
        (
          record {
            within = within;
            fails = λ s. let e : has ≡ true = (found (reached-at level h before.0 before.1.0)).1 s in cc;
            behind = h before.0 before.1.0;
          },
          refl,
        ),
      )

-- ---- the ticks

-- those of the levels below one, and those of one more
abbrev pub ticks_behind : ℕ → ℕ → ℕ
ticks_behind bottom level = shadow_ticks bottom - shadow_ticks level

pub more-ticks : (bottom level : ℕ) → 1 ≤ level → level ≤ bottom → ticks_behind bottom level + 18 * 2 ^ level ≤ ticks_behind bottom (level - 1)
more-ticks bottom level one low =
    let grows : 2 ^ (level + 1) ≤ 2 ^ (bottom + 1) = power-le (level + 1) (bottom + 1) (omega (arith, low)) in
    let twice : 2 ^ (level + 1) ≡ 2 ^ level + 2 ^ level = next_power level (level + 1) refl in
    let e : level - 1 + 1 ≡ level = omega (arith, one) in
    let back : 2 ^ (level - 1 + 1) ≡ 2 ^ level = ap (λ (n : ℕ). 2 ^ n) e in
    omega (arith, grows, twice, back)

pub all-ticks-behind : (bottom level : ℕ) → ticks_behind bottom level ≤ shadow_ticks bottom
all-ticks-behind bottom level = omega arith

pub some-ticks : (bottom level : ℕ) → 1 ≤ level → level ≤ bottom → ticks_behind bottom level + 18 * 2 ^ level ≤ shadow_ticks bottom
some-ticks bottom level one low =
    let more = more-ticks bottom level one low in
    let all = all-ticks-behind bottom (level - 1) in
    omega (arith, more, all)
