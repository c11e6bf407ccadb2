-- The live keys of the levels of a file: the windows of its levels, the runs that are counted, and the verdict by their counts.
use Rattle.std.proofs.Common.{◌≡◌, ℕ, ◌+◌, ◌^◌, ◌<◌, ◌≤◌, ◌==◌, Bool, true, false, true≢false, cond, if◌then◌else◌, refl, sym, ap, subst, ◌∙◌, arith, inl, inr, ◌↔◌, zero, suc, List, [], ◌∷◌, ◌++◌, length, map, drop, None, Some}
use Rattle.std.proofs.Common.{IsTrue, Err}
use Rattle.cola_check.proofs.Common.{AllByRecursion, IsRising, IsWellFormed, visibles, shadows, Run, ReadFault, Held, LawCell, key_cmp, run_cells, is_over, period, is_odd, visible_slot, is_over-suc, Header, power-le, next_power}
use Rattle.cola_check.proofs.Common.{Flaw, Order, Sample, Length, Shadow, Count, Stamp, Verdict, Sound, Broken, FileLevel, Tested, level_at, below_at, live_pairs, AreCellsTold, OrderAt, ShadowAt, LiveAt, EachLevel, IsFirst}
use Rattle.cola_check.proofs.Common.{IsVerdict, LevelRuns, LiveCount, IsInOrder, by_bool, LevelCells, visible_runs, shadow_runs, AreLiveCounts, AreStamped, tested_by, visible_of, shadow_of, HasLevel, shadow_or_none, with_shadow}
use Rattle.cola_check.proofs.Common.{runs_of, cells_in, cells_of, AreRunsInOrder, finished_shadow, counted_level, counted_from, count_at, AreFew, AreAllFew, IsFirstCrowded, JudgesWhole, JudgesCounts, IsRunTold, PassCause}
use Rattle.cola_check.proofs.Common.{HasLevels, FindsVerdict, TestCause, live_ticks}
use Rattle.cola_verdict.specs.declared.verdict.Flaw.TheVariants.{Cell, Live}
use Rattle.cola_verdict.specs.Verdict.{Passes}
use Rattle.cola_check.specs.Chains.{lives}
use Rattle.cola_check.specs.Living.{AreFewAt}
use Rattle.cola_check.proofs.Levels.{levels, marks-many, visible-is, shadow-is, below-none, from-level, visible-told, shadow-told}
use Rattle.cola_check.proofs.ShadowTests.{cause-of-test, formed-of, visible-has, shadow-has, visible-fits, shadow-fits}

-- ---- the windows of the levels of a header

-- the clock of a header is one that the calls on the clock take
pub clock-fits : (header : Header) → header.clock < 2 ^ 23
clock-fits header =
    let clock : header.clock < 2 ^ (header.geometry.bottom + 1) = header.clock_fits in
    let shallow : header.geometry.bottom ≤ 22 = header.geometry.shallow in
    let more : 2 ^ (header.geometry.bottom + 1) ≤ 2 ^ 23 = power-le (header.geometry.bottom + 1) 23 (omega arith) in
    omega (arith, clock, more)

-- the window of level 0 is never over
pub none-over : (t level : ℕ) → level ≡ 0 → false ≡ is_over t level
unfolding is_over
none-over t level e = subst (λ (l : ℕ). false ≡ is_over t l) (sym e) refl

-- whether a slot is that of an odd period
pub odd-slot : (t level : ℕ) → (visible_slot t level == 1) ≡ is_odd (period t level)
unfolding visible_slot is_odd
odd-slot t level = refl

-- ---- lists of levels

module _ (header : Header) where
  counted-later : (level n : ℕ) → counted_from header level (suc n) ≡ counted_from header level n ++ counted_level header (level + n) ∷ []
  counted-later level zero = ap (λ (l : ℕ). counted_level header l ∷ []) (let e : level ≡ level + 0 = omega arith in e)
  counted-later level (suc n) =
      ap (λ (rest : List LevelRuns). counted_level header level ∷ rest)
      (counted-later (suc level) n ∙ ap (λ (l : ℕ). counted_from header (suc level) n ++ counted_level header l ∷ []) (let e : suc level + n ≡ level + suc n = omega arith in e))

  -- one more of the levels from level 0 on
  pub counted-next : (n : ℕ) (before after : List LevelRuns) (level : LevelRuns) → level ≡ counted_level header n → after ≡ before ++ level ∷ [] → before ≡ counted_from header 0 n → after ≡ counted_from header 0 (n + 1)
  counted-next n before after level is push have =
      push ∙ ap (λ (xs : List LevelRuns). xs ++ level ∷ []) have ∙ ap (λ (l : LevelRuns). counted_from header 0 n ++ l ∷ []) (is ∙ ap (counted_level header) (let e : n ≡ 0 + n = omega arith in e)) ∙ sym (counted-later 0 n)
      ∙ ap (counted_from header 0) (let e : suc n ≡ n + 1 = omega arith in e)

  pub counted-many : (level n : ℕ) → length (counted_from header level n) ≡ n
  counted-many level zero = refl
  counted-many level (suc n) = ap suc (counted-many (suc level) n)

-- ---- the runs of the levels

module _ (header : Header) (held : Held) where
  abbrev bottom : ℕ
  bottom = header.geometry.bottom

  abbrev file : Tested
  file = tested_by header held

  -- they are runs of the object
  level-has : HasLevels header held → (level : ℕ) → level ≤ bottom → (over : Bool) → HasLevel held (record { visible = visible_of header level; shadow = if over then Some (shadow_of header level) else None; odd = is_odd (period header.clock level) })
  level-has has level low true = record { visible = visible-has header held level has low; shadow = shadow-has header held level has low }
  level-has has level low false = record { visible = visible-has header held level has low; shadow = tt }

  pub levels-have : HasLevels header held → (level n : ℕ) → level + n ≤ bottom + 1 → AllByRecursion (HasLevel held) (counted_from header level n)
  levels-have has level zero h = tt
  levels-have has level (suc n) h = (level-has has level (omega arith) (is_over header.clock level), levels-have has (suc level) n (omega arith))

  -- what is so of each visible run and of each finished shadow is so of each run
  module _ (P : Run → Type 0) (visible : (level : ℕ) → level ≤ bottom → P (visible_of header level)) (shadow : (level : ℕ) → level ≤ bottom → is_over header.clock level ≡ true → P (shadow_of header level)) where
    with-one : (level : ℕ) → level ≤ bottom → (over : Bool) → is_over header.clock level ≡ over → (runs : List Run) → AllByRecursion P runs → AllByRecursion P (with_shadow (if over then Some (shadow_of header level) else None) runs)
    with-one level low true e runs h = (shadow level low e, h)
    with-one level low false e runs h = h

    pub all-runs : (level n : ℕ) → level + n ≤ bottom + 1 → AllByRecursion P (runs_of (counted_from header level n))
    all-runs level zero h = tt
    all-runs level (suc n) h = (visible level (omega arith), with-one level (omega arith) (is_over header.clock level) refl _ (all-runs (suc level) n (omega arith)))

  -- ---- a bad cell

  pub counting-cause : (before now : ℕ) (fault : ReadFault) (runs : List LevelRuns) → runs ≡ counted_from header 0 (bottom + 1) → PassCause held (runs_of runs) before now fault → TestCause header held before now fault
  counting-cause before now fault runs is =
      cause-of-test {T = Bool} header held (runs_of runs)
      (λ told. subst (λ (rs : List LevelRuns). AllByRecursion (IsRunTold held) (runs_of rs)) (sym is)
      (all-runs (IsRunTold held) (λ level low. visible-told header held level low told) (λ level low over. shadow-told header held level low told) 0 (bottom + 1) (omega arith))) before now (Err fault)

  -- ---- their order

  shadow-formed : EachLevel file (ShadowAt file) → (level : ℕ) → level ≤ bottom → is_over header.clock level ≡ true → IsWellFormed key_cmp (level_at (levels header held) level).shadow
  shadow-formed passes zero low over = absurd (true≢false (sym over ∙ sym (none-over header.clock 0 refl)))
  shadow-formed passes (suc i) low over =
      let m = marks-many header held in
      formed-of header held header.geometry.keys _ (suc i) _ (below_at (levels header held) (suc i)) _ ((passes (suc i) (omega arith)).over over).fit

  pub runs-in_order : AreCellsTold file → EachLevel file (OrderAt file) → EachLevel file (ShadowAt file) → AreRunsInOrder held (counted_from header 0 (bottom + 1))
  runs-in_order told ordered shadowed =
      let m = marks-many header held in
      all-runs (IsInOrder held)
      (λ level low. record { told = visible-told header held level low told; rising = subst (IsRising key_cmp) (visible-is header held level low) (ordered level (omega arith)).rising })
      (λ level low over. record { told = shadow-told header held level low told; rising = subst (IsRising key_cmp) (shadow-is header held level low) (shadow-formed shadowed level low over).rising })
      0 (bottom + 1) (omega arith)

  -- ---- the lists of cells

  abbrev cells-from : ℕ → ℕ → List LevelCells
  cells-from level n = map (cells_of held) (counted_from header level n)

  none-from : (level : ℕ) → level + 0 ≡ bottom + 1 → drop level (levels header held) ≡ []
  none-from level e = ap (λ (j : ℕ). drop j (levels header held)) (let s : level ≡ suc bottom = omega arith in s) ∙ below-none header held bottom (omega arith)

  visibles-from : (level n : ℕ) → level + n ≡ bottom + 1 → visible_runs (cells-from level n) ≡ visibles (drop level (levels header held))
  visibles-from level zero e = ap visibles (sym (none-from level e))
  visibles-from level (suc n) e =
      let low : level ≤ bottom = omega arith in
      ap (λ (run : List LawCell). run ∷ visible_runs (cells-from (suc level) n)) (sym (visible-is header held level low))
      ∙ ap (λ (runs : List (List LawCell)). (level_at (levels header held) level).visible ∷ runs) (visibles-from (suc level) n (omega arith))
      ∙ ap visibles (sym (from-level header held level low))

  shadow-cells : (level : ℕ) → is_over header.clock level ≡ true → run_cells held (shadow_or_none (finished_shadow header level) (visible_of header level)) ≡ run_cells held (shadow_of header level)
  shadow-cells level over = ap (λ (b : Bool). run_cells held (shadow_or_none (if b then Some (shadow_of header level) else None) (visible_of header level))) over

  either : {X : Type 0} {a b c d : X} (odd : Bool) → (odd ≡ true → a ≡ c) → b ≡ d → cond odd a b ≡ cond odd c d
  either true h k = h refl
  either false h k = k

  shadows-from : (level n : ℕ) → level + n ≡ bottom + 1 → is_over header.clock level ≡ true → shadow_runs (cells-from level n) ≡ shadows header.clock level (drop level (levels header held))
  shadows-from level zero e over = ap (shadows header.clock level) (sym (none-from level e))
  shadows-from level (suc n) e over =
      let low : level ≤ bottom = omega arith in
      ap (λ (run : List LawCell). run ∷ cond (is_odd (period header.clock level)) (shadow_runs (cells-from (suc level) n)) (visible_runs (cells-from (suc level) n)))
      (shadow-cells level over ∙ sym (shadow-is header held level low))
      ∙ ap (λ (runs : List (List LawCell)). (level_at (levels header held) level).shadow ∷ runs)
      (either (is_odd (period header.clock level)) (λ odd. shadows-from (suc level) n (omega arith) (is_over-suc header.clock level ∙ odd)) (visibles-from (suc level) n (omega arith)))
      ∙ ap (shadows header.clock level) (sym (from-level header held level low))

  -- ---- the counts of a level

  record CountsAt (level : ℕ) (count : LiveCount) : Type 0 where
    visible_is : count.visible ≡ lives (visibles (drop level (levels header held)))
    shadow_is : is_over header.clock level ≡ true → count.shadow ≡ lives (shadows header.clock level (drop level (levels header held)))

  counts-at : (i level n : ℕ) (counts : List LiveCount) → i < n → level + n ≡ bottom + 1 → AreLiveCounts (cells-from level n) counts → CountsAt (level + i) (count_at counts i)
  counts-at i level zero counts h e are = absurd (omega arith)
  counts-at i level (suc n) [] h e are = absurd are
  counts-at zero level (suc n) (count ∷ counts) h e are =
      subst (λ (l : ℕ). CountsAt l count) (let s : level ≡ level + 0 = omega arith in s)
      (record { visible_is = are.0.visible ∙ ap lives (visibles-from level (suc n) e); shadow_is = λ over. are.0.shadow ∙ ap lives (shadows-from level (suc n) e over) })
  counts-at (suc i) level (suc n) (count ∷ counts) h e are =
      subst (λ (l : ℕ). CountsAt l (count_at counts i)) (let s : suc level + i ≡ level + suc i = omega arith in s) (counts-at i (suc level) n counts (omega arith) (omega arith) are.1)

  all-counts : (counts : List LiveCount) → AreLiveCounts (cells-from 0 (bottom + 1)) counts → (level : ℕ) → level ≤ bottom → CountsAt level (count_at counts level)
  all-counts counts are level low = subst (λ (l : ℕ). CountsAt l (count_at counts level)) (let s : 0 + level ≡ level = omega arith in s) (counts-at level 0 (bottom + 1) counts (omega arith) (omega arith) are)

  -- ---- the verdict

  few-live : (level : ℕ) (count : LiveCount) → level ≤ bottom → CountsAt level count → AreFew header.geometry.keys (is_over header.clock level) count ↔ LiveAt file level
  few-live level count low is =
      let at = from-level header held level low in
      let visible : count.visible ≡ lives (visibles (level_at (levels header held) level ∷ below_at (levels header held) level)) = is.visible_is ∙ ap (λ (ls : List FileLevel). lives (visibles ls)) at in
      let shadow : is_over header.clock level ≡ true → count.shadow ≡ lives (shadows header.clock level (level_at (levels header held) level ∷ below_at (levels header held) level)) =
      λ over. is.shadow_is over ∙ ap (λ (ls : List FileLevel). lives (shadows header.clock level ls)) at in (
        λ few. record {
          visible = subst (λ (n : ℕ). n ≤ header.geometry.keys) visible few.few_visible;
          over = λ o. subst (λ (n : ℕ). n ≤ header.geometry.keys) (shadow o) (few.few_shadow o);
        },
        λ live. record {
          few_visible = subst (λ (n : ℕ). n ≤ header.geometry.keys) (sym visible) live.visible;
          few_shadow = λ o. subst (λ (n : ℕ). n ≤ header.geometry.keys) (sym (shadow o)) (live.over o);
        },
      )

  module _ (counts : List LiveCount) (stamped : Bool) (are : AreLiveCounts (cells-from 0 (bottom + 1)) counts)
      (given : IsTrue stamped ↔ AreStamped header.last (live_pairs (visible_runs (cells-from 0 (bottom + 1)))))
      (passed : AllByRecursion (Passes file) (Cell ∷ Order ∷ Sample ∷ Length ∷ Shadow ∷ [])) where
    at-level : (level : ℕ) → level ≤ bottom → AreFewAt header counts level ↔ LiveAt file level
    at-level level low = few-live level (count_at counts level) low (all-counts counts are level low)

    all-live : AreAllFew header counts → EachLevel file (LiveAt file)
    all-live few level h = let m = marks-many header held in let low : level ≤ bottom = omega arith in (at-level level low).0 (few level low)

    first-live : (level : ℕ) → IsFirstCrowded header counts level → IsFirst file (LiveAt file) level
    first-live level first = record {
      within = let m = marks-many header held in let w = first.within in omega arith;
      fails = λ live. first.crowded ((at-level level first.within).1 live);
      before = λ i l. (at-level i (let w = first.within in omega arith)).0 (first.before i l);
    }

    whole : visible_runs (cells-from 0 (bottom + 1)) ≡ visibles (levels header held)
    whole = visibles-from 0 (bottom + 1) (omega arith) ∙ ap visibles (no-drop (levels header held))
      where
        no-drop : (xs : List FileLevel) → drop 0 xs ≡ xs
        no-drop [] = refl
        no-drop (x ∷ xs) = refl

    live-is : (count_at counts 0).visible ≡ length (live_pairs (visibles (levels header held)))
    live-is = (all-counts counts are 0 (omega arith)).visible_is ∙ sym (ap lives (visibles-from 0 (bottom + 1) (omega arith))) ∙ ap lives whole

    stamps : IsTrue stamped ↔ Passes file Stamp
    stamps = subst (λ (runs : List (List LawCell)). IsTrue stamped ↔ AreStamped header.last (live_pairs runs)) whole given

    -- the tests before, and these
    later : (flaws : List Flaw) → AllByRecursion (Passes file) flaws → AllByRecursion (Passes file) (Cell ∷ Order ∷ Sample ∷ Length ∷ Shadow ∷ flaws)
    later flaws these = (passed.0, (passed.1.0, (passed.1.1.0, (passed.1.1.1.0, (passed.1.1.1.1.0, these)))))

    by-whole : (verdict : Verdict) → AreAllFew header counts → JudgesWhole header (count_at counts 0).visible stamped verdict → IsVerdict file verdict
    by-whole (Sound count) few is =
        (later (Live ∷ Count ∷ Stamp ∷ []) (all-live few, (is.0 ∙ live-is, (stamps.0 is.1, tt))), is.2 ∙ live-is)
    by-whole (Broken Count level number) few is =
        (later (Live ∷ []) (all-live few, tt), ((λ counted. is.0 (counted ∙ sym live-is)), is.1, is.2))
    by-whole (Broken Stamp level number) few is =
        (later (Live ∷ Count ∷ []) (all-live few, (is.0 ∙ live-is, tt)), ((λ given. is.1 (stamps.1 given)), is.2, is.3))
    by-whole _ few is = absurd is

    pub by-counts : (verdict : Verdict) → JudgesCounts header counts stamped verdict → IsVerdict file verdict
    by-counts verdict (inl crowded) = subst (IsVerdict file) (sym crowded.2) (passed, (first-live crowded.0 crowded.3, crowded.4))
    by-counts verdict (inr whole) = by-whole verdict whole.0 whole.1

  -- the verdict that was found by the counts of the listed runs
  pub finds-verdict : (runs : List LevelRuns) (counts : List LiveCount) (stamped : Bool) (verdict : Verdict) → runs ≡ counted_from header 0 (bottom + 1) →
      (AreRunsInOrder held runs → AreLiveCounts (map (cells_of held) runs) counts) →
      (AreRunsInOrder held runs → IsTrue stamped ↔ AreStamped header.last (live_pairs (visible_runs (map (cells_of held) runs)))) →
      JudgesCounts header counts stamped verdict → FindsVerdict file (Cell ∷ Order ∷ Sample ∷ Length ∷ Shadow ∷ []) verdict
  finds-verdict runs counts stamped verdict is are given judged passed =
      let order : AreRunsInOrder held runs = subst (AreRunsInOrder held) (sym is) (runs-in_order passed.0 passed.1.0 passed.1.1.1.1.0) in
      by-counts counts stamped (subst (λ (rs : List LevelRuns). AreLiveCounts (map (cells_of held) rs) counts) is (are order))
      (subst (λ (rs : List LevelRuns). IsTrue stamped ↔ AreStamped header.last (live_pairs (visible_runs (map (cells_of held) rs)))) is (given order)) passed verdict judged

-- ---- how many cells are read

module _ (header : Header) where
  level-cells : (level : ℕ) → level ≤ header.geometry.bottom → (over : Bool) (runs : List Run) → (visible_of header level).len + cells_in (with_shadow (if over then Some (shadow_of header level) else None) runs) ≤ 2 ^ (level + 3) + cells_in runs
  level-cells level low over runs =
      let a : (visible_of header level).len ≤ 2 ^ (level + 2) = visible-fits header level low in
      let b : (shadow_of header level).len ≤ 2 ^ (level + 2) = shadow-fits header level low in
      let h = next_power (level + 2) (level + 3) (omega arith) in
      by_bool (λ o. (visible_of header level).len + cells_in (with_shadow (if o then Some (shadow_of header level) else None) runs) ≤ 2 ^ (level + 3) + cells_in runs) (omega (arith, a, b, h)) (omega (arith, a, b, h)) over

  cells-from_level : (level n : ℕ) → level + n ≤ header.geometry.bottom + 1 → cells_in (runs_of (counted_from header level n)) + 2 ^ (level + 3) ≤ 2 ^ (level + n + 3)
  cells-from_level level zero h = let e : 2 ^ (level + 3) ≡ 2 ^ (level + 0 + 3) = ap (λ (n : ℕ). 2 ^ n) (let s : level + 3 ≡ level + 0 + 3 = omega arith in s) in omega arith
  cells-from_level level (suc n) h =
      let rest = cells-from_level (suc level) n (omega arith) in
      let here = level-cells level (omega arith) (is_over header.clock level) (runs_of (counted_from header (suc level) n)) in
      let twice : 2 ^ (suc level + 3) ≡ 2 ^ (level + 3) + 2 ^ (level + 3) = next_power (level + 3) (suc level + 3) (omega arith) in
      let same : 2 ^ (suc level + n + 3) ≡ 2 ^ (level + suc n + 3) = ap (λ (m : ℕ). 2 ^ m) (let s : suc level + n + 3 ≡ level + suc n + 3 = omega arith in s) in
      omega (arith, rest, here, twice, same)

  pub few-counted : (runs : List LevelRuns) → runs ≡ counted_from header 0 (header.geometry.bottom + 1) → cells_in (runs_of runs) ≤ live_ticks header.geometry.bottom
  few-counted runs is =
      let all = cells-from_level 0 (header.geometry.bottom + 1) (omega arith) in
      let same : 2 ^ (0 + (header.geometry.bottom + 1) + 3) ≡ 2 ^ (header.geometry.bottom + 4) = ap (λ (m : ℕ). 2 ^ m) (let s : 0 + (header.geometry.bottom + 1) + 3 ≡ header.geometry.bottom + 4 = omega arith in s) in
      subst (λ (rs : List LevelRuns). cells_in (runs_of rs) ≤ live_ticks header.geometry.bottom) (sym is) (omega (arith, all, same))
