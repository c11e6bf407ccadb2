-- The blocks of a file's runs, by its header, and those of all tests.
use Rattle.std.proofs.Common.{◌≡◌, ℕ, zero, suc, ◌+◌, ◌-◌, ◌*◌, ◌/◌, ◌^◌, ◌<◌, ◌≤◌, ◌==◌, if◌then◌else◌, List, drop, length, get_or, refl, sym, ap, ◌∙◌, arith, inl, inr, Bool, true, false, nat_lt, Option, None, Some, subst}
use Rattle.std.proofs.Common.{lt-ltb, ltb-true}
use Rattle.cola_check.proofs.Common.{drop_all, get_or_default, cases_lt, Held, span, Run, visible_slot, period, is_odd, is_over, Header, Marks, fields_of, marks_of, no_marks, number-at, div-mono, level_cells, cells_above}
use Rattle.cola_check.proofs.Common.{all_blocks, run_blocks, run_blocks_or, level_blocks, blocks_above, blocks_below, shadow_blocks, runs_cells, test_blocks, numbers_at, visible_of, shadow_of, LevelRuns, IsBelow, StandsAt}
use Rattle.cola_check.proofs.Common.{StandFrom, blocks_at, blocks_of, counted_from, next_of, IsNext}
use Rattle.cola_clock.specs.Marks.{Marks as LevelMarks}
use Rattle.cola_run.proofs.Reading.{span-is}
use Rattle.cola_check.proofs.Levels.{slot-in, left_next, of-next, by-place}
use Rattle.cola_check.proofs.RunBlocks.{span-pos, level-more, some-blocks, none-by}

-- ---- the runs of a file

-- a sum over both slots of a level is one over its visible run and its shadow
both-slots : (f : ℕ → ℕ) (visible shadow slot : ℕ) → slot < 2 → f (if 0 == slot then visible else shadow) + f (if 1 == slot then visible else shadow) ≡ f visible + f shadow
both-slots f visible shadow zero h = refl
both-slots f visible shadow (suc zero) h = omega arith
both-slots f visible shadow (suc (suc slot)) h = absurd (omega (arith, h))

module _ (header : Header) where
  abbrev marks : List Marks
  marks = header.levels.items

  level-cells : (level : ℕ) → level_cells header level ≡ (marks_of marks level).visible + (marks_of marks level).shadow
  level-cells level =
      let b = both-slots (λ n. n) (numbers_at header level).visible (numbers_at header level).shadow (visible_slot header.clock level) (slot-in header.clock level) in
      let v = ap (λ (m : LevelMarks). m.visible) (number-at marks level) in
      let s = ap (λ (m : LevelMarks). m.shadow) (number-at marks level) in
      omega (arith, b, v, s)

  -- the levels above one, and the others
  cells-split : (level : ℕ) → level ≤ length marks → cells_above header level + runs_cells (drop level marks) ≡ runs_cells marks
  cells-split zero h = omega arith
  cells-split (suc level) h =
      let r = cells-split level (omega (arith, h)) in
      let here : marks_of marks level ≡ get_or marks level (marks_of marks level) = get_or_default marks level no_marks (marks_of marks level) (omega (arith, h)) in
      let next = ap runs_cells (left_next marks level (marks_of marks level) (omega (arith, h)) here) in
      let same = ap (λ (n : ℕ). runs_cells (drop n marks)) (let e : level + 1 ≡ suc level = omega arith in e) in
      let l = level-cells level in
      omega (arith, r, next, same, l)

  all-cells : cells_above header (header.geometry.bottom + 1) ≡ runs_cells marks
  all-cells =
      let r = cells-split (header.geometry.bottom + 1) (omega (arith, header.one_each)) in
      let none = ap runs_cells (drop_all (header.geometry.bottom + 1) marks (omega (arith, header.one_each))) in
      omega (arith, r, none)

  pub file-blocks : (held : Held) → held.fixed.doublings ≡ header.geometry.block_exp - 3 → 10 * all_blocks header held ≤ test_blocks (fields_of header)
  file-blocks held d =
      let block : span held ≡ 2 ^ header.geometry.block_exp = ap (λ (n : ℕ). 8 * 2 ^ n) d ∙ span-is header.geometry header.geometry.block_fits in
      let same : cells_above header (header.geometry.bottom + 1) / span held ≡ runs_cells marks / 2 ^ header.geometry.block_exp = ap (λ (n : ℕ). n / span held) all-cells ∙ ap (λ (n : ℕ). runs_cells marks / n) block in
      omega (arith, same)

-- ---- below a level

module _ (header : Header) (held : Held) where
  abbrev bottom : ℕ
  bottom = header.geometry.bottom

  abbrev all : ℕ
  all = all_blocks header held

  below-is : (level : ℕ) → level < bottom → blocks_below header held level ≡ level_blocks header held (level + 1)
  below-is level h = ap (λ (t : Bool). if t then level_blocks header held (level + 1) else 0) (lt-ltb level bottom h)

  below-none : (level : ℕ) → bottom ≤ level → blocks_below header held level ≡ 0
  below-none level h = none-by (nat_lt level bottom) _ (λ e. let k : level < bottom = ltb-true level bottom e in omega (arith, h, k))

  -- ---- sums over the levels above one

  -- of the blocks below each
  abbrev pub belows : ℕ → ℕ
  belows zero = 0
  belows (suc level) = belows level + blocks_below header held level

  belows-few : (level : ℕ) → level ≤ bottom → belows level + level_blocks header held 0 ≤ blocks_above header held (suc level)
  belows-few zero h = let m = level-more header held 0 in omega (arith, m)
  belows-few (suc level) h =
      let r = belows-few level (omega (arith, h)) in
      let e = below-is level (omega (arith, h)) in
      let f = ap (level_blocks header held) (let s : level + 1 ≡ suc level = omega arith in s) in
      let m = level-more header held (suc level) in
      omega (arith, r, e, f, m)

  belows-all : (level : ℕ) → level ≤ bottom + 1 → belows level ≤ all
  belows-all zero h = omega arith
  belows-all (suc level) h = elim (cases_lt level bottom) [
    | inl less ↦ let r = belows-few (suc level) (omega (arith, less)) in let s = some-blocks header held (suc level) (omega (arith, less)) in omega (arith, r, s)
    | inr more ↦ let r = belows-few level (omega (arith, h)) in let s = some-blocks header held level (omega (arith, h)) in let n = below-none level more in omega (arith, r, s, n)
  ]

  -- the tests of the visible runs: each level's runs and those below it
  pub visibles-more : (level : ℕ) → blocks_above header held level + belows level + (level_blocks header held level + blocks_below header held level) ≤ blocks_above header held (level + 1) + belows (level + 1)
  visibles-more level =
      let m = level-more header held level in
      subst (λ (n : ℕ). blocks_above header held level + belows level + (level_blocks header held level + blocks_below header held level) ≤ blocks_above header held n + belows n) (let e : suc level ≡ level + 1 = omega arith in e) (omega (arith, m))

  pub visibles-all : (level : ℕ) → level ≤ bottom + 1 → blocks_above header held level + belows level ≤ 2 * all
  visibles-all zero h = omega arith
  visibles-all (suc level) h = let r = belows-all (suc level) h in let s = some-blocks header held level (omega (arith, h)) in omega (arith, r, s)

  -- the tests of the shadows, of the levels from 1 down to one
  abbrev pub shadows_to : ℕ → ℕ
  shadows_to zero = 0
  shadows_to (suc level) = shadows_to level + shadow_blocks header held (suc level)

  shadows-few : (level : ℕ) → shadows_to level ≤ 2 * (blocks_above header held level + blocks_above header held (suc level) + belows (suc level))
  shadows-few zero = omega arith
  shadows-few (suc level) =
      let r = shadows-few level in
      let m = level-more header held level in
      let n = level-more header held (suc level) in
      omega (arith, r, m, n)

  pub shadows-all : shadows_to bottom ≤ 6 * all
  shadows-all = by-level bottom refl
    where
      by-level : (level : ℕ) → level ≡ bottom → shadows_to level ≤ 6 * all
      by-level zero e = omega arith
      by-level (suc level) e =
          let r = shadows-few (suc level) in
          let a = some-blocks header held level (omega (arith, e)) in
          let b = some-blocks header held (suc level) (omega (arith, e)) in
          let c = belows-all (suc (suc level)) (omega (arith, e)) in
          omega (arith, r, a, b, c)

  -- one level fewer is left
  pub shadow-done : (object : Held) (level turned before now : ℕ) → object ≡ held → 1 ≤ level → turned + shadows_to level ≤ before + shadows_to bottom → now ≤ turned + shadow_blocks header object level →
      now + shadows_to (level - 1) ≤ before + shadows_to bottom
  shadow-done object zero turned before now same one h k = absurd (omega (arith, one))
  shadow-done object (suc level) turned before now same one h k =
      let e : suc level - 1 ≡ level = omega arith in
      let f = ap (λ (o : Held). shadow_blocks header o (suc level)) same in
      subst (λ (n : ℕ). now + shadows_to n ≤ before + shadows_to bottom) (sym e) (omega (arith, h, k, f))

  -- ---- the two runs of a level

  pub both-runs : (level : ℕ) → visible_slot header.clock level < 2 → run_blocks held (visible_of header level) + run_blocks held (shadow_of header level) ≡ level_blocks header held level
  both-runs level h = sym (both-slots (λ n. n / span held + 2) (visible_of header level).len (shadow_of header level).len (visible_slot header.clock level) h)

  both-in : (level : ℕ) → (run_blocks held (visible_of header level) ≤ level_blocks header held level) × (run_blocks held (shadow_of header level) ≤ level_blocks header held level)
  both-in level = let b = both-runs level (slot-in header.clock level) in (omega (arith, b), omega (arith, b))

  -- a run of the level below, or none below the bottom
  some-below : (level : ℕ) (run : Run) → level < bottom → run_blocks held run ≤ level_blocks header held (suc level) → run_blocks held run ≤ blocks_below header held level
  some-below level run above h =
      let e = below-is level above in
      let f = ap (level_blocks header held) (let s : level + 1 ≡ suc level = omega arith in s) in
      omega (arith, h, e, f)

  pub visible-blocks : (level : ℕ) (run : Run) (below : Option Run) → run ≡ visible_of header level → IsBelow header level below →
      run_blocks held run + run_blocks_or held below ≤ level_blocks header held level + blocks_below header held level
  visible-blocks level run below same is =
      let v = (both-in level).0 in
      let e = ap (run_blocks held) same in
      let b = by-place header level (λ o. run_blocks_or held o ≤ blocks_below header held level) is.above is.bottom (λ above. some-below level (visible_of header (suc level)) above (both-in (suc level)).0) (λ lowest. omega arith) in
      omega (arith, v, e, b)

  pub next-blocks : (level : ℕ) → level < bottom → run_blocks held (next_of header level) ≤ blocks_below header held level
  next-blocks level above =
      of-next header (λ r. run_blocks held r ≤ blocks_below header held level) level (some-below level (shadow_of header (suc level)) above (both-in (suc level)).1)
      (some-below level (visible_of header (suc level)) above (both-in (suc level)).0)

  pub fit-blocks : (level : ℕ) (run : Run) (next : Option Run) → run ≡ shadow_of header level → IsNext header level next →
      run_blocks held run + run_blocks_or held next ≤ run_blocks held (shadow_of header level) + blocks_below header held level
  fit-blocks level run next same is =
      let e = ap (run_blocks held) same in
      let b = by-place header level (λ o. run_blocks_or held o ≤ blocks_below header held level) is.above is.bottom (next-blocks level) (λ lowest. omega arith) in
      omega (arith, e, b)

  -- a shadow that is tested as finished: once over its next run, and once beside the runs above and its level's own
  pub finished-blocks : (level : ℕ) → run_blocks held (shadow_of header (suc level)) + blocks_below header held (suc level)
      + (run_blocks held (visible_of header level) + run_blocks held (visible_of header (suc level)) + run_blocks held (shadow_of header (suc level))) ≤ shadow_blocks header held (suc level)
  finished-blocks level =
      let b = both-runs (suc level) (slot-in header.clock (suc level)) in
      let v = (both-in level).0 in
      omega (arith, b, v)

  pub fit-in : (level : ℕ) → 1 ≤ level → run_blocks held (shadow_of header level) + blocks_below header held level ≤ shadow_blocks header held level
  fit-in zero one = absurd (omega (arith, one))
  fit-in (suc level) one = let s = (both-in (suc level)).1 in omega (arith, s)

  -- a cut: twice the sources, and once the shadow
  pub any-cut : (level sample : ℕ) → sample ≤ blocks_below header held (suc level) →
      2 * (run_blocks held (visible_of header (suc level)) + run_blocks held (visible_of header level) + sample) + run_blocks held (shadow_of header (suc level)) ≤ shadow_blocks header held (suc level)
  any-cut level sample few =
      let b = both-runs (suc level) (slot-in header.clock (suc level)) in
      let v = (both-in level).0 in
      omega (arith, b, v, few)

  -- ---- the runs whose live keys are counted

  abbrev with_over : ℕ → Bool → LevelRuns
  with_over level over = record { visible = visible_of header level; shadow = (if over then Some (shadow_of header level) else None); odd = is_odd (period header.clock level) }

  level-stands : (level : ℕ) (over : Bool) → StandsAt level (with_over level over)
  level-stands level true = record { visible = refl; shadow = refl }
  level-stands level false = record { visible = refl; shadow = refl }

  counted-stand : (level n : ℕ) → StandFrom level (counted_from header level n)
  counted-stand level zero = tt
  counted-stand level (suc n) = (level-stands level (is_over header.clock level), counted-stand (suc level) n)

  level-counted : (level : ℕ) (over : Bool) → blocks_at held (with_over level over) ≤ level_blocks header held level
  level-counted level true = let b = both-runs level (slot-in header.clock level) in omega (arith, b)
  level-counted level false =
      let b = both-runs level (slot-in header.clock level) in
      let z : 0 / span held ≤ (shadow_of header level).len / span held = div-mono 0 (shadow_of header level).len (span held) (span-pos held) (omega arith) in
      omega (arith, b, z)

  counted-blocks : (level n : ℕ) → level + n ≤ bottom + 1 → blocks_above header held level + blocks_of held (counted_from header level n) ≤ blocks_above header held (level + n)
  counted-blocks level zero h = subst (λ (m : ℕ). blocks_above header held level + 0 ≤ blocks_above header held m) (let e : level ≡ level + 0 = omega arith in e) (omega arith)
  counted-blocks level (suc n) h =
      let r = counted-blocks (suc level) n (omega (arith, h)) in
      let m = level-more header held level in
      let k = level-counted level (is_over header.clock level) in
      subst (λ (x : ℕ). blocks_above header held level + blocks_of held (counted_from header level (suc n)) ≤ blocks_above header held x) (let e : suc level + n ≡ level + suc n = omega arith in e) (omega (arith, r, m, k))

  pub counted-stand_all : (runs : List LevelRuns) → runs ≡ counted_from header 0 (bottom + 1) → StandFrom 0 runs
  counted-stand_all runs is = subst (StandFrom 0) (sym is) (counted-stand 0 (bottom + 1))

  pub counted-all : (runs : List LevelRuns) → runs ≡ counted_from header 0 (bottom + 1) → blocks_of held runs ≤ all
  counted-all runs is =
      let c = counted-blocks 0 (bottom + 1) (omega arith) in
      let e = ap (blocks_of held) is in
      let f = ap (blocks_above header held) (let s : 0 + (bottom + 1) ≡ bottom + 1 = omega arith in s) in
      omega (arith, c, e, f)
