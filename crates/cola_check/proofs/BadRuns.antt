-- The lowest bad cell of the runs of a file, and how many cells the runs have.
use Rattle.std.proofs.Common.{◌≡◌, ℕ, ◌+◌, ◌<◌, false, Option, None, Some, refl, subst, arith, below_more, inl, inr, zero, suc, ◌-◌, ◌*◌, ◌^◌, ◌≤◌, ◌==◌, if◌then◌else◌, length, Result, Ok, Err, IfOk, sym, ap, ◌∙◌}
use Rattle.cola_check.proofs.Common.{cases_order, Run, Held, Spot, Untold, Bad, Told, Tells, HasPlace, IsTelling, is_untold, IsBad, IsTold, AreTold, ReadFault, number_of, slot_size, visible_slot, marks-each, Header, all_numbers}
use Rattle.cola_check.proofs.Common.{numbers-length, place-from, place-below, next_power, power-le, HasRun, by_bool, run_len, IsLowestBad, FindsOne, FindsIn, FindsAt, AreRunsTold, IsFirstAt, FindsCell, level_cells, cells_above}
use Rattle.cola_check.proofs.Common.{all_cells, tested_by, numbers_at, run_in, IsRunTold}

-- ---- one more place of a run

place-of : (held : Held) (run : Run) (index : ℕ) → HasRun held run → index < run.len → HasPlace held run.level run.slot index
place-of held run index r l = record { level_in = r.level_in; slot_in = r.slot_in; index_in = (let w = r.within in omega (arith, w, l)) }

is-bad : (spot : Spot) → is_untold spot ≡ false → Tells spot Bad → spot ≡ Bad
is-bad Untold u t = cc
is-bad Bad u t = refl
is-bad (Told c) u t = t

module _ (held mid : Held) (run : Run) (index : ℕ) (found : Option ℕ) where
  -- the places up to it are told, and so is this one
  pub told-on : HasRun held run → index < run.len → mid ≡ held → found ≡ None → FindsOne mid run index found → (IsTelling held → AreTold (held.spots run.level run.slot) index) →
      IsTelling held → AreTold (held.spots run.level run.slot) (index + 1)
  told-on r l stays none f told t =
      let here : FindsOne held run index None = subst (FindsOne held run index) none (subst (λ (h : Held). FindsOne h run index found) stays f) in
      below_more (λ (i : ℕ). IsTold (held.spots run.level run.slot i)) index (told t) (here (t run.level run.slot index (place-of held run index r l)))

  -- it is bad
  pub finds-bad : (number : ℕ) → HasRun held run → index < run.len → mid ≡ held → found ≡ Some number → FindsOne mid run index found → (IsTelling held → AreTold (held.spots run.level run.slot) index) →
      FindsIn held run (Some number)
  finds-bad number r l stays some f told =
      let bad : IsBad held run.level run.slot index number = subst (FindsOne held run index) some (subst (λ (h : Held). FindsOne h run index found) stays f) in (
        record { index = index; within = l; bad = bad },
        λ t. record {
          index = index;
          within = l;
          bad = is-bad (held.spots run.level run.slot index) (t run.level run.slot index (place-of held run index r l)) bad.told;
          number_is = bad.number_is;
          before = told t;
        },
      )

-- ---- all runs

module _ (header : Header) where
  -- there are marks for each level
  pub level-in : (level : ℕ) → level ≤ header.geometry.bottom → level < length (all_numbers header.levels.items)
  level-in level low = let size = numbers-length header.levels.items in let one = header.one_each in omega (arith, size, one, low)

  pub level-low : (level : ℕ) → level < length (all_numbers header.levels.items) → level ≤ header.geometry.bottom
  level-low level h = let size = numbers-length header.levels.items in let one = header.one_each in omega (arith, size, one, h)

  -- a run fits its slot
  pub run-fits : (level slot : ℕ) → level ≤ header.geometry.bottom → (run_in header level slot).len ≤ slot_size level
  run-fits level slot low =
      let m = marks-each header.clock (all_numbers header.levels.items) header.marks_fit level (level-in level low) in
      by_bool (λ t. (if t then (numbers_at header level).visible else (numbers_at header level).shadow) ≤ slot_size level) m.visible_fits m.shadow_fits (slot == visible_slot header.clock level)

  -- ---- how many cells they are

  few-above : (levels : ℕ) → levels ≤ header.geometry.bottom + 1 → cells_above header levels ≤ 2 ^ (levels + 3)
  few-above zero h = omega arith
  few-above (suc level) h =
      let rest : cells_above header level ≤ 2 ^ (level + 3) = few-above level (omega (arith, h)) in
      let first : (run_in header level 0).len ≤ 2 ^ (level + 2) = run-fits level 0 (omega (arith, h)) in
      let second : (run_in header level 1).len ≤ 2 ^ (level + 2) = run-fits level 1 (omega (arith, h)) in
      let half : 2 ^ (level + 3) ≡ 2 ^ (level + 2) + 2 ^ (level + 2) = next_power (level + 2) (level + 3) (omega arith) in
      let whole : 2 ^ (suc level + 3) ≡ 2 ^ (level + 3) + 2 ^ (level + 3) = next_power (level + 3) (suc level + 3) (omega arith) in
      omega (arith, rest, first, second, half, whole)

  pub few_cells : all_cells header ≤ 2 ^ (header.geometry.bottom + 4)
  few_cells =
      let e : header.geometry.bottom + 1 + 3 ≡ header.geometry.bottom + 4 = omega arith in
      subst (λ (n : ℕ). all_cells header ≤ 2 ^ n) e (few-above (header.geometry.bottom + 1) (omega arith))

  grow-by : (level more : ℕ) → cells_above header level ≤ cells_above header (more + level)
  grow-by level zero = subst (λ (n : ℕ). cells_above header level ≤ cells_above header n) (let e : level ≡ 0 + level = omega arith in e) (omega arith)
  grow-by level (suc more) =
      let rest = grow-by level more in
      subst (λ (n : ℕ). cells_above header level ≤ cells_above header n) (let e : suc (more + level) ≡ suc more + level = omega arith in e) (omega (arith, rest))

  -- those of the levels above one and of itself are among them
  pub some-cells : (level : ℕ) → level ≤ header.geometry.bottom → cells_above header level + level_cells header level ≤ all_cells header
  some-cells level low =
      let e : header.geometry.bottom - level + suc level ≡ header.geometry.bottom + 1 = omega (arith, low) in
      subst (λ (n : ℕ). cells_above header (suc level) ≤ cells_above header n) e (grow-by (suc level) (header.geometry.bottom - level))

  -- ---- what was found

  module _ (held : Held) where
    told-both : (level slot : ℕ) → slot < 2 → IsRunTold held (run_in header level 0) → IsRunTold held (run_in header level 1) → IsRunTold held (run_in header level slot)
    told-both level zero h a b = a
    told-both level (suc zero) h a b = b
    told-both level (suc (suc slot)) h a b = absurd (omega (arith, h))

    -- of the second run of a level, where there is none in the first
    pub level-finds : (level : ℕ) (found : Option ℕ) → FindsIn held (run_in header level 0) None → FindsIn held (run_in header level 1) found → FindsAt header held level found
    level-finds level None first second = λ t slot h. told-both level slot h (first t) (second t)
    level-finds level (Some number) first second = (
      record { slot = 1; slot_in = omega arith; bad = second.0 },
      λ t. record {
        slot = 1;
        slot_in = omega arith;
        first = second.1 t;
        before = λ s h. subst (λ (x : ℕ). IsRunTold held (run_in header level x)) (let z : 0 ≡ s = omega (arith, h) in z) (first t);
      },
    )

    -- the first bad cell of a level is the lowest, where all above it is told
    lowest-at : (level number : ℕ) → level ≤ header.geometry.bottom → ((l : ℕ) → l < level → AreRunsTold header held l) → IsFirstAt header held level number → IsLowestBad (tested_by header held) level number
    lowest-at level number low above f = record {
      slot = f.slot;
      index = f.first.index;
      place = record { level_in = level-in level low; slot_in = f.slot_in; within = f.first.within };
      bad = f.first.bad;
      number_is = f.first.number_is;
      lowest = λ l s i place below. elim (cases_order l level) [
        | inl same ↦ subst (λ (x : ℕ). IsTold (held.spots x s i)) (sym same)
            (here s i place.slot_in (let w = place.within in subst (λ (x : ℕ). i < run_len (tested_by header held) x s) same w) (subst (λ (x : ℕ). number_of x s i < number) same below))
        | inr other ↦ elim other [
          | inl less ↦ above l less s place.slot_in i place.within
          | inr more ↦ absurd (
              let most = run-fits level f.slot low in
              let end : number_of level f.slot f.first.index < 2 ^ (level + 4) = place-below level f.slot f.first.index (omega (arith, f.slot_in)) (omega (arith, f.first.within, most)) in
              let begin : 2 ^ (l + 3) ≤ number_of l s i = place-from l s i in
              let grow : 2 ^ (level + 4) ≤ 2 ^ (l + 3) = power-le (level + 4) (l + 3) (omega (arith, more)) in
              omega (arith, below, f.first.number_is, end, begin, grow))
        ]
      ];
    }
      where
        here : (s i : ℕ) → s < 2 → i < (run_in header level s).len → number_of level s i < number → IsTold (held.spots level s i)
        here s i its within below =
            let at = f.first.number_is in
            let mine = f.slot_in in
            elim (cases_order s f.slot) [
              | inl same ↦
                  let e : number ≡ number_of level s f.first.index = at ∙ ap (λ (x : ℕ). number_of level x f.first.index) (sym same) in
                  subst (λ (x : ℕ). IsTold (held.spots level x i)) (sym same) (f.first.before i (omega (arith, below, e)))
              | inr other ↦ elim other [
                | inl less ↦ f.before s less i within
                | inr more ↦ absurd (
                    let zero : f.slot ≡ 0 = omega (arith, more, its) in
                    let one : s ≡ 1 = omega (arith, more, its) in
                    let most = run-fits level f.slot low in
                    let e : number ≡ (2 + 0) * slot_size level + f.first.index = at ∙ ap (λ (x : ℕ). number_of level x f.first.index) zero in
                    let g : number_of level s i ≡ (2 + 1) * slot_size level + i = ap (λ (x : ℕ). number_of level x i) one in
                    omega (arith, below, e, g, f.first.within, most))
              ]
            ]

    -- what was found at a level is what was found of the file
    pub file-finds : (level number : ℕ) → level ≤ header.geometry.bottom → (IsTelling held → (l : ℕ) → l < level → AreRunsTold header held l) → FindsAt header held level (Some number) → FindsCell header held (Some (level, number))
    file-finds level number low above finds = (low, finds.0, λ t. lowest-at level number low (above t) (finds.1 t))

-- the same over an equal object and runs
pub level-answers : (header : Header) (held between : Held) (level : ℕ) (first second : Run) (found : Option ℕ) (answer : Result (Option ℕ) ReadFault) → between ≡ held → first ≡ run_in header level 0 → second ≡ run_in header level 1 → found ≡ None →
    FindsIn held first found → IfOk answer (FindsIn between second) → IfOk answer (FindsAt header held level)
level-answers header held between level first second found (Err fault) same a b none h k = tt
level-answers header held between level first second found (Ok answer) same a b none h k =
    level-finds header held level answer (subst (λ (x : Option ℕ). FindsIn held (run_in header level 0) x) none (subst (λ (r : Run). FindsIn held r found) a h))
    (subst (λ (r : Run). FindsIn held r answer) b (subst (λ (x : Held). FindsIn x second answer) same k))
