-- The lengths of runs, the marks of a filled file, and the cells of one row, put level by level from the bottom up.
use Rattle.std.proofs.Common.{◌≡◌, ℕ, zero, suc, ◌+◌, ◌-◌, ◌*◌, ◌/◌, ◌^◌, ◌<◌, ◌≤◌, List, [], ◌∷◌, ◌++◌, length, take, get_or, refl, sym, ap, subst, ◌∙◌, arith, ◌≢◌, inl, inr, ◌%◌, nat_lt, min, Option, Some, Result, Ok, add-one, rules}
use Rattle.std.proofs.lemmas.List.{take_more, get_or_append_left}
use Rattle.std.proofs.Math.Nat.{pow-le-pow_left, mul_comm, mul-le-mul_left, div-le_self, div-div-eq-div-mul, div-le_of_le-mul, pow-succ', div-mul-le_self, mul_assoc, div-eq_of_lt-le, mul-div-le, one-le-pow}
use Rattle.std.proofs.lemmas.Nat.{pow-add, pow_pos, le-div}
use Rattle.cola_cell.specs.Format.{stamp_limit}
use Rattle.cola_clock.specs.Marks.{AreLevelMarks, AreAllMarks}
use Rattle.cola_laws.proofs.Empty.{step-zero}
use Rattle.cola_layout.specs.declared.geometry.Geometry.{Geometry}
use Rattle.cola_layout.specs.declared.marks.Marks.{Marks}
use Rattle.cola_layout.specs.Header.{IsSound}
use Rattle.cola_layout.specs.Marks.{all_numbers, numbers_of, no_marks}
use Rattle.cola_load.specs.Filled.{run_len, filled_marks, marks_from, filled_header, Row, row_at, no_row, filled_cell}
use Rattle.std.proofs.lemmas.Bool.{lt-ltb, le-ltb, cases_lt, cases_eq}
use Rattle.std.proofs.lemmas.Bool.Decides.{nat_tests}
use Rattle.std.proofs.Math.Seq.{get_or-append_seam}
use Rattle.cola_outside.specs.Told.{Both}
use Rattle.cola_cell.specs.declared.cell.Cell.{Cell}
use Rattle.cola_cell.specs.Places.{slot_size}
use Rattle.cola_device.specs.declared.counts.Counts.{Counts}
use Rattle.cola_device.specs.declared.device.DeviceFault.{DeviceFault}
use Rattle.cola_device.specs.Counts.{Called}
use Rattle.cola_run.specs.Cells.{block_cells, block_bytes, device_levels}
use Rattle.cola_run.proofs.Spots.{choose-then, choose-else, both-so, both-two}
use Rattle.cola_load.specs.Loading.{Loading, SameRows, HasMore, HasCells, Puts, PutsRow, StaysInFront, standing_cell, len_amid, row_cell, full_below, full_blocks, filled_by}
use Rattle.cola_front.proofs.Writes.{called_two}

-- a power of eight is not zero
pub eight-some : (h : ℕ) → 0 < 8 ^ h
eight-some h = omega (arith, one-le-pow h 8 (omega arith))

-- a run is an eighth of the run below it
pub next-run : (rows h : ℕ) → run_len rows (suc h) ≡ run_len rows h / 8
next-run rows h =
    ap (λ (n : ℕ). rows / n) (pow-succ' 8 h ∙ mul_comm 8 (8 ^ h)) ∙ sym (div-div-eq-div-mul rows (8 ^ h) 8)

-- a run fits its slot
pub run-fits : (rows h j bottom : ℕ) → j + h ≡ bottom → rows ≤ 2 ^ (bottom + 2) → run_len rows h ≤ 2 ^ (j + 2)
run-fits rows h j bottom is few =
    let e : 2 ^ (j + 2 + h) ≡ 2 ^ (j + 2) * 2 ^ h = pow-add 2 (j + 2) h in
    let same : j + 2 + h ≡ bottom + 2 = omega (arith, is) in
    let top : 2 ^ (bottom + 2) ≡ 2 ^ (j + 2) * 2 ^ h = subst (λ (n : ℕ). 2 ^ n ≡ 2 ^ (j + 2) * 2 ^ h) same e in
    let more : 2 ^ (j + 2) * 2 ^ h ≤ 2 ^ (j + 2) * 8 ^ h = mul-le-mul_left (2 ^ (j + 2)) (pow-le-pow_left (let t : 2 ≤ 8 = omega arith in t) h) in
    div-le_of_le-mul (8 ^ h) (omega (arith, few, top, more, mul_comm (2 ^ (j + 2)) (8 ^ h)))

-- the marks of the levels of a filled file
pub marks-many : (rows h : ℕ) → length (marks_from rows h) ≡ h + 1
marks-many rows zero = refl
marks-many rows (suc h) = let e = marks-many rows h in omega (arith, e)

pub mark-at : (rows h k : ℕ) → k ≤ h → get_or (marks_from rows h) k no_marks ≡ filled_marks (run_len rows (h - k))
mark-at rows zero zero within = refl
mark-at rows zero (suc k) within = absurd (omega (arith, within))
mark-at rows (suc h) zero within = let e : suc h - 0 ≡ suc h = omega arith in ap (λ (n : ℕ). filled_marks (run_len rows n)) (sym e)
mark-at rows (suc h) (suc k) within =
    let e : suc h - suc k ≡ h - k = omega arith in
    mark-at rows h k (omega (arith, within)) ∙ ap (λ (n : ℕ). filled_marks (run_len rows n)) (sym e)

pub marks-more : (rows bottom k : ℕ) → k ≤ bottom → take k (marks_from rows bottom) ++ filled_marks (run_len rows (bottom - k)) ∷ [] ≡ take (k + 1) (marks_from rows bottom)
marks-more rows bottom k within =
    sym (take_more (marks_from rows bottom) k no_marks (omega (arith, marks-many rows bottom, within))
    ∙ ap (λ (m : Marks). take k (marks_from rows bottom) ++ m ∷ []) (mark-at rows bottom k within))

level-filled : (j above len : ℕ) (below : List Marks) → len ≤ 2 ^ (j + 2) → AreLevelMarks 0 0 j above (numbers_of (filled_marks len)) (all_numbers below)
level-filled j above len below fits = record {
  visible_fits = fits;
  shadow_fits = omega arith;
  first = λ _. record { empty = refl; at_rest = record { own_rests = refl; incoming_rests = refl; sampled_rests = refl } };
  before = λ _. record { empty = refl; at_rest = record { own_rests = refl; incoming_rests = refl; sampled_rests = refl } };
  inside = λ _ _. record {
    own_within = omega arith;
    incoming_within = omega arith;
    sampled_within = omega arith;
    enough = (let z = step-zero j in omega (arith, z));
    sampled_done = omega arith;
    done_consumed = omega arith;
  };
  after = λ _. record { own_rests = refl; incoming_rests = refl; sampled_rests = refl };
}

filled-from : (rows j h above bottom : ℕ) → j + h ≡ bottom → rows ≤ 2 ^ (bottom + 2) → AreAllMarks 0 0 j above (all_numbers (marks_from rows h))
filled-from rows j zero above bottom is few = (level-filled j above (run_len rows zero) [] (run-fits rows zero j bottom is few), tt)
filled-from rows j (suc h) above bottom is few = (
  level-filled j above (run_len rows (suc h)) (marks_from rows h) (run-fits rows (suc h) j bottom is few),
  filled-from rows (suc j) h (run_len rows (suc h)) bottom (omega (arith, is)) few,
)

-- the header of a filled file keeps the rules of headers
pub filled-sound-header : (geometry : Geometry) (last many : ℕ) → last ≤ stamp_limit geometry.format → many ≤ geometry.keys → IsSound (filled_header geometry last many)
filled-sound-header geometry last many within few = record {
  keys_in_range = geometry.keys_in_range;
  bottom_fits = geometry.bottom_fits;
  block_fits = geometry.block_fits;
  count_fits = few;
  clock_fits = pow_pos (geometry.bottom + 1);
  last_fits = within;
  one_each = marks-many many geometry.bottom;
  marks_fit = filled-from many 0 geometry.bottom 0 geometry.bottom (omega arith) (omega (arith, few, geometry.bottom_fits.holds));
}

-- ---- the cells of one row, put level by level from the bottom up

-- the levels that have a cell more where a row is added to so many, up to a height, by the index of the last
pub record IsExact (rows height index : ℕ) : Type 0 where
  pub old : run_len rows height ≡ index
  pub new : run_len (rows + 1) height ≡ index + 1

pub exact-of : (rows height index : ℕ) → 8 ^ height * (index + 1) ≡ rows + 1 → IsExact rows height index
exact-of rows height index is =
    let e : 8 ^ height * (index + 1) ≡ (index + 1) * 8 ^ height = mul_comm (8 ^ height) (index + 1) in
    let some = eight-some height in
    let one : (index + 1) * 8 ^ height ≡ index * 8 ^ height + 8 ^ height = omega arith in
    let two : (index + 1 + 1) * 8 ^ height ≡ index * 8 ^ height + 8 ^ height + 8 ^ height = omega arith in
    record {
      old = div-eq_of_lt-le {k = index} (8 ^ height) {m = rows} (omega (arith, e, is, one, some)) (omega (arith, e, is, one, some));
      new = div-eq_of_lt-le {k = index + 1} (8 ^ height) {m = rows + 1} (omega (arith, e, is, one)) (omega (arith, e, is, one, two, some));
    }

-- the step to the next level up
pub exact-next : (rows height index : ℕ) → 8 ^ height * (index + 1) ≡ rows + 1 → (index + 1) % 8 ≡ 0 → 8 ^ (height + 1) * (index / 8 + 1) ≡ rows + 1
exact-next rows height index is whole =
    let up : 8 * (index / 8 + 1) ≡ index + 1 = omega (arith, whole) in
    ap (λ (n : ℕ). n * (index / 8 + 1)) (ap (λ (n : ℕ). 8 ^ n) (add-one height) ∙ pow-succ' 8 height ∙ mul_comm 8 (8 ^ height))
    ∙ mul_assoc (8 ^ height) 8 (index / 8 + 1)
    ∙ ap (λ (n : ℕ). 8 ^ height * n) up ∙ is

-- runs above two that are as long
same-runs : (a b k h : ℕ) → run_len a k ≡ run_len b k → k ≤ h → run_len a h ≡ run_len b h
same-runs a b k zero e within = let z : k ≡ 0 = omega (arith, within) in subst (λ (n : ℕ). run_len a n ≡ run_len b n) z e
same-runs a b k (suc h) e within = elim (cases_eq k (suc h)) [
  | inl is ↦ subst (λ (n : ℕ). run_len a n ≡ run_len b n) is e
  | inr apart ↦ next-run a h ∙ ap (λ (n : ℕ). n / 8) (same-runs a b k h e (omega (arith, within, apart))) ∙ sym (next-run b h)
]

-- lengths amid
pub amid-below : (rows done height : ℕ) → height < done → len_amid rows done height ≡ run_len (rows + 1) height
amid-below rows done height h = choose-then (nat_lt height done) (run_len (rows + 1) height) (run_len rows height) (lt-ltb height done h)

amid-above : (rows done height : ℕ) → done ≤ height → len_amid rows done height ≡ run_len rows height
amid-above rows done height h = choose-else (nat_lt height done) (run_len (rows + 1) height) (run_len rows height) (le-ltb height done h)

amid-same : (rows k height : ℕ) → height ≢ k → len_amid rows (k + 1) height ≡ len_amid rows k height
amid-same rows k height apart = elim (cases_lt height k) [
  | inl below ↦ amid-below rows (k + 1) height (omega (arith, below)) ∙ sym (amid-below rows k height below)
  | inr above ↦ amid-above rows (k + 1) height (omega (arith, above, apart)) ∙ sym (amid-above rows k height above)
]

-- where no level above gets a cell
pub amid-whole : (rows k index : ℕ) → IsExact rows k index → ((index + 1) % 8 ≡ 0 → ⊥) → (height : ℕ) → len_amid rows (k + 1) height ≡ run_len (rows + 1) height
amid-whole rows k index exact rest height = elim (cases_lt height (k + 1)) [
  | inl below ↦ amid-below rows (k + 1) height below
  | inr above ↦
      let same : index / 8 ≡ (index + 1) / 8 = omega (arith, rest) in
      amid-above rows (k + 1) height above
      ∙ same-runs rows (rows + 1) (suc k) height
      (next-run rows k ∙ ap (λ (n : ℕ). n / 8) exact.old ∙ same ∙ ap (λ (n : ℕ). n / 8) (sym exact.new) ∙ sym (next-run (rows + 1) k)) (omega (arith, above))
]

-- rows behind which one was added
row-last : (rows : List Row) (row : Row) (i : ℕ) → i ≡ length rows → row_at (rows ++ row ∷ []) i ≡ row
row-last rows row i e = ap (λ (n : ℕ). row_at (rows ++ row ∷ []) n) e ∙ get_or-append_seam rows row [] no_row

filled-before : (rows : List Row) (row : Row) (height i : ℕ) → i < run_len (length rows) height → filled_cell (rows ++ row ∷ []) height i ≡ filled_cell rows height i
filled-before rows row zero i h =
    let d : length rows / 1 ≡ length rows = omega arith in ap (λ (r : Row). row_cell r zero i) (get_or_append_left rows (row ∷ []) no_row i (omega (arith, h, d)))
filled-before rows row (suc height) i h =
    let m : 8 ^ suc height * (length rows / 8 ^ suc height) ≤ length rows = mul-div-le (length rows) (8 ^ suc height) in
    let more : 8 ^ suc height * suc i ≤ 8 ^ suc height * (length rows / 8 ^ suc height) = mul-le-mul_left (8 ^ suc height) h in
    let one : 8 ^ suc height * suc i ≡ 8 ^ suc height * i + 8 ^ suc height = omega arith in
    ap (λ (r : Row). row_cell r (suc height) i) (get_or_append_left rows (row ∷ []) no_row (8 ^ suc height * suc i - 1) (omega (arith, m, more, eight-some (suc height), one)))

filled-last : (rows : List Row) (row : Row) (height index : ℕ) → 8 ^ height * (index + 1) ≡ length rows + 1 → filled_cell (rows ++ row ∷ []) height index ≡ row_cell row height index
filled-last rows row zero index is = ap (λ (r : Row). row_cell r zero index) (row-last rows row index (let o : 8 ^ 0 ≡ 1 = refl in omega (arith, is)))
filled-last rows row (suc height) index is =
    let s : 8 ^ suc height * suc index ≡ 8 ^ suc height * (index + 1) = ap (λ (n : ℕ). 8 ^ suc height * n) (sym (add-one index)) in
    ap (λ (r : Row). row_cell r (suc height) index) (row-last rows row (8 ^ suc height * suc index - 1) (omega (arith, is, s)))

-- the cells of a row are put up to a height, where those of the rows before it were there
abbrev pub PutsAmid : Loading → Loading → Row → ℕ → List ℕ → List ℕ → Type 0
PutsAmid old new row done x y = (rows : List Row) → length rows ≡ old.rows → HasCells old (run_len old.rows) rows x → HasCells new (len_amid old.rows done) (rows ++ row ∷ []) y

pub amid-begin : (loading : Loading) (row : Row) (x : List ℕ) → PutsAmid loading loading row 0 x x
amid-begin loading row x rows many cells height index low within =
    let n = loading.rows in
    let e : len_amid n 0 height ≡ run_len n height = amid-above n 0 height (omega arith) in
    let inside : index < run_len n height = subst (λ (m : ℕ). index < m) e within in
    ap (λ (m : ℕ). standing_cell loading x m (loading.geometry.bottom - height) index) e
    ∙ cells height index low inside
    ∙ ap (λ (c : Cell). Some c) (sym (filled-before rows row height index (subst (λ (m : ℕ). index < run_len m height) (sym many) inside)))

-- one level more
pub amid-next : (old new next : Loading) (row : Row) (k index : ℕ) (x y z : List ℕ) → SameRows old new → SameRows new next → old.rows + 1 ≤ 2 ^ (old.geometry.bottom + 2) → k ≤ old.geometry.bottom
    → 8 ^ k * (index + 1) ≡ old.rows + 1 → PutsAmid old new row k x y → HasMore new next (old.geometry.bottom - k) index (row_cell row k index) y z → PutsAmid old next row (k + 1) x z
amid-next old new next row k index x y z first second few low_k is cells more rows many held height i low within =
    let n = old.rows in
    let bottom = old.geometry.bottom in
    let one : new.geometry.bottom ≡ bottom = ap (λ (g : Geometry). g.bottom) first.geometry in
    let two : next.geometry.bottom ≡ bottom = ap (λ (g : Geometry). g.bottom) second.geometry ∙ one in
    let exact = exact-of n k index is in
    let low_h : height ≤ bottom = omega (arith, low, two) in
    let before : (j : ℕ) → j < len_amid n k height → standing_cell new y (len_amid n k height) (bottom - height) j ≡ Some (filled_cell (rows ++ row ∷ []) height j) =
    λ j inside. ap (λ (b : ℕ). standing_cell new y (len_amid n k height) (b - height) j) (sym one) ∙ cells rows many held height j (omega (arith, low_h, one)) inside in
    ap (λ (b : ℕ). standing_cell next z (len_amid n (k + 1) height) (b - height) i) two
    ∙ elim (cases_eq height k) [
      | inl here ↦
          let len : len_amid n (k + 1) height ≡ index + 1 = amid-below n (k + 1) height (omega (arith, here)) ∙ ap (λ (h : ℕ). run_len (n + 1) h) here ∙ exact.new in
          let was : len_amid n k height ≡ index = amid-above n k height (omega (arith, here)) ∙ ap (λ (h : ℕ). run_len n h) here ∙ exact.old in
          let level : bottom - height ≡ bottom - k = ap (λ (h : ℕ). bottom - h) here in
          ap (λ (m : ℕ). standing_cell next z m (bottom - height) i) len
          ∙ ap (λ (l : ℕ). standing_cell next z (index + 1) l i) level
          ∙ elim (cases_eq i index) [
            | inl last ↦
                ap (λ (j : ℕ). standing_cell next z (index + 1) (bottom - k) j) last ∙ more.is
                ∙ ap (λ (c : Cell). Some c) (sym (filled-last rows row k index (is ∙ ap (λ (m : ℕ). m + 1) (sym many))))
                ∙ ap (λ (h : ℕ). Some (filled_cell (rows ++ row ∷ []) h index)) (sym here) ∙ ap (λ (j : ℕ). Some (filled_cell (rows ++ row ∷ []) height j)) (sym last)
            | inr other ↦
                let under : i < index = omega (arith, within, len, other) in
                more.same i under
                ∙ ap (λ (l : ℕ). standing_cell new y index l i) (sym level)
                ∙ ap (λ (m : ℕ). standing_cell new y m (bottom - height) i) (sym was)
                ∙ before i (omega (arith, under, was))
          ]
      | inr apart ↦
          let len = amid-same n k height apart in
          let inside : i < len_amid n k height = subst (λ (m : ℕ). i < m) len within in
          let most : run_len (n + 1) height ≤ slot_size (bottom - height) = run-fits (n + 1) height (bottom - height) bottom (omega (arith, low_h)) few in
          let least : run_len n height ≤ slot_size (bottom - height) = run-fits n height (bottom - height) bottom (omega (arith, low_h)) (omega (arith, few)) in
          let fits : len_amid n k height ≤ slot_size (bottom - height) = grind (arith, nat_tests) in
          ap (λ (m : ℕ). standing_cell next z m (bottom - height) i) len
          ∙ more.others (bottom - height) i (len_amid n k height) (omega (arith, one)) (λ e. omega (arith, e, apart, low_h, low_k)) (omega (arith, inside, fits))
          ∙ before i inside
    ]

-- ---- what a row writes

pub div-up : (a b n : ℕ) → 0 < n → a ≤ b → a / n ≤ b / n
div-up a b n some h = le-div (a / n) b n some (let s = div-mul-le_self a n in omega (arith, s, h))

pub below-rise : (g : Geometry) (rows more k : ℕ) → rows ≤ more → full_below g rows k ≤ full_below g more k
below-rise g rows more zero h = omega arith
below-rise g rows more (suc k) h =
    let d : run_len rows k / block_cells g ≤ run_len more k / block_cells g = div-up (run_len rows k) (run_len more k) (block_cells g) (pow_pos g.block_exp) (div-up rows more (8 ^ k) (eight-some k) h) in
    omega (arith, below-rise g rows more k h, d)

-- how many blocks the cells of one row more fill, of so many levels from the bottom on
abbrev pub row_fills : Geometry → ℕ → ℕ → ℕ
row_fills g n k = full_below g (n + 1) (min k (device_levels g)) - full_below g n (min k (device_levels g))

-- for one row more the levels up to one fill no more than those up to a higher one
fills-rise : (g : Geometry) (n k m : ℕ) → k ≤ m → full_below g (n + 1) k - full_below g n k ≤ full_below g (n + 1) m - full_below g n m
fills-rise g n k zero h = let e : k ≡ 0 = omega (arith, h) in rw e (omega arith)
fills-rise g n k (suc m) h = elim (cases_eq k (suc m)) [
  | inl is ↦ subst (λ (j : ℕ). full_below g (n + 1) j - full_below g n j ≤ full_below g (n + 1) (suc m) - full_below g n (suc m)) (sym is) (omega arith)
  | inr apart ↦
      let d = div-up (run_len n m) (run_len (n + 1) m) (block_cells g) (pow_pos g.block_exp) (div-up n (n + 1) (8 ^ m) (eight-some m) (omega arith)) in
      omega (arith, fills-rise g n k m (omega (arith, h, apart)), below-rise g n (n + 1) m (omega arith), d)
]

-- a level more
pub row_fills-next : (g : Geometry) (n k index : ℕ) → k ≤ g.bottom → IsExact n k index → row_fills g n k + filled_by g (g.bottom - k) index ≤ row_fills g n (k + 1)
row_fills-next g n k index low exact = let f : ℕ → ℕ = λ m. full_below g (n + 1) m - full_below g n m in elim (cases_lt (g.bottom - k + 2) g.block_exp) [
  | inl front ↦
      let none : filled_by g (g.bottom - k) index ≡ 0 = choose-then (nat_lt (g.bottom - k + 2) g.block_exp) 0 ((index + 1) / block_cells g - index / block_cells g) (lt-ltb (g.bottom - k + 2) g.block_exp front) in
      let all : min k (device_levels g) ≡ min (k + 1) (device_levels g) = omega (arith, front, low) in
      omega (arith, none, ap f all)
  | inr device ↦
      let one : filled_by g (g.bottom - k) index ≡ (index + 1) / block_cells g - index / block_cells g =
      choose-else (nat_lt (g.bottom - k + 2) g.block_exp) 0 ((index + 1) / block_cells g - index / block_cells g) (le-ltb (g.bottom - k + 2) g.block_exp device) in
      let a : min k (device_levels g) ≡ k = omega (arith, device, low) in
      let b : min (k + 1) (device_levels g) ≡ suc k = omega (arith, device, low) in
      let d : index / block_cells g ≤ (index + 1) / block_cells g = div-up index (index + 1) (block_cells g) (pow_pos g.block_exp) (omega arith) in
      omega (arith, one, ap f a, ap f b, ap (λ (m : ℕ). m / block_cells g) exact.old, ap (λ (m : ℕ). m / block_cells g) exact.new, d, below-rise g n (n + 1) k (omega arith))
]

-- a call that is allowed more
pub called-within : {T E : Type 0} (result : Result T E) (before now : Counts) (reads writes others more : ℕ) → writes ≤ more → Called before now reads writes others result → Called before now reads more others result
called-within result before now reads writes others more h c = search rules

-- ---- the loop over the levels

-- the levels up to a height are done
pub record IsRowed {D K : Type 0} (bytes : D → Option (List ℕ)) (counts : D → Counts) (kept : D → K) (old new : Loading) (before now : D) (row : Row) (done index : ℕ) : Type 0 where
  pub exact : 8 ^ done * (index + 1) ≡ old.rows + 1
  pub stays : SameRows old new
  pub cells : Both (bytes before) (bytes now) (PutsAmid old new row done)
  pub front : Both (bytes before) (bytes now) (StaysInFront old.geometry)
  pub kept_stays : kept now ≡ kept before
  pub called : Called {T = Unit {0}} {E = DeviceFault} (counts before) (counts now) 0 (row_fills old.geometry old.rows done) 0 (Ok (tt {0}))

-- all levels are done
pub done-told : {T : Type 0} (E : Type 0) (value : T) (old new : Loading) (row : Row) (k : ℕ) (a b : Option (List ℕ)) → new.geometry ≡ old.geometry → ((height : ℕ) → height ≤ old.geometry.bottom → len_amid old.rows k height ≡ run_len (old.rows + 1) height)
    → Both a b (PutsAmid old new row k) → Both a b (PutsRow {T = T} {E = E} (Ok value) old new row)
done-told {T} E value old new row k a b geometry whole h =
    both-so a b (PutsAmid old new row k) (PutsRow {T = T} {E = E} (Ok value) old new row) (λ x y cells rows many held height index low within.
    let b : new.geometry.bottom ≡ old.geometry.bottom = ap (λ (g : Geometry). g.bottom) geometry in
    let e = whole height (omega (arith, low, b)) in
    ap (λ (m : ℕ). standing_cell new y m (new.geometry.bottom - height) index) (sym e) ∙ cells rows many held height index low (subst (λ (m : ℕ). index < m) (sym e) within)) h

pub index-small : (old : Loading) (k index : ℕ) → old.rows < old.geometry.keys → 8 ^ k * (index + 1) ≡ old.rows + 1 → index < 2 ^ 24
index-small old k index few is =
    omega (arith, div-le_self old.rows (8 ^ k), (exact-of old.rows k index is).old, few, old.geometry.keys_in_range.few)

-- one level is put
module _ {D K : Type 0} {bytes : D → Option (List ℕ)} {counts : D → Counts} {kept : D → K} {first old here new : Loading} {before now : D} {row : Row} {k index top : ℕ} (first-is : first ≡ old) (here-is : here ≡ new)
    (under : k < top) (top-is : top ≡ first.geometry.bottom + 1) (rowed : IsRowed bytes counts kept old new before now row k index) (few : old.rows < old.geometry.keys) where
  low : k ≤ old.geometry.bottom
  low = let e : first.geometry.bottom ≡ old.geometry.bottom = ap (λ (z : Loading). z.geometry.bottom) first-is in omega (arith, under, top-is, e)

  level-is : here.geometry.bottom - k ≡ old.geometry.bottom - k
  level-is = ap (λ (z : Loading). z.geometry.bottom - k) here-is ∙ ap (λ (g : Geometry). g.bottom - k) rowed.stays.geometry

  -- its index is within its slot
  pub next-index : index < slot_size (here.geometry.bottom - k)
  next-index = omega (arith, run-fits (old.rows + 1) k (here.geometry.bottom - k) old.geometry.bottom (omega (arith, low, level-is)) (omega (arith, few, old.geometry.bottom_fits.holds)), (exact-of old.rows k index rowed.exact).new)

  module _ {next : Loading} {cell : Cell} (cell_is : cell ≡ row_cell row k index) (stays : SameRows new next) (after : D) where
    next-called : {T : Type 0} {result : Result T DeviceFault} → Called (counts now) (counts after) 0 (filled_by new.geometry (here.geometry.bottom - k) index) 0 result
        → Called (counts before) (counts after) 0 (row_fills old.geometry old.rows (k + 1)) 0 result
    next-called {result} c =
        let at : Called (counts now) (counts after) 0 (filled_by old.geometry (old.geometry.bottom - k) index) 0 result = rw (rowed.stays.geometry, level-is) at c in
        called-within result (counts before) (counts after) 0 (row_fills old.geometry old.rows k + filled_by old.geometry (old.geometry.bottom - k) index) 0 (row_fills old.geometry old.rows (k + 1))
        (row_fills-next old.geometry old.rows k index low (exact-of old.rows k index rowed.exact))
        (called_two (tt {0}) result (counts before) (counts now) (counts after) 0 (row_fills old.geometry old.rows k) 0 0 (filled_by old.geometry (old.geometry.bottom - k) index) 0 rowed.called at)

    pub next-called-all : {T : Type 0} {result : Result T DeviceFault} → Called (counts now) (counts after) 0 (filled_by new.geometry (here.geometry.bottom - k) index) 0 result
        → Called (counts before) (counts after) 0 (full_blocks old.geometry (old.rows + 1) - full_blocks old.geometry old.rows) 0 result
    next-called-all {result} c =
        called-within result (counts before) (counts after) 0 (row_fills old.geometry old.rows (k + 1)) 0 (full_blocks old.geometry (old.rows + 1) - full_blocks old.geometry old.rows)
        (fills-rise old.geometry old.rows (min (k + 1) (device_levels old.geometry)) (device_levels old.geometry) (omega arith)) (next-called c)

    abbrev IsPut : {T : Type 0} → T → Type 0
    IsPut {T} value = Both (bytes now) (bytes after) (Puts {T = T} {E = DeviceFault} (Ok value) new next (here.geometry.bottom - k) index cell)

    next-cells : {T : Type 0} (value : T) → IsPut value → Both (bytes before) (bytes after) (PutsAmid old next row (k + 1))
    next-cells value puts =
        both-two (bytes before) (bytes now) (bytes after) _ _ _ (λ x y z. amid-next old new next row k index x y z rowed.stays stays (omega (arith, few, old.geometry.bottom_fits.holds)) low rowed.exact) rowed.cells
        (rw (level-is, cell_is) at puts)

    pub next-done : {T : Type 0} (value : T) → ((index + 1) % 8 ≡ 0 → ⊥) → IsPut value → Both (bytes before) (bytes after) (PutsRow {T = T} {E = DeviceFault} (Ok value) old next row)
    next-done value rest puts =
        done-told DeviceFault value old next row (k + 1) (bytes before) (bytes after) (stays.geometry ∙ rowed.stays.geometry)
        (λ height low_h. amid-whole old.rows k index (exact-of old.rows k index rowed.exact) rest height) (next-cells value puts)

    pub next-rowed : (value : Unit {0}) → (index + 1) % 8 ≡ 0 → IsPut value → Both (bytes now) (bytes after) (StaysInFront new.geometry) → kept after ≡ kept now
        → Called {T = Unit {0}} {E = DeviceFault} (counts now) (counts after) 0 (filled_by new.geometry (here.geometry.bottom - k) index) 0 (Ok value)
        → IsRowed bytes counts kept old next before after row (k + 1) (index / 8)
    next-rowed value whole puts front keeps called = record {
      exact = exact-next old.rows k index rowed.exact whole;
      stays = (let was = rowed.stays in record { geometry = stays.geometry ∙ was.geometry; last = stays.last ∙ was.last; rows = stays.rows ∙ was.rows; key = stays.key ∙ was.key });
      cells = next-cells value puts;
      front = both-two (bytes before) (bytes now) (bytes after) _ _ _ (λ x y z was stay. record {
        size_stays = stay.size_stays ∙ was.size_stays;
        front_stays = subst (λ (g : Geometry). take (2 * block_bytes g) z ≡ take (2 * block_bytes g) y) rowed.stays.geometry stay.front_stays ∙ was.front_stays;
      }) rowed.front front;
      kept_stays = keeps ∙ rowed.kept_stays;
      called = next-called called;
    }
