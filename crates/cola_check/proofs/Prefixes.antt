-- The tests of the visible runs: what is known of the first cells of a run, its sample, and the first flaws of levels.
use Rattle.std.proofs.Common.{◌≡◌, ℕ, suc, ◌+◌, ◌*◌, true, false, List, [], ◌∷◌, ◌++◌, length, take, slice_get, Option, None, Some, refl, sym, ap, subst, ◌∙◌, arith, Less, Ordering, length-append, ◌↔◌, ◌/◌, ◌<◌, ◌≤◌, min, IsTrue}
use Rattle.std.proofs.Common.{Bool, if◌then◌else◌, below_more, inl, inr, ◌^◌, Result, Ok, Err, IfOk, IfErr, option_map, option_to_list, take_all, append-nil, append_assoc, IfSome}
use Rattle.cola_check.proofs.Common.{IsTotalOrder, AllByRecursion, IsStrictlySortedBy, option_or, take-append_seam, take-append-le, slice_get_past, cases_lt, transport, Entry, Look, place_cmp, link_of, look_keys, count_looks}
use Rattle.cola_check.proofs.Common.{sample, IsRising, IsLinked, IsOldValue, place_total, all_append, visibles, Stamped, LawCell, as_cell, Held, Spot, key_cmp, Run, IsGiven, given_is_told, cell_at, cells, run_cells, length-cells}
use Rattle.cola_check.proofs.Common.{get-cells, cells-more, ReadFault, period, is_odd, Header, next_power, power-le, HasRun, EndsOrder, HasSample, Tested, levels_in, level_at, OrderAt, FileLevel, AreCellsTold, HasFew, below_at}
use Rattle.cola_check.proofs.Common.{no-order, OrderIs, ComesNext, Suits, BeginsSample, IsLast, lists_below, sample_len, sample_reads, AreBothTold, IsFew, IsRunTold, PassCause, OrderEndsAt, IsAtFirst, IsFirstFlaw, FindsFirst}
use Rattle.cola_check.proofs.Common.{IsBelow, AreFewAt, AreTestsAt, Few, RunTests, tested_by, visible_of, TestCause, visible_ticks}
use Rattle.std.proofs.lemmas.Cmp.{nat_list_cmp_total}
use Rattle.cola_runs.specs.Cells.{Cell, key_of}
use Rattle.cola_runs.proofs.Order.{all_change}
use Rattle.cola_runs.proofs.Counts.{looks_are_keys}
use Rattle.cola_runs.proofs.Deciding.{refuses}
use Rattle.cola_runs.proofs.Samples.{sample_length, sample_at}
use Rattle.cola_cell.specs.declared.cell.Cell.{Cell as RunCell}
use Rattle.cola_verdict.specs.Tests.{IsInOrder}
use Rattle.cola_check.specs.Kinds.{StandsBehind}
use Rattle.cola_check.proofs.ShadowTests.{visible-fits, visible-has, slot-is, twice, cause-of-test}
use Rattle.cola_check.proofs.Levels.{none-sorted, by-place, levels, visible-is, visible-told, visibles-next, below-next, below-none}

-- ---- a list and one more

module _ {X : Type 0} (P : X → Type 0) where
  all-less : (xs : List X) (x : X) → AllByRecursion P (xs ++ x ∷ []) → AllByRecursion P xs × P x
  all-less [] x h = (tt, h.0)
  all-less (y ∷ xs) x h = let r = all-less xs x h.1 in ((h.0, r.0), r.1)

module _ {X : Type 0} {R : X → X → Ordering} (o : IsTotalOrder R) where
  rising-more : (xs : List X) (x : X) → IsStrictlySortedBy R xs → AllByRecursion (λ y. R y x ≡ Less) xs → IsStrictlySortedBy R (xs ++ x ∷ [])
  unfolding IsStrictlySortedBy
  rising-more [] x h k = (tt, tt)
  rising-more (y ∷ xs) x h k = (all_append (λ z. R y z ≡ Less) xs (x ∷ []) h.0 (k.0, tt), rising-more xs x h.1 k.1)

  rising-less : (xs : List X) (x : X) → IsStrictlySortedBy R (xs ++ x ∷ []) → IsStrictlySortedBy R xs × AllByRecursion (λ y. R y x ≡ Less) xs
  unfolding IsStrictlySortedBy
  rising-less [] x h = (tt, tt)
  rising-less (y ∷ xs) x h =
      let here = all-less (λ z. R y z ≡ Less) xs x h.0 in
      let rest = rising-less xs x h.1 in
      ((here.0, rest.0), (here.1, rest.1))

  -- what stands behind the last of a rising list stands behind all of it
  behind-all : (xs : List X) (last x : X) → IsStrictlySortedBy R (xs ++ last ∷ []) → R last x ≡ Less → AllByRecursion (λ y. R y x ≡ Less) (xs ++ last ∷ [])
  behind-all xs last x h e = all_append (λ y. R y x ≡ Less) xs (last ∷ []) (all_change (λ y l. o.trans y last x l e) xs (rising-less xs last h).1) (e, tt)

-- ---- counts, keys and links

module _ {K V : Type 0} where
  keys-more : (xs ys : List (Cell K V)) → look_keys (xs ++ ys) ≡ look_keys xs ++ look_keys ys
  keys-more [] ys = refl
  keys-more (Entry k i y l ∷ xs) ys = keys-more xs ys
  keys-more (Look k l ∷ xs) ys = ap (λ ks. k ∷ ks) (keys-more xs ys)

  linked-more : (n : ℕ) (xs : List (Cell K V)) (c : Cell K V) → IsLinked n xs → link_of c ≡ 8 * (n + count_looks xs) → IsLinked n (xs ++ c ∷ [])
  linked-more n [] (Entry k i y l) h e = (omega (arith, e), tt)
  linked-more n [] (Look k l) h e = (omega (arith, e), tt)
  linked-more n (Entry k i y l ∷ xs) c h e = (h.0, linked-more n xs c h.1 e)
  linked-more n (Look k l ∷ xs) c h e = (h.0, linked-more (suc n) xs c h.1 (omega (arith, e)))

  linked-less : (n : ℕ) (xs : List (Cell K V)) (c : Cell K V) → IsLinked n (xs ++ c ∷ []) → link_of c ≡ 8 * (n + count_looks xs)
  linked-less n [] (Entry k i y l) h = let e = h.0 in omega (arith, e)
  linked-less n [] (Look k l) h = let e = h.0 in omega (arith, e)
  linked-less n (Entry k i y l ∷ xs) c h = linked-less n xs c h.1
  linked-less n (Look k l ∷ xs) c h = let rest = linked-less (suc n) xs c h.1 in omega (arith, rest)

-- ---- the order

total : IsTotalOrder (place_cmp {V = Stamped} key_cmp)
total = place_total nat_list_cmp_total

behind-last : (cells : List LawCell) (last : Option RunCell) (c : LawCell) → IsLast cells last → IsRising key_cmp cells → StandsBehind last c → AllByRecursion (λ d. place_cmp key_cmp d c ≡ Less) cells
behind-last cells None c l h s = subst (AllByRecursion (λ d. place_cmp key_cmp d c ≡ Less)) (sym l) tt
behind-last cells (Some last) c l h s =
    subst (AllByRecursion (λ d. place_cmp key_cmp d c ≡ Less)) (sym l.1) (behind-all total l.0 (as_cell last) c (subst (IsRising key_cmp) l.1 h) s)

last-behind : (cells : List LawCell) (last : Option RunCell) (c : LawCell) → IsLast cells last → AllByRecursion (λ d. place_cmp key_cmp d c ≡ Less) cells → StandsBehind last c
last-behind cells None c l h = tt
last-behind cells (Some last) c l h = (all-less (λ d. place_cmp key_cmp d c ≡ Less) l.0 (as_cell last) (subst (AllByRecursion (λ d. place_cmp key_cmp d c ≡ Less)) l.1 h)).1

module _ (cells : List LawCell) (last : Option RunCell) (looks : ℕ) (c : LawCell) (is : IsLast cells last) (many : looks ≡ count_looks cells) where
  order-more : IsInOrder cells → ComesNext last looks c → IsInOrder (cells ++ c ∷ [])
  order-more h n = record {
    rising = rising-more total cells c h.rising (behind-last cells last c is h.rising n.behind);
    linked = linked-more 0 cells c h.linked (let e = n.link in omega (arith, e, many));
  }

  order-less : IsInOrder (cells ++ c ∷ []) → ComesNext last looks c
  order-less h = record {
    behind = last-behind cells last c is (rising-less total cells c h.rising).1;
    link = let e = linked-less 0 cells c h.linked in omega (arith, e, many);
  }

  ends-later : (index : ℕ) → EndsOrder cells index → EndsOrder (cells ++ c ∷ []) index
  ends-later index e = record {
    within = let w = e.within in let l = length-append cells (c ∷ []) in omega (arith, w, l);
    before = subst IsInOrder (sym (take-append-le index cells (c ∷ []) (let w = e.within in omega (arith, w)))) e.before;
    broken = λ h. e.broken (subst IsInOrder (take-append-le (suc index) cells (c ∷ []) (let w = e.within in omega (arith, w))) h);
  }

  ends-here : (place : ℕ) → place ≡ length cells → IsInOrder cells → (ComesNext last looks c → ⊥) → EndsOrder (cells ++ c ∷ []) place
  ends-here place at h n = record {
    within = let l = length-append cells (c ∷ []) in omega (arith, l, at);
    before = subst IsInOrder (sym (ap (λ (k : ℕ). take k (cells ++ c ∷ [])) at ∙ take-append_seam cells (c ∷ []))) h;
    broken = λ k. n (order-less (subst IsInOrder (take_all (suc place) (cells ++ c ∷ []) (let l = length-append cells (c ∷ []) in omega (arith, l, at))) k));
  }

  -- the order of the cells and one more, which goes on it or not
  pub order-goes_on : (found : Option ℕ) → OrderIs cells found → ComesNext last looks c → OrderIs (cells ++ c ∷ []) found
  order-goes_on None h n = order-more h n
  order-goes_on (Some index) h n = ends-later index h

  pub order-ends : (found : Option ℕ) (place : ℕ) → place ≡ length cells → OrderIs cells found → (ComesNext last looks c → ⊥) → OrderIs (cells ++ c ∷ []) (option_or found (Some place))
  order-ends None place at h n = ends-here place at h n
  order-ends (Some index) place at h n = ends-later index h

-- ---- the sample

key-behind : {K : Type 0} (keys rest : List K) → slice_get (keys ++ rest) (length keys) ≡ slice_get rest 0
key-behind [] rest = refl
key-behind (k ∷ keys) rest = key-behind keys rest

first-is : {K : Type 0} (k : K) (rest : List K) → slice_get rest 0 ≡ Some k → (more : List K) × (rest ≡ k ∷ more)
first-is k [] e = absurd (cc)
first-is k (x ∷ rest) e = (rest, ap (λ y. y ∷ rest) (let f : x ≡ k = cc in f))

module _ (cells : List LawCell) (looks : ℕ) (many : looks ≡ count_looks cells) where
  keys-many : looks ≡ length (look_keys cells)
  keys-many = many ∙ looks_are_keys cells

  pub sample-more : (lists : List (List LawCell)) (c : LawCell) → BeginsSample cells lists → Suits lists looks c → BeginsSample (cells ++ c ∷ []) lists
  sample-more [] c h s = all_append IsOldValue cells (c ∷ []) h (s, tt)
  sample-more (next ∷ runs) (Entry k i y l) h s = (h.0, ap (λ ks. ks ++ h.0) (keys-more cells (Entry k i y l ∷ []) ∙ append-nil (look_keys cells)) ∙ h.1)
  sample-more (next ∷ runs) (Look k l) h s =
      let at : slice_get h.0 0 ≡ Some k = sym (key-behind (look_keys cells) h.0) ∙ ap (λ (n : ℕ). slice_get (look_keys cells ++ h.0) n) (sym keys-many) ∙ ap (λ ks. slice_get ks looks) h.1 ∙ s in
      let more = first-is k h.0 at in
      (more.0, ap (λ ks. ks ++ more.0) (keys-more cells (Look k l ∷ [])) ∙ append_assoc (look_keys cells) (k ∷ []) more.0 ∙ ap (λ ks. look_keys cells ++ ks) (sym more.1) ∙ h.1)

  pub sample-less : (lists : List (List LawCell)) (c : LawCell) → BeginsSample (cells ++ c ∷ []) lists → BeginsSample cells lists × Suits lists looks c
  sample-less [] c h = all-less IsOldValue cells c h
  sample-less (next ∷ runs) (Entry k i y l) h = ((h.0, sym (ap (λ ks. ks ++ h.0) (keys-more cells (Entry k i y l ∷ []) ∙ append-nil (look_keys cells))) ∙ h.1), tt)
  sample-less (next ∷ runs) (Look k l) h =
      let is : look_keys cells ++ k ∷ h.0 ≡ sample next = sym (ap (λ ks. ks ++ h.0) (keys-more cells (Look k l ∷ [])) ∙ append_assoc (look_keys cells) (k ∷ []) h.0) ∙ h.1 in
      ((k ∷ h.0, is), sym (ap (λ ks. slice_get ks looks) is) ∙ ap (λ (n : ℕ). slice_get (look_keys cells ++ k ∷ h.0) n) keys-many ∙ key-behind (look_keys cells) (k ∷ h.0))

-- ---- no cells

pub order-empty : IsInOrder []
order-empty = record { rising = none-sorted _; linked = tt }

pub sample-empty : (lists : List (List LawCell)) → BeginsSample [] lists
sample-empty [] = tt
sample-empty (next ∷ runs) = (sample next, refl)

-- ---- the sample of the run below

-- a told run: what a read of it gave
pub given-at : (held : Held) (run : Run) (index : ℕ) (cell : RunCell) → IsRunTold held run → index < run.len → IsGiven held run.level run.slot index cell → cell_at (held.spots run.level run.slot index) ≡ as_cell cell
given-at held run index cell t h g = given_is_told (held.spots run.level run.slot index) (cell_at (held.spots run.level run.slot index)) (as_cell cell) (t index h) g.told

module _ (held : Held) (run : Run) where
  sample-many : length (sample (run_cells held run)) ≡ run.len / 8
  sample-many = sample_length (run_cells held run) ∙ ap (λ (n : ℕ). n / 8) (length-cells (held.spots run.level run.slot) 0 run.len)

  -- the key of a number in the sample
  pub sampled-at : (number : ℕ) (cell : RunCell) → IsRunTold held run → number < run.len / 8 → IsGiven held run.level run.slot (8 * number + 7) cell →
      slice_get (sample (run_cells held run)) number ≡ Some (key_of (as_cell cell))
  sampled-at number cell t h g =
      let within : 8 * number + 7 < run.len = omega (arith, h) in
      sample_at number (run_cells held run)
      ∙ ap (option_map key_of) (get-cells (held.spots run.level run.slot) 0 run.len (8 * number + 7) within)
      ∙ ap (λ (n : ℕ). Some (key_of (cell_at (held.spots run.level run.slot n)))) (let e : 0 + (8 * number + 7) ≡ 8 * number + 7 = omega arith in e)
      ∙ ap (λ (c : LawCell). Some (key_of c)) (given-at held run (8 * number + 7) cell t within g)

  pub sampled-past : (number : ℕ) (key : List ℕ) → run.len / 8 ≤ number → IsTrue false ↔ (slice_get (sample (run_cells held run)) number ≡ Some key)
  sampled-past number key h =
      refuses (λ e. let none : None ≡ Some key = sym (slice_get_past (sample (run_cells held run)) number (let m = sample-many in omega (arith, m, h))) ∙ e in cc)

-- old values are no lookahead cells
old-looks : (cells : List LawCell) → AllByRecursion IsOldValue cells → count_looks cells ≡ 0
old-looks [] h = refl
old-looks (Entry key item young link ∷ cells) h = old-looks cells h.1
old-looks (Look key link ∷ cells) h = absurd h.0

none-left : {K : Type 0} (xs ys : List K) → length ys ≡ 0 → xs ++ ys ≡ xs
none-left xs [] e = append-nil xs
none-left xs (y ∷ ys) e = absurd (omega (arith, e))

-- a whole run passes the test of its sample where it may begin one, and has as many lookahead cells as the sample has keys
pub sample-whole : (held : Held) (below : Option Run) (rest : List (List LawCell)) (cells : List LawCell) → BeginsSample cells (lists_below held below rest) → count_looks cells ≡ sample_len below → HasSample cells (lists_below held below rest)
sample-whole held None rest cells h e = h
sample-whole held (Some run) rest cells h e =
    let many = sample-many held run in
    let looks = looks_are_keys cells in
    let parts = length-append (look_keys cells) h.0 in
    let size : length (look_keys cells ++ h.0) ≡ length (sample (run_cells held run)) = ap length h.1 in
    sym (none-left (look_keys cells) h.0 (omega (arith, many, looks, parts, size, e))) ∙ h.1

pub sample-begins : (held : Held) (below : Option Run) (rest : List (List LawCell)) (cells : List LawCell) → HasSample cells (lists_below held below rest) → BeginsSample cells (lists_below held below rest) × (count_looks cells ≡ sample_len below)
sample-begins held None rest cells h = (h, old-looks cells h)
sample-begins held (Some run) rest cells h = (([], append-nil (look_keys cells) ∙ h), looks_are_keys cells ∙ ap length h ∙ sample-many held run)

-- the cells up to one of them, and with it
pub cells-next : (spots : ℕ → Spot) (n : ℕ) (c : LawCell) → cell_at (spots n) ≡ c → cells spots 0 (n + 1) ≡ cells spots 0 n ++ c ∷ []
cells-next spots n c e =
    ap (cells spots 0) (let z : n + 1 ≡ suc n = omega arith in z)
    ∙ cells-more spots 0 n
    ∙ ap (λ (k : ℕ). cells spots 0 n ++ cell_at (spots k) ∷ []) (let z : 0 + n ≡ n = omega arith in z)
    ∙ ap (λ (d : LawCell). cells spots 0 n ++ d ∷ []) e

-- what is read of a sample for one more cell
pub reads-one : (below : Option Run) (old new : ℕ) (c : LawCell) → new ≡ old + count_looks (c ∷ []) → min old (sample_len below) + sample_reads below old c ≤ min new (sample_len below)
reads-one below old new (Entry key item young link) e = omega (arith, e)
reads-one below old new (Look key link) e = omega (arith, e)

-- ---- the first flaws of levels, and one level more

module _ (passes : ℕ → Type 0) (at : ℕ → ℕ → Type 0) where
  -- what was found stays so
  pub found-stays : (level : ℕ) (found : ℕ × ℕ) → IsFirstFlaw passes at level found → IsFirstFlaw passes at (level + 1) found
  found-stays level found f = record { within = let w = f.within in omega (arith, w); fails = f.fails; before = f.before; index_is = f.index_is }

  -- the first flaw is that of the levels above, or else that of the level
  pub found-here : (level index : ℕ) → ((j : ℕ) → j < level → passes j) → (passes level → ⊥) → at level index → IsFirstFlaw passes at (level + 1) (level, index)
  found-here level index above fails is = record { within = omega arith; fails = fails; before = above; index_is = is }

pub next-order : (file : Tested) (level : ℕ) (found : Option (ℕ × ℕ)) (disorder : Option ℕ) → FindsFirst (OrderAt file) (OrderEndsAt file) level found →
    OrderIs (level_at (levels_in file) level).visible disorder → FindsFirst (OrderAt file) (OrderEndsAt file) (level + 1) (option_or found (option_map (λ index. (level, index)) disorder))
next-order file level (Some f) disorder h is = found-stays (OrderAt file) (OrderEndsAt file) level f h
next-order file level None None h is = below_more (OrderAt file) level h is
next-order file level None (Some index) h is = found-here (OrderAt file) (OrderEndsAt file) level index h (no-order (level_at (levels_in file) level).visible index is) is

pub run-more : (passes : ℕ → Type 0) (level : ℕ) (found : Option (ℕ × ℕ)) (holds : Bool) → FindsFirst passes IsAtFirst level found → (IsTrue holds ↔ passes level) →
    FindsFirst passes IsAtFirst (level + 1) (option_or found (if holds then None else Some (level, 0)))
run-more passes level (Some f) holds h is = found-stays passes IsAtFirst level f h
run-more passes level None true h is = below_more passes level h (is.0 refl)
run-more passes level None false h is = found-here passes IsAtFirst level 0 h (λ p. no-true (is.1 p)) refl
  where
    no-true : IsTrue false → ⊥
    no-true e = cc

-- ---- the run below

module _ (header : Header) (level : ℕ) where
  -- its sample is no longer than a quarter of a slot
  below-few : (below : Option Run) → IsBelow header level below → sample_len below ≤ 2 ^ level
  below-few below is =
      by-place header level (λ b. sample_len b ≤ 2 ^ level) is.above is.bottom (λ above.
      let fits = visible-fits header (suc level) (omega (arith, above)) in
      let four = slot-is header (suc level) in
      let two = twice header level in
      omega (arith, fits, four, two)) (λ bottom. omega arith)

  -- one pass over the run, and one over the sample
  pub level-ticks : (below : Option Run) → level ≤ header.geometry.bottom → IsBelow header level below → (visible_of header level).len + sample_len below ≤ 5 * 2 ^ level
  level-ticks below low is =
      let fits = visible-fits header level low in
      let four = slot-is header level in
      let few = below-few below is in
      omega (arith, fits, four, few)

  -- those of a level more, and those of all levels
  pub next-ticks : 5 * 2 ^ level + 5 * 2 ^ level ≤ 5 * 2 ^ (level + 1)
  next-ticks = let twice : 2 ^ (level + 1) ≡ 2 ^ level + 2 ^ level = next_power level (level + 1) refl in omega (arith, twice)

  pub all-ticks : level ≤ header.geometry.bottom → 5 * 2 ^ level + 5 * 2 ^ level ≤ visible_ticks header.geometry.bottom
  all-ticks low =
      let here = next-ticks in
      let more : 2 ^ (level + 1) ≤ 2 ^ (header.geometry.bottom + 1) = power-le (level + 1) (header.geometry.bottom + 1) (omega (arith, low)) in
      omega (arith, here, more)

  module _ (held : Held) where
    -- it is a run of the object
    pub below-runs : (below : Option Run) → held.fixed.levels ≡ header.geometry.bottom + 1 → IsBelow header level below → IfSome below (HasRun held)
    below-runs below levels is =
        by-place header level (λ b. IfSome b (HasRun held)) is.above is.bottom (λ above. visible-has header held (suc level) levels (omega (arith, above))) (λ bottom. tt)

    pub both-told : (below : Option Run) → level ≤ header.geometry.bottom → IsBelow header level below → AreCellsTold (tested_by header held) → AreBothTold held (visible_of header level) below
    both-told below low is told = record {
      run_told = visible-told header held level low told;
      below_told = by-place header level (λ b. IfSome b (IsRunTold held)) is.above is.bottom (λ above. visible-told header held (suc level) (omega (arith, above)) told) (λ bottom. tt);
    }

    -- the lists of the runs below
    lists-are : (below : Option Run) → IsBelow header level below → lists_below held below (visibles (below_at (levels header held) (suc level))) ≡ visibles (below_at (levels header held) level)
    lists-are below is =
        by-place header level (λ b. lists_below held b (visibles (below_at (levels header held) (suc level))) ≡ visibles (below_at (levels header held) level)) is.above is.bottom
        (λ above. sym (visibles-next header held level above)) (λ bottom. sym (ap visibles (below-none header held level bottom)))

    few-are : (few : Few) (holds : Bool) (run : List LawCell) → AreFewAt header level (is_odd (period header.clock level)) few → (IsTrue holds ↔ IsFew few run) →
        (IsTrue holds ↔ HasFew header.geometry.keys (is_odd (period header.clock level)) level run (below_at (levels header held) level))
    few-are few holds run is h =
        elim (cases_lt level header.geometry.bottom) [
          | inl above ↦
              subst (λ (below : List FileLevel). IsTrue holds ↔ HasFew header.geometry.keys (is_odd (period header.clock level)) level run below) (sym (below-next header held level above))
              (subst (λ (f : Few). IsTrue holds ↔ IsFew f run) (is.above above) h)
          | inr bottom ↦
              subst (λ (below : List FileLevel). IsTrue holds ↔ HasFew header.geometry.keys (is_odd (period header.clock level)) level run below) (sym (below-none header held level bottom))
              (subst (λ (f : Few). IsTrue holds ↔ IsFew f run) (is.bottom bottom) h)
        ]

    -- ---- what was found

    module _ (low : level ≤ header.geometry.bottom) (below : Option Run) (is : IsBelow header level below) (run : Run) (run_is : run ≡ visible_of header level) where
      pub tests-answer : (few : Few) (answer : Result RunTests ReadFault) → AreFewAt header level (is_odd (period header.clock level)) few →
          IfOk answer (λ tests. AreBothTold held run below → OrderIs (run_cells held run) tests.disorder) →
          IfOk answer (λ tests. AreBothTold held run below → (rest : List (List LawCell)) → (IsTrue tests.is_sampled ↔ HasSample (run_cells held run) (lists_below held below rest))) →
          IfOk answer (λ tests. AreBothTold held run below → (IsTrue tests.has_few ↔ IsFew few (run_cells held run))) →
          IfOk answer (λ tests. AreCellsTold (tested_by header held) → AreTestsAt (tested_by header held) level tests)
      tests-answer few (Err fault) fews order sampled short = tt
      tests-answer few (Ok tests) fews order sampled short = λ told.
          let both = subst (λ (r : Run). AreBothTold held r below) (sym run_is) (both-told below low is told) in
          let same = ap (run_cells held) run_is ∙ sym (visible-is header held level low) in
          record {
            order = subst (λ (cells : List LawCell). OrderIs cells tests.disorder) same (order both);
            sampled = transport (λ i. IsTrue tests.is_sampled ↔ HasSample (same i) (lists-are below is i)) (sampled both (visibles (below_at (levels header held) (suc level))));
            few = subst (λ (cells : List LawCell). IsTrue tests.has_few ↔ HasFew header.geometry.keys (is_odd (period header.clock level)) level cells (below_at (levels header held) level)) same
                (few-are few tests.has_few (run_cells held run) fews (short both));
          }

      -- a bad cell of these runs is none that is told
      pub cause-answer : (before now : ℕ) (answer : Result RunTests ReadFault) → IfErr answer (PassCause held (run ∷ option_to_list below) before now) → IfErr answer (TestCause header held before now)
      cause-answer = cause-of-test header held (run ∷ option_to_list below) (λ told. (
        subst (IsRunTold held) (sym run_is) (visible-told header held level low told),
        by-place header level (λ b. AllByRecursion (IsRunTold held) (option_to_list b)) is.above is.bottom (λ above. (visible-told header held (suc level) (omega (arith, above)) told, tt)) (λ bottom. tt),
      ))
