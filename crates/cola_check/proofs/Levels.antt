-- The levels of a file, by the runs that its header names, and lists of levels.
use Rattle.std.proofs.Common.{◌≡◌, ◌∙◌, ℕ, zero, suc, ◌+◌, ◌-◌, ◌%◌, ◌<◌, ◌≤◌, ◌==◌, if◌then◌else◌, List, [], ◌∷◌, length, drop, refl, sym, ap, subst, arith, inl, inr, ◌++◌, take, get_or, Option, Ordering, None, Some, IfSome}
use Rattle.std.proofs.Common.{Result, Ok, Err, IfErr, IsErrAnd, length-append, cond, slice_index_or}
use Rattle.cola_check.proofs.Common.{cases_lt, drop_all, take-append-le, take_more, drop_more, AllByRecursion, refill, IsStrictlySortedBy, take-length, visibles, Held, LawCell, Spots, run_cells, Run, ReadFault, Device, BadCell}
use Rattle.cola_check.proofs.Common.{period, visible_slot, is_odd, Header, all_numbers, numbers-length, HasRun, FileLevel, Tested, levels_in, level_at, below_at, run_len, AreCellsTold, tested_by, numbers_at, visible_of, shadow_of}
use Rattle.cola_check.proofs.Common.{IsRunTold, HasBadRun, PassCause, LevelRuns, LevelWalks, shadow_or_none, with_shadow, runs_of, cells_in, level_unread, unread_level_begun, all_unread, Each, next_of, by_bool}
use Rattle.cola_laws.specs.Slots.{level_of, levels_of}
use Rattle.cola_clock.specs.Marks.{Marks, marks_at}
use Rattle.cola_layout.specs.Cells.{slot_cells}
use Rattle.cola_verdict.proofs.Runs.{levels-length}

-- ---- levels in slots, by their number

module _ (spots : Spots) (t : ℕ) where
  at : (j i : ℕ) (marks : List Marks) → i < length marks → level_at (levels_of (slot_cells spots) t j marks) i ≡ level_of (slot_cells spots) t (j + i) (marks_at marks i)
  at j i [] h = absurd (omega (arith, h))
  at j zero (m ∷ marks) h = ap (λ (n : ℕ). level_of (slot_cells spots) t n m) (let e : j ≡ j + 0 = omega arith in e)
  at j (suc i) (m ∷ marks) h = at (suc j) i marks (omega (arith, h)) ∙ ap (λ (n : ℕ). level_of (slot_cells spots) t n (marks_at marks i)) (let e : suc j + i ≡ j + suc i = omega arith in e)

-- no elements are in order
pub none-sorted : {X : Type 0} (R : X → X → Ordering) → IsStrictlySortedBy R []
unfolding IsStrictlySortedBy
none-sorted R = tt

-- the list from a place on is what stands there and the list behind it
pub drop-at : {X : Type 0} (d : X) (xs : List X) (j : ℕ) → j < length xs → drop j xs ≡ slice_index_or xs j d ∷ drop (suc j) xs
drop-at d [] j h = absurd (omega (arith, h))
drop-at d (x ∷ xs) zero h = refl
drop-at d (x ∷ xs) (suc j) h = drop-at d xs j (omega (arith, h))

-- ---- the two slots of a level

pub slot-in : (t j : ℕ) → visible_slot t j < 2
unfolding visible_slot
slot-in t j = let h : period t j % 2 < 2 = omega arith in h

pub other-in : (v : ℕ) → 1 - v < 2
other-in v = omega arith

-- what is told by a level's visible slot, at that slot and at the other
in-slots : (v : ℕ) → v < 2 → (visible shadow : ℕ) → ((if v == v then visible else shadow) ≡ visible) × ((if 1 - v == v then visible else shadow) ≡ shadow)
in-slots zero h visible shadow = (refl, refl)
in-slots (suc zero) h visible shadow = (refl, refl)
in-slots (suc (suc v)) h visible shadow = absurd (omega (arith, h))

-- ---- the next run of a level

-- it is one of the level below
pub of-next : (header : Header) (P : Run → Type 0) (level : ℕ) → P (shadow_of header (suc level)) → P (visible_of header (suc level)) → P (next_of header level)
of-next header P level s v = by_bool (λ odd. P (cond odd (shadow_of header (suc level)) (visible_of header (suc level)))) s v (is_odd (period header.clock level))

-- what is one thing above the bottom and another at the bottom has what both have
pub by-place : (header : Header) (level : ℕ) {X : Type 0} (P : X → Type 0) {x upper lowest : X} → (level < header.geometry.bottom → x ≡ upper) → (header.geometry.bottom ≤ level → x ≡ lowest) →
    (level < header.geometry.bottom → P upper) → (header.geometry.bottom ≤ level → P lowest) → P x
by-place header level P above bottom p q = elim (cases_lt level header.geometry.bottom) [ inl h ↦ subst P (sym (above h)) (p h) | inr h ↦ subst P (sym (bottom h)) (q h) ]

-- ---- the levels of a file

module _ (header : Header) (held : Held) where
  abbrev pub file : Tested
  file = tested_by header held

  abbrev pub levels : List FileLevel
  levels = levels_in file

  pub marks-many : length file.marks ≡ header.geometry.bottom + 1
  marks-many = let size = numbers-length header.levels.items in let one = header.one_each in omega (arith, size, one)

  pub levels-many : length levels ≡ header.geometry.bottom + 1
  levels-many = levels-length held.spots header.clock (all_numbers header.levels.items) ∙ marks-many

  pub level-is : (j : ℕ) → j ≤ header.geometry.bottom → level_at levels j ≡ level_of (slot_cells held.spots) header.clock j (numbers_at header j)
  level-is j low = at held.spots header.clock 0 j (all_numbers header.levels.items) (let m = marks-many in omega (arith, m, low)) ∙ ap (λ (n : ℕ). level_of (slot_cells held.spots) header.clock n (numbers_at header j)) (let e : 0 + j ≡ j = omega arith in e)

  -- the runs of a level
  pub visible-is : (j : ℕ) → j ≤ header.geometry.bottom → (level_at levels j).visible ≡ run_cells held (visible_of header j)
  visible-is j low = ap (λ (l : FileLevel). l.visible) (level-is j low)

  pub shadow-is : (j : ℕ) → j ≤ header.geometry.bottom → (level_at levels j).shadow ≡ run_cells held (shadow_of header j)
  shadow-is j low = ap (λ (l : FileLevel). l.shadow) (level-is j low)

  -- what lies below it: the next level and what lies below that; nothing below the bottom
  pub below-next : (j : ℕ) → j < header.geometry.bottom → below_at levels j ≡ level_at levels (suc j) ∷ below_at levels (suc j)
  below-next j low = drop-at _ levels (suc j) (let m = levels-many in omega (arith, m, low))

  pub below-none : (j : ℕ) → header.geometry.bottom ≤ j → below_at levels j ≡ []
  below-none j low = drop_all (suc j) levels (let m = levels-many in omega (arith, m, low))

  pub from-level : (j : ℕ) → j ≤ header.geometry.bottom → drop j levels ≡ level_at levels j ∷ below_at levels j
  from-level j low = drop-at _ levels j (let m = levels-many in omega (arith, m, low))

  -- the visible runs below it
  pub visibles-next : (j : ℕ) → j < header.geometry.bottom → visibles (below_at levels j) ≡ run_cells held (visible_of header (suc j)) ∷ visibles (below_at levels (suc j))
  visibles-next j low = ap visibles (below-next j low) ∙ ap (λ (run : List LawCell). run ∷ visibles (below_at levels (suc j))) (visible-is (suc j) (omega (arith, low)))

  -- where the cells of the file are told, each of its runs is
  told-run : (j slot len : ℕ) → j ≤ header.geometry.bottom → slot < 2 → run_len file j slot ≡ len → AreCellsTold file → IsRunTold held (record { level = j; slot = slot; len = len })
  told-run j slot len low within is told i h =
      told j slot i (record { level_in = let m = marks-many in omega (arith, m, low); slot_in = within; within = subst (λ (n : ℕ). i < n) (sym is) h })

  pub visible-told : (j : ℕ) → j ≤ header.geometry.bottom → AreCellsTold file → IsRunTold held (visible_of header j)
  visible-told j low = told-run j (visible_slot header.clock j) _ low (slot-in header.clock j) (in-slots (visible_slot header.clock j) (slot-in header.clock j) _ _).0

  pub shadow-told : (j : ℕ) → j ≤ header.geometry.bottom → AreCellsTold file → IsRunTold held (shadow_of header j)
  shadow-told j low = told-run j (1 - visible_slot header.clock j) _ low (other-in (visible_slot header.clock j)) (in-slots (visible_slot header.clock j) (slot-in header.clock j) _ _).1

-- ---- lists, level by level

module _ {X : Type 0} where
  -- one more of the first ones
  pub taken_next : (xs : List X) (i : ℕ) (x : X) → i < length xs → x ≡ get_or xs i x → take (i + 1) xs ≡ take i xs ++ x ∷ []
  taken_next xs i x l e = take_more xs i x l ∙ ap (λ y. take i xs ++ y ∷ []) (sym e)

  pub left_next : (xs : List X) (i : ℕ) (x : X) → i < length xs → x ≡ get_or xs i x → drop i xs ≡ x ∷ drop (i + 1) xs
  left_next xs i x l e = drop_more xs i x l ∙ ap (λ y. y ∷ drop (i + 1) xs) (sym e)

  pub length_push : (xs ys : List X) (x : X) (i : ℕ) → ys ≡ xs ++ x ∷ [] → length xs ≡ i → length ys ≡ i + 1
  length_push xs ys x i e h = let a = ap length e in let b = length-append xs (x ∷ []) in omega arith

  -- a sum over the elements, and over one more
  pub sum_append : (sum : List X → ℕ) (one : X → ℕ) → sum [] ≡ 0 → ((x : X) (xs : List X) → sum (x ∷ xs) ≡ one x + sum xs) → (xs : List X) (x : X) → sum (xs ++ x ∷ []) ≡ sum xs + one x
  sum_append sum one none more [] x = let e = more x [] in omega (arith, e, none)
  sum_append sum one none more (y ∷ xs) x = let e = more y (xs ++ x ∷ []) in let f = more y xs in let r = sum_append sum one none more xs x in omega (arith, e, f, r)

  -- a list of the same length, written over another
  pub refilled : (xs ys : List X) → length ys ≡ length xs → refill (length xs) xs ys ≡ ys
  refilled xs ys h = take-append-le (length xs) ys (drop (length ys) xs) (omega (arith, h)) ∙ ap (λ (n : ℕ). take n ys) (sym h) ∙ take-length ys

module _ {X Y Z : Type 0} (R : X → Y → Type 0) (S : Y → Z → Type 0) where
  -- what holds of no elements, and of one more on each list, holds of three lists side by side
  pub by_each_then : (C : List X → List Y → List Z → Type 0) → C [] [] [] → ((x : X) (y : Y) (z : Z) (xs : List X) (ys : List Y) (zs : List Z) → R x y → S y z → C xs ys zs → C (x ∷ xs) (y ∷ ys) (z ∷ zs)) →
      (xs : List X) (ys : List Y) (zs : List Z) → Each R xs ys → Each S ys zs → C xs ys zs
  by_each_then C none more [] [] [] h k = none
  by_each_then C none more (x ∷ xs) (y ∷ ys) (z ∷ zs) h k = more x y z xs ys zs h.0 k.0 (by_each_then C none more xs ys zs h.1 k.1)
  by_each_then C none more _ [] (z ∷ zs) h k = absurd k
  by_each_then C none more _ (y ∷ ys) [] h k = absurd k
  by_each_then C none more _ _ _ h k = absurd h

module _ {X Y : Type 0} (R : X → Y → Type 0) where
  -- the same of two lists
  pub by_each : (C : List X → List Y → Type 0) → C [] [] → ((x : X) (y : Y) (xs : List X) (ys : List Y) → R x y → C xs ys → C (x ∷ xs) (y ∷ ys)) → (xs : List X) (ys : List Y) → Each R xs ys → C xs ys
  by_each C none more [] [] h = none
  by_each C none more (x ∷ xs) (y ∷ ys) h = more x y xs ys h.0 (by_each C none more xs ys h.1)
  by_each C none more _ _ h = absurd h

  pub each_length : (xs : List X) (ys : List Y) → Each R xs ys → length ys ≡ length xs
  each_length = by_each (λ xs ys. length ys ≡ length xs) refl (λ x y xs ys r h. ap suc h)

  -- the same of the second list alone
  pub each_all : (P : Y → Type 0) → ((x : X) (y : Y) → R x y → P y) → (xs : List X) (ys : List Y) → Each R xs ys → AllByRecursion P ys
  each_all P f = by_each (λ xs ys. AllByRecursion P ys) tt (λ x y xs ys r h. (f x y r, h))

  each_push : (xs : List X) (ys : List Y) (x : X) (y : Y) → Each R xs ys → R x y → Each R (xs ++ x ∷ []) (ys ++ y ∷ [])
  each_push xs ys x y h r = by_each (λ us vs. Each R (us ++ x ∷ []) (vs ++ y ∷ [])) (r, tt) (λ u v us vs s k. (s, k)) xs ys h

  -- one more beside the first ones
  pub each_next : (xs : List X) (ys zs : List Y) (i : ℕ) (x : X) (y : Y) → i < length xs → x ≡ get_or xs i x → zs ≡ ys ++ y ∷ [] → Each R (take i xs) ys → R x y → Each R (take (i + 1) xs) zs
  each_next xs ys zs i x y l is push h r =
      subst (λ (us : List X). Each R us zs) (sym (taken_next xs i x l is)) (subst (λ (vs : List Y). Each R (take i xs ++ x ∷ []) vs) (sym push) (each_push (take i xs) ys x y h r))

-- ---- what is still to read

-- a shadow, or an empty run in its place
pub shadow_cells : (shadow : Option Run) (visible : Run) (runs : List Run) → cells_in (with_shadow shadow runs) ≡ (shadow_or_none shadow visible).len + cells_in runs
shadow_cells None visible runs = omega arith
shadow_cells (Some run) visible runs = refl

-- one level more that was begun
pub begun_one : (levels : List LevelRuns) (begun now : List LevelWalks) (i : ℕ) (level : LevelRuns) (new : LevelWalks) (before later whole : ℕ) → now ≡ begun ++ new ∷ [] → i < length levels → level ≡ get_or levels i level →
    before + all_unread begun + cells_in (runs_of (drop i levels)) ≤ whole → later + level_unread new ≤ before + cells_in (runs_of (level ∷ [])) →
    later + all_unread now + cells_in (runs_of (drop (i + 1) levels)) ≤ whole
begun_one levels begun now i level new before later whole e l is h k =
    let a = ap all_unread e ∙ sum_append all_unread level_unread refl (λ y ys. refl) begun new in
    let b : cells_in (runs_of (drop i levels)) ≡ cells_in (runs_of (level ∷ drop (i + 1) levels)) = ap (λ (ls : List LevelRuns). cells_in (runs_of ls)) (left_next levels i level l is) in
    let d = shadow_cells level.shadow level.visible (runs_of (drop (i + 1) levels)) in
    let f = shadow_cells level.shadow level.visible [] in
    omega arith

-- ---- a shadow, or an empty run in its place

pub shadow_has : (held : Held) (shadow : Option Run) (visible : Run) → HasRun held visible → IfSome shadow (HasRun held) → HasRun held (shadow_or_none shadow visible)
shadow_has held None visible v s = record { level_in = v.level_in; slot_in = v.slot_in; within = omega arith }
shadow_has held (Some run) visible v s = s

pub shadow_bad : (held : Held) (number : ℕ) (shadow : Option Run) (visible : Run) → HasBadRun held number (shadow_or_none shadow visible ∷ []) → HasBadRun held number (visible ∷ with_shadow shadow [])
shadow_bad held number None visible (inl b) = let w = b.within in absurd (omega arith)
shadow_bad held number None visible (inr b) = absurd b
shadow_bad held number (Some run) visible b = inr b

-- nothing is asked of walks that were not begun
pub none_unread : (result : Result LevelWalks ReadFault) (fault : ReadFault) → IsErrAnd result (λ e. e ≡ fault) → unread_level_begun result ≡ 0
none_unread (Ok walks) fault h = absurd h
none_unread (Err e) fault h = refl

-- ---- causes

pub refused : {T : Type 0} (result : Result T ReadFault) (fault : ReadFault) (P : ReadFault → Type 0) → IsErrAnd result (λ e. e ≡ fault) → P fault → IfErr result P
refused (Ok t) fault P e p = absurd e
refused (Err f) fault P e p = subst P (sym e) p

-- a cause by some of the runs is one by all of them
pub cause_among : (held : Held) (few runs : List Run) (before now : ℕ) (fault : ReadFault) → ((number : ℕ) → HasBadRun held number few → HasBadRun held number runs) → PassCause held few before now fault → PassCause held runs before now fault
cause_among held few runs before now Device f c = c
cause_among held few runs before now (BadCell number) f c = f number c

-- the cause of a later call, where those before it went well
pub cause_later : (held object : Held) (few runs : List Run) (before between now : ℕ) (fault : ReadFault) → held ≡ object → between ≡ before →
    ((number : ℕ) → HasBadRun object number few → HasBadRun object number runs) → PassCause held few between now fault → PassCause object runs before now fault
cause_later held object few runs before between now fault e c f h =
    cause_among object few runs before now fault f (subst (λ n. PassCause object few n now fault) c (subst (λ (x : Held). PassCause x few between now fault) e h))

module _ (held : Held) (number : ℕ) where
  with_bad : (shadow : Option Run) (few runs : List Run) → (HasBadRun held number few → HasBadRun held number runs) → HasBadRun held number (with_shadow shadow few) → HasBadRun held number (with_shadow shadow runs)
  with_bad None few runs f b = f b
  with_bad (Some run) few runs f (inl b) = inl b
  with_bad (Some run) few runs f (inr b) = inr (f b)

  pub skipped_bad : (shadow : Option Run) (runs : List Run) → HasBadRun held number runs → HasBadRun held number (with_shadow shadow runs)
  skipped_bad None runs b = b
  skipped_bad (Some run) runs b = inr b

  -- a bad cell of one level's runs is one of all
  pub level_bad : (levels : List LevelRuns) (i : ℕ) (level : LevelRuns) → i < length levels → level ≡ get_or levels i level → HasBadRun held number (runs_of (level ∷ [])) → HasBadRun held number (runs_of levels)
  level_bad [] i level l is b = absurd (omega arith)
  level_bad (x ∷ levels) zero level l is b = first (subst (λ (y : LevelRuns). HasBadRun held number (runs_of (y ∷ []))) is b)
    where
      first : HasBadRun held number (runs_of (x ∷ [])) → HasBadRun held number (runs_of (x ∷ levels))
      first (inl b) = inl b
      first (inr b) = inr (with_bad x.shadow [] (runs_of levels) (λ h. absurd h) b)
  level_bad (x ∷ levels) (suc i) level l is b = inr (skipped_bad x.shadow (runs_of levels) (level_bad levels i level (omega arith) is b))
