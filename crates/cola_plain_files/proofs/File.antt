-- The cells of a file, slot by slot and level by level.
use Rattle.std.proofs.Common.{◌≡◌, inl, inr, ℕ, suc, ◌+◌, ◌*◌, ◌^◌, ◌≤◌, ◌<◌, ◌==◌, Bool, true, false, cond, List, [], ◌∷◌, map, length, get_or, Option, None, Some, MatchOption, IfSome, refl, sym, ap, subst, ◌∙◌, arith}
use Rattle.std.proofs.lemmas.Bool.{cases_lt}
use Rattle.cola_cell.specs.declared.cell.Cell.{Cell}
use Rattle.cola_cell.specs.Flat.{spot_of}
use Rattle.cola_cell.specs.Held.{Bad}
use Rattle.cola_cell.specs.Places.{number_of}
use Rattle.cola_clock.specs.Clock.{visible_slot}
use Rattle.cola_clock.specs.Marks.{Marks, marks_at}
use Rattle.cola_clock.proofs.MarkLaws.{marks-each}
use Rattle.cola_layout.specs.Cells.{law_cell_of, file_spots}
use Rattle.cola_layout.specs.declared.header.Header.{Header}
use Rattle.cola_layout.specs.Fields.{fields_of}
use Rattle.cola_layout.specs.Marks.{all_numbers}
use Rattle.cola_layout.proofs.Levels.{numbers-length}
use Rattle.cola_layout.proofs.Powers.{power-le}
use Rattle.cola_layout.proofs.Places.{place-from, place-below}
use Rattle.cola_cell.specs.ToldCells.{IsTold}
use Rattle.cola_plain_files.specs.Levels.{found_cells}
use Rattle.cola_plain_files.specs.File.{file_of, AllFound, IsFirstNone, IsSlotTold, IsFirstBad, IsLevelTold, IsLowestOfLevel}
use Rattle.cola_verdict.specs.Tests.{Tested, tested_of, run_len, AreCellsTold, IsLowestBad}

-- ---- what a header promises

pub clock_small : (h : Header) → h.clock < 2 ^ 23
clock_small h =
    let clock : h.clock < 2 ^ (h.geometry.bottom + 1) = h.clock_fits in
    let shallow : h.geometry.bottom ≤ 22 = h.geometry.shallow in
    let more : 2 ^ (h.geometry.bottom + 1) ≤ 2 ^ 23 = power-le (h.geometry.bottom + 1) 23 (omega (arith, shallow)) in
    omega (arith, clock, more)

-- the runs of a level fit their slots
pub record RunsFit (h : Header) (j : ℕ) : Type 0 where
  pub visible : (marks_at (all_numbers h.levels.items) j).visible ≤ 2 ^ (j + 2)
  pub shadow : (marks_at (all_numbers h.levels.items) j).shadow ≤ 2 ^ (j + 2)

pub runs_fit : (h : Header) (j : ℕ) → j ≤ h.geometry.bottom → RunsFit h j
runs_fit h j le =
    let many : length (all_numbers h.levels.items) ≡ h.geometry.bottom + 1 = numbers-length h.levels.items ∙ h.one_each in
    let here = marks-each h.clock (all_numbers h.levels.items) h.marks_fit j (omega (arith, many, le)) in
    record { visible = here.visible_fits; shadow = here.shadow_fits }

-- ---- a file by its header and its bytes

pub file_is : (h : Header) (bytes : List ℕ) → file_of h bytes ≡ tested_of (fields_of h) bytes
unfolding file_of
file_is h bytes = refl

pub record FileSays (h : Header) (bytes : List ℕ) (file : Tested) : Type 0 where
  pub clock : file.clock ≡ h.clock
  pub marks : file.marks ≡ all_numbers h.levels.items
  pub spots : file.spots ≡ file_spots h.geometry.format bytes
  pub most : file.most ≡ h.geometry.keys
  pub count : file.count ≡ h.count
  pub last : file.last ≡ h.last

pub file_says : (h : Header) (bytes : List ℕ) → FileSays h bytes (file_of h bytes)
unfolding file_of
file_says h bytes = record { clock = refl; marks = refl; spots = refl; most = refl; count = refl; last = refl }

-- the run in a slot of a level
pub run_len-is : (file : Tested) (h : Header) (bytes : List ℕ) (level slot at : ℕ) (m : Marks) → FileSays h bytes file → m ≡ marks_at (all_numbers h.levels.items) level → at ≡ visible_slot h.clock level →
    run_len file level slot ≡ cond (slot == at) m.visible m.shadow
run_len-is file h bytes level slot at m says is a =
    ap (λ (t : ℕ). cond (slot == visible_slot t level) (marks_at file.marks level).visible (marks_at file.marks level).shadow) says.clock
    ∙ ap (λ (n : ℕ). cond (slot == n) (marks_at file.marks level).visible (marks_at file.marks level).shadow) (sym a)
    ∙ ap (λ (ms : List Marks). cond (slot == at) (marks_at ms level).visible (marks_at ms level).shadow) says.marks
    ∙ ap (λ (x : Marks). cond (slot == at) x.visible x.shadow) (sym is)

-- ---- a slot

module _ (file : Tested) (level slot len : ℕ) (found : List (Option Cell)) (many : length found ≡ len) (is : len ≡ run_len file level slot)
    (each : (k : ℕ) → k < len → spot_of (get_or found k None) ≡ file.spots level slot k) where
  slot_told : AllFound found → IsSlotTold file level slot
  slot_told all index h = let lt : index < len = omega (arith, h, is) in subst IsTold (each index lt) (all index (omega (arith, lt, many)))

  slot_bad : (index : ℕ) → IsFirstNone found index → IsFirstBad file level slot index
  slot_bad index b =
      let lt : index < len = omega (arith, many, b.within) in record {
        within = omega (arith, lt, is);
        bad = sym (each index lt) ∙ b.bad;
        before = λ i h. subst IsTold (each i (omega (arith, h, lt))) (b.before i h);
      }

  pub first_bad_of : (r : Option ℕ) → MatchOption r (AllFound found) (IsFirstNone found) → MatchOption r (IsSlotTold file level slot) (IsFirstBad file level slot)
  first_bad_of None h = slot_told h
  first_bad_of (Some index) h = slot_bad index h

-- ---- a run of told cells

pub found_all : (found : List (Option Cell)) → AllFound found → found_cells found ≡ map law_cell_of found
found_all [] all = refl
found_all (None ∷ found) all = let e : Bad ≡ _ = all 0 (omega arith) in absurd (cc)
found_all (Some cell ∷ found) all = ap (λ z. law_cell_of (Some cell) ∷ z) (found_all found (λ i h. all (suc i) (omega (arith, h))))

pub found_fewer : (found : List (Option Cell)) → length (found_cells found) ≤ length found
found_fewer [] = omega arith
found_fewer (None ∷ found) = let rest = found_fewer found in omega arith
found_fewer (Some cell ∷ found) = let rest = found_fewer found in omega arith

pub bad_fits : (found : List (Option Cell)) (most : ℕ) (r : Option ℕ) → length found ≤ most → MatchOption r (AllFound found) (IsFirstNone found) → IfSome r (λ index. index < most)
bad_fits found most None few h = tt
bad_fits found most (Some index) few h = omega (arith, h.within)

-- ---- the lowest bad cell

pub some_of : {X : Type 0} (o : Option X) (A : Type 0) (B : X → Type 0) (x : X) → o ≡ Some x → MatchOption o A B → B x
some_of o A B x e h = subst (λ (z : Option _). MatchOption z A B) e h

pub none_of : {X : Type 0} (o : Option X) (A : Type 0) (B : X → Type 0) → o ≡ None → MatchOption o A B → A
none_of o A B e h = subst (λ (z : Option _). MatchOption z A B) e h

by_bool : (b : Bool) (m n most : ℕ) → m ≤ most → n ≤ most → cond b m n ≤ most
by_bool true m n most f g = f
by_bool false m n most f g = g

pub run_len-fits : (h : Header) (bytes : List ℕ) (level slot : ℕ) → level ≤ h.geometry.bottom → run_len (file_of h bytes) level slot ≤ 2 ^ (level + 2)
run_len-fits h bytes level slot le =
    let fit = runs_fit h level le in
    let is = run_len-is (file_of h bytes) h bytes level slot (visible_slot h.clock level) (marks_at (all_numbers h.levels.items) level) (file_says h bytes) refl refl in
    subst (λ (n : ℕ). n ≤ 2 ^ (level + 2)) (sym is) (by_bool _ _ _ _ fit.visible fit.shadow)

same_base : (x i k : ℕ) → x + i < x + k → i < k
same_base x i k h = omega (arith, h)

pub lowest_of : (file : Tested) (level slot index number : ℕ) → slot < 2 → IsFirstBad file level slot index → ((s : ℕ) → s < slot → IsSlotTold file level s) → run_len file level slot ≤ 2 ^ (level + 2) →
    number ≡ number_of level slot index → IsLowestOfLevel file level number
lowest_of file level slot index number two b before fits is = record {
  slot = slot;
  index = index;
  slot_in = two;
  within = b.within;
  bad = b.bad;
  number_is = is;
  lowest = λ s i below within lt. elim (cases_lt s slot) [
    | inl less ↦ before s less i within
    | inr more ↦ elim (cases_lt slot s) [
      | inl less ↦
          let first : slot ≡ 0 = omega (arith, below, less) in let second : s ≡ 1 = omega (arith, below, less) in
          let low : number ≡ (2 + 0) * 2 ^ (level + 2) + index = is ∙ ap (λ (n : ℕ). number_of level n index) first in
          let high : (2 + 1) * 2 ^ (level + 2) + i < number = subst (λ (n : ℕ). number_of level n i < number) second lt in
          absurd (omega (arith, low, high, fits, b.within))
      | inr least ↦
          let same : s ≡ slot = omega (arith, more, least) in
          let here : i < index = same_base ((2 + slot) * 2 ^ (level + 2)) i index (subst (λ (n : ℕ). number_of level slot i < n) is (subst (λ (n : ℕ). number_of level n i < number) same lt)) in
          subst (λ (n : ℕ). IsTold (file.spots level n i)) (sym same) (b.before i here)
    ]
  ];
}

pub lowest_of_all : (file : Tested) (level number : ℕ) → level < length file.marks → IsLowestOfLevel file level number → ((j : ℕ) → j < level → IsLevelTold file j) →
    ((s : ℕ) → run_len file level s ≤ 2 ^ (level + 2)) → IsLowestBad file level number
lowest_of_all file level number level_in b before fits = record {
  slot = b.slot;
  index = b.index;
  place = record { level_in = level_in; slot_in = b.slot_in; within = b.within };
  bad = b.bad;
  number_is = b.number_is;
  lowest = λ l s i place lt. elim (cases_lt l level) [
    | inl less ↦ before l less s place.slot_in i place.within
    | inr more ↦ elim (cases_lt level l) [
      | inl less ↦
          let from = place-from l s i in let below = place-below level b.slot b.index (omega (arith, b.slot_in)) (omega (arith, b.within, fits b.slot)) in
          let grows = power-le (level + 4) (l + 3) (omega (arith, less)) in
          absurd (omega (arith, from, below, grows, lt, b.number_is))
      | inr least ↦
          let same : l ≡ level = omega (arith, more, least) in
          subst (λ (n : ℕ). IsTold (file.spots n s i)) (sym same)
          (b.lowest s i place.slot_in (subst (λ (n : ℕ). i < run_len file n s) same place.within) (subst (λ (n : ℕ). number_of n s i < number) same lt))
    ]
  ];
}

pub marks_many : (h : Header) (bytes : List ℕ) → length (file_of h bytes).marks ≡ h.geometry.bottom + 1
marks_many h bytes = ap length (file_says h bytes).marks ∙ numbers-length h.levels.items ∙ h.one_each

pub all_told : (file : Tested) (n : ℕ) → length file.marks ≤ n → ((j : ℕ) → j < n → IsLevelTold file j) → AreCellsTold file
all_told file n many told level slot index place = told level (omega (arith, many, place.level_in)) slot place.slot_in index place.within
