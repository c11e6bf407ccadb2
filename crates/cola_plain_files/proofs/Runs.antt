-- Facts of runs that the plain program decides cell by cell.
use Rattle.std.proofs.Common.{◌≡◌, ◌↔◌, ℕ, zero, suc, ◌+◌, ◌≤◌, ◌<◌, Bool, true, false, List, [], ◌∷◌, ◌++◌, length, take, refl, sym, ap, ◌∙◌, arith, append_assoc}
use Rattle.std.specs.List.Sorted.{IsStrictlySortedBy}
use Rattle.cola_cell.specs.Held.{LawCell, Stamped}
use Rattle.cola_runs.specs.Cells.{Item, Entry, Look, is_look, count_looks, count_items, count_young, look_keys}
use Rattle.cola_plain_runs.specs.Runs.{as_cell, as_run}
use Rattle.cola_plain_runs.specs.declared.cells.PlainCell.{PlainCell}
use Rattle.cola_plain_files.specs.Levels.{is_young}
use Rattle.cola_verdict.specs.Tests.{IsInOrder}

-- two lists of which the first elements are the same are the same where their rests are
pub same_next : {X W : Type 0} (A B xs ys : List X) (x y : X) → A ≡ x ∷ xs → B ≡ y ∷ ys → x ≡ y → (W ↔ (A ≡ B)) → (W ↔ (xs ≡ ys))
same_next A B xs ys x y a b e h = (λ w. let f : A ≡ B = h.0 w in cc, λ f. h.1 (a ∙ ap (λ z. z ∷ xs) e ∙ ap (λ z. y ∷ z) f ∙ sym b))

pub same_fails : {X W : Type 0} (A B xs ys : List X) (x y : X) → A ≡ x ∷ xs → B ≡ y ∷ ys → (x ≡ y → ⊥) → (W ↔ (A ≡ B)) → W → ⊥
same_fails A B xs ys x y a b n h w = n (let f : A ≡ B = h.0 w in cc)

-- ---- counts of cells

-- a count so far, and that of the rest, after one cell more
pub counted : (count : List LawCell → ℕ) (c : LawCell) (cells all : List LawCell) (one before now whole i : ℕ) → all ≡ c ∷ cells → count (c ∷ cells) ≡ one + count cells → one ≤ 1 → now ≡ before + one →
    (before + count all ≡ whole) × (before ≤ i) → (now + count cells ≡ whole) × (now ≤ i + 1)
counted count c cells all one before now whole i a e small n h =
    let f : count all ≡ one + count cells = ap count a ∙ e in
    let g = h.0 in
    (omega arith, omega arith)

pub look_counts : (c : LawCell) (cells : List LawCell) → is_look c ≡ true → count_looks (c ∷ cells) ≡ 1 + count_looks cells
look_counts (Entry k i y l) cells e = cc
look_counts (Look k l) cells e = omega arith

pub look_counts_not : (c : LawCell) (cells : List LawCell) → is_look c ≡ false → count_looks (c ∷ cells) ≡ 0 + count_looks cells
look_counts_not (Entry k i y l) cells e = omega arith
look_counts_not (Look k l) cells e = cc

pub item_counts : (c : LawCell) (cells : List LawCell) → is_look c ≡ false → count_items (c ∷ cells) ≡ 1 + count_items cells
item_counts (Entry k i y l) cells e = omega arith
item_counts (Look k l) cells e = cc

pub item_counts_not : (c : LawCell) (cells : List LawCell) → is_look c ≡ true → count_items (c ∷ cells) ≡ 0 + count_items cells
item_counts_not (Entry k i y l) cells e = cc
item_counts_not (Look k l) cells e = omega arith

pub young_counts : (c : LawCell) (cells : List LawCell) → is_young c ≡ true → count_young (c ∷ cells) ≡ 1 + count_young cells
young_counts (Entry k i true l) cells e = omega arith
young_counts (Entry k i false l) cells e = cc
young_counts (Look k l) cells e = cc

pub young_counts_not : (c : LawCell) (cells : List LawCell) → is_young c ≡ false → count_young (c ∷ cells) ≡ 0 + count_young cells
young_counts_not (Entry k i true l) cells e = cc
young_counts_not (Entry k i false l) cells e = omega arith
young_counts_not (Look k l) cells e = omega arith

-- ---- the keys of lookahead cells

pub look_taken : (c : LawCell) (cells all : List LawCell) (k : List ℕ) (l : ℕ) (made now whole : List (List ℕ)) → all ≡ c ∷ cells → c ≡ Look k l → now ≡ made ++ k ∷ [] →
    made ++ look_keys all ≡ whole → now ++ look_keys cells ≡ whole
look_taken c cells all k l made now whole a e n h =
    ap (λ z. z ++ look_keys cells) n ∙ append_assoc made (k ∷ []) (look_keys cells) ∙ ap (λ z. made ++ look_keys (z ∷ cells)) (sym e) ∙ ap (λ z. made ++ look_keys z) (sym a) ∙ h

pub look_passed : (c : LawCell) (cells all : List LawCell) (k : List ℕ) (i : Item Stamped) (y : Bool) (l : ℕ) (made now whole : List (List ℕ)) → all ≡ c ∷ cells → c ≡ Entry k i y l → now ≡ made →
    made ++ look_keys all ≡ whole → now ++ look_keys cells ≡ whole
look_passed c cells all k i y l made now whole a e n h =
    ap (λ z. z ++ look_keys cells) n ∙ ap (λ z. made ++ look_keys (z ∷ cells)) (sym e) ∙ ap (λ z. made ++ look_keys z) (sym a) ∙ h

-- ---- prefixes of a run

-- a list of no cell is well formed
pub none_in_order : IsInOrder []
unfolding IsStrictlySortedBy
none_in_order = record { rising = tt; linked = tt }

pub run_taken : (n : ℕ) (cells : List (PlainCell (List ℕ) Stamped)) → as_run (take n cells) ≡ take n (as_run cells)
run_taken zero cells = refl
run_taken (suc n) [] = refl
run_taken (suc n) (c ∷ cells) = ap (λ z. as_cell c ∷ z) (run_taken n cells)

pub taken_whole : {X : Type 0} (n : ℕ) (xs : List X) → length xs ≤ n → take n xs ≡ xs
taken_whole zero [] h = refl
taken_whole zero (x ∷ xs) h = absurd (omega arith)
taken_whole (suc n) [] h = refl
taken_whole (suc n) (x ∷ xs) h = ap (λ z. x ∷ z) (taken_whole n xs (omega arith))

pub some_where_broken : (run : List LawCell) → (IsInOrder run → ⊥) → 0 < length run
some_where_broken [] h = absurd (h none_in_order)
some_where_broken (c ∷ run) h = omega arith
