-- A plain slow test of soundness on small stores, whose keys and values are numbers: it goes through all cells, all keys
-- and all levels.
use Rattle.std.proofs.Common.{ℕ, suc, ◌+◌, ◌*◌, ◌^◌, Bool, true, false, not, cond, ◌&&◌, List, [], ◌∷◌, ◌++◌, length, drop, Option, None, Some, min}
use Rattle.std.specs.Prelude.{◌==◌, nat_le}
use Rattle.std.specs.Ordering.{nat_cmp, is_lt}
use Rattle.cola_clock.specs.Clock.{period, is_odd, works, is_before, is_over, window_step}
use Rattle.cola_runs.specs.Cells.{Item, Value, Tombstone, Cell, Entry, Look, place_cmp, look_keys, count_looks, count_items, count_young}
use Rattle.cola_runs.specs.Seen.{Seen, Nothing, Old, Young, holds, seen, answer}
use Rattle.cola_runs.specs.Weave.{Part, kept, kept_or_none, own_at, relinked, unlinked, weave}
use Rattle.cola_laws.specs.Chain.{Level, part_of, visibles, next_runs, first_keys}

abbrev pub Run : Type 0
Run = List (Cell ℕ ℕ)

-- ---- equal and in order

abbrev pub all_of : {X : Type 0} → (X → Bool) → List X → Bool
all_of p [] = true
all_of p (x ∷ xs) = p x && all_of p xs

abbrev pub same_numbers : List ℕ → List ℕ → Bool
same_numbers [] [] = true
same_numbers [] (y ∷ ys) = false
same_numbers (x ∷ xs) [] = false
same_numbers (x ∷ xs) (y ∷ ys) = (x == y) && same_numbers xs ys

abbrev pub same_item : Option (Item ℕ) → Option (Item ℕ) → Bool
same_item None None = true
same_item (Some Tombstone) (Some Tombstone) = true
same_item (Some (Value v)) (Some (Value w)) = v == w
same_item a b = false

abbrev pub cell_numbers : Cell ℕ ℕ → List ℕ
cell_numbers (Entry k (Value v) y l) = 0 ∷ k ∷ v ∷ cond y 1 0 ∷ l ∷ []
cell_numbers (Entry k Tombstone y l) = 1 ∷ k ∷ cond y 1 0 ∷ l ∷ []
cell_numbers (Look k l) = 2 ∷ k ∷ l ∷ []

abbrev pub same_runs : Run → Run → Bool
same_runs [] [] = true
same_runs [] (y ∷ ys) = false
same_runs (x ∷ xs) [] = false
same_runs (x ∷ xs) (y ∷ ys) = same_numbers (cell_numbers x) (cell_numbers y) && same_runs xs ys

abbrev pub rises : Run → Bool
rises [] = true
rises (c ∷ cells) = all_of (λ d. is_lt (place_cmp nat_cmp c d)) cells && rises cells

abbrev pub links : ℕ → Run → Bool
links n [] = true
links n (Entry k i y l ∷ cells) = (l == 8 * n) && links n cells
links n (Look k l ∷ cells) = (l == 8 * n) && links (suc n) cells

abbrev pub old_value : Cell ℕ ℕ → Bool
old_value (Entry k (Value v) false l) = true
old_value c = false

abbrev pub lives : Option (Item ℕ) → ℕ
lives None = 0
lives (Some (Value v)) = 1
lives (Some Tombstone) = 0

abbrev pub live_keys : List ℕ → List Run → ℕ
live_keys [] runs = 0
live_keys (q ∷ keys) runs = lives (answer nat_cmp q runs) + live_keys keys runs

-- ---- the parts of soundness

-- a run as it may be visible
abbrev pub fits : {X : Type 0} → ℕ → Bool → ℕ → Run → List X → List ℕ → Bool
fits most odd j run [] keys = rises run && links 0 run && all_of old_value run && nat_le (length run) most
fits most odd j run (x ∷ below) keys =
    rises run && links 0 run && same_numbers (look_keys run) keys && nat_le (count_items run) (cond odd 3 2 * 2 ^ j) && nat_le (count_young run) (2 ^ j)

abbrev pub fit_runs : ℕ → ℕ → ℕ → List Run → Bool
fit_runs most t j [] = true
fit_runs most t j (run ∷ runs) = fits most (is_odd (period t j)) j run runs (first_keys runs) && fit_runs most t (suc j) runs

abbrev pub carries : Part → Seen ℕ → Seen ℕ → Seen ℕ → Bool
carries part Nothing own shadow = same_item (holds shadow) (kept_or_none part (own_at part own))
carries part (Old i) own shadow = same_item (holds shadow) (kept part i)
carries part (Young i) own shadow = true

abbrev pub keeps : Seen ℕ → Seen ℕ → Bool
keeps Nothing Nothing = true
keeps (Old i) Nothing = false
keeps (Young i) Nothing = false
keeps own (Old i) = same_item (holds own) (Some i)
keeps own (Young i) = true

abbrev pub is_bottom : {X : Type 0} → List X → Bool
is_bottom [] = true
is_bottom (x ∷ xs) = false

-- a finished shadow; `asked` is whether it must keep its own items
abbrev pub finished : Bool → ℕ → List ℕ → ℕ → ℕ → Run → Level ℕ ℕ → List (Level ℕ ℕ) → Bool
finished asked most universe t j above l below =
    fits most (not (is_odd (period t j))) j l.shadow below (first_keys (next_runs t j below))
    && all_of (λ q. carries (part_of (is_odd (period t j)) below) (seen nat_cmp q above) (seen nat_cmp q l.visible) (seen nat_cmp q l.shadow)) universe
    && cond (asked && not (is_odd (period t j)) && not (is_bottom below)) (all_of (λ q. keeps (seen nat_cmp q l.visible) (seen nat_cmp q l.shadow)) universe) true
    && nat_le (live_keys universe (l.shadow ∷ next_runs t j below)) most

abbrev pub idle : Level ℕ ℕ → Bool
idle l = (length l.shadow == 0) && (l.own == 0) && (l.incoming == 0) && (l.sampled == 0)

-- a build inside its window, with so many steps due
abbrev pub builds : Part → Run → List ℕ → ℕ → Level ℕ ℕ → Bool
builds part above keys due l =
    nat_le l.own (length l.visible) && nat_le l.incoming (length above) && nat_le l.sampled (length keys)
    && same_runs (l.shadow ++ relinked (count_looks l.shadow) (unlinked nat_cmp part (drop l.own l.visible) (drop l.incoming above) (drop l.sampled keys))) (weave nat_cmp part l.visible above keys)
    && nat_le (min (length l.visible + length above + length keys) due) (l.own + l.incoming + l.sampled)
    && nat_le l.sampled (length l.shadow) && nat_le (length l.shadow) (l.own + l.incoming + l.sampled)

abbrev pub levels_hold : Bool → ℕ → List ℕ → ℕ → ℕ → Run → List (Level ℕ ℕ) → Bool
levels_hold asked most universe t j above [] = true
levels_hold asked most universe t j above (l ∷ below) =
    cond (is_before t j) (idle l) true
    && cond (works t j) (builds (part_of (is_odd (period t j)) below) above (first_keys (next_runs t j below)) (28 * window_step t j) l) true
    && cond (is_over t j) ((l.own == 0) && (l.incoming == 0) && (l.sampled == 0) && finished asked most universe t j above l below) true
    && nat_le (live_keys universe (visibles (l ∷ below))) most
    && levels_hold asked most universe t (suc j) l.visible below

abbrev pub same_value : Option (Item ℕ) → Option ℕ → Bool
same_value None None = true
same_value (Some Tombstone) None = true
same_value (Some (Value v)) (Some w) = v == w
same_value a b = false

-- the answers of the visible runs are those of the map
abbrev pub answers : List ℕ → (ℕ → Option ℕ) → List (Level ℕ ℕ) → Bool
answers universe map ls = all_of (λ q. same_value (answer nat_cmp q (visibles ls)) (map q)) universe

-- soundness for the map, of whose keys all are in the universe; `asked` is whether finished shadows must keep their own items
abbrev pub sound : Bool → ℕ → List ℕ → (ℕ → Option ℕ) → ℕ → List (Level ℕ ℕ) → Bool
sound asked most universe map t [] = false
sound asked most universe map t (top ∷ below) =
    fit_runs most t 0 (visibles (top ∷ below)) && answers universe map (top ∷ below) && idle top && nat_le (live_keys universe (visibles (top ∷ below))) most && levels_hold asked most universe t 1 top.visible below
