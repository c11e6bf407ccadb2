-- The definitions computed at worked runs: keys and values are numbers.
use Rattle.std.proofs.Common.{◌≡◌, ℕ, zero, suc, true, false, List, [], ◌∷◌, ◌++◌, refl, Some, None}
use Rattle.std.specs.Ordering.{nat_cmp}
use Rattle.cola_runs.specs.Cells.{Value, Tombstone, Cell, Entry, Look}
use Rattle.cola_pairs.specs.Live.{live, between, below_end, rests_from}
use Rattle.cola_pairs.specs.Walk.{pass_keys, Walks, Ends, Takes}

abbrev Run : Type 0
Run = List (Cell ℕ ℕ)

abbrev old : ℕ → ℕ → Cell ℕ ℕ
old k v = Entry k (Value v) false 0

abbrev young : ℕ → ℕ → Cell ℕ ℕ
young k v = Entry k (Value v) true 0

abbrev gone : ℕ → Cell ℕ ℕ
gone k = Entry k Tombstone true 0

-- n old cells from key k and value v on, with this link
abbrev olds : ℕ → ℕ → ℕ → ℕ → Run
olds zero k v link = []
olds (suc n) k v link = Entry k (Value v) false link ∷ olds n (suc k) (suc v) link

-- the visible runs after the keys 1 to 8 were put, each with the number of its put
abbrev eight : List Run
eight = (old 7 7 ∷ old 8 8 ∷ []) ∷ (olds 4 3 3 0) ∷ (olds 2 1 1 0) ∷ [] ∷ []

eight_from_3_below_8 : live nat_cmp (between nat_cmp 3 (Some 8)) eight ≡ (3, 3) ∷ (4, 4) ∷ (5, 5) ∷ (6, 6) ∷ (7, 7) ∷ []
unfolding live
eight_from_3_below_8 = refl

-- a shadowed value, a tombstone, a key deleted and put again, and a tombstone with nothing below it
abbrev shadows : List Run
shadows = (young 1 10 ∷ gone 2 ∷ young 5 50 ∷ []) ∷ (Look 2 0 ∷ gone 5 ∷ gone 7 ∷ Look 8 0 ∷ []) ∷ (old 1 1 ∷ old 2 2 ∷ old 3 3 ∷ old 5 5 ∷ []) ∷ []

all_shadows : live nat_cmp (between nat_cmp 0 None) shadows ≡ (1, 10) ∷ (3, 3) ∷ (5, 50) ∷ []
unfolding live
all_shadows = refl

upper_end_is_out : live nat_cmp (between nat_cmp 1 (Some 3)) shadows ≡ (1, 10) ∷ []
unfolding live
upper_end_is_out = refl

-- ends that cross enclose nothing
crossed : live nat_cmp (between nat_cmp 5 (Some 1)) shadows ≡ []
unfolding live
crossed = refl

-- ---- the runs after fifty-five puts of thirty-two keys in turn

abbrev run_0 : Run
run_0 = old 21 53 ∷ old 22 54 ∷ young 23 55 ∷ Look 32 0 ∷ []

abbrev run_1 : Run
run_1 = Look 9 0 ∷ olds 4 15 47 8 ++ Entry 19 (Value 51) true 8 ∷ Entry 20 (Value 52) true 8 ∷ Look 32 8 ∷ []

abbrev run_2 : Run
run_2 = olds 6 3 35 0 ++ Look 8 0 ∷ olds 2 9 41 8 ++ Entry 11 (Value 43) true 8 ∷ Entry 12 (Value 44) true 8 ∷ Entry 13 (Value 45) true 8 ∷ Entry 14 (Value 46) true 8 ∷ Look 16 8 ∷ Look 24 16 ∷ Look 32 24 ∷ []

abbrev runs : List Run
runs = run_0 ∷ run_1 ∷ run_2 ∷ (olds 2 1 33 0 ++ olds 30 3 3 0) ∷ []

from_22_below_25 : live nat_cmp (between nat_cmp 22 (Some 25)) runs ≡ (22, 54) ∷ (23, 55) ∷ (24, 24) ∷ []
unfolding live
from_22_below_25 = refl

from_33 : live nat_cmp (between nat_cmp 33 None) runs ≡ []
unfolding live
from_33 = refl

-- the same pairs by a walk from the places of the lower end
from_places : live nat_cmp (below_end nat_cmp (Some 25)) (rests_from nat_cmp 22 runs) ≡ (22, 54) ∷ (23, 55) ∷ (24, 24) ∷ []
unfolding live
from_places = refl

behind_22 : pass_keys nat_cmp 22 (rests_from nat_cmp 22 runs) ≡ (young 23 55 ∷ Look 32 0 ∷ []) ∷ (Look 32 8 ∷ []) ∷ (Look 24 16 ∷ Look 32 24 ∷ []) ∷ olds 10 23 23 0 ∷ []
behind_22 = refl

walk_is : Walks nat_cmp (Some 25) (rests_from nat_cmp 22 runs) ((22, 54) ∷ (23, 55) ∷ (24, 24) ∷ [])
walk_is =
    Takes 22 refl (refl, (refl, (refl, (refl, tt))))
    (Takes 23 refl (refl, (refl, (refl, (refl, tt))))
    (Takes 24 refl (refl, (refl, (refl, (refl, tt)))) (Ends (refl, (refl, (refl, (refl, tt))))) refl) refl) refl
