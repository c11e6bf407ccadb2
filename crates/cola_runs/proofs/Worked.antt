-- The definitions computed at worked runs: keys and values are numbers, and a store of 32 keys takes the keys 1 to 32 in turn, each with the number of its put.
use Rattle.std.proofs.Common.{◌≡◌, ℕ, zero, suc, ◌*◌, Bool, true, false, ◌&&◌, List, [], ◌∷◌, ◌++◌, refl, map, drop, Some, None, Ordering, Less, Equal, Greater, eqb, eqb-true}
use Rattle.std.specs.Ordering.{nat_cmp, is_lt}
use Rattle.std.specs.Cmp.{first_so, second_so}
use Rattle.std.specs.List.{AllByRecursion, list_all}
use Rattle.std.specs.List.Sorted.{IsStrictlySortedBy}
use Rattle.cola_runs.specs.Seen.{answer}
use Rattle.cola_runs.specs.Cells.{Value, Cell, Entry, Look, place_cmp, sample, IsLinked, IsWellFormed}
use Rattle.cola_runs.specs.Weave.{weave, all_items, young_items, bottom_items, IsCut, unlinked}
use Rattle.cola_runs.specs.Steps.{begun, step, steps, cells_left}
use Rattle.cola_runs.specs.Search.{find, place, AreSampled}

abbrev Run : Type 0
Run = List (Cell ℕ ℕ)

abbrev old : ℕ → ℕ → Cell ℕ ℕ
old k v = Entry k (Value v) false 0

abbrev young : ℕ → ℕ → Cell ℕ ℕ
young k v = Entry k (Value v) true 0

-- n old cells from key k and value v on, with this link
abbrev olds : ℕ → ℕ → ℕ → ℕ → Run
olds zero k v link = []
olds (suc n) k v link = Entry k (Value v) false link ∷ olds n (suc k) (suc v) link

-- ---- the builds of the first eight puts

first_even : weave nat_cmp all_items (olds 2 1 1 0) (olds 2 3 3 0) [] ≡ old 1 1 ∷ old 2 2 ∷ young 3 3 ∷ young 4 4 ∷ []
unfolding weave unlinked
first_even = refl

first_odd : weave nat_cmp young_items (old 1 1 ∷ old 2 2 ∷ young 3 3 ∷ young 4 4 ∷ []) (olds 2 5 5 0) [] ≡ olds 4 3 3 0
unfolding weave unlinked
first_odd = refl

top_even : weave nat_cmp all_items (olds 2 3 3 0) (young 5 5 ∷ []) [] ≡ old 3 3 ∷ old 4 4 ∷ young 5 5 ∷ []
unfolding weave unlinked
top_even = refl

top_odd : weave nat_cmp young_items (old 3 3 ∷ old 4 4 ∷ young 5 5 ∷ []) (old 6 6 ∷ []) [] ≡ olds 2 5 5 0
unfolding weave unlinked
top_odd = refl

-- ---- the bottom's build after forty-three puts

abbrev own : Run
own = olds 26 1 1 0

abbrev incoming : Run
incoming = Entry 1 (Value 33) false 0 ∷ Entry 2 (Value 34) false 0 ∷ Look 8 0 ∷ Look 16 8 ∷ Look 24 16 ∷ olds 6 27 27 24

abbrev half : Run
half = olds 2 1 33 0 ++ olds 21 3 3 0

abbrev whole : Run
whole = olds 2 1 33 0 ++ olds 30 3 3 0

steps_28 : steps nat_cmp bottom_items own incoming [] 28 begun ≡ record { own = 23; incoming = 5; sampled = 0; done = half }
unfolding step
steps_28 = refl

steps_9 : steps nat_cmp bottom_items own incoming [] 9 (record { own = 23; incoming = 5; sampled = 0; done = half }) ≡ record { own = 26; incoming = 11; sampled = 0; done = whole }
unfolding step
steps_9 = refl

left_9 : cells_left own incoming [] (record { own = 23; incoming = 5; sampled = 0; done = half }) ≡ 9
left_9 = refl

bottom_weave : weave nat_cmp bottom_items own incoming [] ≡ whole
unfolding weave unlinked
bottom_weave = refl

half_is_cut : IsCut nat_cmp bottom_items own incoming [] (drop 23 own) (drop 5 incoming) [] half
unfolding weave unlinked
half_is_cut = refl

-- ---- the runs after fifty-five puts

abbrev run_0 : Run
run_0 = old 21 53 ∷ old 22 54 ∷ young 23 55 ∷ Look 32 0 ∷ []

abbrev run_1 : Run
run_1 = Look 9 0 ∷ olds 4 15 47 8 ++ Entry 19 (Value 51) true 8 ∷ Entry 20 (Value 52) true 8 ∷ Look 32 8 ∷ []

abbrev run_2 : Run
run_2 = olds 6 3 35 0 ++ Look 8 0 ∷ olds 2 9 41 8 ++ Entry 11 (Value 43) true 8 ∷ Entry 12 (Value 44) true 8 ∷ Entry 13 (Value 45) true 8 ∷ Entry 14 (Value 46) true 8 ∷ Look 16 8 ∷ Look 24 16 ∷ Look 32 24 ∷ []

abbrev runs : List Run
runs = run_0 ∷ run_1 ∷ run_2 ∷ whole ∷ []

level_1 : weave nat_cmp all_items (Look 7 0 ∷ olds 4 15 47 8) (olds 2 19 51 0) (sample run_2) ≡ run_1
unfolding weave unlinked
level_1 = refl

level_2 : weave nat_cmp all_items (Look 2 0 ∷ olds 8 3 35 8) (olds 4 11 43 0 ++ Look 31 0 ∷ []) (sample whole) ≡ run_2
unfolding weave unlinked
level_2 = refl

level_2_steps : steps nat_cmp all_items (Look 2 0 ∷ olds 8 3 35 8) (olds 4 11 43 0 ++ Look 31 0 ∷ []) (sample whole) 28 begun ≡ record { own = 9; incoming = 5; sampled = 4; done = run_2 }
unfolding step
level_2_steps = refl

find_9 : find nat_cmp 9 0 runs ≡ Some (Value 41)
find_9 = refl

find_24 : find nat_cmp 24 0 runs ≡ Some (Value 24)
find_24 = refl

find_33 : find nat_cmp 33 0 runs ≡ None
find_33 = refl

stops_9 : map (λ r. place nat_cmp 9 r) runs ≡ 0 ∷ 0 ∷ 7 ∷ 8 ∷ []
stops_9 = refl

stops_24 : map (λ r. place nat_cmp 24 r) runs ≡ 3 ∷ 7 ∷ 14 ∷ 23 ∷ []
stops_24 = refl

-- ---- tests that compute, for facts of a whole run

rises : Run → Bool
rises [] = true
rises (c ∷ cells) = list_all (λ d. is_lt (place_cmp nat_cmp c d)) cells && rises cells

links : ℕ → Run → Bool
links n [] = true
links n (Entry k i y l ∷ cells) = eqb l (8 * n) && links n cells
links n (Look k l ∷ cells) = eqb l (8 * n) && links (suc n) cells

less : (r : Ordering) → is_lt r ≡ true → r ≡ Less
less Less e = refl
less Equal e = cc
less Greater e = cc

all_by_test : (c : Cell ℕ ℕ) (cells : Run) → list_all (λ d. is_lt (place_cmp nat_cmp c d)) cells ≡ true → AllByRecursion (λ d. place_cmp nat_cmp c d ≡ Less) cells
all_by_test c [] e = tt
all_by_test c (d ∷ cells) e = (less _ (first_so _ _ e), all_by_test c cells (second_so _ _ e))

rising_by_test : (cells : Run) → rises cells ≡ true → IsStrictlySortedBy (place_cmp nat_cmp) cells
unfolding IsStrictlySortedBy rises
rising_by_test [] e = tt
rising_by_test (c ∷ cells) e = (all_by_test c cells (first_so _ _ e), rising_by_test cells (second_so _ _ e))

linked_by_test : (n : ℕ) (cells : Run) → links n cells ≡ true → IsLinked n cells
unfolding links
linked_by_test n [] e = tt
linked_by_test n (Entry k i y l ∷ cells) e = (eqb-true l (8 * n) (first_so _ _ e), linked_by_test n cells (second_so _ _ e))
linked_by_test n (Look k l ∷ cells) e = (eqb-true l (8 * n) (first_so _ _ e), linked_by_test (suc n) cells (second_so _ _ e))

formed : (run : Run) → rises run ≡ true → links 0 run ≡ true → IsWellFormed nat_cmp run
formed run e f = record { rising = rising_by_test run e; linked = linked_by_test 0 run f }

runs_are_sampled : AreSampled nat_cmp runs
unfolding rises links
runs_are_sampled = (formed run_0 refl refl, refl, (formed run_1 refl refl, refl, (formed run_2 refl refl, refl, (formed whole refl refl, tt, tt))))

-- what is not well formed: a cell out of order, a lookahead cell before the item of its key, and a link that does not count
not_formed : (rises (olds 2 3 3 0 ++ olds 1 1 1 0) ≡ false) × (rises (Look 3 0 ∷ old 3 3 ∷ []) ≡ false) × (links 0 (Look 3 0 ∷ old 4 4 ∷ []) ≡ false)
unfolding rises links
not_formed = (refl, refl, refl)

-- the answers that the search gives
answers : map (λ q. answer nat_cmp q runs) (9 ∷ 24 ∷ 33 ∷ []) ≡ Some (Value 41) ∷ Some (Value 24) ∷ None ∷ []
answers = refl
