-- The plain program computed on a store for 32 keys, four levels, in which the keys 1 to 32 are put in turn, each with
-- the number of its put.
use Rattle.std.proofs.Common.{◌≡◌, ℕ, zero, suc, ◌+◌, ◌-◌, ◌%◌, true, false, List, [], ◌∷◌, refl, map, length, Some, None, take, drop}
use Rattle.std.specs.Ordering.{nat_cmp}
use Rattle.cola_clock.specs.Clock.{period, is_odd, works, flips, ends, elapsed, window_step, window_length}
use Rattle.cola_runs.specs.Cells.{Value, Cell, Entry, Look, link_of}
use Rattle.cola_runs.specs.Weave.{weave, unlinked}
use Rattle.cola_runs.specs.Steps.{step}
use Rattle.cola_laws.specs.Chain.{Level, visibles, value_at}
use Rattle.cola_laws.specs.Plain.{empty_levels, loaded, mutated, worked, built}

abbrev Chain : Type 0
Chain = List (Level ℕ ℕ)

-- the levels after the first n puts
puts : ℕ → Chain
unfolding worked built works flips ends elapsed window_step window_length period is_odd step weave unlinked
puts zero = empty_levels 4
puts (suc n) = mutated nat_cmp 28 (n % 16) (suc (n % 32)) (Value (suc n)) (puts n)

-- the items of a run by the number of their put, a young one with 100 more; a lookahead cell as its key and 1000 more
shown : List (Cell ℕ ℕ) → List ℕ
shown [] = []
shown (Entry k (Value v) true l ∷ cells) = (100 + v) ∷ shown cells
shown (Entry k (Value v) false l ∷ cells) = v ∷ shown cells
shown (Entry k i y l ∷ cells) = 0 ∷ shown cells
shown (Look k l ∷ cells) = (1000 + k) ∷ shown cells

visible_of : Chain → List (List ℕ)
visible_of = map (λ (l : Level ℕ ℕ). shown l.visible)

shadow_of : Chain → List (List ℕ)
shadow_of = map (λ (l : Level ℕ ℕ). shown l.shadow)

-- visible length, shadow length and the three cursors of each level
marks_of : Chain → List (List ℕ)
marks_of = map (λ (l : Level ℕ ℕ). length l.visible ∷ length l.shadow ∷ l.own ∷ l.incoming ∷ l.sampled ∷ [])

-- ---- the first eight puts

visible_3 : visible_of (puts 3) ≡ (1 ∷ 2 ∷ 103 ∷ []) ∷ [] ∷ [] ∷ [] ∷ []
unfolding puts visible_of shown
visible_3 = refl

shadow_3 : shadow_of (puts 3) ≡ [] ∷ (1 ∷ 2 ∷ []) ∷ [] ∷ [] ∷ []
unfolding puts shadow_of shown
shadow_3 = refl

visible_5 : visible_of (puts 5) ≡ (3 ∷ 4 ∷ 105 ∷ []) ∷ (1 ∷ 2 ∷ []) ∷ [] ∷ [] ∷ []
unfolding puts visible_of shown
visible_5 = refl

shadow_5 : shadow_of (puts 5) ≡ [] ∷ (1 ∷ 2 ∷ 103 ∷ 104 ∷ []) ∷ [] ∷ [] ∷ []
unfolding puts shadow_of shown
shadow_5 = refl

visible_7 : visible_of (puts 7) ≡ (5 ∷ 6 ∷ 107 ∷ []) ∷ (1 ∷ 2 ∷ 103 ∷ 104 ∷ []) ∷ [] ∷ [] ∷ []
unfolding puts visible_of shown
visible_7 = refl

shadow_7 : shadow_of (puts 7) ≡ [] ∷ (3 ∷ 4 ∷ 5 ∷ 6 ∷ []) ∷ (1 ∷ 2 ∷ []) ∷ [] ∷ []
unfolding puts shadow_of shown
shadow_7 = refl

visible_8 : visible_of (puts 8) ≡ (7 ∷ 8 ∷ []) ∷ (3 ∷ 4 ∷ 5 ∷ 6 ∷ []) ∷ (1 ∷ 2 ∷ []) ∷ [] ∷ []
unfolding puts visible_of shown
visible_8 = refl

-- ---- the marks after forty-three and fifty-five puts

marks_43 : marks_of (puts 43) ≡ (3 ∷ 0 ∷ 0 ∷ 0 ∷ 0 ∷ []) ∷ (7 ∷ 5 ∷ 0 ∷ 0 ∷ 0 ∷ []) ∷ (11 ∷ 15 ∷ 0 ∷ 0 ∷ 0 ∷ []) ∷ (26 ∷ 23 ∷ 23 ∷ 5 ∷ 0 ∷ []) ∷ []
unfolding puts marks_of
marks_43 = refl

marks_55 : marks_of (puts 55) ≡ (4 ∷ 0 ∷ 0 ∷ 0 ∷ 0 ∷ []) ∷ (8 ∷ 5 ∷ 0 ∷ 0 ∷ 0 ∷ []) ∷ (16 ∷ 12 ∷ 0 ∷ 0 ∷ 0 ∷ []) ∷ (32 ∷ 32 ∷ 0 ∷ 0 ∷ 0 ∷ []) ∷ []
unfolding puts marks_of
marks_55 = refl

-- the visible runs of the levels 0 to 2 after fifty-five puts, with the numbers of their puts
visible_55 : visible_of (take 3 (puts 55)) ≡
    (53 ∷ 54 ∷ 155 ∷ 1032 ∷ [])
    ∷ (1009 ∷ 47 ∷ 48 ∷ 49 ∷ 50 ∷ 151 ∷ 152 ∷ 1032 ∷ [])
    ∷ (35 ∷ 36 ∷ 37 ∷ 38 ∷ 39 ∷ 40 ∷ 1008 ∷ 41 ∷ 42 ∷ 143 ∷ 144 ∷ 145 ∷ 146 ∷ 1016 ∷ 1024 ∷ 1032 ∷ []) ∷ []
unfolding puts visible_of shown
visible_55 = refl

marks_4 : marks_of (puts 4) ≡ (2 ∷ 0 ∷ 0 ∷ 0 ∷ 0 ∷ []) ∷ (2 ∷ 0 ∷ 0 ∷ 0 ∷ 0 ∷ []) ∷ (0 ∷ 0 ∷ 0 ∷ 0 ∷ 0 ∷ []) ∷ (0 ∷ 0 ∷ 0 ∷ 0 ∷ 0 ∷ []) ∷ []
unfolding puts marks_of
marks_4 = refl

marks_8 : marks_of (puts 8) ≡ (2 ∷ 0 ∷ 0 ∷ 0 ∷ 0 ∷ []) ∷ (4 ∷ 0 ∷ 0 ∷ 0 ∷ 0 ∷ []) ∷ (2 ∷ 0 ∷ 0 ∷ 0 ∷ 0 ∷ []) ∷ (0 ∷ 0 ∷ 0 ∷ 0 ∷ 0 ∷ []) ∷ []
unfolding puts marks_of
marks_8 = refl

marks_11 : marks_of (puts 11) ≡ (3 ∷ 0 ∷ 0 ∷ 0 ∷ 0 ∷ []) ∷ (6 ∷ 4 ∷ 0 ∷ 0 ∷ 0 ∷ []) ∷ (2 ∷ 6 ∷ 0 ∷ 0 ∷ 0 ∷ []) ∷ (0 ∷ 2 ∷ 0 ∷ 2 ∷ 0 ∷ []) ∷ []
unfolding puts marks_of
marks_11 = refl

-- ---- links: of level 2's visible run after forty-three puts, and of all visible runs after fifty-five

links_of : Chain → List (List ℕ)
links_of = map (λ (l : Level ℕ ℕ). map link_of l.visible)

links_43 : links_of (take 1 (drop 2 (puts 43))) ≡ (0 ∷ 0 ∷ 0 ∷ 8 ∷ 16 ∷ 24 ∷ 24 ∷ 24 ∷ 24 ∷ 24 ∷ 24 ∷ []) ∷ []
unfolding puts links_of
links_43 = refl

visible_43 : visible_of (take 1 (drop 2 (puts 43))) ≡ (33 ∷ 34 ∷ 1008 ∷ 1016 ∷ 1024 ∷ 27 ∷ 28 ∷ 29 ∷ 30 ∷ 31 ∷ 32 ∷ []) ∷ []
unfolding puts visible_of shown
visible_43 = refl

-- the bottom's shadow after twenty-eight of its thirty-seven steps
shadow_43 : shadow_of (drop 3 (puts 43)) ≡ (33 ∷ 34 ∷ 3 ∷ 4 ∷ 5 ∷ 6 ∷ 7 ∷ 8 ∷ 9 ∷ 10 ∷ 11 ∷ 12 ∷ 13 ∷ 14 ∷ 15 ∷ 16 ∷ 17 ∷ 18 ∷ 19 ∷ 20 ∷ 21 ∷ 22 ∷ 23 ∷ []) ∷ []
unfolding puts shadow_of shown
shadow_43 = refl

links_55 : links_of (take 3 (puts 55)) ≡
    (0 ∷ 0 ∷ 0 ∷ 0 ∷ [])
    ∷ (0 ∷ 8 ∷ 8 ∷ 8 ∷ 8 ∷ 8 ∷ 8 ∷ 8 ∷ [])
    ∷ (0 ∷ 0 ∷ 0 ∷ 0 ∷ 0 ∷ 0 ∷ 0 ∷ 8 ∷ 8 ∷ 8 ∷ 8 ∷ 8 ∷ 8 ∷ 8 ∷ 16 ∷ 24 ∷ []) ∷ []
unfolding puts links_of
links_55 = refl

-- the answers of all levels for key 24 after fifty-five puts, for key 11 after forty-three, and for a key that is in none
value_24 : value_at nat_cmp (visibles (puts 55)) 24 ≡ Some 24
unfolding puts
value_24 = refl

value_11 : value_at nat_cmp (visibles (puts 43)) 11 ≡ Some 43
unfolding puts
value_11 = refl

value_33 : value_at nat_cmp (visibles (puts 55)) 33 ≡ None
unfolding puts
value_33 = refl

-- ---- four old items in level 0 at clock 0, which no map gives: a fifth would overflow its slot, a second of a key would not

crowded : Level ℕ ℕ
crowded = record { visible = Entry 1 (Value 1) false 0 ∷ Entry 2 (Value 2) false 0 ∷ Entry 3 (Value 3) false 0 ∷ Entry 4 (Value 4) false 0 ∷ []; shadow = []; own = 0; incoming = 0; sampled = 0 }

fifth : length (built nat_cmp 0 5 (Value 5) crowded (empty_levels 3)).shadow ≡ 5
unfolding built crowded period is_odd weave unlinked
fifth = refl

second : length (built nat_cmp 0 2 (Value 9) crowded (empty_levels 3)).shadow ≡ 4
unfolding built crowded period is_odd weave unlinked
second = refl

-- ---- a bottom of thirty-two keys, with three levels of lookahead cells alone over it

bottom_32 : ℕ → List (Cell ℕ ℕ)
bottom_32 zero = []
bottom_32 (suc n) = Entry (32 - n) (Value (32 - n)) false 0 ∷ bottom_32 n

loaded_32 : visible_of (take 3 (loaded 3 (bottom_32 32))) ≡ [] ∷ [] ∷ (1008 ∷ 1016 ∷ 1024 ∷ 1032 ∷ []) ∷ []
unfolding visible_of shown bottom_32
loaded_32 = refl

loaded_links : links_of (take 3 (loaded 3 (bottom_32 32))) ≡ [] ∷ [] ∷ (0 ∷ 8 ∷ 16 ∷ 24 ∷ []) ∷ []
unfolding links_of bottom_32
loaded_links = refl

loaded_value : value_at nat_cmp (visibles (loaded 3 (bottom_32 32))) 17 ≡ Some 17
unfolding bottom_32
loaded_value = refl
