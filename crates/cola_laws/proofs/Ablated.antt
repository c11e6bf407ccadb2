-- The laws are not vacuous: a store in which one part of the design is left out or weakened has levels that are not sound,
-- where the same mutations on the store as it is keep them sound. A plain test is computed, which answers true on each sound
-- chain (`Passing.antt`): so where it answers false, what is refuted is soundness itself.
use Rattle.std.proofs.Common.{◌≡◌, ℕ, zero, suc, ◌+◌, ◌-◌, ◌%◌, Bool, true, false, not, cond, ◌&&◌, List, [], ◌∷◌, Option, None, Some, refl, sym, ap, ◌∙◌}
use Rattle.std.specs.Prelude.{◌==◌, ◌||◌, nat_le}
use Rattle.std.specs.Ordering.{nat_cmp}
use mathlib.Core.Path.{ap₂}
use Rattle.cola_clock.specs.Clock.{period, elapsed, is_odd, works, is_before, is_over, window_step, window_length, flips, ends}
use Rattle.cola_runs.specs.Cells.{Item, Value, Tombstone, Cell, Entry, Look, every_eighth}
use Rattle.cola_runs.specs.Weave.{Part, all_items, young_items, bottom_items, unlinked, weave}
use Rattle.cola_runs.specs.Steps.{steps, step}
use Rattle.cola_laws.specs.Chain.{Level, part_of, build_of, next_runs, first_keys}
use Rattle.cola_laws.specs.Mutation.{new_run, turned, left_window, levels_after}
use Rattle.cola_laws.specs.Plain.{empty_levels, with_build, worked, all_worked, built, mutated, IsSoundChain}
use Rattle.cola_clock.proofs.Places.{and_true_right}
use Rattle.cola_laws.proofs.Facts.{sampled-nothing, sampled-run}
use Rattle.cola_laws.proofs.Tested.{sound, answers}
use Rattle.cola_laws.proofs.Passing.{not-sound, not-answered, numbers, numbers-rise}

-- what a store may do otherwise than it should
record Ways : Type 0 where
  -- how many steps a mutation takes at a working level
  pub count : ℕ
  -- the part of a level in an even period, in an odd one, and at the bottom
  pub even_part : Part
  pub odd_part : Part
  pub bottom_part : Part
  -- the sample has the keys of the cells at this index and at each eighth, or so many, after it
  pub first_sampled : ℕ
  -- in an odd period the sample is that of the shadow below
  pub samples_shadow : Bool
  -- the last mutation of a window takes its steps too
  pub takes_last : Bool
  -- the cursors become 0 at the end of a window
  pub resets : Bool

abbrev as_designed : Ways
as_designed = record { count = 28; even_part = all_items; odd_part = young_items; bottom_part = bottom_items; first_sampled = 7; samples_shadow = true; takes_last = true; resets = true }

-- the keys at index n and then at every one after n more
every : ℕ → ℕ → List (Cell ℕ ℕ) → List ℕ
every again n [] = []
every again zero (Entry k i y l ∷ cells) = k ∷ every again again cells
every again zero (Look k l ∷ cells) = k ∷ every again again cells
every again (suc n) (c ∷ cells) = every again n cells

part_in : Ways → Bool → List (Level ℕ ℕ) → Part
part_in w odd [] = w.bottom_part
part_in w odd (m ∷ below) = cond odd w.odd_part w.even_part

keys_in : Ways → Bool → List (Level ℕ ℕ) → List ℕ
keys_in w odd [] = []
keys_in w odd (m ∷ below) = every w.first_sampled w.first_sampled (cond (odd && w.samples_shadow) m.shadow m.visible)

work_in : Ways → ℕ → ℕ → List (Cell ℕ ℕ) → Level ℕ ℕ → List (Level ℕ ℕ) → Level ℕ ℕ
work_in w t j above l below =
    cond (works t j && (w.takes_last || not (ends t j)))
    (with_build l (steps nat_cmp (part_in w (is_odd (period t j)) below) l.visible above (keys_in w (is_odd (period t j)) below) w.count (build_of l)))
    l

all_work_in : Ways → ℕ → ℕ → List (Cell ℕ ℕ) → List (Level ℕ ℕ) → List (Level ℕ ℕ)
all_work_in w t j above [] = []
all_work_in w t j above (l ∷ below) = work_in w t j above l below ∷ all_work_in w t (suc j) l.visible below

after_in : Ways → ℕ → ℕ → List (Level ℕ ℕ) → List (Level ℕ ℕ)
after_in w t j [] = []
after_in w t j (l ∷ ls) = cond (flips t j) (turned l) (cond (ends t j && w.resets) (left_window l) l) ∷ after_in w t (suc j) ls

top_in : Ways → ℕ → ℕ → Item ℕ → Level ℕ ℕ → List (Level ℕ ℕ) → Level ℕ ℕ
top_in w t k item top below = record {
  visible = top.visible;
  shadow = weave nat_cmp (part_in w (is_odd (period t 0)) below) top.visible (new_run k item) (keys_in w (is_odd (period t 0)) below);
  own = 0;
  incoming = 0;
  sampled = 0;
}

mutated_in : Ways → ℕ → ℕ → Item ℕ → List (Level ℕ ℕ) → List (Level ℕ ℕ)
mutated_in w t k item [] = []
mutated_in w t k item (top ∷ below) = after_in w t 0 (top_in w t k item top below ∷ all_work_in w t 1 top.visible below)

-- ---- as it is designed, this is the plain program for one mutation

every-is : (cells : List (Cell ℕ ℕ)) (n : ℕ) → every 7 n cells ≡ every_eighth n cells
unfolding every
every-is [] zero = refl
every-is [] (suc n) = refl
every-is (Entry k i y l ∷ cells) zero = ap (λ (ks : List ℕ). k ∷ ks) (every-is cells 7)
every-is (Look k l ∷ cells) zero = ap (λ (ks : List ℕ). k ∷ ks) (every-is cells 7)
every-is (Entry k i y l ∷ cells) (suc n) = every-is cells n
every-is (Look k l ∷ cells) (suc n) = every-is cells n

keys-are : (t j : ℕ) (below : List (Level ℕ ℕ)) → keys_in as_designed (is_odd (period t j)) below ≡ first_keys (next_runs t j below)
unfolding keys_in
keys-are t j [] = sym (sampled-nothing ℕ ℕ t j)
keys-are t j (m ∷ below) =
    rw (and_true_right (is_odd (period t j))) (every-is (cond (is_odd (period t j)) m.shadow m.visible) 7 ∙ sym (sampled-run t j m below))

part-is : (odd : Bool) (below : List (Level ℕ ℕ)) → part_in as_designed odd below ≡ part_of odd below
unfolding part_in
part-is odd [] = refl
part-is odd (m ∷ below) = refl

work-is : (t j : ℕ) (above : List (Cell ℕ ℕ)) (l : Level ℕ ℕ) (below : List (Level ℕ ℕ)) → work_in as_designed t j above l below ≡ worked nat_cmp 28 t j above l below
unfolding work_in worked
work-is t j above l below = rw (and_true_right (works t j), part-is (is_odd (period t j)) below, keys-are t j below) refl

all-work-is : (t j : ℕ) (above : List (Cell ℕ ℕ)) (ls : List (Level ℕ ℕ)) → all_work_in as_designed t j above ls ≡ all_worked nat_cmp 28 t j above ls
unfolding all_work_in
all-work-is t j above [] = refl
all-work-is t j above (l ∷ below) = ap₂ (λ (x : Level ℕ ℕ) (xs : List (Level ℕ ℕ)). x ∷ xs) (work-is t j above l below) (all-work-is t (suc j) l.visible below)

after-is : (t j : ℕ) (ls : List (Level ℕ ℕ)) → after_in as_designed t j ls ≡ levels_after t j ls
unfolding after_in
after-is t j [] = refl
after-is t j (l ∷ ls) = rw (and_true_right (ends t j), after-is t (suc j) ls) refl

top-is : (t k : ℕ) (item : Item ℕ) (top : Level ℕ ℕ) (below : List (Level ℕ ℕ)) → top_in as_designed t k item top below ≡ built nat_cmp t k item top below
unfolding top_in built
top-is t k item top below = rw (part-is (is_odd (period t 0)) below, keys-are t 0 below) refl

mutated-is : (t k : ℕ) (item : Item ℕ) (ls : List (Level ℕ ℕ)) → mutated_in as_designed t k item ls ≡ mutated nat_cmp 28 t k item ls
unfolding mutated_in
mutated-is t k item [] = refl
mutated-is t k item (top ∷ below) =
    after-is t 0 (top_in as_designed t k item top below ∷ all_work_in as_designed t 1 top.visible below)
    ∙ ap₂ (λ (x : Level ℕ ℕ) (xs : List (Level ℕ ℕ)). levels_after t 0 (x ∷ xs)) (top-is t k item top below) (all-work-is t 1 top.visible below)

-- the levels of a store for 32 keys after the first n puts of the keys 1 to 32 in turn, each with the number of its put
puts_in : Ways → ℕ → List (Level ℕ ℕ)
unfolding mutated_in top_in after_in all_work_in work_in keys_in part_in every works flips ends elapsed window_step window_length period is_odd step weave unlinked
puts_in w zero = empty_levels 4
puts_in w (suc n) = mutated_in w (n % 16) (suc (n % 32)) (Value (suc n)) (puts_in w n)

-- the map after them: key k has the number of its last put
put_map : ℕ → ℕ → Option ℕ
put_map n q = cond (nat_le q n) (Some (cond (nat_le (q + 32) n) (q + 32) q)) None

-- whether the levels are sound, and whether they answer as the map does
holds_in : Ways → ℕ → Bool
unfolding puts_in put_map works is_before is_over elapsed window_step window_length period is_odd weave unlinked
holds_in w n = sound true 32 (numbers 1 32) (put_map n) (n % 16) (puts_in w n)

answers_in : Ways → ℕ → Bool
unfolding puts_in put_map
answers_in w n = answers (numbers 1 32) (put_map n) (puts_in w n)

-- the levels after n such puts are not sound for the map
abbrev IsUnsound : Ways → ℕ → Type 0
IsUnsound w n = IsSoundChain nat_cmp 32 (n % 16) (put_map n) (puts_in w n) → ⊥

-- since the test answers false
unsound : (w : Ways) (n : ℕ) → holds_in w n ≡ false → IsUnsound w n
unfolding holds_in
unsound w n fails = not-sound 32 (numbers 1 32) (put_map n) (n % 16) (puts_in w n) (numbers-rise 1 32) fails

-- or since a key's answer is not the map's
wrong : (w : Ways) (n : ℕ) → answers_in w n ≡ false → IsUnsound w n
unfolding answers_in
wrong w n fails = not-answered 32 (numbers 1 32) (put_map n) (n % 16) (puts_in w n) fails

-- ---- as it is designed, the test answers true

designed_8 : holds_in as_designed 8 ≡ true
unfolding holds_in
designed_8 = refl

designed_16 : holds_in as_designed 16 ≡ true
unfolding holds_in
designed_16 = refl

designed_43 : holds_in as_designed 43 ≡ true
unfolding holds_in
designed_43 = refl

designed_55 : holds_in as_designed 55 ≡ true
unfolding holds_in
designed_55 = refl

-- ---- 27 steps for 28: the bottom's build is behind the clock; with 13 an unfinished shadow becomes visible

steps_27 : IsUnsound (record as_designed { count = 27 }) 43
unfolding holds_in
steps_27 = unsound (record as_designed { count = 27 }) 43 refl

steps_13 : IsUnsound (record as_designed { count = 13 }) 24
unfolding answers_in
steps_13 = wrong (record as_designed { count = 13 }) 24 refl

-- ---- no young flag in even periods: the odd period drops the items that came in

unmarked : Ways
unmarked = record as_designed { even_part = record all_items { marks_young = false } }

no_young_flag : IsUnsound unmarked 8
unfolding answers_in unmarked
no_young_flag = wrong unmarked 8 refl

-- ---- all own items in odd periods: the runs grow too long

hoarding : Ways
hoarding = record as_designed { odd_part = record young_items { only_young = false } }

old_in_odd_periods : IsUnsound hoarding 8
unfolding holds_in hoarding
old_in_odd_periods = unsound hoarding 8 refl

-- ---- every 7th cell sampled: the lookahead cells are not the sample that a search counts on

every_seventh : IsUnsound (record as_designed { first_sampled = 6 }) 16
unfolding holds_in
every_seventh = unsound (record as_designed { first_sampled = 6 }) 16 refl

-- ---- the sample of the visible run in odd periods too: after the flip it is that of a run that is gone

visible_sampled : IsUnsound (record as_designed { samples_shadow = false }) 16
unfolding holds_in
visible_sampled = unsound (record as_designed { samples_shadow = false }) 16 refl

-- ---- the last steps of a window left out: an unfinished shadow becomes visible

last_left_out : IsUnsound (record as_designed { takes_last = false }) 8
unfolding answers_in
last_left_out = wrong (record as_designed { takes_last = false }) 8 refl

-- ---- cursors kept at the end of a window: the next build leaves out what they have passed

cursors_kept : IsUnsound (record as_designed { resets = false }) 8
unfolding answers_in
cursors_kept = wrong (record as_designed { resets = false }) 8 refl

-- ---- tombstones dropped at each level: a deleted key comes back

after_delete : Ways → List (Level ℕ ℕ)
unfolding mutated_in top_in after_in all_work_in work_in keys_in part_in every works flips ends elapsed window_step window_length period is_odd step weave unlinked
after_delete w = mutated_in w 8 1 Tombstone (puts_in w 8)

map_after_delete : ℕ → Option ℕ
unfolding put_map
map_after_delete q = cond (q == 1) None (put_map 8 q)

delete_answers : Ways → Bool
unfolding after_delete map_after_delete puts_in
delete_answers w = answers (numbers 1 32) map_after_delete (after_delete w)

forgetting : Ways
forgetting = record as_designed { even_part = record all_items { drops_tombstones = true }; odd_part = record young_items { drops_tombstones = true } }

tombstone_kept : delete_answers as_designed ≡ true
unfolding delete_answers
tombstone_kept = refl

tombstones_dropped : IsSoundChain nat_cmp 32 9 map_after_delete (after_delete forgetting) → ⊥
unfolding delete_answers forgetting
tombstones_dropped = not-answered 32 (numbers 1 32) map_after_delete 9 (after_delete forgetting) refl

-- ---- shadows that need not keep their own items: a key whose old item level 1 has, and its finished shadow has not,
-- since a young item of it stands above. All else that the test asks holds of these levels at clock 5, and breaks at clock
-- 6: the item stands in the shadow of level 2, over which none of it is visible. That all else of soundness holds at clock 5
-- is what the test says, and no more: no proof ties a test that answers true to soundness

old : ℕ → Cell ℕ ℕ
old k = Entry k (Value k) false 0

young : ℕ → Cell ℕ ℕ
young k = Entry k (Value k) true 0

lossy : List (Level ℕ ℕ)
unfolding old young
lossy =
    record { visible = old 3 ∷ old 4 ∷ young 5 ∷ []; shadow = []; own = 0; incoming = 0; sampled = 0 }
    ∷ record { visible = old 1 ∷ old 2 ∷ old 5 ∷ []; shadow = old 1 ∷ old 2 ∷ young 3 ∷ young 4 ∷ []; own = 0; incoming = 0; sampled = 0 }
    ∷ record { visible = []; shadow = []; own = 0; incoming = 0; sampled = 0 }
    ∷ record { visible = []; shadow = []; own = 0; incoming = 0; sampled = 0 } ∷ []

sound_5 : Bool → Bool
unfolding lossy put_map works is_before is_over elapsed window_step window_length period is_odd weave unlinked
sound_5 asked = sound asked 32 (numbers 1 32) (put_map 5) 5 lossy

sound_6 : Bool → Bool
unfolding lossy put_map mutated_in top_in after_in all_work_in work_in keys_in part_in every works flips ends is_before is_over elapsed window_step window_length period is_odd step weave unlinked
sound_6 asked = sound asked 32 (numbers 1 32) (put_map 6) 6 (mutated_in as_designed 5 6 (Value 6) lossy)

unasked_before : sound_5 false ≡ true
unfolding sound_5
unasked_before = refl

unasked_after : sound_6 false ≡ false
unfolding sound_6
unasked_after = refl

asked_before : IsSoundChain nat_cmp 32 5 (put_map 5) lossy → ⊥
unfolding sound_5
asked_before = not-sound 32 (numbers 1 32) (put_map 5) 5 lossy (numbers-rise 1 32) refl

-- ---- the bottom keeps tombstones: its run is no longer one of values alone

-- the n-th change: a put of key n, but the changes 9 to 16 delete the keys 1 to 8
change : ℕ → ℕ × Item ℕ
change n = cond (nat_le 9 n && nat_le n 16) (n - 8, Tombstone) (n, Value n)

changes_in : Ways → ℕ → List (Level ℕ ℕ)
unfolding change mutated_in top_in after_in all_work_in work_in keys_in part_in every works flips ends elapsed window_step window_length period is_odd step weave unlinked
changes_in w zero = empty_levels 4
changes_in w (suc n) = mutated_in w (n % 16) (change (suc n)).0 (change (suc n)).1 (changes_in w n)

change_map : ℕ → ℕ → Option ℕ
change_map n q = cond (nat_le q n && not (nat_le q 16 && nat_le 9 q) && not (nat_le q 8 && nat_le (q + 8) n)) (Some q) None

changes_hold : Ways → ℕ → Bool
unfolding changes_in change_map works is_before is_over elapsed window_step window_length period is_odd weave unlinked
changes_hold w n = sound true 32 (numbers 1 32) (change_map n) (n % 16) (changes_in w n)

changes_designed : changes_hold as_designed 24 ≡ true
unfolding changes_hold
changes_designed = refl

keeping : Ways
keeping = record as_designed { bottom_part = record bottom_items { drops_tombstones = false } }

bottom_keeps : IsSoundChain nat_cmp 32 8 (change_map 24) (changes_in keeping 24) → ⊥
unfolding changes_hold keeping
bottom_keeps = not-sound 32 (numbers 1 32) (change_map 24) 8 (changes_in keeping 24) (numbers-rise 1 32) refl

-- ---- not all that the design says is needed: incoming items marked young in odd periods too break nothing

young_in_odd_periods : holds_in (record as_designed { odd_part = record young_items { marks_young = true } }) 55 ≡ true
unfolding holds_in
young_in_odd_periods = refl
