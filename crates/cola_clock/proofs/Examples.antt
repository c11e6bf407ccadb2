-- The definitions of the clock, computed at the clocks 0 to 15 of a store with levels 0 to 4.
use Rattle.std.proofs.Common.{◌≡◌, ℕ, true, false, List, [], ◌∷◌, refl}
use Rattle.std.specs.Prelude.{map}
use Rattle.cola_clock.specs.Clock.{period, elapsed, is_odd, flips, works, is_before, is_over, window_step, window_length, visible_slot, ends, working_clocks, working_levels}

clocks : List ℕ
clocks = 0 ∷ 1 ∷ 2 ∷ 3 ∷ 4 ∷ 5 ∷ 6 ∷ 7 ∷ 8 ∷ []

level_1_works : map (λ t. works t 1) clocks ≡ true ∷ false ∷ true ∷ false ∷ true ∷ false ∷ true ∷ false ∷ true ∷ []
unfolding clocks works elapsed
level_1_works = refl

level_2_works : map (λ t. works t 2) clocks ≡ false ∷ true ∷ false ∷ false ∷ false ∷ true ∷ false ∷ false ∷ false ∷ []
unfolding clocks works elapsed
level_2_works = refl

level_3_works : map (λ t. works t 3) clocks ≡ false ∷ false ∷ true ∷ true ∷ false ∷ false ∷ false ∷ false ∷ false ∷ []
unfolding clocks works elapsed
level_3_works = refl

level_2_is_before : map (λ t. is_before t 2) clocks ≡ true ∷ false ∷ false ∷ false ∷ true ∷ false ∷ false ∷ false ∷ true ∷ []
unfolding clocks is_before elapsed
level_2_is_before = refl

level_1_is_over : map (λ t. is_over t 1) clocks ≡ false ∷ true ∷ false ∷ true ∷ false ∷ true ∷ false ∷ true ∷ false ∷ []
unfolding clocks is_over elapsed
level_1_is_over = refl

level_3_is_over : map (λ t. is_over t 3) clocks ≡ false ∷ false ∷ false ∷ false ∷ true ∷ true ∷ true ∷ true ∷ false ∷ []
unfolding clocks is_over elapsed
level_3_is_over = refl

level_0_flips : map (λ t. flips t 0) clocks ≡ true ∷ true ∷ true ∷ true ∷ true ∷ true ∷ true ∷ true ∷ true ∷ []
unfolding clocks flips
level_0_flips = refl

level_2_flips : map (λ t. flips t 2) clocks ≡ false ∷ false ∷ false ∷ true ∷ false ∷ false ∷ false ∷ true ∷ false ∷ []
unfolding clocks flips
level_2_flips = refl

-- the visible slots of levels 0 to 3 at clock 11
slots_at_eleven : map (λ j. visible_slot 11 j) (0 ∷ 1 ∷ 2 ∷ 3 ∷ []) ≡ 1 ∷ 1 ∷ 0 ∷ 1 ∷ []
unfolding period visible_slot
slots_at_eleven = refl

-- the periods of levels 0 to 3 at clock 11, and which of them are odd
odd_at_eleven : map (λ j. is_odd (period 11 j)) (0 ∷ 1 ∷ 2 ∷ 3 ∷ []) ≡ true ∷ true ∷ false ∷ true ∷ []
unfolding period is_odd
odd_at_eleven = refl

-- at the clocks 4 to 7 the window of level 4 goes on from its first mutation to its fourth
level_4_window : map (λ t. window_step t 4) (4 ∷ 5 ∷ 6 ∷ 7 ∷ []) ≡ 0 ∷ 1 ∷ 2 ∷ 3 ∷ []
unfolding window_step elapsed
level_4_window = refl

window_lengths : map window_length (1 ∷ 2 ∷ 3 ∷ 4 ∷ []) ≡ 1 ∷ 1 ∷ 2 ∷ 4 ∷ []
unfolding window_length
window_lengths = refl

-- the windows of the levels 1 to 3 that end with the mutations at the clocks 0 to 8
ends_of_2 : map (λ t. ends t 2) clocks ≡ false ∷ true ∷ false ∷ false ∷ false ∷ true ∷ false ∷ false ∷ false ∷ []
unfolding clocks ends works window_step window_length elapsed
ends_of_2 = refl

ends_of_3 : map (λ t. ends t 3) clocks ≡ false ∷ false ∷ false ∷ true ∷ false ∷ false ∷ false ∷ false ∷ false ∷ []
unfolding clocks ends works window_step window_length elapsed
ends_of_3 = refl

-- level 4 works at four of the sixteen clocks of its second period
working_clocks_of_4 : working_clocks 16 4 16 ≡ 4
unfolding working_clocks works elapsed
working_clocks_of_4 = refl

-- at clock 5 the levels 2 and 4 work
working_levels_at_five : working_levels 5 4 ≡ 2
unfolding working_levels works elapsed
working_levels_at_five = refl
