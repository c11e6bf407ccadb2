-- The definitions, computed on worked clocks.
use Rattle.std.proofs.Common.{◌≡◌, ℕ, ◌+◌, ◌*◌, ◌/◌, ◌^◌, ◌≤◌, zero-le, true, false, List, [], ◌∷◌, refl, arith}
use Rattle.std.specs.Prelude.{map}
use Rattle.cola_clock.specs.Clock.{period, elapsed, is_odd, works, is_before, visible_slot, window_step}
use Rattle.cola_clock.specs.Marks.{Marks, AreCursorsAtRest, AreLevelMarks, AreAllMarks}
use Rattle.cola_transfers.specs.Credit.{credit, credits, begins, parts, file_cells}
use Rattle.cola_transfers.specs.Blocks.{block_cells, groups, source_left, put_down, unwritten}
use Rattle.cola_transfers.specs.Chain.{Readers, merge_left, shadow_left}

clocks : List ℕ
clocks = 0 ∷ 1 ∷ 2 ∷ 3 ∷ 4 ∷ 5 ∷ 6 ∷ 7 ∷ 8 ∷ []

-- a window of level 2 begins with the clock after 0, 4 and 8
begins_of_2 : map (λ t. begins t 2) clocks ≡ true ∷ false ∷ false ∷ false ∷ true ∷ false ∷ false ∷ false ∷ true ∷ []
unfolding clocks begins works elapsed
begins_of_2 = refl

credit_of_1 : map (λ t. credit t 1) clocks ≡ 4 ∷ 3 ∷ 4 ∷ 3 ∷ 4 ∷ 3 ∷ 4 ∷ 3 ∷ 4 ∷ []
unfolding clocks credit is_before elapsed
credit_of_1 = refl

credit_of_2 : map (λ t. credit t 2) clocks ≡ 4 ∷ 7 ∷ 6 ∷ 5 ∷ 4 ∷ 7 ∷ 6 ∷ 5 ∷ 4 ∷ []
unfolding clocks credit is_before elapsed
credit_of_2 = refl

credit_of_3 : map (λ t. credit t 3) clocks ≡ 8 ∷ 7 ∷ 14 ∷ 13 ∷ 12 ∷ 11 ∷ 10 ∷ 9 ∷ 8 ∷ []
unfolding clocks credit is_before elapsed
credit_of_3 = refl

-- of the levels 1 to 3 together, which is at most 28
credits_of_3 : map (λ t. credits t 0 3) clocks ≡ 16 ∷ 17 ∷ 24 ∷ 21 ∷ 20 ∷ 21 ∷ 20 ∷ 17 ∷ 16 ∷ []
unfolding clocks credits credit is_before elapsed
credits_of_3 = refl

-- the numbers 3 to 16 lie in the groups 0 to 2 of eight, the numbers 8 to 15 in one
groups_of_eight : (groups 8 3 17 ≡ 3) × (groups 8 8 16 ≡ 1) × (groups 8 8 8 ≡ 0)
groups_of_eight = (refl, refl, refl)

-- a run of 30 cells, read up to cell 9 in blocks of 8: three blocks are left, or two where block 1 is held; none where a
-- slot is smaller than a block
left_of_thirty : (source_left 32 8 8 (λ n. false) 30 9 ≡ 3) × (source_left 32 8 8 (λ n. true) 30 9 ≡ 2) × (source_left 32 64 64 (λ n. false) 30 9 ≡ 0)
left_of_thirty = (refl, refl, refl)

-- of a shadow of 11 cells one block of 8 is written while its merge goes on, and two once it has ended
down_of_eleven : (put_down 8 11 false ≡ 1) × (put_down 8 11 true ≡ 2) × (put_down 8 16 true ≡ 2) × (unwritten 32 8 11 false ≡ 3)
down_of_eleven = (refl, refl, refl, refl)

-- a reader that holds no block
none : Readers
none = record { own = λ l s n. false; incoming = λ l s n. false; sample = λ l s n. false }

-- a full run, over an empty shadow
abbrev full : ℕ → Marks
full n = record { visible = n; shadow = 0; own = 0; incoming = 0; sampled = 0 }

-- the 14 cannot be less: where all runs are full, the window of level 2 begins at clock 1 with 14 * 2^2 / 8 blocks left, and
-- writes 4 * 2^2 / 8; with blocks of 16 cells the window of level 3 begins at clock 2 with 14 * 2^3 / 16
tight : (begins 0 2 ≡ true) × (merge_left 0 none 1 1 8 (full 16) (full 32 ∷ []) ≡ 7) × (8 * 7 ≡ 14 * 2 ^ 2) × (shadow_left 0 1 1 8 (full 16) (full 32 ∷ []) ≡ 2) × (8 * 2 ≡ 4 * 2 ^ 2)
unfolding begins works elapsed none period is_odd visible_slot
tight = (refl, refl, refl, refl, refl)

tight_doubled : (begins 1 3 ≡ true) × (merge_left 1 none 2 2 16 (full 32) (full 64 ∷ []) ≡ 7) × (16 * 7 ≡ 14 * 2 ^ 3)
unfolding begins works elapsed none period is_odd visible_slot
tight_doubled = (refl, refl, refl)

-- and these are marks that the levels may have there
full_rests : (n : ℕ) → AreCursorsAtRest (full n)
full_rests n = record { own_rests = refl; incoming_rests = refl; sampled_rests = refl }

full_may_be : (t j above n : ℕ) (below : List Marks) → 1 ≤ j → n ≤ 2 ^ (j + 2) → window_step t j ≡ 0 → AreLevelMarks 0 t j above (full n) below
full_may_be t j above n below some fits first = record {
  visible_fits = fits;
  shadow_fits = zero-le;
  first = λ none_above. absurd (omega arith);
  before = λ early. record { empty = refl; at_rest = full_rests n };
  inside = λ level work. record {
    own_within = zero-le;
    incoming_within = zero-le;
    sampled_within = zero-le;
    enough = omega arith;
    sampled_done = zero-le;
    done_consumed = zero-le;
  };
  after = λ over. full_rests n;
}

tight_may_be : AreAllMarks 0 1 2 8 (full 16 ∷ full 32 ∷ [])
unfolding window_step elapsed
tight_may_be = (full_may_be 1 2 8 16 (full 32 ∷ []) (omega arith) (omega arith) refl, (full_may_be 1 3 16 32 [] (omega arith) (omega arith) refl, tt))

-- the bounds of a store with levels 0 to 3 and blocks of 8 cells after 100 mutations: 700 + 64 reads and 200 + 16 writes
bounds_at_hundred : (parts (14 * (100 * 4)) (block_cells 0) + 4 * (file_cells 3 / block_cells 0) ≡ 764) × (parts (4 * (100 * 4)) (block_cells 0) + file_cells 3 / block_cells 0 ≡ 216)
bounds_at_hundred = (refl, refl)
