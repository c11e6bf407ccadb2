-- The definitions computed at worked runs.
use Rattle.std.proofs.Common.{◌≡◌, ℕ, true, List, [], ◌∷◌, refl, Some, map, reverse}
use Rattle.std.specs.Ordering.{nat_cmp, flip_args}
use Rattle.cola_runs.specs.Cells.{Value, Tombstone, Cell, Entry, Look}
use Rattle.cola_pairs.specs.Walk.{WalksWithin, Ends, Takes}
use Rattle.cola_reverse.specs.Falling.{fronts_below, from_low, leave_keys}

abbrev young : ℕ → ℕ → Cell ℕ ℕ
young k v = Entry k (Value v) true 0

abbrev gone : ℕ → Cell ℕ ℕ
gone k = Entry k Tombstone true 0

-- a shadowed value, tombstones, and a key with its item and a lookahead cell in one run
abbrev runs : List (List (Cell ℕ ℕ))
runs = (young 1 10 ∷ gone 2 ∷ young 5 50 ∷ []) ∷ (Look 2 0 ∷ gone 5 ∷ Look 5 0 ∷ gone 7 ∷ Look 8 0 ∷ []) ∷ (young 1 1 ∷ young 2 2 ∷ young 3 3 ∷ young 5 5 ∷ []) ∷ []

-- from 9 down to 1: 8 is a lookahead cell, 7 gone, 5 of the first run, 3, 2 gone, 1 of the first run
walk_down : WalksWithin (flip_args nat_cmp) (from_low nat_cmp (Some 1)) (map reverse (fronts_below nat_cmp (Some 9) runs)) ((5, 50) ∷ (3, 3) ∷ (1, 10) ∷ [])
walk_down =
    Takes 8 refl (refl, (refl, (refl, tt)))
    (Takes 7 refl (refl, (refl, (refl, tt)))
    (Takes 5 refl (refl, (refl, (refl, tt)))
    (Takes 3 refl (refl, (refl, (refl, tt)))
    (Takes 2 refl (refl, (refl, (refl, tt)))
    (Takes 1 refl (refl, (tt, (refl, tt))) (Ends (tt, (tt, (tt, tt)))) refl) refl) refl) refl) refl) refl

left_of_5 : leave_keys nat_cmp 5 (fronts_below nat_cmp (Some 6) runs) ≡ (young 1 10 ∷ gone 2 ∷ []) ∷ (Look 2 0 ∷ []) ∷ (young 1 1 ∷ young 2 2 ∷ young 3 3 ∷ []) ∷ []
left_of_5 = refl
