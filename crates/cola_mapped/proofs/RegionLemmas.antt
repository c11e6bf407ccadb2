-- A region that is not empty has bytes.
use Rattle.std.proofs.Common.{◌≡◌, ℕ, List, refl, sym, true≢false}
use Rattle.std.specs.Prelude.{Option, Some, None, IsSome}

pub some_of : (o : Option (List ℕ)) → IsSome o → (xs : List ℕ) × (o ≡ Some xs)
some_of None s = absurd (true≢false (sym s))
some_of (Some xs) s = (xs, refl)
