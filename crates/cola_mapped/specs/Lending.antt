-- What was lent, as it lends its bytes.
use Rattle.std.specs.Prelude.{ℕ, List, Some}
use Rattle.std.specs.Borrow.{Lends, MutBor, Fml, u8}
use denote.Array.{Array}
use Rattle.cola_mapped.specs.declared.lent.Lent.{Lent}
use Rattle.cola_mapped.specs.contracts.lent.Lent.{the_row}

-- the same with these bytes
abbrev pub with_bytes : Lent → List ℕ → Lent
with_bytes r bytes = record r { bytes = Some bytes }

-- it ends with the last bytes behind the slice
abbrev pub LendsBytes : MutBor Lent → MutBor (List ℕ) → Fml
LendsBytes s r = Lends the_row (Array u8 0) s r (with_bytes s.now)
