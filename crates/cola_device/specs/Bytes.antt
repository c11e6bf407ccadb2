-- What the calls of a device say of the bytes that it tells.
use Rattle.std.specs.Prelude.{◌≡◌, ℕ, ◌+◌, ◌≤◌, List, ◌++◌, length, take, drop, replicate, Option, Result, MatchResult, OnOk, IfSome}
use Rattle.cola_outside.specs.Told.{Both}

-- so many of the bytes, from a place on
abbrev pub part : List ℕ → ℕ → ℕ → List ℕ
part bytes at count = take count (drop at bytes)

-- the bytes with new ones at a place: those before it, the new ones, and those after them
abbrev pub splice : List ℕ → ℕ → List ℕ → List ℕ
splice bytes at new = take at bytes ++ (new ++ drop (length new) (drop at bytes))

-- where bytes are told, there are none
abbrev pub IsEmpty : Option (List ℕ) → Type 0
IsEmpty told = IfSome told (λ bytes. length bytes ≡ 0)

-- where bytes are told, there are so many
abbrev pub HasSize : Option (List ℕ) → ℕ → Type 0
HasSize told size = IfSome told (λ bytes. size ≡ length bytes)

-- where bytes are told, so many from a place on lie among them
abbrev pub HasRange : Option (List ℕ) → ℕ → ℕ → Type 0
HasRange told at count = IfSome told (λ bytes. at + count ≤ length bytes)

-- where bytes are told, these are the ones from a place on
abbrev pub Gives : Option (List ℕ) → ℕ → List ℕ → Type 0
Gives told at found = IfSome told (λ bytes. found ≡ part bytes at (length found))

-- where bytes are told: so many zero bytes after Ok, and at most so many of any value after a fault
abbrev pub LaidOut : {T E : Type 0} → Result T E → ℕ → Option (List ℕ) → Option (List ℕ) → Type 0
LaidOut result size before now =
    Both before now (λ _ bytes. MatchResult result (λ _. bytes ≡ replicate size 0) (λ _. length bytes ≤ size))

-- some bytes stand in the place of those that were to be written, which they are after Ok, and all else stays
pub record WroteSome {T E : Type 0} (result : Result T E) (at : ℕ) (from before now : List ℕ) : Type 0 where
  pub left : List ℕ
  pub as_many : length left ≡ length from
  pub others_stay : now ≡ splice before at left
  pub exact : OnOk result (left ≡ from)

-- where bytes are told, that was written
abbrev pub Wrote : {T E : Type 0} → Result T E → ℕ → List ℕ → Option (List ℕ) → Option (List ℕ) → Type 0
Wrote result at from before now = Both before now (WroteSome result at from)
