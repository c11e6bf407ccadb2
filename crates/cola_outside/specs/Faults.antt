-- Counts of faults, and what an answer says of them.
use Rattle.std.specs.Prelude.{ℕ, ◌+◌, ◌-◌, ◌^◌, ◌≤◌, min, Result, OnErr}

-- at least so many new events were counted, by a count that ends at the last value of u64
abbrev pub RoseBy : ℕ → ℕ → ℕ → Type 0
RoseBy times before now = min (before + times) (2 ^ 64 - 1) ≤ now

-- a new event was counted: the count is greater, or stands at the last value of u64
abbrev pub Rose : ℕ → ℕ → Type 0
Rose before now = RoseBy 1 before now

-- an error comes only where the count rose
abbrev pub HasCause : {T E : Type 0} → Result T E → ℕ → ℕ → Type 0
HasCause result before now = OnErr result (Rose before now)
