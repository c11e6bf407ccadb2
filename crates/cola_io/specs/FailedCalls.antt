-- The calls that an object in memory was told to fail.
use Rattle.std.specs.Prelude.{ℕ, zero, suc, ◌+◌, Bool, nat_eq, List, if◌then◌else◌}
use Rattle.std.specs.List.{list_any}

-- the call of this number, counted from 1, is listed
abbrev pub is_listed : List ℕ → ℕ → Bool
is_listed failing call = list_any (λ number. nat_eq number call) failing

-- how many of the first calls are listed
abbrev pub failed_calls : List ℕ → ℕ → ℕ
failed_calls failing zero = 0
failed_calls failing (suc calls) = failed_calls failing calls + (if is_listed failing (calls + 1) then 1 else 0)
