-- Counts of the calls that an object in memory was told to fail.
use Rattle.std.proofs.Common.{◌≡◌, ℕ, zero, suc, ◌+◌, ◌-◌, ◌^◌, ◌<◌, ◌≤◌, min, Bool, true, false, if◌then◌else◌, List, ap, ◌∙◌, arith}
use Rattle.cola_io.specs.FailedCalls.{is_listed, failed_calls}
use Rattle.cola_io.specs.Counted.{after_fault}

one_at_most : (b : Bool) → (if b then 1 else 0) ≤ 1
one_at_most true = omega arith
one_at_most false = omega arith

-- no more calls are listed than there are
failed_at_most : (failing : List ℕ) (calls : ℕ) → failed_calls failing calls ≤ calls
failed_at_most failing zero = omega arith
failed_at_most failing (suc calls) = omega (arith, failed_at_most failing calls, one_at_most (is_listed failing (calls + 1)))

-- one more listed call is one more fault
pub failed_listed : (failing failing' : List ℕ) (calls calls' : ℕ) → failing' ≡ failing → calls < 2 ^ 64 - 1 → calls' ≡ min (calls + 1) (2 ^ 64 - 1) → is_listed failing (calls + 1) ≡ true
    → failed_calls failing' calls' ≡ after_fault (failed_calls failing calls)
failed_listed failing failing' calls calls' same room counted listed =
    let next : calls' ≡ suc calls = omega arith in
    let one : ◌≡◌ {A = ℕ} (if is_listed failing (calls + 1) then 1 else 0) 1 = ap (λ (b : Bool). if b then 1 else 0) listed in
    ap (λ xs. failed_calls xs calls') same ∙ ap (failed_calls failing) next ∙ omega (arith, one, failed_at_most failing calls)
