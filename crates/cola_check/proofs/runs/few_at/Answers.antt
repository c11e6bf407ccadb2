use Rattle.std.proofs.Common.{◌≡◌, ◌*◌, ◌%◌, ◌^◌, ◌<◌, ◌≤◌, ℕ, Fits, w32, sym, subst, arith}
use Rattle.cola_check.proofs.Common.{one_shl, power-le}
use Rattle.std.proofs.Math.Facts.{Fits-of_lt}
use Rattle.cola_check.proofs.runs.few_at.Goals.{then-odd, else-odd}
use Rattle.cola_check.proofs.runs.few_at.Goals as goal

young-fits : (level : ℕ) → level ≤ 22 → (1 * 2 ^ level) % 2 ^ 32 ≤ 2 ^ 22
young-fits level low = let is : (1 * 2 ^ level) % 2 ^ 32 ≡ 2 ^ level = one_shl level 32 (omega (arith, low)) in let few : 2 ^ level ≤ 2 ^ 22 = power-le level 22 low in omega (arith, is, few)

pub overflow_mul-result : goal.overflow_mul-result
overflow_mul-result c =
    let shallow : c.args.header.now.geometry.bottom ≤ 22 = c.args.header.now.geometry.shallow in
    let few = young-fits c.args.level (omega (arith, shallow, c.requires)) in
    elim c.if-odd.branch [
      | then-odd w ↦ subst (λ (n : ℕ). Fits w32 (n * ((1 * 2 ^ c.args.level) % 2 ^ 32))) (sym w.times-is) (Fits-of_lt (let l : 3 * ((1 * 2 ^ c.args.level) % 2 ^ 32) < 2 ^ 32 = omega (arith, few) in l))
      | else-odd w ↦ subst (λ (n : ℕ). Fits w32 (n * ((1 * 2 ^ c.args.level) % 2 ^ 32))) (sym w.times-is) (Fits-of_lt (let l : 2 * ((1 * 2 ^ c.args.level) % 2 ^ 32) < 2 ^ 32 = omega (arith, few) in l))
    ]
