use Rattle.std.proofs.Common.{◌*◌, ◌^◌, ◌≤◌, ◌<◌, arith, subst, sym}
use Rattle.std.proofs.Math.Nat.{mod-eq_of_lt}
use Rattle.cola_cache.proofs.CacheLemmas.{power}
use Rattle.cola_cache.proofs.cached.size_of_block.Goals as goal

pub returns : goal.returns
returns c =
    let bounds = power c.args.block_exp c.requires.least c.requires.most in
    let fits : 64 * 2 ^ c.args.block_exp < 4294967296 = omega (arith, bounds.1) in
    let is = mod-eq_of_lt fits in record { is = is; least = subst (λ n. 512 ≤ n) (sym is) bounds.0; most = subst (λ n. n ≤ 65536) (sym is) bounds.1 }
