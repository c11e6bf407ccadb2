use Rattle.std.proofs.Common.{◌<◌, ◌+◌, sym, subst, arith}
use Rattle.cola_layout.specs.declared.geometry.Geometry.{Geometry}
use Rattle.cola_run.proofs.Fronts.{front-bad, runs-fit}
use Rattle.cola_run.proofs.saving.first_bad.Goals as goal

pub returns-in-Some-clause-some : goal.returns-in-Some-clause-some
returns-in-Some-clause-some c =
    let h = c.args.header.now in
    let low : c.loop-level.level + 2 < c.args.geometry.now.block_exp = omega (arith, c.front_levels-level-end.ensures.value, c.loop-level-test.true) in
    let fits = h.geometry.block_fits.fits in
    front-bad h c.args.front.now c.loop-level.level c.in-Some.number (subst (λ (x : Geometry). c.loop-level.level + 2 < x.block_exp) (sym c.requires.geometry) low) (runs-fit h) (omega (arith, fits)) c.loop-level.invariant
    c.in-Some.ensures.some
