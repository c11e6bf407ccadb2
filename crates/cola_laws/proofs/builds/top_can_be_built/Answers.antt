use Rattle.std.proofs.Common.{ℕ, suc, ◌+◌, ◌^◌, ◌≤◌, ◌≡◌, ◌∷◌, length, subst, arith}
use Rattle.cola_laws.proofs.Workable.{top-buildable}
use Rattle.cola_laws.proofs.builds.top_can_be_built.Goals as goal

pub returns : goal.returns
returns g c = λ most ahead t map k item top next below s room.
    let e : length (next ∷ below) + 2 ≡ 0 + suc (length (next ∷ below)) + 1 = omega arith in
    top-buildable g.met.K.Ord.total most t k item top next below s.visible s.kept (subst (λ (n : ℕ). most ≤ 2 ^ n) e room)
