use Rattle.std.proofs.Common.{ℕ, suc, ◌+◌, ◌^◌, ◌≤◌, ◌≡◌, length, subst, arith}
use Rattle.cola_laws.proofs.Workable.{all-workable}
use Rattle.cola_laws.proofs.builds.builds_can_be_done.Goals as goal

pub returns : goal.returns
returns g c = λ most ahead t map top below s room.
    let e : length below + 2 ≡ 0 + suc (length below) + 1 = omega arith in
    all-workable g.met.K.Ord.total most t 0 top.visible below s.visible s.few s.kept (subst (λ (n : ℕ). most ≤ 2 ^ n) e room)
