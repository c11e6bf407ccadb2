use Rattle.std.proofs.Common.{◌≡◌, ◌+◌, ℕ, refl, ap, subst, arith}
use Rattle.cola_outside.specs.Told.{Both}
use Rattle.cola_load.specs.Loading.{Loading, HasSaved}
use Rattle.cola_load.proofs.Saving.{stays-two, settled-so, settled-two}
use Rattle.cola_load.proofs.loader.Loader.write_tails.Goals as goal

pub returns-clause-saves : goal.returns-clause-saves
returns-clause-saves g c =
    let self = c.args.self.now in
    let deep : c.self.inside.geometry.bottom ≡ self.geometry.bottom = ap (λ (z : Loading). z.geometry.bottom) c.self.view_is in
    let at : c.loop-level.level ≡ self.geometry.bottom + 1 = omega (arith, c.loop-level-test.false, c.levels-level-end.ensures.value, c.front_levels-level.ensures.within, c.loop-level.auto.level-end, deep) in
    subst (λ (k : ℕ). Both (g.D.Device.bytes c.args.device.now) (g.D.Device.bytes c.loop-level.device) (HasSaved self k)) at c.loop-level.invariant.saved

pub returns-in-Err-clause-front_stays : goal.returns-in-Err-clause-front_stays
returns-in-Err-clause-front_stays g c =
    settled-two _ _ _ _ refl c.loop-level.invariant.saved c.write_tail_of.ensures.front_stays (λ x y z was stay. stays-two c.args.self.now.geometry x y z was.stays stay)

pub returns-clause-front_stays : goal.returns-clause-front_stays
returns-clause-front_stays g c = settled-so _ (g.D.Device.bytes c.loop-level.device) _ refl c.loop-level.invariant.saved (λ x y was. was.stays)
