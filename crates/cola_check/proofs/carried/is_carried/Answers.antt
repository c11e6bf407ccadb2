use Rattle.std.proofs.Common.{◌≡◌, true, false, refl, sym, subst, ◌∙◌, arith}
use Rattle.cola_check.proofs.Common.{Held, looks_as, looks_then, StepsBeside}
use Rattle.cola_check.proofs.Carrying.{going_begins, going_on, going_ends, going_fails, going_less, fits_nothing, carried_each, each_carried}
use Rattle.cola_check.proofs.Fronts.{turns_then}
use Rattle.cola_check.proofs.RunBlocks.{apart-stays}
use Rattle.cola_check.proofs.carried.is_carried.Goals as goal

pub loop-key-init : goal.loop-key-init
loop-key-init g c = record {
  looks = looks_as c.in_ok-walks.ensures.looks;
  turns = c.in_ok-walks.ensures.reads.turns;
  unread = c.in_ok-walks.ensures.reads.unread;
  apart = c.in_ok-walks.ensures.blocks.apart;
  blocks = c.in_ok-walks.ensures.blocks.blocks;
  going = going_begins c.in_ok-walks.ensures.begins;
}

pub loop-key-preserved : goal.loop-key-preserved
loop-key-preserved g c =
    let i = c.loop-key.invariant in
    let S : Held → Type 0 = λ h. StepsBeside h c.in-Some.key c.loop-key.walks c.pass.new.self c.in_ok-step.step in
    let left = c.in_ok-step.ensures.reads.unread in
    record {
      looks = looks_then i.looks c.in_ok-step.ensures.looks;
      turns = turns_then i.turns c.in_ok-step.ensures.reads.turns;
      unread = let l = i.unread in omega arith;
      apart = let p = c.in_ok-step.ensures.passes in apart-stays p.above.reader_is p.own.reader_is p.shadow.reader_is i.apart;
      blocks = let b = i.blocks in let more = (c.in_ok-step.ensures.blocks i.apart).blocks in omega (arith, b, more);
      going = going_on (fits_nothing c.args.odd c.args.bottom) i.going (sym c.least_key.ensures ∙ c.in-Some.is) (subst S i.looks.cells_stay c.in_ok-step.ensures.passes) (c.fits.ensures.0 c.if-not-fits.false);
    }

pub loop-key-smaller : goal.loop-key-smaller
loop-key-smaller g c =
    let i = c.loop-key.invariant in
    let S : Held → Type 0 = λ h. StepsBeside h c.in-Some.key c.loop-key.walks c.pass.new.self c.in_ok-step.step in
    going_less (fits_nothing c.args.odd c.args.bottom) i.going (sym c.least_key.ensures ∙ c.in-Some.is) (subst S i.looks.cells_stay c.in_ok-step.ensures.passes)

pub returns-then-not-fits-clause-carried : goal.returns-then-not-fits-clause-carried
returns-then-not-fits-clause-carried g c =
    let i = c.loop-key.invariant in
    let S : Held → Type 0 = λ h. StepsBeside h c.in-Some.key c.loop-key.walks c.pass.new.self c.in_ok-step.step in
    λ o. (
      λ e. cc,
      λ h. absurd (going_fails (fits_nothing c.args.odd c.args.bottom) i.going (sym c.least_key.ensures ∙ c.in-Some.is) (subst S i.looks.cells_stay c.in_ok-step.ensures.passes)
          (λ f. let e : false ≡ true = sym c.if-not-fits.true ∙ c.fits.ensures.1 f in cc) o (each_carried c.args.odd c.args.bottom _ _ _ h)),
    )

pub returns-clause-carried : goal.returns-clause-carried
returns-clause-carried g c =
    λ o. (λ e. carried_each c.args.odd c.args.bottom _ _ _ (going_ends (fits_nothing c.args.odd c.args.bottom) c.loop-key.invariant.going o (sym c.least_key.ensures ∙ c.in_default.is)), λ h. refl)

pub returns-then-not-fits-clause-blocks : goal.returns-then-not-fits-clause-blocks
returns-then-not-fits-clause-blocks g c =
    let i = c.loop-key.invariant in
    let more = (c.in_ok-step.ensures.blocks i.apart).blocks in
    omega (arith, i.blocks, more)
