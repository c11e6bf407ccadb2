use Rattle.std.proofs.Common.{ℕ, inl, inr, sym, ap, ◌∙◌, arith}
use Rattle.std.proofs.lemmas.Bool.{cases_eq}
use Rattle.cola_cell.specs.Flat.{shadow_at}
use Rattle.cola_run.specs.Saving.{header_shadow}
use Rattle.cola_run.proofs.Loads.{sound-two, reading-two}
use Rattle.cola_run.proofs.saving.load_shadows.Goals as goal

pub returns-in-Err-clause-sound : goal.returns-in-Err-clause-sound
returns-in-Err-clause-sound g c =
    sound-two c.loop-level.invariant.sound c.load_shadow.ensures.sound

pub loop-level-preserved : goal.loop-level-preserved
loop-level-preserved g c =
    let one = c.in-Ok.ensures.one in
    record {
      loaded = λ l below. elim (cases_eq l c.loop-level.level) [
        | inl e ↦ ap (λ (n : ℕ). shadow_at c.load_shadow.new.shadows n) e ∙ one.is ∙ c.shadow_of_header.ensures.value ∙ ap (λ (n : ℕ). header_shadow c.args.header.now n) (sym e)
        | inr d ↦ one.others l d ∙ c.loop-level.invariant.loaded l (omega (arith, below, d))
      ];
      sound = sound-two c.loop-level.invariant.sound c.load_shadow.ensures.sound;
      shadows_many = one.many ∙ c.loop-level.invariant.shadows_many;
      tails_many = c.load_shadow.ensures.tails ∙ c.loop-level.invariant.tails_many;
      reading = reading-two g.D.Device.bytes g.D.Device.counts g.D.Device.kept c.loop-level.invariant.reading c.in-Ok.ensures.reading;
    }
