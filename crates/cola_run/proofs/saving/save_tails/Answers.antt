use Rattle.std.proofs.Common.{ℕ, inl, inr, ap, ◌∙◌, arith}
use Rattle.std.proofs.lemmas.Bool.{cases_eq}
use Rattle.cola_cell.specs.declared.sink.Shadow.{Shadow}
use Rattle.cola_cell.specs.Flat.{shadow_at}
use Rattle.cola_run.specs.Cells.{IsOnDevice}
use Rattle.cola_run.proofs.Loads.{sound-then, read-then, writing-two, writing-of}
use Rattle.cola_run.proofs.saving.save_tails.Goals as goal

pub returns-in-Err-clause-sound : goal.returns-in-Err-clause-sound
returns-in-Err-clause-sound g c =
    let device : IsOnDevice c.args.geometry.now c.loop-level.level =
    record { within = omega (arith, c.loop-level-test.true, c.levels-level-end.ensures); whole = omega (arith, c.loop-level.auto.level, c.front_levels-level.ensures) } in
    sound-then c.loop-level.invariant.sound device c.finish_on_device.ensures.finished

pub returns-in-Err-clause-stays : goal.returns-in-Err-clause-stays
returns-in-Err-clause-stays g c =
    let device : IsOnDevice c.args.geometry.now c.loop-level.level =
    record { within = omega (arith, c.loop-level-test.true, c.levels-level-end.ensures); whole = omega (arith, c.loop-level.auto.level, c.front_levels-level.ensures) } in
    read-then c.loop-level.invariant.sound c.loop-level.invariant.stays device c.finish_on_device.ensures.finished

pub loop-level-preserved : goal.loop-level-preserved
loop-level-preserved g c =
    let device : IsOnDevice c.args.geometry.now c.loop-level.level =
    record { within = omega (arith, c.loop-level-test.true, c.levels-level-end.ensures); whole = omega (arith, c.loop-level.auto.level, c.front_levels-level.ensures) } in
    let one = c.in-Ok.ensures.finished.shadow in
    record {
      saved = λ l on below. elim (cases_eq l c.loop-level.level) [
        | inl e ↦ ap (λ (x : Shadow). x.saved) (ap (λ (n : ℕ). shadow_at c.finish_on_device.new.shadows n) e ∙ one.is)
        | inr d ↦ ap (λ (x : Shadow). x.saved) (one.others l d) ∙ c.loop-level.invariant.saved l on (omega (arith, below, d))
      ];
      rest = λ l above. one.others l (λ e. omega (arith, above, e)) ∙ c.loop-level.invariant.rest l (omega (arith, above));
      sound = sound-then c.loop-level.invariant.sound device c.finish_on_device.ensures.finished;
      stays = read-then c.loop-level.invariant.sound c.loop-level.invariant.stays device c.finish_on_device.ensures.finished;
      shadows_many = one.many ∙ c.loop-level.invariant.shadows_many;
      writing = writing-two g.D.Device.counts g.D.Device.kept c.loop-level.invariant.writing (writing-of g.D.Device.counts g.D.Device.kept c.loop-level.buffers c.finish_on_device.new.buffers c.in-Ok.ensures.writing);
    }
