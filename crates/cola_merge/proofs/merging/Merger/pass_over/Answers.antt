-- What a pass over windows does, by the kernel and by how its heads went on.
use Rattle.std.proofs.Common.{◌*◌, ℕ, refl, ap, subst, ◌∙◌, arith}
use Rattle.cola_cell.specs.Windows.{views_of}
use Rattle.cola_window.specs.Windows.{Merged}
use Rattle.cola_merge.specs.Weaving.{bytes_of, lasts_of, gone}
use Rattle.cola_merge.proofs.merging.Merger.pass_over.Goals as goal

pub returns-clause-passes : goal.returns-clause-passes
returns-clause-passes c =
    let taken = c.merge_windows-taken.result in
    let views = views_of c.args.own c.args.incoming c.args.sample in
    let w = c.width-width.ensures in
    let a = c.go-owns.ensures.ticks in
    let d = c.go-samples.ensures.ticks in
    let i = c.go-incomings.ensures.ticks in
    record {
      taken = taken;
      merged = subst (λ (x : ℕ). Merged c.args.format c.args.job.now.rules (8 * x) (bytes_of views) (lasts_of views) c.merge_windows-taken.new.room taken) c.at-base.ensures c.merge_windows-taken.ensures.merged;
      own_is = c.go-owns.ensures.gone ∙ ap (λ (x : ℕ). gone c.args.format x taken.own views.own c.args.self.now.own) w;
      incoming_is = c.go-incomings.ensures.gone ∙ ap (λ (x : ℕ). gone c.args.format x taken.incoming views.incoming c.args.self.now.incoming) w;
      sample_is = c.go-samples.ensures.gone ∙ ap (λ (x : ℕ). gone c.args.format (8 * x) taken.sample views.sample c.args.self.now.sample) w;
      steps_are = refl;
      few = c.merge_windows-taken.ensures.few;
      stops = c.merge_windows-taken.ensures.stops;
      goes_on = c.merge_windows-taken.ensures.goes_on;
      cells_are = refl;
      ticks_are = omega (arith, a, d, i);
    }
