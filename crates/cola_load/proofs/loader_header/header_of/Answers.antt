use Rattle.std.proofs.Common.{length, ap, subst, sym, ◌∙◌}
use Rattle.cola_layout.specs.Marks.{AreMarks}
use Rattle.cola_load.proofs.Rowing.{filled-sound-header}
use Rattle.cola_load.proofs.loader_header.header_of.Goals as goal

pub invariant_of-result : goal.invariant_of-result
invariant_of-result c =
    let sound = filled-sound-header c.args.geometry c.args.last c.args.rows c.requires.last c.requires.rows in
    record {
      count_fits = sound.count_fits;
      clock_fits = sound.clock_fits;
      last_fits = sound.last_fits;
      one_each = ap length c.marks_of_levels-levels.ensures ∙ sound.one_each;
      marks_fit = subst (AreMarks 0) (sym c.marks_of_levels-levels.ensures) sound.marks_fit;
    }
