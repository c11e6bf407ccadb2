use Rattle.std.proofs.Common.{◌∙◌, ap, sym}
use Rattle.cola_handle.specs.declared.marks.LentMarks.TheInside.{Inside}
use Rattle.cola_handle.proofs.Marking.{marked-some, none-inside}
use Rattle.cola_handle.proofs.marks.LentMarksMarks.mark.Goals as goal
use Rattle.cola_handle.proofs.marks.LentMarksMarks.mark.Goals.{in-Some, in_default}

pub returns-clause-marked : goal.returns-clause-marked
returns-clause-marked c = elim c.match-self.branch [
  | in-Some w ↦ marked-some _ _ w.in-Some.lent w.write.new.self c.args.page (ap (λ (i : Inside). i.lent) w.self-inside-is) (sym c.self.view_is ∙ w.in-Some.is) w.write.ensures.wrote c.requires
  | in_default w ↦ absurd (none-inside c.args.self.now c.args.page (sym c.self.view_is ∙ w.in_default.is) c.requires)
]
