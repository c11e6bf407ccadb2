use Rattle.std.proofs.Common.{ℕ, List, Option, sym, subst}
use Rattle.cola_mapped.specs.declared.lent.Lent.{Lent}
use Rattle.cola_handle.specs.Marks.{AreMarked, marks_in}
use Rattle.cola_handle.proofs.FewMarks.{sound-few}
use Rattle.cola_handle.proofs.opening.give_back.Goals as goal

pub returns-clause-marked : goal.returns-clause-marked
returns-clause-marked c =
    subst (λ (m : Option Lent). AreMarked (marks_in c.args.device.first_marks) c.args.device.first.bytes c.args.device.writes (marks_in m) c.args.device.device.bytes)
    (sym c.into_parts-mapped.ensures.marks) (sound-few c.args.device c.into_parts-mapped.ensures.sound)
