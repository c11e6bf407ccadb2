use Rattle.std.proofs.Common.{ℕ, List, Option, sym, subst}
use Rattle.cola_mapped.specs.Region.{bytes_in}
use Rattle.cola_handle.specs.Marks.{AreMarked, marks_in}
use Rattle.cola_handle.proofs.FewMarks.{refused-few}
use Rattle.cola_handle.proofs.Openings.{refusal-cause, refusal-only, opened-terms}
use Rattle.cola_handle.proofs.opening.open_device.Goals as goal

pub returns-in-Ok-clause-terms : goal.returns-in-Ok-clause-terms
returns-in-Ok-clause-terms c = opened-terms _ 0 _ c.in-Ok.ensures.open.given

pub returns-in-Err-clause-cause : goal.returns-in-Err-clause-cause
returns-in-Err-clause-cause c = rw c.of.ensures (refusal-cause c.args.device c.in-Err.device c.in-Err.error c.in-Err.ensures.cause)

pub returns-in-Err-clause-only : goal.returns-in-Err-clause-only
returns-in-Err-clause-only c = λ m file. rw c.of.ensures (refusal-only c.args.device c.in-Err.device c.in-Err.error (c.in-Err.ensures.sound m file))

pub returns-in-Err-clause-back_marked : goal.returns-in-Err-clause-back_marked
returns-in-Err-clause-back_marked c =
    subst (λ (b : Option (List ℕ)). AreMarked (marks_in c.args.device.first_marks) c.args.device.first.bytes c.args.device.writes (marks_in c.give_back-region.result.1) (bytes_in b)) (sym c.give_back-region.ensures.bytes)
    (refused-few (marks_in c.give_back-region.result.1) c.in-Err.device.device.bytes c.args.device c.in-Err.device c.in-Err.error c.in-Err.ensures.cause c.in-Err.ensures.kept c.give_back-region.ensures.marked)
