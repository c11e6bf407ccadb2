use Rattle.cola_marks.proofs.MarkedLemmas.{sound_new}
use Rattle.cola_marks.proofs.marked.MarkedDevice.over.Goals as goal

pub invariant_of-result : goal.invariant_of-result
invariant_of-result g c =
    rw (c.of-first.ensures, c.of-first_marks.ensures, c.writes-writes.ensures) (sound_new g.D.Device g.M.Marks c.args.device c.args.marks)
