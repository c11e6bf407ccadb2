use Rattle.std.proofs.Common.{◌≡◌, length, sym, subst, ℕ, arith}
use Rattle.cola_device.specs.Bytes.{HasRange}
use Rattle.cola_device.specs.Counts.{one_more}
use Rattle.cola_marks.specs.Marked.{Marked, IsSound}
use Rattle.cola_marks.proofs.PageLemmas.{at_most_17}
use Rattle.cola_marks.proofs.MarkedLemmas.{sound_written}
use Rattle.cola_marks.proofs.marked.MarkedDeviceDevice.write.Goals as goal

pub invariant_of-self : goal.invariant_of-self
invariant_of-self g c =
    let it : Marked _ _ = record { device = c.self.inside.device; marks = c.self.inside.marks; writes = c.self.inside.writes; first = c.self.inside.first.value; first_marks = c.self.inside.first_marks.value } in
    let inside : HasRange (g.D.Device.bytes c.self.inside.device) c.args.at (length c.args.from.now) = rw (← c.self.view_is) at c.requires.inside in
    let counted : c.saturating_add-self-inside.result ≡ one_more c.self.inside.writes = omega (arith, c.saturating_add-self-inside.ensures, c.self.ranges) in
    let touched = c.mark_touched.ensures in
    subst (λ (writes : ℕ). IsSound g.D.Device g.M.Marks (record it { device = c.write.new.self; marks = c.mark_touched.new.marks; writes = writes })) (sym counted)
    (sound_written g.D.Device g.M.Marks c.write.result it c.write.new.self c.mark_touched.new.marks c.args.at c.args.from.now c.self.invariant c.requires.block inside c.write.ensures.wrote touched.marked touched.few
    (at_most_17 c.args.at (length c.args.from.now) c.requires.block))
