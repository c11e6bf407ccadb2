use Rattle.cola_device.specs.Bytes.{IsEmpty}
use Rattle.cola_marks.specs.Marked.{Marked}
use Rattle.cola_marks.proofs.MarkedLemmas.{sound_laid}
use Rattle.cola_marks.proofs.marked.MarkedDeviceDevice.lay_out.Goals as goal

pub invariant_of-self : goal.invariant_of-self
invariant_of-self g c =
    let it : Marked _ _ = record { device = c.self.inside.device; marks = c.self.inside.marks; writes = c.self.inside.writes; first = c.self.inside.first.value; first_marks = c.self.inside.first_marks.value } in
    let empty : IsEmpty (g.D.Device.bytes c.self.inside.device) = rw (← c.self.view_is) at c.requires in
    sound_laid g.D.Device g.M.Marks c.lay_out.result it c.lay_out.new.self c.mark_all.new.marks c.args.size c.self.invariant empty c.lay_out.ensures.laid c.mark_all.ensures.marked
