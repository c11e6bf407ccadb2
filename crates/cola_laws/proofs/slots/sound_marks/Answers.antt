use Rattle.cola_laws.proofs.InSlots.{sound-ahead, sound-marks}
use Rattle.cola_laws.proofs.slots.sound_marks.Goals as goal

pub returns : goal.returns
returns g c = record {
  between = λ most t map top below s room. sound-marks g.met.K.Ord.total most t map top below s room;
  ahead = λ most ahead t map top below s room. sound-ahead g.met.K.Ord.total most ahead t map top below s room;
}
