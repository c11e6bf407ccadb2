use Rattle.cola_laws.proofs.Live.{few-same}
use Rattle.cola_laws.proofs.Facts.{sound-map, few-keys}
use Rattle.cola_laws.proofs.reading.few_live_keys.Goals as goal

pub returns : goal.returns
returns g c = record {
  same = λ most f h e few. few-same g.K.Ord.cmp most f h e few;
  sound = λ most ahead t map top below s. sound-map g.K.Ord.cmp most ahead t map top below s;
  among = λ held map sorted h. few-keys g.met.K.Ord.total held map sorted h;
}
