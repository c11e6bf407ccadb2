use Rattle.std.proofs.Common.{refl}
use Rattle.cola_device.proofs.CountsLemmas.{Called-count_other, Called-count_read, Called-count_write}
use Rattle.cola_filedev.proofs.Untold.{value_untold, given_untold}
use Rattle.cola_filedev.proofs.file.PathDeviceDevice.TheImpl.Goals as goal

pub size-tells : goal.size-tells
size-tells g c = record {
  value = value_untold c.result;
  bytes_stay = refl;
  kept = c.ensures.wanted;
  counts = Called-count_other c.result c.args.self.now.counts c.new.self.now.counts c.ensures.counted;
}

pub lay_out-tells : goal.lay_out-tells
lay_out-tells g c = record {
  laid = tt;
  kept = c.ensures.wanted;
  counts = Called-count_other c.result c.args.self.now.counts c.new.self.now.counts c.ensures.counted;
}

pub read-tells : goal.read-tells
read-tells g c = record {
  given = given_untold c.result;
  bytes_stay = refl;
  kept = c.ensures.wanted;
  counts = Called-count_read c.result c.args.self.now.counts c.new.self.now.counts c.ensures.counted;
}

pub write-tells : goal.write-tells
write-tells g c = record {
  wrote = tt;
  kept = c.ensures.wanted;
  counts = Called-count_write c.result c.args.self.now.counts c.new.self.now.counts c.ensures.counted;
}

pub settle-tells : goal.settle-tells
settle-tells g c = record {
  settled = c.ensures.asked;
  bytes_stay = refl;
  kept = c.ensures.wanted;
  counts = Called-count_other c.result c.args.self.now.counts c.new.self.now.counts c.ensures.counted;
}
