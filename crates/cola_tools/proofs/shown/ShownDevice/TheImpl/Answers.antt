use Rattle.std.proofs.Common.{ap, Some}
use Rattle.cola_tools.specs.Shown.{Showing}
use Rattle.cola_tools.proofs.ShownLemmas.{called_other, called_read, called_write, wrote_none, lent}
use Rattle.cola_tools.proofs.shown.ShownDevice.TheImpl.Goals as goal

pub size-tells : goal.size-tells
size-tells g c = record {
  value = c.ensures.value;
  bytes_stay = ap (λ (d : Showing). Some d.bytes) c.ensures.after;
  kept = ap (λ (d : Showing). d.bytes) c.ensures.after;
  counts = called_other c.result c.args.self.now c.new.self.now c.ensures.carried_out c.ensures.after;
}

pub read-tells : goal.read-tells
read-tells g c = record {
  given = c.ensures.given;
  bytes_stay = ap (λ (d : Showing). Some d.bytes) c.ensures.after;
  kept = ap (λ (d : Showing). d.bytes) c.ensures.after;
  counts = called_read c.result c.args.self.now c.new.self.now c.ensures.carried_out c.ensures.after;
}

pub write-tells : goal.write-tells
write-tells g c = record {
  wrote = wrote_none c.result c.args.at c.args.from.now c.args.self.now.bytes c.new.self.now.bytes c.ensures.refused c.requires.inside (ap (λ (d : Showing). d.bytes) c.ensures.after);
  kept = ap (λ (d : Showing). d.bytes) c.ensures.after;
  counts = called_write c.result c.args.self.now c.new.self.now c.ensures.refused c.ensures.after;
}

pub settle-tells : goal.settle-tells
settle-tells g c = record {
  settled = c.ensures.after;
  bytes_stay = ap (λ (d : Showing). Some d.bytes) c.ensures.after;
  kept = ap (λ (d : Showing). d.bytes) c.ensures.after;
  counts = called_other c.result c.args.self.now c.new.self.now c.ensures.carried_out c.ensures.after;
}

pub view-tells : goal.view-tells
view-tells g c = record {
  lent = c.ensures.lent;
  given = lent c.result c.args.self.now.bytes c.args.at c.args.count c.ensures.given c.ensures.size;
  size = c.ensures.size;
}
