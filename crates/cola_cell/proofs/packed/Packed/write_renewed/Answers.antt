use Rattle.std.proofs.Common.{◌∙◌, arith}
use Rattle.cola_cell.proofs.Packs.{again-cell}
use Rattle.cola_cell.proofs.packed.Packed.write_renewed.Goals as goal

pub returns : goal.returns
returns c = again-cell c.args.format c.args.self.now c.args.young c.args.link c.put_start.new.bytes c.write.new.into c.requires.item c.write.ensures (record {
  size = c.put_start.ensures.size;
  kind = c.put_start.ensures.kind;
  young = c.put_start.ensures.young ∙ c.youth.ensures;
  key = c.put_start.ensures.key;
  value = c.put_start.ensures.value;
  link = c.put_start.ensures.link;
  rest = c.put_start.ensures.rest;
  small_link = omega arith;
})
