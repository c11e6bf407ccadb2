use Rattle.cola_layout.proofs.Writes.{marks-written}
use Rattle.cola_layout.proofs.encode.write_marks.Goals as goal

pub returns-clause-text : goal.returns-clause-text
returns-clause-text c =
    marks-written c.args.at c.args.marks.now c.args.into.now c.put_u32.new.into c.put_u32-2.new.into c.put_u32-3.new.into c.put_u32-4.new.into c.put_u32-5.new.into
    c.requires c.put_u32.ensures c.put_u32-2.ensures c.put_u32-3.ensures c.put_u32-4.ensures c.put_u32-5.ensures
