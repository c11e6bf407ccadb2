use Rattle.cola_layout.specs.Fields.{fields_of}
use Rattle.cola_layout.proofs.Writes.{head-written}
use Rattle.cola_layout.proofs.encode.write_head.Goals as goal

pub returns-clause-text : goal.returns-clause-text
returns-clause-text c =
    head-written (fields_of c.args.header.now) c.args.into.now c.put.new.into c.put_u32.new.into c.put-2.new.into c.put_u64.new.into c.put_u64-2.new.into
    c.put_u64-3.new.into c.put_u64-4.new.into c.requires c.put.ensures
    (rw c.version.ensures at c.put_u32.ensures) (rw c.state.ensures at c.put-2.ensures)
    c.put_u64.ensures c.put_u64-2.ensures c.put_u64-3.ensures c.put_u64-4.ensures
