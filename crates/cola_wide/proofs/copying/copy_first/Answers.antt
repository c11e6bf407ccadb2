use Rattle.std.proofs.Common.{◌∙◌, arith}
use Rattle.cola_layout.specs.Fields.{fields_of}
use Rattle.cola_wide.proofs.Writes.{span-some, span-most, span-within, first-inside}
use Rattle.cola_wide.proofs.Steps.{first-not_loaded, first-copied}
use Rattle.cola_wide.proofs.copying.copy_first.Goals as goal

pub returns-in-Err-clause-copied : goal.returns-in-Err-clause-copied
returns-in-Err-clause-copied g c =
    first-not_loaded g.D.Device g.E.Device (fields_of c.args.header.now) c.args.from.now c.load_block.new.from c.args.to.now c.args.head.now c.load_block.new.wide 1 1 c.in-Err.fault (omega arith) c.requires.begun c.in-Err.ensures.loaded

pub put_head-requires : goal.put_head-requires
put_head-requires g c =
    let long = c.load_block.auto.wide in
    let wide = c.requires.wide in
    omega (arith, long, wide, span-some c.args.header.now)

pub write_first-requires-clause-block : goal.write_first-requires-clause-block
write_first-requires-clause-block g c =
    let put = c.put_head.auto.wide in
    let long = c.load_block.auto.wide in
    let wide = c.requires.wide in
    omega (arith, put, long, wide, span-most c.args.header.now)

pub write_first-requires-clause-inside : goal.write_first-requires-clause-inside
write_first-requires-clause-inside g c =
    first-inside (fields_of c.args.header.now) c.put_head.new.wide (c.put_head.auto.wide ∙ (c.load_block.auto.wide ∙ c.requires.wide)) (span-within c.args.header.now) (g.E.Device.bytes c.args.to.now) (g.E.Device.bytes c.args.to.now) c.requires.begun

pub returns-clause-copied : goal.returns-clause-copied
returns-clause-copied g c =
    first-copied g.D.Device g.E.Device (fields_of c.args.header.now) c.args.from.now c.load_block.new.from c.args.to.now c.write_first.new.to c.args.head.now c.load_block.new.wide
    (c.load_block.auto.wide ∙ c.requires.wide) (omega (arith, c.told-head)) (span-some c.args.header.now) (span-within c.args.header.now) c.requires.begun c.requires.spelled c.requires.copied c.in-Ok.ensures.loaded
    c.put_head.new.wide c.write_first.result c.put_head.ensures c.write_first.ensures.wrote c.write_first.ensures.settled c.write_first.ensures.counts c.write_first.ensures.fault

pub load_block-requires-clause-inside : goal.load_block-requires-clause-inside
load_block-requires-clause-inside g c = (let within = span-within c.args.header.now in omega (arith, within))
