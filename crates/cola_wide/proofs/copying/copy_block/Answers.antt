use Rattle.std.proofs.Common.{◌≡◌, ◌∙◌, inr, ◌+◌, ◌*◌, ◌≤◌, Ok, Err, length, arith}
use Rattle.cola_device.specs.declared.device.DeviceFault.{DeviceFault}
use Rattle.cola_layout.specs.Fields.{fields_of}
use Rattle.cola_opening.proofs.Spending.{called-spends}
use Rattle.cola_wide.specs.Copied.{block_cells, IsBlockOf, AreSpelled}
use Rattle.cola_wide.proofs.Blocks.{spelled-of}
use Rattle.cola_wide.proofs.Writes.{span-some, span-most, write-inside, begun-after, copied-after}
use Rattle.cola_wide.proofs.Steps.{found-map, block-not_loaded}
use Rattle.cola_wide.proofs.copying.copy_block.Goals as goal

pub returns-in-Err-clause-copied : goal.returns-in-Err-clause-copied
returns-in-Err-clause-copied g c =
    let header = fields_of c.args.header.now in
    block-not_loaded g.D.Device g.E.Device header c.args.from.now c.load_block.new.from c.args.to.now c.args.first (c.args.first + block_cells header) c.load_block.new.wide c.in-Err.fault c.requires.begun c.in-Err.ensures.loaded

pub write-requires-clause-block : goal.write-requires-clause-block
write-requires-clause-block g c =
    let long = c.load_block.auto.wide in
    let wide = c.requires.wide in
    omega (arith, long, wide, span-most c.args.header.now)

pub write-requires-clause-inside : goal.write-requires-clause-inside
write-requires-clause-inside g c =
    write-inside (fields_of c.args.header.now) c.args.first c.load_block.new.wide (c.load_block.auto.wide ∙ c.requires.wide) c.requires.inside (g.E.Device.bytes c.args.to.now) (g.E.Device.bytes c.args.to.now) c.requires.begun

pub returns-in-Ok-write-clause-copied : goal.returns-in-Ok-write-clause-copied
returns-in-Ok-write-clause-copied g c =
    let header = fields_of c.args.header.now in
    let first = c.args.first in
    let wide = c.load_block.new.wide in
    let old = g.D.Device.bytes c.args.from.now in
    let before = g.E.Device.bytes c.args.to.now in
    let now = g.E.Device.bytes c.write.new.self in
    let long : length wide ≡ 128 * block_cells header = c.load_block.auto.wide ∙ c.requires.wide in
    let behind : 8 ≤ first = (let from = c.requires.behind in omega (arith, from, span-some c.args.header.now)) in
    let loaded = c.in-Ok.ensures.loaded in
    record {
      source = found-map g.D.Device c.args.from.now c.load_block.new.from (λ bytes. IsBlockOf header first bytes wide) (AreSpelled header first (first + block_cells header)) 1 0 (λ bytes block. spelled-of header bytes wide first block) loaded;
      copied = copied-after header first wide long c.requires.inside before now DeviceFault c.in-Ok-write.field-0 old (block_cells header) c.in-Ok-write.ensures.wrote c.requires.begun c.requires.copied loaded.why_is;
      begun = begun-after header first wide long c.requires.inside before now {T = Unit {0}} {E = DeviceFault} (Ok c.in-Ok-write.field-0) behind c.in-Ok-write.ensures.wrote c.requires.begun;
      counts = called-spends c.in-Ok-write.ensures.counts;
      no_fault = c.in-Ok-write.ensures.counts.none_hidden;
    }

pub returns-in-Err-write-clause-copied : goal.returns-in-Err-write-clause-copied
returns-in-Err-write-clause-copied g c =
    let header = fields_of c.args.header.now in
    let first = c.args.first in
    let wide = c.load_block.new.wide in
    let before = g.E.Device.bytes c.args.to.now in
    let now = g.E.Device.bytes c.write.new.self in
    let long : length wide ≡ 128 * block_cells header = c.load_block.auto.wide ∙ c.requires.wide in
    let behind : 8 ≤ first = (let from = c.requires.behind in omega (arith, from, span-some c.args.header.now)) in
    let loaded = c.in-Ok.ensures.loaded in
    record {
      cause = inr c.in-Err-write.ensures.counts.cause;
      begun = begun-after header first wide long c.requires.inside before now {T = Unit {0}} {E = DeviceFault} (Err c.in-Err-write.field-0) behind c.in-Err-write.ensures.wrote c.requires.begun;
      reads_are = loaded.counts;
      writes_are = called-spends c.in-Err-write.ensures.counts;
    }
