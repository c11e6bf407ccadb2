use Rattle.std.proofs.Common.{◌∙◌, ℕ, ◌+◌, ◌-◌, ◌*◌, List, Option, sym, subst, arith}
use Rattle.std.specs.Prelude.{IfSome}
use Rattle.cola_device.specs.Bytes.{HasRange}
use Rattle.cola_layout.specs.Fields.{fields_of}
use Rattle.cola_wide.specs.Copied.{block_cells, block_count, cells_of, IsBlockOf, AreSpelled, AreCopied}
use Rattle.cola_wide.proofs.Writes.{span-within, blocks-some, spelled-first}
use Rattle.cola_wide.proofs.Steps.{found-map, found-then, first-not_loaded, blocks-refused, all-later}
use Rattle.cola_wide.proofs.copying.copy_all.Goals as goal

pub load_block-requires-clause-inside : goal.load_block-requires-clause-inside
load_block-requires-clause-inside g c = (let within = span-within c.args.header.now in omega (arith, within))

pub returns-in-Err-clause-copied : goal.returns-in-Err-clause-copied
returns-in-Err-clause-copied g c =
    let header = fields_of c.args.header.now in
    first-not_loaded g.D.Device g.E.Device header c.args.from.now c.load_block.new.from c.args.to.now c.args.head.now c.load_block.new.wide (block_count header + 1) (block_count header) c.in-Err.fault (omega arith) c.requires.begun c.in-Err.ensures.loaded

pub copy_blocks-requires-clause-whole : goal.copy_blocks-requires-clause-whole
copy_blocks-requires-clause-whole g c =
    subst (λ (t : Option (List ℕ)). HasRange t 0 (64 * cells_of (fields_of c.args.header.now))) (sym c.load_block.ensures.bytes_stay) c.requires.whole

pub returns-in-Err-copy_blocks-clause-copied : goal.returns-in-Err-copy_blocks-clause-copied
returns-in-Err-copy_blocks-clause-copied g c =
    let header = fields_of c.args.header.now in
    let some = blocks-some c.args.header.now in
    let first = found-map g.D.Device c.args.from.now c.load_block.new.from (λ old. IsBlockOf header 0 old c.load_block.new.wide) (AreSpelled header 0 (block_cells header)) 1 0 (λ old block. spelled-first header old c.load_block.new.wide block) c.in-Ok.ensures.loaded in
    blocks-refused g.D.Device g.E.Device header c.args.from.now c.load_block.new.from c.copy_blocks.new.from c.args.to.now c.copy_blocks.new.to (cells_of header) (block_count header - 1) (block_count header + 1) (block_count header) c.args.head.now c.in-Err-copy_blocks.fault
    (omega (arith, some)) (omega arith) c.load_block.ensures.bytes_stay first c.in-Err-copy_blocks.ensures.copied

pub copy_first-requires-clause-whole : goal.copy_first-requires-clause-whole
copy_first-requires-clause-whole g c =
    subst (λ (t : Option (List ℕ)). HasRange t 0 (64 * cells_of (fields_of c.args.header.now))) (sym (c.copy_blocks.ensures.bytes_stay ∙ c.load_block.ensures.bytes_stay)) c.requires.whole

pub copy_first-requires-clause-begun : goal.copy_first-requires-clause-begun
copy_first-requires-clause-begun g c = (let blocks = c.in-Ok-copy_blocks.ensures.copied in blocks.begun)

pub copy_first-requires-clause-spelled : goal.copy_first-requires-clause-spelled
copy_first-requires-clause-spelled g c =
    let blocks = c.in-Ok-copy_blocks.ensures.copied in
    let header = fields_of c.args.header.now in
    subst (λ (t : Option (List ℕ)). IfSome t (AreSpelled header (block_cells header) (cells_of header))) (sym c.copy_blocks.ensures.bytes_stay) blocks.source.why_is

pub copy_first-requires-clause-copied : goal.copy_first-requires-clause-copied
copy_first-requires-clause-copied g c =
    let blocks = c.in-Ok-copy_blocks.ensures.copied in
    let header = fields_of c.args.header.now in
    subst (λ (t : Option (List ℕ)). IfSome t (λ old. IfSome (g.E.Device.bytes c.copy_blocks.new.to) (AreCopied header (block_cells header) (cells_of header) old))) (sym c.copy_blocks.ensures.bytes_stay) blocks.copied

pub returns-clause-copied : goal.returns-clause-copied
returns-clause-copied g c =
    let header = fields_of c.args.header.now in
    let some = blocks-some c.args.header.now in
    let blocks = c.in-Ok-copy_blocks.ensures.copied in
    let both = found-then g.D.Device c.args.from.now c.load_block.new.from c.copy_blocks.new.from (λ old. IsBlockOf header 0 old c.load_block.new.wide) 1 (block_count header - 1) (block_count header) 0 (omega (arith, some)) c.in-Ok.ensures.loaded c.load_block.ensures.bytes_stay
    (AreSpelled header (block_cells header) (cells_of header)) blocks.source in
    all-later g.D.Device g.E.Device header c.args.from.now c.copy_blocks.new.from c.copy_first.new.from c.args.to.now c.copy_blocks.new.to c.copy_first.new.to (AreSpelled header (block_cells header) (cells_of header)) c.args.head.now
    (block_count header) 1 (block_count header + 1) 0 (block_count header - 1) 1 (block_count header) 0 (omega arith) (omega (arith, some)) both (c.copy_blocks.ensures.bytes_stay ∙ c.load_block.ensures.bytes_stay) blocks.counts blocks.no_fault
    c.copy_first.result c.copy_first.ensures.copied
