use Rattle.std.proofs.Common.{◌≡◌, ◌∙◌, ◌+◌, ◌*◌, ◌≤◌, ℕ, length, ap, arith}
use Rattle.cola_device.specs.Bytes.{part}
use Rattle.cola_layout.specs.Fields.{fields_of}
use Rattle.cola_opening.proofs.Spending.{called-spends}
use Rattle.cola_wide.specs.Copied.{cells_of, IsBlockOf, IsLowestBad}
use Rattle.cola_wide.proofs.Told.{some-then, range-in}
use Rattle.cola_wide.proofs.Blocks.{block-of, bad-of}
use Rattle.cola_wide.proofs.copying.load_block.Goals as goal

pub read-requires-clause-inside : goal.read-requires-clause-inside
read-requires-clause-inside g c =
    let narrow = c.requires.narrow in
    let within = c.requires.inside in
    range-in (g.D.Device.bytes c.args.from.now) (64 * c.args.first) (length c.args.narrow.now) (64 * cells_of (fields_of c.args.header.now)) (omega (arith, narrow, within)) c.requires.whole

pub read-requires-clause-block : goal.read-requires-clause-block
read-requires-clause-block g c =
    let narrow = c.requires.narrow in
    let value = c.cells_of_block-count.ensures.value in
    let bound = c.cells_of_block-count.ensures.bound in
    omega (arith, narrow, value, bound)

pub copy_cells-requires-clause-first : goal.copy_cells-requires-clause-first
copy_cells-requires-clause-first g c =
    let within = c.requires.inside in
    let few = c.cells_of_block-count.ensures.few in
    omega (arith, within, few)

pub returns-in-Ok-copy_cells-clause-loaded : goal.returns-in-Ok-copy_cells-clause-loaded
returns-in-Ok-copy_cells-clause-loaded g c =
    let header = fields_of c.args.header.now in
    let told = g.D.Device.bytes c.args.from.now in
    let narrow = c.read.new.into in
    let count = c.cells_of_block-count.result in
    let long : length narrow ≡ 64 * count = c.read.auto.into ∙ (c.requires.narrow ∙ ap (λ (n : ℕ). 64 * n) (omega (arith, c.cells_of_block-count.ensures.value))) in
    record {
      why_is = some-then (λ bytes. narrow ≡ part bytes (64 * c.args.first) (length narrow)) (λ old. IsBlockOf header c.args.first old c.copy_cells.new.wide) told
          (λ old given. block-of header old narrow c.copy_cells.new.wide c.args.first count given long c.cells_of_block-count.ensures.value c.in-Ok-copy_cells.ensures.copied) c.in-Ok.ensures.given;
      counts = called-spends c.in-Ok.ensures.counts;
      no_fault = c.in-Ok.ensures.counts.none_hidden;
    }

pub returns-in-Err-copy_cells-clause-loaded : goal.returns-in-Err-copy_cells-clause-loaded
returns-in-Err-copy_cells-clause-loaded g c =
    let header = fields_of c.args.header.now in
    let told = g.D.Device.bytes c.args.from.now in
    let narrow = c.read.new.into in
    let count = c.cells_of_block-count.result in
    let long : length narrow ≡ 64 * count = c.read.auto.into ∙ (c.requires.narrow ∙ ap (λ (n : ℕ). 64 * n) (omega (arith, c.cells_of_block-count.ensures.value))) in
    let within : c.args.first + count ≤ cells_of header = (let inside = c.requires.inside in omega (arith, inside, c.cells_of_block-count.ensures.value)) in
    record {
      why_is = some-then (λ bytes. narrow ≡ part bytes (64 * c.args.first) (length narrow)) (IsLowestBad header c.args.first c.in-Err-copy_cells.number) told
          (λ old given. bad-of header old narrow c.args.first count c.in-Err-copy_cells.number given long within c.in-Err-copy_cells.ensures.copied) c.in-Ok.ensures.given;
      counts = called-spends c.in-Ok.ensures.counts;
      no_fault = c.in-Ok.ensures.counts.none_hidden;
    }
