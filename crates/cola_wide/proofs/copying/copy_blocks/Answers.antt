use Rattle.std.proofs.Common.{◌≡◌, ◌∙◌, ℕ, ◌+◌, ◌-◌, ◌*◌, ◌<◌, ◌≤◌, List, Option, Err, refl, sym, ap, subst, arith}
use Rattle.std.specs.Prelude.{IfSome}
use Rattle.std.proofs.Math.Nat.{mul-le-mul_left}
use Rattle.cola_device.specs.Bytes.{HasRange}
use Rattle.cola_layout.specs.Fields.{fields_of}
use Rattle.cola_wide.specs.Copied.{block_cells, block_count, cells_of, AreCopied}
use Rattle.cola_wide.specs.Upgrade.{BlocksAreCopied, CopiesBlocks}
use Rattle.cola_wide.proofs.Writes.{block-within, blocks-whole, block-after}
use Rattle.cola_wide.proofs.Steps.{blocks-none, blocks-then, blocks-fail}
use Rattle.cola_wide.proofs.copying.copy_blocks.Goals as goal

pub loop-block-init : goal.loop-block-init
loop-block-init g c = record {
  so_far = blocks-none g.D.Device g.E.Device (fields_of c.args.header.now) c.args.from.now c.args.to.now (block_cells (fields_of c.args.header.now) * 1) (omega arith) c.requires.begun;
  bytes_stay = refl;
  kept = refl;
  other_kept = refl;
}

pub loop-block-preserved : goal.loop-block-preserved
loop-block-preserved g c =
    let header = fields_of c.args.header.now in
    let block = c.loop-block.block in
    let e : c.cells_of_block-cells.result * block ≡ block_cells header * block = ap (λ (n : ℕ). n * block) c.cells_of_block-cells.ensures.value in
    let next : BlocksAreCopied g.D.Device g.E.Device header c.loop-block.from c.copy_block.new.from c.loop-block.to c.copy_block.new.to (block_cells header * block) (block_cells header * (block + 1)) 1 =
    subst (λ (n : ℕ). BlocksAreCopied g.D.Device g.E.Device header c.loop-block.from c.copy_block.new.from c.loop-block.to c.copy_block.new.to (block_cells header * block) n 1) (block-after (block_cells header) block)
    (subst (λ (n : ℕ). BlocksAreCopied g.D.Device g.E.Device header c.loop-block.from c.copy_block.new.from c.loop-block.to c.copy_block.new.to n (n + block_cells header) 1) e c.in-Ok.ensures.copied) in
    record {
      so_far = blocks-then g.D.Device g.E.Device header c.args.from.now c.loop-block.from c.copy_block.new.from c.args.to.now c.loop-block.to c.copy_block.new.to (block_cells header) (block_cells header * block) (block_cells header * (block + 1)) (block - 1) 1 (block + 1 - 1)
          (omega (arith, c.loop-block.auto.block)) c.loop-block.invariant.bytes_stay c.loop-block.invariant.so_far next;
      bytes_stay = c.in-Ok.ensures.bytes_stay ∙ c.loop-block.invariant.bytes_stay;
      kept = c.in-Ok.ensures.kept ∙ c.loop-block.invariant.kept;
      other_kept = c.in-Ok.ensures.other_kept ∙ c.loop-block.invariant.other_kept;
    }

pub copy_block-requires-clause-whole : goal.copy_block-requires-clause-whole
copy_block-requires-clause-whole g c =
    subst (λ (t : Option (List ℕ)). HasRange t 0 (64 * cells_of (fields_of c.args.header.now))) (sym c.loop-block.invariant.bytes_stay) c.requires.whole

pub copy_block-requires-clause-behind : goal.copy_block-requires-clause-behind
copy_block-requires-clause-behind g c =
    let header = fields_of c.args.header.now in
    let block = c.loop-block.block in
    let e : c.cells_of_block-cells.result * block ≡ block_cells header * block = ap (λ (n : ℕ). n * block) c.cells_of_block-cells.ensures.value in
    let one : 1 ≤ block = omega (arith, c.loop-block.auto.block) in
    let more : block_cells header * 1 ≤ block_cells header * block = mul-le-mul_left (block_cells header) one in
    omega (arith, e, more)

pub copy_block-requires-clause-inside : goal.copy_block-requires-clause-inside
copy_block-requires-clause-inside g c =
    let header = fields_of c.args.header.now in
    let block = c.loop-block.block in
    let e : c.cells_of_block-cells.result * block ≡ block_cells header * block = ap (λ (n : ℕ). n * block) c.cells_of_block-cells.ensures.value in
    let below : block < block_count header = omega (arith, c.loop-block-test.true, c.blocks_of_file-block-end.ensures.value) in
    omega (arith, e, block-within c.args.header.now block below)

pub copy_block-requires-clause-begun : goal.copy_block-requires-clause-begun
copy_block-requires-clause-begun g c = (let so_far = c.loop-block.invariant.so_far in so_far.begun)

pub copy_block-requires-clause-copied : goal.copy_block-requires-clause-copied
copy_block-requires-clause-copied g c =
    let header = fields_of c.args.header.now in
    let block = c.loop-block.block in
    let e : c.cells_of_block-cells.result * block ≡ block_cells header * block = ap (λ (n : ℕ). n * block) c.cells_of_block-cells.ensures.value in
    let so_far = c.loop-block.invariant.so_far in
    subst (λ (n : ℕ). IfSome (g.D.Device.bytes c.loop-block.from) (λ old. IfSome (g.E.Device.bytes c.loop-block.to) (AreCopied header (block_cells header) n old))) (sym e)
    (subst (λ (t : Option (List ℕ)). IfSome t (λ old. IfSome (g.E.Device.bytes c.loop-block.to) (AreCopied header (block_cells header) (block_cells header * block) old))) (sym c.loop-block.invariant.bytes_stay) so_far.copied)

pub overflow_mul-cells : goal.overflow_mul-cells
overflow_mul-cells g c =
    let header = fields_of c.args.header.now in
    let block = c.loop-block.block in
    let e : c.cells_of_block-cells.result * block ≡ block_cells header * block = ap (λ (n : ℕ). n * block) c.cells_of_block-cells.ensures.value in
    let below : block < block_count header = omega (arith, c.loop-block-test.true, c.blocks_of_file-block-end.ensures.value) in
    omega (arith, e, block-within c.args.header.now block below, c.cells_of_block-cells.ensures.few)

pub returns-in-Err-clause-copied : goal.returns-in-Err-clause-copied
returns-in-Err-clause-copied g c =
    let header = fields_of c.args.header.now in
    let block = c.loop-block.block in
    let e : c.cells_of_block-cells.result * block ≡ block_cells header * block = ap (λ (n : ℕ). n * block) c.cells_of_block-cells.ensures.value in
    let one : 1 ≤ block = omega (arith, c.loop-block.auto.block) in
    let more : block_cells header * 1 ≤ block_cells header * block = mul-le-mul_left (block_cells header) one in
    let next : CopiesBlocks g.D.Device g.E.Device header c.loop-block.from c.copy_block.new.from c.loop-block.to c.copy_block.new.to (block_cells header * block) (block_cells header * block + block_cells header) 1 (Err c.in-Err.fault) =
    subst (λ (n : ℕ). CopiesBlocks g.D.Device g.E.Device header c.loop-block.from c.copy_block.new.from c.loop-block.to c.copy_block.new.to n (n + block_cells header) 1 (Err c.in-Err.fault)) e c.in-Err.ensures.copied in
    blocks-fail g.D.Device g.E.Device header c.args.from.now c.loop-block.from c.copy_block.new.from c.args.to.now c.loop-block.to c.copy_block.new.to (block_cells header) (block_cells header * block) (block_cells header * block + block_cells header) (block - 1) 1 (block_count header - 1)
    (omega (arith, one, c.loop-block-test.true, c.blocks_of_file-block-end.ensures.value)) c.loop-block.invariant.bytes_stay c.loop-block.invariant.so_far (cells_of header) c.in-Err.fault (omega (arith, more)) next

pub returns-clause-copied : goal.returns-clause-copied
returns-clause-copied g c =
    let header = fields_of c.args.header.now in
    let last : c.loop-block.block ≡ block_count header = omega (arith, c.loop-block-test.false, c.loop-block.auto.block-end, c.blocks_of_file-block-end.ensures.value, c.blocks_of_file-block-end.ensures.some) in
    subst (λ (n : ℕ). BlocksAreCopied g.D.Device g.E.Device header c.args.from.now c.loop-block.from c.args.to.now c.loop-block.to (block_cells header) n (block_count header - 1)) (blocks-whole c.args.header.now)
    (subst (λ (n : ℕ). BlocksAreCopied g.D.Device g.E.Device header c.args.from.now c.loop-block.from c.args.to.now c.loop-block.to (block_cells header) (block_cells header * n) (n - 1)) last c.loop-block.invariant.so_far)
