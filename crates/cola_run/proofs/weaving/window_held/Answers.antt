-- The cells of a run in one block are those of the device.
use Rattle.std.proofs.Common.{◌≡◌, ℕ, ◌*◌, ◌-◌, ◌%◌, Some, ap, subst, ◌∙◌, min}
use Rattle.cola_cache.specs.Blocks.{last_in}
use Rattle.cola_device.specs.Bytes.{part, Gives}
use Rattle.cola_run.specs.Cells.{block_cells, block_bytes, block_number}
use Rattle.cola_run.specs.Weaving.{ahead}
use Rattle.cola_run.proofs.Shown.{block_found}
use Rattle.cola_run.proofs.weaving.window_held.Goals as goal

pub returns : goal.returns
returns g c =
    let geometry = c.args.geometry.now in
    let reach = c.args.reach in
    let run = reach.run in
    let told = g.D.Device.bytes c.args.buffers.now.cache.device in
    let copy = c.copy.result.now in
    let many : c.min-count.result ≡ min (ahead reach) (block_cells geometry - reach.from % block_cells geometry) =
    c.min-count.ensures ∙ ap (λ (n : ℕ). min (ahead reach) (n - reach.from % n)) c.cells_of_block-block.ensures.value in
    let held : last_in c.args.buffers.now.lasts c.buffer_of.result ≡ Some (block_number geometry run.level run.slot reach.from) =
    ap (λ (n : ℕ). last_in c.args.buffers.now.lasts n) c.buffer_of.ensures ∙ c.requires.turned in
    let here : Gives told (block_number geometry run.level run.slot reach.from * block_bytes geometry) copy =
    subst (λ (n : ℕ). Gives told (block_number geometry run.level run.slot reach.from * n) copy) c.requires.size (c.copy.ensures.given (block_number geometry run.level run.slot reach.from) held) in
    block_found told geometry reach copy c.cells_in-bytes.result.now c.min-count.result c.requires.whole many (c.copy.ensures.size ∙ c.requires.size) here
    (c.cells_in-bytes.ensures ∙ ap (λ (n : ℕ). part copy (reach.from % n * c.width.result) (c.min-count.result * c.width.result)) c.cells_of_block-block.ensures.value
    ∙ ap (λ (w : ℕ). part copy (reach.from % block_cells geometry * w) (c.min-count.result * w)) c.width.ensures)
