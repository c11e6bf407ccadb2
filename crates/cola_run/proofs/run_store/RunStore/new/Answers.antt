use Rattle.std.proofs.Common.{◌≡◌, ◌+◌, ◌*◌, ◌^◌, ◌/◌, ℕ, List, sym, ap, subst, ◌∙◌}
use Rattle.cola_cell.specs.declared.sink.Shadow.{Shadow}
use Rattle.cola_device.specs.Bytes.{HasRange}
use Rattle.cola_front.specs.Front.{FrontCells, new_front}
use Rattle.cola_layout.specs.declared.geometry.Geometry.{Geometry}
use Rattle.cola_run.specs.Cells.{block_cells, block_bytes, file_blocks, device_levels}
use Rattle.cola_run.specs.Store.{Store, IsStore, new_shadows, new_store, new_tails}
use Rattle.cola_cache.specs.Blocks.{Blocks, new_blocks}
use Rattle.cola_device.specs.declared.counts.Counts.{Counts}
use Rattle.cola_run.proofs.News.{blocks-are, bytes-are, new-sound}
use Rattle.cola_run.proofs.run_store.RunStore.new.Goals as goal

pub new-requires-clause-inside : goal.new-requires-clause-inside
new-requires-clause-inside g c =
    let geometry = c.args.geometry in
    let blocks : c.cells.result / c.cells_of_block.result ≡ file_blocks geometry =
    ap (λ (n : ℕ). n / c.cells_of_block.result) c.cells.ensures.value ∙ ap (λ (n : ℕ). 2 ^ (geometry.bottom + 4) / n) c.cells_of_block.ensures.value ∙ blocks-are geometry in
    subst (λ (n : ℕ). HasRange (g.D.Device.bytes c.args.device) 0 (n * (64 * 2 ^ c.exponent_of_bytes-exponent.result))) (sym blocks)
    (subst (λ (n : ℕ). HasRange (g.D.Device.bytes c.args.device) 0 (file_blocks geometry * n)) (sym c.exponent_of_bytes-exponent.ensures.bytes)
    (subst (λ (n : ℕ). HasRange (g.D.Device.bytes c.args.device) 0 n) (sym (bytes-are geometry)) c.requires.inside))

-- a store with these parts is a new one
store-is : {D : Type 0} (geometry : Geometry) (device : D) (counts : Counts) (cache cells per size levels : ℕ) (buffers : Blocks D) (front : FrontCells) (shadows : List Shadow) (tails : List ℕ)
    → cells ≡ 2 ^ (geometry.bottom + 4) → per ≡ block_cells geometry → size ≡ block_bytes geometry → levels ≡ device_levels geometry → buffers ≡ new_blocks device counts cache size (cells / per) (1 + 3 * levels)
    → front ≡ new_front geometry.block_exp geometry.format → shadows ≡ new_shadows geometry → tails ≡ new_tails geometry
    → record { buffers = buffers; geometry = geometry; front = front; shadows = shadows; tails = tails; ticked = 0 } ≡ new_store device counts geometry cache
store-is geometry device counts cache cells per size levels buffers front shadows tails c p z l b f s t =
    let blocks : cells / per ≡ file_blocks geometry = ap (λ (n : ℕ). n / per) c ∙ ap (λ (n : ℕ). 2 ^ (geometry.bottom + 4) / n) p ∙ blocks-are geometry in
    let many : 1 + 3 * levels ≡ 1 + 3 * device_levels geometry = ap (λ (n : ℕ). 1 + 3 * n) l in
    cc

pub returns-in-Ok-new-clause-made : goal.returns-in-Ok-new-clause-made
returns-in-Ok-new-clause-made g c =
    store-is c.args.geometry c.args.device (g.D.Device.counts c.args.device) c.args.cache c.cells.result c.cells_of_block.result (64 * 2 ^ c.exponent_of_bytes-exponent.result) c.levels_on_device.result
    c.in-Ok-new.buffers c.in-Ok.parts.0 c.in-Ok.parts.1.items.items c.in-Ok.parts.2 c.cells.ensures.value c.cells_of_block.ensures.value c.exponent_of_bytes-exponent.ensures.bytes c.levels_on_device.ensures.value
    c.in-Ok-new.ensures.made c.in-Ok.ensures.front c.in-Ok.ensures.shadows c.in-Ok.ensures.tails

pub invariant_of-result : goal.invariant_of-result
invariant_of-result g c =
    subst (λ (s : Store _). IsStore (g.D.Device.bytes s.buffers.cache.device) s)
    (sym (store-is c.args.geometry c.args.device (g.D.Device.counts c.args.device) c.args.cache c.cells.result c.cells_of_block.result (64 * 2 ^ c.exponent_of_bytes-exponent.result) c.levels_on_device.result
    c.in-Ok-new.buffers c.in-Ok.parts.0 c.in-Ok.parts.1.items.items c.in-Ok.parts.2 c.cells.ensures.value c.cells_of_block.ensures.value c.exponent_of_bytes-exponent.ensures.bytes c.levels_on_device.ensures.value
    c.in-Ok-new.ensures.made c.in-Ok.ensures.front c.in-Ok.ensures.shadows c.in-Ok.ensures.tails))
    (new-sound (g.D.Device.bytes c.args.device) c.args.device (g.D.Device.counts c.args.device) c.args.geometry c.args.cache c.requires.inside)
