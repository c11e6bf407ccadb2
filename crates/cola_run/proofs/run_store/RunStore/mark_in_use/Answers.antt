use Rattle.std.proofs.Common.{◌≤◌, ◌+◌, ◌*◌, ℕ, List, [], ◌∷◌, length, Option, refl, sym, ap, subst, ◌∙◌, arith}
use Rattle.std.specs.Prelude.{IfSome}
use Rattle.cola_layout.specs.declared.geometry.Geometry.{Geometry}
use Rattle.cola_layout.specs.Geometry.{IsBlock}
use Rattle.cola_run.specs.Cells.{block_bytes, spots_of, IsBacked}
use Rattle.cola_run.specs.Store.{Store, cells_of}
use Rattle.std.proofs.lemmas.List.{length-map}
use Rattle.cola_cache.specs.Blocks.{forgotten}
use Rattle.cola_device.proofs.SettlingLemmas.{settled-by}
use Rattle.cola_run.proofs.Heads.{heads-backed, heads-spots, block-least}
use Rattle.cola_run.proofs.Sinks.{sound-by}
use Rattle.cola_run.proofs.Views.{store_of}
use Rattle.cola_run.proofs.run_store.RunStore.mark_in_use.Goals as goal

-- the byte lies in the first two blocks
fits : (g : Geometry) → IsBlock g.block_exp g.bottom → 14 + 1 ≤ 2 * block_bytes g
fits g block = omega (arith, block-least g block)

pub invariant_of-self : goal.invariant_of-self
invariant_of-self g c =
    let i = c.self.inside in
    let shape = c.self.invariant.cells.shape in
    sound-by g.D.Device.bytes (store_of i) (record (store_of i) { buffers = c.settle.new.self }) c.self.invariant refl refl shape
    (subst (λ (x : Option (List ℕ)). IfSome x (IsBacked i.geometry i.shadows.items.items i.tails)) (sym c.settle.ensures.bytes_stay)
    (heads-backed i.geometry shape.block i.shadows.items.items i.tails c.write_byte.result 14 (1 ∷ []) (fits i.geometry shape.block)
    (g.D.Device.bytes i.buffers.cache.device) (g.D.Device.bytes c.write_byte.new.self.cache.device) c.write_byte.ensures.wrote c.self.invariant.cells.backed))
    (c.settle.ensures.stays.size ∙ c.write_byte.ensures.stays.size) (c.settle.ensures.stays.many ∙ c.write_byte.ensures.stays.many)
    (ap (λ (xs : List (Option ℕ)). length xs) (c.settle.ensures.lasts ∙ c.write_byte.ensures.lasts) ∙ length-map i.buffers.lasts (forgotten 0))

pub invariant_of-self-in-Err : goal.invariant_of-self-in-Err
invariant_of-self-in-Err g c =
    let i = c.self.inside in
    let shape = c.self.invariant.cells.shape in
    sound-by g.D.Device.bytes (store_of i) (record (store_of i) { buffers = c.write_byte.new.self }) c.self.invariant refl refl shape
    (heads-backed i.geometry shape.block i.shadows.items.items i.tails c.write_byte.result 14 (1 ∷ []) (fits i.geometry shape.block)
    (g.D.Device.bytes i.buffers.cache.device) (g.D.Device.bytes c.write_byte.new.self.cache.device) c.write_byte.ensures.wrote c.self.invariant.cells.backed)
    c.write_byte.ensures.stays.size c.write_byte.ensures.stays.many (ap (λ (xs : List (Option ℕ)). length xs) c.write_byte.ensures.lasts ∙ length-map i.buffers.lasts (forgotten 0))

pub returns-in-Ok-clause-cells_stay : goal.returns-in-Ok-clause-cells_stay
returns-in-Ok-clause-cells_stay g c =
    let i = c.self.inside in
    let shape = c.self.invariant.cells.shape in
    λ l s j.
    ap (λ (x : Option (List ℕ)). spots_of (record { geometry = i.geometry; front = i.front; lower = record { told = x; shadows = i.shadows.items.items; tails = i.tails } }) l s j) c.settle.ensures.bytes_stay
    ∙ heads-spots i.geometry shape.block i.shadows.items.items i.tails c.write_byte.result 14 (1 ∷ []) (fits i.geometry shape.block) i.front
    (g.D.Device.bytes i.buffers.cache.device) (g.D.Device.bytes c.write_byte.new.self.cache.device) c.write_byte.ensures.wrote c.self.invariant.cells.backed l s j
    ∙ ap (λ (x : Store _). spots_of (cells_of (g.D.Device.bytes x.buffers.cache.device) x) l s j) c.self.view_is

pub returns-in-Err-clause-cells_stay : goal.returns-in-Err-clause-cells_stay
returns-in-Err-clause-cells_stay g c =
    let i = c.self.inside in
    let shape = c.self.invariant.cells.shape in
    λ l s j.
    heads-spots i.geometry shape.block i.shadows.items.items i.tails c.write_byte.result 14 (1 ∷ []) (fits i.geometry shape.block) i.front
    (g.D.Device.bytes i.buffers.cache.device) (g.D.Device.bytes c.write_byte.new.self.cache.device) c.write_byte.ensures.wrote c.self.invariant.cells.backed l s j
    ∙ ap (λ (x : Store _). spots_of (cells_of (g.D.Device.bytes x.buffers.cache.device) x) l s j) c.self.view_is

pub returns-in-Ok-clause-settled : goal.returns-in-Ok-clause-settled
returns-in-Ok-clause-settled g c = settled-by g.D.Device c.settle.result c.write_byte.new.self.cache.device c.settle.new.self.cache.device c.settle.ensures.settled c.settle.ensures.bytes_stay
