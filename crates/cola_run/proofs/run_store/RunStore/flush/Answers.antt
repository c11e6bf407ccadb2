use Rattle.std.proofs.Common.{◌+◌, ◌-◌, List, ap, subst, ◌∙◌}
use Rattle.cola_cell.specs.declared.sink.Shadow.{Shadow}
use Rattle.cola_run.specs.Store.{Store, held_of, lower_of}
use Rattle.cola_run.specs.Saving.{SameReads}
use Rattle.cola_run.specs.Loading.{SameCells}
use Rattle.std.proofs.lemmas.List.{with_items_is}
use Rattle.std.specs.Vec.{with_items}
use Rattle.cola_cache.specs.Blocks.{Made}
use Rattle.cola_run.proofs.Views.{store_of, lent-back}
use Rattle.cola_run.proofs.run_store.RunStore.flush.Goals as goal

pub returns-clause-reads : goal.returns-clause-reads
returns-clause-reads g c =
    let i = c.self.inside in
    let view = store_of i in
    let told = g.D.Device.bytes in
    let shadows : List Shadow = (with_items i.shadows.items c.flush_parts.new.shadows).items in
    let now : Store _ = record view { buffers = c.flush_parts.new.buffers; shadows = shadows } in
    let reads : SameCells i.geometry i.front (lower_of told i.buffers view.shadows i.tails) (lower_of told now.buffers shadows i.tails) = lent-back
    (λ xs ys. SameCells i.geometry i.front (lower_of told i.buffers xs i.tails) (lower_of told now.buffers ys i.tails)) c.deref_mut.ensures.value
    (with_items_is i.shadows.items c.flush_parts.new.shadows (c.flush_parts.auto.shadows ∙ c.deref_mut.ensures.len)) c.flush_parts.ensures.reads in
    subst (λ (s : Store _). SameReads (held_of told s) (held_of told now)) c.self.view_is
    (record {
      fixed_is = ap (λ (m : Made). record { levels = i.geometry.bottom + 1; doublings = i.geometry.block_exp - 3; format = i.geometry.format; made = record { reads = m.reads; faults = m.faults } }) c.flush_parts.ensures.writing.stays.made;
      slots_stay = reads.slots_stay;
      lens_stay = reads.lens_stay;
      spots_stay = reads.spots_stay;
    })
