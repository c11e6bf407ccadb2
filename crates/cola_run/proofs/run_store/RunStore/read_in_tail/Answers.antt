use Rattle.std.proofs.Common.{◌≡◌, ◌+◌, ◌≤◌, true, sym, subst, Some, None}
use Rattle.std.specs.Prelude.{if◌then◌else◌}
use Rattle.cola_cell.specs.Packed.{given}
use Rattle.cola_cell.specs.Flat.{shadow_at}
use Rattle.cola_cell.specs.Places.{IsPlace}
use Rattle.cola_cell.specs.Spent.{ReadAnswers}
use Rattle.cola_run.specs.Cells.{block_cells, is_in_tail}
use Rattle.cola_run.specs.Store.{Store, held_of}
use Rattle.cola_run.proofs.Spots.{in-tail}
use Rattle.cola_run.proofs.Reading.{tail-says}
use Rattle.cola_run.proofs.Views.{store_of}
use Rattle.cola_run.proofs.run_store.RunStore.read_in_tail.Goals as goal

pub returns : goal.returns
returns g c =
    let i = c.self.inside in
    let view = store_of i in
    let inside = in-tail (block_cells i.geometry) (shadow_at i.shadows.items.items c.args.level) c.args.slot c.args.index
    (subst (λ (s : Store _). is_in_tail (block_cells s.geometry) (shadow_at s.shadows c.args.level) c.args.slot c.args.index ≡ true) (sym c.self.view_is) c.requires.tail) in
    record {
      answer = λ faults.
          subst (λ (s : Store _). ReadAnswers (held_of g.D.Device.bytes s) faults faults c.args.level c.args.slot c.args.index (given c.refill-taken.new.into c.taken_or_bad.result)) c.self.view_is
          (tail-says g.D.Device.bytes view faults c.args.level c.args.slot c.args.index c.place-number.result (if c.refill-taken.result then Some c.refill-taken.new.into else None) (given c.refill-taken.new.into c.taken_or_bad.result)
          (subst (λ (s : Store _). IsPlace (s.geometry.bottom + 1) c.args.level c.args.slot c.args.index) (sym c.self.view_is) c.requires.place)
          (subst (λ (s : Store _). s.geometry.block_exp ≤ c.args.level + 2) (sym c.self.view_is) c.requires.device)
          inside
          c.refill-taken.ensures
          c.place-number.ensures.value (c.taken_or_bad.ensures c.refill-taken.new.into));
    }
