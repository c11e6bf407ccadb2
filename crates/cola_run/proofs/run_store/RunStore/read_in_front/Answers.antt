use Rattle.std.proofs.Common.{◌≡◌, ◌<◌, ◌^◌, ◌+◌, ap, sym, subst, ◌∙◌, arith, ℕ, Option, Some, None}
use Rattle.std.specs.Prelude.{IfSome, if◌then◌else◌}
use Rattle.cola_cell.specs.Packed.{given}
use Rattle.cola_cell.specs.declared.format.Format.{Format}
use Rattle.cola_cell.specs.declared.cell.Cell.{Cell}
use Rattle.cola_cell.specs.Format.{CellFits}
use Rattle.cola_cell.specs.Places.{IsPlace}
use Rattle.cola_cell.specs.Spent.{ReadAnswers}
use Rattle.cola_front.specs.Front.{cell_at}
use Rattle.cola_layout.proofs.Places.{front-below}
use Rattle.cola_layout.proofs.Powers.{next_power}
use Rattle.cola_run.specs.Store.{Store, held_of}
use Rattle.cola_run.proofs.Reading.{front-says, front-fits}
use Rattle.cola_run.proofs.Views.{store_of}
use Rattle.cola_run.proofs.run_store.RunStore.read_in_front.Goals as goal

pub read_into-requires-clause-within : goal.read_into-requires-clause-within
read_into-requires-clause-within g c =
    let b = c.self.inside.geometry.block_exp in
    let slot = c.requires.place.slot_in in
    let low : c.args.level + 2 < b = subst (λ (s : Store _). c.args.level + 2 < s.geometry.block_exp) (sym c.self.view_is) c.requires.front in
    let block : c.self.inside.front.block ≡ 2 ^ b = c.self.invariant.cells.shape.front_block in
    let number = c.place-number.ensures.value in
    omega (arith, front-below b c.args.level c.args.slot c.args.index (omega (arith, slot)) c.requires.place.index_in low, next_power b (b + 1) (omega arith), block, number)

pub returns : goal.returns
returns g c =
    let i = c.self.inside in
    let view = store_of i in
    let fits : IfSome (if c.read_into.result then Some c.read_into.new.into else None) (CellFits i.geometry.format) =
    subst (λ (f : Format). IfSome (if c.read_into.result then Some c.read_into.new.into else None) (CellFits f)) c.self.invariant.cells.shape.format
    (subst (λ (x : Option Cell). IfSome x (CellFits i.front.format)) (sym c.read_into.ensures.value) (front-fits i.front.format (cell_at i.front c.place-number.result) (c.read_into.ensures.sound.comes_back c.place-number.result))) in
    record {
      answer = λ faults.
          subst (λ (s : Store _). ReadAnswers (held_of g.D.Device.bytes s) faults faults c.args.level c.args.slot c.args.index (given c.read_into.new.into c.taken_or_bad.result)) c.self.view_is
          (front-says g.D.Device.bytes view faults c.args.level c.args.slot c.args.index c.place-number.result (if c.read_into.result then Some c.read_into.new.into else None) (given c.read_into.new.into c.taken_or_bad.result)
          (subst (λ (s : Store _). IsPlace (s.geometry.bottom + 1) c.args.level c.args.slot c.args.index) (sym c.self.view_is) c.requires.place)
          (subst (λ (s : Store _). c.args.level + 2 < s.geometry.block_exp) (sym c.self.view_is) c.requires.front)
          (c.read_into.ensures.value ∙ ap (λ (n : ℕ). cell_at i.front n) c.place-number.ensures.value) fits c.place-number.ensures.value (c.taken_or_bad.ensures c.read_into.new.into));
    }
