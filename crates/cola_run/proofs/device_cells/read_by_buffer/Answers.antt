use Rattle.std.proofs.Common.{◌≡◌, ◌+◌, ◌<◌, ◌/◌, arith, ap, sym, subst, ◌∙◌, ℕ, List, length, Option, Some, None}
use Rattle.std.proofs.lemmas.List.{get_or-set_same, length-set}
use Rattle.cola_layout.proofs.Powers.{power-le}
use Rattle.std.specs.Prelude.{if◌then◌else◌, Result}
use Rattle.cola_cell.specs.declared.cell.Cell.{Cell}
use Rattle.cola_cell.specs.declared.fault.ReadFault.{ReadFault}
use Rattle.cola_cell.specs.Packed.{given}
use Rattle.cola_cell.specs.Flat.{found}
use Rattle.cola_cache.specs.Blocks.{last_in}
use Rattle.cola_run.specs.Cells.{block_cells}
use Rattle.cola_run.specs.Parts.{Finds}
use Rattle.cola_run.specs.Turns.{Turns}
use Rattle.cola_run.proofs.Calls.{turns-found}
use Rattle.cola_run.proofs.device_cells.read_by_buffer.Goals as goal

pub refill_by-requires : goal.refill_by-requires
refill_by-requires g c =
    let stays = c.turn_to.ensures.stays in
    let turned = c.block_of.result in
    let block : turned ≡ c.args.number / block_cells c.args.geometry.now = c.block_of.ensures.value in
    let there : last_in c.turn_to.new.self.lasts c.args.buffer ≡ Some turned =
    ap (λ (xs : List (Option ℕ)). last_in xs c.args.buffer) c.in-Ok.ensures.ok ∙ get_or-set_same c.args.buffers.now.lasts c.args.buffer (Some turned) None c.requires.buffer in
    let many : length c.turn_to.new.self.lasts ≡ length c.args.buffers.now.lasts = ap (λ (xs : List (Option ℕ)). length xs) c.in-Ok.ensures.ok ∙ length-set c.args.buffers.now.lasts c.args.buffer (Some turned) in
    record {
      buffer = subst (λ (n : ℕ). c.args.buffer < n) (sym many) c.requires.buffer;
      inside = subst (λ (n : ℕ). n < c.turn_to.new.self.many) block (subst (λ (n : ℕ). turned < n) (sym (stays.many ∙ c.requires.many)) c.block_of.ensures.within);
      small = omega (arith, c.requires.within, power-le (c.args.geometry.now.bottom + 4) 26 (omega (arith, c.args.geometry.now.shallow)));
      held = there ∙ ap (λ (n : ℕ). Some n) block;
      size = stays.size ∙ c.requires.size;
    }

pub returns-in-Ok-clause-finds : goal.returns-in-Ok-clause-finds
returns-in-Ok-clause-finds g c =
    let told = g.D.Device.bytes c.args.buffers.now.cache.device in
    let cell : Option Cell = if c.refill_by.result then Some c.refill_by.new.into else None in
    let same : Finds told c.args.geometry.now.format c.args.number (found c.args.number cell) =
    subst (λ (x : Option (List ℕ)). Finds x c.args.geometry.now.format c.args.number (found c.args.number cell)) c.turn_to.ensures.bytes_stay c.refill_by.ensures in
    subst (λ (x : Result Cell ReadFault). Finds told c.args.geometry.now.format c.args.number x) (sym (c.taken_or_bad.ensures c.refill_by.new.into)) same

pub returns-in-Ok-clause-turns : goal.returns-in-Ok-clause-turns
returns-in-Ok-clause-turns g c =
    let answer = given c.refill_by.new.into c.taken_or_bad.result in
    subst (λ (n : ℕ). Turns g.D.Device.counts c.args.buffers.now c.turn_to.new.self c.args.buffer n answer) c.block_of.ensures.value
    (turns-found g.D.Device.counts c.args.buffers.now c.turn_to.new.self c.args.buffer c.block_of.result c.args.number (if c.refill_by.result then Some c.refill_by.new.into else None) answer c.in-Ok.field-0
    c.in-Ok.ensures.counts c.in-Ok.ensures.ok (λ e. (c.turn_to.ensures.same e).0) c.turn_to.ensures.stays (c.taken_or_bad.ensures c.refill_by.new.into))
