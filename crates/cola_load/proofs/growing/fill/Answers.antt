-- What filling a file with the pairs of runs answers.
use Rattle.std.proofs.Common.{◌≡◌, ◌∙◌, ◌+◌, ℕ, sym, subst, inr, Result, Ok, Err, ap, arith}
use Rattle.std.specs.Prelude.{IfOk}
use Rattle.cola_outside.specs.Faults.{Rose}
use Rattle.cola_device.specs.declared.device.DeviceFault.{DeviceFault}
use Rattle.cola_load.proofs.Copying.{seek-refused, fill-refused, fill-walked, fill-unfinished}
use Rattle.cola_opening.proofs.Spending.{spends-then, spends-more, called-spends}
use Rattle.cola_device.specs.declared.counts.Counts.{Counts}
use Rattle.cola_device.specs.Counts.{Called}
use Rattle.cola_layout.specs.declared.geometry.Geometry.{Geometry}
use Rattle.cola_run.specs.Cells.{device_levels}
use Rattle.cola_cursor.proofs.Readings.{reading_then}
use Rattle.cola_load.specs.declared.fault.GrowFault.{GrowFault}
use Rattle.cola_load.specs.Growing.{WritesRows, BothCalm}
use Rattle.cola_load.proofs.growing.fill.Goals as goal

-- the writes of a copy with a call behind it, and an answer that has the number of its rows, if one
then-writes : {geometry : Geometry} {a b c : Counts} {more v others x : ℕ} {T E : Type 0} {r : Result T E} (result : Result ℕ GrowFault) → IfOk result (λ count. count ≡ x) → v ≡ more → WritesRows geometry a b 0 0 (Ok x) → Called b c 0 v others r →
    WritesRows geometry a c more others result
then-writes result is e h k = record { rows = h.rows; few = h.few; rows_are = subst (λ (n : ℕ). IfOk result (λ count. count ≡ n)) h.rows_are is; spends = spends-then h.spends (called-spends k) (omega arith) (omega (arith, e)) (omega arith) }

pub returns-in-Err-copy_all : goal.returns-in-Err-copy_all
returns-in-Err-copy_all g c =
    let writes = c.in-Err-copy_all.ensures.writes in
    record {
      walks = fill-refused c.seek.ensures.looks.cells_stay c.least_key.ensures c.in-Ok.cursor c.in-Ok.ensures.seeks.begins.0 c.in-Ok.ensures.seeks.ahead
          c.args.begun.now.geometry c.args.begun.now.last c.copy_all.new.cursor c.copy_all.new.loader (g.E.Device.bytes c.copy_all.new.to) (g.E.Device.counts c.args.to.now) (g.E.Device.counts c.copy_all.new.to) c.in-Err-copy_all.fault
          (let few = writes.spends.others_rise in omega (arith, few)) c.in-Err-copy_all.ensures.copies;
      settled = tt;
      at_most = omega (arith, c.copy_all.ensures.at_most, c.in-Ok.ensures.seeks.left);
      reading = reading_then c.in-Ok.ensures.seeks.reading c.copy_all.ensures.reading;
      faults = subst (λ (n : ℕ). BothCalm {T = ℕ} n (g.W.CellSource.state c.copy_all.new.work).spent.faults (g.E.Device.counts c.args.to.now).faults (g.E.Device.counts c.copy_all.new.to).faults (Err c.in-Err-copy_all.fault))
          c.in-Ok.ensures.looks.calm c.in-Err-copy_all.ensures.faults;
      kept = c.copy_all.ensures.kept ∙ c.seek.ensures.looks.kept;
      writes = record { rows = writes.rows; few = writes.few; rows_are = tt; spends = spends-more writes.spends (omega arith) (omega arith) (omega arith) };
      other_kept = c.copy_all.ensures.other_kept;
    }

pub returns-in-Ok-finish : goal.returns-in-Ok-finish
returns-in-Ok-finish g c =
    let all = c.in-Ok-copy_all.ensures in
    record {
      walks = fill-walked c.seek.ensures.looks.cells_stay c.least_key.ensures c.in-Ok.cursor c.in-Ok.ensures.seeks.begins.0 c.in-Ok.ensures.seeks.ahead
          c.args.begun.now.geometry c.args.begun.now.last DeviceFault c.in-Ok-finish.rows c.copy_all.new.cursor c.copy_all.new.loader (g.E.Device.bytes c.copy_all.new.to) (g.E.Device.bytes c.finish.new.device) c.in-Ok-copy_all.field-0 c.in-Ok-finish.rows
          all.copies all.geometry all.last c.in-Ok-finish.ensures.rows c.in-Ok-finish.ensures.finishes;
      settled = c.in-Ok-finish.ensures.settled;
      at_most = omega (arith, c.copy_all.ensures.at_most, c.in-Ok.ensures.seeks.left);
      reading = reading_then c.in-Ok.ensures.seeks.reading c.copy_all.ensures.reading;
      faults = (all.faults.0 ∙ c.in-Ok.ensures.looks.calm, c.in-Ok-finish.ensures.counts.none_hidden ∙ all.faults.1);
      kept = c.copy_all.ensures.kept ∙ c.seek.ensures.looks.kept;
      writes = then-writes (Ok c.in-Ok-finish.rows) (c.in-Ok-finish.ensures.rows ∙ all.copies.1.1.0.many ∙ sym all.copies.1.0) (ap (λ (x : Geometry). device_levels x + 2) all.geometry) all.writes c.in-Ok-finish.ensures.counts;
      other_kept = c.in-Ok-finish.ensures.kept ∙ c.copy_all.ensures.other_kept;
    }

pub returns-in-Err-clause-walks : goal.returns-in-Err-clause-walks
returns-in-Err-clause-walks g c =
    seek-refused (g.W.CellSource.state c.args.work.now).held c.args.runs.now.items c.args.begun.now.geometry c.args.begun.now.last (g.E.Device.counts c.args.to.now)
    (g.W.CellSource.state c.args.work.now).spent.faults (g.W.CellSource.state c.seek.new.work).spent.faults c.args.loader (g.E.Device.bytes c.args.to.now) c.in-Err.fault c.unread.result c.unread.ensures c.in-Err.ensures.seeks.cause c.requires.holds

pub returns-in-Err-finish : goal.returns-in-Err-finish
returns-in-Err-finish g c =
    let all = c.in-Ok-copy_all.ensures in
    let cause = subst (λ (n : ℕ). Rose n (g.E.Device.counts c.finish.new.device).faults) all.faults.1 c.in-Err-finish.ensures.counts.cause in
    record {
      walks = fill-unfinished c.seek.ensures.looks.cells_stay c.least_key.ensures c.in-Ok.cursor c.in-Ok.ensures.seeks.begins.0 c.in-Ok.ensures.seeks.ahead
          c.args.begun.now.geometry c.args.begun.now.last ℕ c.in-Err-finish.field-0 c.copy_all.new.cursor c.copy_all.new.loader (g.E.Device.bytes c.copy_all.new.to) (g.E.Device.bytes c.finish.new.device) c.in-Ok-copy_all.field-0
          (g.E.Device.counts c.args.to.now) (g.E.Device.counts c.finish.new.device) all.copies all.geometry all.last cause c.in-Err-finish.ensures.finishes;
      settled = tt;
      at_most = omega (arith, c.copy_all.ensures.at_most, c.in-Ok.ensures.seeks.left);
      reading = reading_then c.in-Ok.ensures.seeks.reading c.copy_all.ensures.reading;
      faults = inr cause;
      kept = c.copy_all.ensures.kept ∙ c.seek.ensures.looks.kept;
      writes = then-writes (Err _) tt (ap (λ (x : Geometry). device_levels x + 2) all.geometry) all.writes c.in-Err-finish.ensures.counts;
      other_kept = c.in-Err-finish.ensures.kept ∙ c.copy_all.ensures.other_kept;
    }
