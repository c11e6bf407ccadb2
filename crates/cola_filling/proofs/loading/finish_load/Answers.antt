-- The file is finished, and the number of its rows is written.
use Rattle.std.proofs.Common.{◌∙◌, inl, inr, ℕ, List, ap, refl, subst}
use Rattle.cola_report.specs.Line.{LineEnds}
use Rattle.cola_run.proofs.Spots.{both-with, both-second}
use Rattle.cola_opening.proofs.Spending.{called-spends}
use Rattle.cola_load.specs.Loading.{HoldsRows, IsUnfinished}
use Rattle.cola_filling.specs.Loads.{IsFilledWith, loaded_line}
use Rattle.cola_filling.proofs.loading.finish_load.Goals as goal

pub returns-in-Ok-clause-finishes : goal.returns-in-Ok-clause-finishes
returns-in-Ok-clause-finishes g c = inl (record {
  filled = λ rows held.
      both-second (g.D.Device.bytes c.args.device.now) (g.D.Device.bytes c.finish.new.device) _ (IsFilledWith c.args.loader.geometry c.args.loader.last rows)
      (λ x y both. record { are_rows = both.0.are_rows; filled = both.1 rows both.0 })
      (both-with (g.D.Device.bytes c.args.device.now) (g.D.Device.bytes c.finish.new.device) (λ bytes. HoldsRows c.args.loader bytes rows) _ held c.in-Ok.ensures.finishes);
  settled = c.in-Ok.ensures.settled;
  few_writes = c.finish.ensures.counts.writes_rise;
  no_fault = c.in-Ok.ensures.counts.none_hidden;
  wrote =
      subst (λ (text : List ℕ). LineEnds g.K.Sink text 0 c.args.sink.now c.write_line.new.sink c.write_line.result)
      (c.as_slice.ensures.value ∙ c.line_of_rows.ensures ∙ ap loaded_line c.in-Ok.ensures.rows) c.write_line.ensures;
})

pub returns-in-Err-clause-finishes : goal.returns-in-Err-clause-finishes
returns-in-Err-clause-finishes g c = inr (record {
  status_is = refl;
  left = λ rows held.
      both-second (g.D.Device.bytes c.args.device.now) (g.D.Device.bytes c.finish.new.device) _ (IsUnfinished c.args.loader.geometry c.args.loader.last rows)
      (λ x y both. both.1 rows both.0)
      (both-with (g.D.Device.bytes c.args.device.now) (g.D.Device.bytes c.finish.new.device) (λ bytes. HoldsRows c.args.loader bytes rows) _ held c.in-Err.ensures.finishes);
  cause = c.in-Err.ensures.counts.cause;
  sink_stays = refl;
})

pub returns-in-Ok-clause-spends : goal.returns-in-Ok-clause-spends
returns-in-Ok-clause-spends g c = called-spends c.finish.ensures.counts

pub returns-in-Err-clause-spends : goal.returns-in-Err-clause-spends
returns-in-Err-clause-spends g c = called-spends c.finish.ensures.counts
