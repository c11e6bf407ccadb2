use Rattle.std.proofs.Common.{refl, subst}
use Rattle.cola_session.specs.Ends.{NotBegun}
use Rattle.cola_store.specs.Table.{store_table}
use Rattle.cola_session.specs.Home.{LinesEnd}
use Rattle.cola_command.specs.Turns.{file_home}
use Rattle.cola_command.proofs.Ending.{serves}
use Rattle.cola_command.proofs.serving.serve_file.Goals as goal

pub returns-in-Ok : goal.returns-in-Ok
returns-in-Ok g c =
    let after = c.serve_lines-session in
    serves g.S.Source g.K.Sink g.D.Device c.args.cache c.args.cost c.args.source.now after.new.source c.args.sink.now after.new.sink c.args.device c.end_session.result.0 c.args.steps.now after.new.steps after.result.1 c.end_session.result.1
    c.in-Ok.session after.result.0 c.in-Ok.ensures.begins c.in-Ok.ensures.kept
    (subst (λ n. LinesEnd (store_table g.D.Device) (file_home g.D.Device) g.K.Sink g.S.Source c.in-Ok.session after.result.0 c.args.source.now after.new.source c.args.sink.now after.new.sink n after.new.steps after.result.1) c.begin.ensures.no_tick after.ensures)
    c.end_session.ensures

pub returns-in-Err : goal.returns-in-Err
returns-in-Err g c = NotBegun (record {
  why = c.in-Err.fault;
  status_is = c.opening_status.ensures;
  refused = c.in-Err.ensures.begins;
  kept = c.in-Err.ensures.kept;
  untouched = record { source_stays = refl; sink_stays = refl; steps_stay = c.begin.ensures.no_tick };
})
