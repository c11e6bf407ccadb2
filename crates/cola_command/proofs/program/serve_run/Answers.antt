use Rattle.std.proofs.Common.{Some, refl, sym, subst}
use Rattle.cola_words.specs.declared.mode.Mode.TheVariants.{Run}
use Rattle.cola_command.specs.Serves.{Serves}
use Rattle.cola_command.proofs.program.serve_run.Goals as goal

pub returns-in-None : goal.returns-in-None
returns-in-None g c =
    let served = c.serve_file-device in
    subst (λ m. Serves g.S.Source g.K.Sink g.D.Device c.args.source.now served.new.source c.args.sink.now served.new.sink c.args.device served.result.0 c.args.second c.args.second c.args.steps.now served.new.steps served.result.1 (Some (Run c.args.cache c.args.cost m)))
    (sym c.in-None.is) (record { ends = served.ensures; second_stays = refl })

pub returns-in-Some : goal.returns-in-Some
returns-in-Some g c =
    let served = c.serve_mirror in
    subst (λ m. Serves g.S.Source g.K.Sink g.D.Device c.args.source.now served.new.source c.args.sink.now served.new.sink c.args.device served.result.device c.args.second served.result.second c.args.steps.now served.new.steps served.result.status (Some (Run c.args.cache c.args.cost m)))
    (sym c.in-Some.is) (record { ends = served.ensures })
