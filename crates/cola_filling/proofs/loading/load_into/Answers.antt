-- A load does not begin, its lines stop, or it is finished.
use Rattle.std.proofs.Common.{◌≡◌, ◌∙◌, ap, refl, arith}
use Rattle.cola_layout.specs.declared.geometry.Geometry.{Geometry}
use Rattle.cola_load.proofs.Blocks.{blocks-few}
use Rattle.cola_opening.specs.Counted.{Spends}
use Rattle.cola_opening.proofs.Spending.{spends-then, spends-more}
use Rattle.cola_load.specs.Loading.{full_blocks}
use Rattle.cola_run.specs.Cells.{device_levels}
use Rattle.cola_filling.specs.Loads as ends
use Rattle.cola_filling.proofs.LoadedWhole.{begun-fresh, file-loaded, stopped, ended}
use Rattle.cola_filling.proofs.loading.load_into.Goals as goal

pub returns-in-Err-clause-ends : goal.returns-in-Err-clause-ends
returns-in-Err-clause-ends g c = ends.NotBegun c.in-Err.fault c.refusal.ensures (record { why = c.in-Err.ensures.begins; spends = c.begin.ensures.spends; source_stays = refl; sink_stays = refl })

pub load_lines-requires-clause-fresh : goal.load_lines-requires-clause-fresh
load_lines-requires-clause-fresh g c = begun-fresh g.D.Device c.args.geometry c.args.device.now c.begin.new.device c.in-Ok.loader c.in-Ok.ensures.begins

pub returns-in-Some-clause-ends : goal.returns-in-Some-clause-ends
returns-in-Some-clause-ends g c =
    stopped g.S.Source g.K.Sink g.D.Device c.args.geometry c.in-Ok.loader c.load_lines.new.loader c.args.source.now c.load_lines.new.source c.args.sink.now c.load_lines.new.sink c.load_lines.new.sink
    c.args.device.now c.begin.new.device c.load_lines.new.device c.load_lines.new.device c.in-Some.status c.in-Ok.ensures.begins c.begin.ensures.spends.writes_rise
    (spends-then c.begin.ensures.spends c.load_lines.ensures.spends (omega arith) (omega arith) (omega arith)) c.in-Some.ensures.ends

pub finish_load-requires : goal.finish_load-requires
finish_load-requires g c =
    file-loaded g.S.Source g.K.Sink g.D.Device c.in-Ok.loader c.load_lines.new.loader c.args.source.now c.load_lines.new.source c.args.sink.now c.load_lines.new.sink c.begin.new.device c.load_lines.new.device c.in-None.ensures.ends

pub returns-in-None-clause-ends : goal.returns-in-None-clause-ends
returns-in-None-clause-ends g c =
    ended g.S.Source g.K.Sink g.D.Device c.args.geometry c.in-Ok.loader c.load_lines.new.loader c.args.source.now c.load_lines.new.source c.args.sink.now c.load_lines.new.sink c.finish_load.new.sink
    c.args.device.now c.begin.new.device c.load_lines.new.device c.finish_load.new.device c.finish_load.result c.in-Ok.ensures.begins c.begin.ensures.spends.writes_rise c.in-None.ensures.ends c.finish_load.ensures.finishes
    (blocks-few c.args.geometry c.load_lines.new.loader.rows)

pub returns-in-Err-clause-spends : goal.returns-in-Err-clause-spends
returns-in-Err-clause-spends g c = spends-more c.begin.ensures.spends (omega arith) (omega arith) (omega arith)

pub returns-in-Some-clause-spends : goal.returns-in-Some-clause-spends
returns-in-Some-clause-spends g c =
    let few = blocks-few c.args.geometry c.args.geometry.keys in
    spends-then c.begin.ensures.spends c.load_lines.ensures.spends (omega arith) (omega (arith, few)) (omega arith)

pub returns-in-None-clause-spends : goal.returns-in-None-clause-spends
returns-in-None-clause-spends g c =
    let few = blocks-few c.args.geometry c.args.geometry.keys in
    let levels : device_levels c.load_lines.new.loader.geometry ≡ device_levels c.args.geometry =
    ap (λ (x : Geometry). device_levels x) (c.in-None.ensures.ends.geometry_stays ∙ c.in-Ok.ensures.begins.geometry_is) in
    let lines : Spends (g.D.Device.counts c.args.device.now) (g.D.Device.counts c.load_lines.new.device) 0 (full_blocks c.args.geometry c.args.geometry.keys) 2 =
    spends-then c.begin.ensures.spends c.load_lines.ensures.spends (omega arith) (omega arith) (omega arith) in
    spends-then lines c.finish_load.ensures.spends (omega arith) (omega (arith, few, levels)) (omega arith)
