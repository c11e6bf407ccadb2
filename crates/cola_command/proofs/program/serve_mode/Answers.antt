-- A session over a file, the stated workload, the test of a file and its growing are served by the modes that name them.
use Rattle.std.proofs.Common.{◌≡◌, ◌∙◌, Option, Some, refl, sym, ap, subst}
use Rattle.cola_words.specs.declared.mode.Mode.{Mode}
use Rattle.cola_words.specs.declared.mode.Mode.TheVariants.{Check, Gen, Grow, Run}
use Rattle.cola_command.specs.Serves.{Serves}
use Rattle.cola_command.proofs.program.serve_mode.Goals as goal

pub returns-in-Some-Gen : goal.returns-in-Some-Gen
returns-in-Some-Gen g c =
    let named = rw c.in-Some-Gen.is at c.in-Some-Gen.field-0-is in
    let e : c.args.mode ≡ Some (Gen c.in-Some-Gen.keys) = c.in-Some-Gen.is ∙ ap (λ (m : Mode). Some m) named in
    subst
    (λ (m : Option Mode). Serves g.S.Source g.K.Sink g.D.Device c.args.source.now c.args.source.now c.args.sink.now c.serve_workload-device.new.sink c.args.device c.serve_workload-device.result.0
    c.args.second c.args.second c.args.steps.now c.serve_workload-device.new.steps c.serve_workload-device.result.1 m)
    (sym e)
    (record {
      ends = c.serve_workload-device.ensures.ends;
      faults = c.serve_workload-device.ensures.faults;
      on_empty = c.serve_workload-device.ensures.on_empty;
      kept = c.serve_workload-device.ensures.kept;
      source_stays = refl;
      second_stays = refl;
    })

pub returns-in-Some-Run : goal.returns-in-Some-Run
returns-in-Some-Run g c =
    let named = rw c.in-Some-Run.is at c.in-Some-Run.field-0-is in
    let e : c.args.mode ≡ Some (Run c.in-Some-Run.cache c.in-Some-Run.cost c.in-Some-Run.mirror) = c.in-Some-Run.is ∙ ap (λ (m : Mode). Some m) named in
    subst
    (λ (m : Option Mode). Serves g.S.Source g.K.Sink g.D.Device c.args.source.now c.serve_run.new.source c.args.sink.now c.serve_run.new.sink c.args.device c.serve_run.result.device
    c.args.second c.serve_run.result.second c.args.steps.now c.serve_run.new.steps c.serve_run.result.status m)
    (sym e) c.serve_run.ensures

pub returns-in-Some-Check : goal.returns-in-Some-Check
returns-in-Some-Check g c =
    let named = rw c.in-Some-Check.is at c.in-Some-Check.field-0-is in
    let e : c.args.mode ≡ Some Check = c.in-Some-Check.is ∙ ap (λ (m : Mode). Some m) named in
    subst
    (λ (m : Option Mode). Serves g.S.Source g.K.Sink g.D.Device c.args.source.now c.args.source.now c.args.sink.now c.check_file-device.new.sink c.args.device c.check_file-device.result.0
    c.args.second c.args.second c.args.steps.now c.check_file-device.new.steps c.check_file-device.result.1 m)
    (sym e)
    (record {
      ends = c.check_file-device.ensures.ends;
      no_write = c.check_file-device.ensures.no_write;
      kept = c.check_file-device.ensures.kept;
      source_stays = refl;
      second_stays = refl;
    })

pub returns-in-Some-Grow : goal.returns-in-Some-Grow
returns-in-Some-Grow g c =
    let named = rw c.in-Some-Grow.is at c.in-Some-Grow.field-0-is in
    let e : c.args.mode ≡ Some (Grow c.in-Some-Grow.keys c.in-Some-Grow.block_exp) = c.in-Some-Grow.is ∙ ap (λ (m : Mode). Some m) named in
    subst
    (λ (m : Option Mode). Serves g.S.Source g.K.Sink g.D.Device c.args.source.now c.args.source.now c.args.sink.now c.grow_file-device.new.sink c.args.device c.grow_file-device.result.0
    c.args.second c.grow_file-device.new.second c.args.steps.now c.grow_file-device.new.steps c.grow_file-device.result.1 m)
    (sym e)
    (record {
      ends = c.grow_file-device.ensures.ends;
      no_write = c.grow_file-device.ensures.no_write;
      kept = c.grow_file-device.ensures.kept;
      second_kept = c.grow_file-device.ensures.second_kept;
      source_stays = refl;
    })
