use Rattle.std.proofs.Common.{◌+◌, ◌∷◌, [], ◌∙◌, ap, refl, drop, map, arith}
use Rattle.cola_runs.specs.Cells.{Look}
use Rattle.cola_runs.specs.Weave.{look_at}
use Rattle.cola_plain_runs.specs.Runs.{as_run}
use Rattle.cola_runs.proofs.Stepping.{drop_all}
use Rattle.cola_plain_runs.proofs.Weaving.{made_next, made_all, list_from, run_append}
use Rattle.cola_plain_runs.proofs.weave.lookahead_cells.Goals as goal

pub loop-key-preserved : goal.loop-key-preserved
loop-key-preserved g c =
    let here = list_from c.args.keys.now c.loop-key.key-index c.key-item.result c.loop-key-test.true c.key-item.is in
    made_next (map look_at) (λ x xs. refl) c.key-item.result (drop (c.loop-key.key-index + 1) c.args.keys.now)
    (as_run c.loop-key.cells.items) (Look c.key-item.result 0 ∷ []) (as_run c.push.new.self.items) _ _ here (ap as_run c.in_ok-push.ensures.items ∙ run_append c.loop-key.cells.items _) refl c.loop-key.invariant

pub returns : goal.returns
returns g c =
    let none = drop_all c.loop-key.key-index c.args.keys.now (omega arith) in
    made_all (map look_at) refl _ _ _ none c.loop-key.invariant
