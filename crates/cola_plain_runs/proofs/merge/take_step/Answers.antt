use Rattle.std.proofs.Common.{◌∙◌, sym, ap}
use Rattle.std.specs.Option.{option_map, option_to_list}
use Rattle.cola_runs.specs.Steps.{Take, Ended}
use Rattle.cola_plain_runs.specs.Runs.{as_cell, as_run, as_part, as_action, as_build, as_head}
use Rattle.cola_plain_runs.proofs.Lists.{step_by, consumed_is}
use Rattle.cola_plain_runs.proofs.merge.take_step.Goals as goal

pub returns-in-Ended-clause-step : goal.returns-in-Ended-clause-step
returns-in-Ended-clause-step g c =
    sym (step_by g.K.Ord.cmp (as_part c.args.part.now) c.args.own.now c.args.incoming.now c.args.keys.now (as_build c.args.build.now) Ended
    c.item_at.result c.item_at-2.result c.item_at-3.result c.item_at.ensures c.item_at-2.ensures c.item_at-3.ensures (sym (ap as_action c.in-Ended.is) ∙ c.first_rule-action.ensures))

pub returns-in_ok-emit_cell-in-Take-clause-step : goal.returns-in_ok-emit_cell-in-Take-clause-step
returns-in_ok-emit_cell-in-Take-clause-step g c =
    consumed_is c.in-Take.head (option_to_list (option_map as_cell c.in-Take.cell)) (as_run c.consume.new.build.done.items) (as_build c.args.build.now)
    c.consume.new.build.own c.consume.new.build.incoming c.consume.new.build.sampled
    c.consume.ensures.consumed.0 c.consume.ensures.consumed.1 c.consume.ensures.consumed.2 (ap (λ d. as_run d.items) c.consume.ensures.emitted ∙ c.in_ok-emit_cell-in-Take.ensures.emitted)
    ∙ sym (step_by g.K.Ord.cmp (as_part c.args.part.now) c.args.own.now c.args.incoming.now c.args.keys.now (as_build c.args.build.now) (Take (as_head c.in-Take.head) (option_map as_cell c.in-Take.cell))
    c.item_at.result c.item_at-2.result c.item_at-3.result c.item_at.ensures c.item_at-2.ensures c.item_at-3.ensures (sym (ap as_action c.in-Take.is) ∙ c.first_rule-action.ensures))
