use Rattle.std.proofs.Common.{◌≡◌, ◌++◌, drop, length, sym, ap, ◌∙◌, arith}
use Rattle.std.proofs.lemmas.List.{drop-map, length-drop}
use Rattle.cola_cell.specs.Order.{key_cmp}
use Rattle.cola_runs.specs.Cells.{count_looks}
use Rattle.cola_plain_runs.specs.Runs.{as_cell, as_run, as_part}
use Rattle.cola_runs.specs.Weave.{weave, relinked}
use Rattle.cola_plain_runs.proofs.Lists.{run_length}
use Rattle.cola_plain_files.specs.Levels.{as_level}
use Rattle.cola_plain_files.proofs.Tests.{cut_where_same, weave_length}
use Rattle.cola_plain_files.proofs.verdict.tests.is_cut.Goals as goal

pub joined-requires : goal.joined-requires
joined-requires c =
    let made = ap length c.in_ok-rest.ensures in
    let few = weave_length (as_part c.args.part.now) (as_run c.rest_of.result.now) (as_run c.rest_of-2.result.now) c.rest_of-3.result.now in
    let a = run_length c.rest_of.result.now in let b = run_length c.rest_of-2.result.now in let d = run_length c.in_ok-rest.rest.items in
    let e = ap length c.rest_of.ensures ∙ length-drop c.args.level.now.own c.as_slice-own.result.now in
    let f = ap length c.rest_of-2.ensures ∙ length-drop c.args.level.now.incoming c.args.above.now in
    let g = ap length c.rest_of-3.ensures ∙ length-drop c.args.level.now.sampled c.args.keys.now in
    let h = ap length c.as_slice-2.ensures.value in
    omega (arith, c.as_slice.ensures.len, c.as_slice-own.ensures.len, c.args.level.now.visible_small, c.args.level.now.shadow_small)

pub returns : goal.returns
returns c =
    let part = as_part c.args.part.now in let above = as_run c.args.above.now in let level = as_level c.args.level.now in let keys = c.args.keys.now in
    let own : as_run c.as_slice-own.result.now ≡ level.visible = ap as_run c.as_slice-own.ensures.value in
    let whole : as_run c.as_slice-4.result.now ≡ weave key_cmp part level.visible above keys =
    ap as_run c.as_slice-4.ensures.value ∙ c.in_ok-whole.ensures ∙ ap (λ o. weave key_cmp part o above keys) own in
    let own_left : as_run c.rest_of.result.now ≡ drop level.own level.visible =
    ap as_run c.rest_of.ensures ∙ sym (drop-map as_cell level.own c.as_slice-own.result.now) ∙ ap (drop level.own) own in
    let above_left : as_run c.rest_of-2.result.now ≡ drop level.incoming above =
    ap as_run c.rest_of-2.ensures ∙ sym (drop-map as_cell level.incoming c.args.above.now) in
    let rest : as_run c.as_slice-2.result.now ≡ weave key_cmp part (drop level.own level.visible) (drop level.incoming above) (drop level.sampled keys) =
    ap as_run c.as_slice-2.ensures.value ∙ c.in_ok-rest.ensures ∙ ap (λ o. weave key_cmp part o (as_run c.rest_of-2.result.now) c.rest_of-3.result.now) own_left
    ∙ ap (λ i. weave key_cmp part (drop level.own level.visible) i c.rest_of-3.result.now) above_left ∙ ap (weave key_cmp part (drop level.own level.visible) (drop level.incoming above)) c.rest_of-3.ensures in
    let run : as_run c.as_slice-3.result.now ≡ level.shadow ++ relinked (count_looks level.shadow) (as_run c.as_slice-2.result.now) =
    ap as_run c.as_slice-3.ensures.value ∙ c.in_ok-run.ensures ∙ ap (λ s. as_run s ++ relinked (count_looks (as_run s)) (as_run c.as_slice-2.result.now)) c.as_slice.ensures.value in
    cut_where_same part above level keys (as_run c.as_slice-4.result.now) (as_run c.as_slice-2.result.now) (as_run c.as_slice-3.result.now) c.is_same_run.result whole rest run c.is_same_run.ensures
