use Rattle.std.proofs.Common.{◌≡◌, ◌+◌, ◌-◌, ◌∷◌, ◌∙◌, ap, drop, map, filter, arith}
use Rattle.std.proofs.lemmas.Result.{IfOk-weaker}
use Rattle.cola_plain_runs.specs.Runs.{as_run}
use Rattle.cola_pairs.specs.Live.{between, entries, live, values}
use Rattle.cola_plain_runs.specs.Pairs.{as_entries}
use Rattle.cola_plain_runs.proofs.Setting.{mapped_from, runs_next, run_of_same, all_set}
use Rattle.cola_plain_runs.proofs.pairs.live_pairs.Goals as goal

pub loop-left-preserved : goal.loop-left-preserved
loop-left-preserved g c =
    let back : (c.loop-left.left - 1) + 1 ≡ c.loop-left.left = omega arith in
    let here = mapped_from (λ run. as_run run.items) c.args.runs.now (c.loop-left.left - 1) c.index-runs-left.result (omega arith) c.index-runs-left.is
    ∙ ap (λ m. as_run c.index-runs-left.result.items ∷ drop m (map (λ run. as_run run.items) c.args.runs.now)) back in
    let more = filter (λ e. between g.K.Ord.cmp c.args.low.now c.args.high.now e.0) (entries (drop c.loop-left.left (map (λ run. as_run run.items) c.args.runs.now))) in (
      runs_next g.K.Ord.cmp (between g.K.Ord.cmp c.args.low.now c.args.high.now) (as_run c.index-runs-left.result.items) (drop c.loop-left.left (map (λ run. as_run run.items) c.args.runs.now)) _ _ here
          (run_of_same g.K.Ord.cmp (between g.K.Ord.cmp c.args.low.now c.args.high.now) c.as_slice.result.now c.index-runs-left.result.items (as_entries c.set_run.new.entries.items) more c.as_slice.ensures.value
          (c.in_ok-set_run.ensures more c.loop-left.invariant.0)),
      omega arith,
    )

pub returns : goal.returns
returns g c =
    IfOk-weaker c.pairs_of.result (λ pairs. pairs.items ≡ values (as_entries c.as_slice-2.result.now)) (λ pairs. pairs.items ≡ live g.K.Ord.cmp (between g.K.Ord.cmp c.args.low.now c.args.high.now) (map (λ run. as_run run.items) c.args.runs.now))
    (λ pairs e. all_set g.K.Ord.cmp (between g.K.Ord.cmp c.args.low.now c.args.high.now) c.loop-left.left c.as_slice-2.result.now c.loop-left.entries.items _ pairs.items c.loop-left-test.false c.as_slice-2.ensures.value c.loop-left.invariant.0 e)
    c.pairs_of.ensures
