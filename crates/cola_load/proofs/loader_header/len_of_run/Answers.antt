use Rattle.std.proofs.Common.{ℕ, ◌/◌, ap, sym, ◌∙◌, add-one}
use Rattle.cola_load.specs.Filled.{run_len}
use Rattle.cola_load.proofs.Rowing.{next-run}
use Rattle.cola_load.proofs.loader_header.len_of_run.Goals as goal

pub loop-level-preserved : goal.loop-level-preserved
loop-level-preserved c =
    ap (λ (n : ℕ). n / 8) c.loop-level.invariant ∙ sym (next-run c.args.rows c.loop-level._level)
    ∙ ap (λ (n : ℕ). run_len c.args.rows n) (sym (add-one c.loop-level._level))
