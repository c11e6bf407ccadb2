use Rattle.std.proofs.Common.{◌≡◌}
use Rattle.cola_load.specs.Filled.{run_len}
use Rattle.cola_load.proofs.loader_header.len_of_run.Given as goal

abbrev pub invariant-loop-level : goal.invariant-loop-level
invariant-loop-level l = l.len ≡ run_len l.fn.rows l._level
