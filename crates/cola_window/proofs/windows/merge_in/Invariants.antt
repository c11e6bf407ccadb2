use Rattle.std.proofs.Common.{◌≡◌, ◌≤◌, ◌<◌, ◌+◌, ◌*◌, ℕ, length}
use Rattle.cola_window.specs.Windows.{Merged, bytes_of, consumed}
use Rattle.cola_window.proofs.Merging.{Fronts}
use Rattle.cola_window.proofs.windows.merge_in.Given as goal

abbrev pub invariant-loop : goal.invariant-loop
invariant-loop g l = record {
  fronts : Fronts l.format (bytes_of l.fn.windows) l.lasts l.taken l.left.own.now l.left.incoming.now l.left.sample.now;
  count : consumed l.taken ≡ l.counter;
  merged : Merged l.format l.rules l.base (bytes_of l.fn.windows) l.lasts l.room l.taken;
}
