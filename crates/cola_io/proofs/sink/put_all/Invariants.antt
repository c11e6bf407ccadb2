use Rattle.std.proofs.Common.{length, ◌≡◌, ◌-◌, ◌≤◌, take}
use Rattle.cola_io.specs.Streams.{Appended}
use Rattle.cola_io.proofs.sink.put_all.Given as goal

abbrev pub invariant-loop-done : goal.invariant-loop-done
invariant-loop-done g l = record {
  within : l.done ≤ length l.bytes;
  appended : Appended (take l.done l.bytes) (g.K.Sink.written l.fn.sink) (g.K.Sink.written l.sink);
  faults : g.K.Sink.faults l.sink ≡ g.K.Sink.faults l.fn.sink;
}

abbrev pub decreases-loop-done : goal.decreases-loop-done
decreases-loop-done g l = length l.bytes - l.done
