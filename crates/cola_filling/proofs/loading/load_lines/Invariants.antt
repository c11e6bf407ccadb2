-- Behind each line: what was read for it, and what it left loaded.
use Rattle.std.proofs.Common.{◌≡◌, ◌+◌, ◌≤◌, ◌^◌, List, length}
use Rattle.cola_io.specs.Reads.{Read}
use Rattle.cola_spec.specs.Lines.{Line}
use Rattle.cola_session.proofs.ReadingOn.{ReadSoFar}
use Rattle.cola_filling.proofs.LoadedSoFar.{LoadedSoFar}
use Rattle.cola_filling.proofs.loading.load_lines.Given as goal

abbrev pub invariant-lines : goal.invariant-lines
invariant-lines g l = record {
  reads : List Read;
  told : List Line;
  read : ReadSoFar g.S.Source l.fn.source l.source l.reader reads told;
  loaded : LoadedSoFar g.D.Device l.fn.geometry told l.rows l.loader l.fn.device l.device;
  few : length told + (l.reader.allowed + length l.reader.pending) ≤ 2 ^ 40;
  sink_stays : l.sink ≡ l.fn.sink;
  kept : g.D.Device.kept l.device ≡ g.D.Device.kept l.fn.device;
}

abbrev pub decreases-lines : goal.decreases-lines
decreases-lines g l = l.reader.allowed + length l.reader.pending
