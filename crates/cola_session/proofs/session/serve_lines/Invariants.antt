use Rattle.std.proofs.Common.{◌≡◌, ◌+◌, List, length}
use Rattle.cola_io.specs.Reads.{Read}
use Rattle.cola_spec.specs.Lines.{Line}
use Rattle.cola_session.specs.Home.{AllLead}
use Rattle.cola_session.proofs.ReadingOn.{ReadSoFar}
use Rattle.cola_session.proofs.session.serve_lines.Given as goal

abbrev pub invariant-lines : goal.invariant-lines
invariant-lines g l = record {
  reads : List Read;
  told : List Line;
  read : ReadSoFar g.S.Source l.fn.source l.source l.reader reads told;
  sink_faults : g.K.Sink.faults l.sink ≡ g.K.Sink.faults l.fn.sink;
  led : AllLead g.H.Table.Table g.H.Home.home g.K.Sink l.fn.home l.home l.fn.sink l.sink l.fn.steps l.steps told;
}

abbrev pub decreases-lines : goal.decreases-lines
decreases-lines g l = l.reader.allowed + length l.reader.pending
