use Rattle.std.proofs.Common.{◌≡◌, ◌+◌, List, true, None, if◌then◌else◌}
use Rattle.std.specs.Io.KnownBytes.{IsAtEnd}
use Rattle.cola_io.specs.Streams.{Taken}
use Rattle.cola_io.specs.Reads.{Read, bytes_read, WasRead, met_end}
use Rattle.cola_io.proofs.Going.{Going}
use Rattle.cola_io.proofs.Asking.{Asking}
use Rattle.cola_io.proofs.line_reader.LineReader.next_line.Given as goal

abbrev pub invariant-loop-next : goal.invariant-loop-next
invariant-loop-next g l = record {
  reads : List Read;
  was_read : WasRead g.S.Source l.fn.source reads l.source;
  taken : Taken (bytes_read reads) (g.S.Source.left l.fn.source) (g.S.Source.left l.source);
  at_end : met_end reads ≡ true → IsAtEnd (g.S.Source.left l.source);
  asking : Asking l.fn.self reads l.self-inside.ended;
  going : Going l.fn.self (bytes_read reads) l.self-inside.buffer.begun l.self-inside.buffer.rest l.self-inside.ended l.self-inside.allowed;
  no_line : l.self-inside.buffer.line ≡ None;
  faults : g.S.Source.faults l.source ≡ g.S.Source.faults l.fn.source;
}

abbrev pub decreases-loop-next : goal.decreases-loop-next
decreases-loop-next g l = if l.self-inside.ended then l.self-inside.allowed else l.self-inside.allowed + 1
