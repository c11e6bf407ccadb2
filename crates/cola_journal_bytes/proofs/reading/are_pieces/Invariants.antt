use Rattle.std.proofs.Common.{◌≡◌, ◌-◌}
use Rattle.std.specs.Prelude.{is_some}
use Rattle.cola_journal_bytes.specs.Format.{pieces_in}
use Rattle.cola_journal_bytes.proofs.reading.are_pieces.Given as goal

abbrev pub invariant-loop-piece : goal.invariant-loop-piece
invariant-loop-piece l = is_some (pieces_in l.count l.bytes) ≡ is_some (pieces_in (l.count - l.piece) l.rest)
