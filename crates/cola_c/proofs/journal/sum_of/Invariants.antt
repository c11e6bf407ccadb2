use Rattle.std.proofs.Common.{◌≡◌, ◌++◌, ℕ, List, drop}
use Rattle.sha2.specs.Hashers.{Holds256}
use Rattle.cola_journal_bytes.specs.Format.{all_bytes, summed}
use Rattle.cola_c.specs.Journal.{pieces_from, pieces_of}
use Rattle.cola_c.proofs.journal.sum_of.Given as goal

abbrev pub invariant-loop-page : goal.invariant-loop-page
invariant-loop-page l =
    (front : List ℕ) × (Holds256 l.writer.sum front × (front ++ all_bytes (pieces_from l.page (drop l.page l.marks) l.bytes) ≡ summed (pieces_of l.marks l.bytes)))
