use Rattle.std.proofs.Common.{◌≡◌, ◌+◌, ◌≤◌, ℕ, List, length, drop}
use Rattle.cola_c.specs.Journal.{pieces_from, pieces_of}
use Rattle.cola_c.proofs.journal.marked.Given as goal

abbrev pub invariant-loop-page : goal.invariant-loop-page
invariant-loop-page l = record {
  counted : (bytes : List ℕ) → l.count + length (pieces_from l.page (drop l.page l.marks) bytes) ≡ length (pieces_of l.marks bytes);
  few : l.count ≤ l.page;
}
