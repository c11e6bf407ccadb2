-- A head of a merger that is lent.
use Rattle.std.specs.Borrow.{Lends, MutBor, Fml}
use Rattle.cola_cell.specs.declared.cell.Reader.{Reader}
use Rattle.cola_merge.specs.Fetched.{Head}
use Rattle.cola_merge.specs.declared.merging.Merger.{Merger}
use Rattle.cola_merge.specs.contracts.merging.Merger.{the_row}
use Rattle.cola_merge.specs.contracts.heads.Head as head
use Rattle.cola_merge.specs.Heads.{with_head}

-- the merger ends with the last value of the head of this reader
abbrev pub LendsHead : MutBor Merger → Reader → MutBor Head → Fml
LendsHead m reader lent = Lends the_row head.the_row m lent (with_head m.now reader)
