-- A device over bytes that are only read: what contracts see of it, and what each of its calls leaves.
use Rattle.std.specs.Prelude.{ℕ, List}
use Rattle.cola_device.specs.declared.counts.Counts.{Counts}
use Rattle.cola_device.specs.Counts.{one_more}

-- the bytes, and how many calls of each kind were made
pub record Showing : Type 0 where
  pub bytes : List ℕ
  pub reads : ℕ
  pub writes : ℕ
  pub others : ℕ

-- no call was made yet
abbrev pub unread : List ℕ → Showing
unread bytes = record { bytes = bytes; reads = 0; writes = 0; others = 0 }

-- its counts: each write is a fault, and nothing else is
abbrev pub counts_of : Showing → Counts
counts_of device = record { faults = device.writes; reads = device.reads; writes = device.writes; others = device.others }

-- after a call that neither reads nor writes
abbrev pub after_other : Showing → Showing
after_other device = record device { others = one_more device.others }

-- after a read
abbrev pub after_read : Showing → Showing
after_read device = record device { reads = one_more device.reads }

-- after a write, which was refused
abbrev pub after_write : Showing → Showing
after_write device = record device { writes = one_more device.writes }
