-- A device over bytes that were lent: what contracts see of it, and what each of its calls leaves.
use Rattle.std.specs.Prelude.{◌≡◌, ℕ, ◌<◌, false, List, length, Option, Result, is_err}
use Rattle.std.specs.Option.{IsSomeAnd}
use denote.RawPtr.{Ptr}
use Rattle.cola_device.specs.declared.counts.Counts.{Counts}
use Rattle.cola_device.specs.Bytes.{splice}
use Rattle.cola_device.specs.Counts.{one_more}

-- where the bytes lie and how many there are, the bytes, and how many calls of each kind were made
pub record Mapped : Type 0 where
  pub at : Ptr
  pub len : ℕ
  pub bytes : List ℕ
  pub reads : ℕ
  pub writes : ℕ
  pub others : ℕ

-- a region owns at least one byte
abbrev pub IsLent : Option (List ℕ) → Type 0
IsLent bytes = IsSomeAnd bytes (λ b. 0 < length b)

-- no call was made yet
abbrev pub unused : Ptr → ℕ → List ℕ → Mapped
unused at len bytes = record { at = at; len = len; bytes = bytes; reads = 0; writes = 0; others = 0 }

-- its counts: it meets no fault
abbrev pub counts_of : Mapped → Counts
counts_of device = record { faults = 0; reads = device.reads; writes = device.writes; others = device.others }

-- after a call that neither reads nor writes
abbrev pub after_other : Mapped → Mapped
after_other device = record device { others = one_more device.others }

-- after a read
abbrev pub after_read : Mapped → Mapped
after_read device = record device { reads = one_more device.reads }

-- after a write: these bytes stand in their place
abbrev pub after_write : ℕ → List ℕ → Mapped → Mapped
after_write at from device = record device { bytes = splice device.bytes at from; writes = one_more device.writes }

-- a settle is carried out, and is counted
pub record IsSettle {T E : Type 0} (result : Result T E) (before now : Mapped) : Type 0 where
  pub carried_out : is_err result ≡ false
  pub after : now ≡ after_other before
