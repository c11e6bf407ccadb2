-- A device in memory, and what each of its calls leaves.
use Rattle.std.specs.Prelude.{◌≡◌, ℕ, ◌==◌, nat_lt, Bool, ◌||◌, if◌then◌else◌, List, length, replicate, min, Result, is_err}
use Rattle.std.specs.List.{list_any}
use Rattle.cola_device.specs.declared.counts.Counts.{Counts}
use Rattle.cola_device.specs.declared.memory.TheConstants.{SPOILED}
use Rattle.cola_device.specs.Bytes.{splice}
use Rattle.cola_device.specs.Counts.{one_more, count_fault, count_read, count_write, count_other}

-- the bytes, how many there is room for, the calls so far, the numbers of those that fail, the counts, and how many bytes
-- of memory its lists take
pub record Memory : Type 0 where
  pub bytes : List ℕ
  pub room : ℕ
  pub calls : ℕ
  pub failing : List ℕ
  pub counts : Counts
  pub taken : ℕ

-- what it was made with, which no call changes: how many bytes there is room for, the numbers of the calls that fail, and
-- how many bytes of memory its lists take
pub record Settings : Type 0 where
  pub room : ℕ
  pub failing : List ℕ
  pub taken : ℕ

abbrev pub settings : Memory → Settings
settings memory = record { room = memory.room; failing = memory.failing; taken = memory.taken }

-- no call was made yet
abbrev pub unused : List ℕ → ℕ → List ℕ → ℕ → Memory
unused bytes room failing taken =
    record {
      bytes = bytes;
      room = room;
      calls = 0;
      failing = failing;
      counts = record { faults = 0; reads = 0; writes = 0; others = 0 };
      taken = taken;
    }

-- the number of the next call: they are counted from 1 up to the last value of u64
abbrev pub next_call : Memory → ℕ
next_call memory = one_more memory.calls

-- whether the next call is to fail
abbrev pub next_fails : Memory → Bool
next_fails memory = list_any (λ call. call == next_call memory) memory.failing

-- whether a layout of so many bytes fails as the next call
abbrev pub layout_fails : ℕ → Memory → Bool
layout_fails size memory = next_fails memory || nat_lt memory.room size

-- after a call that took its number and failed or not
abbrev pub after_call : Bool → Memory → Memory
after_call failed memory =
    record memory { calls = next_call memory; counts = count_fault failed memory.counts }

-- after a call that neither reads nor writes
abbrev pub after_other : Bool → Memory → Memory
after_other failed memory =
    record (after_call failed memory) { counts = count_other (count_fault failed memory.counts) }

-- after a layout: zero bytes, or as many spoiled ones as there is room for
abbrev pub after_layout : ℕ → Memory → Memory
after_layout size memory =
    record (after_other (layout_fails size memory) memory) {
      bytes = (if layout_fails size memory then replicate (min size memory.room) SPOILED else replicate size 0);
    }

-- after a read
abbrev pub after_read : Memory → Memory
after_read memory =
    record (after_call (next_fails memory) memory) {
      counts = count_read (count_fault (next_fails memory) memory.counts);
    }

-- after a write: the bytes stand in their place, or as many spoiled ones
abbrev pub after_write : ℕ → List ℕ → Memory → Memory
after_write at from memory =
    record (after_call (next_fails memory) memory) {
      bytes = splice memory.bytes at (if next_fails memory then replicate (length from) SPOILED else from);
      counts = count_write (count_fault (next_fails memory) memory.counts);
    }

-- a settle: it fails where its number is listed, and changes that number and the counts alone
pub record IsSettle {T E : Type 0} (result : Result T E) (before now : Memory) : Type 0 where
  pub fails : is_err result ≡ next_fails before
  pub after : now ≡ after_other (next_fails before) before
