-- A device that marks the pages that it writes: what contracts see of it, and what holds of it at any time.
use Rattle.std.specs.Prelude.{◌≡◌, ℕ, ◌+◌, ◌-◌, ◌*◌, ◌^◌, ◌<◌, ◌≤◌, List, length}
use Rattle.std.specs.Option.{IsSomeAnd}
use Rattle.cola_outside.specs.Told.{Both}
use Rattle.cola_device.specs.declared.counts.Counts.{Counts}
use Rattle.cola_device.specs.declared.device.Device as device
use Rattle.cola_marks.specs.declared.marks.Marks as marks
use Rattle.cola_marks.specs.Pages.{marked, SameUnmarked, MarksStay}

-- the device below, the marks, how many writes were asked for, and the device and the marks as they were given
pub record Marked (D M : Type 0) : Type 0 where
  pub device : D
  pub marks : M
  pub writes : ℕ
  pub first : D
  pub first_marks : M

-- what no call changes: what the device and the marks keep, and both as they were given
pub record Settings (D M K L : Type 0) : Type 0 where
  pub device : K
  pub marks : L
  pub first : D
  pub first_marks : M

-- a device that has bytes has as many
abbrev pub SameSize : List ℕ → List ℕ → Type 0
SameSize before now = 0 < length before → length now ≡ length before

-- the marks, the count of writes, and what was given are the same
pub record OnlyBelow {D M : Type 0} (before now : Marked D M) : Type 0 where
  pub marks : now.marks ≡ before.marks
  pub writes : now.writes ≡ before.writes
  pub first : now.first ≡ before.first
  pub first_marks : now.first_marks ≡ before.first_marks

module _ {D M : Type 0} (d : device.Ghosts D) (m : marks.Ghosts M) where
  -- as it is made: the writes go on from those of the device
  abbrev pub new_marked : D → M → Marked D M
  new_marked device marks =
      record { device = device; marks = marks; writes = (d.counts device).writes; first = device; first_marks = marks }

  -- its counts: the writes are its own, and the others those of the device
  abbrev pub counts_of : Marked D M → Counts
  counts_of it = record (d.counts it.device) { writes = it.writes }

  abbrev pub settings : Marked D M → Settings D M d.Kept m.Kept
  settings it =
      record { device = d.kept it.device; marks = m.kept it.marks; first = it.first; first_marks = it.first_marks }

  -- what holds of it at any time, where its bytes and those it was given are told
  pub record IsSound (it : Marked D M) : Type 0 where
    -- a page with no mark has the bytes that it had
    pub unmarked : Both (d.bytes it.first) (d.bytes it.device) (SameUnmarked (m.marks it.marks))
    -- a mark stays
    pub stay : MarksStay (m.marks it.first_marks) (m.marks it.marks)
    pub size : Both (d.bytes it.first) (d.bytes it.device) SameSize
    pub writes_stay : (d.counts it.first).writes ≤ it.writes
    -- where it was given some bytes, each write marked at most 17 pages
    pub few : IsSomeAnd (d.bytes it.first) (λ bytes. 0 < length bytes) → it.writes < 2 ^ 64 - 1 →
        marked (m.marks it.marks) ≤ marked (m.marks it.first_marks) + 17 * (it.writes - (d.counts it.first).writes)
