-- What a mirror over two devices is to its caller, and what each of its calls does.
use Rattle.std.specs.Prelude.{◌≡◌, ℕ, Bool, true, false, ◌&&◌, ◌||◌, List, Option, None, Result, is_err, IsErr, IfOk, OnOk}
use Rattle.std.specs.Result.{result_or}
use Rattle.cola_outside.specs.Faults.{RoseBy, Rose}
use Rattle.cola_device.specs.declared.counts.Counts.{Counts}
use Rattle.cola_device.specs.declared.device.Device as device
use Rattle.cola_device.specs.declared.device.DeviceFault.{DeviceFault}
use Rattle.cola_device.specs.Bytes.{HasSize, Gives, LaidOut, Wrote}
use Rattle.cola_device.specs.Counts.{Called, count_fault, count_read, count_write, count_other}
use Rattle.cola_mirror.specs.declared.sides.Sides.{Sides}
use Rattle.cola_mirror.specs.Sides.{has_first, has_second, asks_second, calls_second, after_asking, after_change, after_settle, in_use}

-- both sides, those that are in use, the mirror's own counts, and how many faults each side had met as the mirror was made
pub record Pair (D E : Type 0) : Type 0 where
  pub first : D
  pub second : E
  pub sides : Sides
  pub counts : Counts
  pub first_faults : ℕ
  pub second_faults : ℕ

-- what no call changes: what each side keeps, and how many faults each had met as the mirror was made
pub record Settings (K L : Type 0) : Type 0 where
  pub first : K
  pub second : L
  pub first_faults : ℕ
  pub second_faults : ℕ

-- bytes, where they are told at all
abbrev pub told_where : Bool → Option (List ℕ) → Option (List ℕ)
told_where true told = told
told_where false told = None

-- how many faults a side met at least since the mirror was made: where it is in use as many as the mirror, and where it was
-- lost one
abbrev pub MetFaults : Bool → ℕ → ℕ → ℕ → Type 0
MetFaults true own before now = RoseBy own before now
MetFaults false own before now = Rose before now

-- A mirror

module _ {D E : Type 0} (d : device.Ghosts D) (e : device.Ghosts E) where
  -- the bytes of a side in use, where both sides tell theirs
  abbrev pub bytes_of : Pair D E → Option (List ℕ)
  bytes_of pair = told_where (d.tells && e.tells) (in_use pair.sides (d.bytes pair.first) (e.bytes pair.second))

  abbrev pub settings : Pair D E → Settings d.Kept e.Kept
  settings pair = record {
    first = d.kept pair.first;
    second = e.kept pair.second;
    first_faults = pair.first_faults;
    second_faults = pair.second_faults;
  }

  -- what is so of every mirror: both sides tell their bytes, or neither does; a side in use has the bytes of the mirror, and
  -- met at least as many faults as the mirror since that was made; and a side that was lost met one
  pub record IsSound (pair : Pair D E) : Type 0 where
    pub both_tell : d.tells ≡ e.tells
    pub first_bytes : has_first pair.sides ≡ true → d.bytes pair.first ≡ bytes_of pair
    pub second_bytes : has_second pair.sides ≡ true → e.bytes pair.second ≡ bytes_of pair
    pub first_met : MetFaults (has_first pair.sides) pair.counts.faults pair.first_faults (d.counts pair.first).faults
    pub second_met : MetFaults (has_second pair.sides) pair.counts.faults pair.second_faults (e.counts pair.second).faults

  -- each side that was in use met a fault
  pub record EachFailed (before now : Pair D E) : Type 0 where
    pub first : has_first before.sides ≡ true → Rose (d.counts before.first).faults (d.counts now.first).faults
    pub second : has_second before.sides ≡ true → Rose (e.counts before.second).faults (e.counts now.second).faults

  -- a side that was lost met a fault, one is left in use, and none that was lost is in use again
  pub record LostFailed (before now : Pair D E) : Type 0 where
    pub first : has_first before.sides ≡ true → has_first now.sides ≡ false → Rose (d.counts before.first).faults (d.counts now.first).faults
    pub second : has_second before.sides ≡ true → has_second now.sides ≡ false → Rose (e.counts before.second).faults (e.counts now.second).faults
    pub one_left : (has_first now.sides || has_second now.sides) ≡ true
    pub first_stays_lost : has_first before.sides ≡ false → has_first now.sides ≡ false
    pub second_stays_lost : has_second before.sides ≡ false → has_second now.sides ≡ false

-- One call of a side

module _ {D : Type 0} (d : device.Ghosts D) where
  -- it was asked for its size, answered so, and is this now
  pub record AsksSize (before : D) (answer : Result ℕ DeviceFault) (now : D) : Type 0 where
    pub value : IfOk answer (HasSize (d.bytes before))
    pub bytes_stay : d.bytes now ≡ d.bytes before
    pub kept : d.kept now ≡ d.kept before
    pub counts : Called (d.counts before) (d.counts now) 0 0 1 answer

  -- it was read from a place on, and where that was carried out these are the bytes
  pub record Reads (at : ℕ) (found : List ℕ) (before : D) (answer : Result (Unit {0}) DeviceFault) (now : D) : Type 0 where
    pub given : OnOk answer (Gives (d.bytes before) at found)
    pub bytes_stay : d.bytes now ≡ d.bytes before
    pub kept : d.kept now ≡ d.kept before
    pub counts : Called (d.counts before) (d.counts now) 1 0 0 answer

  -- it was laid out
  pub record LaysOut (size : ℕ) (before : D) (answer : Result (Unit {0}) DeviceFault) (now : D) : Type 0 where
    pub bytes : LaidOut answer size (d.bytes before) (d.bytes now)
    pub kept : d.kept now ≡ d.kept before
    pub counts : Called (d.counts before) (d.counts now) 0 0 1 answer

  -- these bytes were written to it
  pub record Writes (at : ℕ) (from : List ℕ) (before : D) (answer : Result (Unit {0}) DeviceFault) (now : D) : Type 0 where
    pub bytes : Wrote answer at from (d.bytes before) (d.bytes now)
    pub kept : d.kept now ≡ d.kept before
    pub counts : Called (d.counts before) (d.counts now) 0 1 0 answer

  -- it was asked to settle
  pub record Settles (before : D) (answer : Result (Unit {0}) DeviceFault) (now : D) : Type 0 where
    pub settled : d.settles before answer now
    pub bytes_stay : d.bytes now ≡ d.bytes before
    pub kept : d.kept now ≡ d.kept before
    pub counts : Called (d.counts before) (d.counts now) 0 0 1 answer

-- A call of a mirror

-- a side that is called goes so from what it was to what it is; one that is not called stays as it was, and carries out
-- nothing
abbrev pub IfCalled : {S T : Type 0} → Bool → (S → Result T DeviceFault → S → Type 0) → S → Result T DeviceFault → S → Type 0
IfCalled true step before answer now = step before answer now
IfCalled false step before answer now = (now ≡ before) × IsErr answer

module _ {D E T : Type 0} (first_step : D → Result T DeviceFault → D → Type 0) (second_step : E → Result T DeviceFault → E → Type 0) where
  module _ (calls : Sides → Bool → Bool) (left : Sides → Bool → Bool → Sides) (count : Counts → Counts) where
    -- one call, by what it does to a side that is called, whether the second side is called, and which sides are left. Its
    -- answer is that of the first side where this carried it out, else that of the second, so that it is refused only where
    -- each side in use refused it
    pub record IsCall (before : Pair D E) (result : Result T DeviceFault) (now : Pair D E) : Type 0 where
      pub first : Result T DeviceFault
      pub second : Result T DeviceFault
      pub first_is : IfCalled (has_first before.sides) first_step before.first first now.first
      pub second_is : IfCalled (calls before.sides (is_err first)) second_step before.second second now.second
      pub answer : result ≡ result_or first second
      pub sides_are : now.sides ≡ left before.sides (is_err first) (is_err second)
      pub counts_are : now.counts ≡ count (count_fault (is_err result) before.counts)
      pub first_faults_stay : now.first_faults ≡ before.first_faults
      pub second_faults_stay : now.second_faults ≡ before.second_faults

module _ {D E : Type 0} (d : device.Ghosts D) (e : device.Ghosts E) where
  -- the first side in use is asked for its size, and the other one only where that failed
  abbrev pub IsSize : Pair D E → Result ℕ DeviceFault → Pair D E → Type 0
  IsSize = IsCall (AsksSize d) (AsksSize e) asks_second after_asking count_other

  -- and so it is read
  abbrev pub IsRead : ℕ → List ℕ → Pair D E → Result (Unit {0}) DeviceFault → Pair D E → Type 0
  IsRead at found = IsCall (Reads d at found) (Reads e at found) asks_second after_asking count_read

  -- each side in use is laid out
  abbrev pub IsLayout : ℕ → Pair D E → Result (Unit {0}) DeviceFault → Pair D E → Type 0
  IsLayout size = IsCall (LaysOut d size) (LaysOut e size) calls_second after_change count_other

  -- and so it is written
  abbrev pub IsWrite : ℕ → List ℕ → Pair D E → Result (Unit {0}) DeviceFault → Pair D E → Type 0
  IsWrite at from = IsCall (Writes d at from) (Writes e at from) calls_second after_change count_write

  -- and so it settles
  abbrev pub IsSettle : Pair D E → Result (Unit {0}) DeviceFault → Pair D E → Type 0
  IsSettle = IsCall (Settles d) (Settles e) calls_second after_settle count_other

  -- a mirror settles: it was sound, and each side in use settled
  pub record IsSettling (before : Pair D E) (result : Result (Unit {0}) DeviceFault) (now : Pair D E) : Type 0 where
    pub sound : IsSound d e before
    pub sides : IsSettle before result now
