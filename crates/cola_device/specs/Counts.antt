-- The counts of a device, and what a call does to them.
use Rattle.std.specs.Prelude.{◌≡◌, ℕ, ◌+◌, ◌-◌, ◌^◌, ◌≤◌, min, max, Bool, true, false, Result, OnOk}
use Rattle.cola_outside.specs.Faults.{HasCause}
use Rattle.cola_device.specs.declared.counts.Counts.{Counts}

-- one more, by a count that ends at the last value of u64
abbrev pub one_more : ℕ → ℕ
one_more count = max count (min (count + 1) (2 ^ 64 - 1))

-- a fault more where there was one
abbrev pub count_fault : Bool → Counts → Counts
count_fault false counts = counts
count_fault true counts = record counts { faults = one_more counts.faults }

-- a read more
abbrev pub count_read : Counts → Counts
count_read counts = record counts { reads = one_more counts.reads }

-- a write more
abbrev pub count_write : Counts → Counts
count_write counts = record counts { writes = one_more counts.writes }

-- one more of the calls that neither read nor write
abbrev pub count_other : Counts → Counts
count_other counts = record counts { others = one_more counts.others }

-- a call that makes at most so many reads, writes and others: no count falls, an error has its cause, and a call that is
-- carried out met no fault
pub record Called {T E : Type 0} (before now : Counts) (reads writes others : ℕ) (result : Result T E) : Type 0 where
  pub faults_stay : before.faults ≤ now.faults
  pub cause : HasCause result before.faults now.faults
  pub none_hidden : OnOk result (now.faults ≡ before.faults)
  pub reads_stay : before.reads ≤ now.reads
  pub reads_rise : now.reads ≤ before.reads + reads
  pub writes_stay : before.writes ≤ now.writes
  pub writes_rise : now.writes ≤ before.writes + writes
  pub others_stay : before.others ≤ now.others
  pub others_rise : now.others ≤ before.others + others
