-- What the counts of a device rise by.
use Rattle.std.specs.Prelude.{ℕ, ◌+◌, ◌≤◌}
use Rattle.cola_device.specs.declared.counts.Counts.{Counts}

-- what the counts of a device rise by: so many reads, writes and other calls at most, and no count falls
pub record Spends (before now : Counts) (reads writes others : ℕ) : Type 0 where
  pub faults_stay : before.faults ≤ now.faults
  pub reads_stay : before.reads ≤ now.reads
  pub reads_rise : now.reads ≤ before.reads + reads
  pub writes_stay : before.writes ≤ now.writes
  pub writes_rise : now.writes ≤ before.writes + writes
  pub others_stay : before.others ≤ now.others
  pub others_rise : now.others ≤ before.others + others
