-- What calls of a device spend, one after the other.
use Rattle.std.proofs.Common.{ℕ, ◌+◌, ◌≤◌, Result, arith}
use Rattle.cola_device.specs.declared.counts.Counts.{Counts}
use Rattle.cola_device.specs.Counts.{Called}
use Rattle.cola_opening.specs.Counted.{Spends}

-- no call
pub spends-none : {a : Counts} {reads writes others : ℕ} → Spends a a reads writes others
spends-none = record {
  faults_stay = omega arith;
  reads_stay = omega arith;
  reads_rise = omega arith;
  writes_stay = omega arith;
  writes_rise = omega arith;
  others_stay = omega arith;
  others_rise = omega arith;
}

-- one call
pub called-spends : {T E : Type 0} {result : Result T E} {a b : Counts} {reads writes others : ℕ} → Called a b reads writes others result → Spends a b reads writes others
called-spends called = record {
  faults_stay = called.faults_stay;
  reads_stay = called.reads_stay;
  reads_rise = called.reads_rise;
  writes_stay = called.writes_stay;
  writes_rise = called.writes_rise;
  others_stay = called.others_stay;
  others_rise = called.others_rise;
}

-- calls behind others
pub spends-then : {a b c : Counts} {q r reads w v writes o t others : ℕ} → Spends a b q w o → Spends b c r v t → q + r ≤ reads → w + v ≤ writes → o + t ≤ others → Spends a c reads writes others
spends-then x y few_reads few_writes few = record {
  faults_stay = omega (arith, x.faults_stay, y.faults_stay);
  reads_stay = omega (arith, x.reads_stay, y.reads_stay);
  reads_rise = omega (arith, few_reads, x.reads_rise, y.reads_rise);
  writes_stay = omega (arith, x.writes_stay, y.writes_stay);
  writes_rise = omega (arith, few_writes, x.writes_rise, y.writes_rise);
  others_stay = omega (arith, x.others_stay, y.others_stay);
  others_rise = omega (arith, few, x.others_rise, y.others_rise);
}

-- no more than a greater number
pub spends-more : {a b : Counts} {q reads w writes o others : ℕ} → Spends a b q w o → q ≤ reads → w ≤ writes → o ≤ others → Spends a b reads writes others
spends-more x few_reads few_writes few = record {
  faults_stay = x.faults_stay;
  reads_stay = x.reads_stay;
  reads_rise = omega (arith, few_reads, x.reads_rise);
  writes_stay = x.writes_stay;
  writes_rise = omega (arith, few_writes, x.writes_rise);
  others_stay = x.others_stay;
  others_rise = omega (arith, few, x.others_rise);
}
