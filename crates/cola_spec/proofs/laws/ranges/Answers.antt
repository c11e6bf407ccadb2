use Rattle.std.proofs.Common.{refl}
use Rattle.cola_spec.proofs.RangeLaws.{pairs_are_found, pairs_rise, interval_is_exact, interval_rises, scan_rises}
use Rattle.cola_spec.proofs.laws.ranges.Goals as goal

pub returns-clause-pairs : goal.returns-clause-pairs
returns-clause-pairs c = pairs_are_found

pub returns-clause-pairs_rise : goal.returns-clause-pairs_rise
returns-clause-pairs_rise c = pairs_rise

pub returns-clause-interval : goal.returns-clause-interval
returns-clause-interval c = interval_is_exact

pub returns-clause-interval_rises : goal.returns-clause-interval_rises
returns-clause-interval_rises c = interval_rises

pub returns-clause-scan : goal.returns-clause-scan
returns-clause-scan c = λ m low most. refl

pub returns-clause-scan_rises : goal.returns-clause-scan_rises
returns-clause-scan_rises c = scan_rises
