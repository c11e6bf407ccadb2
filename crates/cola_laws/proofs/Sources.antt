-- The laws of runs and builds, in the form in which the laws of the chain take them.
use Rattle.std.proofs.Common.{◌≡◌, ◌*◌, ◌≤◌, List, [], length, arith}
use Rattle.std.specs.declared.cmp.Ordering.{Ordering}
use Rattle.std.specs.Cmp.{IsTotalOrder}
use Rattle.std.specs.List.{AllByRecursion}
use Rattle.std.specs.List.Sorted.{IsStrictlySortedBy}
use Rattle.cola_runs.specs.Cells.{Cell, IsRising, IsOldValue, sample}
use Rattle.cola_runs.specs.Weave.{Part, bottom_items, weave}
use Rattle.cola_runs.specs.Steps.{Build, IsUnderWay}
use Rattle.cola_runs.proofs.Order.{all_change}
use Rattle.cola_runs.proofs.Builds.{used_up, bottom_values}
use Rattle.cola_runs.proofs.Samples.{eighths_rise, sample_length}

module _ {K V : Type 0} (cmp : K → K → Ordering) (part : Part) (own incoming : List (Cell K V)) (keys : List K) where
  -- a build that has consumed all of its sources has emitted the whole weave
  pub cut-end : (p : Build K V) → IsUnderWay cmp part own incoming keys p → p.own ≡ length own → p.incoming ≡ length incoming → p.sampled ≡ length keys →
      p.done ≡ weave cmp part own incoming keys
  cut-end p h a b c = used_up cmp part own incoming keys p h (omega arith)

-- the keys of a sample ascend
pub sample-sorted : {K V : Type 0} {cmp : K → K → Ordering} → IsTotalOrder cmp → (run : List (Cell K V)) → IsRising cmp run → IsStrictlySortedBy cmp (sample run)
sample-sorted o run h = eighths_rise o 7 run h

-- a sample has one key for each eight cells
pub sample-length : {K V : Type 0} (run : List (Cell K V)) → 8 * length (sample run) ≤ length run
sample-length run = let h = sample_length run in omega arith

-- a weave at the bottom has old values alone
pub bottom-values : {K V : Type 0} (cmp : K → K → Ordering) (own incoming : List (Cell K V)) → AllByRecursion IsOldValue (weave cmp bottom_items own incoming [])
bottom-values cmp own incoming = all_change (λ c h. h.0) (weave cmp bottom_items own incoming []) (bottom_values cmp own incoming)
