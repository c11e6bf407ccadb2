use Rattle.std.proofs.Common.{◌≡◌, suc, length, take, subst, sym, arith, ℕ}
use Rattle.cola_plain_runs.specs.Runs.{as_run}
use Rattle.cola_runs.proofs.Deciding.{false_is}
use Rattle.cola_plain_runs.proofs.Lists.{run_length}
use Rattle.cola_verdict.specs.Tests.{IsInOrder}
use Rattle.cola_plain_files.proofs.Runs.{none_in_order, run_taken, taken_whole, some_where_broken}
use Rattle.cola_plain_files.proofs.verdict.runs.first_disorder.Goals as goal

pub loop-broken-init : goal.loop-broken-init
loop-broken-init c =
    let whole = taken_whole (length c.args.run.now) (as_run c.args.run.now) (omega (arith, run_length c.args.run.now)) in (
      omega (arith, some_where_broken (as_run c.args.run.now) c.requires, run_length c.args.run.now),
      omega arith,
      none_in_order,
      λ h. c.requires (subst IsInOrder whole h),
    )

pub loop-broken-preserved-then-is_well_formed : goal.loop-broken-preserved-then-is_well_formed
loop-broken-preserved-then-is_well_formed c = (
  omega arith,
  omega arith,
  subst IsInOrder (run_taken _ c.args.run.now) (c.is_well_formed.ensures.0 c.if-is_well_formed.true),
  c.loop-broken.invariant.3,
)

pub loop-broken-preserved : goal.loop-broken-preserved
loop-broken-preserved c = (
  omega arith,
  omega arith,
  c.loop-broken.invariant.2,
  λ h. false_is c.is_well_formed.result c.if-is_well_formed.false (c.is_well_formed.ensures.1 (subst IsInOrder (sym (run_taken _ c.args.run.now)) h)),
)

pub returns : goal.returns
returns c =
    let next : c.loop-broken.broken ≡ suc c.loop-broken.ordered = omega arith in record {
      within = omega (arith, run_length c.args.run.now);
      before = c.loop-broken.invariant.2;
      broken = subst (λ (n : ℕ). IsInOrder (take n (as_run c.args.run.now)) → ⊥) next c.loop-broken.invariant.3;
    }
