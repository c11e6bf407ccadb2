use Rattle.cola_plain_runs.specs.Runs.{as_run, as_part}
use Rattle.cola_runs.proofs.Deciding.{refuses, false_is}
use Rattle.cola_plain_files.specs.Levels.{CarriesKey}
use Rattle.cola_plain_files.proofs.Seen.{carries_each, all_keys}
use Rattle.cola_plain_files.proofs.verdict.seen.carries.Goals as goal

pub returns-then-not-carries_keys : goal.returns-then-not-carries_keys
returns-then-not-carries_keys c =
    refuses (λ h. false_is c.carries_keys.result c.if-not-carries_keys.true (c.carries_keys.ensures.1 (all_keys
    (CarriesKey (as_part c.args.part.now) c.args.keeps_all (as_run c.args.above.now) (as_run c.args.own.now) (as_run c.args.shadow.now)) (as_run c.args.above.now) h)))

pub returns-then-not-carries_keys-2 : goal.returns-then-not-carries_keys-2
returns-then-not-carries_keys-2 c =
    refuses (λ h. false_is c.carries_keys-2.result c.if-not-carries_keys-2.true (c.carries_keys-2.ensures.1 (all_keys
    (CarriesKey (as_part c.args.part.now) c.args.keeps_all (as_run c.args.above.now) (as_run c.args.own.now) (as_run c.args.shadow.now)) (as_run c.args.own.now) h)))

pub returns : goal.returns
returns c = (
  λ t. carries_each (as_part c.args.part.now) c.args.keeps_all (as_run c.args.above.now) (as_run c.args.own.now) (as_run c.args.shadow.now)
      (c.carries_keys.ensures.0 c.if-not-carries_keys.false) (c.carries_keys-2.ensures.0 c.if-not-carries_keys-2.false) (c.carries_keys-3.ensures.0 t),
  λ h. c.carries_keys-3.ensures.1 (all_keys (CarriesKey (as_part c.args.part.now) c.args.keeps_all (as_run c.args.above.now) (as_run c.args.own.now) (as_run c.args.shadow.now)) (as_run c.args.shadow.now) h),
)
