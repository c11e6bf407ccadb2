use Rattle.std.proofs.Common.{◌+◌, ◌∙◌, ap, drop}
use Rattle.cola_plain_runs.specs.Runs.{as_item}
use Rattle.cola_pairs.specs.Live.{values}
use Rattle.cola_plain_runs.specs.Pairs.{as_entry, as_entries}
use Rattle.cola_plain_runs.proofs.Setting.{mapped_from, pairs_take, pairs_skip}
use Rattle.cola_plain_runs.proofs.pairs.pairs_of.Goals as goal
use Rattle.cola_plain_runs.proofs.pairs.pairs_of.Goals.{in-Value+in_ok-push-in-Value, in-Tombstone}

pub loop-entry-preserved : goal.loop-entry-preserved
loop-entry-preserved g c =
    let here = mapped_from as_entry c.args.entries.now c.loop-entry.entry-index c.entry-item.result c.loop-entry-test.true c.entry-item.is in
    elim c.match-entry.branch [
      | in-Value+in_ok-push-in-Value w ↦ pairs_take (as_entry c.entry-item.result) w.in-Value.value (drop (c.loop-entry.entry-index + 1) (as_entries c.args.entries.now)) (drop c.loop-entry.entry-index (as_entries c.args.entries.now)) c.loop-entry.pairs.items c.match-entry.pairs.items (values (as_entries c.args.entries.now)) here
          (ap as_item w.in-Value.is) (ap (λ v. v.items) w.pairs-is ∙ w.in_ok-push-in-Value.ensures.items) c.loop-entry.invariant
      | in-Tombstone w ↦ pairs_skip (as_entry c.entry-item.result) (drop (c.loop-entry.entry-index + 1) (as_entries c.args.entries.now)) (drop c.loop-entry.entry-index (as_entries c.args.entries.now)) c.loop-entry.pairs.items c.match-entry.pairs.items (values (as_entries c.args.entries.now)) here
          (ap as_item w.in-Tombstone.is) (ap (λ v. v.items) w.pairs-is) c.loop-entry.invariant
    ]
