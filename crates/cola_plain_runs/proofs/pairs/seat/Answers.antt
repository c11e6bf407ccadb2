use Rattle.std.proofs.Common.{◌∙◌, sym, ap, arith}
use Rattle.std.proofs.lemmas.Option.{get_or_from_slice_get}
use Rattle.cola_plain_runs.specs.Pairs.{as_entry, as_entries}
use Rattle.cola_plain_runs.proofs.Setting.{mapped_from, seat_next, is_greater, not_greater, past_end}
use Rattle.cola_plain_runs.proofs.pairs.seat.Goals as goal

pub loop-i-preserved : goal.loop-i-preserved
loop-i-preserved g c = λ v.
    let here = mapped_from as_entry c.args.entries.now c.loop-i.i c.index-entries-i.result c.loop-i-test.true c.index-entries-i.is in
    seat_next g.K.Ord.cmp c.args.key.now v (as_entry c.index-entries-i.result) (as_entries c.args.entries.now) _ c.loop-i.i here
    (sym c.cmp.ensures ∙ is_greater c.cmp.result (sym c.is_gt.ensures ∙ c.if-not-is_gt.false)) (c.loop-i.invariant v)

pub returns-then-not-is_gt-clause-stops : goal.returns-then-not-is_gt-clause-stops
returns-then-not-is_gt-clause-stops g c = λ d e f.
    let same = sym (get_or_from_slice_get c.args.entries.now c.loop-i.i d c.index-entries-i.result e) in
    not_greater c.cmp.result (sym c.is_gt.ensures ∙ c.if-not-is_gt.true)
    (c.cmp.ensures ∙ ap (λ x. g.K.Ord.cmp c.args.key.now x.0) (c.index-entries-i.is ∙ sym same) ∙ f)

pub returns-clause-stops : goal.returns-clause-stops
returns-clause-stops g c = λ d e f. past_end c.args.entries.now _ d (omega arith) e
