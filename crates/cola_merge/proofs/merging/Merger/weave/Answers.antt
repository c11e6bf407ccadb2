-- Steps that an object lets a merge take are steps of the merge.
use Rattle.std.proofs.Common.{ℕ, inl, inr, ap, ◌∙◌, arith}
use Rattle.cola_merge.specs.Weaving.{one_at}
use Rattle.cola_merge.proofs.Ruling.{feed_small}
use Rattle.std.specs.Option.{is_some}
use Rattle.cola_merge.proofs.Woven.{wove_took, took_same, one_fits}
use Rattle.cola_merge.proofs.merging.Merger.weave.Goals as goal

pub returns-clause-took : goal.returns-clause-took
returns-clause-took g c = elim c.weave.ensures.weaves [
  | inl still ↦ took_same (g.W.CellSource.state c.args.work.now) (g.W.CellSource.state c.weave.new.self) c.args.self.now c.weave.new.merge c.args.steps.now c.weave.new.steps c.weave.result c.requires.ready still.state_is still.merge_is still.steps_are still.none
  | inr wove ↦ wove_took (g.W.CellSource.state c.args.work.now) (g.W.CellSource.state c.weave.new.self) c.args.self.now c.weave.new.merge c.args.steps.now c.weave.new.steps c.weave.result
      _ c.in-Some.own c.in-Some-incoming_reach_of.incoming c.in-Some-sample_reach_of.sample c.requires.ready c.requires.slot_in wove c.rules.ensures
      (c.is_one-has_one.ensures ∙ ap (λ (n : ℕ). is_some (one_at c.args.aim.now.incoming n)) c.at.ensures) (c.waits.ensures c.if-waits.false)
      (rw c.at-2.ensures at c.in-Some.ensures)
      (rw c.at-3.ensures at c.in-Some-incoming_reach_of.ensures)
      (rw c.at-4.ensures at c.in-Some-sample_reach_of.ensures)
]

pub reach_of-requires-clause-few : goal.reach_of-requires-clause-few
reach_of-requires-clause-few g c = feed_small (g.W.CellSource.state c.args.work.now).held.fixed c.args.aim.now.own c.requires.levels c.requires.ready.own_feed

pub incoming_reach_of-requires-clause-few : goal.incoming_reach_of-requires-clause-few
incoming_reach_of-requires-clause-few g c = feed_small (g.W.CellSource.state c.args.work.now).held.fixed c.args.aim.now.incoming c.requires.levels c.requires.ready.incoming_feed

pub sample_reach_of-requires-clause-few : goal.sample_reach_of-requires-clause-few
sample_reach_of-requires-clause-few g c = feed_small (g.W.CellSource.state c.args.work.now).held.fixed c.args.aim.now.sample c.requires.levels c.requires.ready.sample_feed

pub weave-requires-clause-can : goal.weave-requires-clause-can
weave-requires-clause-can g c =
    let fixed = (g.W.CellSource.state c.args.work.now).held.fixed in
    record {
      own = (let a = feed_small fixed c.args.aim.now.own c.requires.levels c.requires.ready.own_feed in omega (arith, a, c.requires.ready.own.within));
      incoming = (let a = feed_small fixed c.args.aim.now.incoming c.requires.levels c.requires.ready.incoming_feed in omega (arith, a, c.requires.ready.incoming.within));
      sample = (let a = feed_small fixed c.args.aim.now.sample c.requires.levels c.requires.ready.sample_feed in omega (arith, a, c.requires.ready.sample.within));
      quota = (let q = c.min.ensures in omega (arith, q));
      one = one_fits (g.W.CellSource.state c.args.work.now).held c.args.aim.now.incoming c.args.self.now.incoming.at _ c.args.self.now.incoming.cell c.requires.ready.incoming.cell;
    }
