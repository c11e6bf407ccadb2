use Rattle.std.proofs.Common.{ℕ, List, refl, ap, sym, subst}
use Rattle.cola_spec.specs.Map.{Map}
use Rattle.cola_table.specs.Answers.{NextAnswers}
use Rattle.cola_chain.specs.Contents as chain
use Rattle.cola_chain.specs.Runs.{visible_runs}
use Rattle.cola_store.specs.Store.{Stored, Holds, held_of}
use Rattle.cola_store.specs.Walks.{Stands, Ahead, Goes}
use Rattle.cola_store.proofs.Storing.{read-is, same, turns_gone}
use Rattle.cola_store.proofs.Walking.{fewer-ahead, next-right, next-stands, gone-cause}
use Rattle.cola_store.proofs.table.StoreTable.next.Goals as goal

pub invariant_of-self : goal.invariant_of-self
invariant_of-self g c =
    let s : Stored g.row.D.Denot = record { chain = c.self.inside.chain; count = c.self.inside.count; last = c.self.inside.last; account = c.self.inside.account } in
    read-is g.D.Device.bytes g.D.Device.counts g.D.Device.kept s c.next.new.work c.self.inside.account refl refl c.self.invariant c.next.ensures.gives.looks.cells_stay c.next.ensures.gives.looks.kept
    c.next.ensures.gives.reading.costs.written_is c.next.ensures.gives.reading.others_stay

pub returns-clause-answer : goal.returns-clause-answer
returns-clause-answer g c =
    let D = g.row.D.Denot in
    let bytes = g.D.Device.bytes in
    let s : Stored D = record { chain = c.self.inside.chain; count = c.self.inside.count; last = c.self.inside.last; account = c.self.inside.account } in
    let new : Stored D = record { chain = c.next.new.work; count = c.self.inside.count; last = c.self.inside.last; account = c.self.inside.account } in
    subst (λ (x : Stored D). (m : Map) (pairs : List (List ℕ × List ℕ)) → Holds bytes x m → Ahead bytes x c.args.walk.now pairs → NextAnswers (Ahead bytes new c.next.new.self) pairs c.next.result) c.self.view_is
    (λ m pairs holds ahead.
    next-right bytes s new c.next.ensures.gives.looks.cells_stay (ap (λ (k : chain.Kept g.D.Device.Kept). visible_runs k.clock 0 k.levels) c.next.ensures.gives.looks.kept)
    pairs c.next.ensures.stamp c.next.result c.args.walk.now c.next.new.self _ _ ahead c.next.ensures.gives.takes c.next.ensures.gives.passes c.next.ensures.gives.refused c.next.ensures.gives.cause)

pub returns-clause-stands : goal.returns-clause-stands
returns-clause-stands g c =
    let D = g.row.D.Denot in
    let bytes = g.D.Device.bytes in
    let s : Stored D = record { chain = c.self.inside.chain; count = c.self.inside.count; last = c.self.inside.last; account = c.self.inside.account } in
    let new : Stored D = record { chain = c.next.new.work; count = c.self.inside.count; last = c.self.inside.last; account = c.self.inside.account } in
    next-stands bytes s new c.next.ensures.gives.looks.cells_stay (ap (λ (k : chain.Kept g.D.Device.Kept). visible_runs k.clock 0 k.levels) c.next.ensures.gives.looks.kept)
    c.next.ensures.stamp c.next.result c.args.walk.now c.next.new.self (subst (λ (x : Stored D). Stands bytes x c.args.walk.now) (sym c.self.view_is) c.requires) c.next.ensures.gives.stands c.next.ensures.gives.passes c.next.ensures.gives.refused

pub returns-clause-fewer : goal.returns-clause-fewer
returns-clause-fewer g c =
    fewer-ahead (held_of g.D.Device.bytes (record { chain = c.self.inside.chain; count = c.self.inside.count; last = c.self.inside.last; account = c.self.inside.account })) _ c.next.ensures.stamp c.next.result c.args.walk.now c.next.new.self c.next.ensures.gives.passes c.next.ensures.gives.pair c.next.ensures.gives.stands

pub returns-clause-given : goal.returns-clause-given
returns-clause-given g c =
    let D = g.row.D.Denot in
    let bytes = g.D.Device.bytes in
    let counts = g.D.Device.counts in
    let s : Stored D = record { chain = c.self.inside.chain; count = c.self.inside.count; last = c.self.inside.last; account = c.self.inside.account } in
    let new : Stored D = record { chain = c.next.new.work; count = c.self.inside.count; last = c.self.inside.last; account = c.self.inside.account } in
    let gives = c.next.ensures.gives in
    let goes : Goes bytes counts s c.args.walk.now c.next.result new c.next.new.self = record {
      stamp = c.next.ensures.stamp;
      answers = gives.answers;
      pair = gives.pair;
      passes = gives.passes;
      end_is = gives.end_stays;
      way_is = gives.way_stays;
      cause = gone-cause c.next.ensures.stamp c.next.result _ gives.cause;
      turns = turns_gone c.next.ensures.stamp c.args.walk.now c.next.new.self c.next.result _ _ c.args.steps.now c.next.new.steps gives.reading.costs gives.left gives.at_most;
      same = same bytes counts g.D.Device.kept s c.next.new.work c.self.inside.account gives.looks.cells_stay gives.looks.kept;
      account_is = refl;
    } in
    subst (λ (x : Stored D). Goes bytes counts x c.args.walk.now c.next.result new c.next.new.self) c.self.view_is goes
