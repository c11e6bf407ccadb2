use Rattle.std.proofs.Common.{false, ◌≡◌, ◌+◌, ◌∙◌, List, length, refl, ap, sym, subst, option_copied, arith}
use Rattle.cola_cell.specs.declared.cell.Run.{Run}
use Rattle.cola_spec.specs.Map.{Map}
use Rattle.cola_table.specs.Answers.{RangeAnswers}
use Rattle.cola_image.specs.Standing.{found_in}
use Rattle.cola_cursor.specs.Seeking.{LevelsRise}
use Rattle.cola_chain.specs.Contents as chain
use Rattle.cola_chain.specs.Runs.{visible_runs, visible_lists}
use Rattle.cola_store.specs.Store.{Stored, Holds, held_of}
use Rattle.cola_store.specs.Walks.{Ahead, Begins}
use Rattle.cola_store.proofs.Storing.{length-visible, read-is, same, holds-same}
use Rattle.cola_store.proofs.Walking.{levels-rise, few-ahead, range-right, range-given}
use Rattle.cola_store.proofs.table.StoreTable.range.Goals as goal

pub seek-requires-clause-levels : goal.seek-requires-clause-levels
seek-requires-clause-levels g c = subst (λ (rs : List Run). LevelsRise 0 rs) (sym c.visible-runs.ensures.runs) (levels-rise c.self.inside.chain.clock 0 c.self.inside.chain.levels)

pub invariant_of-self : goal.invariant_of-self
invariant_of-self g c =
    let s : Stored g.row.D.Denot = record { chain = c.self.inside.chain; count = c.self.inside.count; last = c.self.inside.last; account = c.self.inside.account } in
    read-is g.D.Device.bytes g.D.Device.counts g.D.Device.kept s c.seek.new.work c.self.inside.account refl refl c.self.invariant c.seek.ensures.looks.cells_stay c.seek.ensures.looks.kept
    c.seek.ensures.seeks.reading.costs.written_is c.seek.ensures.seeks.reading.others_stay

pub returns-clause-answer : goal.returns-clause-answer
returns-clause-answer g c =
    let D = g.row.D.Denot in
    let bytes = g.D.Device.bytes in
    let now = c.seek.new.work in
    let s : Stored D = record { chain = c.self.inside.chain; count = c.self.inside.count; last = c.self.inside.last; account = c.self.inside.account } in
    let new : Stored D = record { chain = now; count = c.self.inside.count; last = c.self.inside.last; account = c.self.inside.account } in
    let lists = visible_lists (held_of bytes s) s.chain.clock s.chain.levels in
    subst (λ (x : Stored D). (m : Map) → Holds bytes x m → RangeAnswers m c.args.low.now (option_copied c.args.high) (Holds bytes new) (Ahead bytes new) c.seek.result) c.self.view_is
    (λ m holds.
    let ready = c.visible-runs.ensures.searched s.chain.store.geometry.keys (found_in m) holds.stands in
    range-right bytes s new c.seek.ensures.looks.cells_stay (ap (λ (k : chain.Kept g.D.Device.Kept). visible_runs k.clock 0 k.levels) c.seek.ensures.looks.kept)
    m c.args.low.now (option_copied c.args.high) c.visible-runs.result.items lists _ _ c.seek.result
    (holds-same bytes g.D.Device.counts g.D.Device.kept s new (same bytes g.D.Device.counts g.D.Device.kept s now c.self.inside.account c.seek.ensures.looks.cells_stay c.seek.ensures.looks.kept) (ap (λ (k : chain.Kept g.D.Device.Kept). k.store) c.seek.ensures.looks.kept) m holds)
    c.visible-runs.ensures.runs ready c.seek.ensures.seeks.ahead c.seek.ensures.seeks.begins c.seek.ensures.seeks.cause)

pub returns-clause-most : goal.returns-clause-most
returns-clause-most g c =
    let q = c.self.inside.chain.store.geometry in
    let few = q.shallow in
    let n : length c.visible-runs.result.items ≡ q.bottom + 1 = ap (λ (rs : List Run). length rs) c.visible-runs.ensures.runs ∙ length-visible c.self.inside.chain.clock 0 c.self.inside.chain.levels ∙ c.self.invariant.many in
    few-ahead (option_copied c.args.high) false c.visible-runs.result.items (q.bottom + 1) _ _ c.seek.result (omega (arith, n, few)) (omega (arith, few)) c.seek.ensures.seeks.begins c.seek.ensures.seeks.reading.costs.steps_stay c.seek.ensures.seeks.left

pub returns-clause-given : goal.returns-clause-given
returns-clause-given g c =
    let D = g.row.D.Denot in
    let bytes = g.D.Device.bytes in
    let counts = g.D.Device.counts in
    let now = c.seek.new.work in
    let s : Stored D = record { chain = c.self.inside.chain; count = c.self.inside.count; last = c.self.inside.last; account = c.self.inside.account } in
    let new : Stored D = record { chain = now; count = c.self.inside.count; last = c.self.inside.last; account = c.self.inside.account } in
    subst (λ (x : Stored D). Begins bytes counts x c.args.low.now (option_copied c.args.high) c.seek.result new) c.self.view_is
    (range-given bytes counts g.D.Device.kept s now c.args.low.now (option_copied c.args.high) c.visible-runs.result.items c.args.steps.now c.seek.new.steps c.seek.result c.visible-runs.ensures.runs
    c.seek.ensures.looks.cells_stay c.seek.ensures.looks.kept c.seek.ensures.seeks)
