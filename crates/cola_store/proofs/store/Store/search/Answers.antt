use Rattle.std.proofs.Common.{ℕ, subst, sym, refl}
use Rattle.cola_spec.specs.Bounds.{get_bound}
use Rattle.cola_spec.specs.Map.{Map}
use Rattle.cola_image.specs.Standing.{found_in}
use Rattle.cola_chain.specs.Runs.{visible_lists}
use Rattle.cola_store.specs.declared.account.Account.{Account}
use Rattle.cola_store.specs.Store.{Stored, Holds, held_of}
use Rattle.cola_store.specs.Calls.{FindsIn, Searches, TicksBy}
use Rattle.cola_store.proofs.Storing.{finds, searched, search-ticks, read-is}
use Rattle.cola_store.proofs.store.Store.search.Goals as goal

pub invariant_of-self : goal.invariant_of-self
invariant_of-self g c =
    let s : Stored g.row.D.Denot = record { chain = c.self.inside.chain; count = c.self.inside.count; last = c.self.inside.last; account = c.self.inside.account } in
    let account : Account = record { searches = c.one_more-self-inside.result; opened = c.self.inside.account.opened; calm = c.self.inside.account.calm } in
    read-is g.D.Device.bytes g.D.Device.counts g.D.Device.kept s c.find.new.work account refl refl c.self.invariant c.find.ensures.looks.cells_stay c.find.ensures.looks.kept c.find.ensures.finds.costs.written_is c.find.ensures.finds.others_stay

pub returns-clause-searches : goal.returns-clause-searches
returns-clause-searches g c =
    let s : Stored g.row.D.Denot = record { chain = c.self.inside.chain; count = c.self.inside.count; last = c.self.inside.last; account = c.self.inside.account } in
    let account : ℕ → Account = λ n. record { searches = n; opened = c.self.inside.account.opened; calm = c.self.inside.account.calm } in
    subst (λ (x : Stored g.row.D.Denot). Searches g.D.Device.bytes g.D.Device.counts x (record { chain = c.find.new.work; count = c.self.inside.count; last = c.self.inside.last; account = account c.one_more-self-inside.result }) c.args.key.now c.find.result) c.self.view_is
    (subst (λ (n : ℕ). Searches g.D.Device.bytes g.D.Device.counts s (record { chain = c.find.new.work; count = c.self.inside.count; last = c.self.inside.last; account = account n }) c.args.key.now c.find.result) (sym c.one_more-self-inside.ensures)
    (searched g.D.Device.bytes g.D.Device.counts g.D.Device.kept s c.find.new.work c.visible-runs.result.items c.args.key.now c.find.result c.args.steps.now c.find.new.steps c.self.invariant c.visible-runs.ensures.runs
    c.find.ensures.looks.cells_stay c.find.ensures.looks.kept c.find.ensures.finds (λ m holds. c.visible-runs.ensures.searched s.chain.store.geometry.keys (found_in m) holds.stands)))

pub returns-clause-right : goal.returns-clause-right
returns-clause-right g c =
    subst (λ (x : Stored g.row.D.Denot). (m : Map) → Holds g.D.Device.bytes x m → FindsIn m c.args.key.now c.find.result) c.self.view_is
    (λ m holds.
    let s : Stored g.row.D.Denot = record { chain = c.self.inside.chain; count = c.self.inside.count; last = c.self.inside.last; account = c.self.inside.account } in
    let lists = visible_lists (held_of g.D.Device.bytes s) s.chain.clock s.chain.levels in
    let ready = c.visible-runs.ensures.searched s.chain.store.geometry.keys (found_in m) holds.stands in
    finds lists m c.args.key.now c.find.result (c.find.ensures.finds.right lists ready.told ready.sampled (ready.near c.args.key.now)) (ready.values c.args.key.now))

pub returns-clause-ticks : goal.returns-clause-ticks
returns-clause-ticks g c =
    let s : Stored g.row.D.Denot = record { chain = c.self.inside.chain; count = c.self.inside.count; last = c.self.inside.last; account = c.self.inside.account } in
    let now : Stored g.row.D.Denot = record { chain = c.find.new.work; count = c.self.inside.count; last = c.self.inside.last; account = c.self.inside.account } in
    subst (λ (x : Stored g.row.D.Denot). TicksBy g.D.Device.counts get_bound x now c.args.steps.now c.find.new.steps) c.self.view_is
    (search-ticks g.D.Device.bytes g.D.Device.counts g.D.Device.kept s c.find.new.work c.visible-runs.result.items c.args.steps.now c.find.new.steps c.self.invariant c.visible-runs.ensures.runs c.find.ensures.finds.costs)
