use Rattle.std.proofs.Common.{◌∙◌, ap, sym, subst}
use Rattle.cola_device.specs.declared.counts.Counts.{Counts}
use Rattle.cola_run.specs.Store as run
use Rattle.cola_store.specs.Open.{IsOpened}
use Rattle.cola_store.specs.Sessions.{IsStoreOpened}
use Rattle.cola_store.specs.Store.{Stored, new_account}
use Rattle.cola_store.proofs.Whole.{loaded, opens, counted}
use Rattle.cola_store.proofs.store.Store.open_on.Goals as goal

pub new-chain-requires-clause-loaded : goal.new-chain-requires-clause-loaded
new-chain-requires-clause-loaded g c = loaded g.D.Device c.args.device c.args.cache c.in-Ok.runs c.in-Ok.header c.in-Ok.ensures.opened

pub returns-in-Ok-clause-opens : goal.returns-in-Ok-clause-opens
returns-in-Ok-clause-opens g c =
    let d = g.D.Device in
    let header = c.in-Ok.header in
    let chain = c.new-chain.result in
    let opened : IsOpened d c.args.device c.args.cache chain.store header =
    subst (λ (r : run.Store g.row.D.Denot). IsOpened d c.args.device c.args.cache r header) (sym c.new-chain.ensures.store) c.in-Ok.ensures.opened in
    let store : Counts → Stored g.row.D.Denot = (λ (k : Counts). record { chain = chain; count = header.count; last = header.last; account = new_account k }) in
    subst (IsStoreOpened d c.args.device c.args.cache) (sym (c.of.ensures ∙ ap store (counted (d.counts c.args.device) c.faults.result c.reads.result c.writes.result c.faults.ensures c.reads.ensures c.writes.ensures)))
    (opens d c.args.device c.args.cache header chain opened c.new-chain.ensures.clock c.new-chain.ensures.marks c.new-chain.ensures.numbers)
