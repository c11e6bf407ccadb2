use Rattle.std.proofs.Common.{subst}
use Rattle.cola_chain.specs.Contents.{Contents}
use Rattle.cola_chain.specs.Account.{IsContents, IsPaid, IsBounded}
use Rattle.cola_chain.proofs.Account.{bounded}
use Rattle.cola_chain.proofs.chains.Chain.transfers.Goals as goal

pub returns-clause-sound : goal.returns-clause-sound
returns-clause-sound g c = subst (λ (x : Contents g.row.D.Denot). IsContents g.D.Device.bytes g.D.Device.counts x) c.self.view_is c.self.invariant

pub returns-clause-bounds : goal.returns-clause-bounds
returns-clause-bounds g c =
    let s = c.self.inside in
    subst (λ (x : Contents g.row.D.Denot). IsPaid g.D.Device.bytes g.D.Device.counts x → IsBounded x) c.self.view_is
    (λ paid few few_reads few_writes. bounded s.runs.geometry s.accepted s.reads s.writes s.clock 0 s.levels.value.items _ c.self.invariant.stands.counted few few_reads few_writes paid.paid)
