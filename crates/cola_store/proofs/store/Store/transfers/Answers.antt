use Rattle.cola_store.proofs.Rising.{writes-bound, reads-bound}
use Rattle.cola_store.proofs.store.Store.transfers.Goals as goal

pub returns-clause-writes_few : goal.returns-clause-writes_few
returns-clause-writes_few g c = writes-bound g.D.Device.bytes g.D.Device.counts c.args.self.now c.chain-chain.ensures.sound

pub returns-clause-reads_few : goal.returns-clause-reads_few
returns-clause-reads_few g c = reads-bound g.D.Device.bytes g.D.Device.counts c.args.self.now c.chain-chain.ensures.sound
