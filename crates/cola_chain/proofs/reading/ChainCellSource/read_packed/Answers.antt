use Rattle.cola_chain.specs.Contents.{Contents}
use Rattle.cola_chain.proofs.Account.{read-sound}
use Rattle.cola_chain.proofs.reading.ChainCellSource.read_packed.Goals as goal

pub invariant_of-self-in-None : goal.invariant_of-self-in-None
invariant_of-self-in-None g c =
    let s = c.self.inside in
    let old : Contents g.row.D.Denot = record { store = s.runs; levels = s.levels.value.items; clock = s.clock; accepted = s.accepted; reads = s.reads; writes = s.writes; counted = s.counted } in
    let read = c.read_packed-in-None.ensures in
    read-sound g.D.Device.bytes g.D.Device.counts g.D.Device.kept old c.read_packed-in-None.new.self read.reads.cells_stay read.kept read.reads.others_stay c.self.invariant
