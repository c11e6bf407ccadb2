use Rattle.cola_chain.specs.Contents.{Contents}
use Rattle.cola_chain.proofs.Account.{read-sound}
use Rattle.cola_chain.proofs.reading.ChainCellSource.read.Goals as goal

pub invariant_of-self : goal.invariant_of-self
invariant_of-self g c =
    let s = c.self.inside in
    let old : Contents g.row.D.Denot = record { store = s.runs; levels = s.levels.value.items; clock = s.clock; accepted = s.accepted; reads = s.reads; writes = s.writes; counted = s.counted } in
    read-sound g.D.Device.bytes g.D.Device.counts g.D.Device.kept old c.read.new.self c.read.ensures.reads.cells_stay c.read.ensures.kept c.read.ensures.reads.others_stay c.self.invariant
