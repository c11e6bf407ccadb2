use Rattle.std.proofs.Common.{subst}
use Rattle.cola_cell.specs.Windows.{Scans}
use Rattle.cola_run.specs.Store as run
use Rattle.cola_chain.specs.Contents.{Contents, state_of}
use Rattle.cola_chain.proofs.Account.{read-sound, held-scanned, lasts-scanned}
use Rattle.cola_chain.proofs.reading.ChainCellSource.scan.Goals as goal

pub invariant_of-self : goal.invariant_of-self
invariant_of-self g c =
    let s = c.self.inside in
    let a = c.args in
    let old : Contents g.row.D.Denot = record { store = s.runs; levels = s.levels.value.items; clock = s.clock; accepted = s.accepted; reads = s.reads; writes = s.writes; counted = s.counted } in
    let of : run.Store _ → _ = run.state_of g.D.Device.bytes g.D.Device.counts in
    let scan = c.scan in
    read-sound g.D.Device.bytes g.D.Device.counts g.D.Device.kept old scan.new.self
    (held-scanned g.S.WindowSearch.sought (of s.runs) (of scan.new.self) a.reach a.search.now scan.new.search a.probe.now a.steps.now scan.new.steps scan.result scan.ensures.scans) scan.ensures.kept
    (lasts-scanned g.S.WindowSearch.sought (of s.runs) (of scan.new.self) a.reach a.search.now scan.new.search a.probe.now a.steps.now scan.new.steps scan.result scan.ensures.scans) c.self.invariant

pub returns-clause-scans : goal.returns-clause-scans
returns-clause-scans g c =
    let s = c.self.inside in
    let old : Contents g.row.D.Denot = record { store = s.runs; levels = s.levels.value.items; clock = s.clock; accepted = s.accepted; reads = s.reads; writes = s.writes; counted = s.counted } in
    subst (λ (x : Contents _). Scans g.S.WindowSearch.sought (state_of g.D.Device.bytes g.D.Device.counts x) (state_of g.D.Device.bytes g.D.Device.counts (record old { store = c.scan.new.self }))
    c.args.reach c.args.search.now c.scan.new.search c.args.probe.now c.args.steps.now c.scan.new.steps c.scan.result) c.self.view_is c.scan.ensures.scans
