-- What copying the pairs of a store answers.
use Rattle.std.proofs.Common.{◌+◌, sym, ap, ◌∙◌}
use Rattle.cola_cell.specs.Held.{Fixed}
use Rattle.cola_layout.specs.declared.geometry.Geometry.{Geometry}
use Rattle.cola_run.specs.Store.{held_of}
use Rattle.cola_load.proofs.Copying.{load-refused, begin-refused, store-copied}
use Rattle.cola_load.proofs.growing.copy_store.Goals as goal

pub fill-requires-clause-runs : goal.fill-requires-clause-runs
fill-requires-clause-runs g c =
    c.visible_runs.ensures.has (held_of g.D.Device.bytes c.load.new.self) (ap (λ (f : Fixed). f.levels) c.load.ensures.fixed ∙ ap (λ (x : Geometry). x.bottom + 1) (sym c.requires.same))

pub returns-in-Err-clause-copies : goal.returns-in-Err-clause-copies
returns-in-Err-clause-copies g c =
    load-refused g.E.Device c.args.header.now c.args.geometry (g.D.Device.bytes c.args.runs.now.buffers.cache.device) c.args.to.now
    (g.D.Device.counts c.args.runs.now.buffers.cache.device).faults (g.D.Device.counts c.load.new.self.buffers.cache.device).faults c.in-Err.fault c.unread.result c.unread.ensures c.in-Err.ensures.answer

pub returns-in-Ok-begin-clause-copies : goal.returns-in-Ok-begin-clause-copies
returns-in-Ok-begin-clause-copies g c =
    store-copied g.E.Device c.args.header.now c.args.geometry (held_of g.D.Device.bytes c.load.new.self) (g.D.Device.bytes c.args.runs.now.buffers.cache.device) c.in-Ok.ensures.loaded.spots c.requires.format c.requires.few
    c.visible_runs.result.items c.visible_runs.ensures.runs c.args.to.now c.begin.new.device c.fill.new.to c.in-Ok-begin.loader c.in-Ok-begin.ensures.begins c.begin.ensures.spends c.fill.result c.fill.ensures.walks c.fill.ensures.settled

pub returns-in-Err-begin-clause-copies : goal.returns-in-Err-begin-clause-copies
returns-in-Err-begin-clause-copies g c =
    begin-refused g.E.Device c.args.header.now c.args.geometry (g.D.Device.bytes c.args.runs.now.buffers.cache.device) c.args.to.now c.begin.new.device c.in-Err-begin.fault c.unbegun.result c.unbegun.ensures c.in-Err-begin.ensures.begins c.begin.ensures.spends
