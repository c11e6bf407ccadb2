-- What the tests of a store's cells answer and spend.
use Rattle.std.proofs.Common.{◌≡◌, ℕ, ◌-◌, List, Option, is_some, true, refl, sym, ap, subst, ◌∙◌, arith}
use Rattle.cola_check.proofs.Common.{Fixed, Geometry}
use Rattle.cola_run.specs.Store.{state_of, cells_of}
use Rattle.cola_run.proofs.Spots.{told-there}
use Rattle.cola_check.proofs.Judging.{by-cells, by-load, tells-all}
use Rattle.cola_check.proofs.FileBlocks.{file-blocks}
use Rattle.cola_check.proofs.RunBlocks.{turns-within}
use Rattle.cola_check.proofs.checking.test_store.Goals as goal

pub returns-in-Ok-clause-answer : goal.returns-in-Ok-clause-answer
returns-in-Ok-clause-answer g c =
    let loaded = state_of g.D.Device.bytes g.D.Device.counts c.load.new.self in
    let tested = state_of g.D.Device.bytes g.D.Device.counts c.test_cells.new.work in
    by-cells g.D.Device c.args.header.now c.args.runs.now.buffers.cache.device c.test_cells.new.work.buffers.cache.device loaded tested c.test_cells.result c.judged.result
    (tells-all loaded.held c.args.header.now.geometry (g.D.Device.bytes c.args.runs.now.buffers.cache.device)
    (λ some. told-there (cells_of (g.D.Device.bytes c.load.new.self.buffers.cache.device) c.load.new.self) (subst (λ (o : Option (List ℕ)). is_some o ≡ true) (sym c.load.ensures.bytes_stay) some))
    c.in-Ok.ensures.loaded.spots)
    (g.D.Device.counts c.load.new.self.buffers.cache.device).reads
    (let load = c.load.ensures.spends.reads_rise in let same : c.args.header.now.geometry.bottom ≡ c.args.runs.now.geometry.bottom = ap (λ (x : Geometry). x.bottom) c.requires in omega (arith, load, same))
    (turns-within loaded tested _ _ c.test_cells.result
    (file-blocks c.args.header.now loaded.held (ap (λ (f : Fixed). f.doublings) c.load.ensures.fixed ∙ ap (λ (x : Geometry). x.block_exp - 3) (sym c.requires))) c.test_cells.ensures.blocks)
    c.in-Ok.ensures.spends.calm refl c.test_cells.ensures.tests c.test_cells.ensures.looks.calm c.judged.ensures

pub returns-in-Err-clause-answer : goal.returns-in-Err-clause-answer
returns-in-Err-clause-answer g c =
    by-load g.D.Device c.args.header.now c.args.runs.now.buffers.cache.device c.load.new.self.buffers.cache.device c.in-Err.fault c.judged-in-Err.result
    (let load = c.load.ensures.spends.reads_rise in let same : c.args.header.now.geometry.bottom ≡ c.args.runs.now.geometry.bottom = ap (λ (x : Geometry). x.bottom) c.requires in omega (arith, load, same)) c.in-Err.ensures.answer c.in-Err.ensures.spends.calm c.judged-in-Err.ensures
