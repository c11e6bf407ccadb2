-- A search over the bytes of a run is one of the cells that the store tells.
use Rattle.std.proofs.Common.{◌≡◌, ◌+◌, ◌%◌, ◌^◌, true, sym, subst, ◌∙◌}
use Rattle.cola_cell.specs.Windows.{IsRunIn, Scans}
use Rattle.cola_run.specs.Store.{Store, held_of, state_of}
use Rattle.cola_run.specs.Weaving.{is_at_hand}
use Rattle.cola_run.proofs.Searching.{scans-all}
use Rattle.cola_run.proofs.Views.{store_of}
use Rattle.cola_run.proofs.traits.RunStoreCellSource.scan.Goals as goal

pub returns-clause-scans : goal.returns-clause-scans
returns-clause-scans g c =
    let i = c.self.inside in
    let view = store_of i in
    let of : Store _ → _ = state_of g.D.Device.bytes g.D.Device.counts in
    let search = c.search_run-answer in
    let new : Store _ = record view { buffers = search.new.buffers; ticked = (i.ticked + c.unwrap_or-ticks.result) % 2 ^ 64 } in
    let run : IsRunIn (held_of g.D.Device.bytes view) c.args.reach = subst (λ (s : Store _). IsRunIn (held_of g.D.Device.bytes s) c.args.reach) (sym c.self.view_is) c.requires.run in
    let hand : is_at_hand i.geometry view.shadows c.args.reach ≡ true =
    subst (λ (s : Store _). is_at_hand s.geometry s.shadows c.args.reach ≡ true) (sym c.self.view_is) (sym c.is_at_hand.ensures ∙ c.if-not-is_at_hand.false) in
    subst (λ (s : Store _). Scans g.S.WindowSearch.sought (of s) (of new) c.args.reach c.args.search.now search.new.search c.args.probe.now c.args.steps.now c.tick_all.new.steps search.result) c.self.view_is
    (scans-all g.D.Device.bytes g.D.Device.counts view search.new.buffers g.D.Device.lends c.args.reach g.S.WindowSearch.sought c.args.search.now search.new.search c.args.probe.now
    c.self.invariant run hand search.ensures.keeps.bytes_stay search.result c.unwrap_or-ticks.result c.args.steps.now c.tick_all.new.steps c.unwrap_or-ticks.ensures
    search.ensures.runs search.ensures.turns search.ensures.calm c.tick_all.ensures)
