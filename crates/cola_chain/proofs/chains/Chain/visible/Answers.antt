use Rattle.std.proofs.Common.{List, length, All, sym, ap, subst, ◌∙◌, arith}
use Rattle.arrayvec.specs.declared.array_vec.ArrayVec.{ArrayVec}
use Rattle.cola_cell.specs.declared.cell.Run.{Run}
use Rattle.cola_look.specs.Runs.{HasRun}
use Rattle.cola_level.specs.declared.level.Level.{Level}
use Rattle.cola_run.specs.Store as run
use Rattle.cola_chain.specs.Contents.{Contents, held_of}
use Rattle.cola_chain.specs.Account.{IsContents}
use Rattle.cola_chain.specs.Runs.{visible_runs, visible_lists, AreSearched, AreSearchedRuns}
use Rattle.cola_chain.proofs.Searching.{visible-has, searched, clock-few}
use Rattle.cola_chain.proofs.chains.Chain.visible.Goals as goal

pub runs_of-requires-clause-clock_in : goal.runs_of-requires-clause-clock_in
runs_of-requires-clause-clock_in g c =
    let e = ap (λ (ls : List Level). length ls) (c.as_slice.ensures.value ∙ ap (λ (a : ArrayVec Level 23 Unit). a.items) c.deref.ensures) in
    let f = c.as_slice.ensures.fits in
    clock-few c.self.inside.clock (length c.self.inside.levels.value.items) c.self.invariant.stands.clock_in (omega (arith, e, f))

pub returns-clause-has : goal.returns-clause-has
returns-clause-has g c =
    subst (λ (x : Contents g.row.D.Denot). All (HasRun (held_of g.D.Device.bytes x)) c.runs_of.result.items) c.self.view_is
    (visible-has (run.held_of g.D.Device.bytes c.self.inside.runs) c.self.inside.clock c.self.inside.levels.value.items c.runs_of.result.items c.self.invariant.stands (c.runs_of.ensures ∙ ap (visible_runs c.self.inside.clock 0) (c.as_slice.ensures.value ∙ ap (λ (a : ArrayVec Level 23 Unit). a.items) c.deref.ensures)))

pub returns-clause-searched : goal.returns-clause-searched
returns-clause-searched g c =
    subst (λ (x : Contents g.row.D.Denot). AreSearchedRuns g.D.Device.bytes x c.runs_of.result.items) c.self.view_is
    (λ most m stands.
    subst (λ (rs : List Run). AreSearched (run.held_of g.D.Device.bytes c.self.inside.runs) rs (visible_lists (run.held_of g.D.Device.bytes c.self.inside.runs) c.self.inside.clock c.self.inside.levels.value.items) m) (sym (c.runs_of.ensures ∙ ap (visible_runs c.self.inside.clock 0) (c.as_slice.ensures.value ∙ ap (λ (a : ArrayVec Level 23 Unit). a.items) c.deref.ensures)))
    (searched (run.held_of g.D.Device.bytes c.self.inside.runs) most c.self.inside.clock c.self.inside.levels.value.items m c.self.invariant.stands stands))

pub returns-clause-sound : goal.returns-clause-sound
returns-clause-sound g c = subst (λ (x : Contents g.row.D.Denot). IsContents g.D.Device.bytes g.D.Device.counts x) c.self.view_is c.self.invariant
