use Rattle.std.proofs.Common.{◌≡◌, ℕ, ◌+◌, List, sym, ap, subst, ◌∙◌, arith}
use Rattle.arrayvec.specs.declared.array_vec.ArrayVec.{ArrayVec}
use Rattle.cola_clock.specs.Marks.{Marks}
use Rattle.cola_spec.specs.Map.{Map}
use Rattle.cola_cell.specs.Held.{Held}
use Rattle.cola_layout.specs.declared.geometry.Geometry.{Geometry}
use Rattle.cola_layout.specs.Marks.{all_numbers}
use Rattle.cola_layout.specs.Cells.{file_spots}
use Rattle.cola_image.specs.Standing.{LevelsStandFor, found_in}
use Rattle.cola_image.proofs.StandingLemmas.{stand-alike}
use Rattle.cola_level.specs.declared.level.Level.{Level}
use Rattle.cola_level.specs.Marks.{all_marks_of}
use Rattle.cola_mutation.specs.Standing.{StandsFor}
use Rattle.cola_run.specs.Store as run
use Rattle.cola_run.specs.Saving.{SameReads, AreFileSpots}
use Rattle.cola_chain.specs.Contents.{Contents, held_of}
use Rattle.cola_chain.proofs.LevelLists.{marks-length}
use Rattle.cola_chain.proofs.Headers.{alike-places, alike-read}
use Rattle.cola_chain.proofs.chains.Chain.header.Goals as goal

pub returns-clause-stands : goal.returns-clause-stands
returns-clause-stands g c =
    let s = c.self.inside in
    let chain = c.self.invariant.stands in
    let n = marks-length s.levels.value.items ∙ chain.counted in
    let marks_are : all_numbers c.marks_of_levels-levels.result.items ≡ all_marks_of s.levels.value.items = c.marks_of_levels-levels.ensures.numbers ∙ ap (λ (ls : List Level). all_marks_of ls) (c.as_slice.ensures.value ∙ ap (λ (a : ArrayVec Level 23 Unit). a.items) c.deref.ensures) in
    subst (λ (x : Contents g.row.D.Denot). (most : ℕ) (m : Map) (flushed : Held) (bytes : List ℕ) → StandsFor (held_of g.D.Device.bytes x) most x.clock x.levels (found_in m) → SameReads (held_of g.D.Device.bytes x) flushed →
    AreFileSpots x.store.geometry flushed.spots bytes → LevelsStandFor most s.clock (all_numbers c.marks_of_levels-levels.result.items) (file_spots c.geometry.result.now.format bytes) m) c.self.view_is
    (λ most m flushed bytes stands same file.
    subst (λ (ms : List Marks). LevelsStandFor most s.clock ms (file_spots c.geometry.result.now.format bytes) m) (sym marks_are)
    (subst (λ (x : Geometry). LevelsStandFor most s.clock (all_marks_of s.levels.value.items) (file_spots x.format bytes) m) (sym c.geometry.ensures)
    (stand-alike most s.clock (all_marks_of s.levels.value.items) flushed.spots (file_spots s.runs.geometry.format bytes) m
    (alike-places (s.runs.geometry.bottom + 1) flushed.spots (file_spots s.runs.geometry.format bytes) s.clock 0 0 (all_marks_of s.levels.value.items) chain.marks (omega (arith, n)) (λ l slot i place. sym (file l slot i place)))
    (stand-alike most s.clock (all_marks_of s.levels.value.items) (run.held_of g.D.Device.bytes s.runs).spots flushed.spots m (alike-read (run.held_of g.D.Device.bytes s.runs) flushed s.clock s.levels.value.items chain same) (record { told = stands.told; sound = stands.sound })))))
