use Rattle.std.proofs.Common.{ℕ, List, Some, ap, ◌∙◌}
use Rattle.cola_cell.specs.Decoded.{decoded}
use Rattle.cola_front.specs.Front.{cell_bytes}
use Rattle.cola_front.proofs.Stored.{sound_of, cell_of}
use Rattle.cola_front.proofs.front.Front.read.Goals as goal

pub returns-in-Some-clause-value : goal.returns-in-Some-clause-value
returns-in-Some-clause-value c =
    let i = c.self.inside in
    ap Some c.cell.ensures ∙ c.in-Some.ensures ∙ ap (λ (xs : List ℕ). decoded i.format (cell_bytes i.format xs c.args.place)) c.deref.ensures.value
    ∙ cell_of i.format i.block i.bytes.items.items c.args.self.now c.self.view_is c.args.place c.requires.behind_header c.requires.within

pub returns-in-Some-clause-sound : goal.returns-in-Some-clause-sound
returns-in-Some-clause-sound c = let i = c.self.inside in sound_of i.format i.block i.bytes.items.items c.args.self.now c.self.view_is c.self.invariant

pub returns-in-None-clause-value : goal.returns-in-None-clause-value
returns-in-None-clause-value c =
    let i = c.self.inside in
    c.in-None.ensures ∙ ap (λ (xs : List ℕ). decoded i.format (cell_bytes i.format xs c.args.place)) c.deref.ensures.value
    ∙ cell_of i.format i.block i.bytes.items.items c.args.self.now c.self.view_is c.args.place c.requires.behind_header c.requires.within

pub returns-in-None-clause-sound : goal.returns-in-None-clause-sound
returns-in-None-clause-sound c = let i = c.self.inside in sound_of i.format i.block i.bytes.items.items c.args.self.now c.self.view_is c.self.invariant
