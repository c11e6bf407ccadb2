use Rattle.std.proofs.Common.{ℕ, List, ap, ◌∙◌}
use Rattle.cola_cell.specs.Decoded.{decoded}
use Rattle.cola_front.specs.Front.{cell_bytes}
use Rattle.cola_front.proofs.Stored.{sound_of, cell_of}
use Rattle.cola_front.proofs.front.Front.read_into.Goals as goal

pub returns-clause-value : goal.returns-clause-value
returns-clause-value c =
    let i = c.self.inside in
    c.refill_from.ensures ∙ ap (λ (xs : List ℕ). decoded i.format (cell_bytes i.format xs c.args.place)) c.deref.ensures.value
    ∙ cell_of i.format i.block i.bytes.items.items c.args.self.now c.self.view_is c.args.place c.requires.behind_header c.requires.within

pub returns-clause-sound : goal.returns-clause-sound
returns-clause-sound c = let i = c.self.inside in sound_of i.format i.block i.bytes.items.items c.args.self.now c.self.view_is c.self.invariant
