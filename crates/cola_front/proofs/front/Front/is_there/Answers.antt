use Rattle.std.proofs.Common.{ℕ, List, ap, ◌∙◌}
use Rattle.std.specs.Prelude.{is_some}
use Rattle.cola_cell.specs.Decoded.{decoded}
use Rattle.cola_front.specs.Front.{cell_bytes}
use Rattle.cola_front.proofs.Stored.{cell_of}
use Rattle.cola_front.proofs.front.Front.is_there.Goals as goal

pub returns : goal.returns
returns c =
    let i = c.self.inside in
    c.is_cell_in.ensures ∙ ap (λ (xs : List ℕ). is_some (decoded i.format (cell_bytes i.format xs c.args.place))) c.deref.ensures.value
    ∙ ap is_some (cell_of i.format i.block i.bytes.items.items c.args.self.now c.self.view_is c.args.place c.requires.behind_header c.requires.within)
