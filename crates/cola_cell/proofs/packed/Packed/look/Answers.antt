use Rattle.std.proofs.Common.{ℕ, List, ap, subst, sym, ◌∙◌}
use Rattle.cola_cell.specs.declared.cell.Cell.TheVariants as cell
use Rattle.cola_cell.specs.Format.{CellFits}
use Rattle.cola_cell.proofs.Packs.{look-fits}
use Rattle.cola_cell.proofs.packed.Packed.look.Goals as goal

pub returns-clause-fits : goal.returns-clause-fits
returns-clause-fits c = λ format h.
    subst (CellFits format) (sym (c.of_cell.ensures ∙ ap (λ (key : List ℕ). cell.Look key c.args.link) c.key-key.ensures)) (look-fits format c.args.self.now c.args.link h)
