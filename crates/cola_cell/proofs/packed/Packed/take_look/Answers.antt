use Rattle.std.specs.Prelude.{◌≡◌, ℕ, take}
use Rattle.std.proofs.Common.{◌∙◌, ap, sym, subst}
use Rattle.cola_cell.specs.declared.cell.Cell.{Cell}
use Rattle.cola_cell.specs.declared.cell.Cell.TheVariants as cell
use Rattle.cola_cell.specs.Cell.{key_of}
use Rattle.cola_cell.specs.Decoded.{standing}
use Rattle.cola_cell.specs.Format.{CellFits}
use Rattle.cola_cell.proofs.Packs.{look-fits, made-is, made-spells}
use Rattle.cola_cell.proofs.packed.Packed.take_look.Goals.{After-look_in}
use Rattle.cola_cell.proofs.packed.Packed.take_look.Goals as goal

-- the cell of which the bytes were written
abbrev read : After-look_in → Cell
read c = standing c.other.inside.format (take c.width-width.result c.other.inside.bytes)

-- it is the other cell
read-is : (c : After-look_in) → read c ≡ c.args.other.now
read-is c = ap (λ (n : ℕ). standing c.other.inside.format (take n c.other.inside.bytes)) c.width-width.ensures ∙ c.other.view_is

-- the lookahead cells of both
look-is : (c : After-look_in) → cell.Look (key_of (read c)) c.args.link ≡ cell.Look (key_of c.args.other.now) c.args.link
look-is c = ap (λ (x : Cell). cell.Look (key_of x) c.args.link) (read-is c)

pub invariant_of-self : goal.invariant_of-self
invariant_of-self c = made-spells c.other.inside.format (cell.Look (key_of (read (goal.at.invariant_of-self c).After-look_in)) c.args.link) c.look_in.new.into _ c.look_in.ensures

pub returns-clause-value : goal.returns-clause-value
returns-clause-value c =
    let p = (goal.at.returns-clause-value c).After-look_in in
    made-is c.other.inside.format (cell.Look (key_of (read p)) c.args.link) c.look_in.new.into _ c.look_in.ensures ∙ look-is p

pub returns-clause-fits : goal.returns-clause-fits
returns-clause-fits c = λ format h.
    let p = (goal.at.returns-clause-fits c).After-look_in in
    subst (CellFits format) (sym (made-is c.other.inside.format (cell.Look (key_of (read p)) c.args.link) c.look_in.new.into _ c.look_in.ensures ∙ look-is p)) (look-fits format c.args.other.now c.args.link h)
