use Rattle.std.proofs.Common.{arith, ap, subst, sym, ◌∙◌}
use Rattle.std.specs.Prelude.{if◌then◌else◌, take}
use Rattle.cola_cell.specs.Decoded.{standing}
use Rattle.cola_cell.specs.Format.{width, CellFits}
use Rattle.cola_cell.specs.Packed.{is_look, renewed}
use Rattle.cola_cell.proofs.Packs.{Differ, renewed-fits, renews}
use Rattle.cola_cell.proofs.packed.Packed.set.Goals.{After-put_start}
use Rattle.cola_cell.proofs.packed.Packed.set.Goals as goal

differs : (c : After-put_start) → Differ c.put_start.new.bytes c.self.inside.bytes (if c.args.young then 1 else 0) c.args.link
differs c = record {
  size = c.put_start.ensures.size;
  kind = c.put_start.ensures.kind;
  young = c.put_start.ensures.young ∙ c.youth.ensures;
  key = c.put_start.ensures.key;
  value = c.put_start.ensures.value;
  link = c.put_start.ensures.link;
  rest = c.put_start.ensures.rest;
  small_link = omega arith;
}

pub invariant_of-self : goal.invariant_of-self
invariant_of-self c =
    let w = renews c.self.inside.format (standing c.self.inside.format (take (width c.self.inside.format) c.self.inside.bytes)) c.args.young c.args.link
    c.put_start.new.bytes c.self.inside.bytes (ap is_look c.self.view_is ∙ c.requires) (omega (arith, c.put_start.ensures.size)) (omega arith) c.self.invariant (differs (goal.at.invariant_of-self c).After-put_start) in w.0

pub returns-clause-value : goal.returns-clause-value
returns-clause-value c =
    let w = renews c.self.inside.format (standing c.self.inside.format (take (width c.self.inside.format) c.self.inside.bytes)) c.args.young c.args.link
    c.put_start.new.bytes c.self.inside.bytes (ap is_look c.self.view_is ∙ c.requires) (omega (arith, c.put_start.ensures.size)) (omega arith) c.self.invariant (differs (goal.at.returns-clause-value c).After-put_start) in
    w.1 ∙ ap (renewed c.args.young c.args.link) c.self.view_is

pub returns-clause-fits : goal.returns-clause-fits
returns-clause-fits c = λ format h.
    let w = renews c.self.inside.format (standing c.self.inside.format (take (width c.self.inside.format) c.self.inside.bytes)) c.args.young c.args.link
    c.put_start.new.bytes c.self.inside.bytes (ap is_look c.self.view_is ∙ c.requires) (omega (arith, c.put_start.ensures.size)) (omega arith) c.self.invariant (differs (goal.at.returns-clause-fits c).After-put_start) in
    subst (CellFits format) (sym (w.1 ∙ ap (renewed c.args.young c.args.link) c.self.view_is)) (renewed-fits format c.args.self.now c.args.young c.args.link h)
