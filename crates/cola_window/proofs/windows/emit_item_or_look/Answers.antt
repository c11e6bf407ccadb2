use Rattle.std.proofs.Common.{◌≡◌, ℕ, ◌+◌, ◌<◌, ◌≤◌, Bool, true, false, List, length, take, drop, Option, Some, None, refl, ap, sym, subst, ◌∙◌, arith, rules}
use Rattle.cola_cell.specs.declared.cell.Cell.{Cell}
use Rattle.cola_cell.specs.declared.cell.Reader.TheVariants.{Own, Incoming, Sample}
use Rattle.cola_cell.specs.Cell.{key_of}
use Rattle.cola_cell.specs.Order.{key_cmp}
use Rattle.cola_cell.specs.Format.{width}
use Rattle.cola_cell.specs.Decoded.{standing}
use Rattle.cola_cell.specs.Packed.{passed}
use Rattle.cola_cell.specs.Held.{as_cell}
use Rattle.cola_cell.specs.Spelling.{IsSpelling}
use Rattle.cola_runs.specs.Steps as laws
use Rattle.cola_window.specs.Windows.{front_cell, above_front, as_head, as_action, asked, pick, ActSuits, ActsLeast, ActsItemOrLook, part_of}
use Rattle.cola_window.proofs.Fronts.{front_is, front_by, no_front, long_front, spelled, above_some, put_part, look_first, item_first}
use Rattle.cola_window.proofs.windows.emit_item_or_look.Goals as goal

pub returns-then-is_above-clause-act : goal.returns-then-is_above-clause-act
returns-then-is_above-clause-act c = λ link x y z e k. look_first c.args.rules link c.args.head (standing c.args.format c.args.cell.now) (front_cell c.args.format c.args.sample.now) c.look.result x y z
    (sym c.is_above.ensures ∙ c.if-is_above.true) k (c.look.ensures.act c.args.rules link)

pub returns-then-is_above-clause-suits : goal.returns-then-is_above-clause-suits
returns-then-is_above-clause-suits c = λ x y z e k link. above_some (standing c.args.format c.args.cell.now) (front_cell c.args.format c.args.sample.now) (sym c.is_above.ensures ∙ c.if-is_above.true)
    (λ next s. subst (λ (o : Option Cell). ActSuits c.args.rules link x y o c.look.result) (sym (k ∙ s)) (c.look.ensures.suits c.args.rules link x y next))

pub returns-clause-act : goal.returns-clause-act
returns-clause-act c = λ link x y z e k. item_first c.args.rules link c.args.head (standing c.args.format c.args.cell.now) (front_cell c.args.format c.args.sample.now) c.emit.result x y z
    (sym c.is_above.ensures ∙ c.if-is_above.false) e (c.emit.ensures.emitted link)
