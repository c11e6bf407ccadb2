use Rattle.std.proofs.Common.{◌≡◌, ℕ, ◌+◌, ◌<◌, ◌≤◌, Bool, true, false, List, length, take, drop, Option, Some, None, refl, ap, sym, subst, ◌∙◌, arith, rules}
use Rattle.cola_cell.specs.declared.cell.Cell.{Cell}
use Rattle.cola_cell.specs.declared.cell.Reader.TheVariants.{Own, Incoming, Sample}
use Rattle.cola_cell.specs.Cell.{key_of}
use Rattle.cola_cell.specs.Order.{key_cmp}
use Rattle.cola_cell.specs.Format.{width}
use Rattle.cola_cell.specs.Decoded.{standing}
use Rattle.cola_cell.specs.Packed.{passed}
use Rattle.cola_cell.specs.Held.{as_cell}
use Rattle.cola_cell.specs.Spelling.{IsSpelling}
use Rattle.cola_runs.specs.Steps as laws
use Rattle.cola_window.specs.Windows.{front_cell, above_front, as_head, as_action, asked, pick, ActSuits, ActsLeast, ActsItemOrLook, part_of}
use Rattle.cola_window.proofs.Fronts.{front_is, front_by, no_front, long_front, spelled, above_some}
use Rattle.cola_window.proofs.Fronts.{skipped_own, skipped_new, asked_least}
use Rattle.cola_window.proofs.windows.first_rule.Goals as goal

pub returns-then-skips-clause-suits : goal.returns-then-skips-clause-suits
returns-then-skips-clause-suits c = λ link. skipped_own (part_of c.args.rules) (front_cell c.args.format c.args.own.now) (sym c.skips.ensures ∙ c.if-skips.true)
    (λ d e. c.pass.ensures.suits c.args.rules link _ (front_cell c.args.format c.args.incoming.now) (front_cell c.args.format c.args.sample.now) d e)

pub returns-then-skips_new-clause-suits : goal.returns-then-skips_new-clause-suits
returns-then-skips_new-clause-suits c = λ link. skipped_new (front_cell c.args.format c.args.incoming.now) (sym c.skips_new.ensures ∙ c.if-skips_new.true)
    (λ d e. c.pass-then-skips_new.ensures.suits c.args.rules link (front_cell c.args.format c.args.own.now) _ (front_cell c.args.format c.args.sample.now) d e)

pub returns-clause-act : goal.returns-clause-act
returns-clause-act c = λ link. asked_least c.args.rules link (front_cell c.args.format c.args.own.now) (front_cell c.args.format c.args.incoming.now) (front_cell c.args.format c.args.sample.now) c.emit_least.result
    (sym c.skips.ensures ∙ c.if-skips.false) (sym c.skips_new.ensures ∙ c.if-skips_new.false) (c.emit_least.ensures.act link)
