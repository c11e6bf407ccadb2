use Rattle.std.proofs.Common.{◌≡◌, ℕ, ◌+◌, ◌<◌, ◌≤◌, Bool, true, false, List, length, take, drop, Option, Some, None, refl, ap, sym, subst, ◌∙◌, arith, rules}
use Rattle.cola_cell.specs.declared.cell.Cell.{Cell}
use Rattle.cola_cell.specs.declared.cell.Reader.TheVariants.{Own, Incoming, Sample}
use Rattle.cola_cell.specs.Cell.{key_of}
use Rattle.cola_cell.specs.Order.{key_cmp}
use Rattle.cola_cell.specs.Format.{width}
use Rattle.cola_cell.specs.Decoded.{standing}
use Rattle.cola_cell.specs.Packed.{passed}
use Rattle.cola_cell.specs.Held.{as_cell}
use Rattle.cola_cell.specs.Spelling.{IsSpelling}
use Rattle.cola_runs.specs.Steps as laws
use Rattle.cola_window.specs.Windows.{front_cell, above_front, as_head, as_action, asked, pick, ActSuits, ActsLeast, ActsItemOrLook, part_of}
use Rattle.cola_window.proofs.Fronts.{front_is, front_by, no_front, long_front, spelled, above_some, put_part, put_spells}
use Rattle.cola_cell.specs.declared.packed.Pass.{Pass}
use Rattle.cola_window.proofs.windows.put.Goals as goal

pub returns-in-Item-clause-cell : goal.returns-in-Item-clause-cell
returns-in-Item-clause-cell c = put_spells c.args.format c.args.at c.width.result c.args.room.now c.renew_in.new.into (passed c.args.pass (standing c.args.format c.args.cell.now)) c.width.ensures c.requires.inside
    (subst (λ (p : Pass). IsSpelling c.args.format (passed p (standing c.args.format c.args.cell.now)) c.renew_in.new.into) (sym c.in-Item.is) c.renew_in.ensures)

pub returns-in-Look-clause-cell : goal.returns-in-Look-clause-cell
returns-in-Look-clause-cell c = put_spells c.args.format c.args.at c.width.result c.args.room.now c.look_in.new.into (passed c.args.pass (standing c.args.format c.args.cell.now)) c.width.ensures c.requires.inside
    (subst (λ (p : Pass). IsSpelling c.args.format (passed p (standing c.args.format c.args.cell.now)) c.look_in.new.into) (sym c.in-Look.is) c.look_in.ensures)
