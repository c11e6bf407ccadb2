use Rattle.std.proofs.Common.{◌≡◌, ℕ, ◌+◌, ◌<◌, ◌≤◌, Bool, true, false, List, length, take, drop, Option, Some, None, refl, ap, sym, subst, ◌∙◌, arith, rules}
use Rattle.cola_cell.specs.declared.cell.Cell.{Cell}
use Rattle.cola_cell.specs.declared.cell.Reader.TheVariants.{Own, Incoming, Sample}
use Rattle.cola_cell.specs.Cell.{key_of}
use Rattle.cola_cell.specs.Order.{key_cmp}
use Rattle.cola_cell.specs.Format.{width}
use Rattle.cola_cell.specs.Decoded.{standing}
use Rattle.cola_cell.specs.Packed.{passed}
use Rattle.cola_cell.specs.Held.{as_cell}
use Rattle.cola_cell.specs.Spelling.{IsSpelling}
use Rattle.cola_runs.specs.Steps as laws
use Rattle.cola_window.specs.Windows.{front_cell, above_front, as_head, as_action, asked, pick, ActSuits, ActsLeast, ActsItemOrLook, part_of}
use Rattle.cola_window.proofs.Fronts.{front_is, front_by, no_front, long_front, spelled, above_some}
use Rattle.cola_window.proofs.windows.skips.Goals as goal

pub passes_own-requires : goal.passes_own-requires
passes_own-requires c = spelled c.args.format c.args.own.now c.has_front.result c.front.result.now c.has_front.ensures c.if-has_front.true c.front.ensures c.requires
