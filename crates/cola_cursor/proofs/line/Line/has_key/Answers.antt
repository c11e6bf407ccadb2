use Rattle.std.proofs.Common.{sym, ap, ◌∙◌, option_copied}
use Rattle.std.specs.Ordering.{is_eq}
use Rattle.cola_cell.specs.Cell.{key_of}
use Rattle.cola_cursor.specs.Passing.{has_key}
use Rattle.cola_look.proofs.Seats.{swapped}
use Rattle.cola_cursor.proofs.line.Line.has_key.Goals as goal

pub returns-in-Some : goal.returns-in-Some
returns-in-Some c =
    c.is_eq.ensures ∙ ap is_eq c.key_cmp.ensures ∙ swapped (key_of c.in-Some.cell.now) c.args.key.now
    ∙ sym (ap (has_key c.args.key.now) (sym c.cell.ensures ∙ ap option_copied c.in-Some.is))
