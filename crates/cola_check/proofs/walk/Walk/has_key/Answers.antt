use Rattle.std.proofs.Common.{ap, ◌∙◌, is_eq}
use Rattle.cola_check.proofs.Common.{key_of, has_key}
use Rattle.cola_look.proofs.Seats.{swapped}
use Rattle.cola_check.proofs.walk.Walk.has_key.Goals as goal

pub returns-in-Some : goal.returns-in-Some
returns-in-Some c = c.is_eq.ensures ∙ ap is_eq c.key_cmp.ensures ∙ swapped (key_of c.in-Some.cell.now) c.args.key.now ∙ ap (has_key c.args.key.now) c.in-Some.ensures
