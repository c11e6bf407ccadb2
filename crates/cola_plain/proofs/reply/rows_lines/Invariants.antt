use Rattle.std.proofs.Common.{◌≡◌, take, map}
use Rattle.cola_spec.specs.Reply.{rows_text}
use Rattle.cola_plain.specs.Map.{pair_with}
use Rattle.cola_plain.proofs.reply.rows_lines.Given as goal

abbrev pub invariant-loop-row : goal.invariant-loop-row
invariant-loop-row l = l.text.items ≡ rows_text (map pair_with (take l.row-index l.rows.items))
