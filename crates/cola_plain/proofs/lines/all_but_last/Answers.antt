use Rattle.std.proofs.Common.{◌∙◌, ap, arith}
use Rattle.cola_plain.specs.Lines.{texts}
use Rattle.cola_plain.proofs.LineLemmas.{last_left_out}
use Rattle.cola_plain.proofs.lines.all_but_last.Goals as goal

pub returns-then-end-gt0 : goal.returns-then-end-gt0
returns-then-end-gt0 c = ap texts c.truncate.ensures.items ∙ last_left_out c.args.parts.items _ (omega (arith, c.args.parts.ok.0))
