use Rattle.std.proofs.Common.{◌∙◌, sym, ap, arith}
use Rattle.std.proofs.lemmas.Bool.{eqb-true, eqb-false}
use Rattle.cola_plain.specs.Lines.{texts}
use Rattle.cola_plain.proofs.LineLemmas.{empty_read, full_read, nothing_left_out}
use Rattle.cola_plain.proofs.lines.without_empty_last.Goals as goal
use Rattle.cola_plain.proofs.lines.without_empty_last.Goals.{else-end-gt0-via-then-end-gt0+else-is_empty, else-end-gt0-via-else-end-gt0}

pub returns-then-is_empty : goal.returns-then-is_empty
returns-then-is_empty c =
    ap texts c.truncate.ensures.items
    ∙ empty_read c.args.parts.items _ c.index.result.now (omega (arith, c.args.parts.ok.0)) c.index.ensures (eqb-true _ _ (sym c.if-is_empty.ensures))

pub returns : goal.returns
returns c =
    elim c.else-end-gt0.branch [
      | else-end-gt0-via-then-end-gt0+else-is_empty w ↦ full_read c.args.parts.items _ w.index.result.now (omega (arith, c.args.parts.ok.0)) w.index.ensures (eqb-false _ _ (sym w.if-is_empty.ensures))
      | else-end-gt0-via-else-end-gt0 w ↦ (nothing_left_out c.args.parts.items (omega (arith, c.args.parts.ok.0))).0
    ]
