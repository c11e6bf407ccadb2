use Rattle.std.proofs.Common.{◌≡◌, Bool, true, false, ◌||◌, take, refl, ap, ◌∙◌, sym, option_copied}
use Rattle.cola_shapes.specs.Shapes.{shape_of}
use Rattle.cola_load.specs.PlainLines.{lines_of}
use Rattle.cola_load.specs.Said.{as_line, said}
use Rattle.cola_load.specs.Rows.{has_end, is_end}
use Rattle.cola_load.proofs.Chains.{text_at, end-more}
use Rattle.cola_load.proofs.plain.has_end.Goals as goal
use Rattle.cola_load.proofs.plain.has_end.Goals.{then-ended, else-ended}

stays : (old new : Bool) → old ≡ true → old ≡ (old || new)
stays true new is = refl
stays false new is = cc

turns : (old new : Bool) → old ≡ false → new ≡ (old || new)
turns true new is = cc
turns false new is = refl

pub loop-line-preserved : goal.loop-line-preserved
loop-line-preserved c = λ keys.
    let shape = shape_of c.args.format keys in
    let before = has_end shape (lines_of (take c.loop-line.line-index c.args.lines.now)) in
    let new = is_end (said shape (as_line (option_copied (text_at c.args.lines.now c.loop-line.line-index)))) in
    let was = c.loop-line.invariant keys in
    let more = end-more shape c.args.lines.now c.loop-line.line-index c.loop-line-test.true in
    elim c.if-ended.branch [
      | then-ended w ↦ w.ended-is ∙ was ∙ stays before new (sym was ∙ w.if-ended.true) ∙ sym more
      | else-ended w ↦ w.ended-is ∙ w.is_end-ended.ensures ∙ ap is_end (w.said_by.ensures.means keys) ∙ turns before new (sym was ∙ w.if-ended.false) ∙ sym more
    ]
