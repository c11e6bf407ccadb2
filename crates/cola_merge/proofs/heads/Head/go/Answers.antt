-- A head that goes on by cells of a window.
use Rattle.std.proofs.Common.{◌≡◌, ◌+◌, ◌*◌, ℕ, false, Option, Some, None, List, drop, ap, sym, refl, ◌∙◌}
use Rattle.std.specs.Prelude.{is_some}
use Rattle.cola_cell.specs.declared.cell.Cell.{Cell}
use Rattle.cola_merge.specs.Fetched.{Head}
use Rattle.cola_merge.specs.Weaving.{standing_head}
use Rattle.cola_merge.proofs.Fronts.{gone_on, drop_least, take_rest}
use Rattle.cola_merge.proofs.heads.Head.go.Goals.{else-count-eq0-via-then-count-eq0+else-has_cell, else-count-eq0-via-else-count-eq0}
use Rattle.cola_merge.proofs.heads.Head.go.Goals as goal

-- an empty room
empty : (x : Option Cell) → is_some x ≡ false → x ≡ None
empty None e = refl
empty (Some cell) e = cc

pub returns-clause-gone : goal.returns-clause-gone
returns-clause-gone c =
    ap (λ (x : Option Cell). record { at = c.self.inside.at + c.args.count; cell = x }) c.refill.ensures
    ∙ ap (λ (xs : List ℕ). standing_head c.args.format (c.self.inside.at + c.args.count) xs)
    (take_rest c.min-begin.result c.args.window.now ∙ ap (λ (n : ℕ). drop n c.args.window.now) c.min-begin.ensures ∙ drop_least (c.args.count * c.args.step) c.args.window.now)
    ∙ gone_on c.args.format c.args.step c.args.count c.args.window.now (c.self.inside.at + c.args.count) c.args.self.now
    (λ e. elim c.else-count-eq0.branch [
      | else-count-eq0-via-then-count-eq0+else-has_cell w ↦ sym (ap (λ (h : Head). h.cell) c.self.view_is) ∙ empty c.self.inside.room (sym w.has_cell.ensures ∙ w.if-has_cell.false)
      | else-count-eq0-via-else-count-eq0 w ↦ let l = w.if-count-eq0.false in absurd (l e)
    ])
    (ap (λ (h : Head). h.at + c.args.count) c.self.view_is)
