use Rattle.std.proofs.Common.{◌*◌, ◌≤◌, ℕ, List, length, take, drop, ap, sym, subst, ◌∙◌}
use Rattle.cola_cell.specs.Format.{width}
use Rattle.cola_window.proofs.seeking.nth_cell.Goals as goal

pub front-requires : goal.front-requires
front-requires c =
    subst (λ (x : List ℕ). width c.args.format ≤ length x) (sym (c.rest.ensures ∙ ap (λ (w : ℕ). drop (c.args.n * w) c.args.window.now) c.width.ensures)) c.requires

pub returns : goal.returns
returns c = c.front.ensures ∙ ap (take (width c.args.format)) (c.rest.ensures ∙ ap (λ (w : ℕ). drop (c.args.n * w) c.args.window.now) c.width.ensures)
