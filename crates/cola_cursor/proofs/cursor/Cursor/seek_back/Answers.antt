use Rattle.std.proofs.Common.{List, ℕ, Bor, ap, sym, subst, option_copied}
use Rattle.std.specs.Bound.{bound_map}
use Rattle.std.specs.declared.ops.Bound.{Bound}
use Rattle.cola_cursor.specs.Turning.{SeekBackGives}
use Rattle.cola_cursor.proofs.Turning.{back_over, back_below}
use Rattle.cola_cursor.proofs.cursor.Cursor.seek_back.Goals as goal

pub returns-in-Included-clause-seeks : goal.returns-in-Included-clause-seeks
returns-in-Included-clause-seeks g c =
    let P : Bound (List ℕ) → Type 0 = λ b. SeekBackGives c.args.runs.now.items (option_copied c.args.lo) b (g.W.CellSource.state c.args.work.now) (g.W.CellSource.state c.turned_at.new.work) c.args.steps.now c.turned_at.new.steps c.turned_at.result in
    subst P (ap (bound_map (λ (key : Bor (List ℕ)). key.now)) (sym c.in-Included.is)) (back_over c.turned_at.result c.turned_at.ensures.turns)

pub returns-in-Excluded-clause-seeks : goal.returns-in-Excluded-clause-seeks
returns-in-Excluded-clause-seeks g c =
    let P : Bound (List ℕ) → Type 0 = λ b. SeekBackGives c.args.runs.now.items (option_copied c.args.lo) b (g.W.CellSource.state c.args.work.now) (g.W.CellSource.state c.turned_at-in-Excluded.new.work) c.args.steps.now c.turned_at-in-Excluded.new.steps c.turned_at-in-Excluded.result in
    subst P (ap (bound_map (λ (key : Bor (List ℕ)). key.now)) (sym c.in-Excluded.is)) (back_below c.turned_at-in-Excluded.result c.turned_at-in-Excluded.ensures.turns)
