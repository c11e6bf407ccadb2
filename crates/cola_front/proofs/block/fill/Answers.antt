use Rattle.std.proofs.Common.{ℕ, replicate, ap, ◌∙◌}
use Rattle.cola_front.proofs.Places.{stored_bad, stored_cell}
use Rattle.cola_front.proofs.block.fill.Goals as goal

pub returns-then-not-is_cell : goal.returns-then-not-is_cell
returns-then-not-is_cell c =
    stored_bad c.args.format c.args.place c.args.cell.now c.fill-then-not-is_cell.new.self c.if-place-lt8.false c.if-not-is_cell.ensures
    (c.fill-then-not-is_cell.ensures.after (λ y is. is) ∙ ap (λ (n : ℕ). replicate n 0) c.requires.size)

pub returns : goal.returns
returns c = stored_cell c.args.format c.args.place c.args.cell.now c.copy_from_slice.new.self c.if-place-lt8.false c.if-not-is_cell.ensures c.copy_from_slice.ensures.after
