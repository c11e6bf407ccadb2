-- A room has what stands at the beginning of bytes.
use Rattle.std.proofs.Common.{◌≡◌, ◌<◌, ◌≤◌, ℕ, Bool, if◌then◌else◌, Some, None, length, ap, subst, ◌∙◌, take, arith}
use Rattle.std.specs.Prelude.{MatchBool}
use Rattle.cola_cell.specs.Format.{width}
use Rattle.cola_cell.specs.Spelling.{IsSpelling, IsNoSpelling}
use Rattle.cola_cell.proofs.Standing.{stands_short, stands_read, not_least}
use Rattle.cola_cell.proofs.cell_room.CellRoom.refill.Goals.{then-bytes-width, else-bytes-width}
use Rattle.cola_cell.proofs.cell_room.CellRoom.refill.Goals as goal

pub returns : goal.returns
returns c = elim c.if-bytes-width.branch [
  | then-bytes-width w ↦
      let here : width c.args.format ≤ length c.args.bytes.now = (let e = c.width.ensures in let l = w.if-bytes-width.true in omega (arith, e, l)) in
      ap (λ (b : Bool). if b then Some c.if-bytes-width.self-inside.packed else None) w.self-is
      ∙ ap (λ (h : _). if w.refill-self-inside.result then Some h.packed else None) w.self-inside-is
      ∙ stands_read c.args.format c.args.bytes.now w.refill-self-inside.result w.refill-self-inside.new.self here
      (subst (λ (n : ℕ). MatchBool w.refill-self-inside.result (IsSpelling c.args.format w.refill-self-inside.new.self (take n c.args.bytes.now)) (IsNoSpelling c.args.format (take n c.args.bytes.now))) w.width-then-bytes-width.ensures w.refill-self-inside.ensures.cell)
  | else-bytes-width w ↦
      let few : length c.args.bytes.now < width c.args.format = (let e = c.width.ensures in let l = w.if-bytes-width.false in omega (arith, e, l)) in
      ap (λ (b : Bool). if b then Some c.if-bytes-width.self-inside.packed else None) (w.self-is ∙ not_least c.width.result (length c.args.bytes.now) w.if-bytes-width.false)
      ∙ stands_short c.args.format c.args.bytes.now few
]
