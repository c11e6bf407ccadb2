use Rattle.std.proofs.Common.{◌≡◌, ℕ, ◌+◌, ◌-◌, ◌*◌, ◌%◌, Ok, subst, arith}
use Rattle.cola_outside.specs.Told.{Both}
use Rattle.cola_mirror.specs.Rebuild.{IsSameBelow, IsMoved, Moves}
use Rattle.cola_mirror.proofs.RebuildLemmas.{below-then, moved-then, only-then}
use Rattle.cola_mirror.proofs.rebuilding.copy_behind.Goals as goal

pub returns-in-Err-clause-below : goal.returns-in-Err-clause-below
returns-in-Err-clause-below g c =
    let loop = c.loop-piece in
    below-then 512 (512 + 512 * loop.piece) (g.E.Device.bytes c.args.to.now) (g.E.Device.bytes loop.to) (g.E.Device.bytes c.copy_piece.new.to) (omega arith) loop.invariant.below c.copy_piece.ensures.below

pub loop-piece-preserved : goal.loop-piece-preserved
loop-piece-preserved g c =
    let loop = c.loop-piece in
    let next : 512 * loop.piece + 512 ≡ 512 * (loop.piece + 1) = omega arith in
    record {
      so_far = subst (λ (n : ℕ). IsMoved g.D.Device g.E.Device c.args.from.now c.copy_piece.new.from c.args.to.now c.copy_piece.new.to 512 n) next
          (moved-then g.D.Device g.E.Device c.args.from.now loop.from c.copy_piece.new.from c.args.to.now loop.to c.copy_piece.new.to 512 (512 * loop.piece) 512 (Ok c.in-Ok.field-0)
          loop.invariant.only.bytes_stay loop.invariant.so_far c.copy_piece.ensures.below c.in-Ok.ensures.moves);
      below = below-then 512 (512 + 512 * loop.piece) (g.E.Device.bytes c.args.to.now) (g.E.Device.bytes loop.to) (g.E.Device.bytes c.copy_piece.new.to) (omega arith) loop.invariant.below c.copy_piece.ensures.below;
      only = only-then g.D.Device g.E.Device c.args.from.now loop.from c.copy_piece.new.from c.args.to.now loop.to c.copy_piece.new.to loop.piece 1 (loop.piece + 1) (omega arith) loop.invariant.only c.copy_piece.ensures.only;
    }

pub returns-clause-moves : goal.returns-clause-moves
returns-clause-moves g c =
    let loop = c.loop-piece in
    let rest : ℕ = (c.args.size - 512) % 512 in
    let begin : c.args.size - rest ≡ 512 + 512 * loop.piece = omega arith in
    let whole : 512 * loop.piece + rest ≡ c.args.size - 512 = omega arith in
    subst (λ (n : ℕ). Moves g.D.Device g.E.Device c.args.from.now c.copy_piece-2.new.from c.args.to.now c.copy_piece-2.new.to 512 n c.copy_piece-2.result) whole
    (moved-then g.D.Device g.E.Device c.args.from.now loop.from c.copy_piece-2.new.from c.args.to.now loop.to c.copy_piece-2.new.to 512 (512 * loop.piece) rest c.copy_piece-2.result
    loop.invariant.only.bytes_stay loop.invariant.so_far
    (subst (λ (n : ℕ). Both (g.E.Device.bytes loop.to) (g.E.Device.bytes c.copy_piece-2.new.to) (IsSameBelow n)) begin c.copy_piece-2.ensures.below)
    (subst (λ (n : ℕ). Moves g.D.Device g.E.Device loop.from c.copy_piece-2.new.from loop.to c.copy_piece-2.new.to n rest c.copy_piece-2.result) begin c.copy_piece-2.ensures.moves))

pub returns-clause-below : goal.returns-clause-below
returns-clause-below g c =
    let loop = c.loop-piece in
    below-then 512 (c.args.size - (c.args.size - 512) % 512) (g.E.Device.bytes c.args.to.now) (g.E.Device.bytes loop.to) (g.E.Device.bytes c.copy_piece-2.new.to) (omega arith) loop.invariant.below c.copy_piece-2.ensures.below
