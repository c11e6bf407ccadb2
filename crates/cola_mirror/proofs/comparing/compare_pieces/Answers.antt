use Rattle.std.proofs.Common.{◌≡◌, ℕ, ◌+◌, ◌-◌, ◌*◌, ◌%◌, Option, Some, None, Ok, subst, arith}
use Rattle.cola_mirror.specs.Differ.{differ_within, IsPlace, Compares}
use Rattle.cola_mirror.proofs.ComparedLemmas.{range-in, read-then, place-then, place-stays}
use Rattle.cola_mirror.proofs.comparing.compare_pieces.Goals as goal

pub returns-in-Ok-Some-clause-compares : goal.returns-in-Ok-Some-clause-compares
returns-in-Ok-Some-clause-compares g c =
    let loop = c.loop-piece in
    let d = g.D.Device in
    let e = g.E.Device in
    let from : ℕ = 512 * loop.piece in
    let behind : from + 512 + (c.args.size - (from + 512)) ≡ c.args.size = omega arith in
    let here : IsPlace d e loop.first c.compare_piece.new.first loop.second c.compare_piece.new.second (differ_within from 512) (Some c.in-Ok-Some.place) =
    subst (λ (place : Option ℕ). IsPlace d e loop.first c.compare_piece.new.first loop.second c.compare_piece.new.second (differ_within from 512) place) c.in-Ok-Some.field-0-is c.in-Ok-Some.ensures.compares in
    let joined : IsPlace d e c.args.first.now c.compare_piece.new.first c.args.second.now c.compare_piece.new.second (differ_within 0 (from + 512)) (Some c.in-Ok-Some.place) =
    place-then d e c.args.first.now loop.first c.compare_piece.new.first c.args.second.now loop.second c.compare_piece.new.second from 512 (Ok (Some c.in-Ok-Some.place))
    (range-in (d.bytes c.args.first.now) 0 (from + 512) c.args.size (omega arith) c.requires.inside) loop.invariant.only_read.bytes_stay loop.invariant.only_read.second_bytes_stay loop.invariant.so_far here in
    subst (λ (n : ℕ). IsPlace d e c.args.first.now c.compare_piece.new.first c.args.second.now c.compare_piece.new.second (differ_within 0 n) (Some c.in-Ok-Some.place)) behind
    (place-stays d e c.args.first.now c.compare_piece.new.first c.args.second.now c.compare_piece.new.second (from + 512) (c.args.size - (from + 512)) c.in-Ok-Some.place
    (range-in (d.bytes c.args.first.now) 0 (from + 512) c.args.size (omega arith) c.requires.inside) (range-in (e.bytes c.args.second.now) 0 (from + 512) c.args.size (omega arith) c.requires.second_inside) joined)

pub loop-piece-preserved : goal.loop-piece-preserved
loop-piece-preserved g c =
    let loop = c.loop-piece in
    let d = g.D.Device in
    let e = g.E.Device in
    let from : ℕ = 512 * loop.piece in
    let next : from + 512 ≡ 512 * (loop.piece + 1) = omega arith in
    let here : IsPlace d e loop.first c.compare_piece.new.first loop.second c.compare_piece.new.second (differ_within from 512) None =
    subst (λ (place : Option ℕ). IsPlace d e loop.first c.compare_piece.new.first loop.second c.compare_piece.new.second (differ_within from 512) place) c.in-Ok-None.field-0-is c.in-Ok-None.ensures.compares in
    record {
      so_far = subst (λ (n : ℕ). IsPlace d e c.args.first.now c.compare_piece.new.first c.args.second.now c.compare_piece.new.second (differ_within 0 n) None) next
          (place-then d e c.args.first.now loop.first c.compare_piece.new.first c.args.second.now loop.second c.compare_piece.new.second from 512 (Ok None)
          (range-in (d.bytes c.args.first.now) 0 (from + 512) c.args.size (omega arith) c.requires.inside) loop.invariant.only_read.bytes_stay loop.invariant.only_read.second_bytes_stay loop.invariant.so_far here);
      only_read = read-then d e c.args.first.now loop.first c.compare_piece.new.first c.args.second.now loop.second c.compare_piece.new.second loop.piece 1 (loop.piece + 1) 0 0 0 (omega arith) (omega arith) loop.invariant.only_read c.compare_piece.ensures.only_read;
    }

pub returns-clause-compares : goal.returns-clause-compares
returns-clause-compares g c =
    let loop = c.loop-piece in
    let d = g.D.Device in
    let e = g.E.Device in
    let from : ℕ = c.args.size - c.args.size % 512 in
    let rest : ℕ = c.args.size % 512 in
    let begin : 512 * loop.piece ≡ from = omega arith in
    let whole : from + rest ≡ c.args.size = omega arith in
    let front : IsPlace d e c.args.first.now loop.first c.args.second.now loop.second (differ_within 0 from) None = subst (λ (n : ℕ). IsPlace d e c.args.first.now loop.first c.args.second.now loop.second (differ_within 0 n) None) begin loop.invariant.so_far in
    subst (λ (n : ℕ). Compares d e c.args.first.now c.compare_piece-2.new.first c.args.second.now c.compare_piece-2.new.second (differ_within 0 n) c.compare_piece-2.result) whole
    (place-then d e c.args.first.now loop.first c.compare_piece-2.new.first c.args.second.now loop.second c.compare_piece-2.new.second from rest c.compare_piece-2.result
    (range-in (d.bytes c.args.first.now) 0 (from + rest) c.args.size (omega (arith, whole)) c.requires.inside) loop.invariant.only_read.bytes_stay loop.invariant.only_read.second_bytes_stay front c.compare_piece-2.ensures.compares)
