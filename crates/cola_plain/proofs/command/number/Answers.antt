use Rattle.std.proofs.Common.{arith}
use Rattle.cola_spec.proofs.Digits.{room_for_digit, next_digit}
use Rattle.cola_plain.proofs.command.number.Goals as goal

pub overflow_mul-value : goal.overflow_mul-value
overflow_mul-value c =
    omega (arith, room_for_digit c.loop-byte.value c.loop-byte.byte-index c.loop-byte.invariant.so_far.small (omega arith))

pub overflow_add-value : goal.overflow_add-value
overflow_add-value c =
    let is = c.in-Some.ensures.digit in
    let range = is.0 in
    omega (arith, is.1, room_for_digit c.loop-byte.value c.loop-byte.byte-index c.loop-byte.invariant.so_far.small (omega arith))

pub loop-byte-preserved : goal.loop-byte-preserved
loop-byte-preserved c =
    let is = c.in-Some.ensures.digit in
    record {
      few = c.loop-byte.invariant.few;
      so_far = rw is.1 (next_digit c.args.word.now c.loop-byte.byte-index c.loop-byte.value (omega arith) c.in-Some.ensures.tested is.0 c.loop-byte.invariant.so_far);
    }
