use Rattle.std.proofs.Common.{arith, sym}
use Rattle.cola_spec.proofs.Digits.{room_for_digit, next_digit}
use Rattle.cola_line.proofs.parse.number.Goals as goal

pub overflow_mul-value : goal.overflow_mul-value
overflow_mul-value c =
    omega (arith, room_for_digit c.loop-digit.value c.loop-digit.digit-index c.loop-digit.invariant.so_far.small (omega arith))

pub overflow_add-value : goal.overflow_add-value
overflow_add-value c =
    let range = c.if-not-is_ascii_digit.ensures.cases in
    omega (arith, room_for_digit c.loop-digit.value c.loop-digit.digit-index c.loop-digit.invariant.so_far.small (omega arith))

pub loop-digit-preserved : goal.loop-digit-preserved
loop-digit-preserved c = record {
  few = c.loop-digit.invariant.few;
  so_far = next_digit c.args.word.now c.loop-digit.digit-index c.loop-digit.value (omega arith) (sym c.if-not-is_ascii_digit.ensures.value) c.if-not-is_ascii_digit.ensures.cases c.loop-digit.invariant.so_far;
}
