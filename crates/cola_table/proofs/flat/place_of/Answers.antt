use Rattle.std.proofs.Common.{sym, ◌∙◌, ◌+◌, ◌-◌, ◌/◌, arith}
use Rattle.cola_spec.specs.Map.{key_cmp}
use Rattle.cola_table.proofs.FlatMap.{key_cmp-total}
use Rattle.cola_table.proofs.Places.{place-le, place-above, place-upto}
use Rattle.cola_table.proofs.flat.place_of.Goals as goal

pub loop-low-init : goal.loop-low-init
loop-low-init c = record {
  from_low = omega arith;
  upto_high = omega (arith, place-le key_cmp key_cmp-total c.args.key.now c.args.entries.now.list, c.len-high.ensures.value);
  in_range = omega (arith, c.len-high.ensures.value);
}

-- the entry in the middle has a smaller key
pub loop-low-preserved-then-lt : goal.loop-low-preserved-then-lt
loop-low-preserved-then-lt c =
    let list = c.args.entries.now.list in
    let above = place-above key_cmp key_cmp-total c.args.key.now list (c.loop-low.low + (c.loop-low.high - c.loop-low.low) / 2) c.at.result.now c.requires (omega (arith, c.loop-low-test.true, c.loop-low.invariant.in_range)) (rw (c.at.ensures, ← c.key.ensures) (sym c.lt.ensures ∙ c.if-lt.true)) in
    record {
      from_low = omega (arith, above);
      upto_high = c.loop-low.invariant.upto_high;
      in_range = c.loop-low.invariant.in_range;
    }

-- it has not
pub loop-low-preserved : goal.loop-low-preserved
loop-low-preserved c =
    let list = c.args.entries.now.list in
    let upto = place-upto key_cmp key_cmp-total c.args.key.now list (c.loop-low.low + (c.loop-low.high - c.loop-low.low) / 2) c.at.result.now (omega (arith, c.loop-low-test.true, c.loop-low.invariant.in_range)) (rw (c.at.ensures, ← c.key.ensures) (sym c.lt.ensures ∙ c.if-lt.false)) in
    record {
      from_low = c.loop-low.invariant.from_low;
      upto_high = upto;
      in_range = omega (arith, c.loop-low-test.true, c.loop-low.invariant.in_range);
    }
