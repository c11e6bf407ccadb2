-- The first cell of a window whose key is not below.
use Rattle.std.proofs.Common.{◌≡◌, ℕ, ◌*◌, inr, List, drop, ap, sym, subst, ◌∙◌, arith}
use Rattle.std.specs.declared.cmp.Ordering.TheVariants.{Equal, Greater}
use Rattle.cola_cell.specs.Format.{width}
use Rattle.cola_cell.specs.Spelling.{IsNoSpelling}
use Rattle.cola_window.specs.Seeking.{AllBelow, IsOrdered}
use Rattle.cola_window.proofs.Sought.{has, ended, nth_is, next_left, below_next}
use Rattle.cola_window.proofs.seeking.seek_in.Goals as goal

pub loop-index-init : goal.loop-index-init
loop-index-init g c = record {
  left_is = ap (λ (n : ℕ). drop n c.args.window.now) (let z : 0 ≡ 0 * width c.args.format = omega arith in z);
  below = λ k l. absurd (omega (arith, l));
}

pub returns-then-not-has_front-clause-below : goal.returns-then-not-has_front-clause-below
returns-then-not-has_front-clause-below g c = c.loop-index.invariant.below

pub returns-then-not-has_front-clause-stops : goal.returns-then-not-has_front-clause-stops
returns-then-not-has_front-clause-stops g c =
    inr (ended c.args.format c.args.window.now c.loop-index.left.now c.loop-index.index c.loop-index.invariant.left_is c.has_front.result c.has_front.ensures c.if-not-has_front.true)

pub returns-then-not-is_cell-clause-below : goal.returns-then-not-is_cell-clause-below
returns-then-not-is_cell-clause-below g c = c.loop-index.invariant.below

pub returns-then-not-is_cell-clause-stops : goal.returns-then-not-is_cell-clause-stops
returns-then-not-is_cell-clause-stops g c = (
  has c.args.format c.args.window.now c.loop-index.left.now c.loop-index.index c.loop-index.invariant.left_is c.has_front.result c.has_front.ensures c.if-not-has_front.false,
  subst (λ (x : List ℕ). IsNoSpelling c.args.format x) (nth_is c.args.format c.args.window.now c.loop-index.left.now c.front-cell.result.now c.loop-index.index c.loop-index.invariant.left_is c.front-cell.ensures) c.if-not-is_cell.ensures,
)

pub returns-in-Equal-clause-below : goal.returns-in-Equal-clause-below
returns-in-Equal-clause-below g c = c.loop-index.invariant.below

pub returns-in-Equal-clause-stops : goal.returns-in-Equal-clause-stops
returns-in-Equal-clause-stops g c =
    let e = nth_is c.args.format c.args.window.now c.loop-index.left.now c.front-cell.result.now c.loop-index.index c.loop-index.invariant.left_is c.front-cell.ensures in
    record {
      within = c.loop-index-test.true;
      has = has c.args.format c.args.window.now c.loop-index.left.now c.loop-index.index c.loop-index.invariant.left_is c.has_front.result c.has_front.ensures c.if-not-has_front.false;
      ordered = subst (λ (x : List ℕ). IsOrdered c.args.format c.args.key.now x Equal) e (record { spells = c.if-not-is_cell.ensures; order_is = sym c.key_cmp_in.ensures ∙ c.in-Equal.is });
    }

pub returns-in-Greater-clause-below : goal.returns-in-Greater-clause-below
returns-in-Greater-clause-below g c = c.loop-index.invariant.below

pub returns-in-Greater-clause-stops : goal.returns-in-Greater-clause-stops
returns-in-Greater-clause-stops g c =
    let e = nth_is c.args.format c.args.window.now c.loop-index.left.now c.front-cell.result.now c.loop-index.index c.loop-index.invariant.left_is c.front-cell.ensures in
    record {
      within = c.loop-index-test.true;
      has = has c.args.format c.args.window.now c.loop-index.left.now c.loop-index.index c.loop-index.invariant.left_is c.has_front.result c.has_front.ensures c.if-not-has_front.false;
      ordered = subst (λ (x : List ℕ). IsOrdered c.args.format c.args.key.now x Greater) e (record { spells = c.if-not-is_cell.ensures; order_is = sym c.key_cmp_in.ensures ∙ c.in-Greater.is });
    }

pub loop-index-preserved : goal.loop-index-preserved
loop-index-preserved g c =
    let e = nth_is c.args.format c.args.window.now c.loop-index.left.now c.front-cell.result.now c.loop-index.index c.loop-index.invariant.left_is c.front-cell.ensures in
    record {
      left_is = next_left c.args.format c.args.window.now c.loop-index.left.now c.rest-left.result.now c.loop-index.index c.width.result c.loop-index.invariant.left_is c.width.ensures c.rest-left.ensures;
      below = below_next c.args.format c.args.key.now c.args.window.now c.front-cell.result.now c.loop-index.index c.loop-index.invariant.below
          (has c.args.format c.args.window.now c.loop-index.left.now c.loop-index.index c.loop-index.invariant.left_is c.has_front.result c.has_front.ensures c.if-not-has_front.false)
          e c.if-not-is_cell.ensures (sym c.key_cmp_in.ensures ∙ c.in-Less.is);
    }

pub returns-clause-below : goal.returns-clause-below
returns-clause-below g c =
    subst (λ (n : ℕ). AllBelow c.args.format c.args.key.now c.args.window.now n) (let z : c.loop-index.index ≡ c.args.most = omega (arith, c.loop-index-test.false, c.loop-index.auto.index-end) in z) c.loop-index.invariant.below
