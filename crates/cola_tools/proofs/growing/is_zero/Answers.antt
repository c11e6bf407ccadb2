use Rattle.std.proofs.Common.{◌≡◌, ℕ, true, eqb, slice_index, inl, inr, refl, arith}
use Rattle.std.specs.Int.Bits.{bit_or}
use Rattle.std.proofs.lemmas.Bool.{cases_lt, eqb-true}
use Rattle.std.proofs.lemmas.Nat.{le_or_l, le_or_r}
use Rattle.cola_tools.proofs.growing.is_zero.Goals as goal

-- where two numbers have no one between them, each is zero
both-zero : (a b : ℕ) → bit_or a b ≡ 0 → (a ≡ 0) × (b ≡ 0)
both-zero a b none = let left = le_or_l a b in let right = le_or_r a b in (omega (arith, left, none), omega (arith, right, none))

or-zeros : (a b : ℕ) → a ≡ 0 → b ≡ 0 → bit_or a b ≡ 0
or-zeros a b first second = rw (first, second) refl

is-test : (a : ℕ) → a ≡ 0 → eqb a 0 ≡ true
is-test a none = rw none refl

pub loop-index-preserved : goal.loop-index-preserved
loop-index-preserved c =
    let here : ℕ = slice_index c.args.bytes.now c.loop-index.index in record {
      all_zero = λ none k below.
          let both = both-zero c.loop-index.ones here none in elim (cases_lt k c.loop-index.index) [
            | inl before ↦ c.loop-index.invariant.all_zero both.0 k before
            | inr last ↦ let same : k ≡ c.loop-index.index = omega (arith, below, last) in rw same both.1
          ];
      no_ones = λ all. or-zeros c.loop-index.ones here (c.loop-index.invariant.no_ones (λ k before. all k (omega (arith, before)))) (all c.loop-index.index (omega arith));
    }

pub returns : goal.returns
returns c = (
  λ none k within. c.loop-index.invariant.all_zero (eqb-true c.loop-index.ones 0 none) k (omega (arith, within, c.loop-index-test.false)),
  λ all. is-test c.loop-index.ones (c.loop-index.invariant.no_ones (λ k before. all k (omega (arith, before, c.loop-index.auto.index-end)))),
)
