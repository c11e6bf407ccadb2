-- A store that suits has keys and blocks as its geometry asks.
use Rattle.std.proofs.Common.{inl, inr, ℕ, ◌+◌, ◌^◌, min, arith}
use Rattle.std.proofs.lemmas.Bool.{cases_lt}
use Rattle.cola_layout.specs.declared.fault.LayoutFault.TheVariants.{Keys, Block}
use Rattle.cola_layout.specs.Geometry.{AreKeys}
use Rattle.cola_words.specs.Sizes.{SuitStore}
use Rattle.cola_load.specs.Grow.{Suits}

pub suits-keys : (keys block_exp : ℕ) → SuitStore keys block_exp → AreKeys keys
suits-keys keys block_exp suit = record {
  some = elim (cases_lt 0 keys) [
    | inl some ↦ omega (arith, some)
    | inr none ↦ absurd (suit Keys (inl (omega (arith, none))))
  ];
  few = elim (cases_lt (2 ^ 24) keys) [
    | inl many ↦ absurd (suit Keys (inr many))
    | inr few ↦ omega (arith, few)
  ];
}

pub suits-block : (keys block_exp : ℕ) → SuitStore keys block_exp → Suits keys block_exp
suits-block keys block_exp suit bottom is = record {
  group = elim (cases_lt block_exp 3) [
    | inl small ↦ absurd (suit Block (suits-keys keys block_exp suit, (bottom, is, inl small)))
    | inr group ↦ omega (arith, group)
  ];
  fits = elim (cases_lt (min 9 (bottom + 2)) block_exp) [
    | inl large ↦ absurd (suit Block (suits-keys keys block_exp suit, (bottom, is, inr large)))
    | inr fits ↦ omega (arith, fits)
  ];
}
