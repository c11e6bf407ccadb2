-- The limit of a block, and the lowest level of a store.
use Rattle.std.proofs.Common.{◌≡◌, ◌∙◌, sym, ℕ, ◌+◌, ◌^◌, ◌<◌, ◌≤◌, min, Some, None, inl, inr, arith}
use Rattle.std.proofs.lemmas.Bool.{cases_lt}
use Rattle.std.proofs.lemmas.Bool.Decides.{nat_tests}
use Rattle.std.proofs.Math.Pow.{pow_mono}
use Rattle.cola_layout.specs.Geometry.{IsBottom, AreKeys, IsBlock, Refuses}
use Rattle.cola_layout.specs.declared.fault.LayoutFault.{LayoutFault}
use Rattle.cola_layout.specs.declared.fault.LayoutFault.TheVariants.{Keys, Block}
use Rattle.cola_words.specs.Sizes.{SuitStore, block_limit, block_exp_for}

limit_5 : (keys : ℕ) → keys ≤ 32 → block_limit keys ≡ 5
limit_5 keys most = grind (arith, nat_tests)

limit_6 : (keys : ℕ) → 32 < keys → keys ≤ 64 → block_limit keys ≡ 6
limit_6 keys least most = grind (arith, nat_tests)

limit_7 : (keys : ℕ) → 64 < keys → keys ≤ 128 → block_limit keys ≡ 7
limit_7 keys least most = grind (arith, nat_tests)

limit_8 : (keys : ℕ) → 128 < keys → keys ≤ 256 → block_limit keys ≡ 8
limit_8 keys least most = grind (arith, nat_tests)

limit_9 : (keys : ℕ) → 256 < keys → block_limit keys ≡ 9
limit_9 keys least = grind (arith, nat_tests)

-- the smaller of 9 and the number of the lowest level plus 2
pub limit_of_levels : (keys bottom : ℕ) → IsBottom keys bottom → block_limit keys ≡ min 9 (bottom + 2)
limit_of_levels keys bottom is =
    elim (cases_lt 3 bottom) [
      | inr three ↦
          let level : bottom ≡ 3 = omega (arith, is.three) in
          let most : keys ≤ 32 = rw level at is.holds in
          rw level (limit_5 keys most)
      | inl deep ↦ elim (cases_lt 4 bottom) [
        | inr four ↦
            let level : bottom ≡ 4 = omega arith in
            let least : 32 < keys = rw level at (is.least deep) in
            let most : keys ≤ 64 = rw level at is.holds in
            rw level (limit_6 keys least most)
        | inl deeper ↦ elim (cases_lt 5 bottom) [
          | inr five ↦
              let level : bottom ≡ 5 = omega arith in
              let least : 64 < keys = rw level at (is.least deep) in
              let most : keys ≤ 128 = rw level at is.holds in
              rw level (limit_7 keys least most)
          | inl deepest ↦ elim (cases_lt 6 bottom) [
            | inr six ↦
                let level : bottom ≡ 6 = omega arith in
                let least : 128 < keys = rw level at (is.least deep) in
                let most : keys ≤ 256 = rw level at is.holds in
                rw level (limit_8 keys least most)
            | inl seven ↦
                let grows : 2 ^ 8 ≤ 2 ^ (bottom + 1) = pow_mono {i = 8} {j = bottom + 1} (omega arith) in
                let least : 2 ^ (bottom + 1) < keys = is.least deep in
                let limit : block_limit keys ≡ 9 = limit_9 keys (omega arith) in
                omega arith
          ]
        ]
      ]
    ]

-- sizes that a store may have
pub sizes_suit : (keys block bottom : ℕ) → AreKeys keys → IsBottom keys bottom → IsBlock block bottom → Some block ≡ block_exp_for keys block
sizes_suit keys block bottom are is fits =
    let limit = limit_of_levels keys bottom is in
    let some : 1 ≤ keys = are.some in
    let few : keys ≤ 2 ^ 24 = are.few in
    let group : 3 ≤ block = fits.group in
    let within : block ≤ block_limit keys = omega (arith, limit, fits.fits) in
    grind (arith, nat_tests)

-- sizes that no store has
pub sizes_refused : (keys block : ℕ) (fault : LayoutFault) → Refuses keys block fault → None ≡ block_exp_for keys block
sizes_refused keys block Keys (inl none) = grind (arith, nat_tests)
sizes_refused keys block Keys (inr many) = grind (arith, nat_tests)
sizes_refused keys block Block (are, (bottom, is, inl small)) = grind (arith, nat_tests)
sizes_refused keys block Block (are, (bottom, is, inr large)) =
    let limit = limit_of_levels keys bottom is in
    let above : block_limit keys < block = omega (arith, limit) in
    grind (arith, nat_tests)

-- nothing speaks against sizes that a geometry has
pub suit_store : (keys block bottom : ℕ) → AreKeys keys → IsBottom keys bottom → IsBlock block bottom → SuitStore keys block
suit_store keys block bottom are is fits fault refused = absurd (differ (sizes_suit keys block bottom are is fits ∙ sym (sizes_refused keys block fault refused)))
  where
    differ : Some block ≡ None → ⊥
    differ e = cc
