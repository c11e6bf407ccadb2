-- The geometry of a store: how many levels it has for its keys, and how large its blocks may be.
use Rattle.std.specs.Prelude.{◌≡◌, ℕ, ◌+◌, ◌^◌, ◌<◌, ◌≤◌, min, ◌⊎◌}
use Rattle.cola_layout.specs.declared.fault.LayoutFault.{LayoutFault}
use Rattle.cola_layout.specs.declared.fault.LayoutFault.TheVariants.{Keys, Block}

-- `bottom` is the lowest level of a store for so many keys: the larger of 3 and the logarithm of the keys to the base 2,
-- rounded up, less 2
pub record IsBottom (keys bottom : ℕ) : Type 0 where
  pub three : 3 ≤ bottom
  pub holds : keys ≤ 2 ^ (bottom + 2)
  pub least : 3 < bottom → 2 ^ (bottom + 1) < keys

-- a store may be for so many keys
pub record AreKeys (keys : ℕ) : Type 0 where
  pub some : 1 ≤ keys
  pub few : keys ≤ 2 ^ 24

-- a block of 2^block_exp cells suits a store with this lowest level
pub record IsBlock (block_exp bottom : ℕ) : Type 0 where
  pub group : 3 ≤ block_exp
  pub fits : block_exp ≤ min 9 (bottom + 2)

-- why there is no geometry: the keys are none or too many, or else the block does not suit their lowest level
abbrev pub Refuses : ℕ → ℕ → LayoutFault → Type 0
Refuses keys block_exp Keys = (keys ≡ 0) ⊎ (2 ^ 24 < keys)
Refuses keys block_exp Block =
    AreKeys keys × ((bottom : ℕ) × IsBottom keys bottom × ((block_exp < 3) ⊎ (min 9 (bottom + 2) < block_exp)))
