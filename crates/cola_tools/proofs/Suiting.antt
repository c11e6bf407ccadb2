-- A geometry says that a store can be for its keys with its blocks, in either format.
use Rattle.std.proofs.Common.{◌≡◌, ℕ, subst}
use Rattle.cola_layout.specs.declared.geometry.Geometry.{Geometry}
use Rattle.cola_layout.specs.Geometry.{AreKeys, IsBottom, IsBlock}
use Rattle.cola_layout.proofs.Powers.{bottom-is_one}
use Rattle.cola_load.specs.Grow.{Suits}

pub suiting : (geometry : Geometry) (keys block_exp : ℕ) → geometry.keys ≡ keys → geometry.block_exp ≡ block_exp → AreKeys keys × Suits keys block_exp
suiting geometry keys block_exp keys-are block-is = (
  subst AreKeys keys-are geometry.keys_in_range,
  λ bottom is.
      let same : geometry.bottom ≡ bottom = bottom-is_one keys geometry.bottom bottom (subst (λ (n : ℕ). IsBottom n geometry.bottom) keys-are geometry.bottom_fits) is in
      subst (λ (n : ℕ). IsBlock n bottom) block-is (subst (λ (n : ℕ). IsBlock geometry.block_exp n) same geometry.block_fits),
)
