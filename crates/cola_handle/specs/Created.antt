-- How many bytes a store takes, and what making one in lent bytes answers and leaves.
use Rattle.std.specs.Prelude.{◌≡◌, ◌≢◌, ◌⊎◌, ℕ, ◌<◌, ◌≤◌, List, length, drop, replicate, Option, Some, None}
use Rattle.cola_cell.specs.declared.format.Format.{Format}
use Rattle.cola_layout.specs.declared.fault.LayoutFault.{LayoutFault}
use Rattle.cola_layout.specs.Geometry.{Refuses}
use Rattle.cola_layout.specs.Header.{version_of}
use Rattle.cola_opening.specs.Judged.{file_size}
use Rattle.cola_spec.specs.Map.{empty_map}
use Rattle.cola_image.specs.Standing.{HeaderStandsFor}
use Rattle.cola_store.specs.Create.{new_header, Suits}
use Rattle.cola_handle.specs.declared.answer.Answer.{Answer}
use Rattle.cola_handle.specs.declared.answer.Answer.TheVariants.{Done, Options, NotEmpty, Small}

-- a store of this version for so many keys with these blocks has this format and this lowest level
pub record HasSizes (keys block_exp version : ℕ) (format : Format) (bottom : ℕ) : Type 0 where
  pub version_is : version ≡ version_of format
  pub suits : Suits keys block_exp bottom

-- why there is no such store: the version is that of no format, or the keys or the block are refused
abbrev pub LacksSizes : (keys block_exp version : ℕ) → Type 0
LacksSizes keys block_exp version = ((format : Format) → version ≢ version_of format) ⊎ ((fault : LayoutFault) × Refuses keys block_exp fault)

-- every byte is zero
abbrev pub AreZero : List ℕ → Type 0
AreZero bytes = bytes ≡ replicate (length bytes) 0

module _ (keys block_exp version : ℕ) where
  -- there is such a store, and this holds of the number of bytes that it takes
  abbrev pub Takes : (ℕ → Type 0) → Type 0
  Takes P = (format : Format) × (bottom : ℕ) × HasSizes keys block_exp version format bottom × P (file_size format bottom)

  -- how many bytes such a store takes, and none where there is no such store
  abbrev pub HasSize : Option ℕ → Type 0
  HasSize (Some size) = Takes (λ bytes. size ≡ bytes)
  HasSize None = LacksSizes keys block_exp version

  module _ (before now : List ℕ) where
    -- there were zero bytes, enough for the store; by the header of a closed store with no keys they stand for the empty map,
    -- and all behind the header is zero still
    pub record IsMade : Type 0 where
      pub format : Format
      pub bottom : ℕ
      pub sizes : HasSizes keys block_exp version format bottom
      pub enough : file_size format bottom ≤ length before
      pub was_zero : AreZero before
      pub stands : HeaderStandsFor (new_header format keys block_exp bottom) now empty_map
      pub as_many : length now ≡ length before
      pub zero_behind : AreZero (drop 512 now)

    -- what making a store answers, and what it leaves of the bytes
    abbrev pub Creates : Answer → Type 0
    Creates Done = IsMade
    Creates Options = LacksSizes keys block_exp version × (now ≡ before)
    Creates Small = Takes (λ size. length before < size) × (now ≡ before)
    Creates NotEmpty = Takes (λ size. size ≤ length before) × (AreZero before → ⊥) × (now ≡ before)
    Creates _ = ⊥
