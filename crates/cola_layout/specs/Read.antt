-- What stands in the bytes of a header, read where the header has it.
use Rattle.std.specs.Prelude.{◌≡◌, ℕ, zero, suc, ◌+◌, ◌-◌, ◌*◌, List, [], ◌∷◌, ◌++◌, take, drop, slice_index, replicate, codes, if◌then◌else◌}
use Rattle.byteorder.specs.Endian.{little_number, little_bytes}
use Rattle.cola_cell.specs.declared.format.Format.{Format}
use Rattle.cola_layout.specs.declared.marks.Marks.{Marks}
use Rattle.cola_layout.specs.Header.{Fields, version_of}

-- the bytes begin with the name and with the version of the format
abbrev pub HasFormat : Format → List ℕ → Type 0
HasFormat format bytes = take 12 bytes ≡ codes "COLASTOR" ++ little_bytes 4 (version_of format)

-- the marks in the first 20 bytes
unfoldable pub marks_in : List ℕ → Marks
marks_in bytes = record {
  visible = little_number 4 bytes;
  shadow = little_number 4 (drop 4 bytes);
  own = little_number 4 (drop 8 bytes);
  incoming = little_number 4 (drop 12 bytes);
  sample = little_number 4 (drop 16 bytes);
}

-- the marks of n levels, one behind the other
abbrev pub levels_in : ℕ → List ℕ → List Marks
levels_in zero bytes = []
levels_in (suc n) bytes = marks_in bytes ∷ levels_in n (drop 20 bytes)

-- the bytes name this geometry
pub record HasGeometry (format : Format) (block_exp bottom keys : ℕ) (bytes : List ℕ) : Type 0 where
  pub format_is : HasFormat format bytes
  pub block_is : block_exp ≡ slice_index bytes 12
  pub bottom_is : bottom ≡ slice_index bytes 13
  pub zero_is : slice_index bytes 15 ≡ 0
  pub keys_is : keys ≡ little_number 8 (drop 16 bytes)

-- the bytes say this, read part by part
pub record Says (f : Fields) (bytes : List ℕ) : Type 0 where
  pub geometry : HasGeometry f.format f.block_exp f.bottom f.keys bytes
  pub state : (if f.closed then 0 else 1) ≡ slice_index bytes 14
  pub count : f.count ≡ little_number 8 (drop 24 bytes)
  pub clock : f.clock ≡ little_number 8 (drop 32 bytes)
  pub last : f.last ≡ little_number 8 (drop 40 bytes)
  pub levels : f.levels ≡ levels_in (f.bottom + 1) (drop 48 bytes)

-- the bytes behind the marks of so many levels are zero
abbrev pub IsZeroBehind : ℕ → List ℕ → Type 0
IsZeroBehind levels bytes = drop (48 + 20 * levels) bytes ≡ replicate (464 - 20 * levels) 0
