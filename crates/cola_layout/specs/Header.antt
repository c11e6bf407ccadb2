-- The header of a store: what it says, which headers there are, and their bytes.
use Rattle.std.specs.Prelude.{◌≡◌, ℕ, ◌+◌, ◌-◌, ◌*◌, ◌^◌, ◌<◌, ◌≤◌, Bool, if◌then◌else◌, List, [], ◌∷◌, ◌++◌, length, replicate, flat_map, codes}
use Rattle.byteorder.specs.Endian.{little_bytes}
use Rattle.cola_cell.specs.declared.format.Format.{Format}
use Rattle.cola_cell.specs.declared.format.Format.TheVariants.{One, Two}
use Rattle.cola_cell.specs.Format.{stamp_limit}
use Rattle.cola_layout.specs.Geometry.{AreKeys, IsBottom, IsBlock}
use Rattle.cola_layout.specs.declared.marks.Marks.{Marks}
use Rattle.cola_layout.specs.Marks.{AreMarks}

-- what a header says
pub record Fields : Type 0 where
  pub format : Format
  pub block_exp : ℕ
  pub bottom : ℕ
  pub closed : Bool
  pub keys : ℕ
  pub count : ℕ
  pub clock : ℕ
  pub last : ℕ
  pub levels : List Marks

-- the rules of a header
pub record IsSound (f : Fields) : Type 0 where
  -- a store is for 1 to 2^24 keys
  pub keys_in_range : AreKeys f.keys
  -- it has as many levels as its keys ask for
  pub bottom_fits : IsBottom f.keys f.bottom
  -- a block has 2^3 to 2^9 cells, and at most as many as a slot of the lowest level
  pub block_fits : IsBlock f.block_exp f.bottom
  -- it has no more keys than it is for
  pub count_fits : f.count ≤ f.keys
  -- the clock counts modulo the period of the level below the bottom
  pub clock_fits : f.clock < 2 ^ (f.bottom + 1)
  -- the last number is 0 in format One, and at most 2^63 in format Two
  pub last_fits : f.last ≤ stamp_limit f.format
  -- each level has its marks
  pub one_each : length f.levels ≡ f.bottom + 1
  -- and marks that it may have
  pub marks_fit : AreMarks f.clock f.levels

-- the version of a format
abbrev pub version_of : Format → ℕ
version_of One = 1
version_of Two = 2

-- the bytes 0 to 47. Numbers are little-endian
unfoldable pub head_bytes : Fields → List ℕ
head_bytes f =
    -- 0 to 7: the name
    codes "COLASTOR"
    -- 8 to 11: the version
    ++ little_bytes 4 (version_of f.format)
    -- 12: the exponent of a block's cells; 13: the lowest level; 14: 0 closed, 1 open; 15: zero
    ++ (f.block_exp ∷ f.bottom ∷ (if f.closed then 0 else 1) ∷ 0 ∷ [])
    -- 16 to 23: the keys that the store is for
    ++ little_bytes 8 f.keys
    -- 24 to 31: the keys that it has
    ++ little_bytes 8 f.count
    -- 32 to 39: the clock
    ++ little_bytes 8 f.clock
    -- 40 to 47: the last number
    ++ little_bytes 8 f.last

-- the 20 bytes of a level's marks
unfoldable pub marks_bytes : Marks → List ℕ
marks_bytes m =
    little_bytes 4 m.visible ++ little_bytes 4 m.shadow ++ little_bytes 4 m.own ++ little_bytes 4 m.incoming ++ little_bytes 4 m.sample

-- all 512 bytes: the head, the marks of level j from byte 48 + 20j on, and zeros behind them
abbrev pub header_bytes : Fields → List ℕ
header_bytes f = head_bytes f ++ (flat_map marks_bytes f.levels ++ replicate (464 - 20 * length f.levels) 0)

-- the bytes spell the header
pub record IsSpelling (f : Fields) (bytes : List ℕ) : Type 0 where
  pub text : bytes ≡ header_bytes f
  pub sound : IsSound f

-- the bytes are the spelling of no header
abbrev pub IsNoSpelling : List ℕ → Type 0
IsNoSpelling bytes = (f : Fields) → ¬ IsSpelling f bytes
