-- The block that each frame holds, and the chains by which its frame is found.
use Rattle.std.specs.Prelude.{◌≡◌, ◌⊎◌, ℕ, ◌+◌, ◌*◌, ◌%◌, ◌<◌, ◌≤◌, ◌^◌, length, List, Option, Some, None, slice_index, slice_index_or, unwrap_or, nat_eq}
use Rattle.std.specs.Map.{lookup}
use Rattle.cola_cache.specs.Order.{Frames}

-- what each frame holds, by the frames' numbers: a block, or none
abbrev pub Blocks : Type 0
Blocks = List (Option ℕ)

-- the block that a frame holds
abbrev pub block_in : Blocks → ℕ → Option ℕ
block_in blocks frame = slice_index_or blocks frame None

-- the chain that a block belongs to, where there are so many frames
abbrev pub chain_of : ℕ → ℕ → ℕ
chain_of count block = block % (2 * count + 1)

-- what a frame holds belongs to this chain
abbrev pub IsIn : (ℕ → Option ℕ) → (ℕ → ℕ) → ℕ → ℕ → Type 0
IsIn held chain number frame = (block : ℕ) × (held frame ≡ Some block) × (chain block ≡ number)

-- where a chain has a link: a frame of it, or its own place, which stands behind all frames
abbrev pub IsPlace : (ℕ → Option ℕ) → (ℕ → ℕ) → ℕ → ℕ → ℕ → Type 0
IsPlace held chain count number place = (place ≡ count + number) ⊎ IsIn held chain number place

-- a link at a place leads to the next frame of the chain below it, as one more than its number, or is 0 where there is none
pub record IsLink (held : ℕ → Option ℕ) (chain : ℕ → ℕ) (number place link : ℕ) : Type 0 where
  pub down : link ≤ place
  pub misses_none : (frame block : ℕ) → held frame ≡ Some block → chain block ≡ number → frame < place → frame < link
  pub leads : (frame : ℕ) → link ≡ frame + 1 → IsIn held chain number frame

-- each chain is linked
abbrev pub AreLinked : (ℕ → Option ℕ) → (ℕ → ℕ) → ℕ → (ℕ → ℕ) → Type 0
AreLinked held chain count link = (number place : ℕ) → IsPlace held chain count number place → IsLink held chain number place (link place)

-- the same of lists: the blocks that the frames hold, and the links
pub record AreChained (blocks : Blocks) (links : List ℕ) : Type 0 where
  pub linked : AreLinked (block_in blocks) (chain_of (length blocks)) (length blocks) (slice_index links)
  pub as_many : length links ≡ 3 * length blocks + 1
  pub few : length blocks < 2 ^ 32

-- a place of the block's chain above a frame, whose link leads to the frame or past it
pub record IsAbove (blocks : Blocks) (links : List ℕ) (block frame place : ℕ) : Type 0 where
  pub is_place : IsPlace (block_in blocks) (chain_of (length blocks)) (length blocks) (chain_of (length blocks) block) place
  pub above : frame < place
  pub passes : slice_index links place ≤ frame + 1

-- the block that each frame holds is listed for it, and none for the others
abbrev pub IsIndexOf : Blocks → Frames → Type 0
IsIndexOf blocks frames = (frame : ℕ) → block_in blocks frame ≡ unwrap_or (lookup (nat_eq frame) frames) None
