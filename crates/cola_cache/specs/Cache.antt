-- What a cache over a device is to its caller.
use Rattle.std.specs.Prelude.{◌≡◌, ℕ, ◌+◌, ◌-◌, ◌*◌, ◌/◌, ◌%◌, ◌==◌, if◌then◌else◌, List, ◌∷◌, take, Option}
use Rattle.cola_device.specs.Bytes.{part, splice, Gives}
use Rattle.cola_outside.specs.Told.{Both}
use Rattle.cola_cache.specs.Order.{Frames, Holds, outside}

-- the device, the whole blocks that are held, the most recently used first, how many may be, and the bytes of a block
pub record Cache (D : Type 0) : Type 0 where
  pub device : D
  pub held : List ℕ
  pub blocks : ℕ
  pub size : ℕ

-- what no call changes: how many blocks may be held, the bytes of a block, and what the device keeps
pub record Settings (K : Type 0) : Type 0 where
  pub blocks : ℕ
  pub size : ℕ
  pub device : K

-- the bytes of each held block are the device's, where it tells them
abbrev pub Agree : Option (List ℕ) → Frames → List ℕ → ℕ → Type 0
Agree told frames copies size =
    (frame block : ℕ) → Holds frames frame block → Gives told (block * size) (part copies (frame * size) size)

-- a range is exactly this block
abbrev pub IsBlock : ℕ → ℕ → ℕ → ℕ → Type 0
IsBlock size at count block = (at ≡ block * size) × (count ≡ size)

-- a block goes to the front, and where that makes too many the last is given up
abbrev pub used : ℕ → ℕ → List ℕ → List ℕ
used blocks block held = take blocks (block ∷ outside block (block + 1) held)

-- how many blocks a range lies in, whole or in part, from the block of its first byte on
abbrev pub blocks_touched : ℕ → ℕ → ℕ → ℕ
blocks_touched size at count = if count == 0 then 0 else (at % size + count - 1) / size + 1

-- the blocks that a range does not touch
abbrev pub untouched : ℕ → ℕ → ℕ → List ℕ → List ℕ
untouched size at count = outside (at / size) (at / size + blocks_touched size at count)

-- what a write that is carried out leaves
abbrev pub IsWritten : ℕ → List ℕ → Option (List ℕ) → Option (List ℕ) → Type 0
IsWritten at new told now = Both told now (λ before after. after ≡ splice before at new)
