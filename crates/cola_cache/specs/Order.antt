-- The frames of a cache in the order of their last use, and the blocks that they hold.
use Rattle.std.specs.Prelude.{◌≡◌, ℕ, zero, suc, ◌+◌, ◌<◌, Bool, ◌≢◌, ◌&&◌, nat_eq, nat_lt, nat_le, cond, List, [], ◌∷◌, Option, Some, None, ⊤}
use Rattle.std.specs.Map.{lookup}

-- frames and what each holds, the most recently used first: a block, or none
abbrev pub Frames : Type 0
Frames = List (ℕ × Option ℕ)

-- one block more, where there is one
abbrev pub with_block : Option ℕ → List ℕ → List ℕ
with_block None blocks = blocks
with_block (Some block) blocks = block ∷ blocks

-- the blocks that frames hold, in the order of the frames
abbrev pub blocks_of : Frames → List ℕ
blocks_of [] = []
blocks_of (entry ∷ entries) = with_block entry.1 (blocks_of entries)

-- a frame holds a block
abbrev pub Holds : Frames → ℕ → ℕ → Type 0
Holds entries frame block = lookup (nat_eq frame) entries ≡ Some (Some block)

-- whether a block is one of those from `first` on and before `end`
abbrev pub is_within : ℕ → ℕ → ℕ → Bool
is_within first end block = nat_le first block && nat_lt block end

-- the blocks that are not among those from `first` on and before `end`
abbrev pub outside : ℕ → ℕ → List ℕ → List ℕ
outside first end [] = []
outside first end (block ∷ blocks) = cond (is_within first end block) (outside first end blocks) (block ∷ outside first end blocks)

-- the other blocks
abbrev pub without : ℕ → List ℕ → List ℕ
without block = outside block (block + 1)

-- a block is none of these
abbrev pub IsAbsent : ℕ → List ℕ → Type 0
IsAbsent block [] = ⊤
IsAbsent block (other ∷ others) = (other ≢ block) × IsAbsent block others

-- a frame is none of these
abbrev pub IsFree : ℕ → Frames → Type 0
IsFree frame [] = ⊤
IsFree frame (entry ∷ entries) = (entry.0 ≢ frame) × IsFree frame entries

-- behind a frame that holds none, none holds a block; a block is held but once
abbrev pub Precedes : Option ℕ → Frames → Type 0
Precedes None entries = blocks_of entries ≡ []
Precedes (Some block) entries = IsAbsent block (blocks_of entries)

-- no frame stands twice, no block is held twice, and the frames that hold none come last
abbrev pub IsOrder : Frames → Type 0
IsOrder [] = ⊤
IsOrder (entry ∷ entries) = IsFree entry.0 entries × (Precedes entry.1 entries × IsOrder entries)

-- every frame has a number below this
abbrev pub AreBelow : ℕ → Frames → Type 0
AreBelow count [] = ⊤
AreBelow count (entry ∷ entries) = (entry.0 < count) × AreBelow count entries

-- so many frames that hold no block
abbrev pub unheld : ℕ → Frames
unheld zero = []
unheld (suc count) = (count, None) ∷ unheld count
