-- When levels that stand in slots, and when a file, stand for a map.
use Rattle.std.specs.Prelude.{◌≡◌, ℕ, suc, ◌+◌, ◌-◌, ◌*◌, ◌^◌, ◌≤◌, ◌<◌, true, List, [], ◌∷◌, ◌++◌, length, take, drop, Option, option_map, ⊤}
use Rattle.std.specs.FinMap as finite
use Rattle.cola_cell.specs.Format.{width}
use Rattle.cola_cell.specs.Held.{Stamped, Spots}
use Rattle.cola_clock.specs.Clock.{visible_slot}
use Rattle.cola_clock.specs.Marks.{Marks}
use Rattle.cola_laws.specs.Plain.{IsSoundChain}
use Rattle.cola_laws.specs.Slots.{levels_of}
use Rattle.cola_layout.specs.Header.{Fields, IsSpelling}
use Rattle.cola_layout.specs.Marks.{all_numbers}
use Rattle.cola_spec.specs.Map.{Map, IsMap, key_cmp, count}
use Rattle.cola_shapes.specs.Shapes.{stamped_of}
use Rattle.cola_shapes.specs.Shapes.{shape_of}
use Rattle.cola_cell.specs.ToldCells.{AreTold}
use Rattle.cola_layout.specs.Cells.{slot_cells, file_spots}

-- what a map has of a key, as the laws of levels have it
abbrev pub found_in : Map → List ℕ → Option Stamped
found_in m key = option_map stamped_of (finite.get m.entries key)

-- every cell of both runs of level j, and of all below it, is told
abbrev pub AreRunsTold : Spots → ℕ → ℕ → List Marks → Type 0
AreRunsTold spots t j [] = ⊤
AreRunsTold spots t j (m ∷ below) =
    AreTold (spots j (visible_slot t j)) m.visible × AreTold (spots j (1 - visible_slot t j)) m.shadow × AreRunsTold spots t (suc j) below

-- levels with these marks at a clock, whose cells are told so, stand for a map in a store for at most so many keys
pub record LevelsStandFor (most t : ℕ) (marks : List Marks) (spots : Spots) (m : Map) : Type 0 where
  pub told : AreRunsTold spots t 0 marks
  pub sound : IsSoundChain key_cmp most t (found_in m) (levels_of (slot_cells spots) t 0 marks)

-- a file with this header stands for a map: its first 512 bytes spell the header, which says that the file was closed and
-- has as many keys as the map, it has all its cells, and its levels stand for the map, which is one of its format
pub record HeaderStandsFor (header : Fields) (bytes : List ℕ) (m : Map) : Type 0 where
  pub spelled : IsSpelling header (take 512 bytes)
  pub closed : header.closed ≡ true
  pub whole : width header.format * 2 ^ (header.bottom + 4) ≤ length bytes
  pub counted : header.count ≡ count m
  pub numbered : header.last ≡ m.last
  pub is_map : IsMap (shape_of header.format header.keys) m
  pub levels : LevelsStandFor header.keys header.clock (all_numbers header.levels) (file_spots header.format bytes) m

-- a file stands for a map, by the header that its bytes spell
abbrev pub FileStandsFor : List ℕ → Map → Type 0
FileStandsFor bytes m = (header : Fields) × HeaderStandsFor header bytes m

-- a file with another state byte
abbrev pub with_state : ℕ → List ℕ → List ℕ
with_state state bytes = take 14 bytes ++ state ∷ drop 15 bytes

-- the first cells of a slot, so many, are told alike
abbrev pub IsSlotAlike : Spots → Spots → ℕ → ℕ → ℕ → Type 0
IsSlotAlike spots others level slot count = (index : ℕ) → index < count → others level slot index ≡ spots level slot index

-- every cell of both runs of level j, and of all below it, is told alike
abbrev pub AreRunsAlike : Spots → Spots → ℕ → ℕ → List Marks → Type 0
AreRunsAlike spots others t j [] = ⊤
AreRunsAlike spots others t j (m ∷ below) =
    IsSlotAlike spots others j (visible_slot t j) m.visible × IsSlotAlike spots others j (1 - visible_slot t j) m.shadow
    × AreRunsAlike spots others t (suc j) below
