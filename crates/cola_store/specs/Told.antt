-- What an open store tells of a level: how far its runs are filled.
use Rattle.std.specs.Prelude.{ℕ, ◌+◌, ◌^◌, Option, option_map, slice_get}
use Rattle.cola_level.specs.declared.level.Level.{Level}
use Rattle.cola_store.specs.declared.told.LevelInfo.{LevelInfo}
use Rattle.cola_store.specs.Store.{Stored}

-- the lengths of a level's visible run and of its shadow, and that of the slots in which they stand
abbrev pub level_told : ℕ → Level → LevelInfo
level_told number level = record { visible = level.visible; shadow = level.shadow; room = 2 ^ (number + 2) }

-- what is told of the level of this number, and none where there is no such level
abbrev pub level_of : {D : Type 0} → Stored D → ℕ → Option LevelInfo
level_of store number = option_map (level_told number) (slice_get store.chain.levels number)
