-- What several levels have of the key that they passed last, and how it is counted.
use Rattle.std.specs.Prelude.{ℕ, ◌+◌, ◌^◌, ◌≤◌, ◌<◌, cond, List, [], ◌∷◌, ⊤}
use Rattle.cola_cell.specs.declared.cell.Item.{Item}
use Rattle.cola_cell.specs.declared.cell.Item.TheVariants.{Value, Tombstone}
use Rattle.cola_check.specs.declared.walk.Found.{Found}
use Rattle.cola_check.specs.declared.walk.Found.TheVariants as found
use Rattle.cola_check.specs.declared.level_walks.LevelWalks.{LevelWalks}
use Rattle.cola_check.specs.declared.tally.Said.{Said}
use Rattle.cola_check.specs.declared.tally.Said.TheVariants.{Nothing, Gone, Live}
use Rattle.cola_check.specs.declared.tally.LiveCount.{LiveCount}

-- what an item says of its key
abbrev pub said_of_item : Item → Said
said_of_item (Value value stamp) = Live stamp
said_of_item Tombstone = Gone

-- the same of what was found of it
abbrev pub said_of : Found → Said
said_of found.Nothing = Nothing
said_of (found.Old item) = said_of_item item
said_of (found.Young item) = said_of_item item

-- the first of two that says something
abbrev pub said_or : Said → Said → Said
said_or Nothing below = below
said_or Gone below = Gone
said_or (Live stamp) below = Live stamp

-- one where the key is live
abbrev pub live_one : Said → ℕ
live_one Nothing = 0
live_one Gone = 0
live_one (Live stamp) = 1

-- a live stamp is not above this number
abbrev pub IsWithin : ℕ → Said → Type 0
IsWithin last Nothing = ⊤
IsWithin last Gone = ⊤
IsWithin last (Live stamp) = stamp ≤ last

-- what the visible runs have of the key, from the first level down
abbrev pub visible_said : List LevelWalks → Said
visible_said [] = Nothing
visible_said (level ∷ levels) = said_or level.visible.said (visible_said levels)

-- what the shadow of the first level has of the key, and else the runs that lie below it
abbrev pub shadow_said : List LevelWalks → Said
shadow_said [] = Nothing
shadow_said (level ∷ levels) = said_or level.shadow.said (cond level.odd (shadow_said levels) (visible_said levels))

-- counts of nothing
abbrev pub no_count : LiveCount
no_count = record { visible = 0; shadow = 0 }

-- counts that may rise by one
pub record HasRoom (count : LiveCount) : Type 0 where
  pub visible : count.visible + 1 < 2 ^ 64
  pub shadow : count.shadow + 1 < 2 ^ 64

-- a level's counts with the key that was passed, by the levels from it down
abbrev pub added : LiveCount → List LevelWalks → LiveCount
added count levels = record { visible = count.visible + live_one (visible_said levels); shadow = count.shadow + live_one (shadow_said levels) }

-- the same of each level
abbrev pub counted : List LiveCount → List LevelWalks → List LiveCount
counted [] levels = []
counted (count ∷ counts) [] = count ∷ counts
counted (count ∷ counts) (level ∷ levels) = added count (level ∷ levels) ∷ counted counts levels
