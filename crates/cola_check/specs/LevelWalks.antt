-- Walks over the runs of several levels: how they begin, stand and pass a key.
use Rattle.std.specs.Prelude.{◌≡◌, ◌≢◌, ℕ, suc, ◌+◌, ◌≤◌, ◌<◌, List, [], ◌∷◌, Option, None, Some, IfSome, Result, Ok, Err, ⊤}
use Rattle.std.specs.List.{AllByRecursion}
use Rattle.arrayvec.specs.declared.array_vec.ArrayVec.{ArrayVec}
use Rattle.cola_cell.specs.declared.cell.Run.{Run}
use Rattle.cola_cell.specs.declared.cell.Reader.{Reader}
use Rattle.cola_cell.specs.declared.cell.Reader.TheVariants.{Own, Incoming}
use Rattle.cola_cell.specs.declared.fault.ReadFault.{ReadFault}
use Rattle.cola_cell.specs.Held.{Held}
use Rattle.cola_cell.specs.Spent.{By}
use Rattle.cola_cell.specs.State.{State}
use Rattle.cola_look.specs.Runs.{HasRun}
use Rattle.cola_cell.specs.ToldCells.{run_cells}
use Rattle.cola_check.specs.declared.walk.Found.{Found}
use Rattle.cola_check.specs.declared.walk.Walk.{Walk}
use Rattle.cola_check.specs.declared.tally.Said.{Said}
use Rattle.cola_check.specs.declared.level_walks.LevelRuns.{LevelRuns}
use Rattle.cola_check.specs.declared.level_walks.LevelWalks.{LevelWalks}
use Rattle.cola_check.specs.Beside.{IsInOrder}
use Rattle.cola_check.specs.Blocks.{run_blocks}
use Rattle.cola_check.specs.Walks.{WalkFits, IsReady, unread, ahead, walk_blocks, Begins, Passes}
use Rattle.cola_check.specs.Chains.{LevelCells}
use Rattle.cola_check.specs.Tally.{said_of}

-- the level's runs are runs of the object
pub record HasLevel (held : Held) (level : LevelRuns) : Type 0 where
  pub visible : HasRun held level.visible
  pub shadow : IfSome level.shadow (HasRun held)

-- the shadow of a level, and an empty run where there is none
abbrev pub shadow_or_none : Option Run → Run → Run
shadow_or_none None visible = record { level = visible.level; slot = visible.slot; len = 0 }
shadow_or_none (Some run) visible = run

abbrev pub shadow_run : LevelRuns → Run
shadow_run level = shadow_or_none level.shadow level.visible

-- the runs with a shadow before them, if there is one
abbrev pub with_shadow : Option Run → List Run → List Run
with_shadow None runs = runs
with_shadow (Some run) runs = run ∷ runs

-- all runs of the levels
abbrev pub runs_of : List LevelRuns → List Run
runs_of [] = []
runs_of (level ∷ levels) = level.visible ∷ with_shadow level.shadow (runs_of levels)

-- how many cells they have
abbrev pub cells_in : List Run → ℕ
cells_in [] = 0
cells_in (run ∷ runs) = run.len + cells_in runs

-- all runs of the levels are told, and their cells rise
abbrev pub AreRunsInOrder : Held → List LevelRuns → Type 0
AreRunsInOrder held levels = AllByRecursion (IsInOrder held) (runs_of levels)

-- the runs of a level as lists of cells
abbrev pub cells_of : Held → LevelRuns → LevelCells
cells_of held level = record { visible = run_cells held level.visible; shadow = run_cells held (shadow_run level); odd = level.odd }

-- the walks over the runs of levels, and these runs
abbrev pub walks_in : List LevelWalks → List Walk
walks_in [] = []
walks_in (level ∷ levels) = level.visible.walk ∷ level.shadow.walk ∷ walks_in levels

abbrev pub runs_in : List LevelWalks → List Run
runs_in [] = []
runs_in (level ∷ levels) = level.visible.walk.run ∷ level.shadow.walk.run ∷ runs_in levels

-- the walks of a level stand in runs of the object
pub record LevelFits (held : Held) (level : LevelWalks) : Type 0 where
  pub visible : WalkFits held level.visible.walk
  pub shadow : WalkFits held level.shadow.walk

-- the walks of a level have read their next cells
pub record IsLevelReady (level : LevelWalks) : Type 0 where
  pub visible : IsReady level.visible.walk
  pub shadow : IsReady level.shadow.walk

-- how many cells the walks have still to read, and to pass
abbrev pub level_unread : LevelWalks → ℕ
level_unread level = unread level.visible.walk + unread level.shadow.walk

abbrev pub all_unread : List LevelWalks → ℕ
all_unread [] = 0
all_unread (level ∷ levels) = level_unread level + all_unread levels

abbrev pub all_ahead : List LevelWalks → ℕ
all_ahead [] = 0
all_ahead (level ∷ levels) = ahead level.visible.walk + ahead level.shadow.walk + all_ahead levels

-- what is still to read after a call: nothing is asked of a refused one
abbrev pub unread_level_begun : Result LevelWalks ReadFault → ℕ
unread_level_begun (Ok level) = level_unread level
unread_level_begun (Err fault) = 0

abbrev pub all_unread_begun : Result (ArrayVec LevelWalks 23 Unit) ReadFault → ℕ
all_unread_begun (Ok levels) = all_unread levels.items
all_unread_begun (Err fault) = 0

abbrev pub level_unread_after : {T : Type 0} → LevelWalks → Result T ReadFault → ℕ
level_unread_after level (Ok answer) = level_unread level
level_unread_after level (Err fault) = 0

abbrev pub all_unread_after : {T : Type 0} → List LevelWalks → Result T ReadFault → ℕ
all_unread_after levels (Ok answer) = all_unread levels
all_unread_after levels (Err fault) = 0

-- this holds of each element of one list and the one beside it in another
abbrev pub Each : {X Y : Type 0} → (X → Y → Type 0) → List X → List Y → Type 0
Each R [] [] = ⊤
Each R [] (y ∷ ys) = ⊥
Each R (x ∷ xs) [] = ⊥
Each R (x ∷ xs) (y ∷ ys) = R x y × Each R xs ys

-- walks before the first cells of a level's runs
pub record BeginsLevel (held : Held) (level : LevelRuns) (walks : LevelWalks) : Type 0 where
  pub visible : Begins held level.visible Own walks.visible.walk
  pub shadow : Begins held (shadow_run level) Incoming walks.shadow.walk
  pub odd_is : walks.odd ≡ level.odd

-- a walk passed the cells of a key, and this is what its run says of the key there
pub record Hears (held : Held) (key : List ℕ) (old new : Walk) (said : Said) : Type 0 where
  pub found : Found
  pub passes : Passes held key old new found
  pub said_is : said ≡ said_of found

-- the walks of a level passed the cells of a key
pub record PassesLevel (held : Held) (key : List ℕ) (old new : LevelWalks) : Type 0 where
  pub visible : Hears held key old.visible.walk new.visible.walk new.visible.said
  pub shadow : Hears held key old.shadow.walk new.shadow.walk new.shadow.said
  pub odd_is : new.odd ≡ old.odd

-- ---- blocks

-- the runs of a level stand at this level
pub record StandsAt (n : ℕ) (level : LevelRuns) : Type 0 where
  pub visible : level.visible.level ≡ n
  pub shadow : (shadow_run level).level ≡ n

-- the runs of levels stand at neighbouring levels, from this one on
abbrev pub StandFrom : ℕ → List LevelRuns → Type 0
StandFrom n [] = ⊤
StandFrom n (level ∷ levels) = StandsAt n level × StandFrom (suc n) levels

-- at most how many blocks are turned to for the runs of a level, and of levels
abbrev pub blocks_at : Held → LevelRuns → ℕ
blocks_at held level = run_blocks held level.visible + run_blocks held (shadow_run level)

abbrev pub blocks_of : Held → List LevelRuns → ℕ
blocks_of held [] = 0
blocks_of held (level ∷ levels) = blocks_at held level + blocks_of held levels

-- the walks over the runs of this level, each by a reader of its own
pub record ReadsAt (n : ℕ) (level : LevelWalks) : Type 0 where
  pub visible_by : level.visible.walk.reader ≡ Own
  pub visible_at : level.visible.walk.run.level ≡ n
  pub shadow_by : level.shadow.walk.reader ≡ Incoming
  pub shadow_at : level.shadow.walk.run.level ≡ n

-- the same of neighbouring levels, from this one on
abbrev pub ReadFrom : ℕ → List LevelWalks → Type 0
ReadFrom n [] = ⊤
ReadFrom n (level ∷ levels) = ReadsAt n level × ReadFrom (suc n) levels

-- the blocks that the walks of a level have still to turn to, and those of levels
abbrev pub level_left : State → LevelWalks → ℕ
level_left object level = walk_blocks object level.visible.walk + walk_blocks object level.shadow.walk

abbrev pub all_left : State → List LevelWalks → ℕ
all_left object [] = 0
all_left object (level ∷ levels) = level_left object level + all_left object levels

-- the walks of this level went on: the object turned to no more blocks than lie between, and no buffer of another level changed
pub record LevelReadsOn (old new : State) (n : ℕ) (walks now : LevelWalks) : Type 0 where
  pub blocks : new.spent.turned + level_left new now ≤ old.spent.turned + level_left old walks
  pub others_stay : (reader : Reader) (level : ℕ) → level ≢ n →
      new.spent.lasts (By reader level) ≡ old.spent.lasts (By reader level)

-- the same of levels, from this one on
pub record AllReadOn (old new : State) (n : ℕ) (walks now : List LevelWalks) : Type 0 where
  pub blocks : new.spent.turned + all_left new now ≤ old.spent.turned + all_left old walks
  pub others_stay : (reader : Reader) (level : ℕ) → level < n →
      new.spent.lasts (By reader level) ≡ old.spent.lasts (By reader level)

-- the walks over the runs of this level begun: with what they have still to turn to they take no more blocks than these fill,
-- and no buffer of another level changed
pub record LevelBegan (old new : State) (n : ℕ) (level : LevelRuns) (walks : LevelWalks) : Type 0 where
  pub blocks : new.spent.turned + level_left new walks ≤ old.spent.turned + blocks_at old.held level
  pub others_stay : (reader : Reader) (other : ℕ) → other ≢ n →
      new.spent.lasts (By reader other) ≡ old.spent.lasts (By reader other)

-- the same of levels, from level 0 on
abbrev pub AllBegan : State → State → List LevelRuns → List LevelWalks → Type 0
AllBegan old new levels walks = StandFrom 0 levels → new.spent.turned + all_left new walks ≤ old.spent.turned + blocks_of old.held levels
