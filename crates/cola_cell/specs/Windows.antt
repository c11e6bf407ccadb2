-- What a merge or a search over the bytes of an object's cells does.
use Rattle.std.specs.Prelude.{◌≡◌, ◌≢◌, ◌⊎◌, ℕ, suc, ◌+◌, ◌-◌, ◌*◌, ◌%◌, ◌≤◌, ◌<◌, ◌==◌, Bool, true, false, if◌then◌else◌, List, length, take, drop, Result, Ok, Err}
use Rattle.cola_cell.specs.declared.format.Format.{Format}
use Rattle.cola_cell.specs.declared.fault.ReadFault.{ReadFault}
use Rattle.cola_cell.specs.declared.sink.Shadow.{Shadow}
use Rattle.cola_cell.specs.Decoded.{standing, spot_of_bytes}
use Rattle.cola_cell.specs.Format.{width}
use Rattle.cola_cell.specs.Held.{Held, Tells, with_cell, as_cell, span}
use Rattle.cola_cell.specs.Places.{slot_size}
use Rattle.cola_cell.specs.Reads.{Reads}
use Rattle.cola_cell.specs.Shadows.{StaysAround}
use Rattle.cola_cell.specs.Spelling.{IsSpelling}
use Rattle.cola_cell.specs.Spent.{Buffer, Search, Ticks}
use Rattle.cola_cell.specs.State.{State}
use Rattle.cola_cell.specs.declared.windows.Reach.{Reach}
use Rattle.cola_cell.specs.declared.windows.Window.{Window}
use Rattle.cola_cell.specs.declared.windows.Passed.{Passed}

-- the bytes of three windows, and whether each run ends with its window
pub record Views : Type 0 where
  pub own : List ℕ
  pub incoming : List ℕ
  pub sample : List ℕ
  pub own_last : Bool
  pub incoming_last : Bool
  pub sample_last : Bool

abbrev pub views_of : Window → Window → Window → Views
views_of own incoming sample = record {
  own = own.bytes.now;
  incoming = incoming.bytes.now;
  sample = sample.bytes.now;
  own_last = own.is_last;
  incoming_last = incoming.is_last;
  sample_last = sample.is_last;
}

-- the bytes of a cell among those that stand one behind the other
abbrev pub cell_bytes_at : Format → ℕ → List ℕ → List ℕ
cell_bytes_at format k bytes = take (width format) (drop (k * width format) bytes)

-- so many cells are spelled, one behind the other
abbrev pub AreSpelled : Format → ℕ → List ℕ → Type 0
AreSpelled format n bytes = (k : ℕ) → k < n → IsSpelling format (standing format (cell_bytes_at format k bytes)) (cell_bytes_at format k bytes)

-- a run of the object that does not stand in the shadow of this level
pub record IsAhead (held : Held) (level : ℕ) (reach : Reach) : Type 0 where
  pub level_in : reach.run.level < held.fixed.levels
  pub slot_in : reach.run.slot < 2
  pub within : reach.run.len ≤ slot_size reach.run.level
  pub apart : (reach.run.level ≢ level) ⊎ (reach.run.slot ≢ (held.shadows level).slot)

-- the same, where a cell of it lies ahead
abbrev pub IsReach : Held → ℕ → Reach → Type 0
IsReach held level reach = reach.from < reach.run.len → IsAhead held level reach

-- a window shows the cells of a run from an index on: whole ones, in the run; and to its end, where it is the last
pub record IsShown (held : Held) (reach : Reach) (bytes : List ℕ) (is_last : Bool) : Type 0 where
  pub many : ℕ
  pub size : length bytes ≡ many * width held.fixed.format
  pub within : many ≤ reach.run.len - reach.from
  pub ends : is_last ≡ true → many ≡ reach.run.len - reach.from
  pub shows : (n : ℕ) → n < many →
      Tells (held.spots reach.run.level reach.run.slot (reach.from + n)) (spot_of_bytes held.fixed.format (cell_bytes_at held.fixed.format n bytes))

-- a shadow that is so many cells longer, and fills no block
abbrev pub grown : ℕ → Shadow → Shadow
grown count shadow = record { slot = shadow.slot; len = shadow.len + count; saved = if count == 0 then shadow.saved else false }

-- the level's shadow has these cells more, as a room spells them; it fills no block, and no other place changed
pub record Grown (old new : Held) (level : ℕ) (room : List ℕ) (count : ℕ) : Type 0 where
  pub around : StaysAround old new level
  pub shadow_is : new.shadows level ≡ grown count (old.shadows level)
  pub fits : (old.shadows level).len + count ≤ slot_size level
  pub in_block : count ≢ 0 → (old.shadows level).len % span old + count < span old
  pub spelled : AreSpelled old.fixed.format count room
  pub cells_are : (k : ℕ) → k < count → new.spots level (old.shadows level).slot ((old.shadows level).len + k)
      ≡ with_cell (old.spots level (old.shadows level).slot ((old.shadows level).len + k))
      (as_cell (standing old.fixed.format (cell_bytes_at old.fixed.format k room)))
  pub others_stay : (l s i : ℕ) → (l ≢ level) ⊎ (s ≢ (old.shadows level).slot) ⊎ (i < (old.shadows level).len) ⊎ ((old.shadows level).len + count ≤ i) →
      new.spots l s i ≡ old.spots l s i

-- what stays of what is spent: all but the ticks
pub record OnlyTicks (old new : State) (from to count : ℕ) : Type 0 where
  pub steps_are : to ≡ from + count
  pub ticked_are : Ticks old.spent.ticked new.spent.ticked count
  pub faults_are : new.spent.faults ≡ old.spent.faults
  pub turned_is : new.spent.turned ≡ old.spent.turned
  pub written_is : new.spent.written ≡ old.spent.written
  pub lasts_are : (buffer : Buffer) → new.spent.lasts buffer ≡ old.spent.lasts buffer

-- a merge ran over windows that show its sources
pub record Wove {M J : Type 0} (wove : M → M → J → Format → Views → List ℕ → Passed → Type 0) (old new : State) (level : ℕ) (own incoming sample : Reach)
    (before after : M) (job : J) (from to steps : ℕ) : Type 0 where
  pub views : Views
  pub room : List ℕ
  pub passed : Passed
  pub own_shown : IsShown old.held own views.own views.own_last
  pub incoming_shown : IsShown old.held incoming views.incoming views.incoming_last
  pub sample_shown : IsShown old.held sample views.sample views.sample_last
  pub wove_is : wove before after job old.held.fixed.format views room passed
  pub grown_is : Grown old.held new.held level room passed.cells
  pub only_ticks : OnlyTicks old new from to passed.ticks
  pub steps_is : steps ≡ passed.steps

-- nothing ran
pub record IsStill {M : Type 0} (old new : State) (before after : M) (from to steps : ℕ) : Type 0 where
  pub state_is : new ≡ old
  pub merge_is : after ≡ before
  pub steps_are : to ≡ from
  pub none : steps ≡ 0

-- a merge ran over windows of its sources, or did not run
abbrev pub Weaves : {M J : Type 0} (wove : M → M → J → Format → Views → List ℕ → Passed → Type 0) (old new : State) (level : ℕ) (own incoming sample : Reach)
    (before after : M) (job : J) (from to steps : ℕ) → Type 0
Weaves wove old new level own incoming sample before after job from to steps =
    IsStill old new before after from to steps ⊎ Wove wove old new level own incoming sample before after job from to steps

-- ---- searches

-- a run of the object, with a cell at the index
pub record IsRunIn (held : Held) (reach : Reach) : Type 0 where
  pub level_in : reach.run.level < held.fixed.levels
  pub slot_in : reach.run.slot < 2
  pub within : reach.run.len ≤ slot_size reach.run.level
  pub some : reach.from < reach.run.len

-- a search ran over a window that shows the run from the index on. It read the first cell as any read does, and of what is spent the others
-- changed the ticks alone
pub record Scanned {S P : Type 0} (sought : S → S → P → Format → List ℕ → ℕ → Type 0) (old new : State) (reach : Reach)
    (before after : S) (probe : P) (from to ticks : ℕ) : Type 0 where
  pub bytes : List ℕ
  pub is_last : Bool
  pub shown : IsShown old.held reach bytes is_last
  pub sought_is : sought before after probe old.held.fixed.format bytes ticks
  pub mid : State
  pub first : Reads old mid Search reach.run.level reach.run.slot reach.from (Ok (standing old.held.fixed.format (cell_bytes_at old.held.fixed.format 0 bytes)))
  pub held_is : new.held ≡ mid.held
  pub more : ℕ
  pub ticks_are : ticks ≡ suc more
  pub others : OnlyTicks mid new (from + 1) to more

-- a search ran over a window of the run, or nothing did, and no cell was accessed; or the first cell was refused as any read is
abbrev pub Scans : {S P : Type 0} (sought : S → S → P → Format → List ℕ → ℕ → Type 0) (old new : State) (reach : Reach)
    (before after : S) (probe : P) (from to : ℕ) → Result ℕ ReadFault → Type 0
Scans sought old new reach before after probe from to (Ok ticks) =
    IsStill old new before after from to ticks ⊎ Scanned sought old new reach before after probe from to ticks
Scans sought old new reach before after probe from to (Err fault) =
    Reads old new Search reach.run.level reach.run.slot reach.from (Err fault) × (to ≡ from + 1)
