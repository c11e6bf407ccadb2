-- What a merge over the bytes of runs, where they lie, does to the parts of a store, and a search over them.
use Rattle.std.specs.Prelude.{◌≡◌, ℕ, ◌+◌, ◌-◌, ◌*◌, ◌/◌, ◌%◌, ◌≤◌, ◌<◌, ◌⊎◌, ◌==◌, ◌||◌, not, nat_le, nat_lt, min, Bool, true, false, List, length, Option, Some, Result, Ok, Err}
use Rattle.cola_cache.specs.Blocks.{Blocks, last_in}
use Rattle.cola_cell.specs.declared.cell.Cell.{Cell}
use Rattle.cola_cell.specs.declared.cell.Reader.{Reader}
use Rattle.cola_cell.specs.declared.cell.Reader.TheVariants.{Own, Incoming, Sample}
use Rattle.cola_cell.specs.declared.fault.ReadFault.{ReadFault}
use Rattle.cola_cell.specs.declared.fault.ReadFault.TheVariants.{Device, BadCell}
use Rattle.cola_cell.specs.declared.format.Format.{Format}
use Rattle.cola_cell.specs.declared.sink.Shadow.{Shadow}
use Rattle.cola_cell.specs.Flat.{shadow_at}
use Rattle.cola_cell.specs.Decoded.{standing}
use Rattle.cola_cell.specs.Format.{width}
use Rattle.cola_cell.specs.Places.{slot_size, number_of}
use Rattle.cola_device.specs.Bytes.{Gives, splice}
use Rattle.cola_device.specs.declared.counts.Counts.{Counts}
use Rattle.cola_layout.specs.declared.geometry.Geometry.{Geometry}
use Rattle.cola_run.specs.Cells.{block_cells, block_number, end_number, tail_number}
use Rattle.cola_run.specs.Parts.{OneShadow}
use Rattle.cola_run.specs.Turns.{buffer_index, Turns}
use Rattle.cola_cell.specs.declared.windows.Reach.{Reach}
use Rattle.cola_cell.specs.declared.windows.Passed.{Passed}
use Rattle.cola_cell.specs.Windows.{Views, AreSpelled, cell_bytes_at, grown}
use Rattle.cola_front.specs.Front.{FrontCells, SameShape, cell_at, spelled_at}

-- how many cells of a run lie from an index on
abbrev pub ahead : Reach → ℕ
ahead reach = reach.run.len - reach.from

-- a run of a store
pub record IsRunHere (geometry : Geometry) (run : Reach) : Type 0 where
  pub low : run.run.level ≤ geometry.bottom
  pub slot_in : run.run.slot < 2
  pub within : run.run.len ≤ slot_size run.run.level

-- the cells of a run that lie ahead are all in the front or on the device, which has those of its level's shadow where that is saved
abbrev pub is_at_hand : Geometry → List Shadow → Reach → Bool
is_at_hand geometry shadows reach =
    nat_le reach.run.len reach.from || (nat_lt (reach.run.level + 2) geometry.block_exp
    || (not (reach.run.slot == (shadow_at shadows reach.run.level).slot) || (shadow_at shadows reach.run.level).saved))

-- how many cells of a run lie together from an index on: all, where a device lends its bytes, and else those in one block
abbrev pub together : Bool → Geometry → Reach → ℕ
together true geometry reach = ahead reach
together false geometry reach = min (ahead reach) (block_cells geometry - reach.from % block_cells geometry)

-- and so are those of a merge's three sources
pub record AreAtHand (geometry : Geometry) (shadows : List Shadow) (own incoming sample : Reach) : Type 0 where
  pub own_there : is_at_hand geometry shadows own ≡ true
  pub incoming_there : is_at_hand geometry shadows incoming ≡ true
  pub sample_there : is_at_hand geometry shadows sample ≡ true

-- the bytes of the cells of a run on the device that lie together from an index on, and whether they are its last
pub record IsBelow (lends : Bool) (told : Option (List ℕ)) (geometry : Geometry) (reach : Reach) (bytes : List ℕ) (is_last : Bool) : Type 0 where
  pub size : length bytes ≡ together lends geometry reach * width geometry.format
  pub gives : Gives told (width geometry.format * number_of reach.run.level reach.run.slot reach.from) bytes
  pub last : is_last ≡ (together lends geometry reach == ahead reach)

-- the bytes of the cells of a run of the front from an index on
pub record IsInFront (front : FrontCells) (reach : Reach) (bytes : List ℕ) (is_last : Bool) : Type 0 where
  pub size : length bytes ≡ ahead reach * width front.format
  pub shows : (n : ℕ) → n < ahead reach → cell_at front (number_of reach.run.level reach.run.slot reach.from + n) ≡ spelled_at front.format bytes n
  pub last : is_last ≡ true

-- the bytes of cells of a run from an index on, by where its level is
pub record IsFound (lends : Bool) (told : Option (List ℕ)) (geometry : Geometry) (front : FrontCells) (reach : Reach) (bytes : List ℕ) (is_last : Bool) : Type 0 where
  pub below : geometry.block_exp ≤ reach.run.level + 2 → IsBelow lends told geometry reach bytes is_last
  pub in_front : reach.run.level + 2 < geometry.block_exp → IsInFront front reach bytes is_last

-- a reader's buffer, or that of searches, holds the block of the cell at the index
abbrev pub IsTurnedTo : Geometry → List (Option ℕ) → Option Reader → Reach → Type 0
IsTurnedTo geometry lasts reader reach =
    last_in lasts (buffer_index geometry reader reach.run.level) ≡ Some (block_number geometry reach.run.level reach.run.slot reach.from)

-- the cell of a run at the index, where there is one, can be looked at where it lies
abbrev pub HasWindow : Bool → Geometry → List (Option ℕ) → Option Reader → Reach → Type 0
HasWindow lends geometry lasts reader reach = reach.from < reach.run.len → geometry.block_exp ≤ reach.run.level + 2 → lends ≡ false → IsTurnedTo geometry lasts reader reach

-- and so can those of a merge's three sources
pub record HaveWindows (lends : Bool) (geometry : Geometry) (lasts : List (Option ℕ)) (own incoming sample : Reach) : Type 0 where
  pub own_window : HasWindow lends geometry lasts (Some Own) own
  pub incoming_window : HasWindow lends geometry lasts (Some Incoming) incoming
  pub sample_window : HasWindow lends geometry lasts (Some Sample) sample

-- how many cells a shadow of this length takes before the push that fills a block
abbrev pub room_cells : Geometry → ℕ → ℕ → ℕ
room_cells geometry level len = min (block_cells geometry - 1 - len % block_cells geometry) (slot_size level - len)

-- a merge ran over the bytes of its sources, and put cells into a room
pub record WoveOver {M J : Type 0} (wove : M → M → J → Format → Views → List ℕ → Passed → Type 0) (lends : Bool) (told : Option (List ℕ)) (geometry : Geometry) (front : FrontCells)
    (own incoming sample : Reach) (before after : M) (job : J) (views : Views) (room : List ℕ) (passed : Passed) : Type 0 where
  pub own_found : IsFound lends told geometry front own views.own views.own_last
  pub incoming_found : IsFound lends told geometry front incoming views.incoming views.incoming_last
  pub sample_found : IsFound lends told geometry front sample views.sample views.sample_last
  pub wove_is : wove before after job geometry.format views room passed
  pub spelled : AreSpelled geometry.format passed.cells room

-- the room was a tail
pub record WoveBelow {M J : Type 0} (wove : M → M → J → Format → Views → List ℕ → Passed → Type 0) (lends : Bool) (told : Option (List ℕ)) (geometry : Geometry) (front : FrontCells)
    (shadows shadows_now : List Shadow) (tails tails_now : List ℕ) (level : ℕ) (own incoming sample : Reach)
    (before after : M) (job : J) (passed : Passed) : Type 0 where
  pub views : Views
  pub room : List ℕ
  pub over : WoveOver wove lends told geometry front own incoming sample before after job views room passed
  pub room_is : length room ≡ width geometry.format * room_cells geometry level (shadow_at shadows level).len
  pub few : passed.cells ≤ room_cells geometry level (shadow_at shadows level).len
  pub tails_are : tails_now ≡ splice tails (width geometry.format * tail_number geometry level (shadow_at shadows level).len) room
  pub shadow : OneShadow shadows shadows_now level (grown passed.cells (shadow_at shadows level))

-- a merge ran over the bytes of its sources into the tail of a level, in so many steps
abbrev pub RunsBelow : {M J : Type 0} (wove : M → M → J → Format → Views → List ℕ → Passed → Type 0) (lends : Bool) (told : Option (List ℕ)) (geometry : Geometry) (front : FrontCells)
    (shadows shadows_now : List Shadow) (tails tails_now : List ℕ) (level : ℕ) (own incoming sample : Reach) (before after : M) (job : J) (steps : ℕ) → Type 0
RunsBelow wove lends told geometry front shadows shadows_now tails tails_now level own incoming sample before after job steps =
    (passed : Passed) × WoveBelow wove lends told geometry front shadows shadows_now tails tails_now level own incoming sample before after job passed
    × (steps ≡ passed.steps)

-- how many cells a merge puts into the front at once: those of 2,048 bytes, where its shadow has room for as many
abbrev pub front_room : Geometry → ℕ → ℕ → ℕ
front_room geometry level len = min (room_cells geometry level len) (2048 / width geometry.format)

-- so many spelled cells stand in the front behind the shadow of a level, which is longer by as many
pub record PutInFront (geometry : Geometry) (front front_now : FrontCells) (shadows shadows_now : List Shadow) (level count : ℕ) (room : List ℕ) : Type 0 where
  pub placed : (k : ℕ) → k < count → cell_at front_now (end_number shadows level + k) ≡ Some (standing geometry.format (cell_bytes_at geometry.format k room))
  pub others : (place : ℕ) → (place < end_number shadows level) ⊎ (end_number shadows level + count ≤ place) → cell_at front_now place ≡ cell_at front place
  pub shape : SameShape front front_now
  pub shadow : OneShadow shadows shadows_now level (grown count (shadow_at shadows level))

-- the room was one beside the front, to which its cells were copied
pub record WoveInFront {M J : Type 0} (wove : M → M → J → Format → Views → List ℕ → Passed → Type 0) (lends : Bool) (told : Option (List ℕ)) (geometry : Geometry) (front front_now : FrontCells)
    (shadows shadows_now : List Shadow) (level : ℕ) (own incoming sample : Reach) (before after : M) (job : J) (passed : Passed) : Type 0 where
  pub views : Views
  pub room : List ℕ
  pub over : WoveOver wove lends told geometry front own incoming sample before after job views room passed
  pub room_is : length room ≡ width geometry.format * front_room geometry level (shadow_at shadows level).len
  pub few : passed.cells ≤ front_room geometry level (shadow_at shadows level).len
  pub put : PutInFront geometry front front_now shadows shadows_now level passed.cells room

-- a merge ran over the bytes of its sources into a level of the front, in so many steps
abbrev pub RunsInFront : {M J : Type 0} (wove : M → M → J → Format → Views → List ℕ → Passed → Type 0) (lends : Bool) (told : Option (List ℕ)) (geometry : Geometry) (front front_now : FrontCells)
    (shadows shadows_now : List Shadow) (level : ℕ) (own incoming sample : Reach) (before after : M) (job : J) (steps : ℕ) → Type 0
RunsInFront wove lends told geometry front front_now shadows shadows_now level own incoming sample before after job steps =
    (passed : Passed) × WoveInFront wove lends told geometry front front_now shadows shadows_now level own incoming sample before after job passed
    × (steps ≡ passed.steps)

-- a search ran over the bytes of a run from the index on: what it accessed are cells, and the first where that is one
pub record ScansBelow {S P : Type 0} (sought : S → S → P → Format → List ℕ → ℕ → Type 0) (lends : Bool) (told : Option (List ℕ)) (geometry : Geometry) (front : FrontCells) (reach : Reach)
    (before after : S) (probe : P) (ticks : ℕ) : Type 0 where
  pub bytes : List ℕ
  pub is_last : Bool
  pub found : IsFound lends told geometry front reach bytes is_last
  pub sought_is : sought before after probe geometry.format bytes ticks
  pub spelled : AreSpelled geometry.format ticks bytes
  pub first : AreSpelled geometry.format 1 bytes → 0 < ticks

-- it says how many cells it accessed, or names the first where its bytes spell none
abbrev pub ScansThere : {S P : Type 0} (sought : S → S → P → Format → List ℕ → ℕ → Type 0) (lends : Bool) (told : Option (List ℕ)) (geometry : Geometry) (front : FrontCells) (reach : Reach)
    (before after : S) (probe : P) → Result ℕ ReadFault → Type 0
ScansThere sought lends told geometry front reach before after probe (Ok ticks) = ScansBelow sought lends told geometry front reach before after probe ticks × (0 < ticks)
ScansThere sought lends told geometry front reach before after probe (Err Device) = ⊥
ScansThere sought lends told geometry front reach before after probe (Err (BadCell number)) =
    ScansBelow sought lends told geometry front reach before after probe 0 × (number ≡ number_of reach.run.level reach.run.slot reach.from)

-- what a search answers, as a read of its first cell
abbrev pub as_read : Cell → Result ℕ ReadFault → Result Cell ReadFault
as_read cell (Ok ticks) = Ok cell
as_read cell (Err fault) = Err fault

-- a search of a run from the index on turned its buffer as a read of the first cell does, which answers so: where that is on a device that lends nothing
abbrev pub SearchTurns : {D : Type 0} (counts : D → Counts) (lends : Bool) (geometry : Geometry) (before now : Blocks D) (reach : Reach) (answer : Result Cell ReadFault) → Type 0
SearchTurns counts lends geometry before now reach answer = geometry.block_exp ≤ reach.run.level + 2 → lends ≡ false →
    Turns counts before now 0 (block_number geometry reach.run.level reach.run.slot reach.from) answer
