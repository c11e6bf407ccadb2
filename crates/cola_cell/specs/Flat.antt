-- Cells in memory: what contracts see of them, and what each call does.
use Rattle.std.specs.Prelude.{◌≡◌, ℕ, ◌+◌, ◌-◌, ◌%◌, ◌^◌, ◌≤◌, ◌<◌, ◌==◌, nat_lt, ◌&&◌, min, max, Bool, true, false, if◌then◌else◌, List, length, replicate, Option, None, Some, IfSome, Result, Ok, Err, ok_or, slice_index_or, slice_set}
use Rattle.std.specs.List.{list_any}
use Rattle.cola_cell.specs.declared.format.Format.TheVariants.{One}
use Rattle.cola_cell.specs.declared.cell.Cell.{Cell}
use Rattle.cola_cell.specs.declared.fault.ReadFault.{ReadFault}
use Rattle.cola_cell.specs.declared.fault.ReadFault.TheVariants.{Device, BadCell}
use Rattle.cola_cell.specs.declared.fault.PushFault.{PushFault}
use Rattle.cola_cell.specs.declared.fault.PushFault.TheVariants as push
use Rattle.cola_cell.specs.declared.sink.Shadow.{Shadow}
use Rattle.cola_cell.specs.Format.{CellFits}
use Rattle.cola_cell.specs.Places.{slot_size, number_of}
use Rattle.cola_cell.specs.Held.{Held, Spot, Spots, Bad, Told, as_cell}
use Rattle.cola_cell.specs.Spent.{Spent}
use Rattle.cola_cell.specs.State.{State}
use Rattle.cola_cell.specs.Shadows.{emptied}

-- how many levels; the cells by number, with none where none was set; the shadows by level; the accesses so far, the numbers of those that fail, the faults and the ticks
pub record Flat : Type 0 where
  pub levels : ℕ
  pub cells : List (Option Cell)
  pub shadows : List Shadow
  pub accesses : ℕ
  pub failing : List ℕ
  pub faults : ℕ
  pub ticked : ℕ

-- the shadow of a level
abbrev pub shadow_at : List Shadow → ℕ → Shadow
shadow_at shadows level = slice_index_or shadows level (emptied 1)

-- what cells in memory may be: at most 6 levels, a cell for each number, shadows within their slots, and cells that fit format One
pub record IsFlat (flat : Flat) : Type 0 where
  pub levels_within : flat.levels ≤ 6
  pub cells_many : length flat.cells ≡ 2 ^ (flat.levels + 3)
  pub shadows_many : length flat.shadows ≡ 6
  pub slots_within : (level : ℕ) → (shadow_at flat.shadows level).slot < 2
  pub lengths_within : (level : ℕ) → (shadow_at flat.shadows level).len ≤ slot_size level
  pub cells_fit : (number : ℕ) → IfSome (slice_index_or flat.cells number None) (CellFits One)
  pub ticked_within : flat.ticked < 2 ^ 64

-- no cell is set, each shadow is empty and stands in slot 1, and no call was made
abbrev pub new_cells : ℕ → List ℕ → Flat
new_cells levels failing =
    record {
      levels = levels;
      cells = replicate (2 ^ (levels + 3)) None;
      shadows = replicate 6 (emptied 1);
      accesses = 0;
      failing = failing;
      faults = 0;
      ticked = 0;
    }

-- what a cell in memory tells
abbrev pub spot_of : Option Cell → Spot
spot_of None = Bad
spot_of (Some cell) = Told (as_cell cell)

-- whether there is such a place
abbrev pub is_place : ℕ → ℕ → ℕ → ℕ → Bool
is_place levels level slot index = nat_lt level levels && nat_lt slot 2 && nat_lt index (slot_size level)

-- what is told of each place; outside of the levels there is no cell
abbrev pub spots_of : ℕ → List (Option Cell) → Spots
spots_of levels cells level slot index =
    if is_place levels level slot index then spot_of (slice_index_or cells (number_of level slot index) None) else Bad

-- what cells in memory hold: blocks of 8 cells, format One, and no device when they were made
abbrev pub held_of : Flat → Held
held_of flat =
    record {
      fixed = record { levels = flat.levels; doublings = 0; format = One; made = record { reads = 0; faults = 0 } };
      spots = spots_of flat.levels flat.cells;
      shadows = shadow_at flat.shadows;
    }

-- what they spend: no block is ever turned to or written
abbrev pub spent_of : Flat → Spent
spent_of flat = record { faults = flat.faults; ticked = flat.ticked; turned = 0; written = 0; lasts = λ buffer. None }

-- its state
abbrev pub state_of : Flat → State
state_of flat = record { held = held_of flat; spent = spent_of flat }

-- one more, by a count that ends at the last value of u64
abbrev pub one_more : ℕ → ℕ
one_more count = max count (min (count + 1) (2 ^ 64 - 1))

-- whether the next access, a read or a push that finds room, is to fail: they are numbered from 1
abbrev pub next_fails : Flat → Bool
next_fails flat = list_any (λ access. access == one_more flat.accesses) flat.failing

-- after an access, which took its number and its tick, and failed or not
abbrev pub after_access : Flat → Flat
after_access flat =
    record flat {
      accesses = one_more flat.accesses;
      faults = (if next_fails flat then one_more flat.faults else flat.faults);
      ticked = (flat.ticked + 1) % 2 ^ 64;
    }

-- the cell that is set, or that the one of this number spells none
abbrev pub found : ℕ → Option Cell → Result Cell ReadFault
found number cell = ok_or cell (BadCell number)

-- what a read answers
abbrev pub read_answer : Flat → ℕ → ℕ → ℕ → Result Cell ReadFault
read_answer flat level slot index =
    if next_fails flat then Err Device else found (number_of level slot index) (slice_index_or flat.cells (number_of level slot index) None)

-- with a cell at a place
abbrev pub with_cell_at : Flat → ℕ → ℕ → ℕ → Cell → Flat
with_cell_at flat level slot index cell = record flat { cells = slice_set flat.cells (number_of level slot index) (Some cell) }

-- with another shadow of a level
abbrev pub with_shadow : Flat → ℕ → Shadow → Flat
with_shadow flat level shadow = record flat { shadows = slice_set flat.shadows level shadow }

-- with the cell at the shadow's end, and the shadow a cell longer
abbrev pub longer : Flat → ℕ → Shadow → Cell → Flat
longer flat level shadow cell =
    with_shadow (with_cell_at flat level shadow.slot shadow.len cell) level (record { slot = shadow.slot; len = shadow.len + 1; saved = (shadow.len + 1) % 8 == 0 })

-- whether the shadow of a level fills its slot
abbrev pub is_full : Flat → ℕ → Bool
is_full flat level = (shadow_at flat.shadows level).len == slot_size level

-- what a push answers
abbrev pub push_answer : Flat → ℕ → Result Unit PushFault
push_answer flat level = if is_full flat level then Err (push.Overfull level) else if next_fails flat then Err push.Device else Ok tt

-- after a push
abbrev pub after_push : Flat → ℕ → Cell → Flat
after_push flat level cell =
    if is_full flat level then flat else if next_fails flat then with_shadow (after_access flat) level (record (shadow_at flat.shadows level) { saved = false }) else longer (after_access flat) level (shadow_at flat.shadows level) cell

-- after a finish, which is never refused
abbrev pub after_finish : Flat → ℕ → Flat
after_finish flat level = with_shadow flat level (record (shadow_at flat.shadows level) { saved = true })
