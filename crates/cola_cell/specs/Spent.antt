-- What calls on cells spend, and what a read answers and spends.
use Rattle.std.specs.Prelude.{◌≡◌, ◌≢◌, ◌⊎◌, ℕ, ◌+◌, ◌%◌, ◌^◌, ◌≤◌, ◌<◌, ⊤, Option, None, Some, Result, Ok, Err, OnOk}
use Rattle.cola_outside.specs.Faults.{Rose}
use Rattle.cola_cell.specs.declared.cell.Cell.{Cell}
use Rattle.cola_cell.specs.declared.cell.Reader.{Reader}
use Rattle.cola_cell.specs.declared.fault.ReadFault.{ReadFault}
use Rattle.cola_cell.specs.declared.fault.ReadFault.TheVariants.{Device, BadCell}
use Rattle.cola_cell.specs.Format.{CellFits}
use Rattle.cola_cell.specs.Places.{slot_size, number_of, Block, block_of}
use Rattle.cola_cell.specs.Held.{Held, Bad, Told, Tells, as_cell, span}

-- which place for the last block that was read: that of searches and cursors, or that of a reader and the level that it reads
pub data Buffer : Type 0 where
  Search : Buffer
  By : Reader → ℕ → Buffer

-- the buffer of a reader at a level, or that of searches
abbrev pub buffer_for : Option Reader → ℕ → Buffer
buffer_for None level = Search
buffer_for (Some reader) level = By reader level

-- the faults met, the ticks, the blocks turned to and written, and for each buffer the block that was read last
pub record Spent : Type 0 where
  pub faults : ℕ
  pub ticked : ℕ
  pub turned : ℕ
  pub written : ℕ
  pub lasts : Buffer → Option Block

-- so many ticks more, by a number modulo 2 ^ 64
abbrev pub Ticks : ℕ → ℕ → ℕ → Type 0
Ticks before now count = now % 2 ^ 64 ≡ (before + count) % 2 ^ 64

-- no block was turned to, and the buffer has the block that it had
pub record StaysAt (old new : Spent) (buffer : Buffer) : Type 0 where
  pub turned_is : new.turned ≡ old.turned
  pub last_is : new.lasts buffer ≡ old.lasts buffer

-- a cell that a read gave: the one that is told, and it fits the format
pub record IsGiven (held : Held) (level slot index : ℕ) (cell : Cell) : Type 0 where
  pub told : Tells (held.spots level slot index) (Told (as_cell cell))
  pub fits : CellFits held.fixed.format cell

-- a place whose bytes spell no cell, and its number
pub record IsBad (held : Held) (level slot index number : ℕ) : Type 0 where
  pub told : Tells (held.spots level slot index) Bad
  pub number_is : number ≡ number_of level slot index

-- what a read says by its answer: the cell, or the cause of its refusal
abbrev pub ReadAnswers : (held : Held) (before now level slot index : ℕ) → Result Cell ReadFault → Type 0
ReadAnswers held before now level slot index (Ok cell) = IsGiven held level slot index cell
ReadAnswers held before now level slot index (Err Device) = Rose before now
ReadAnswers held before now level slot index (Err (BadCell number)) = IsBad held level slot index number

-- no fault was counted, unless the answer is the device's fault
abbrev pub ReadCalm : {T : Type 0} (before now : ℕ) → Result T ReadFault → Type 0
ReadCalm before now (Ok answer) = now ≡ before
ReadCalm before now (Err Device) = ⊤
ReadCalm before now (Err (BadCell number)) = now ≡ before
