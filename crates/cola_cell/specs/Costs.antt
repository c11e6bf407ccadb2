-- What a call that only reads spends in all.
use Rattle.std.specs.Prelude.{◌≡◌, ℕ, ◌+◌, ◌%◌, ◌^◌, ◌≤◌}
use Rattle.cola_outside.specs.Faults.{Rose}
use Rattle.cola_cell.specs.declared.fault.ReadFault.{ReadFault}
use Rattle.cola_cell.specs.declared.fault.ReadFault.TheVariants.{Device, BadCell}
use Rattle.cola_cell.specs.Held.{Held, HasPlace}
use Rattle.cola_cell.specs.Spent.{Spent, IsBad}

-- at most so many ticks, which the object counts too, and at most so many blocks turned to; nothing is written, and the count of faults does not fall
pub record Costs (old new : Spent) (before after ticks turns : ℕ) : Type 0 where
  pub steps_stay : before ≤ after
  pub steps_rise : after ≤ before + ticks
  pub ticked_is : (new.ticked + before) % 2 ^ 64 ≡ (old.ticked + after) % 2 ^ 64
  pub turned_stays : old.turned ≤ new.turned
  pub turned_rises : new.turned ≤ old.turned + turns
  pub written_is : new.written ≡ old.written
  pub faults_stay : old.faults ≤ new.faults

-- a place of the object whose bytes spell no cell, and its number
pub record HasBad (held : Held) (number : ℕ) : Type 0 where
  pub level : ℕ
  pub slot : ℕ
  pub index : ℕ
  pub place : HasPlace held level slot index
  pub bad : IsBad held level slot index number

-- the cause of a refused call that reads: the count of faults rose, or a cell of the object is bad
abbrev pub ReadCause : Held → ℕ → ℕ → ReadFault → Type 0
ReadCause held before now Device = Rose before now
ReadCause held before now (BadCell number) = HasBad held number
