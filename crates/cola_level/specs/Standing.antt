-- A level on an object of cells, as the laws of levels and the account of transfers have it.
use Rattle.std.specs.Prelude.{◌≡◌, ℕ, suc, true, Bool, nat_lt, ◌||◌, List}
use Rattle.cola_clock.specs.Clock.{works, period, is_odd, visible_slot}
use Rattle.cola_clock.specs.Marks.{Marks}
use Rattle.cola_laws.specs.Chain.{Level, part_of, next_runs, first_keys}
use Rattle.cola_laws.specs.Sound.{IsPaced}
use Rattle.cola_laws.specs.Mutation.{IsWorkable}
use Rattle.cola_laws.specs.Slots.{level_of, levels_of}
use Rattle.cola_cell.specs.declared.cell.Reader.TheVariants.{Own, Incoming, Sample}
use Rattle.cola_cell.specs.Places.{slot_size}
use Rattle.cola_cell.specs.Held.{Held, Stamped, LawCell, IsTelling, span}
use Rattle.cola_cell.specs.Spent.{Spent, By}
use Rattle.cola_cell.specs.Order.{key_cmp}
use Rattle.cola_cell.specs.ToldCells.{cells, IsShadowTold}
use Rattle.cola_merge.specs.declared.aims.Aim.{Aim}
use Rattle.cola_merge.specs.Blocks.{is_last}
use Rattle.cola_merge.specs.Heads.{AreFeedsTold}
use Rattle.cola_transfers.specs.Chain.{Transfers}

-- the first cells of a slot, so many
abbrev pub slot_cells : Held → ℕ → ℕ → ℕ → List LawCell
slot_cells held level slot count = cells (held.spots level slot) 0 count

-- the cells of the visible run of level j at clock t, which has so many
abbrev pub visible_cells : Held → ℕ → ℕ → ℕ → List LawCell
visible_cells held t j len = slot_cells held j (visible_slot t j) len

-- level j with these marks, as the laws of levels have it
abbrev pub stood : Held → ℕ → ℕ → Marks → Level (List ℕ) Stamped
stood held t j m = level_of (slot_cells held) t j m

-- the same of level j and of all below it
abbrev pub all_stood : Held → ℕ → ℕ → List Marks → List (Level (List ℕ) Stamped)
all_stood held t j marks = levels_of (slot_cells held) t j marks

-- a level that works, as it may be called to: the object tells it, its length is that of its
-- shadow, it keeps pace with the clock, and it has a build that it can do
pub record CanAdvance (held : Held) (aim : Aim) (t i above : ℕ) (m : Marks) (below : List Marks) : Type 0 where
  pub tells : IsTelling held
  pub feeds : AreFeedsTold held aim
  pub shadow : IsShadowTold held (suc i)
  pub shadow_is : m.shadow ≡ (held.shadows (suc i)).len
  pub works : works t (suc i) ≡ true
  pub paced : IsPaced key_cmp 0 t (suc i) (visible_cells held t i above)
      (stood held t (suc i) m) (all_stood held t (suc (suc i)) below)
  pub workable : IsWorkable key_cmp (part_of (is_odd (period t (suc i))) (all_stood held t (suc (suc i)) below)) (suc i)
      (visible_cells held t (suc i) m.visible) (visible_cells held t i above) (first_keys (next_runs t (suc i) (all_stood held t (suc (suc i)) below)))

-- the shadow of a level is kept: each of its cells is on the device, or its level's slots are smaller than a block
abbrev pub is_kept : Held → ℕ → Bool
is_kept held level = (held.shadows level).saved || nat_lt (slot_size level) (span held)

-- the transfers of an object: the blocks that it turned to and wrote, those that its readers
-- read last, and which shadows are kept
abbrev pub transfers_of : Held → Spent → Transfers
transfers_of held spent = record {
  reads = spent.turned;
  writes = spent.written;
  readers = record {
    own = λ level slot number. is_last (spent.lasts (By Own level)) level slot number;
    incoming = λ level slot number. is_last (spent.lasts (By Incoming level)) level slot number;
    sample = λ level slot number. is_last (spent.lasts (By Sample level)) level slot number;
  };
  kept = λ level. is_kept held level;
}
