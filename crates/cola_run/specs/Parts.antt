-- What the steps of a run store do to its cells.
use Rattle.std.specs.Prelude.{◌≡◌, ◌≢◌, ℕ, ◌+◌, ◌*◌, ◌%◌, ◌==◌, Bool, true, false, List, length, Option, None, Some, IfSome, Result, Ok, Err, is_ok, ⊤}
use Rattle.cola_cell.specs.declared.format.Format.{Format}
use Rattle.cola_cell.specs.declared.cell.Cell.{Cell}
use Rattle.cola_cell.specs.declared.fault.ReadFault.{ReadFault}
use Rattle.cola_cell.specs.declared.fault.ReadFault.TheVariants.{Device, BadCell}
use Rattle.cola_cell.specs.declared.fault.PushFault.{PushFault}
use Rattle.cola_cell.specs.declared.fault.PushFault.TheVariants as push
use Rattle.cola_cell.specs.declared.sink.Shadow.{Shadow}
use Rattle.cola_cell.specs.Decoded.{spelling}
use Rattle.cola_cell.specs.Flat.{shadow_at}
use Rattle.cola_cell.specs.Format.{width, CellFits}
use Rattle.cola_cell.specs.Shadows.{after_push}
use Rattle.cola_device.specs.Bytes.{part, splice, Wrote}
use Rattle.cola_front.specs.Front.{IsSpelled, spelled_at}
use Rattle.cola_layout.specs.declared.geometry.Geometry.{Geometry}
use Rattle.cola_run.specs.Cells.{Lower, block_cells, block_bytes, block_number, tail_number}

-- what a read finds in these bytes at the cell of this number: a cell that fits, or that they spell none
abbrev pub Finds : Option (List ℕ) → Format → ℕ → Result Cell ReadFault → Type 0
Finds told format number (Ok cell) = CellFits format cell × IfSome told (λ bytes. spelled_at format bytes number ≡ Some cell)
Finds told format number (Err Device) = ⊤
Finds told format number (Err (BadCell bad)) = (bad ≡ number) × IfSome told (λ bytes. spelled_at format bytes number ≡ None)

-- the tail of a level: one block
abbrev pub tail_of : Geometry → List ℕ → ℕ → List ℕ
tail_of geometry tails level = part tails (width geometry.format * tail_number geometry level 0) (block_bytes geometry)

-- the tail of a level was to be written to the block in which this index of a slot lies
abbrev pub WroteTail : {T E : Type 0} → Result T E → Geometry → List ℕ → (level slot index : ℕ) → Option (List ℕ) → Option (List ℕ) → Type 0
WroteTail result geometry tails level slot index before now =
    Wrote result (block_number geometry level slot index * block_bytes geometry) (tail_of geometry tails level) before now

-- one shadow of these changed, to this
pub record OneShadow (before now : List Shadow) (level : ℕ) (shadow : Shadow) : Type 0 where
  pub many : length now ≡ length before
  pub is : shadow_at now level ≡ shadow
  pub others : (other : ℕ) → other ≢ level → shadow_at now other ≡ shadow_at before other

-- whether a push to a shadow of this length fills a block
abbrev pub fills : Geometry → ℕ → Bool
fills geometry len = (len + 1) % block_cells geometry == 0

-- a shadow that is one cell longer: it is on the device where its last block is full
abbrev pub lengthened : Geometry → Shadow → Shadow
lengthened geometry shadow =
    record { slot = shadow.slot; len = shadow.len + 1; saved = fills geometry shadow.len }

-- what a push leaves on the device: as it was where it fills no block, and then it is not refused
abbrev pub TailPushed : {T E : Type 0} → Bool → Result T E → Geometry → List ℕ → (level slot index : ℕ) → Option (List ℕ) → Option (List ℕ) → Type 0
TailPushed true result geometry tails level slot index before now = WroteTail result geometry tails level slot index before now
TailPushed false result geometry tails level slot index before now = (now ≡ before) × (is_ok result ≡ true)

-- a call on a shadow that is refused met the device's fault
abbrev pub MetFault : {T : Type 0} → Result T PushFault → Type 0
MetFault (Ok value) = ⊤
MetFault (Err push.Device) = ⊤
MetFault (Err (push.Overfull level)) = ⊥

-- what lies below the front after the shadow of a level on the device was to be lengthened by the cell behind it in the tail, which is written where that fills a block
pub record IsLengthened {T : Type 0} (geometry : Geometry) (old new : Lower) (level : ℕ) (result : Result T PushFault) : Type 0 where
  pub shadow : OneShadow old.shadows new.shadows level
      (after_push (block_cells geometry) (shadow_at old.shadows level) result)
  pub device : TailPushed (fills geometry (shadow_at old.shadows level).len) result geometry new.tails level
      (shadow_at old.shadows level).slot (shadow_at old.shadows level).len old.told new.told
  pub fault : MetFault result

-- what lies below the front after a push of a cell to the shadow of a level on the device: the cell stands in the tail, and the shadow was to be lengthened
pub record IsPushed {T : Type 0} (geometry : Geometry) (old new : Lower) (level : ℕ) (cell : Cell) (result : Result T PushFault) : Type 0 where
  pub tails : new.tails ≡
      splice old.tails (width geometry.format * tail_number geometry level (shadow_at old.shadows level).len) (spelling geometry.format cell)
  pub longer : IsLengthened geometry old new level result
  pub spelled : IsSpelled geometry.format cell

-- what a finish leaves on the device: as it was where the shadow is there already, and then it is not refused
abbrev pub TailFinished : {T E : Type 0} → Bool → Result T E → Geometry → List ℕ → (level slot index : ℕ) → Option (List ℕ) → Option (List ℕ) → Type 0
TailFinished true result geometry tails level slot index before now = (now ≡ before) × (is_ok result ≡ true)
TailFinished false result geometry tails level slot index before now = WroteTail result geometry tails level slot index before now

-- what lies below the front after a finish of the shadow of a level on the device: its tail is written where it is not there
pub record IsFinished {T : Type 0} (geometry : Geometry) (old new : Lower) (level : ℕ) (result : Result T PushFault) : Type 0 where
  pub tails : new.tails ≡ old.tails
  pub shadow : OneShadow old.shadows new.shadows level
      (record (shadow_at old.shadows level) { saved = is_ok result })
  pub device : TailFinished (shadow_at old.shadows level).saved result geometry old.tails level
      (shadow_at old.shadows level).slot (shadow_at old.shadows level).len old.told new.told
  pub fault : MetFault result
