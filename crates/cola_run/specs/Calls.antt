-- What the calls of a run store do, and the steps of them, by the device, its buffers or the store before and after.
use Rattle.std.specs.Prelude.{◌≡◌, ℕ, ◌+◌, true, false, not, List, Option, IfSome, Result}
use Rattle.cola_outside.specs.Told.{Both}
use Rattle.cola_cell.specs.declared.cell.Cell.{Cell}
use Rattle.cola_cell.specs.declared.cell.Reader.{Reader}
use Rattle.cola_cell.specs.declared.fault.PushFault.{PushFault}
use Rattle.cola_cell.specs.declared.fault.ReadFault.{ReadFault}
use Rattle.cola_cell.specs.declared.sink.Shadow.{Shadow}
use Rattle.cola_cell.specs.Flat.{shadow_at, found}
use Rattle.cola_cell.specs.Held.{Held}
use Rattle.cola_cell.specs.Reads.{Reads}
use Rattle.cola_cell.specs.Spent.{ReadAnswers, buffer_for}
use Rattle.cola_device.specs.declared.device.Device as device
use Rattle.cola_device.specs.Bytes.{Wrote}
use Rattle.cola_device.specs.Counts.{Called}
use Rattle.cola_cache.specs.Blocks.{Blocks}
use Rattle.cola_front.specs.Front.{FrontCells, IsLoaded as IsFrontLoaded}
use Rattle.cola_layout.specs.declared.geometry.Geometry.{Geometry}
use Rattle.cola_layout.specs.declared.header.Header.{Header}
use Rattle.cola_run.specs.Cells.{Cells, IsOnDevice, HasRoom, block_cells, block_number, end_block, is_in_tail, spots_of}
use Rattle.cola_run.specs.Store.{Store, device_of, held_of, lower_of, state_of}
use Rattle.cola_run.specs.Parts.{Finds, OneShadow, WroteTail, IsLengthened, IsFinished, fills, lengthened}
use Rattle.cola_run.specs.Turns.{Writing}
use Rattle.cola_run.specs.Saving.{AreHeaderShadows, LoadAnswers, LoadSpends, IsLoaded, IsFlushed, IsFrontLast, SettlesTwice, SameBehind}
use Rattle.cola_run.specs.Loading.{IsReading, IsWriting}

-- the cell at a place is in the tail of its level
abbrev pub IsInTail : Geometry → List Shadow → (level slot index : ℕ) → Type 0
IsInTail geometry shadows level slot index = is_in_tail (block_cells geometry) (shadow_at shadows level) slot index ≡ true

-- a read that makes no call of the device answers so, whatever the count of faults is
abbrev pub MemoryAnswers : Held → (level slot index : ℕ) → Result Cell ReadFault → Type 0
MemoryAnswers held level slot index result = (faults : ℕ) → ReadAnswers held faults faults level slot index result

-- a read of a store by the buffer of a reader, or by that of searches
abbrev pub ReadsBy : {D : Type 0} (d : device.Ghosts D) → (before now : Store D) → Option Reader → (level slot index : ℕ) →
    Result Cell ReadFault → Type 0
ReadsBy d before now reader level slot index result =
    Reads (state_of d.bytes d.counts before) (state_of d.bytes d.counts now) (buffer_for reader level) level slot index result

-- a cell, or none, is what stands at this number in the bytes of the device of these buffers
abbrev pub FindsIn : {D : Type 0} (d : device.Ghosts D) → Blocks D → Geometry → (number : ℕ) → Option Cell → Type 0
FindsIn d buffers geometry number cell =
    Finds (d.bytes buffers.cache.device) geometry.format number (found number cell)

-- what a read finds at this number in the bytes of the device of these buffers
abbrev pub FindsAt : {D : Type 0} (d : device.Ghosts D) → Blocks D → Geometry → (number : ℕ) → Result Cell ReadFault → Type 0
FindsAt d buffers geometry number result = Finds (d.bytes buffers.cache.device) geometry.format number result

-- the tail of a level was to be written to the block in which an index of a slot lies
abbrev pub WritesTail : {D T E : Type 0} (d : device.Ghosts D) → (before now : Blocks D) → Geometry → List ℕ →
    (level slot index : ℕ) → Result T E → Type 0
WritesTail d before now geometry tails level slot index result =
    WroteTail result geometry tails level slot index (d.bytes before.cache.device) (d.bytes now.cache.device)

-- the block in which a place lies was written, or the device refused that: no other call of it was made
abbrev pub WritesAt : {D T E : Type 0} (d : device.Ghosts D) → (before now : Blocks D) → Geometry → (level slot index : ℕ) → Result T E → Type 0
WritesAt d before now geometry level slot index result =
    Writing d.counts d.kept true before now (block_number geometry level slot index) result

-- the shadow of a level on the device was to be lengthened by a cell, by the parts below the front before and after that
abbrev pub LengthensBelow : {D T : Type 0} (d : device.Ghosts D) → Geometry → (before now : Blocks D) →
    (shadows shadows_now : List Shadow) → List ℕ → ℕ → Result T PushFault → Type 0
LengthensBelow d geometry before now shadows shadows_now tails level result =
    IsLengthened geometry (lower_of d.bytes before shadows tails) (lower_of d.bytes now shadows_now tails) level result

-- such a push writes the block in which the shadow ends, where it fills that, and nothing else
abbrev pub PushWrites : {D T E : Type 0} (d : device.Ghosts D) → Geometry → (before now : Blocks D) → List Shadow → ℕ → Result T E → Type 0
PushWrites d geometry before now shadows level result =
    Writing d.counts d.kept (fills geometry (shadow_at shadows level).len) before now (end_block geometry shadows level) result

-- a finish of the shadow of a level on the device, by the parts below the front before and after it
abbrev pub FinishesBelow : {D T : Type 0} (d : device.Ghosts D) → Geometry → (before now : Blocks D) →
    (shadows shadows_now : List Shadow) → List ℕ → ℕ → Result T PushFault → Type 0
FinishesBelow d geometry before now shadows shadows_now tails level result =
    IsFinished geometry (lower_of d.bytes before shadows tails) (lower_of d.bytes now shadows_now tails) level result

-- such a finish writes the block in which the shadow ends, where not all of that is on the device, and nothing else
abbrev pub FinishWrites : {D T E : Type 0} (d : device.Ghosts D) → Geometry → (before now : Blocks D) → List Shadow → ℕ → Result T E → Type 0
FinishWrites d geometry before now shadows level result =
    Writing d.counts d.kept (not (shadow_at shadows level).saved) before now (end_block geometry shadows level) result

-- where not all of the shadow of a level is on the device, it has room for a cell
abbrev pub UnsavedHasRoom : Geometry → List Shadow → ℕ → Type 0
UnsavedHasRoom geometry shadows level = (shadow_at shadows level).saved ≡ false → HasRoom geometry shadows level

-- each shadow of a level on the device has room for a cell where not all of it is there
abbrev pub AllUnsavedHaveRoom : Geometry → List Shadow → Type 0
AllUnsavedHaveRoom geometry shadows = (level : ℕ) → IsOnDevice geometry level → UnsavedHasRoom geometry shadows level

-- of these shadows only that of a level changed: it is one cell longer
abbrev pub OneLonger : Geometry → (before now : List Shadow) → ℕ → Type 0
OneLonger geometry before now level = OneShadow before now level (lengthened geometry (shadow_at before level))

-- the shadow of each level stands as a header has it
abbrev pub StandByHeader : Geometry → Header → List Shadow → Type 0
StandByHeader geometry header shadows = AreHeaderShadows geometry.bottom header (shadow_at shadows)

-- the front has the cells that the device of these buffers has, where that tells its bytes
abbrev pub IsFrontOf : {D : Type 0} (d : device.Ghosts D) → Blocks D → FrontCells → Type 0
IsFrontOf d buffers front = IfSome (d.bytes buffers.cache.device) (λ bytes. IsFrontLoaded bytes front)

-- at most so many reads of whole blocks, and no other call of the device
abbrev pub OnlyReads : {D T E : Type 0} (d : device.Ghosts D) → (before now : Blocks D) → ℕ → Result T E → Type 0
OnlyReads d before now reads result = IsReading d.bytes d.counts d.kept before now reads result

-- at most so many writes of whole blocks and so many settles, and no other call of the device
abbrev pub OnlyWrites : {D T E : Type 0} (d : device.Ghosts D) → (before now : Blocks D) → (writes settles : ℕ) → Result T E → Type 0
OnlyWrites d before now writes settles result = IsWriting d.counts d.kept before now writes settles result

-- these bytes were to be written at a place of the device of these buffers
abbrev pub BlocksWrote : {D T E : Type 0} (d : device.Ghosts D) → (before now : Blocks D) → ℕ → List ℕ → Result T E → Type 0
BlocksWrote d before now at from result = Wrote result at from (d.bytes before.cache.device) (d.bytes now.cache.device)

-- the bytes of the device of these buffers before and after stand in this relation, where they are told
abbrev pub BothTell : {D : Type 0} (d : device.Ghosts D) → (before now : Blocks D) → (List ℕ → List ℕ → Type 0) → Type 0
BothTell d before now relation = Both (d.bytes before.cache.device) (d.bytes now.cache.device) relation

-- what a load by these buffers says by its answer
abbrev pub LoadSays : {D : Type 0} (d : device.Ghosts D) → (before now : Blocks D) → Header → Result (Unit {0}) ReadFault → Type 0
LoadSays d before now header result =
    LoadAnswers header (d.bytes before.cache.device) (d.counts before.cache.device).faults (d.counts now.cache.device).faults result

-- what a load by these buffers spends: at most the two reads of the front, and one for each level
abbrev pub LoadCosts : {D : Type 0} (d : device.Ghosts D) → (before now : Blocks D) → Geometry → Result (Unit {0}) ReadFault → Type 0
LoadCosts d before now geometry result =
    LoadSpends (d.counts before.cache.device) (d.counts now.cache.device) (geometry.bottom + 3) result

-- the file has this header and these cells, where the device tells it
abbrev pub AreFlushed : List ℕ → Cells → Type 0
AreFlushed header cells = IfSome cells.lower.told (IsFlushed cells.geometry header (spots_of cells))

-- the front came last of what these buffers wrote of the cells
abbrev pub BlocksFrontLast : {D : Type 0} (d : device.Ghosts D) → (before now : Blocks D) → Cells → Type 0
BlocksFrontLast d before now cells = IsFrontLast d cells.geometry (spots_of cells) before.cache.device now.cache.device

-- the device of these buffers settled between the levels and the front, and at the end
abbrev pub BlocksSettleTwice : {D : Type 0} (d : device.Ghosts D) → (before now : Blocks D) → Geometry → Type 0
BlocksSettleTwice d before now geometry = SettlesTwice d geometry before.cache.device now.cache.device

-- a store that has the cells of its file by a header
abbrev pub LoadsFile : {D : Type 0} (d : device.Ghosts D) → (before now : Store D) → Header → Type 0
LoadsFile d before now header = IsLoaded header (held_of d.bytes now) (d.bytes (device_of before))

-- the file of a store has this header and the store's cells, where the device tells it
abbrev pub FlushesFile : {D : Type 0} (d : device.Ghosts D) → (before now : Store D) → List ℕ → Type 0
FlushesFile d before now header =
    IfSome (d.bytes (device_of now)) (IsFlushed before.geometry header (held_of d.bytes now).spots)

-- the front came last of what a store wrote
abbrev pub StoreFrontLast : {D : Type 0} (d : device.Ghosts D) → (before now : Store D) → Type 0
StoreFrontLast d before now = IsFrontLast d before.geometry (held_of d.bytes now).spots (device_of before) (device_of now)

-- the device of a store settled between the levels and the front, and at the end
abbrev pub StoreSettlesTwice : {D : Type 0} (d : device.Ghosts D) → (before now : Store D) → Type 0
StoreSettlesTwice d before now = SettlesTwice d before.geometry (device_of before) (device_of now)

-- no byte at or behind the end of a store's file changed, where the device tells its bytes
abbrev pub StoreKeepsBehind : {D : Type 0} (d : device.Ghosts D) → (before now : Store D) → Type 0
StoreKeepsBehind d before now = Both (d.bytes (device_of before)) (d.bytes (device_of now)) (SameBehind before.geometry)

-- what a call did to the counts of a store's device: at most so many reads, writes and others
abbrev pub StoreCalled : {D T E : Type 0} (d : device.Ghosts D) → (before now : Store D) → (reads writes others : ℕ) → Result T E → Type 0
StoreCalled d before now reads writes others result =
    Called (d.counts (device_of before)) (d.counts (device_of now)) reads writes others result
