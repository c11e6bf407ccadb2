-- The lines of a source, loaded one after another: what is there before the first, and how they end.
use Rattle.std.specs.Prelude.{◌≡◌, ◌⊎◌, ℕ, ◌+◌, ◌≤◌, List, [], length, Option, Some, None, IfSome}
use Rattle.cola_outside.specs.Faults.{Rose}
use Rattle.cola_device.specs.declared.device.Device as device
use Rattle.cola_device.specs.Settling.{IsSettled}
use Rattle.cola_io.specs.declared.source.Source as source
use Rattle.cola_io.specs.declared.sink.Sink as sink
use Rattle.cola_report.specs.Line.{LineEnds}
use Rattle.cola_run.specs.Cells.{device_levels}
use Rattle.cola_session.specs.Ends.{ReadToEnd}
use Rattle.cola_shapes.specs.Shapes.{shape_of}
use Rattle.cola_load.specs.Filled.{Row}
use Rattle.cola_load.specs.Loading.{Loading, HoldsRows, IsUnfinished, full_blocks}
use Rattle.cola_filling.specs.Loads.{HaveNoWord, loaded_rows, loaded_line, IsFilledWith, StopsBefore}

-- a loader without a row, over a device with these bytes, if they are told
pub record IsFresh (told : Option (List ℕ)) (loading : Loading) : Type 0 where
  pub no_rows : loading.rows ≡ 0
  pub no_key : loading.key ≡ None
  pub no_last : loading.last ≡ 0
  pub holds : IfSome told (λ bytes. HoldsRows loading bytes [])

module _ {S K D : Type 0} (g : source.Ghosts S) (h : sink.Ghosts K) (d : device.Ghosts D) (old new : Loading) (source source' : S) (sink sink' : K) (device device' : D) where
  -- all lines were read, none has a word, and their rows were pushed
  pub record AreLoaded : Type 0 where
    pub rows : List Row
    pub read : ReadToEnd g h source source' sink sink (λ lines. HaveNoWord (shape_of old.geometry.format old.geometry.keys) lines
        × (rows ≡ loaded_rows (shape_of old.geometry.format old.geometry.keys) lines))
    pub holds : IfSome (d.bytes device') (λ bytes. HoldsRows new bytes rows)
    pub many : new.rows ≡ length rows
    pub geometry_stays : new.geometry ≡ old.geometry
    pub last_stays : new.last ≡ old.last
    pub sink_stays : sink' ≡ sink
    pub few_writes : (d.counts device').writes ≤ (d.counts device).writes + full_blocks old.geometry (length rows)
    pub no_fault : (d.counts device').faults ≡ (d.counts device).faults

  -- how the lines end: all are loaded, or they stop before the end, with this status
  abbrev pub LinesLoad : Option ℕ → Type 0
  LinesLoad None = AreLoaded
  LinesLoad (Some status) = StopsBefore g h d (shape_of old.geometry.format old.geometry.keys) source source' sink sink' device device' status

module _ {K D : Type 0} (h : sink.Ghosts K) (d : device.Ghosts D) (loading : Loading) (sink sink' : K) (device device' : D) where
  -- the file was finished, and the number of its rows written
  pub record HasFinished (status : ℕ) : Type 0 where
    pub filled : (rows : List Row) → IfSome (d.bytes device) (λ bytes. HoldsRows loading bytes rows)
        → IfSome (d.bytes device') (IsFilledWith loading.geometry loading.last rows)
    pub settled : IsSettled d device'
    pub few_writes : (d.counts device').writes ≤ (d.counts device).writes + (device_levels loading.geometry + 2)
    pub no_fault : (d.counts device').faults ≡ (d.counts device).faults
    pub wrote : LineEnds h (loaded_line loading.rows) 0 sink sink' status

  -- the device refused a call: the file has no header, or all behind the block with the header
  pub record HasNotFinished (status : ℕ) : Type 0 where
    pub status_is : status ≡ 5
    pub left : (rows : List Row) → IfSome (d.bytes device) (λ bytes. HoldsRows loading bytes rows)
        → IfSome (d.bytes device') (IsUnfinished loading.geometry loading.last rows)
    pub cause : Rose (d.counts device).faults (d.counts device').faults
    pub sink_stays : sink' ≡ sink

  -- how a loader that holds rows is finished
  abbrev pub LoadFinishes : ℕ → Type 0
  LoadFinishes status = HasFinished status ⊎ HasNotFinished status
