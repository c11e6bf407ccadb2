-- A load from its beginning to its end.
use Rattle.std.proofs.Common.{◌≡◌, inl, inr, ℕ, ◌+◌, ◌≤◌, length, IfSome, sym, ap, ◌∙◌, subst, arith}
use Rattle.cola_outside.specs.Faults.{Rose}
use Rattle.cola_device.specs.declared.device.Device as device
use Rattle.cola_device.specs.Bytes.{HasRange}
use Rattle.cola_io.specs.declared.source.Source as source
use Rattle.cola_io.specs.declared.sink.Sink as sink
use Rattle.cola_layout.specs.declared.geometry.Geometry.{Geometry}
use Rattle.cola_opening.specs.Counted.{Spends}
use Rattle.cola_report.specs.Line.{LineEnds}
use Rattle.cola_run.specs.Cells.{file_bytes, device_levels}
use Rattle.cola_session.specs.Ends.{ReadToEnd}
use Rattle.cola_shapes.specs.Shapes.{shape_of}
use Rattle.cola_load.specs.Loading.{Loading, HoldsRows, IsUnfinished, HasBegun, full_blocks}
use Rattle.cola_filling.specs.Lines.{IsFresh, AreLoaded, LoadFinishes}
use Rattle.cola_filling.specs.Loads as ends
use Rattle.cola_filling.specs.Loads.{HaveNoWord, loaded_rows, loaded_line, LoadEndsBy, StopsBefore, IsFilledWith, most_writes}
use Rattle.cola_filling.proofs.LoadedSoFar.{some-option}

-- a loader that has begun is fresh
pub begun-fresh : {D : Type 0} (d : device.Ghosts D) (geometry : Geometry) (before now : D) (loading : Loading) → HasBegun d geometry 0 before now loading → IsFresh (d.bytes now) loading
begun-fresh d geometry before now loading begun = record { no_rows = begun.no_rows; no_key = begun.no_key; no_last = begun.last_is; holds = begun.holds }

-- the device has the file behind the last line
pub file-loaded : {S K D : Type 0} (g : source.Ghosts S) (h : sink.Ghosts K) (d : device.Ghosts D) (old new : Loading) (source source' : S) (sink sink' : K) (device device' : D) → AreLoaded g h d old new source source' sink sink' device device'
    → HasRange (d.bytes device') 0 (file_bytes new.geometry)
file-loaded g h d old new source source' sink sink' device device' loaded =
    some-option (d.bytes device') (λ bytes. HoldsRows new bytes loaded.rows) (λ bytes. 0 + file_bytes new.geometry ≤ length bytes) (λ bytes held. omega (arith, held.size)) loaded.holds

module _ {S K D : Type 0} (g : source.Ghosts S) (h : sink.Ghosts K) (d : device.Ghosts D) (geometry : Geometry) (old new : Loading) (source source' : S) (sink sink1 sink' : K) (before begun-at mid now : D) (status : ℕ) (begun : HasBegun d geometry 0 before begun-at old)
    (spent : (d.counts begun-at).writes ≤ (d.counts before).writes + 0) where
  -- lines that stopped
  pub stopped : Spends (d.counts before) (d.counts mid) 0 (full_blocks geometry geometry.keys) 2
      → StopsBefore g h d (shape_of old.geometry.format old.geometry.keys) source source' sink sink1 begun-at mid status → LoadEndsBy g h d geometry source source' sink sink1 before mid status
  stopped spends stops =
      ends.Stopped (record {
        was_empty = begun.was_empty;
        between = begun-at;
        begun = begun.no_fault;
        stops = subst (λ (G : Geometry). StopsBefore g h d (shape_of G.format G.keys) source source' sink sink1 begun-at mid status) begun.geometry_is stops;
        spends = spends;
      })

  -- all lines
  pub ended : AreLoaded g h d old new source source' sink sink1 begun-at mid → LoadFinishes h d new sink1 sink' mid now status → full_blocks geometry new.rows + (device_levels geometry + 2) ≤ most_writes geometry new.rows
      → LoadEndsBy g h d geometry source source' sink sink' before now status
  ended loaded (inl finished) few = ends.Loaded (record {
    was_empty = begun.was_empty;
    rows = loaded.rows;
    read = subst (λ (G : Geometry). ReadToEnd g h source source' sink sink (λ lines. HaveNoWord (shape_of G.format G.keys) lines × (loaded.rows ≡ loaded_rows (shape_of G.format G.keys) lines))) begun.geometry_is loaded.read;
    filled =
        subst (λ (G : Geometry). IfSome (d.bytes now) (IsFilledWith G 0 loaded.rows)) (loaded.geometry_stays ∙ begun.geometry_is)
        (subst (λ n. IfSome (d.bytes now) (IsFilledWith new.geometry n loaded.rows)) (loaded.last_stays ∙ begun.last_is) (finished.filled loaded.rows loaded.holds));
    settled = finished.settled;
    few_writes =
        let levels : device_levels new.geometry ≡ device_levels geometry = ap device_levels (loaded.geometry_stays ∙ begun.geometry_is) in
        let blocks : full_blocks old.geometry (length loaded.rows) ≡ full_blocks geometry new.rows = ap (λ (G : Geometry). full_blocks G (length loaded.rows)) begun.geometry_is ∙ ap (full_blocks geometry) (sym loaded.many) in
        let most : most_writes geometry new.rows ≡ most_writes geometry (length loaded.rows) = ap (most_writes geometry) loaded.many in
        omega (arith, spent, loaded.few_writes, finished.few_writes, levels, blocks, most, few);
    no_fault = finished.no_fault ∙ loaded.no_fault ∙ begun.no_fault;
    wrote =
        subst (λ (k : K). LineEnds h (loaded_line (length loaded.rows)) 0 k sink' status) loaded.sink_stays
        (subst (λ n. LineEnds h (loaded_line n) 0 sink1 sink' status) loaded.many finished.wrote);
  })
  ended loaded (inr failed) few = ends.AtEnd failed.status_is (record {
    was_empty = begun.was_empty;
    rows = loaded.rows;
    read = subst (λ (G : Geometry). ReadToEnd g h source source' sink sink (λ lines. HaveNoWord (shape_of G.format G.keys) lines × (loaded.rows ≡ loaded_rows (shape_of G.format G.keys) lines))) begun.geometry_is loaded.read;
    left =
        subst (λ (G : Geometry). IfSome (d.bytes now) (IsUnfinished G 0 loaded.rows)) (loaded.geometry_stays ∙ begun.geometry_is)
        (subst (λ n. IfSome (d.bytes now) (IsUnfinished new.geometry n loaded.rows)) (loaded.last_stays ∙ begun.last_is) (failed.left loaded.rows loaded.holds));
    sink_stays = failed.sink_stays ∙ loaded.sink_stays;
    cause = subst (λ n. Rose n (d.counts now).faults) (loaded.no_fault ∙ begun.no_fault) failed.cause;
  })
