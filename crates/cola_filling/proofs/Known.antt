-- Each number that these modes end with is that of a status.
use Rattle.std.proofs.Common.{◌≡◌, ◌∙◌, ℕ, List, length, refl}
use Rattle.cola_cell.specs.declared.format.Format.{Format}
use Rattle.cola_device.specs.declared.device.Device as device
use Rattle.cola_io.specs.declared.source.Source as source
use Rattle.cola_io.specs.declared.sink.Sink as sink
use Rattle.cola_layout.specs.declared.geometry.Geometry.{Geometry}
use Rattle.cola_load.specs.declared.fault.LoadFault.{LoadFault}
use Rattle.cola_load.specs.declared.fault.LoadFault.TheVariants as load
use Rattle.cola_load.specs.declared.fault.GrowFault.{GrowFault}
use Rattle.cola_load.specs.declared.fault.GrowFault.TheVariants as grow
use Rattle.cola_report.specs.Line.LineEnds.{WroteLine, WroteFront}
use Rattle.cola_report.specs.Line.{LineEnds}
use Rattle.cola_status.specs.declared.status.Status.TheVariants as known
use Rattle.cola_status.specs.Statuses.{IsStatus}
use Rattle.cola_status.proofs.Known.{one}
use Rattle.cola_shapes.specs.Shapes.{shape_of}
use Rattle.cola_filling.specs.Loads as loads
use Rattle.cola_filling.specs.Loads.{LoadEnds, LoadEndsBy, StopsBefore, load_status, loaded_line, word_line}
use Rattle.cola_filling.specs.Grows.{GrowEnds, Grown, NotGrown, grow_status}

not-begun : (fault : LoadFault) (n : ℕ) → n ≡ load_status fault → IsStatus n
not-begun load.NotEmpty n is = one known.NotEmpty n is
not-begun load.OutOfMemory n is = one known.OutOfMemory n is
not-begun load.Device n is = one known.DeviceFailed n is

not-grown : (fault : GrowFault) (n : ℕ) → n ≡ grow_status fault → IsStatus n
not-grown grow.Small n is = one known.NotStore n is
not-grown grow.NotStore n is = one known.NotStore n is
not-grown grow.NotClosed n is = one known.NotClosed n is
not-grown (grow.Fewer count) n is = one known.TooFewKeys n is
not-grown grow.OutOfMemory n is = one known.OutOfMemory n is
not-grown (grow.BadCell number) n is = one known.BadCell n is
not-grown grow.NotEmpty n is = one known.NotEmpty n is
not-grown (grow.Disorder number) n is = one known.BadCell n is
not-grown grow.Device n is = one known.DeviceFailed n is

module _ {S K D : Type 0} (g : source.Ghosts S) (h : sink.Ghosts K) (d : device.Ghosts D) where
  by-line : (text : List ℕ) (success n : ℕ) (sink sink' : K) → IsStatus success → LineEnds h text success sink sink' n → IsStatus n
  by-line text success n sink sink' known_so (WroteLine is wrote counted) = record { which = known_so.which; is = is ∙ known_so.is }
  by-line text success n sink sink' known_so (WroteFront is k wrote counted) = one known.SinkFailed n is

  load-known-by : (geometry : Geometry) (source source' : S) (sink sink' : K) (device device' : D) (n : ℕ) → LoadEndsBy g h d geometry source source' sink sink' device device' n → IsStatus n
  load-known-by geometry source source' sink sink' device device' n (loads.NotBegun fault is begun) = not-begun fault n is
  load-known-by geometry source source' sink sink' device device' n (loads.Stopped s) = stopped-known s.stops
    where
      stopped-known : StopsBefore g h d (shape_of geometry.format geometry.keys) source source' sink sink' s.between device' n → IsStatus n
      stopped-known (loads.Status3 is why stopped) = one known.SourceFailed n is
      stopped-known (loads.Status5 is why) = one known.DeviceFailed n is
      stopped-known (loads.Status9 is why stopped) = one known.Spent n is
      stopped-known (loads.AtWord at) = by-line (word_line at.word) 14 n sink sink' (one known.BadLine 14 refl) at.wrote
  load-known-by geometry source source' sink sink' device device' n (loads.AtEnd is failed) = one known.DeviceFailed n is
  load-known-by geometry source source' sink sink' device device' n (loads.Loaded was) = by-line (loaded_line (length was.rows)) 0 n sink sink' (one known.Done 0 refl) was.wrote

  pub load-known : (keys block_exp : ℕ) (format : Format) (source source' : S) (sink sink' : K) (device device' : D) (n : ℕ) → LoadEnds g h d keys block_exp format source source' sink sink' device device' n → IsStatus n
  load-known keys block_exp format source source' sink sink' device device' n ends = load-known-by ends.geometry source source' sink sink' device device' n ends.ends

pub grow-known : {K D : Type 0} (h : sink.Ghosts K) (d : device.Ghosts D) (keys block_exp : ℕ) (device device' second second' : D) (sink sink' : K) (steps steps' n : ℕ) → GrowEnds h d keys block_exp device device' second second' sink sink' steps steps' n → IsStatus n
grow-known h d keys block_exp device device' second second' sink sink' steps steps' n (Grown rows grown (WroteLine is wrote counted)) = one known.Done n is
grow-known h d keys block_exp device device' second second' sink sink' steps steps' n (Grown rows grown (WroteFront is k wrote counted)) = one known.SinkFailed n is
grow-known h d keys block_exp device device' second second' sink sink' steps steps' n (NotGrown fault is grown stays) = not-grown fault n is
