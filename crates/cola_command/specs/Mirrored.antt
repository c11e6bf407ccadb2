-- How a session over two files with the same bytes ends, and how one file is made equal to another.
use Rattle.std.specs.Prelude.{ℕ, zero, suc, ◌≡◌, Bool, Option, Some, None, Result, Ok, Err, IsOk}
use Rattle.cola_device.specs.declared.device.Device as device
use Rattle.cola_device.specs.declared.device.DeviceFault.{DeviceFault}
use Rattle.cola_io.specs.declared.source.Source as source
use Rattle.cola_io.specs.declared.sink.Sink as sink
use Rattle.cola_mirror.specs.declared.fault.RebuildFault.{RebuildFault}
use Rattle.cola_mirror.specs.declared.fault.RebuildFault.TheVariants as rebuild
use Rattle.cola_mirror.specs.declared.sides.Sides.{Sides}
use Rattle.cola_mirror.specs.declared.sides.Sides.TheVariants.{Both, First, Second}
use Rattle.cola_mirror.specs.Differ.{first_difference, Compares, OnlyCompared}
use Rattle.cola_mirror.specs.Mirror.{Pair, IsSound}
use Rattle.cola_mirror.specs.Device.{mirror_device, new_pair}
use Rattle.cola_mirror.specs.Rebuild.{Rebuilds, OnlyCopied, CanBeRebuilt}
use Rattle.cola_session.specs.Ends.{Untouched}
use Rattle.cola_command.specs.Headline.{FileEnds}

-- the status of a session over two files, by that of its lines and the sides that are in use at the end: in place of 0 alone, 17 where the first is lost, and 18 where the second is
abbrev pub mirrored_status : ℕ → Sides → ℕ
mirrored_status zero Both = 0
mirrored_status zero First = 18
mirrored_status zero Second = 17
mirrored_status (suc status) sides = suc status

-- the status of a rebuild
abbrev pub rebuild_status : Result (Unit {0}) RebuildFault → ℕ
rebuild_status (Ok _) = 0
rebuild_status (Err rebuild.Small) = 6
rebuild_status (Err rebuild.NotStore) = 6
rebuild_status (Err rebuild.NotClosed) = 7
rebuild_status (Err (rebuild.Other many)) = 8
rebuild_status (Err rebuild.Device) = 5

-- how a rebuild ends: by its answer, with its cause and what both devices have then; the first device is never written. Where its file is that of a closed store and the second device is empty or has as many bytes, and no count of faults rose, it is done
pub record RebuildEnds {D : Type 0} (d : device.Ghosts D) (device device' second second' : D) (status : ℕ) : Type 0 where
  pub answer : Result (Unit {0}) RebuildFault
  pub status_is : status ≡ rebuild_status answer
  pub rebuilds : Rebuilds d d device device' second second' answer
  pub only_copied : OnlyCopied d d device device' second second'
  pub complete : CanBeRebuilt d d device device' second second' → IsOk answer

module _ {S K D : Type 0} (g : source.Ghosts S) (h : sink.Ghosts K) (d : device.Ghosts D) (cache : ℕ) (cost : Bool) (source source' : S) (sink sink' : K) (device device' second second' : D) (steps steps' : ℕ) where
  -- the two devices were compared, with this answer, and nothing else was touched
  pub record IsCompared (answer : Result (Option ℕ) DeviceFault) : Type 0 where
    pub compares : Compares d d device device' second second' first_difference answer
    pub only_compared : OnlyCompared d d device device' second second'
    pub untouched : Untouched source source' sink sink' steps steps'

  -- they were compared and have the same bytes, and a session was served over the mirror of both, which gave them back
  pub record IsMirrored (status : ℕ) : Type 0 where
    pub first : D
    pub other : D
    pub compares : Compares d d device first second other first_difference (Ok None)
    pub only_compared : OnlyCompared d d device first second other
    pub last : Pair D D
    pub of_lines : ℕ
    pub ends : FileEnds g h (mirror_device d d) cache cost source source' sink sink' (new_pair d d first other) last steps steps' of_lines
    pub sound : IsSound d d last
    pub device_is : device' ≡ last.first
    pub second_is : second' ≡ last.second
    pub status_is : status ≡ mirrored_status of_lines last.sides

  -- how a session over two files ends: 5 where one failed as they were compared, 16 where they differ, and else as the session over their mirror does
  pub data MirrorEnds (status : ℕ) : Type 0 where
    NotCompared : status ≡ 5 → (fault : DeviceFault) → IsCompared (Err fault) → MirrorEnds status
    Differ : status ≡ 16 → (place : ℕ) → IsCompared (Ok (Some place)) → MirrorEnds status
    Mirrored : IsMirrored status → MirrorEnds status
