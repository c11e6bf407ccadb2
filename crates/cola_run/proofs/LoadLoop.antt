-- What holds while the shadows are loaded, and while the tails are written.
use Rattle.std.proofs.Common.{◌≡◌, ◌<◌, ◌≤◌, ℕ, List, length, Option, Ok}
use Rattle.cola_cell.specs.declared.sink.Shadow.{Shadow}
use Rattle.cola_cell.specs.Flat.{shadow_at}
use Rattle.cola_device.specs.declared.counts.Counts.{Counts}
use Rattle.cola_device.specs.declared.device.DeviceFault.{DeviceFault}
use Rattle.cola_layout.specs.declared.geometry.Geometry.{Geometry}
use Rattle.cola_layout.specs.declared.header.Header.{Header}
use Rattle.cola_cache.specs.Blocks.{Blocks}
use Rattle.cola_run.specs.Saving.{header_shadow}
use Rattle.cola_run.specs.Loading.{IsReading, IsWriting, StaySound, StayRead, AreSavedBelow}

-- the shadows of the levels below this one were loaded
pub record LoadedBelow {D K : Type 0} (bytes : D → Option (List ℕ)) (counts : D → Counts) (kept : D → K) (geometry : Geometry) (header : Header) (before now : Blocks D) (shadows shadows_now : List Shadow) (tails tails_now : List ℕ) (level : ℕ) : Type 0 where
  pub loaded : (l : ℕ) → l < level → shadow_at shadows_now l ≡ header_shadow header l
  pub sound : StaySound geometry (record { told = bytes before.cache.device; shadows = shadows; tails = tails }) (record { told = bytes now.cache.device; shadows = shadows_now; tails = tails_now })
  pub shadows_many : length shadows_now ≡ length shadows
  pub tails_many : length tails_now ≡ length tails
  pub reading : IsReading {T = Unit {0}} {E = DeviceFault} bytes counts kept before now level (Ok tt)

-- the tails of the levels below this one were written
pub record SavedBelow {D K : Type 0} (bytes : D → Option (List ℕ)) (counts : D → Counts) (kept : D → K) (geometry : Geometry) (before now : Blocks D) (shadows shadows_now : List Shadow) (tails : List ℕ) (level : ℕ) : Type 0 where
  pub saved : AreSavedBelow geometry shadows_now level
  pub rest : (l : ℕ) → level ≤ l → shadow_at shadows_now l ≡ shadow_at shadows l
  pub sound : StaySound geometry (record { told = bytes before.cache.device; shadows = shadows; tails = tails }) (record { told = bytes now.cache.device; shadows = shadows_now; tails = tails })
  pub stays : StayRead geometry (record { told = bytes before.cache.device; shadows = shadows; tails = tails }) (record { told = bytes now.cache.device; shadows = shadows_now; tails = tails })
  pub shadows_many : length shadows_now ≡ length shadows
  pub writing : IsWriting {T = Unit {0}} {E = DeviceFault} counts kept before now level 0 (Ok tt)
