-- Each number that `serve` ends with is that of a status.
use Rattle.std.proofs.Common.{◌≡◌, ◌∙◌, ℕ, zero, suc, Bool, List, Option, Some, None, Result, Ok, Err}
use Rattle.cola_cell.specs.declared.format.Format.{Format}
use Rattle.cola_device.specs.declared.device.Device as device
use Rattle.cola_io.specs.declared.source.Source as source
use Rattle.cola_io.specs.declared.sink.Sink as sink
use Rattle.cola_mirror.specs.declared.fault.RebuildFault.{RebuildFault}
use Rattle.cola_mirror.specs.declared.fault.RebuildFault.TheVariants as rebuild
use Rattle.cola_mirror.specs.declared.sides.Sides.{Sides}
use Rattle.cola_mirror.specs.declared.sides.Sides.TheVariants.{Both, First, Second}
use Rattle.cola_spec.specs.Lines.{Line}
use Rattle.cola_wide.specs.declared.fault.UpgradeFault.{UpgradeFault}
use Rattle.cola_wide.specs.declared.fault.UpgradeFault.TheVariants as upgrade
use Rattle.cola_words.specs.declared.mode.Mode.{Mode}
use Rattle.cola_words.specs.declared.mode.Mode.TheVariants.{Mem, Create, Run, Gen, Upgrade, Check, Load, Grow, Rebuild}
use Rattle.cola_status.specs.declared.status.Status.TheVariants as known
use Rattle.cola_status.specs.Statuses.{IsStatus}
use Rattle.cola_status.proofs.Known.{one}
use Rattle.cola_workload.proofs.Known.{opening-known, gen-known}
use Rattle.cola_filling.proofs.Known.{load-known, grow-known}
use Rattle.cola_session.specs.Ends.{Ending, SessionEnds, NotBegun, Status0, Status3, Status4, Status5, Status9}
use Rattle.cola_check.specs.declared.fault.CheckFault.{CheckFault}
use Rattle.cola_check.specs.declared.fault.CheckFault.TheVariants as check
use Rattle.cola_report.specs.Line.LineEnds.{WroteLine, WroteFront}
use Rattle.cola_verdict.specs.declared.verdict.Verdict.{Verdict}
use Rattle.cola_verdict.specs.declared.verdict.Verdict.TheVariants.{Sound, Broken}
use Rattle.cola_command.specs.Checked.{verdict_status, check_status, CheckEnds}
use Rattle.cola_command.specs.Checked.CheckEnds.{Judged, NotJudged}
use Rattle.cola_command.specs.Mirrored.{mirrored_status, rebuild_status, MirrorEnds, NotCompared, Differ, Mirrored}
use Rattle.cola_command.specs.Serves as made
use Rattle.cola_command.specs.Serves.{CreateEnds, Serves, upgrade_status}

-- ---- an upgrade

upgrade-known : (answer : Result (Unit {0}) UpgradeFault) (n : ℕ) → n ≡ upgrade_status answer → IsStatus n
upgrade-known (Ok done) n is = one known.Done n is
upgrade-known (Err upgrade.Small) n is = one known.NotStore n is
upgrade-known (Err upgrade.NotStore) n is = one known.NotStore n is
upgrade-known (Err upgrade.Already) n is = one known.AlreadyWide n is
upgrade-known (Err upgrade.NotClosed) n is = one known.NotClosed n is
upgrade-known (Err upgrade.OutOfMemory) n is = one known.OutOfMemory n is
upgrade-known (Err upgrade.NotEmpty) n is = one known.NotEmpty n is
upgrade-known (Err upgrade.Device) n is = one known.DeviceFailed n is
upgrade-known (Err (upgrade.BadCell cell)) n is = one known.BadCell n is

rebuild-known : (answer : Result (Unit {0}) RebuildFault) (n : ℕ) → n ≡ rebuild_status answer → IsStatus n
rebuild-known (Ok done) n is = one known.Done n is
rebuild-known (Err rebuild.Small) n is = one known.NotStore n is
rebuild-known (Err rebuild.NotStore) n is = one known.NotStore n is
rebuild-known (Err rebuild.NotClosed) n is = one known.NotClosed n is
rebuild-known (Err (rebuild.Other many)) n is = one known.NotEmpty n is
rebuild-known (Err rebuild.Device) n is = one known.DeviceFailed n is

check-known : (fault : CheckFault) (n : ℕ) → n ≡ check_status fault → IsStatus n
check-known check.NotStore n is = one known.NotStore n is
check-known check.NotClosed n is = one known.NotClosed n is
check-known check.Small n is = one known.NotStore n is
check-known check.Device n is = one known.DeviceFailed n is
check-known check.OutOfMemory n is = one known.OutOfMemory n is

verdict-known : (verdict : Verdict) (n : ℕ) → n ≡ verdict_status verdict → IsStatus n
verdict-known (Sound keys) n is = one known.Done n is
verdict-known (Broken why level cell) n is = one known.Broken n is

mirrored-known : (of_lines : ℕ) (sides : Sides) (n : ℕ) → n ≡ mirrored_status of_lines sides → IsStatus of_lines → IsStatus n
mirrored-known zero Both n is known_so = one known.Done n is
mirrored-known zero First n is known_so = one known.SecondLost n is
mirrored-known zero Second n is known_so = one known.FirstLost n is
mirrored-known (suc of_lines) sides n is known_so = one known_so.which n (is ∙ known_so.is)

-- ---- modes

module _ {S K D : Type 0} (g : source.Ghosts S) (h : sink.Ghosts K) (d : device.Ghosts D) where
  session-known : (source source' : S) (sink sink' : K) (R : ℕ → Type 0) (B : Ending → List Line → Type 0) (F : List Line → Line → Type 0) → ((n : ℕ) → R n → IsStatus n) → (n : ℕ) → SessionEnds g h source source' sink sink' R B F n → IsStatus n
  session-known source source' sink sink' R B F refused n (NotBegun r) = refused n r
  session-known source source' sink sink' R B F refused n (Status0 is r) = one known.Done n is
  session-known source source' sink sink' R B F refused n (Status3 is r) = one known.SourceFailed n is
  session-known source source' sink sink' R B F refused n (Status4 is r) = one known.SinkFailed n is
  session-known source source' sink sink' R B F refused n (Status5 is r) = one known.DeviceFailed n is
  session-known source source' sink sink' R B F refused n (Status9 is r) = one known.Spent n is

  created-known : (format : Format) (keys block_exp : ℕ) (device device' : D) (n : ℕ) → CreateEnds d format keys block_exp device device' n → IsStatus n
  created-known format keys block_exp device device' n (made.Status0 is r) = one known.Done n is
  created-known format keys block_exp device device' n (made.Status5 is r) = one known.DeviceFailed n is
  created-known format keys block_exp device device' n (made.Status8 is r) = one known.NotEmpty n is

  checked-known : (device device' : D) (sink sink' : K) (steps steps' n : ℕ) → CheckEnds h d device device' sink sink' steps steps' n → IsStatus n
  checked-known device device' sink sink' steps steps' n (Judged verdict checks (WroteLine is wrote counted)) = verdict-known verdict n is
  checked-known device device' sink sink' steps steps' n (Judged verdict checks (WroteFront is k wrote counted)) = one known.SinkFailed n is
  checked-known device device' sink sink' steps steps' n (NotJudged fault is checks stays) = check-known fault n is

  mirror-known : (cache : ℕ) (cost : Bool) (source source' : S) (sink sink' : K) (device device' second second' : D) (steps steps' n : ℕ) → MirrorEnds g h d cache cost source source' sink sink' device device' second second' steps steps' n → IsStatus n
  mirror-known cache cost source source' sink sink' device device' second second' steps steps' n (NotCompared is why compared) = one known.DeviceFailed n is
  mirror-known cache cost source source' sink sink' device device' second second' steps steps' n (Differ is place compared) = one known.FilesDiffer n is
  mirror-known cache cost source source' sink sink' device device' second second' steps steps' n (Mirrored mirrored) =
      mirrored-known mirrored.of_lines mirrored.last.sides n mirrored.status_is
      (session-known source source' sink sink' _ _ _ (λ n refused. opening-known refused.why n refused.status_is) mirrored.of_lines mirrored.ends)

  pub served-known : (source source' : S) (sink sink' : K) (device device' second second' : D) (steps steps' n : ℕ) (mode : Option Mode) → Serves g h d source source' sink sink' device device' second second' steps steps' n mode → IsStatus n
  served-known source source' sink sink' device device' second second' steps steps' n None served = one known.WrongWords n served.status_is
  served-known source source' sink sink' device device' second second' steps steps' n (Some (Mem keys)) served = session-known source source' sink sink' _ _ _ (λ n refused. one known.OutOfMemory n refused.0) n served.ends
  served-known source source' sink sink' device device' second second' steps steps' n (Some (Create keys block_exp format)) served = created-known format keys block_exp device device' n served.ends
  served-known source source' sink sink' device device' second second' steps steps' n (Some (Run cache cost None)) served = session-known source source' sink sink' _ _ _ (λ n refused. opening-known refused.why n refused.status_is) n served.ends
  served-known source source' sink sink' device device' second second' steps steps' n (Some (Run cache cost (Some place))) served = mirror-known cache cost source source' sink sink' device device' second second' steps steps' n served.ends
  served-known source source' sink sink' device device' second second' steps steps' n (Some (Gen keys)) served = gen-known h d keys device device' sink sink' steps steps' n served.ends
  served-known source source' sink sink' device device' second second' steps steps' n (Some Upgrade) served = upgrade-known served.ends.answer n served.ends.status_is
  served-known source source' sink sink' device device' second second' steps steps' n (Some Check) served = checked-known device device' sink sink' steps steps' n served.ends
  served-known source source' sink sink' device device' second second' steps steps' n (Some (Load keys block_exp format)) served = load-known g h d keys block_exp format source source' sink sink' device device' n served.ends
  served-known source source' sink sink' device device' second second' steps steps' n (Some (Grow keys block_exp)) served = grow-known h d keys block_exp device device' second second' sink sink' steps steps' n served.ends
  served-known source source' sink sink' device device' second second' steps steps' n (Some Rebuild) served = rebuild-known served.ends.answer n served.ends.status_is
