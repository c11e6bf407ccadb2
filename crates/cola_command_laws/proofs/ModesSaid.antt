-- How the modes end that test, upgrade and rebuild a file, by the status, in plain terms.
use Rattle.std.proofs.Common.{◌≡◌, ◌⊎◌, inl, inr, ℕ, Result, Ok, Err, refl}
use Rattle.std.specs.Prelude.{IsOk}
use Rattle.cola_check.specs.declared.fault.CheckFault.{CheckFault}
use Rattle.cola_check.specs.declared.fault.CheckFault.TheVariants as check
use Rattle.cola_check.specs.Check.{Checks}
use Rattle.cola_device.specs.declared.device.Device as device
use Rattle.cola_io.specs.declared.sink.Sink as sink
use Rattle.cola_mirror.specs.declared.fault.RebuildFault.{RebuildFault}
use Rattle.cola_mirror.specs.declared.fault.RebuildFault.TheVariants as rebuild
use Rattle.cola_mirror.specs.Rebuild.{Rebuilds}
use Rattle.cola_report.specs.Line.{LineEnds}
use Rattle.cola_report.specs.Line.LineEnds.{WroteLine, WroteFront}
use Rattle.cola_verdict.specs.declared.verdict.Flaw.{Flaw}
use Rattle.cola_verdict.specs.declared.verdict.Flaw.TheVariants as flaw
use Rattle.cola_verdict.specs.declared.verdict.Verdict.{Verdict}
use Rattle.cola_verdict.specs.declared.verdict.Verdict.TheVariants.{Sound, Broken}
use Rattle.cola_wide.specs.declared.fault.UpgradeFault.{UpgradeFault}
use Rattle.cola_wide.specs.declared.fault.UpgradeFault.TheVariants as upgrade
use Rattle.cola_wide.specs.Upgrade.{Upgrades, IsDoneForMemory}
use Rattle.cola_command.specs.Checked.{flaw_word, verdict_line, verdict_status, check_status, CheckEnds, Judged, NotJudged}
use Rattle.cola_command.specs.Mirrored.{rebuild_status}
use Rattle.cola_command.specs.Serves.{upgrade_status}
use Rattle.cola_command_laws.specs.CheckLaws as tested
use Rattle.cola_command_laws.specs.CheckLaws.{IsCalled, CheckAnswers}
use Rattle.cola_command_laws.specs.UpgradeLaws as wide
use Rattle.cola_command_laws.specs.UpgradeLaws.{UpgradeAnswers}
use Rattle.cola_command_laws.specs.RebuildLaws as again
use Rattle.cola_command_laws.specs.RebuildLaws.{RebuildAnswers}

called : (why : Flaw) → IsCalled why (flaw_word why)
called flaw.Cell = refl
called flaw.Order = refl
called flaw.Sample = refl
called flaw.Length = refl
called flaw.Shadow = refl
called flaw.Live = refl
called flaw.Count = refl
called flaw.Stamp = refl

module _ {K D : Type 0} (h : sink.Ghosts K) (d : device.Ghosts D) (device device' : D) (sink sink' : K) (steps steps' : ℕ) (status : ℕ) where
  abbrev Answers : Type 0
  Answers = CheckAnswers h d device device' sink sink' steps steps' status

  judged : (verdict : Verdict) → Checks d device device' steps steps' (Ok verdict) → LineEnds h (verdict_line verdict) (verdict_status verdict) sink sink' status → Answers
  judged (Sound keys) checks (WroteLine is wrote counted) = tested.IsSound is (keys, (checks, (wrote, counted)))
  judged (Sound keys) checks (WroteFront is n wrote counted) = tested.SinkStops is (inl (keys, (checks, ((n, wrote), counted))))
  judged (Broken why level cell) checks (WroteLine is wrote counted) = tested.IsBroken is (why, (flaw_word why, (level, (cell, (called why, (checks, (wrote, counted)))))))
  judged (Broken why level cell) checks (WroteFront is n wrote counted) = tested.SinkStops is (inr (why, (flaw_word why, (level, (cell, (called why, (checks, ((n, wrote), counted))))))))

  unjudged : (fault : CheckFault) → status ≡ check_status fault → Checks d device device' steps steps' (Err fault) → sink' ≡ sink → Answers
  unjudged check.NotStore is checks stays = tested.NoStore is (inl (checks, stays))
  unjudged check.NotClosed is checks stays = tested.InUse is (checks, stays)
  unjudged check.Small is checks stays = tested.NoStore is (inr (checks, stays))
  unjudged check.Device is checks stays = tested.DeviceStops is (checks, stays)
  unjudged check.OutOfMemory is checks stays = tested.NoMemory is (checks, stays)

  pub checked : CheckEnds h d device device' sink sink' steps steps' status → Answers
  checked (Judged verdict checks wrote) = judged verdict checks wrote
  checked (NotJudged fault is checks stays) = unjudged fault is checks stays

module _ {D : Type 0} (d : device.Ghosts D) (device device' second second' : D) (status : ℕ) where
  pub upgraded : (answer : Result (Unit {0}) UpgradeFault) → status ≡ upgrade_status answer → Upgrades d d device device' second second' answer → UpgradeAnswers d device device' second second' status
  upgraded (Ok x) is all = wide.Upgraded is all
  upgraded (Err upgrade.Small) is all = wide.NoStore is (inr all)
  upgraded (Err upgrade.NotStore) is all = wide.NoStore is (inl all)
  upgraded (Err upgrade.Already) is all = wide.AlreadyWide is all
  upgraded (Err upgrade.NotClosed) is all = wide.InUse is all
  upgraded (Err upgrade.OutOfMemory) is all = wide.NoMemory is all
  upgraded (Err upgrade.NotEmpty) is all = wide.NotEmpty is all
  upgraded (Err upgrade.Device) is all = wide.DeviceStops is all
  upgraded (Err (upgrade.BadCell cell)) is all = wide.Damaged is cell all

  pub rebuilt : (answer : Result (Unit {0}) RebuildFault) → status ≡ rebuild_status answer → Rebuilds d d device device' second second' answer → RebuildAnswers d device device' second second' status
  rebuilt (Ok x) is all = again.Rebuilt is all
  rebuilt (Err rebuild.Small) is all = again.NoStore is (inr all)
  rebuilt (Err rebuild.NotStore) is all = again.NoStore is (inl all)
  rebuilt (Err rebuild.NotClosed) is all = again.InUse is all
  rebuilt (Err (rebuild.Other many)) is all = again.OtherSize is many all
  rebuilt (Err rebuild.Device) is all = again.DeviceStops is all

pub upgrade-done : (status : ℕ) (answer : Result (Unit {0}) UpgradeFault) → status ≡ upgrade_status answer → IsDoneForMemory answer → (status ≡ 0) ⊎ (status ≡ 1)
upgrade-done status (Ok x) is done = inl is
upgrade-done status (Err upgrade.Small) is done = absurd done
upgrade-done status (Err upgrade.NotStore) is done = absurd done
upgrade-done status (Err upgrade.Already) is done = absurd done
upgrade-done status (Err upgrade.NotClosed) is done = absurd done
upgrade-done status (Err upgrade.OutOfMemory) is done = inr is
upgrade-done status (Err upgrade.NotEmpty) is done = absurd done
upgrade-done status (Err upgrade.Device) is done = absurd done
upgrade-done status (Err (upgrade.BadCell cell)) is done = absurd done

pub rebuild-done : (status : ℕ) (answer : Result (Unit {0}) RebuildFault) → status ≡ rebuild_status answer → IsOk answer → status ≡ 0
rebuild-done status (Ok x) is done = is
rebuild-done status (Err fault) is done = cc
