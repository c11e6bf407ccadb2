-- A file that had a byte stays, however a mode ends that makes a new one.
use Rattle.std.proofs.Common.{◌≡◌, inl, inr, ℕ, ◌<◌, List, length, Option, Some, None, Result, Ok, Err, ap, arith}
use Rattle.std.specs.Prelude.{IfSome, IsSomeAnd}
use Rattle.cola_outside.specs.Told.{Both}
use Rattle.cola_cell.specs.declared.format.Format.{Format}
use Rattle.cola_cell.specs.declared.format.Format.TheVariants.{One}
use Rattle.cola_cursor.specs.declared.cursor.Cursor.{Cursor}
use Rattle.cola_device.specs.declared.device.Device as device
use Rattle.cola_io.specs.declared.sink.Sink as sink
use Rattle.cola_store.specs.Create.{PartlyMade, Made, Created}
use Rattle.cola_store.specs.Store.{Stored}
use Rattle.cola_store.specs.declared.fault.CreateFault.{CreateFault}
use Rattle.cola_store.specs.declared.fault.CreateFault.TheVariants as create
use Rattle.cola_table.specs.declared.table.Table as table
use Rattle.cola_wide.specs.declared.fault.UpgradeFault.{UpgradeFault}
use Rattle.cola_wide.specs.declared.fault.UpgradeFault.TheVariants as upgrade
use Rattle.cola_wide.specs.Upgrade.{Upgrades}
use Rattle.cola_workload.specs.Workload.{FillingRefused, NotMade, NotOpened, NotFilled, NotClosed, GenEnds, FillDone, FillRefused}
use Rattle.cola_command.specs.Serves.{CreateEnds, Status0, Status5, Status8}

none-empty : (told : Option (List ℕ)) → IsSomeAnd told (λ bytes. 0 < length bytes) → IfSome told (λ bytes. length bytes ≡ 0) → ⊥
none-empty None some none = some
none-empty (Some bytes) some none = omega (arith, some, none)

-- a part of a file is made only where there was no byte
partly : (size : ℕ) (told now : Option (List ℕ)) → IsSomeAnd told (λ bytes. 0 < length bytes) → Both told now (PartlyMade size) → now ≡ told
partly size None now some made = absurd some
partly size (Some bytes) None some made = absurd made
partly size (Some bytes) (Some new) some made = ap (λ (b : List ℕ). Some b) (made.others_stay some)

module _ {D : Type 0} (d : device.Ghosts D) (format : Format) (keys block_exp : ℕ) (before now : D) where
  not-made : IsSomeAnd (d.bytes before) (λ bytes. 0 < length bytes) → Made d format keys block_exp before now → ⊥
  not-made some made = none-empty (d.bytes before) some made.was_empty

  pub create-stays : (status : ℕ) → IsSomeAnd (d.bytes before) (λ bytes. 0 < length bytes) → CreateEnds d format keys block_exp before now status → d.bytes now ≡ d.bytes before
  create-stays status some (Status0 is made) = absurd (not-made some made)
  create-stays status some (Status5 is failed) = partly _ (d.bytes before) (d.bytes now) some failed.left
  create-stays status some (Status8 is was) = was.bytes_stay

  created-stays : (fault : CreateFault) → IsSomeAnd (d.bytes before) (λ bytes. 0 < length bytes) → Created d format keys block_exp before now (Err fault) → d.bytes now ≡ d.bytes before
  created-stays create.Keys some was = ap (λ (x : D). d.bytes x) was.untouched
  created-stays create.Block some was = ap (λ (x : D). d.bytes x) was.untouched
  created-stays create.NotEmpty some was = was.bytes_stay
  created-stays create.Device some was = partly _ (d.bytes before) (d.bytes now) some was.left

module _ {K D : Type 0} (k : sink.Ghosts K) (d : device.Ghosts D) (t : table.Ghosts (Stored D) Cursor) (keys : ℕ) (before now : D) (some : IsSomeAnd (d.bytes before) (λ bytes. 0 < length bytes)) (steps steps' status : ℕ) where
  made-stays : (made_on : D) → Made d One keys 5 before made_on → d.bytes now ≡ d.bytes before
  made-stays made_on made = absurd (not-made d One keys 5 before made_on some made)

  refused-stays : FillingRefused d t keys before now steps steps' status → d.bytes now ≡ d.bytes before
  refused-stays (NotMade fault is created same) = created-stays d One keys 5 before now fault some created
  refused-stays (NotOpened fault made_on is made opens same) = made-stays made_on made
  refused-stays (NotFilled fault made_on last is made filled closed same) = made-stays made_on made
  refused-stays (NotClosed made_on last is made filled closed same) = made-stays made_on made

  pub workload-stays : (sink sink' : K) → GenEnds k d t keys before now sink sink' steps steps' status → d.bytes now ≡ d.bytes before
  workload-stays sink sink' (FillDone filled between was asks) = made-stays was.made_on was.file
  workload-stays sink sink' (FillRefused refused same) = refused-stays refused

module _ {D : Type 0} (d : device.Ghosts D) (device device' second second' : D) (some : IsSomeAnd (d.bytes second) (λ bytes. 0 < length bytes)) where
  untouched : second' ≡ second → d.bytes second' ≡ d.bytes second
  untouched same = ap (λ (x : D). d.bytes x) same

  not-empty : IfSome (d.bytes second) (λ bytes. length bytes ≡ 0) → d.bytes second' ≡ d.bytes second
  not-empty none = absurd (none-empty (d.bytes second) some none)

  pub upgrade-stays : (answer : Result (Unit {0}) UpgradeFault) → Upgrades d d device device' second second' answer → d.bytes second' ≡ d.bytes second
  upgrade-stays (Ok x) all = not-empty all.1.was_empty
  upgrade-stays (Err upgrade.Small) all = untouched all.untouched
  upgrade-stays (Err upgrade.NotStore) all = untouched all.untouched
  upgrade-stays (Err upgrade.Already) all = untouched all.untouched
  upgrade-stays (Err upgrade.NotClosed) all = untouched all.untouched
  upgrade-stays (Err upgrade.OutOfMemory) all = untouched all.1.untouched
  upgrade-stays (Err upgrade.NotEmpty) all = all.1.had.bytes_stay
  upgrade-stays (Err upgrade.Device) (inl failed) = untouched failed.untouched
  upgrade-stays (Err upgrade.Device) (inr (header, inl failed)) = elim failed.failed.left [
    | inl same ↦ same
    | inr part ↦ not-empty part.0
  ]
  upgrade-stays (Err upgrade.Device) (inr (header, inr (inl was))) = not-empty was.was_empty
  upgrade-stays (Err upgrade.Device) (inr (header, inr (inr was))) = not-empty was.was_empty
  upgrade-stays (Err (upgrade.BadCell cell)) all = not-empty all.1.was_empty
