-- The visible runs of a file, level by level: what their tests found, and the first of the levels that fail each.
use Rattle.std.specs.Prelude.{◌≡◌, ◌↔◌, ℕ, suc, ◌*◌, ◌^◌, ◌≤◌, ◌<◌, Bool, cond, IsTrue, Option, Some, None, IfSome}
use Rattle.cola_cell.specs.declared.cell.Run.{Run}
use Rattle.cola_cell.specs.Places.{slot_size}
use Rattle.cola_layout.specs.declared.header.Header.{Header}
use Rattle.cola_verdict.specs.Tests.{Tested, levels_in, level_at, EndsOrder, OrderAt, SampleAt, LengthAt}
use Rattle.cola_check.specs.declared.firsts.FirstFlaws.{FirstFlaws}
use Rattle.cola_check.specs.declared.visible.Few.{Few}
use Rattle.cola_check.specs.declared.visible.Few.TheVariants.{Items, Cells}
use Rattle.cola_check.specs.declared.visible.RunTests.{RunTests}
use Rattle.cola_check.specs.Found.{visible_of}
use Rattle.cola_check.specs.Prefix.{OrderIs}

-- the visible run below that of a level, if there is one
pub record IsBelow (header : Header) (level : ℕ) (below : Option Run) : Type 0 where
  pub above : level < header.geometry.bottom → below ≡ Some (visible_of header (suc level))
  pub bottom : header.geometry.bottom ≤ level → below ≡ None

-- how few cells a run of a level may have in periods of this parity, and at the bottom by the keys of the store
pub record AreFewAt (header : Header) (level : ℕ) (odd : Bool) (few : Few) : Type 0 where
  pub above : level < header.geometry.bottom → few ≡ Items (cond odd 3 2 * 2 ^ level) (2 ^ level)
  pub bottom : header.geometry.bottom ≤ level → few ≡ Cells header.geometry.keys

-- the order of the visible run of a level ends with the cell of this index
abbrev pub OrderEndsAt : Tested → ℕ → ℕ → Type 0
OrderEndsAt file level index = EndsOrder (level_at (levels_in file) level).visible index

-- a flaw of a whole run is laid to its first cell
abbrev pub IsAtFirst : ℕ → ℕ → Type 0
IsAtFirst level index = index ≡ 0

-- what the tests of the visible run of a level found
pub record AreTestsAt (file : Tested) (level : ℕ) (tests : RunTests) : Type 0 where
  pub order : OrderIs (level_at (levels_in file) level).visible tests.disorder
  pub sampled : IsTrue tests.is_sampled ↔ SampleAt file level
  pub few : IsTrue tests.has_few ↔ LengthAt file level

-- the first level above one that fails a test, by its number, and the index at which it does
pub record IsFirstFlaw (passes : ℕ → Type 0) (at : ℕ → ℕ → Type 0) (levels : ℕ) (found : ℕ × ℕ) : Type 0 where
  pub within : found.0 < levels
  pub fails : passes found.0 → ⊥
  pub before : (j : ℕ) → j < found.0 → passes j
  pub index_is : at found.0 found.1

-- all levels above one pass a test, or this is the first that does not, and where
abbrev pub FindsFirst : (ℕ → Type 0) → (ℕ → ℕ → Type 0) → ℕ → Option (ℕ × ℕ) → Type 0
FindsFirst passes at levels None = (j : ℕ) → j < levels → passes j
FindsFirst passes at levels (Some found) = IsFirstFlaw passes at levels found

-- the first flaws of the levels above one, by each test
pub record AreFirstFlaws (file : Tested) (levels : ℕ) (flaws : FirstFlaws) : Type 0 where
  pub order : FindsFirst (OrderAt file) (OrderEndsAt file) levels flaws.order
  pub sample : FindsFirst (SampleAt file) IsAtFirst levels flaws.sample
  pub length : FindsFirst (LengthAt file) IsAtFirst levels flaws.length

-- a place of a slot of a level above one
pub record IsPlaceAbove (levels : ℕ) (place : ℕ × ℕ) : Type 0 where
  pub level_in : place.0 < levels
  pub index_in : place.1 < slot_size place.0

-- the flaws are laid to places of the levels above one
pub record ArePlaced (levels : ℕ) (flaws : FirstFlaws) : Type 0 where
  pub order : IfSome flaws.order (IsPlaceAbove levels)
  pub sample : IfSome flaws.sample (IsPlaceAbove levels)
  pub length : IfSome flaws.length (IsPlaceAbove levels)
