-- What the calls by C on a load say of it, and what that is in plain terms: which number is answered when, and which rows the load has then.
use Rattle.std.specs.Prelude.{◌≡◌, ◌⊎◌, ℕ, ℤ, pos, ◌≤◌, ◌<◌, List, [], ◌∷◌, ◌++◌, length, Option, Some, None, Result, Ok, Err, IsSome}
use Rattle.cola_mapped.specs.declared.region.Region.{Region}
use Rattle.cola_mapped.specs.Region.{bytes_in}
use Rattle.cola_load.specs.Loading.{IsAbove}
use Rattle.cola_handle.specs.declared.answer.Answer.TheVariants.{Done}
use Rattle.cola_handle.specs.Numbers.{number}
use Rattle.cola_tools.specs.declared.fault.ToolFault.{ToolFault}
use Rattle.cola_tools.specs.New.{Place, place_of}
use Rattle.cola_tools.specs.Growing.{AreZero}
use Rattle.cola_tools.specs.Loading.{Pair, Loads, Holds, IsBegun, IsUnbegun, IsRow, Rows, Ends, Takes, LacksSizes, HasSizes, StandForPairs, geometry_of, place_in}
use Rattle.cola_c.specs.declared.load_handle.LoadHandle.{LoadHandle}
use Rattle.cola_c.specs.Tools.{fault_number}

-- this is said where the handle is closed
abbrev pub IfIdle : LoadHandle → Type 0 → Type 0
IfIdle handle Says = handle.owned.load ≡ None → Says

-- this is said where it is open, of the load behind it
abbrev pub IfLoading : LoadHandle → (Loads → Type 0) → Type 0
IfLoading handle Says = (load : Loads) → handle.owned.load ≡ Some load → Says load

-- where the bytes of a region lie
abbrev pub place_at : Region → Place
place_at region = place_in region.at region.len (bytes_in region.bytes)

module _ (keys block version : ℕ) (before : Region) where
  -- a load was begun in the bytes of a region
  abbrev pub BeginsLoad : Loads → Type 0
  BeginsLoad new = IsBegun keys block version (bytes_in before.bytes) (place_at before) new

  -- none was, and the region is as it was
  pub record IsLoadRefused (now : Region) (code : ℤ) : Type 0 where
    pub why : ToolFault
    pub number_is : code ≡ pos (fault_number why)
    pub cause : IsUnbegun keys block version (bytes_in before.bytes) why
    pub bytes_stay : now.bytes ≡ before.bytes
    pub at_stays : now.at ≡ before.at
    pub len_stays : now.len ≡ before.len

abbrev pub row_number : Result Unit ToolFault → ℕ
row_number (Ok answer) = number Done
row_number (Err why) = fault_number why

-- a row is answered, and the handle is still open
pub record AnswersRow (old : Loads) (key value : List ℕ) (after : LoadHandle) (code : ℤ) : Type 0 where
  pub new : Loads
  pub answer : Result Unit ToolFault
  pub is_open : after.owned.load ≡ Some new
  pub number_is : code ≡ pos (row_number answer)
  pub says : Rows old new key value answer

-- the region has the bytes, where they were, with the store of the rows
pub record EndsLoad (old : Loads) (region : Region) : Type 0 where
  pub made : Ends old (bytes_in region.bytes)
  pub lent : IsSome region.bytes
  pub place : place_at region ≡ place_of old.device

-- the handle is open, and its load has these rows
abbrev pub HasRows : LoadHandle → List Pair → Type 0
HasRows after rows = (new : Loads) × ((after.owned.load ≡ Some new) × Holds new rows)

-- Laws: each of these holds of what an export answers; where rows are named, the load had them

-- a beginning: the load has no rows, in bytes that were zero, and enough
abbrev pub LoadsBegin : Type 0
LoadsBegin = (keys block version : ℕ) (before : Region) (new : Loads) → BeginsLoad keys block version before new →
    Holds new [] × (AreZero (bytes_in before.bytes) × Takes keys block version (λ size. size ≤ length (bytes_in before.bytes)))

-- a refused one: 9 where there is no such store, 12 where the bytes are too few, 10 where one is not zero, 16 for want of memory; they stay
abbrev pub PlainLoadRefusal : (keys block version : ℕ) → (before : List ℕ) → ℤ → Type 0
PlainLoadRefusal keys block version before code =
    ((code ≡ pos 9) × LacksSizes keys block version)
    ⊎ (((code ≡ pos 12) × Takes keys block version (λ size. length before < size))
    ⊎ (((code ≡ pos 10) × (Takes keys block version (λ size. size ≤ length before) × (AreZero before → ⊥)))
    ⊎ ((code ≡ pos 16) × (Takes keys block version (λ size. size ≤ length before) × AreZero before))))

abbrev pub LoadRefusalsAreTold : Type 0
LoadRefusalsAreTold = (keys block version : ℕ) (before now : Region) (code : ℤ) → IsLoadRefused keys block version before now code →
    PlainLoadRefusal keys block version (bytes_in before.bytes) code × (now.bytes ≡ before.bytes)

-- a row: 0, and the load has it behind the others; 7 where the format has no room for it, 19 where its key is not above that of the last row, 3 where there are as many rows as the store is for, and the load has the rows that it had
abbrev pub PlainRow : Loads → List Pair → (key value : List ℕ) → LoadHandle → ℤ → Type 0
PlainRow old rows key value after code =
    ((code ≡ pos 0) × (IsRow (geometry_of old).format key value × (IsAbove old.loader.key key × HasRows after (rows ++ (key, value) ∷ []))))
    ⊎ (((code ≡ pos 7) × ((IsRow (geometry_of old).format key value → ⊥) × HasRows after rows))
    ⊎ (((code ≡ pos 19) × ((IsAbove old.loader.key key → ⊥) × HasRows after rows))
    ⊎ ((code ≡ pos 3) × ((length rows ≡ (geometry_of old).keys) × HasRows after rows))))

abbrev pub RowsAreLoaded : Type 0
RowsAreLoaded = (old : Loads) (rows : List Pair) (key value : List ℕ) (after : LoadHandle) (code : ℤ) → Holds old rows →
    AnswersRow old key value after code → PlainRow old rows key value after code

-- an end: the bytes stand for the map with these pairs and no others, and so many rows are told
abbrev pub LoadsEnd : Type 0
LoadsEnd = (old : Loads) (rows : List Pair) (region : Region) (many : ℕ) → Holds old rows → EndsLoad old region → many ≡ old.loader.rows →
    StandForPairs (geometry_of old) rows (bytes_in region.bytes) × (many ≡ length rows)
