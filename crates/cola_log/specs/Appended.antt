-- What a call on a log writes and passes.
use Rattle.std.specs.Prelude.{◌≡◌, ◌⊎◌, ℕ, ◌<◌, ◌≤◌, List, ◌++◌, length, drop, Option, Some, None}
use Rattle.cola_log.specs.Format.{Logged, key_of, value_of, IsShort, record_of, records_of, sum_after, sums_after, read_records}

-- a key or a value has no length of one byte
abbrev pub IsLong : Logged → Type 0
IsLong it = (256 ≤ length (key_of it)) ⊎ (256 ≤ length (value_of it))

module _ (sum sum' : List ℕ) (it : Logged) (into into' : List ℕ) where
  -- its record stands at the front
  pub record IsAppended (size : ℕ) : Type 0 where
    pub short : IsShort it
    pub size_is : size ≡ length (record_of sum it)
    pub fits : size ≤ length into
    pub written : into' ≡ record_of sum it ++ drop size into
    pub sum_is : sum' ≡ sum_after sum it

  -- it has no room, and nothing is written
  pub record IsRefused : Type 0 where
    pub cause : IsLong it ⊎ (length into < length (record_of sum it))
    pub left : into' ≡ into
    pub sum_stays : sum' ≡ sum

  abbrev pub Appends : Option ℕ → Type 0
  Appends (Some size) = IsAppended size
  Appends None = IsRefused

-- the records are passed that are read behind a sum
pub record IsReadTo (sum bytes sum' : List ℕ) (size : ℕ) : Type 0 where
  pub size_is : size ≡ length (records_of sum (read_records sum bytes))
  pub within : size ≤ length bytes
  pub sum_is : sum' ≡ sums_after sum (read_records sum bytes)
