-- A cursor over the keys that begin with a prefix: what is said where one is set.
use Rattle.std.specs.Prelude.{◌≡◌, ℕ, true, false, nat_le, List, length, Result, Ok, Err}
use Rattle.cola_handle.specs.declared.cursor.Cursor.{Cursor}
use Rattle.cola_kv.specs.declared.error.Error.{Error}
use Rattle.cola_kv.specs.declared.error.Error.TheVariants.{KeyLength}
use Rattle.cola_kv.specs.Prefix.{prefix_end}
use Rattle.cola_handle.specs.Cursors.{from_of, end_of, is_good}

-- a cursor was set before the first of the keys that begin so, with their end
pub record IsSetPrefix (prefix : List ℕ) (cursor : Cursor) : Type 0 where
  pub good : is_good cursor ≡ true
  pub from_is : from_of cursor ≡ prefix
  pub end_is : end_of cursor ≡ prefix_end prefix
  pub not_behind : cursor.behind ≡ false

-- a cursor is set so, or is refused exactly where the prefix is too long
abbrev pub SeekPrefixSays : (prefix : List ℕ) → Result Cursor Error → Type 0
SeekPrefixSays prefix (Ok cursor) = (nat_le (length prefix) 40 ≡ true) × IsSetPrefix prefix cursor
SeekPrefixSays prefix (Err why) = (why ≡ KeyLength) × (nat_le (length prefix) 40 ≡ false)
