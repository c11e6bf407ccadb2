-- What is read of a log that was cut off, and how a log is spelled that is read.
use Rattle.std.specs.Prelude.{◌≡◌, ◌≢◌, ℕ, ◌+◌, ◌<◌, ◌≤◌, List, [], ◌++◌, length, take, None}
use Rattle.cola_log.specs.Format.{Logged, AllFit, first_sum, log_of, sums_after, record_at, read_records, read_log}

-- of a log of which so many bytes are left, and others follow: the calls whose records are whole, and behind them what bears its sum there
pub record IsFrontRead (page : List ℕ) (calls : List Logged) (size : ℕ) (bytes : List ℕ) : Type 0 where
  pub kept : ℕ
  pub behind : List ℕ
  pub among : kept ≤ length calls
  pub whole : length (log_of page (take kept calls)) ≤ size
  pub torn : kept < length calls → size < length (log_of page (take (kept + 1) calls))
  pub bytes_are : bytes ≡ log_of page (take kept calls) ++ behind
  pub read : read_log page bytes ≡ take kept calls ++ read_records (sums_after (first_sum page) (take kept calls)) behind
  pub stops : record_at (sums_after (first_sum page) (take kept calls)) behind ≡ None → read_log page bytes ≡ take kept calls

-- bytes begin with the log of the calls that are read of them, and no record that bears its sum follows
pub record Begins (page : List ℕ) (calls : List Logged) (bytes : List ℕ) : Type 0 where
  pub behind : List ℕ
  pub bytes_are : bytes ≡ log_of page calls ++ behind
  pub ends : record_at (sums_after (first_sum page) calls) behind ≡ None
  pub fit : AllFit calls

-- so it is where they begin with the sum of the page; of others nothing is read
pub record IsSpelled (page bytes : List ℕ) : Type 0 where
  pub begun : take 32 bytes ≡ first_sum page → Begins page (read_log page bytes) bytes
  pub others : take 32 bytes ≢ first_sum page → read_log page bytes ≡ []
