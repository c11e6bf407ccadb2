-- The bytes of a log: the calls that it has, and up to where they are read.
use Rattle.std.specs.Prelude.{ℕ, zero, suc, ◌+◌, ◌<◌, ◌^◌, ◌==◌, nat_lt, Bool, true, false, ◌&&◌, if◌then◌else◌, List, [], ◌∷◌, ◌++◌, length, take, drop, slice_index, bytes_eq, codes, Option, Some, None}
use Rattle.byteorder.specs.Endian.{little_bytes, little_number}
use Rattle.sha2.specs.Sha256.{sha256}
use Rattle.cola_log.specs.declared.call.Call.{Call}
use Rattle.cola_log.specs.declared.call.Call.TheVariants as call

-- a call that changes a store: of a key its value; where it has the stamp seen; or that it is taken out
pub data Logged : Type 0 where
  Put : (key value : List ℕ) → Logged
  PutIf : (key : List ℕ) (seen : ℕ) (value : List ℕ) → Logged
  Delete : (key : List ℕ) → Logged

-- the call that a value of the type `Call` is
abbrev pub told : Call → Logged
told (call.Put key value) = Put key.now value.now
told (call.PutIf key seen value) = PutIf key.now seen value.now
told (call.Delete key) = Delete key.now

abbrev pub told_with : Option Call → Option Logged
told_with None = None
told_with (Some it) = Some (told it)

-- its first byte
abbrev pub kind_of : Logged → ℕ
kind_of (Put key value) = 1
kind_of (PutIf key seen value) = 2
kind_of (Delete key) = 3

-- the stamp seen, or 0
abbrev pub seen_of : Logged → ℕ
seen_of (Put key value) = 0
seen_of (PutIf key seen value) = seen
seen_of (Delete key) = 0

abbrev pub key_of : Logged → List ℕ
key_of (Put key value) = key
key_of (PutIf key seen value) = key
key_of (Delete key) = key

-- the value, or no bytes
abbrev pub value_of : Logged → List ℕ
value_of (Put key value) = value
value_of (PutIf key seen value) = value
value_of (Delete key) = []

-- the lengths of its key and its value have a byte each
pub record IsShort (it : Logged) : Type 0 where
  pub key : length (key_of it) < 256
  pub value : length (value_of it) < 256

-- and the stamp seen has eight
pub record Fits (it : Logged) : Type 0 where
  pub short : IsShort it
  pub seen : seen_of it < 2 ^ 64

abbrev pub AllFit : List Logged → Type 0
AllFit [] = Unit {0}
AllFit (it ∷ calls) = Fits it × AllFit calls

-- Written

-- the sum with which the log begins that follows a file with this first page
abbrev pub first_sum : List ℕ → List ℕ
first_sum page = sha256 (codes "COLA-LOG" ++ page)

-- what stands before the key: the kind, the lengths of the key and of the value, and the stamp seen
abbrev pub head_of : Logged → List ℕ
head_of it = kind_of it ∷ length (key_of it) ∷ length (value_of it) ∷ little_bytes 8 (seen_of it)

-- what the sum of a record is of, behind the sum before it
abbrev pub body_of : Logged → List ℕ
body_of it = (head_of it ++ key_of it) ++ value_of it

-- the sum of a record, behind the one before it
abbrev pub sum_after : List ℕ → Logged → List ℕ
sum_after sum it = sha256 (sum ++ body_of it)

-- the record of a call
abbrev pub record_of : List ℕ → Logged → List ℕ
record_of sum it = body_of it ++ sum_after sum it

-- the records of calls, one behind the other
abbrev pub records_of : List ℕ → List Logged → List ℕ
records_of sum [] = []
records_of sum (it ∷ calls) = record_of sum it ++ records_of (sum_after sum it) calls

-- the sum behind them
abbrev pub sums_after : List ℕ → List Logged → List ℕ
sums_after sum [] = sum
sums_after sum (it ∷ calls) = sums_after (sum_after sum it) calls

-- the whole log
abbrev pub log_of : (page : List ℕ) → List Logged → List ℕ
log_of page calls = first_sum page ++ records_of (first_sum page) calls

-- Read

-- how many bytes stand before the sum of the record at the front of bytes, by its own lengths
abbrev pub body_size : List ℕ → ℕ
body_size bytes = 11 + slice_index bytes 1 + slice_index bytes 2

abbrev pub is_empty : List ℕ → Bool
is_empty [] = true
is_empty (x ∷ xs) = false

-- the call of this kind: only one has a stamp that was seen, and a delete has no value
abbrev pub call_with : (kind seen : ℕ) → (key value : List ℕ) → Option Logged
call_with kind seen key value =
    if (kind == 1) && (seen == 0) then Some (Put key value) else (if kind == 2 then Some (PutIf key seen value) else (if (kind == 3) && ((seen == 0) && is_empty value) then Some (Delete key) else None))

-- the call of what stands before a record's sum
abbrev pub call_of : List ℕ → Option Logged
call_of body = call_with (slice_index body 0) (little_number 8 (drop 3 body)) (take (slice_index body 1) (drop 11 body)) (drop (slice_index body 1) (drop 11 body))

-- a record that was found, the sum behind it, and what follows it
abbrev pub Found : Type 0
Found = Logged × List ℕ × List ℕ

abbrev pub found_with : Option Logged → List ℕ → List ℕ → Option Found
found_with None sum rest = None
found_with (Some it) sum rest = Some (it, sum, rest)

-- where the sum stands behind the body
abbrev pub sealed : (sum body behind : List ℕ) → Option Found
sealed sum body behind =
    if bytes_eq (take 32 behind) (sha256 (sum ++ body)) then found_with (call_of body) (sha256 (sum ++ body)) (drop 32 behind) else None

-- the record at the front of bytes: it is whole, and bears its sum behind this one
abbrev pub record_at : (sum bytes : List ℕ) → Option Found
record_at sum bytes =
    if nat_lt (length bytes) (32 + body_size bytes) then None else sealed sum (take (body_size bytes) bytes) (drop (body_size bytes) bytes)

abbrev pub further : Option Found → (List ℕ → List ℕ → List Logged) → List Logged
further None next = []
further (Some found) next = found.0 ∷ next found.1 found.2

-- at most so many records, up to the first that does not bear its sum
abbrev pub calls_in : ℕ → (sum bytes : List ℕ) → List Logged
calls_in zero sum bytes = []
calls_in (suc n) sum bytes = further (record_at sum bytes) (calls_in n)

-- the calls of the records up to the first that does not bear its sum: there are fewer than bytes
abbrev pub read_records : (sum bytes : List ℕ) → List Logged
read_records sum bytes = calls_in (length bytes) sum bytes

-- the calls of a log that follows a file with this first page: none where it begins with another sum
abbrev pub read_log : (page bytes : List ℕ) → List Logged
read_log page bytes =
    if bytes_eq (take 32 bytes) (first_sum page) then read_records (first_sum page) (drop 32 bytes) else []
