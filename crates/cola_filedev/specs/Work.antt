-- What a call asks of its open file.
use Rattle.std.specs.Prelude.{◌≡◌, ℕ, ◌+◌, ◌^◌, ◌<◌, ◌≤◌, List, [], ◌++◌, length, take, drop, Result, Ok, Err}
use Rattle.std.specs.IoError.{error_kind}
use Rattle.std.specs.declared.io.Error.{Error}
use Rattle.std.specs.declared.io.ErrorKind.TheVariants.{Interrupted}

-- calls at a place of a file: it, the place, the bytes in hand, the answer, the bytes in hand and the file afterwards
abbrev pub CallAt : Type 0 → Type 1
CallAt F = F → ℕ → List ℕ → Result ℕ Error → List ℕ → F → Type 0

-- a range was asked for whole, and then each time what was left of it: until nothing is, or a call is refused or gives or
-- takes nothing. An interrupted call may be made again. A range that ends behind the last place is refused unasked
pub data InPieces {F : Type 0} (Call : CallAt F) : F → ℕ → List ℕ → Result (Unit {0}) Error → List ℕ → F → Type 0 where
  whole : {file : F} {at : ℕ} → InPieces Call file at [] (Ok tt) [] file
  piece : {old middle new : F} {at count : ℕ} {before between rest : List ℕ} {answer : Result (Unit {0}) Error} →
      Call old at before (Ok count) between middle → 0 < count →
      InPieces Call middle (at + count) (drop count between) answer rest new →
      InPieces Call old at before answer (take count between ++ rest) new
  again : {old middle new : F} {at : ℕ} {before between after : List ℕ} {error : Error} {answer : Result (Unit {0}) Error} →
      Call old at before (Err error) between middle → error_kind error ≡ Interrupted →
      InPieces Call middle at between answer after new → InPieces Call old at before answer after new
  refused : {old new : F} {at : ℕ} {before after : List ℕ} {error : Error} →
      Call old at before (Err error) after new → InPieces Call old at before (Err error) after new
  ended : {old new : F} {at : ℕ} {before after : List ℕ} {error : Error} →
      Call old at before (Ok 0) after new → 0 < length before → InPieces Call old at before (Err error) after new
  beyond : {file : F} {at : ℕ} {bytes : List ℕ} {error : Error} →
      2 ^ 64 ≤ at + length bytes → InPieces Call file at bytes (Err error) bytes file

-- writes at a place of a file: it, the place, the bytes, the answer, and the file afterwards
abbrev pub Takes : Type 0 → Type 1
Takes F = F → ℕ → List ℕ → Result ℕ Error → F → Type 0

-- calls that take the bytes in hand, which stay as they are
abbrev pub Taking : {F : Type 0} → Takes F → CallAt F
Taking Took old at before answer after new = Took old at before answer new × (after ≡ before)

-- these bytes were written from a place on, and nothing else was done
abbrev pub Put : {F : Type 0} → Takes F → F → ℕ → List ℕ → Result (Unit {0}) Error → F → Type 0
Put Took old at from answer new = InPieces (Taking Took) old at from answer from new

-- syncs of a file, with their answers
abbrev pub Syncs : Type 0 → Type 1
Syncs F = F → Result (Unit {0}) Error → F → Type 0

-- A write, by its parts in their order. One that has byte 0 has a header in its first 512 bytes, and writes that last: first
-- what stands behind it, then a sync of all that was written so far, then the header. The first
-- part that is refused is the last
pub data Written {F : Type 0} (Took : Takes F) (Synced : Syncs F) : F → ℕ → List ℕ → Result (Unit {0}) Error → F → Type 0 where
  elsewhere : {old new : F} {at : ℕ} {from : List ℕ} {answer : Result (Unit {0}) Error} →
      0 < at → Put Took old at from answer new → Written Took Synced old at from answer new
  header_last : {old behind synced new : F} {from : List ℕ} {answer : Result (Unit {0}) Error} →
      Put Took old 512 (drop 512 from) (Ok tt) behind → Synced behind (Ok tt) synced →
      Put Took synced 0 (take 512 from) answer new → Written Took Synced old 0 from answer new
  not_synced : {old behind new : F} {from : List ℕ} {error : Error} →
      Put Took old 512 (drop 512 from) (Ok tt) behind → Synced behind (Err error) new →
      Written Took Synced old 0 from (Err error) new
  not_behind : {old new : F} {from : List ℕ} {error : Error} →
      Put Took old 512 (drop 512 from) (Err error) new → Written Took Synced old 0 from (Err error) new

-- cuts of a file to a size, with their answers
abbrev pub Cuts : Type 0 → Type 1
Cuts F = F → ℕ → Result (Unit {0}) Error → F → Type 0

-- a file was cut to nothing, and then lengthened to a size
pub data Laid {F : Type 0} (Cut : Cuts F) (size : ℕ) : F → Result (Unit {0}) Error → F → Type 0 where
  emptied : {old middle new : F} {answer : Result (Unit {0}) Error} →
      Cut old 0 (Ok tt) middle → Cut middle size answer new → Laid Cut size old answer new
  not_emptied : {old new : F} {error : Error} → Cut old 0 (Err error) new → Laid Cut size old (Err error) new
