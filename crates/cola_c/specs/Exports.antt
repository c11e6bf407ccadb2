-- What a call by C says of the session behind its handle.
use Rattle.std.specs.Prelude.{◌≡◌, ◌<◌, ◌↔◌, ℕ, ℤ, pos, true, Bool, Option, Some, List, [], length, Result, Ok, Err, IfOk, IfErr, OnErr, None, IsSome}
use Rattle.std.specs.Result.{result_unwrap_or}
use Rattle.cola_spec.specs.Bounds.{range_bound}
use Rattle.cola_spec.specs.Map.{Map}
use Rattle.cola_image.specs.Standing.{FileStandsFor, with_state}
use Rattle.cola_store.specs.Store.{terms_of}
use Rattle.cola_table.specs.declared.Put.{Put}
use Rattle.cola_table.specs.declared.PutIf.{PutIf}
use Rattle.cola_mapped.specs.declared.region.Region.{Region}
use Rattle.cola_mapped.specs.declared.lent.Lent.{Lent}
use Rattle.cola_mapped.specs.Region.{bytes_in}
use Rattle.cola_handle.specs.declared.answer.Answer.{Answer}
use Rattle.cola_handle.specs.declared.answer.Answer.TheVariants.{Done, Absent, Closed, Options, Memory}
use Rattle.cola_handle.specs.declared.cursor.Cursor.{Cursor}
use Rattle.cola_handle.specs.declared.cursor.Row.{Row}
use Rattle.cola_handle.specs.declared.handle.Cola.{Cola}
use Rattle.cola_handle.specs.declared.session.Session.{Session}
use Rattle.cola_kv.specs.declared.error.Error.{Error}
use Rattle.cola_kv.specs.Calls as kv
use Rattle.cola_kv.specs.Opened as opened
use Rattle.cola_handle.specs.Cursors.{NextSays, ByLength, Writes, GaveSome, Moves, is_good, ahead, gave}
use Rattle.cola_handle.specs.Numbers.{number, was_told, other_told, value_told, length_told, stamp_told}
use Rattle.cola_handle.specs.Marks.{AreMarked, marks_in, place_in}
use Rattle.cola_handle.specs.Open.{lent_device, lent_with, HoldsMap, levels_of, Stays, place_of, device_of, WereLent, first_of, first_marks_of, closing_blocks, marks_place_of, SameFirst}
use Rattle.cola_handle.specs.Walking.{RangeSays, Reads}
use Rattle.cola_handle.specs.Created.{HasSize}
use Rattle.cola_handle.specs.Stored.{StoredSays}
use Rattle.cola_handle.specs.Lent.{StandsFor, HasTerms, HasClosed, OpenCause, AreLeft}

-- this is said where the handle is closed
abbrev pub IfClosed : Cola → Type 0 → Type 0
IfClosed handle Says = handle.owned.session ≡ None → Says

-- this is said where it is open, of the session behind it
abbrev pub IfOpen : Cola → (Session → Type 0) → Type 0
IfOpen handle Says = (session : Session) → handle.owned.session ≡ Some session → Says session

-- what a call on a closed handle answers; the handle is closed afterwards
abbrev pub AnswersClosed : (after : Cola) → ℤ → Type 0
AnswersClosed after code = (code ≡ pos (number Closed)) × (after.owned.session ≡ None)

-- the handle is still open; the call was answered so, with the number of that answer, and says this of the session afterwards
pub record Answered {A : Type 0} (after : Cola) (code : ℤ) (answer_of : Result A Error → Answer) (Says : Session → Result A Error → Type 0) : Type 0 where
  pub new : Session
  pub answer : Result A Error
  pub is_open : after.owned.session ≡ Some new
  pub number_is : code ≡ pos (number (answer_of answer))
  pub says : Says new answer

module _ (old : Session) (key : List ℕ) where
  -- a get of the store behind the handle; the value is told in front of what stood in its place, and its length
  abbrev pub TellsValue : (into into' : List ℕ) → (len len' : ℕ) → Session → Result (Option (List ℕ)) Error → Type 0
  TellsValue into into' len len' new got = kv.Gets lent_device old.kv new.kv key got × (into' ≡ value_told got into) × (len' ≡ length_told got len)

  -- a stamp, which is told in its place
  abbrev pub TellsStamp : (place place' : ℕ) → Session → Result (Option ℕ) Error → Type 0
  TellsStamp place place' new got = kv.Stamps lent_device old.kv new.kv key got × (place' ≡ stamp_told got place)

  -- a delete
  abbrev pub Deletes : Session → Result (Option (List ℕ)) Error → Type 0
  Deletes new had = kv.Deletes lent_device old.kv new.kv key had

  -- a put; whether it replaced a value is told
  abbrev pub TellsPut : (value : List ℕ) → (was was' : Bool) → Session → Result Put Error → Type 0
  TellsPut value was was' new put = kv.Puts lent_device old.kv new.kv key value put × (was' ≡ was_told put was)

  -- a put that depends on the stamp seen; the other stamp is told that the key has, where it is refused for that
  abbrev pub TellsPutIf : (seen : ℕ) → (value : List ℕ) → (place place' : ℕ) → Session → Result PutIf Error → Type 0
  TellsPutIf seen value place place' new put = kv.PutsIf lent_device old.kv new.kv key seen value put × (place' ≡ other_told put place)

module _ (old : Session) (before : Cursor) (rows : List Row) where
  -- the next rows of a cursor
  pub record Nexts (new : Session) (after : Cursor) (filled : List Row) (result : Result ℕ Error) : Type 0 where
    pub answer : (m : Map) → HoldsMap old m → NextSays m before after filled (HoldsMap new) result
    pub given : RangeSays old new before filled result
    pub length : ByLength (is_good before) (new ≡ old) result
    pub writes : IfOk result (Writes rows filled)
    pub gave_some : IfErr result (GaveSome rows filled)
    pub moves : IfOk result (Moves before after filled)
    pub refused : OnErr result (after ≡ before)
    pub good : is_good before ≡ true → is_good after ≡ true
    pub reads : Reads old new (range_bound (levels_of old))
    pub stays : Stays old new
    pub lent_stays : SameFirst old new

  -- the next rows are answered on an open handle, and it is told how many were given
  abbrev pub AnswersNext : (handle : Cola) → ℤ → (after : Cursor) → (filled : List Row) → (given given' : ℕ) → Type 0
  AnswersNext handle code after filled given given' =
      Answered handle code (gave (length rows)) (λ new next. Nexts new after filled next × (given' ≡ result_unwrap_or next given))

  -- where the session holds a map and the cursor is good, absent is answered exactly where rows were asked for and no pair is ahead
  abbrev pub IsAbsentAtEnd : ℤ → Type 0
  IsAbsentAtEnd code = (m : Map) → HoldsMap old m → is_good before ≡ true →
      (code ≡ pos (number Absent)) ↔ ((0 < length rows) × (ahead m before ≡ []))

-- the number of an answer, and what this answer says
pub record Tells (code : ℤ) (Says : Answer → Type 0) : Type 0 where
  pub answer : Answer
  pub number_is : code ≡ pos (number answer)
  pub says : Says answer

-- how many bytes a store takes, or that there is no such store: then the place keeps what it had
abbrev pub Sizes : (keys block_exp version before now : ℕ) → Answer → Type 0
Sizes keys block_exp version before now Done = HasSize keys block_exp version (Some now)
Sizes keys block_exp version before now Options = HasSize keys block_exp version None × (now ≡ before)
Sizes keys block_exp version before now _ = ⊥

-- how many bytes the closed store of a file takes, or the refusal that the file's first bytes tell: then the place keeps what it had
abbrev pub SizesStored : (file : List ℕ) → (before now : ℕ) → Answer → Type 0
SizesStored file before now Done = StoredSays file (Ok now)
SizesStored file before now why = StoredSays file (Err why) × (now ≡ before)

module _ (before : Region) where
  -- an opening: the session has the bytes of the region, with the mark that the store is in use, and its geometry and cells are those of the bytes, also where these stand for no map; its pages have these marks
  pub record Opens (marks : Option Lent) (new : Session) : Type 0 where
    pub given : opened.IsOpen lent_device (lent_with before.at before.len (bytes_in before.bytes) marks) 0 new.kv
    pub terms : HasTerms (terms_of new.kv.store) (bytes_in before.bytes)
    pub marked : (device_of new).bytes ≡ with_state 1 (bytes_in before.bytes)
    pub place : place_of new ≡ (before.at, before.len)
    pub holds : (m : Map) → StandsFor before.bytes m → HoldsMap new m

  -- a refused opening: the bytes are given back
  pub record IsRefused (now : Region) (why : Answer) : Type 0 where
    pub cause : OpenCause (bytes_in before.bytes) why
    pub only : (m : Map) → StandsFor before.bytes m → why ≡ Memory
    pub left : AreLeft (bytes_in before.bytes) (bytes_in now.bytes) why
    pub stands : (m : Map) → StandsFor before.bytes m → StandsFor now.bytes m
    pub lent : IsSome now.bytes
    pub at_stays : now.at ≡ before.at
    pub len_stays : now.len ≡ before.len

module _ (old : Session) where
  -- a closing: the region has the bytes of a closed store
  pub record Closes (region : Region) : Type 0 where
    pub given : HasClosed old (bytes_in region.bytes)
    pub terms : HasTerms (terms_of old.kv.store) (bytes_in region.bytes)
    pub stands : (m : Map) → HoldsMap old m → StandsFor region.bytes m
    pub lent : IsSome region.bytes
    pub place : (region.at, region.len) ≡ place_of old

  -- a checkpoint: the session holds each map that it held, and its bytes are those of the store that was closed in between,
  -- which stand for each such map, with the mark that it is in use. Of those each page with no mark is as it was when the store
  -- was opened, few have one, and from these on pages are marked further
  pub record Checkpoints (new : Session) : Type 0 where
    pub closed : List ℕ
    pub closes : HasClosed old closed
    pub marks : Option Lent
    pub pages : AreMarked (first_marks_of old) (first_of old) (closing_blocks old) (marks_in marks) closed
    pub were_lent : WereLent new closed (marks_in marks)
    pub marks_place : marks_place_of new ≡ marks_place_of old
    pub stood : (m : Map) → HoldsMap old m → FileStandsFor closed m
    pub marked : (device_of new).bytes ≡ with_state 1 closed
    pub again : opened.IsOpen lent_device (lent_with (place_of old).0 (place_of old).1 closed marks) 0 new.kv
    pub holds : (m : Map) → HoldsMap old m → HoldsMap new m
    pub stays : Stays old new

  -- a checkpoint that did not open the store again: the bytes are given back, and stand for each map that the session held,
  -- where want of memory is the only reason
  pub record Unfinished (region : Region) (why : Answer) : Type 0 where
    pub closed : List ℕ
    pub closes : HasClosed old closed
    pub cause : OpenCause closed why
    pub only : (m : Map) → HoldsMap old m → why ≡ Memory
    pub left : AreLeft closed (bytes_in region.bytes) why
    pub terms : HasTerms (terms_of old.kv.store) (bytes_in region.bytes)
    pub stands : (m : Map) → HoldsMap old m → StandsFor region.bytes m
    pub lent : IsSome region.bytes
    pub place : (region.at, region.len) ≡ place_of old
