-- What the calls by C tell in plain terms: which number is answered when, what is written then, and, of a session that held a map, which map it holds.
use Rattle.std.specs.Prelude.{◌≡◌, ◌⊎◌, ℕ, ℤ, pos, ◌<◌, ◌≤◌, min, true, false, Bool, if◌then◌else◌, ◌&&◌, nat_lt, nat_eq, List, ◌++◌, length, take, drop, map, Option, Some, None, IsSome}
use denote.RawPtr.{Ptr}
use Rattle.cola_spec.specs.Map.{Map, Shape, New, Old, Full, Worn, Other, empty_map, is_key, is_value, value_of, stamp_of, put_outcome, put_if_outcome, after_put, after_put_if, after_delete, count, pairs_between}
use Rattle.cola_image.specs.Standing.{FileStandsFor, with_state}
use Rattle.cola_mapped.specs.declared.lent.Lent.{Lent}
use Rattle.cola_mapped.specs.declared.region.Region.{Region}
use Rattle.cola_mapped.specs.Region.{bytes_in}
use Rattle.cola_handle.specs.declared.answer.Answer.TheVariants.{Done, Length, NotStore, Small, NotClosed, BadCell}
use Rattle.cola_handle.specs.declared.cursor.Cursor.{Cursor}
use Rattle.cola_handle.specs.declared.cursor.Row.{Row}
use Rattle.cola_handle.specs.declared.handle.Cola.{Cola}
use Rattle.cola_handle.specs.declared.session.Session.{Session}
use Rattle.cola_handle.specs.Created.{LacksSizes, AreZero, Takes, Creates}
use Rattle.cola_handle.specs.Cursors.{IsSet, row_pair, is_good, are_short, ahead, end_at}
use Rattle.cola_handle.specs.Lent.{StandsFor, OpenCause, IsClosedStore, IsSameStore}
use Rattle.cola_handle.specs.Open.{HoldsMap, shape_of, place_of, device_of}
use Rattle.cola_handle.specs.Numbers.{number, found, made, made_if}
use Rattle.cola_handle.specs.Stored.{HasStored}
use Rattle.cola_c.specs.Exports.{Answered, TellsValue, TellsStamp, Deletes, TellsPut, TellsPutIf, AnswersNext, Tells, Sizes, SizesStored, Opens, IsRefused, Closes, Checkpoints, Unfinished}

-- the handle is open, and its session holds this map
abbrev pub Keeps : Cola → Map → Type 0
Keeps after m = (new : Session) × (after.owned.session ≡ Some new) × HoldsMap new m

-- where it is made of such bytes, a key or a value has no room in the store
abbrev pub AreUnfit : Shape → (key value : List ℕ) → Type 0
AreUnfit shape key value = (is_key shape key ≡ false) ⊎ (is_value shape value ≡ false)

-- a get: 0 and the value, 1 where there is none, 7 where the key has no room; nothing else is written
abbrev pub PlainGet : Session → Map → (key : List ℕ) → ℤ → (into into' : List ℕ) → (len len' : ℕ) → Type 0
PlainGet old m key code into into' len len' =
    ((value : List ℕ) × (value_of m key ≡ Some value) × (code ≡ pos 0) × (into' ≡ value ++ drop (length value) into) × (len' ≡ length value))
    ⊎ (((value_of m key ≡ None) × (code ≡ pos 1) × (into' ≡ into) × (len' ≡ len))
    ⊎ ((is_key (shape_of old) key ≡ false) × (code ≡ pos 7) × (into' ≡ into) × (len' ≡ len)))

-- a stamp: 0 and the stamp, 1 where there is none, 7 where the key has no room
abbrev pub PlainStamp : Session → Map → (key : List ℕ) → ℤ → (place place' : ℕ) → Type 0
PlainStamp old m key code place place' =
    ((stamp : ℕ) × (stamp_of m key ≡ Some stamp) × (code ≡ pos 0) × (place' ≡ stamp))
    ⊎ (((stamp_of m key ≡ None) × (code ≡ pos 1) × (place' ≡ place))
    ⊎ ((is_key (shape_of old) key ≡ false) × (code ≡ pos 7) × (place' ≡ place)))

-- a delete: 0 where there was a value, 1 where there was none, and the map is without the key; 7 where the key has no room, and the map stays
abbrev pub PlainDelete : Session → Map → (key : List ℕ) → Cola → ℤ → Type 0
PlainDelete old m key after code =
    ((value : List ℕ) × (value_of m key ≡ Some value) × (code ≡ pos 0) × Keeps after (after_delete m key))
    ⊎ (((value_of m key ≡ None) × (code ≡ pos 1) × Keeps after (after_delete m key))
    ⊎ ((is_key (shape_of old) key ≡ false) × (code ≡ pos 7) × Keeps after m))

-- a put: 0 where the map takes it, and whether it replaced a value; 3 where it is full, 4 where it is worn, 7 where the key or the value has no room, and the map stays
abbrev pub PlainPut : Session → Map → (key value : List ℕ) → Cola → ℤ → (was was' : Bool) → Type 0
PlainPut old m key value after code was was' =
    ((put_outcome (shape_of old) m key ≡ New) × (code ≡ pos 0) × (was' ≡ false) × Keeps after (after_put (shape_of old) m key value))
    ⊎ (((had : List ℕ) × (put_outcome (shape_of old) m key ≡ Old had) × (code ≡ pos 0) × (was' ≡ true) × Keeps after (after_put (shape_of old) m key value))
    ⊎ (((put_outcome (shape_of old) m key ≡ Full) × (code ≡ pos 3) × (was' ≡ was) × Keeps after m)
    ⊎ (((put_outcome (shape_of old) m key ≡ Worn) × (code ≡ pos 4) × (was' ≡ was) × Keeps after m)
    ⊎ (AreUnfit (shape_of old) key value × (code ≡ pos 7) × (was' ≡ was) × Keeps after m))))

-- a put that depends on the stamp seen: 0 where the map takes it; 2 where the key has another stamp, which is told, 3 where it is full, 4 where it is worn, 7 where the key or the value has no room, and the map stays
abbrev pub PlainPutIf : Session → Map → (key : List ℕ) → (seen : ℕ) → (value : List ℕ) → Cola → ℤ → (place place' : ℕ) → Type 0
PlainPutIf old m key seen value after code place place' =
    ((put_if_outcome (shape_of old) m key seen ≡ New) × (code ≡ pos 0) × (place' ≡ place) × Keeps after (after_put_if (shape_of old) m key seen value))
    ⊎ (((had : List ℕ) × (put_if_outcome (shape_of old) m key seen ≡ Old had) × (code ≡ pos 0) × (place' ≡ place) × Keeps after (after_put_if (shape_of old) m key seen value))
    ⊎ (((stamp : ℕ) × (put_if_outcome (shape_of old) m key seen ≡ Other stamp) × (code ≡ pos 2) × (place' ≡ stamp) × Keeps after m)
    ⊎ (((put_if_outcome (shape_of old) m key seen ≡ Full) × (code ≡ pos 3) × (place' ≡ place) × Keeps after m)
    ⊎ (((put_if_outcome (shape_of old) m key seen ≡ Worn) × (code ≡ pos 4) × (place' ≡ place) × Keeps after m)
    ⊎ (AreUnfit (shape_of old) key value × (code ≡ pos 7) × (place' ≡ place) × Keeps after m)))))

-- rows were given: as many as were asked for and are ahead, the first of these, and what is left of them is ahead then; 1 where some were asked for and none is ahead
pub record GivesRows (m : Map) (before after : Cursor) (rows filled : List Row) (code : ℤ) (given : ℕ) : Type 0 where
  pub many : given ≡ min (length rows) (length (ahead m before))
  pub code_is : code ≡ (if nat_lt 0 (length rows) && nat_eq given 0 then pos 1 else pos 0)
  pub pairs_are : map row_pair (take given filled) ≡ take given (ahead m before)
  pub others : drop given filled ≡ drop given rows
  pub rest : ahead m after ≡ drop given (ahead m before)

-- the next rows of a cursor: they are given where its lengths are good; else 7, and nothing is written
abbrev pub PlainNext : Map → (before after : Cursor) → (rows filled : List Row) → ℤ → (given given' : ℕ) → Type 0
PlainNext m before after rows filled code given given' =
    ((is_good before ≡ true) × GivesRows m before after rows filled code given')
    ⊎ ((is_good before ≡ false) × (code ≡ pos 7) × (after ≡ before) × (filled ≡ rows) × (given' ≡ given))

-- a seek: 0, and the pairs of the interval are ahead, of every map; 7 where an end has more than 40 bytes, and the cursor stays
abbrev pub PlainSeek : (low high : List ℕ) → Bool → (before after : Cursor) → ℤ → Type 0
PlainSeek low high bounded before after code =
    ((length low ≤ 40) × (length high ≤ 40) × (code ≡ pos 0) × ((m : Map) → ahead m after ≡ pairs_between m low (end_at bounded high)))
    ⊎ (((40 < length low) ⊎ (40 < length high)) × (code ≡ pos 7) × (after ≡ before))

-- how many bytes a store takes: 0 and the number; 9 where there is no such store
abbrev pub PlainSize : (keys block version place place' : ℕ) → ℤ → Type 0
PlainSize keys block version place place' code =
    ((code ≡ pos 0) × Takes keys block version (λ size. place' ≡ size))
    ⊎ ((code ≡ pos 9) × LacksSizes keys block version × (place' ≡ place))

-- how many bytes the store of a file takes: 0 and the number; 11, 12, 13 where the file has none, is too small for it, or it is in use
abbrev pub PlainStored : (file : List ℕ) → (place place' : ℕ) → ℤ → Type 0
PlainStored file place place' code =
    ((code ≡ pos 0) × HasStored file place')
    ⊎ (((code ≡ pos 11) × OpenCause file NotStore × (place' ≡ place))
    ⊎ (((code ≡ pos 12) × OpenCause file Small × (place' ≡ place))
    ⊎ ((code ≡ pos 13) × OpenCause file NotClosed × (place' ≡ place))))

-- a making: 0 where the bytes were zero and enough, and as many stand for the empty map; 9 where there is no such store, 12 where they are too few, 10 where one is not zero, and the bytes stay
abbrev pub PlainCreate : (keys block version : ℕ) → (before now : List ℕ) → ℤ → Type 0
PlainCreate keys block version before now code =
    ((code ≡ pos 0) × AreZero before × Takes keys block version (λ size. size ≤ length before) × FileStandsFor now empty_map × (length now ≡ length before))
    ⊎ (((code ≡ pos 9) × LacksSizes keys block version × (now ≡ before))
    ⊎ (((code ≡ pos 12) × Takes keys block version (λ size. length before < size) × (now ≡ before))
    ⊎ ((code ≡ pos 10) × Takes keys block version (λ size. size ≤ length before) × (AreZero before → ⊥) × (now ≡ before))))

-- a refused opening, of any bytes: 11 where they have no store, 12 where they are too few, 13 where it was not closed, 14 where a cell is damaged, and they stay; 16 where there was no memory, and they have the same store
abbrev pub PlainRefusal : (before now : List ℕ) → ℤ → Type 0
PlainRefusal before now code =
    ((code ≡ pos 11) × OpenCause before NotStore × (now ≡ before))
    ⊎ (((code ≡ pos 12) × OpenCause before Small × (now ≡ before))
    ⊎ (((code ≡ pos 13) × OpenCause before NotClosed × (now ≡ before))
    ⊎ (((code ≡ pos 14) × OpenCause before BadCell × (now ≡ before))
    ⊎ ((code ≡ pos 16) × IsClosedStore before × IsSameStore before now))))

-- a region has bytes that stand for this map, at this place
pub record HasMap (region : Region) (place : Ptr × ℕ) (m : Map) : Type 0 where
  pub lent : IsSome region.bytes
  pub stands : StandsFor region.bytes m
  pub place_is : (region.at, region.len) ≡ place

-- an opening of bytes that stand for a map: 0, the session holds it, and the region is empty; or 16 for want of memory, the handle stays closed, and the region has the map still
abbrev pub PlainOpen : Map → (before now : Region) → Cola → ℤ → Type 0
PlainOpen m before now after code =
    ((code ≡ pos 0) × Keeps after m × (now.bytes ≡ None))
    ⊎ ((code ≡ pos 16) × (after.owned.session ≡ None) × HasMap now (before.at, before.len) m)

-- the bytes below a session are those of a closed store that stand for this map, but for the mark that it is in use
abbrev pub IsKept : Session → Map → Type 0
IsKept new m = (closed : List ℕ) × FileStandsFor closed m × ((device_of new).bytes ≡ with_state 1 closed)

-- a checkpoint of a session that held a map: 0, the session holds it, and so do its bytes but for the mark of use; or 16 for want of memory, the handle is closed, and the region has the map
abbrev pub PlainCheckpoint : Session → Map → (before now : Region) → Cola → ℤ → Type 0
PlainCheckpoint old m before now after code =
    ((code ≡ pos 0) × (now ≡ before) × ((new : Session) × (after.owned.session ≡ Some new) × HoldsMap new m × IsKept new m))
    ⊎ ((code ≡ pos 16) × (after.owned.session ≡ None) × HasMap now (place_of old) m)

-- Laws: each of these holds of what an export answers; where a map is named, the session or the bytes had it

abbrev pub GetsAreTold : Type 0
GetsAreTold = (old : Session) (m : Map) (key : List ℕ) (after : Cola) (code : ℤ) (into into' : List ℕ) (len len' : ℕ) → HoldsMap old m →
    Answered after code found (TellsValue old key into into' len len') → PlainGet old m key code into into' len len' × Keeps after m

abbrev pub StampsAreTold : Type 0
StampsAreTold = (old : Session) (m : Map) (key : List ℕ) (after : Cola) (code : ℤ) (place place' : ℕ) → HoldsMap old m →
    Answered after code found (TellsStamp old key place place') → PlainStamp old m key code place place' × Keeps after m

abbrev pub DeletesAreTold : Type 0
DeletesAreTold = (old : Session) (m : Map) (key : List ℕ) (after : Cola) (code : ℤ) → HoldsMap old m →
    Answered after code found (Deletes old key) → PlainDelete old m key after code

abbrev pub PutsAreTold : Type 0
PutsAreTold = (old : Session) (m : Map) (key value : List ℕ) (after : Cola) (code : ℤ) (was was' : Bool) → HoldsMap old m →
    Answered after code made (TellsPut old key value was was') → PlainPut old m key value after code was was'

abbrev pub PutsIfAreTold : Type 0
PutsIfAreTold = (old : Session) (m : Map) (key : List ℕ) (seen : ℕ) (value : List ℕ) (after : Cola) (code : ℤ) (place place' : ℕ) → HoldsMap old m →
    Answered after code made_if (TellsPutIf old key seen value place place') → PlainPutIf old m key seen value after code place place'

abbrev pub NextsAreTold : Type 0
NextsAreTold = (old : Session) (m : Map) (before after : Cursor) (rows filled : List Row) (handle : Cola) (code : ℤ) (given given' : ℕ) → HoldsMap old m →
    AnswersNext old before rows handle code after filled given given' → PlainNext m before after rows filled code given given' × Keeps handle m

abbrev pub SeeksAreTold : Type 0
SeeksAreTold = (low high : List ℕ) (bounded : Bool) (before after : Cursor) (code : ℤ) →
    (are_short low high ≡ true → (code ≡ pos (number Done)) × IsSet low high bounded after) →
    (are_short low high ≡ false → (code ≡ pos (number Length)) × (after ≡ before)) → PlainSeek low high bounded before after code

abbrev pub CountsAreTold : Type 0
CountsAreTold = (old : Session) (m : Map) (after : Cola) (code : ℤ) (keys : ℕ) → HoldsMap old m → after.owned.session ≡ Some old →
    code ≡ pos (number Done) → ((n : Map) → HoldsMap old n → keys ≡ count n) → (code ≡ pos 0) × (keys ≡ count m) × Keeps after m

abbrev pub SizesAreTold : Type 0
SizesAreTold = (keys block version place place' : ℕ) (code : ℤ) →
    Tells code (Sizes keys block version place place') → PlainSize keys block version place place' code

abbrev pub StoredSizesAreTold : Type 0
StoredSizesAreTold = (file : List ℕ) (place place' : ℕ) (code : ℤ) → Tells code (SizesStored file place place') → PlainStored file place place' code

abbrev pub CreationsAreTold : Type 0
CreationsAreTold = (keys block version : ℕ) (before now : List ℕ) (code : ℤ) →
    Tells code (Creates keys block version before now) → PlainCreate keys block version before now code

abbrev pub RefusalsAreTold : Type 0
RefusalsAreTold = (before now : Region) (code : ℤ) →
    Tells code (IsRefused before now) → PlainRefusal (bytes_in before.bytes) (bytes_in now.bytes) code × IsSome now.bytes

abbrev pub OpeningsAreTold : Type 0
OpeningsAreTold = (m : Map) (before now : Region) (marks : Option Lent) (after : Cola) (code : ℤ) → StandsFor before.bytes m →
    ((new : Session) × (after.owned.session ≡ Some new) × (code ≡ pos (number Done)) × (now.bytes ≡ None) × Opens before marks new)
    ⊎ ((after.owned.session ≡ None) × Tells code (IsRefused before now)) → PlainOpen m before now after code

abbrev pub CheckpointsAreTold : Type 0
CheckpointsAreTold = (old : Session) (m : Map) (before now : Region) (after : Cola) (code : ℤ) → HoldsMap old m →
    ((new : Session) × (after.owned.session ≡ Some new) × (code ≡ pos (number Done)) × (now ≡ before) × Checkpoints old new)
    ⊎ ((after.owned.session ≡ None) × Tells code (Unfinished old now)) → PlainCheckpoint old m before now after code

abbrev pub ClosingsAreTold : Type 0
ClosingsAreTold = (old : Session) (m : Map) (now : Region) (code : ℤ) → HoldsMap old m →
    code ≡ pos (number Done) → Closes old now → (code ≡ pos 0) × HasMap now (place_of old) m
