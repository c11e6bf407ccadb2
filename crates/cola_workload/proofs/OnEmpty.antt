-- How the workload ends on a device that tells that it is empty.
use Rattle.std.proofs.Common.{◌≡◌, ◌∙◌, ◌⊎◌, inl, inr, ℕ, ◌-◌, ◌<◌, ◌≤◌, true, List, take, length, Option, Some, None, Ok, Err, is_some, option_map, refl, sym, ap, subst, arith}
use Rattle.std.specs.Prelude.{IfSome}
use Rattle.std.specs.Option.{IsSomeAnd}
use Rattle.cola_cell.specs.declared.format.Format.TheVariants.{One}
use Rattle.cola_cell.specs.declared.fault.ReadFault.{ReadFault}
use Rattle.cola_device.specs.declared.counts.Counts.{Counts}
use Rattle.cola_device.specs.declared.device.Device as device
use Rattle.cola_io.specs.Streams.{Appended}
use Rattle.cola_io.specs.declared.sink.Sink as sink
use Rattle.cola_layout.specs.declared.geometry.Geometry.{Geometry}
use Rattle.cola_layout.specs.declared.header.Header.{Header}
use Rattle.cola_layout.specs.declared.fault.LayoutFault.{LayoutFault}
use Rattle.cola_layout.specs.declared.fault.LayoutFault.TheVariants as layout
use Rattle.cola_layout.specs.Geometry.{Refuses}
use Rattle.cola_layout.specs.Fields.{fields_of}
use Rattle.cola_layout.specs.Header.{Fields}
use Rattle.cola_layout.proofs.Refusing.{spelling-one}
use Rattle.cola_opening.specs.Judged.{file_size, IsSmall, IsNoStore, IsInUse}
use Rattle.cola_opening.proofs.Sizes.{header_fits}
use Rattle.cola_spec.specs.Map.{Map, empty_map, count}
use Rattle.cola_table.specs.declared.table.Table as table
use Rattle.cola_table.specs.declared.PutFault.{PutFault}
use Rattle.cola_image.specs.Standing.{FileStandsFor, with_state}
use Rattle.cola_outside.specs.Told.{Both}
use Rattle.cola_outside.specs.Faults.{Rose}
use Rattle.cola_run.specs.Saving.{SameBehind}
use Rattle.cola_run.specs.Store.{Beside, Kept, beside}
use Rattle.cola_store.proofs.States.{state-long}
use Rattle.cola_cursor.specs.declared.cursor.Cursor.{Cursor}
use Rattle.cola_gen.specs.declared.Tally.{Tally}
use Rattle.cola_gen.specs.Keys.{made, evens, HasOdd}
use Rattle.cola_gen.specs.Answered.{State, at, MadeOdd}
use Rattle.cola_store.specs.declared.fault.CreateFault.{CreateFault}
use Rattle.cola_store.specs.declared.fault.CreateFault.TheVariants as create
use Rattle.cola_store.specs.declared.fault.OpenFault.{OpenFault}
use Rattle.cola_store.specs.declared.fault.OpenFault.TheVariants as open_fault
use Rattle.cola_store.specs.Create.{Created, Made, IsNewFile, Suits, new_header}
use Rattle.cola_store.specs.Open.{Opens, HasBadCell, IsReady}
use Rattle.cola_store.specs.Sessions.{IsStoreOpened, IsStoreClosed}
use Rattle.cola_store.specs.Store.{Stored, Holds, geometry_of, kept_of}
use Rattle.cola_workload.specs.Refused.{refusal_status}
use Rattle.cola_report.specs.Line.{LineEnds}
use Rattle.cola_workload.specs.Workload.{no_tally, workload_line, right_line, making_status, filling_status, asking_status, Filled, Asked, WasFilled, WasAsked, FillingRefused, AskingRefused, AskEnds, GenEnds, IsFileOfOdd, EndsOnEmpty, FaultsCaused}
use Rattle.cola_report.specs.Line.LineEnds.{WroteLine, WroteFront}
use Rattle.cola_workload.specs.Workload.FillingRefused.{NotMade, NotOpened, NotFilled, NotClosed}
use Rattle.cola_workload.specs.Workload.AskingRefused.{NotReopened, NotAsked, NotClosedAgain}
use Rattle.cola_workload.specs.Workload.AskEnds.{Told, AskRefused}
use Rattle.cola_workload.specs.Workload.GenEnds.{FillDone, FillRefused}
use Rattle.cola_workload.specs.Workload.EndsOnEmpty.{Right, RightFront, NoMemory, DeviceFailed}
use Rattle.cola_store.proofs.OpenLaws.{refute, not-no_store, not-in_use, not-small, not-bad_cell, new-stands, closed-stands}

-- ---- what is told

some-is : (told : Option (List ℕ)) (P : List ℕ → Type 0) → IsSomeAnd told P → is_some told ≡ true
some-is None P h = absurd h
some-is (Some bytes) P h = refl

holds-at : {D : Type 0} (d : device.Ghosts D) (m : Map) (store : Stored D) (told : Option (List ℕ)) → IsSomeAnd told (λ bytes. FileStandsFor bytes m) → IfSome told (λ bytes. (n : Map) → FileStandsFor bytes n → Holds d.bytes store n) → Holds d.bytes store m
holds-at d m store None file holds = absurd file
holds-at d m store (Some bytes) file holds = holds m file

-- how many bytes are told
abbrev many : Option (List ℕ) → Option ℕ
many told = option_map (λ bytes. length bytes) told

one-size : (told made : Option (List ℕ)) (keys bottom : ℕ) → many told ≡ many made → IfSome made (IsNewFile One keys 5 bottom) → IfSome told (λ bytes. length bytes ≡ file_size One bottom)
one-size None made keys bottom e new = tt
one-size (Some bytes) None keys bottom e new = cc
one-size (Some bytes) (Some before) keys bottom e new = let same : length bytes ≡ length before = cc in same ∙ new.size

file-of : (keys bottom : ℕ) (m : Map) (told : Option (List ℕ)) → HasOdd (made keys) m → Suits keys 5 bottom → IfSome told (λ bytes. length bytes ≡ file_size One bottom) → IsSomeAnd told (λ bytes. FileStandsFor bytes m) → IsSomeAnd told (IsFileOfOdd keys)
file-of keys bottom m None odd suits size file = absurd file
file-of keys bottom m (Some bytes) odd suits size file = record { map = m; stands = file; odd = odd; bottom = bottom; suits = suits; size = size }

-- an opening keeps the number of bytes
opened-many : (header : Header) (before now : Option (List ℕ)) → IfSome before (IsReady header) → Both before now (λ old new. new ≡ with_state 1 old) → many now ≡ many before
opened-many header None None ready both = refl
opened-many header None (Some now) ready both = absurd both
opened-many header (Some before) None ready both = absurd both
opened-many header (Some before) (Some now) ready both =
    let long : 15 ≤ length before = omega (arith, ready.was.has.whole, header_fits header.geometry.format header.geometry.bottom header.geometry.bottom_fits.three) in
    ap (λ (n : ℕ). Some n) (ap length both ∙ state-long 1 before long)

-- and so does a closing
closed-many : (geometry : Geometry) (before now : Option (List ℕ)) → Both before now (SameBehind geometry) → many now ≡ many before
closed-many geometry None None both = refl
closed-many geometry None (Some now) both = absurd both
closed-many geometry (Some before) None both = absurd both
closed-many geometry (Some before) (Some now) both = ap (λ (n : ℕ). Some n) both.many

size-beside : (geometry : Geometry) (told : Option (List ℕ)) → option_map (λ (b : Beside). b.size) (option_map (beside geometry) told) ≡ many told
size-beside geometry None = refl
size-beside geometry (Some bytes) = refl

-- and every call between
pub kept-many : {D A : Type 0} (bytes : D → Option (List ℕ)) (counts : D → Counts) (kept : D → A) (a b : Stored D) → kept_of bytes counts kept a ≡ kept_of bytes counts kept b → many (bytes a.chain.store.buffers.cache.device) ≡ many (bytes b.chain.store.buffers.cache.device)
kept-many {A = A} bytes counts kept a b e =
    sym (size-beside a.chain.store.geometry (bytes a.chain.store.buffers.cache.device))
    ∙ ap (λ (k : Kept A). option_map (λ (x : Beside). x.size) k.beside) e
    ∙ size-beside b.chain.store.geometry (bytes b.chain.store.buffers.cache.device)

-- ---- what an opening of a file that stands for a map answers

only-two : {D : Type 0} (d : device.Ghosts D) (before now : D) (m : Map) (fault : OpenFault) → IsSomeAnd (d.bytes before) (λ bytes. FileStandsFor bytes m) → Opens d before 0 (Err (now, fault)) → (refusal_status fault ≡ 1) ⊎ (refusal_status fault ≡ 5)
only-two d before now m open_fault.NotStore file is = absurd (refute (d.bytes before) (λ bytes. FileStandsFor bytes m) IsNoStore (not-no_store m) file is.why_is)
only-two d before now m open_fault.NotClosed file is = absurd (refute (d.bytes before) (λ bytes. FileStandsFor bytes m) IsInUse (not-in_use m) file is.why_is)
only-two d before now m open_fault.Small file is = absurd (refute (d.bytes before) (λ bytes. FileStandsFor bytes m) IsSmall (not-small m) file is.why_is)
only-two d before now m open_fault.Device file is = inr refl
only-two d before now m open_fault.OutOfMemory file is = inl refl
only-two d before now m (open_fault.BadCell number) file (header, is) =
    absurd (refute (d.bytes before) (λ bytes. FileStandsFor bytes m) (HasBadCell header number) (λ bytes f. not-bad_cell m bytes f header number) file is.why_is)

-- ---- the line

lines-alike : (a : Tally) (left f g w o l : ℕ) → a.fresh ≡ f → a.gone ≡ g → a.wrong ≡ w → a.over ≡ o → left ≡ l → workload_line a left ≡ workload_line (record { fresh = f; gone = g; wrong = w; over = o }) l
lines-alike a left f g w o l ef eg ew eo el = rw (ef, eg, ew, eo, el) refl

half : (keys : ℕ) → made keys ≤ keys
half keys = omega arith

module _ {K D : Type 0} (k : sink.Ghosts K) (d : device.Ghosts D) (t : table.Ghosts (Stored D) Cursor) (keys : ℕ)
    (all-tell : (x : D) → is_some (d.bytes x) ≡ d.tells)
    (holds-is : (s : Stored D) (m : Map) → t.holds s m → Holds d.bytes s m) (holds-of : (s : Stored D) (m : Map) → Holds d.bytes s m → t.holds s m)
    (limit-is : (s : Stored D) → (t.terms s).limit ≡ (geometry_of s).keys)
    (many-kept : (a b : Stored D) → t.kept a ≡ t.kept b → many (d.bytes a.chain.store.buffers.cache.device) ≡ many (d.bytes b.chain.store.buffers.cache.device)) where
  opened-keeps : (before : D) (store : Stored D) → IsStoreOpened d before 0 store → many (d.bytes store.chain.store.buffers.cache.device) ≡ many (d.bytes before)
  opened-keeps before store opened = opened-many opened.header (d.bytes before) (d.bytes store.chain.store.buffers.cache.device) opened.opened.was opened.opened.marked

  closed-keeps : (store : Stored D) (now : D) → IsStoreClosed d store now → many (d.bytes now) ≡ many (d.bytes store.chain.store.buffers.cache.device)
  closed-keeps store now closed = closed-many closed.header.geometry (d.bytes store.chain.store.buffers.cache.device) (d.bytes now) closed.closed.behind

  filled-keeps : (before between : D) (steps : ℕ) (filled : State (Stored D)) (was : WasFilled d t keys before steps filled between) → many (d.bytes between) ≡ many (d.bytes was.made_on)
  filled-keeps before between steps filled was =
      closed-keeps filled.table between was.closed ∙ many-kept filled.table was.was.store was.was.fills.spent.keeps.kept ∙ opened-keeps was.made_on was.was.store was.was.opened

  asked-keeps : (between now : D) (tally : Tally) (steps : ℕ) (asked : State (Stored D)) → WasAsked d t keys between tally steps asked now → many (d.bytes now) ≡ many (d.bytes between)
  asked-keeps between now tally steps asked was =
      closed-keeps asked.table now was.closed ∙ many-kept asked.table was.was.store was.was.asks.spent.keeps.kept ∙ opened-keeps between was.was.store was.was.opened

  -- ---- the new file

  new-file : (before made_on : D) → IsSomeAnd (d.bytes before) (λ bytes. length bytes ≡ 0) → Made d One keys 5 before made_on → IsSomeAnd (d.bytes made_on) (λ bytes. FileStandsFor bytes empty_map)
  new-file before made_on empty file =
      new-stands d One keys 5 before made_on (Ok tt) file refl (all-tell made_on ∙ sym (all-tell before) ∙ some-is (d.bytes before) (λ bytes. length bytes ≡ 0) empty)

  keys-told : (bottom : ℕ) (header : Header) (told : Option (List ℕ)) → is_some told ≡ true → IfSome told (IsNewFile One keys 5 bottom) → IfSome told (IsReady header) → header.geometry.keys ≡ keys
  keys-told bottom header None some file ready = cc
  keys-told bottom header (Some bytes) some file ready =
      ap (λ (f : Fields). f.keys) (spelling-one (fields_of header) (new_header One keys 5 bottom) (take 512 bytes) ready.was.has.spelled file.stands.spelled)

  -- the store of the new file is for so many keys
  keys-are : (before made_on : D) (store : Stored D) → IsSomeAnd (d.bytes before) (λ bytes. length bytes ≡ 0) → Made d One keys 5 before made_on → IsStoreOpened d made_on 0 store → (geometry_of store).keys ≡ keys
  keys-are before made_on store empty file opened =
      ap (λ (g : Geometry). g.keys) (sym opened.header_is.geometry_is)
      ∙ keys-told file.bottom opened.header (d.bytes made_on) (all-tell made_on ∙ sym (all-tell before) ∙ some-is (d.bytes before) (λ bytes. length bytes ≡ 0) empty) file.file opened.opened.was

  -- ---- the first half

  holds-empty : (before made_on : D) (store : Stored D) → IsSomeAnd (d.bytes before) (λ bytes. length bytes ≡ 0) → Made d One keys 5 before made_on → IsStoreOpened d made_on 0 store → t.holds store empty_map
  holds-empty before made_on store empty file opened =
      holds-of store empty_map (holds-at d empty_map store (d.bytes made_on) (new-file before made_on empty file) opened.holds)

  room : (before made_on : D) (store : Stored D) → IsSomeAnd (d.bytes before) (λ bytes. length bytes ≡ 0) → Made d One keys 5 before made_on → IsStoreOpened d made_on 0 store → made keys ≤ (t.terms store).limit
  room before made_on store empty file opened =
      omega (arith, half keys, limit-is store, keys-are before made_on store empty file opened)

  unfilled : (before made_on : D) (steps : ℕ) (fault : PutFault) (last : State (Stored D)) → IsSomeAnd (d.bytes before) (λ bytes. length bytes ≡ 0) → Made d One keys 5 before made_on → Filled d t keys made_on steps (Err fault) last → filling_status fault ≡ 5
  unfilled before made_on steps fault last empty file was =
      ap filling_status (was.fills.from_empty (holds-empty before made_on was.store empty file was.opened) (room before made_on was.store empty file was.opened))

  unmade : (before now : D) (fault : CreateFault) → IsSomeAnd (d.bytes before) (λ bytes. length bytes ≡ 0) → ((reason : LayoutFault) → Refuses keys 5 reason → ⊥) → Created d One keys 5 before now (Err fault) → making_status fault ≡ 5
  unmade before now create.Keys empty suits is = absurd (suits layout.Keys is.why)
  unmade before now create.Block empty suits is = absurd (suits layout.Block is.why)
  unmade before now create.NotEmpty empty suits is =
      absurd (refute (d.bytes before) (λ bytes. length bytes ≡ 0) (λ bytes. 0 < length bytes) (λ bytes none some. omega (arith, none, some)) empty is.some)
  unmade before now create.Device empty suits is = refl

  one-or-five : (sink sink' : K) (told : Option (List ℕ)) (status other : ℕ) → status ≡ other → (other ≡ 1) ⊎ (other ≡ 5) → EndsOnEmpty k keys sink sink' told status
  one-or-five sink sink' told status other is (inl e) = NoMemory (is ∙ e)
  one-or-five sink sink' told status other is (inr e) = DeviceFailed (is ∙ e)

  fill-refused : (before now : D) (steps steps' status : ℕ) (sink sink' : K) (told : Option (List ℕ)) → IsSomeAnd (d.bytes before) (λ bytes. length bytes ≡ 0) → ((reason : LayoutFault) → Refuses keys 5 reason → ⊥)
      → FillingRefused d t keys before now steps steps' status → EndsOnEmpty k keys sink sink' told status
  fill-refused before now steps steps' status sink sink' told empty suits (NotMade fault is created count) = DeviceFailed (is ∙ unmade before now fault empty suits created)
  fill-refused before now steps steps' status sink sink' told empty suits (NotOpened fault made_on is file opened count) =
      one-or-five sink sink' told status (refusal_status fault) is (only-two d made_on now empty_map fault (new-file before made_on empty file) opened)
  fill-refused before now steps steps' status sink sink' told empty suits (NotFilled fault made_on last is file was closed count) = DeviceFailed (is ∙ unfilled before made_on steps fault last empty file was)
  fill-refused before now steps steps' status sink sink' told empty suits (NotClosed made_on last is file was closed count) = DeviceFailed is

  -- ---- the second half

  module _ (m : Map) (between : D) (file : IsSomeAnd (d.bytes between) (λ bytes. FileStandsFor bytes m)) where
    holds-again : (store : Stored D) → IsStoreOpened d between 0 store → t.holds store m
    holds-again store opened = holds-of store m (holds-at d m store (d.bytes between) file opened.holds)

    unasked : (tally : Tally) (steps : ℕ) (fault : ReadFault) (last : State (Stored D)) → Asked d t keys between tally steps (Err fault) last → asking_status fault ≡ 5
    unasked tally steps fault last was = ap asking_status (was.asks.wrong m (holds-again was.store was.opened))

    ask-refused : (now : D) (tally : Tally) (steps steps' status : ℕ) (sink sink' : K) (told : Option (List ℕ)) → AskingRefused d t keys between now tally steps steps' status → EndsOnEmpty k keys sink sink' told status
    ask-refused now tally steps steps' status sink sink' told (NotReopened fault is opened count) =
        one-or-five sink sink' told status (refusal_status fault) is (only-two d between now m fault file opened)
    ask-refused now tally steps steps' status sink sink' told (NotAsked fault last is was closed count) = DeviceFailed (is ∙ unasked tally steps fault last was)
    ask-refused now tally steps steps' status sink sink' told (NotClosedAgain last is was closed count) = DeviceFailed is

    -- the file stands for the map still
    stands-after : (now : D) (tally : Tally) (steps : ℕ) (asked : State (Stored D)) → WasAsked d t keys between tally steps asked now → IsSomeAnd (d.bytes now) (λ bytes. FileStandsFor bytes m)
    stands-after now tally steps asked was =
        closed-stands d asked.table m now (holds-is asked.table m (was.was.asks.holds m (holds-again was.was.store was.was.opened))) was.closed

    -- and the line is the right one
    right : (now : D) (tally : Tally) (steps : ℕ) (asked : State (Stored D)) → WasAsked d t keys between tally steps asked now → HasOdd (made keys) m → tally.fresh ≡ made keys → tally.gone ≡ evens (made keys) → tally.wrong ≡ 0 → tally.over ≡ 0
        → workload_line asked.tally asked.table.count ≡ right_line keys
    right now tally steps asked was odd fresh gone wrong over =
        let holds : t.holds was.was.store m = holds-again was.was.store was.was.opened in
        let after : Holds d.bytes asked.table m = holds-is asked.table m (was.was.asks.holds m holds) in
        let rises = was.was.asks.tallied in
        lines-alike asked.tally asked.table.count (made keys) (evens (made keys)) 0 0 (made keys - evens (made keys))
        (omega (arith, rises.fresh_kept, rises.fresh_within, fresh))
        (omega (arith, rises.gone_kept, rises.gone_within, gone))
        (was.was.asks.none_wrong m holds odd ∙ wrong)
        (was.was.asks.none_over ∙ over)
        (after.counted ∙ odd.counted)

    line-ends : (now : D) (text : List ℕ) (sink sink' : K) (status : ℕ) → text ≡ right_line keys → IsSomeAnd (d.bytes now) (IsFileOfOdd keys) → LineEnds k text 0 sink sink' status → EndsOnEmpty k keys sink sink' (d.bytes now) status
    line-ends now text sink sink' status e left (WroteLine is wrote counted) = Right is (subst (λ (xs : List ℕ). Appended xs (k.written sink) (k.written sink')) e wrote) left
    line-ends now text sink sink' status e left (WroteFront is n wrote counted) =
        RightFront is n (subst (λ (xs : List ℕ). Appended (take n xs) (k.written sink) (k.written sink')) e wrote) counted left

    ask-ends : (now made_on : D) (bottom : ℕ) (tally : Tally) (sink sink' : K) (steps steps' status : ℕ) → Suits keys 5 bottom → IfSome (d.bytes made_on) (IsNewFile One keys 5 bottom) → many (d.bytes between) ≡ many (d.bytes made_on) → HasOdd (made keys) m → tally.fresh ≡ made keys → tally.gone ≡ evens (made keys) → tally.wrong ≡ 0 → tally.over ≡ 0
        → AskEnds k d t keys between now tally sink sink' steps steps' status → EndsOnEmpty k keys sink sink' (d.bytes now) status
    ask-ends now made_on bottom tally sink sink' steps steps' status suits new size odd fresh gone wrong over (Told asked was count line) =
        line-ends now (workload_line asked.tally asked.table.count) sink sink' status (right now tally steps asked was odd fresh gone wrong over)
        (file-of keys bottom m (d.bytes now) odd suits (one-size (d.bytes now) (d.bytes made_on) keys bottom (asked-keeps between now tally steps asked was ∙ size) new) (stands-after now tally steps asked was)) line
    ask-ends now made_on bottom tally sink sink' steps steps' status suits new size odd fresh gone wrong over (AskRefused refused stays) =
        ask-refused now tally steps steps' status sink sink' (d.bytes now) refused

  -- ---- both

  fill-done : (before now between : D) (sink sink' : K) (steps steps' status : ℕ) (filled : State (Stored D)) → IsSomeAnd (d.bytes before) (λ bytes. length bytes ≡ 0) → WasFilled d t keys before steps filled between
      → AskEnds k d t keys between now filled.tally sink sink' filled.steps steps' status → EndsOnEmpty k keys sink sink' (d.bytes now) status
  fill-done before now between sink sink' steps steps' status filled empty was ends =
      let odd : MadeOdd t (made keys) (at was.was.store no_tally steps) filled =
      was.was.fills.from_empty (holds-empty before was.made_on was.was.store empty was.file was.was.opened) (room before was.made_on was.was.store empty was.file was.was.opened) in
      let rises = was.was.fills.tallied in
      ask-ends odd.map between (closed-stands d filled.table odd.map between (holds-is filled.table odd.map odd.holds) was.closed) now was.made_on was.file.bottom filled.tally sink sink' filled.steps steps' status was.file.suits was.file.file (filled-keeps before between steps filled was) odd.odd
      (omega (arith, odd.tallied.fresh)) (omega (arith, odd.tallied.gone)) (omega (arith, rises.wrong_kept, rises.wrong_within)) was.was.fills.none_over ends

  pub on-empty : (before now : D) (sink sink' : K) (steps steps' status : ℕ) → ((reason : LayoutFault) → Refuses keys 5 reason → ⊥) → IsSomeAnd (d.bytes before) (λ bytes. length bytes ≡ 0)
      → GenEnds k d t keys before now sink sink' steps steps' status → EndsOnEmpty k keys sink sink' (d.bytes now) status
  on-empty before now sink sink' steps steps' status suits empty (FillDone filled between was ends) = fill-done before now between sink sink' steps steps' status filled empty was ends
  on-empty before now sink sink' steps steps' status suits empty (FillRefused refused stays) =
      fill-refused before now steps steps' status sink sink' (d.bytes now) empty suits refused

-- ---- no fault

pub complete : {K : Type 0} (k : sink.Ghosts K) (keys : ℕ) (sink sink' : K) (told : Option (List ℕ)) (status before now : ℕ) → EndsOnEmpty k keys sink sink' told status → FaultsCaused status before now → (Rose before now → ⊥) → (Rose (k.faults sink) (k.faults sink') → ⊥)
    → (status ≡ 0) ⊎ (status ≡ 1)
complete k keys sink sink' told status before now (Right is wrote file) caused calm quiet = inl is
complete k keys sink sink' told status before now (RightFront is n wrote counted file) caused calm quiet = absurd (quiet (omega (arith, counted)))
complete k keys sink sink' told status before now (NoMemory is) caused calm quiet = inr is
complete k keys sink sink' told status before now (DeviceFailed is) caused calm quiet = absurd (calm (caused is))
