-- Which answer an opening gives on a file that stands for a map, or would but for its state byte.
use Rattle.std.proofs.Common.{◌≡◌, ◌⊎◌, inl, inr, ℕ, zero, suc, ◌+◌, ◌-◌, ◌<◌, ◌≤◌, Bool, true, false, eqb, ◌==◌, if◌then◌else◌, ◌≢◌, List, [], ◌∷◌, length, take, Option, Some, None, Result, Ok, Err, refl, sym, ap, subst, arith}
use Rattle.std.specs.Prelude.{IfSome, is_ok}
use Rattle.std.proofs.lemmas.Bool.Decides.{eqb_tells}
use Rattle.cola_outside.specs.Told.{Both}
use Rattle.std.specs.Option.{IsSome, IsSomeAnd}
use Rattle.cola_cell.specs.declared.format.Format.{Format}
use Rattle.cola_cell.specs.Held.{Spot, Spots, Bad}
use Rattle.cola_clock.specs.Clock.{visible_slot}
use Rattle.cola_clock.specs.Marks.{Marks as LevelMarks, marks_at}
use Rattle.cola_device.specs.declared.device.Device as device
use Rattle.cola_layout.specs.declared.header.Header.{Header}
use Rattle.cola_layout.specs.Fields.{fields_of}
use Rattle.cola_layout.specs.Header.{Fields, IsSpelling, IsNoSpelling}
use Rattle.cola_layout.specs.Marks.{all_numbers, marks_of}
use Rattle.cola_layout.proofs.Levels.{number-at, numbers-length}
use Rattle.cola_layout.proofs.Refusing.{spelling-one}
use Rattle.cola_opening.specs.Judged.{file_size, IsSmall, IsNoStore, IsInUse}
use Rattle.cola_opening.proofs.Sizes.{header_fits}
use Rattle.cola_spec.specs.Map.{Map, empty_map}
use Rattle.cola_cell.specs.ToldCells.{AreTold}
use Rattle.cola_layout.specs.Cells.{file_spots}
use Rattle.cola_image.specs.Standing.{AreRunsTold, HeaderStandsFor, FileStandsFor, with_state}
use Rattle.cola_run.specs.Saving.{IsFrontRun, SameBehind, run_len}
use Rattle.cola_store.specs.declared.fault.CreateFault.{CreateFault}
use Rattle.cola_store.specs.declared.fault.OpenFault.{OpenFault}
use Rattle.cola_store.specs.declared.fault.OpenFault.TheVariants.{NotStore, NotClosed, Small, Device, OutOfMemory, BadCell}
use Rattle.cola_store.specs.Create.{new_header, IsNewFile, Created}
use Rattle.cola_store.specs.Open.{WasClosed, IsReady, HasBadCell, Opens}
use Rattle.cola_store.specs.Sessions.{OpensStore, ClosesStore, MetFault, OpensTo, RefusesAs}
use Rattle.cola_store.specs.Store.{Stored, Holds}
use Rattle.cola_chain.proofs.Headers.{slot-in}
use Rattle.cola_store.proofs.States.{in_use, used-spelling, no-spelling, state-first, state-long}

-- ---- one header

-- a file whose first bytes spell a header stands for a map by that header
pub by-header : (bytes : List ℕ) (m : Map) (other : Fields) → FileStandsFor bytes m → IsSpelling other (take 512 bytes) → HeaderStandsFor other bytes m
by-header bytes m other (mine, file) spelled =
    subst (λ (f : Fields). HeaderStandsFor f bytes m) (spelling-one mine other (take 512 bytes) file.spelled spelled) file

-- ---- no bad cell

not-bad : (spots : ℕ → Spot) (n i : ℕ) → AreTold spots n → i < n → spots i ≡ Bad → ⊥
not-bad spots n i told h bad = let t = told i h in cc

-- the run in a slot is told, of two that are
told-slot : (spots : ℕ → ℕ → Spot) (v slot seen built : ℕ) → AreTold (spots v) seen → AreTold (spots (1 - v)) built → slot < 2 → v < 2 → AreTold (spots slot) (if slot == v then seen else built)
told-slot spots v slot seen built one other h k = by-test (eqb_tells slot v)
  where
    by-test : ((eqb slot v ≡ true) × (slot ≡ v)) ⊎ ((eqb slot v ≡ false) × (slot ≢ v)) → AreTold (spots slot) (if slot == v then seen else built)
    by-test (inl (t, e)) = subst (λ (b : Bool). AreTold (spots slot) (if b then seen else built)) (sym t) (subst (λ (n : ℕ). AreTold (spots n) seen) (sym e) one)
    by-test (inr (t, n)) =
        let e : slot ≡ 1 - v = omega arith in
        subst (λ (b : Bool). AreTold (spots slot) (if b then seen else built)) (sym t) (subst (λ (n : ℕ). AreTold (spots n) built) (sym e) other)

told-level : (spots : Spots) (t j : ℕ) (marks : List LevelMarks) → AreRunsTold spots t j marks → (k : ℕ) → k < length marks →
    AreTold (spots (j + k) (visible_slot t (j + k))) (marks_at marks k).visible × AreTold (spots (j + k) (1 - visible_slot t (j + k))) (marks_at marks k).shadow
told-level spots t j [] told k h = absurd (omega (arith, h))
told-level spots t j (m ∷ below) told zero h =
    let e : j ≡ j + 0 = omega arith in
    subst (λ (n : ℕ). AreTold (spots n (visible_slot t n)) m.visible × AreTold (spots n (1 - visible_slot t n)) m.shadow) e (told.0, told.1)
told-level spots t j (m ∷ below) told (suc k) h =
    let e : suc j + k ≡ j + suc k = omega arith in
    subst (λ (n : ℕ). AreTold (spots n (visible_slot t n)) (marks_at below k).visible × AreTold (spots n (1 - visible_slot t n)) (marks_at below k).shadow) e (told-level spots t (suc j) below told.2 k (omega (arith, h)))

-- a run of the first two blocks has no bad cell
front-told : (header : Header) (spots : Spots) → AreRunsTold spots header.clock 0 (all_numbers header.levels.items) → (level slot index : ℕ) → IsFrontRun header level slot index → spots level slot index ≡ Bad → ⊥
front-told header spots told level slot index run =
    let n = numbers-length header.levels.items in
    let one = header.one_each in
    let low = header.geometry.block_fits.fits in
    let front = run.front in
    let marks = all_numbers header.levels.items in
    let at = ap (λ (m : LevelMarks). m.visible) (number-at header.levels.items level) in
    let built = ap (λ (m : LevelMarks). m.shadow) (number-at header.levels.items level) in
    let runs = told-level spots header.clock 0 marks told level (omega (arith, n, one, low, front)) in
    let e : 0 + level ≡ level = omega arith in
    let seen : AreTold (spots level (visible_slot header.clock level)) (marks_of header.levels.items level).visible =
    subst (λ (k : ℕ). AreTold (spots level (visible_slot header.clock level)) k) at (subst (λ (k : ℕ). AreTold (spots k (visible_slot header.clock k)) (marks_at marks level).visible) e runs.0) in
    let shadow : AreTold (spots level (1 - visible_slot header.clock level)) (marks_of header.levels.items level).shadow =
    subst (λ (k : ℕ). AreTold (spots level (1 - visible_slot header.clock level)) k) built (subst (λ (k : ℕ). AreTold (spots k (1 - visible_slot header.clock k)) (marks_at marks level).shadow) e runs.1) in
    not-bad (spots level slot) (run_len header level slot) index
    (told-slot (spots level) (visible_slot header.clock level) slot (marks_of header.levels.items level).visible (marks_of header.levels.items level).shadow seen shadow run.slot_in (slot-in header.clock level))
    run.within

-- ---- what bytes exclude

pub refute : (told : Option (List ℕ)) (P Q : List ℕ → Type 0) → ((bytes : List ℕ) → P bytes → Q bytes → ⊥) → IsSomeAnd told P → IfSome told Q → ⊥
refute None P Q clash some if_so = some
refute (Some bytes) P Q clash some if_so = clash bytes some if_so

pub some-so : (told : Option (List ℕ)) (P : List ℕ → Type 0) (A : Type 0) → ((bytes : List ℕ) → P bytes → A) → IsSomeAnd told P → A
some-so None P A h some = absurd some
some-so (Some bytes) P A h some = h bytes some

pub fits : (f : Fields) (bytes text : List ℕ) → IsSpelling f text → file_size f.format f.bottom ≤ length bytes → 512 ≤ length bytes
fits f bytes text s whole = omega (arith, whole, header_fits f.format f.bottom s.sound.bottom_fits.three)

-- bytes that stand for a map
module _ (m : Map) (bytes : List ℕ) (file : FileStandsFor bytes m) where
  pub not-no_store : IsNoStore bytes → ⊥
  not-no_store is = is.none file.0 file.1.spelled

  pub not-in_use : IsInUse bytes → ⊥
  not-in_use (header, (has, used)) = let closed = (by-header bytes m header file has.spelled).closed in cc

  pub not-small : IsSmall bytes → ⊥
  not-small (inl short) = omega (arith, short, fits file.0 bytes (take 512 bytes) file.1.spelled file.1.whole)
  not-small (inr (header, (spelled, less))) = omega (arith, less, (by-header bytes m header file spelled).whole)

  pub not-bad_cell : (header : Header) (number : ℕ) → HasBadCell header number bytes → ⊥
  not-bad_cell header number is =
      front-told header (file_spots header.geometry.format bytes) (by-header bytes m (fields_of header) file is.was.has.spelled).levels.told is.bad.level is.bad.slot is.bad.index is.bad.run is.bad.bad

-- bytes whose header is that of a store in use
pub record IsUsed (bytes : List ℕ) : Type 0 where
  pub header : Fields
  pub spelled : IsSpelling header (take 512 bytes)
  pub used : header.closed ≡ false
  pub whole : file_size header.format header.bottom ≤ length bytes

pub used-file : (m : Map) (closed : List ℕ) → FileStandsFor closed m → IsUsed (with_state 1 closed)
used-file m closed (f, file) =
    let room = fits f closed (take 512 closed) file.spelled file.whole in
    let many : length (with_state 1 closed) ≡ length closed = state-long 1 closed (omega (arith, room)) in
    record {
      header = in_use f;
      spelled = subst (λ (xs : List ℕ). IsSpelling (in_use f) xs) (sym (state-first 1 closed room)) (used-spelling f (take 512 closed) file.spelled);
      used = refl;
      whole = omega (arith, many, file.whole);
    }

module _ (bytes : List ℕ) (is : IsUsed bytes) where
  pub used-no_store : IsNoStore bytes → ⊥
  used-no_store lost = lost.none is.header is.spelled

  pub used-small : IsSmall bytes → ⊥
  used-small (inl short) = omega (arith, short, fits is.header bytes (take 512 bytes) is.spelled is.whole)
  used-small (inr (header, (spelled, less))) =
      let whole = subst (λ (f : Fields). file_size f.format f.bottom ≤ length bytes) (spelling-one is.header header (take 512 bytes) is.spelled spelled) is.whole in
      omega (arith, less, whole)

  pub used-closed : (header : Header) → WasClosed header bytes → ⊥
  used-closed header was =
      let used = subst (λ (f : Fields). f.closed ≡ false) (spelling-one is.header (fields_of header) (take 512 bytes) is.spelled was.has.spelled) is.used in
      let closed = was.closed in
      cc

-- bytes that spell no header
pub record IsLost (bytes : List ℕ) : Type 0 where
  pub none : IsNoSpelling (take 512 bytes)
  pub long : 512 ≤ length bytes

pub lost-file : (state : ℕ) (m : Map) (closed : List ℕ) → 1 < state → FileStandsFor closed m → IsLost (with_state state closed)
lost-file state m closed h (f, file) =
    let room = fits f closed (take 512 closed) file.spelled file.whole in
    let many : length (with_state state closed) ≡ length closed = state-long state closed (omega (arith, room)) in
    record { none = subst (λ (xs : List ℕ). IsNoSpelling xs) (sym (state-first state closed room)) (no-spelling state f (take 512 closed) h file.spelled); long = omega (arith, many, room) }

pub lost-small : (bytes : List ℕ) → IsLost bytes → IsSmall bytes → ⊥
lost-small bytes lost (inl short) = omega (arith, short, lost.long)
lost-small bytes lost (inr (header, (spelled, less))) = lost.none header spelled

-- ---- answers

module _ {D : Type 0} (d : device.Ghosts D) (cache : ℕ) (before : D) where
  -- the header of an opening, and that of each of its refusals that has one, is that of a closed store
  to-refusal : (m : Map) (now : D) (fault : OpenFault) → IsSomeAnd (d.bytes before) (λ bytes. FileStandsFor bytes m) → Opens d before cache (Err (now, fault)) → (fault ≡ OutOfMemory) ⊎ MetFault d before (now, fault)
  to-refusal m now NotStore file is = absurd (refute (d.bytes before) (λ bytes. FileStandsFor bytes m) IsNoStore (not-no_store m) file is.why_is)
  to-refusal m now NotClosed file is = absurd (refute (d.bytes before) (λ bytes. FileStandsFor bytes m) IsInUse (not-in_use m) file is.why_is)
  to-refusal m now Small file is = absurd (refute (d.bytes before) (λ bytes. FileStandsFor bytes m) IsSmall (not-small m) file is.why_is)
  to-refusal m now Device file is = inr (refl, is.cause)
  to-refusal m now OutOfMemory file is = inl refl
  to-refusal m now (BadCell number) file (header, is) =
      absurd (refute (d.bytes before) (λ bytes. FileStandsFor bytes m) (HasBadCell header number) (λ bytes f. not-bad_cell m bytes f header number) file is.why_is)

  pub holds-so : (m : Map) (store : Stored D) (told : Option (List ℕ)) → IsSomeAnd told (λ bytes. FileStandsFor bytes m) → IfSome told (λ bytes. (n : Map) → FileStandsFor bytes n → Holds d.bytes store n) → Holds d.bytes store m
  holds-so m store None file holds = absurd file
  holds-so m store (Some bytes) file holds = holds m file

  pub opens-to : (m : Map) (result : Result (Stored D) (D × OpenFault)) → IsSomeAnd (d.bytes before) (λ bytes. FileStandsFor bytes m) → OpensStore d before cache result → OpensTo d before m result
  opens-to m (Ok store) file is = holds-so m store (d.bytes before) file is.holds
  opens-to m (Err refusal) file is = to-refusal m refusal.0 refusal.1 file is

  used-refusal : (now : D) (fault : OpenFault) → IsSomeAnd (d.bytes before) IsUsed → Opens d before cache (Err (now, fault)) → (fault ≡ NotClosed) ⊎ MetFault d before (now, fault)
  used-refusal now NotStore file is = absurd (refute (d.bytes before) IsUsed IsNoStore used-no_store file is.why_is)
  used-refusal now NotClosed file is = inl refl
  used-refusal now Small file is = absurd (refute (d.bytes before) IsUsed IsSmall used-small file is.why_is)
  used-refusal now Device file is = inr (refl, is.cause)
  used-refusal now OutOfMemory file is = absurd (refute (d.bytes before) IsUsed (λ bytes. (header : Header) × WasClosed header bytes) (λ bytes used closed. used-closed bytes used closed.0 closed.1) file is.why_is)
  used-refusal now (BadCell number) file (header, is) = absurd (refute (d.bytes before) IsUsed (HasBadCell header number) (λ bytes used bad. used-closed bytes used header bad.was) file is.why_is)

  pub used-answer : (closed : List ℕ) (m : Map) (result : Result (Stored D) (D × OpenFault)) → FileStandsFor closed m → d.bytes before ≡ Some (with_state 1 closed) → OpensStore d before cache result → RefusesAs d before NotClosed result
  used-answer closed m (Ok store) file told is =
      absurd (refute (d.bytes before) IsUsed (IsReady is.header) (λ bytes used ready. used-closed bytes used is.header ready.was) (subst (λ (t : Option (List ℕ)). IsSomeAnd t IsUsed) (sym told) (used-file m closed file)) is.opened.was)
  used-answer closed m (Err refusal) file told is = used-refusal refusal.0 refusal.1 (subst (λ (t : Option (List ℕ)). IsSomeAnd t IsUsed) (sym told) (used-file m closed file)) is

  lost-refusal : (now : D) (fault : OpenFault) → IsSomeAnd (d.bytes before) IsLost → Opens d before cache (Err (now, fault)) → (fault ≡ NotStore) ⊎ MetFault d before (now, fault)
  lost-refusal now NotStore file is = inl refl
  lost-refusal now NotClosed file is = absurd (refute (d.bytes before) IsLost IsInUse (λ bytes lost used. lost.none used.0 used.1.0.spelled) file is.why_is)
  lost-refusal now Small file is = absurd (refute (d.bytes before) IsLost IsSmall lost-small file is.why_is)
  lost-refusal now Device file is = inr (refl, is.cause)
  lost-refusal now OutOfMemory file is = absurd (refute (d.bytes before) IsLost (λ bytes. (header : Header) × WasClosed header bytes) (λ bytes lost closed. lost.none (fields_of closed.0) closed.1.has.spelled) file is.why_is)
  lost-refusal now (BadCell number) file (header, is) = absurd (refute (d.bytes before) IsLost (HasBadCell header number) (λ bytes lost bad. lost.none (fields_of header) bad.was.has.spelled) file is.why_is)

  pub lost-answer : (state : ℕ) (closed : List ℕ) (m : Map) (result : Result (Stored D) (D × OpenFault)) → 1 < state → FileStandsFor closed m → d.bytes before ≡ Some (with_state state closed) → OpensStore d before cache result → RefusesAs d before NotStore result
  lost-answer state closed m (Ok store) h file told is =
      absurd (refute (d.bytes before) IsLost (IsReady is.header) (λ bytes lost ready. lost.none (fields_of is.header) ready.was.has.spelled) (subst (λ (t : Option (List ℕ)). IsSomeAnd t IsLost) (sym told) (lost-file state m closed h file)) is.opened.was)
  lost-answer state closed m (Err refusal) h file told is = lost-refusal refusal.0 refusal.1 (subst (λ (t : Option (List ℕ)). IsSomeAnd t IsLost) (sym told) (lost-file state m closed h file)) is

-- ---- files that stand for a map

both-so : (told : Option (List ℕ)) (P : List ℕ → Type 0) → IsSome told → IfSome told P → IsSomeAnd told P
both-so None P some if_so = cc
both-so (Some bytes) P some if_so = if_so

pub new-stands : {D : Type 0} (d : device.Ghosts D) (format : Format) (keys block_exp : ℕ) (empty made : D) (creation : Result (Unit {0}) CreateFault) → Created d format keys block_exp empty made creation → is_ok creation ≡ true → IsSome (d.bytes made) →
    IsSomeAnd (d.bytes made) (λ bytes. FileStandsFor bytes empty_map)
new-stands d format keys block_exp empty made (Err fault) is ok some = cc
new-stands d format keys block_exp empty made (Ok value) is ok some =
    both-so (d.bytes made) (λ bytes. FileStandsFor bytes empty_map) some (new-file (d.bytes made) is.file)
  where
    new-file : (told : Option (List ℕ)) → IfSome told (IsNewFile format keys block_exp is.bottom) → IfSome told (λ bytes. FileStandsFor bytes empty_map)
    new-file None file = tt
    new-file (Some bytes) file = (new_header format keys block_exp is.bottom, file.stands)

pub closed-stands : {D : Type 0} (d : device.Ghosts D) (store : Stored D) (m : Map) (now : D) → Holds d.bytes store m → ClosesStore d store (Ok now) → IsSomeAnd (d.bytes now) (λ bytes. FileStandsFor bytes m)
closed-stands d store m now holds is = by-told (d.bytes store.chain.store.buffers.cache.device) (d.bytes now) holds.tells is.closed.behind is.stands
  where
    by-told : (before told : Option (List ℕ)) → IsSome before → Both before told (SameBehind is.header.geometry) → IfSome told (λ bytes. (n : Map) → Holds d.bytes store n → FileStandsFor bytes n) → IsSomeAnd told (λ bytes. FileStandsFor bytes m)
    by-told None told some both stands = cc
    by-told (Some old) None some both stands = absurd both
    by-told (Some old) (Some bytes) some both stands = stands m holds
