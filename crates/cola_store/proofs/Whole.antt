-- The opening and the closing of a whole store, put together of those of its cells and its chain.
use Rattle.std.proofs.Common.{◌≡◌, ◌∙◌, ℕ, zero, suc, ◌+◌, ◌-◌, ◌<◌, ◌≤◌, List, [], ◌∷◌, length, Option, Some, None, refl, sym, ap, subst, arith, true, Result, Ok, Err, is_some}
use Rattle.std.specs.Prelude.{IfSome, IfOk, IfErr, MatchResult}
use Rattle.std.proofs.lemmas.List.{length-map}
use Rattle.cola_outside.specs.Told.{Both}
use Rattle.cola_clock.specs.Clock.{visible_slot}
use Rattle.cola_clock.specs.Marks.{Marks as LevelMarks, marks_at}
use Rattle.cola_cell.specs.declared.sink.Shadow.{Shadow}
use Rattle.cola_cell.specs.Held.{Held, IsTelling}
use Rattle.cola_device.specs.declared.counts.Counts.{Counts}
use Rattle.cola_device.specs.declared.device.Device as device
use Rattle.cola_layout.specs.declared.header.Header.{Header}
use Rattle.cola_layout.specs.Marks.{numbers_of, all_numbers, marks_of}
use Rattle.cola_layout.proofs.Levels.{number-at}
use Rattle.cola_layout.specs.declared.geometry.Geometry.{Geometry}
use Rattle.cola_layout.specs.Fields.{fields_of}
use Rattle.cola_opening.proofs.Sizes.{header_fits}
use Rattle.cola_spec.specs.Map.{Map, IsMap, count}
use Rattle.cola_shapes.specs.Shapes.{shape_of}
use Rattle.cola_layout.specs.Cells.{file_spots}
use Rattle.cola_image.specs.Standing.{LevelsStandFor, with_state, found_in, FileStandsFor}
use Rattle.cola_level.specs.declared.level.Level.{Level}
use Rattle.cola_level.specs.Marks.{all_marks_of}
use Rattle.cola_mutation.specs.Levels.{AreFit, IsChain}
use Rattle.cola_mutation.specs.Standing.{StandsFor}
use Rattle.cola_run.specs.Saving.{IsLoaded, header_shadow}
use Rattle.cola_run.specs.Store as run
use Rattle.cola_run.specs.Store.{cells_of}
use Rattle.cola_run.proofs.Spots.{told-there}
use Rattle.cola_chain.proofs.LevelLists.{marks-length}
use Rattle.cola_chain.specs.Account.{IsContents}
use Rattle.cola_chain.specs.Contents.{Contents}
use Rattle.cola_store.specs.Runs.{StoreStandsFor}
use Rattle.cola_store.proofs.States.{spots-stay}
use Rattle.cola_store.specs.declared.closing.Closing.{Closing}
use Rattle.cola_store.specs.Close.{IsFileOf, IsClosed, StillOwes}
use Rattle.cola_store.specs.Open.{IsReady, IsOpened}
use Rattle.cola_store.specs.Sessions.{IsHeaderOf, Owes, IsStoreOpened, ClosesStore}
use Rattle.cola_store.specs.Store.{Stored, new_account, Holds, held_of}

-- ---- an opening

-- the cells of a file are those of the same file in use
pub loaded-still : (header : Header) (held : Held) (before now : Option (List ℕ)) → IsLoaded header held before → IfSome before (λ bytes. 512 ≤ length bytes) → Both before now (λ old new. new ≡ with_state 1 old) → IsLoaded header held now
loaded-still header held None None loaded long marked = record { spots = tt; shadows = loaded.shadows }
loaded-still header held None (Some now) loaded long marked = absurd marked
loaded-still header held (Some before) None loaded long marked = absurd marked
loaded-still header held (Some before) (Some now) loaded long marked = record {
  spots = λ level slot index place.
      loaded.spots level slot index place
      ∙ sym (spots-stay header.geometry.format 1 before (omega (arith, long)) level slot index)
      ∙ sym (ap (λ (bytes : List ℕ). file_spots header.geometry.format bytes level slot index) marked);
  shadows = loaded.shadows;
}

levels-many : (header : Header) (levels : List Level) → all_marks_of levels ≡ all_numbers header.levels.items → length levels ≡ header.geometry.bottom + 1
levels-many header levels marks = sym (marks-length levels) ∙ ap (λ (ms : List LevelMarks). length ms) marks ∙ length-map header.levels.items numbers_of ∙ header.one_each

-- a store that stands for a map by its header does so by its levels
pub stands-open : (header : Header) (held : Held) (levels : List Level) (m : Map) → all_marks_of levels ≡ all_numbers header.levels.items → ((level : ℕ) → level ≤ header.geometry.bottom → held.shadows level ≡ header_shadow header level) →
    IsTelling held → StoreStandsFor header held m → StandsFor held header.geometry.keys header.clock levels (found_in m)
stands-open header held levels m marks shadows tells stand =
    let n = levels-many header levels marks in
    let here : LevelsStandFor header.geometry.keys header.clock (all_marks_of levels) held.spots m =
    subst (λ (ms : List LevelMarks). LevelsStandFor header.geometry.keys header.clock ms held.spots m) (sym marks) stand.levels in
    record { tells = tells; told = here.told; saved = λ l h over. ap (λ (s : Shadow). s.saved) (shadows l (omega (arith, h, n))); sound = here.sound }

-- ---- a closing

-- the shadow of a level stands beside its visible run, with the length of its marks
record IsBeside (held : Held) (t level len : ℕ) : Type 0 where
  pub slot_is : (held.shadows level).slot ≡ 1 - visible_slot t level
  pub len_is : (held.shadows level).len ≡ len

beside-below : (held : Held) (t i above : ℕ) (levels : List Level) → AreFit held t i above levels → (k : ℕ) → k < length levels → IsBeside held t (suc i + k) (marks_at (all_marks_of levels) k).shadow
beside-below held t i above [] fit k h = absurd (omega (arith, h))
beside-below held t i above (l ∷ below) fit zero h =
    let e : suc i ≡ suc i + 0 = omega arith in
    subst (λ (n : ℕ). IsBeside held t n l.shadow) e (record { slot_is = fit.0.slot_is; len_is = sym fit.0.shadow_is })
beside-below held t i above (l ∷ below) fit (suc k) h =
    let e : suc (suc i) + k ≡ suc i + suc k = omega arith in
    subst (λ (n : ℕ). IsBeside held t n (marks_at (all_marks_of below) k).shadow) e (beside-below held t (suc i) l.visible below fit.1 k (omega (arith, h)))

beside : (held : Held) (t : ℕ) (levels : List Level) → IsChain held t levels → (k : ℕ) → k < length levels → IsBeside held t k (marks_at (all_marks_of levels) k).shadow
beside held t [] chain k h = absurd (omega (arith, h))
beside held t (top ∷ below) chain zero h = record { slot_is = chain.fit.0.slot_is; len_is = chain.fit.0.empty ∙ sym (chain.marks.0.first refl).empty }
beside held t (top ∷ below) chain (suc k) h =
    let e : suc 0 + k ≡ suc k = omega arith in
    subst (λ (n : ℕ). IsBeside held t n (marks_at (all_marks_of below) k).shadow) e (beside-below held t 0 top.visible below chain.fit.1 k (omega (arith, h)))

header-beside : (header : Header) (held : Held) (levels : List Level) → all_numbers header.levels.items ≡ all_marks_of levels → IsChain held header.clock levels → (level : ℕ) → level ≤ header.geometry.bottom →
    IsBeside held header.clock level (header_shadow header level).len
header-beside header held levels marks chain level h =
    let n = levels-many header levels (sym marks) in
    let len : (marks_at (all_marks_of levels) level).shadow ≡ (marks_of header.levels.items level).shadow =
    ap (λ (ms : List LevelMarks). (marks_at ms level).shadow) (sym marks) ∙ ap (λ (m : LevelMarks). m.shadow) (number-at header.levels.items level) in
    subst (λ (k : ℕ). IsBeside held header.clock level k) len (beside held header.clock levels chain level (omega (arith, h, n)))

-- a chain that stands for a map does so by the header that it has
pub stands-closed : (header : Header) (held : Held) (levels : List Level) (m : Map) → all_numbers header.levels.items ≡ all_marks_of levels → IsChain held header.clock levels → header.count ≡ count m → header.last ≡ m.last →
    IsMap (shape_of header.geometry.format header.geometry.keys) m → StandsFor held header.geometry.keys header.clock levels (found_in m) → StoreStandsFor header held m
stands-closed header held levels m marks chain counted numbered is_map stand = record {
  counted = counted;
  numbered = numbered;
  is_map = is_map;
  levels = subst (λ (ms : List LevelMarks). LevelsStandFor header.geometry.keys header.clock ms held.spots m) (sym marks) (record { told = stand.told; sound = stand.sound });
  shadows = record {
    slots = λ level h. (header-beside header held levels marks chain level h).slot_is;
    lens = λ level h. (header-beside header held levels marks chain level h).len_is;
  };
}

-- ---- a whole store

-- a file that has a store's header and cells stands for its map
pub file-map : (header : Header) (held : Held) (told : Option (List ℕ)) → IfSome told (IsFileOf header held) → (m : Map) → StoreStandsFor header held m → IfSome told (λ bytes. FileStandsFor bytes m)
file-map header held None file m stand = tt
file-map header held (Some bytes) file m stand = (fields_of header, file.stands m stand)

long : (header : Header) (told : Option (List ℕ)) → IfSome told (IsReady header) → IfSome told (λ bytes. 512 ≤ length bytes)
long header None ready = tt
long header (Some bytes) ready = omega (arith, ready.was.has.whole, header_fits header.geometry.format header.geometry.bottom header.geometry.bottom_fits.three)

still-told : (bytes : List ℕ) (now : Option (List ℕ)) (P : List ℕ → List ℕ → Type 0) → Both (Some bytes) now P → is_some now ≡ true
still-told bytes None P both = absurd both
still-told bytes (Some now) P both = refl

-- of all maps at once
each-map : (told : Option (List ℕ)) (P : Map → Type 0) (Q : List ℕ → Map → Type 0) → ((m : Map) → P m → IfSome told (λ bytes. Q bytes m)) → IfSome told (λ bytes. (m : Map) → P m → Q bytes m)
each-map None P Q h = tt
each-map (Some bytes) P Q h = h

-- the counts of a device that are kept at an opening
pub counted : (counts : Counts) (faults reads writes : ℕ) → faults ≡ counts.faults → reads ≡ counts.reads → writes ≡ counts.writes → ◌≡◌ {A = Counts} (record { faults = faults; reads = reads; writes = writes; others = 0 }) (record counts { others = 0 })
counted counts faults reads writes f r w = rw (f, r, w) refl

module _ {D : Type 0} (d : device.Ghosts D) where
  -- ---- an opening

  pub loaded : (before : D) (cache : ℕ) (runs : run.Store D) (header : Header) → IsOpened d before cache runs header → IsLoaded header (run.held_of d.bytes runs) (d.bytes runs.buffers.cache.device)
  loaded before cache runs header opened =
      loaded-still header (run.held_of d.bytes runs) (d.bytes before) (d.bytes runs.buffers.cache.device) opened.loaded (long header (d.bytes before) opened.was) opened.marked

  module _ (before : D) (cache : ℕ) (header : Header) (chain : Contents D) (opened : IsOpened d before cache chain.store header) (clock : chain.clock ≡ header.clock) (marks : all_marks_of chain.levels ≡ all_numbers header.levels.items) where
    abbrev opened_store : Stored D
    opened_store = record { chain = chain; count = header.count; last = header.last; account = new_account (record (d.counts before) { others = 0 }) }

    held-by : (m : Map) → is_some (d.bytes chain.store.buffers.cache.device) ≡ true → StoreStandsFor header (run.held_of d.bytes chain.store) m → Holds d.bytes opened_store m
    held-by m tells stand =
        let held = run.held_of d.bytes chain.store in
        let telling : IsTelling held = (λ level slot index place. told-there (cells_of (d.bytes chain.store.buffers.cache.device) chain.store) tells level slot index) in
        let stands : StandsFor held header.geometry.keys header.clock chain.levels (found_in m) = stands-open header held chain.levels m marks opened.loaded.shadows telling stand in
        record {
          tells = tells;
          stands =
              subst (λ (t : ℕ). StandsFor held chain.store.geometry.keys t chain.levels (found_in m)) (sym clock)
              (subst (λ (geometry : Geometry). StandsFor held geometry.keys header.clock chain.levels (found_in m)) (sym opened.geometry) stands);
          counted = stand.counted;
          numbered = stand.numbered;
          is_map = subst (λ (geometry : Geometry). IsMap (shape_of geometry.format geometry.keys) m) (sym opened.geometry) stand.is_map;
        }

    holds-if : (told : Option (List ℕ)) → Both told (d.bytes chain.store.buffers.cache.device) (λ old new. new ≡ with_state 1 old) →
        IfSome told (λ bytes. (m : Map) → FileStandsFor bytes m → StoreStandsFor header (run.held_of d.bytes chain.store) m) → IfSome told (λ bytes. (m : Map) → FileStandsFor bytes m → Holds d.bytes opened_store m)
    holds-if None both stands = tt
    holds-if (Some bytes) both stands = λ m file. held-by m (still-told bytes (d.bytes chain.store.buffers.cache.device) (λ old new. new ≡ with_state 1 old) both) (stands m file)

    pub opens : (chain.accepted ≡ 0) × (chain.reads ≡ 0) × (chain.writes ≡ 0) → IsStoreOpened d before cache opened_store
    opens numbers =
        let e = ap (λ (geometry : Geometry). geometry.bottom) opened.geometry in
        let rise = opened.spends.reads_rise in
        record {
          header = header;
          opened = opened;
          header_is = record { closed_is = opened.closed; geometry_is = sym opened.geometry; count_is = refl; last_is = refl; clock_is = sym clock; marks_are = sym marks };
          numbers = numbers;
          account_is = refl;
          holds = holds-if (d.bytes before) opened.marked opened.stands;
          reads = λ calm few searches. omega (arith, e, rise);
        }

  -- ---- a closing

  -- a store that holds a map stands for it by its header
  header-map : (store : Stored D) (header : Header) (m : Map) → IsHeaderOf store header → IsContents d.bytes d.counts store.chain → Holds d.bytes store m → StoreStandsFor header (held_of d.bytes store) m
  header-map store header m of contents holds =
      let held = held_of d.bytes store in
      let levels = store.chain.levels in
      stands-closed header held levels m of.marks_are
      (subst (λ (t : ℕ). IsChain held t levels) (sym of.clock_is) contents.stands)
      (of.count_is ∙ holds.counted)
      (of.last_is ∙ holds.numbered)
      (subst (λ (geometry : Geometry). IsMap (shape_of geometry.format geometry.keys) m) (sym of.geometry_is) holds.is_map)
      (subst (λ (t : ℕ). StandsFor held header.geometry.keys t levels (found_in m)) (sym of.clock_is)
      (subst (λ (geometry : Geometry). StandsFor held geometry.keys store.chain.clock levels (found_in m)) (sym of.geometry_is) holds.stands))

  module _ (store : Stored D) (owed : Closing D d) (runs_are : owed.runs ≡ store.chain.store) (of : IsHeaderOf store owed.header) (contents : IsContents d.bytes d.counts store.chain) where
    owes : (m : Map) → Holds d.bytes store m → Owes d owed m
    owes m holds = subst (λ (r : run.Store D). StoreStandsFor owed.header (run.held_of d.bytes r) m) (sym runs_are) (header-map store owed.header m of contents holds)

    pub closes : (result : Result D (Closing D d)) → IfOk result (IsClosed d owed.header owed.runs) → IfErr result (λ now. StillOwes d owed.header owed.runs now.runs now.header) →
        ((m : Map) → Owes d owed m → MatchResult result (λ now. IfSome (d.bytes now) (λ bytes. FileStandsFor bytes m)) (λ now. Owes d now m)) → ClosesStore d store result
    closes (Ok now) closed still map = record {
      header = owed.header;
      header_is = of;
      closed = subst (λ (r : run.Store D). IsClosed d owed.header r now) runs_are closed;
      stands = each-map (d.bytes now) (Holds d.bytes store) FileStandsFor (λ m holds. map m (owes m holds));
    }
    closes (Err now) closed still map = record {
      header_is = subst (IsHeaderOf store) (sym still.header_is) of;
      still =
          subst (λ (h : Header). StillOwes d h store.chain.store now.runs now.header) (sym still.header_is)
          (subst (λ (r : run.Store D). StillOwes d owed.header r now.runs now.header) runs_are still);
      owes = λ m holds. map m (owes m holds);
    }
