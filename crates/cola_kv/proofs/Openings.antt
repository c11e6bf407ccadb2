-- What making, opening and closing a file say, in the words of an open store.
use Rattle.std.proofs.Common.{◌≡◌, ◌∙◌, ◌⊎◌, inl, inr, ℕ, min, true, List, take, Option, Some, None, Result, Ok, Err, refl, sym, ap, subst}
use Rattle.std.specs.Prelude.{IfSome, IfOk, IfErr}
use Rattle.cola_outside.specs.Told.{Both}
use Rattle.cola_cell.specs.declared.format.Format.{Format}
use Rattle.cola_device.specs.declared.device.Device as device
use Rattle.cola_device.specs.Settling.{IsSettled}
use Rattle.cola_spec.specs.Map.{Map, empty_map}
use Rattle.cola_image.specs.Standing.{FileStandsFor, with_state}
use Rattle.cola_store.specs.declared.account.Account.{Account}
use Rattle.cola_store.specs.declared.fault.CreateFault.{CreateFault}
use Rattle.cola_store.specs.declared.fault.CreateFault.TheVariants as create
use Rattle.cola_store.specs.declared.fault.OpenFault.{OpenFault}
use Rattle.cola_store.specs.declared.fault.OpenFault.TheVariants as opening
use Rattle.cola_store.specs.Create.{Created, IsNewFile, new_header}
use Rattle.cola_store.specs.Open.{Opens, FailedAtHeader, FailedAtCells, FailedAtMark}
use Rattle.cola_store.specs.declared.closing.Closing.{Closing}
use Rattle.cola_store.specs.Sessions.{IsStoreOpened, OpensStore, ClosesStore, OpensTo, MetFault, Owes}
use Rattle.cola_layout.specs.declared.geometry.Geometry.{Geometry}
use Rattle.cola_layout.specs.declared.header.Header.{Header}
use Rattle.cola_layout.specs.Fields.{fields_of}
use Rattle.cola_layout.specs.Header.{Fields}
use Rattle.cola_layout.proofs.Refusing.{spelling-one}
use Rattle.cola_run.specs.Store as run
use Rattle.cola_store.specs.Close.{IsFileOf}
use Rattle.cola_store.specs.Open.{IsReady, ButState}
use Rattle.cola_store.specs.Sessions.{IsStoreClosed}
use Rattle.cola_store.specs.Store.{Stored}
use Rattle.cola_store.proofs.OpenLaws.{opens-to}
use Rattle.cola_kv.specs.declared.error.Error.{Error}
use Rattle.cola_kv.specs.declared.error.Error.TheVariants as error
use Rattle.cola_kv.specs.declared.kv.Kv.{Kv}
use Rattle.cola_kv.specs.declared.options.Options.{Options}
use Rattle.cola_kv.specs.Errors.{of_create, of_open}
use Rattle.cola_kv.specs.Kv.{Holds, device_of, geometry_of}
use Rattle.cola_kv.specs.Opened.{IsButState, StandsFor, IsMade, CreateCause, HasGeometry, SameSizes, IsOpen, OpenCause, IsOpenRefusal, IsSaved, Reopens}

-- what is told of both stands in a weaker relation too
both-so : {A B : Type 0} (old : Option A) (new : Option B) (P Q : A → B → Type 0) → ((a : A) (b : B) → P a b → Q a b) → Both old new P → Both old new Q
both-so None None P Q so both = tt
both-so None (Some b) P Q so both = absurd both
both-so (Some a) None P Q so both = absurd both
both-so (Some a) (Some b) P Q so both = so a b both

unchanged : (told : Option (List ℕ)) → Both told told IsButState
unchanged None = tt
unchanged (Some bytes) = inl refl

same-bytes : (old new : Option (List ℕ)) → new ≡ old → Both old new IsButState
same-bytes old new same = subst (λ (t : Option (List ℕ)). Both old t IsButState) (sym same) (unchanged old)

module _ {D : Type 0} (d : device.Ghosts D) where
  new-file : (format : Format) (keys block_exp bottom : ℕ) (told : Option (List ℕ)) → IfSome told (IsNewFile format keys block_exp bottom) → IfSome told (λ bytes. FileStandsFor bytes empty_map)
  new-file format keys block_exp bottom None file = tt
  new-file format keys block_exp bottom (Some bytes) file = (new_header format keys block_exp bottom, file.stands)

  pub is-made : (options : Options) (before now : D) → Created d options.format options.keys options.block_exp before now (Ok tt) → IsMade d options before now
  is-made options before now is = record {
    bottom = is.bottom;
    suits = is.suits;
    was_empty = is.was_empty;
    file = is.file;
    stands = new-file options.format options.keys options.block_exp is.bottom (d.bytes now) is.file;
    settled = is.settled;
    no_fault = is.no_fault;
  }

  pub create-cause : (options : Options) (before now : D) (fault : CreateFault) → Created d options.format options.keys options.block_exp before now (Err fault) → CreateCause d options before now (of_create fault)
  create-cause options before now create.Keys is = is
  create-cause options before now create.Block is = is
  create-cause options before now create.NotEmpty is = is
  create-cause options before now create.Device is = is

  -- Opening

  -- the geometry of an open store is that of the header that its file had
  opened-file : (told : Option (List ℕ)) (geometry : Geometry) (header : Header) → header.geometry ≡ geometry → IfSome told (IsReady header) → IfSome told (HasGeometry geometry)
  opened-file None geometry header same was = tt
  opened-file (Some bytes) geometry header same was = record { header = header; was = was.was; geometry_is = sym same }

  -- and that of the header that it has when it was closed
  closed-file : (told : Option (List ℕ)) (geometry : Geometry) (header : Header) (runs : run.Store D) → header.geometry ≡ geometry → header.closed ≡ true → IfSome told (IsFileOf header (run.held_of d.bytes runs)) → IfSome told (HasGeometry geometry)
  closed-file None geometry header runs same closed file = tt
  closed-file (Some bytes) geometry header runs same closed file = record { header = header; was = record { has = file.has; closed = closed }; geometry_is = sym same }

  pub closed-geometry : (kv : Kv D d) (now : D) → IsStoreClosed d kv.store now → IfSome (d.bytes now) (HasGeometry (geometry_of kv))
  closed-geometry kv now is = closed-file (d.bytes now) (geometry_of kv) is.header kv.store.chain.store is.header_is.geometry_is is.header_is.closed_is is.closed.file

  pub closed-file-of : (kv : Kv D d) (result : Result D (Closing D d)) → ClosesStore d kv.store result → IfOk result (λ now. IfSome (d.bytes now) (HasGeometry (geometry_of kv)))
  closed-file-of kv (Ok now) is = closed-geometry kv now is
  closed-file-of kv (Err closing) is = tt

  pub is-open : (before : D) (cache : ℕ) (kv : Kv D d) → kv.cache ≡ min cache 4096 → kv.ticks ≡ 0 → IsStoreOpened d before kv.cache kv.store → IsOpen d before cache kv
  is-open before cache kv size none is = record {
    given = subst (λ (blocks : ℕ). IsStoreOpened d before blocks kv.store) size is;
    file = opened-file (d.bytes before) (geometry_of kv) is.header is.header_is.geometry_is is.opened.was;
    holds = is.holds;
    marked = is.opened.marked;
    settled = is.opened.settled;
    no_steps = is.numbers.0;
    no_ticks = none;
    opened_is = ap (λ (a : Account). a.opened) is.account_is;
    cache_is = size;
  }

  -- bytes have one header, and so the sizes of one geometry
  one-geometry : (a b : Geometry) (bytes : List ℕ) → HasGeometry a bytes → HasGeometry b bytes → SameSizes a b
  one-geometry a b bytes mine other =
      let one : fields_of mine.header ≡ fields_of other.header =
      spelling-one (fields_of mine.header) (fields_of other.header) (take 512 bytes) mine.was.has.spelled other.was.has.spelled in
      record {
        keys_are = ap (λ (g : Geometry). g.keys) mine.geometry_is ∙ (ap (λ (f : Fields). f.keys) one ∙ sym (ap (λ (g : Geometry). g.keys) other.geometry_is));
        block_is = ap (λ (g : Geometry). g.block_exp) mine.geometry_is ∙ (ap (λ (f : Fields). f.block_exp) one ∙ sym (ap (λ (g : Geometry). g.block_exp) other.geometry_is));
        bottom_is = ap (λ (g : Geometry). g.bottom) mine.geometry_is ∙ (ap (λ (f : Fields). f.bottom) one ∙ sym (ap (λ (g : Geometry). g.bottom) other.geometry_is));
        format_is = ap (λ (g : Geometry). g.format) mine.geometry_is ∙ (ap (λ (f : Fields). f.format) one ∙ sym (ap (λ (g : Geometry). g.format) other.geometry_is));
      }

  same-file : (closed now : Option (List ℕ)) (a b : Geometry) → Both closed now (λ old new. new ≡ with_state 1 old) → IfSome closed (HasGeometry a) → IfSome closed (HasGeometry b) → IfSome now (λ bytes. SameSizes b a)
  same-file None None a b both mine other = tt
  same-file None (Some n) a b both mine other = absurd both
  same-file (Some c) None a b both mine other = tt
  same-file (Some c) (Some n) a b both mine other = one-geometry b a c other mine

  pub reopens : (old new : Kv D d) (closed : D) → IsStoreClosed d old.store closed → IsOpen d closed old.cache new → Reopens d old new
  reopens old new closed closes again = record {
    closed = closed;
    closes = closes;
    again = again;
    geometry_stays = same-file (d.bytes closed) (d.bytes (device_of new)) (geometry_of old) (geometry_of new) again.marked (closed-geometry old closed closes) again.file;
  }

  pub open-cause : (before now : D) (cache : ℕ) (fault : OpenFault) → Opens d before cache (Err (now, fault)) → OpenCause d before now (of_open fault)
  open-cause before now cache opening.NotStore is = is
  open-cause before now cache opening.NotClosed is = is
  open-cause before now cache opening.Small is = is
  open-cause before now cache opening.OutOfMemory is = is
  open-cause before now cache (opening.BadCell number) is = is
  open-cause before now cache opening.Device is = is

  -- what a device leaves that failed in an opening
  failed-left : (before now : D) → FailedAtHeader d before now ⊎ (FailedAtCells d before now ⊎ FailedAtMark d before now) → Both (d.bytes before) (d.bytes now) IsButState
  failed-left before now (inl header) = same-bytes (d.bytes before) (d.bytes now) header.bytes_stay
  failed-left before now (inr (inl cells)) = same-bytes (d.bytes before) (d.bytes now) cells.bytes_stay
  failed-left before now (inr (inr mark)) = both-so (d.bytes before) (d.bytes now) ButState IsButState (λ old new is. inr is) mark.left

  -- what an opening leaves that was refused
  pub cause-left : (before now : D) (e : Error) → OpenCause d before now e → Both (d.bytes before) (d.bytes now) IsButState
  cause-left before now error.NotStore is = same-bytes (d.bytes before) (d.bytes now) is.bytes_stay
  cause-left before now error.Small is = same-bytes (d.bytes before) (d.bytes now) is.bytes_stay
  cause-left before now error.NotClosed is = same-bytes (d.bytes before) (d.bytes now) is.bytes_stay
  cause-left before now error.OutOfMemory is = same-bytes (d.bytes before) (d.bytes now) is.bytes_stay
  cause-left before now (error.BadCell number) is = same-bytes (d.bytes before) (d.bytes now) is.1.bytes_stay
  cause-left before now error.Device is = failed-left before now is.at
  cause-left before now error.KeyLength is = absurd is
  cause-left before now error.ValueLength is = absurd is
  cause-left before now error.Keys is = absurd is
  cause-left before now error.Block is = absurd is
  cause-left before now error.NotEmpty is = absurd is
  cause-left before now error.Full is = absurd is
  cause-left before now error.Worn is = absurd is
  cause-left before now (error.Overfull level) is = absurd is

  refusal-so : (before now : D) (fault : OpenFault) → (fault ≡ opening.OutOfMemory) ⊎ MetFault d before (now, fault) → IsOpenRefusal d before now (of_open fault)
  refusal-so before now fault (inl is) = inl (ap of_open is)
  refusal-so before now fault (inr is) = inr (ap of_open is.0, is.1)

  pub opens-sound : (before : D) (cache : ℕ) (m : Map) (store : Stored D) → StandsFor d before m → OpensStore d before cache (Ok store) → OpensTo d before m (Ok store)
  opens-sound before cache m store file is = opens-to d cache before m (Ok store) file is

  pub refuses-sound : (before now : D) (cache : ℕ) (m : Map) (fault : OpenFault) → StandsFor d before m → OpensStore d before cache (Err (now, fault)) → IsOpenRefusal d before now (of_open fault)
  refuses-sound before now cache m fault file is = refusal-so before now fault (opens-to d cache before m (Err (now, fault)) file is)

  -- Closing

  pub owes-so : (kv : Kv D d) (m : Map) (result : Result D (Closing D d)) → Holds d kv m → ClosesStore d kv.store result → IfErr result (λ closing. Owes d closing m)
  owes-so kv m (Ok now) holds is = tt
  owes-so kv m (Err closing) holds is = is.owes m holds

  -- Keeping safe

  pub saved-open : (m : Map) (saved : D) (cache : ℕ) (kv : Kv D d) → IsSettled d saved → StandsFor d saved m → IsOpen d saved cache kv → IsSaved d m (device_of kv)
  saved-open m saved cache kv settled stands is = record {
    saved = saved;
    settled = settled;
    stands = stands;
    left = both-so (d.bytes saved) (d.bytes (device_of kv)) (λ old new. new ≡ with_state 1 old) IsButState (λ old new is. inr (1, is)) is.marked;
  }

  pub saved-shut : (m : Map) (saved now : D) (e : Error) → IsSettled d saved → StandsFor d saved m → OpenCause d saved now e → IsSaved d m now
  saved-shut m saved now e settled stands is = record { saved = saved; settled = settled; stands = stands; left = cause-left saved now e is }

  pub shut-reason : (before now : D) (e : Error) → IsOpenRefusal d before now e → (e ≡ error.OutOfMemory) ⊎ (e ≡ error.Device)
  shut-reason before now e (inl is) = inl is
  shut-reason before now e (inr is) = inr is.0
