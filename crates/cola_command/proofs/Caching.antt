-- Behind a cache that holds the whole file, the reads of a session are few on every file of known sizes.
use Rattle.std.proofs.Common.{◌≡◌, ◌⊎◌, inl, inr, ℕ, ◌+◌, ◌^◌, ◌<◌, ◌≤◌, Bool, true, false, if◌then◌else◌, List, [], ◌∷◌, ◌++◌, length, take, sum_by, Option, Some, None, Result, Ok, Err, refl, sym, ◌∙◌, ap, subst, arith}
use Rattle.std.specs.Prelude.{IfSome, IsSome}
use Rattle.std.proofs.lemmas.Bool.{false≢true}
use Rattle.cola_cell.specs.declared.cell.Item.{Item}
use Rattle.cola_cell.specs.declared.fault.ReadFault.{ReadFault}
use Rattle.cola_cell.specs.declared.fault.StepFault.{StepFault}
use Rattle.cola_cursor.specs.declared.cursor.Cursor.{Cursor}
use Rattle.cola_device.specs.declared.counts.Counts.{Counts}
use Rattle.cola_device.specs.declared.device.Device as device
use Rattle.cola_io.specs.declared.sink.Sink as sink
use Rattle.cola_io.specs.declared.sink.SinkFault.{SinkFault}
use Rattle.cola_layout.specs.declared.header.Header.{Header}
use Rattle.cola_layout.specs.Fields.{fields_of}
use Rattle.cola_layout.specs.Header.{Fields}
use Rattle.cola_layout.proofs.Refusing.{spelling-one}
use Rattle.cola_opening.specs.Judged.{file_size, IsSmall, IsNoStore, IsInUse}
use Rattle.cola_cell.specs.Held.{Held, Stamped}
use Rattle.cola_spec.specs.Map.{PutOutcome, New, Old, Full, Worn, Other}
use Rattle.cola_spec.specs.Lines.{Line}
use Rattle.cola_spec.specs.Command.{Command, Put, PutIf, Del, Get, Stamp, Range, Scan, Count, Close, Reopen}
use Rattle.cola_spec.specs.Reply as reply
use Rattle.cola_spec.specs.Reply.{Reply}
use Rattle.cola_spec.specs.Machine.{Turn, FaultedStep, kind_of, faulted_steps}
use Rattle.cola_table.specs.declared.table.Table as table
use Rattle.cola_table.specs.Replies.{turn_of}
use Rattle.cola_line.specs.Given.{Given}
use Rattle.cola_line.specs.Replied.{KindFaults}
use Rattle.cola_store.specs.declared.account.Account.{Account}
use Rattle.cola_store.specs.declared.fault.OpenFault.{OpenFault}
use Rattle.cola_store.specs.declared.fault.OpenFault.TheVariants as fault
use Rattle.cola_store.specs.Store.{Stored, geometry_of, spent_of}
use Rattle.cola_store.specs.Calls.{Searches, Steps, Refuses, Concludes, Removes, PutFollows, PutIfFollows, DeleteFollows}
use Rattle.cola_store.specs.Close.{IsFileOf}
use Rattle.cola_store.specs.Open.{Opens, WasClosed, HasBadCell}
use Rattle.cola_store.specs.Sessions.{IsStoreOpened}
use Rattle.cola_store.specs.Table.{store_table}
use Rattle.cola_command.specs.declared.file.Session.{Session}
use Rattle.cola_command.specs.declared.place.Place.{Place}
use Rattle.cola_command.specs.declared.place.Place.TheVariants.{Open, Closing, Closed}
use Rattle.cola_command.specs.File.{Sizes, sizes_of, HasSizes, faults_of, IsOfSizes}
use Rattle.cola_command.specs.RunTransfers.{mutated, searched, opens, refusal_reads, request_reads, refused_reads, by_store, levels, file_blocks, cached_reads, FewCachedReads}
use Rattle.cola_command.specs.Moves.{AreFew, KeepsCache}
use Rattle.cola_session.specs.Home.{Point, LineLeads}
use Rattle.cola_command.specs.Turns.{Keeps, CloseCause, OpenCause, file_home, refused_reply}
use Rattle.cola_command.proofs.PlaceCauses.{which, AskCause, Cause, cause-place}
use Rattle.cola_command.specs.Headline.{last_close}
use Rattle.cola_session.proofs.CutOff.{not-faulted}
use Rattle.cola_command.proofs.Counting.{Means, rows-calls}
use Rattle.cola_command.proofs.Moving.{kind-stays}
use Rattle.cola_command.proofs.StateByte.{size-large}
use Rattle.cola_command.proofs.Reopening.{ready-sizes}
use Rattle.cola_command.proofs.Transferring.{amounts, amounts-sum, cached-sum}

-- What was counted at the opening stays in every call

module _ {D : Type 0} (d : device.Ghosts D) where
  abbrev pub SameOpened : Stored D → Stored D → Type 0
  SameOpened old new = new.account.opened ≡ old.account.opened

  search-opened : (old new : Stored D) (key : List ℕ) (search : Result (Option Item) ReadFault) → Searches d.bytes d.counts old new key search → SameOpened old new
  search-opened old new key search s = ap (λ (a : Account). a.opened) s.counted

  step-opened : (old new : Stored D) (key : List ℕ) (item : Item) (count last : ℕ) (step : Result (Unit {0}) StepFault) → Steps d.bytes d.counts old new key item count last step → SameOpened old new
  step-opened old new key item count last (Ok a) w = ap (λ (a : Account). a.opened) w.by.account_is
  step-opened old new key item count last (Err f) w = ap (λ (a : Account). a.opened) w.by.account_is

  refused-opened : (old new : Stored D) (says answer : Reply) → Refuses d.bytes d.counts old new says answer → SameOpened old new
  refused-opened old new says answer w = ap (λ (s : Stored D). s.account.opened) w.same

  concludes-opened : (o : PutOutcome) (old new : Stored D) (key value : List ℕ) (x : Option Stamped) (answer : Reply) → Concludes d.bytes d.counts o old new key value x answer → SameOpened old new
  concludes-opened New old new key value x answer w = step-opened old new key _ _ _ w.step w.steps
  concludes-opened (Old v) old new key value x answer w = step-opened old new key _ _ _ w.step w.steps
  concludes-opened Full old new key value x answer w = refused-opened old new (reply.Put Full) answer w
  concludes-opened Worn old new key value x answer w = refused-opened old new (reply.Put Worn) answer w
  concludes-opened (Other n) old new key value x answer w = refused-opened old new (reply.Put (Other n)) answer w

  removes-opened : (old new : Stored D) (key : List ℕ) (x : Option (List ℕ)) (answer : Reply) → Removes d.bytes d.counts old new key x answer → SameOpened old new
  removes-opened old new key None answer w = refused-opened old new (reply.Deleted None) answer w
  removes-opened old new key (Some v) answer w = step-opened old new key _ _ _ w.step w.steps

  put-opened : (old new : Stored D) (key value : List ℕ) (search : Result (Option Item) ReadFault) (answer : Reply) → PutFollows d.bytes d.counts old new key value search answer → SameOpened old new
  put-opened old new key value (Ok found) answer w = concludes-opened _ old new key value _ answer w
  put-opened old new key value (Err f) answer w = refused-opened old new _ answer w

  put-if-opened : (old new : Stored D) (key : List ℕ) (seen : ℕ) (value : List ℕ) (search : Result (Option Item) ReadFault) (answer : Reply) → PutIfFollows d.bytes d.counts old new key seen value search answer → SameOpened old new
  put-if-opened old new key seen value (Ok found) answer w = concludes-opened _ old new key value _ answer w
  put-if-opened old new key seen value (Err f) answer w = refused-opened old new _ answer w

  delete-opened : (old new : Stored D) (key : List ℕ) (search : Result (Option Item) ReadFault) (answer : Reply) → DeleteFollows d.bytes d.counts old new key search answer → SameOpened old new
  delete-opened old new key (Ok found) answer w = removes-opened old new key _ answer w
  delete-opened old new key (Err f) answer w = refused-opened old new _ answer w

  given-opened : {K A E : Type 0} (t : table.Ghosts (Stored D) Cursor) (k : sink.Ghosts K) (means : Means d.bytes d.counts t) (command : Command) (answer : Reply) (ticks : ℕ) (result : Result A E) (old new : Stored D) (sink sink' : K)
      → Given t k command result old sink (turn_of command answer ticks) new sink' → SameOpened old new
  given-opened t k means (Put key value) answer ticks result old new sink sink' given =
      let a = (means.answers old (turn_of (Put key value) answer ticks) new given).0 in
      put-opened a.0.mid new key value a.0.search answer a.0.follows ∙ search-opened old a.0.mid key a.0.search a.0.searches
  given-opened t k means (PutIf key seen value) answer ticks result old new sink sink' given =
      let a = (means.answers old (turn_of (PutIf key seen value) answer ticks) new given).0 in
      put-if-opened a.0.mid new key seen value a.0.search answer a.0.follows ∙ search-opened old a.0.mid key a.0.search a.0.searches
  given-opened t k means (Del key) answer ticks result old new sink sink' given =
      let a = (means.answers old (turn_of (Del key) answer ticks) new given).0 in
      delete-opened a.0.mid new key a.0.search answer a.0.follows ∙ search-opened old a.0.mid key a.0.search a.0.searches
  given-opened t k means (Get key) answer ticks result old new sink sink' given =
      let a = (means.answers old (turn_of (Get key) answer ticks) new given).0 in
      search-opened old new key a.search a.searches
  given-opened t k means (Stamp key) answer ticks result old new sink sink' given =
      let a = (means.answers old (turn_of (Stamp key) answer ticks) new given).0 in
      search-opened old new key a.search a.searches
  given-opened t k means (Range low high) answer ticks result old new sink sink' given = (rows-calls d.bytes d.counts t k means low (Some high) None result old sink answer new sink' given).opened_is
  given-opened t k means (Scan low most) answer ticks result old new sink sink' given = (rows-calls d.bytes d.counts t k means low None (Some most) result old sink answer new sink' given).opened_is
  given-opened t k means Count answer ticks result old new sink sink' given =
      let a = (means.answers old (turn_of Count answer ticks) new given).0 in
      ap (λ (s : Stored D). s.account.opened) a.1
  given-opened t k means Close answer ticks result old new sink sink' given = absurd (means.answers old (turn_of Close answer ticks) new given).0
  given-opened t k means Reopen answer ticks result old new sink sink' given = absurd (means.answers old (turn_of Reopen answer ticks) new given).0

-- A file that was closed is refused for want of memory or for a damaged cell alone

abbrev pub WasShut : List ℕ → Type 0
WasShut bytes = (header : Header) × WasClosed header bytes

not-none : (bytes : List ℕ) → WasShut bytes → IsNoStore bytes → ⊥
not-none bytes (header, was) none = none.none (fields_of header) was.has.spelled

not-used : (bytes : List ℕ) → WasShut bytes → IsInUse bytes → ⊥
not-used bytes (header, was) (used, (has, in_use)) =
    let same = spelling-one (fields_of header) used (take 512 bytes) was.has.spelled has.spelled in
    false≢true (sym in_use ∙ sym (ap (λ (f : Fields). f.closed) same) ∙ was.closed)

not-small : (bytes : List ℕ) → WasShut bytes → IsSmall bytes → ⊥
not-small bytes (header, was) (inl short) = let l = size-large (sizes_of header.geometry) in omega (arith, l, was.has.whole, short)
not-small bytes (header, was) (inr (other, (spelled, short))) =
    let same = spelling-one (fields_of header) other (take 512 bytes) was.has.spelled spelled in
    let whole : file_size other.format other.bottom ≤ length bytes = subst (λ (f : Fields). file_size f.format f.bottom ≤ length bytes) same was.has.whole in
    omega (arith, whole, short)

never-both : (told : Option (List ℕ)) (P Q : List ℕ → Type 0) → ((bytes : List ℕ) → P bytes → Q bytes → ⊥) → IsSome told → IfSome told P → IfSome told Q → ⊥
never-both None P Q never some p q = false≢true some
never-both (Some bytes) P Q never some p q = never bytes p q

shut-told : (told : Option (List ℕ)) (header : Header) (held : Held) → header.closed ≡ true → IfSome told (IsFileOf header held) → IfSome told WasShut
shut-told None header held closed file = tt
shut-told (Some bytes) header held closed file = (header, record { has = file.has; closed = closed })

module _ {D : Type 0} (d : device.Ghosts D) (sizes : Sizes) (cache : ℕ) (before : D) where
  bad-sizes : (told : Option (List ℕ)) (header : Header) (number : ℕ) → IsSome told → IfSome told (HasSizes sizes) → IfSome told (HasBadCell header number) → sizes_of header.geometry ≡ sizes
  bad-sizes None header number some has bad = absurd (false≢true some)
  bad-sizes (Some bytes) header number some has bad = ready-sizes d cache before sizes header bytes has bad.was

  bad-reads : (now from bottom bottom' : ℕ) → now ≤ from + (bottom + 4) → bottom ≡ bottom' → now ≤ from + (bottom' + 1 + 3)
  bad-reads now from bottom bottom' rise same = omega (arith, rise, same)

  record RefusedWithin (now : D) (answer : Reply) : Type 0 where
    reads : (d.counts now).reads ≤ (d.counts before).reads + refusal_reads (levels sizes) answer
    bytes_stay : d.bytes now ≡ d.bytes before

  refused-within : (now : D) (why : OpenFault) → Opens d before cache (Err (now, why)) → IsOfSizes d sizes (Closed before) → IfSome (d.bytes before) WasShut → (kind_of (refused_reply why) ≡ FaultedStep → ⊥) → RefusedWithin now (refused_reply why)
  refused-within now fault.NotStore is of shut calm = absurd (never-both (d.bytes before) WasShut IsNoStore not-none of.tells shut is.why_is)
  refused-within now fault.NotClosed is of shut calm = absurd (never-both (d.bytes before) WasShut IsInUse not-used of.tells shut is.why_is)
  refused-within now fault.Small is of shut calm = absurd (never-both (d.bytes before) WasShut IsSmall not-small of.tells shut is.why_is)
  refused-within now fault.Device is of shut calm = absurd (calm refl)
  refused-within now fault.OutOfMemory is of shut calm = record { reads = is.spends.reads_rise; bytes_stay = is.bytes_stay }
  refused-within now (fault.BadCell number) (header, is) of shut calm = record {
    reads = bad-reads (d.counts now).reads (d.counts before).reads header.geometry.bottom sizes.bottom is.spends.reads_rise (ap (λ (s : Sizes). s.bottom) (bad-sizes (d.bytes before) header number of.tells of.sizes_are is.why_is));
    bytes_stay = is.bytes_stay;
  }

-- Turns with their causes

module _ {K D : Type 0} (t : table.Ghosts (Stored D) Cursor) (d : device.Ghosts D) (k : sink.Ghosts K) (cache : ℕ) where
  -- a turn led from one place to another
  pub record CausedTurn (turn : Turn) (old new : Place D d) : Type 0 where
    pub result : Result (Unit {0}) SinkFault
    pub from_sink : K
    pub to_sink : K
    pub cause : Cause t d k cache turn.request result old from_sink turn new to_sink
    pub keeps : Keeps d old new
    pub few : AreFew d old
    pub faults : KindFaults (kind_of turn.answer) (faults_of d old) (faults_of d new)

  -- turns did, one after another
  abbrev pub AllCaused : List Turn → Place D d → Place D d → Type 0
  AllCaused [] old new = new ≡ old
  AllCaused (turn ∷ turns) old new = (mid : Place D d) × (CausedTurn turn old mid × AllCaused turns mid new)

  pub caused-append : (a b : List Turn) (old mid new : Place D d) → AllCaused a old mid → AllCaused b mid new → AllCaused (a ++ b) old new
  caused-append [] b old mid new same next = subst (λ (p : Place D d). AllCaused b p new) same next
  caused-append (turn ∷ a) b old mid new (between, (one, rest)) next = (between, (one, caused-append a b between mid new rest next))

-- those of lines are
module _ {K D : Type 0} (d : device.Ghosts D) (k : sink.Ghosts K) (cache : ℕ) (known : Option Sizes) where
  pub line-caused : (line : Line) (result : Result (Unit {0}) SinkFault) (turns : List Turn) (old new : Point (Session D d) K) → LineLeads (store_table d) (file_home d) k known line result turns old new → old.home.cache ≡ cache
      → AllCaused (store_table d) d k cache turns old.home.place new.home.place
  line-caused line result [] old new c same = ap (λ (s : Session D d). s.place) c.cause
  line-caused line result (turn ∷ []) old new c same = (
    new.home.place,
    (
      record {
        result = result;
        from_sink = old.sink;
        to_sink = new.sink;
        cause = subst (λ (n : ℕ). Cause (store_table d) d k n turn.request result old.home.place old.sink turn new.home.place new.sink) same (cause-place (store_table d) d k result old.home old.sink turn new.home new.sink turn.request c.cause);
        keeps = c.keeps.place;
        few = c.few;
        faults = subst (λ (n : ℕ). KindFaults (kind_of turn.answer) (faults_of d old.home.place) n) (sym c.faults.1.1) c.faults.1.0;
      },
      refl,
    ),
  )
  line-caused line result (turn ∷ next ∷ turns) old new c same = absurd c.cause

-- The reads of the stores that are opened behind the first

module _ (sizes : Sizes) where
  abbrev starts : Bool → ℕ
  starts true = cached_reads sizes
  starts false = 0

  abbrev all_starts : List Turn → ℕ
  all_starts [] = 0
  all_starts (turn ∷ turns) = starts (opens turn.answer) + all_starts turns

  start-more : (per x rest : ℕ) → x ≡ per + rest → per + x ≡ per + (per + rest)
  start-more per x rest is = omega (arith, is)

  plus-none : (per : ℕ) → per ≡ per + 0
  plus-none per = omega arith

  none-more : (per x rest : ℕ) → x ≡ per + rest → x ≡ per + (0 + rest)
  none-more per x rest is = omega (arith, is)

  starts-if : (begins : Bool) (x y rest : ℕ) → x ≡ cached_reads sizes + rest → y ≡ cached_reads sizes + rest → (if begins then cached_reads sizes + x else y) ≡ cached_reads sizes + (starts begins + rest)
  starts-if true x y rest is goes-on = start-more (cached_reads sizes) x rest is
  starts-if false x y rest is goes-on = none-more (cached_reads sizes) y rest goes-on

  by-starts : (m s : ℕ) (turns : List Turn) → amounts (λ m s. cached_reads sizes) m s turns ≡ cached_reads sizes + all_starts turns
  by-starts m s [] = plus-none (cached_reads sizes)
  by-starts m s (turn ∷ turns) =
      starts-if (opens turn.answer) (amounts (λ m s. cached_reads sizes) (mutated turn.answer) (searched turn.answer) turns) (amounts (λ m s. cached_reads sizes) (m + mutated turn.answer) (s + searched turn.answer) turns) (all_starts turns)
      (by-starts (mutated turn.answer) (searched turn.answer) turns) (by-starts (m + mutated turn.answer) (s + searched turn.answer) turns)

  starts-sum : (turns : List Turn) → sum_by (λ (store : List Turn). cached_reads sizes) (by_store turns) ≡ cached_reads sizes + all_starts turns
  starts-sum turns = sym (amounts-sum (λ m s. cached_reads sizes) turns) ∙ by-starts 0 0 turns

-- Sums of one turn

stay-sum : (from paid more : ℕ) → from + paid ≤ from + paid + more
stay-sum from paid more = omega arith

close-sum : (now opened per more : ℕ) → now ≤ opened + per → now + 0 ≤ opened + per + more
close-sum now opened per more within = omega (arith, within)

open-sum : (opened before per more : ℕ) → opened ≡ before → opened + per ≤ before + 0 + (per + more)
open-sum opened before per more same = omega (arith, same)

rest-sum : (now before per begun more : ℕ) → now ≤ before + more → now + per ≤ before + per + (begun + more)
rest-sum now before per begun more within = omega (arith, within)

go-sum : (opened before more : ℕ) → opened ≡ before → opened + 0 ≤ before + 0 + more
go-sum opened before more same = omega (arith, same)

then-sum : (x y z px py pz s s' r r' : ℕ) → y + px ≤ x + py + (s + r) → z + py ≤ y + pz + (s' + r') → z + px ≤ x + pz + (s + s' + (r + r'))
then-sum x y z px py pz s s' r r' one more = omega (arith, one, more)

whole-sum : (now last paid per begun opened before starts refused sum : ℕ) → now + paid ≤ last + per + (begun + 0) → begun ≡ 0 → last + 0 ≤ opened + paid + (starts + refused) → opened ≡ before → sum ≡ per + starts → now ≤ before + (sum + refused)
whole-sum now last paid per begun opened before starts refused sum end none all same is = omega (arith, end, none, all, same, is)

room-for : (b b' c c' : ℕ) → b' ≤ c' → b ≡ b' → c ≡ c' → b ≤ c
room-for b b' c c' room e e' = omega (arith, room, e, e')

small-faults : (f f' : ℕ) → f ≡ f' → f' + 1 < 2 ^ 64 → f + 1 < 2 ^ 64
small-faults f f' e h = omega (arith, e, h)

-- A session turn by turn: what was read before a store, with what was paid for the last one

module _ {K D : Type 0} (t : table.Ghosts (Stored D) Cursor) (d : device.Ghosts D) (k : sink.Ghosts K) (means : Means d.bytes d.counts t) (sizes : Sizes) (cache faults : ℕ) (room : file_blocks sizes ≤ cache) (few_faults : faults + 1 < 2 ^ 64) where
  abbrev from : Place D d → ℕ
  from (Open store) = store.account.opened.reads
  from (Closing closing) = 0
  from (Closed before) = (d.counts before).reads

  abbrev paid : Place D d → ℕ
  paid (Open store) = 0
  paid (Closing closing) = 0
  paid (Closed before) = cached_reads sizes

  -- an open store met no fault since its opening, behind this cache, and one that is not was closed
  abbrev Since : Place D d → Type 0
  Since (Open store) = (store.account.opened.faults ≡ faults) × (store.chain.store.buffers.cache.blocks ≡ cache)
  Since (Closing closing) = ⊥
  Since (Closed before) = IfSome (d.bytes before) WasShut

  record IsFine (place : Place D d) : Type 0 where
    of_sizes : IsOfSizes d sizes place
    faults_are : faults_of d place ≡ faults
    since : Since place

  record Pays (turn : Turn) (old new : Place D d) : Type 0 where
    since : Since new
    reads : from new + paid old ≤ from old + paid new + (starts sizes (opens turn.answer) + request_reads (levels sizes) turn.request turn.answer)

  stays-pays : (turn : Turn) (old new : Place D d) → new ≡ old → Since old → Pays turn old new
  stays-pays turn old new same since =
      subst (λ (p : Place D d). Pays turn old p) (sym same)
      (record { since = since; reads = stay-sum (from old) (paid old) (starts sizes (opens turn.answer) + request_reads (levels sizes) turn.request turn.answer) })

  -- an attempt to close
  closes-pays : (turn : Turn) (old new : Place D d) → CloseCause d old turn.answer new → AreFew d old → IsFine old → (kind_of turn.answer ≡ FaultedStep → ⊥) → Pays turn old new
  closes-pays turn (Open store) new (Ok now, (closes, (is, same))) few fine calm =
      let blocks : file_blocks (sizes_of (geometry_of store)) ≡ file_blocks sizes = ap file_blocks fine.of_sizes.sizes_are in
      let since : (store.account.opened.faults ≡ faults) × (store.chain.store.buffers.cache.blocks ≡ cache) = fine.since in
      let once = few.reads_once (room-for _ _ _ _ room blocks since.1) (fine.faults_are ∙ sym since.0) (small-faults _ _ fine.faults_are few_faults) in
      let within = cached-sum (d.counts now).reads (spent_of d.counts store).turned store.account.opened.reads _ _ sizes.bottom once blocks closes.closed.spends.reads_rise in
      subst (λ (p : Place D d). Pays turn (Open store) p) (sym same)
      (record {
        since = shut-told (d.bytes now) closes.header _ closes.header_is.closed_is closes.closed.file;
        reads = close-sum (d.counts now).reads store.account.opened.reads (cached_reads sizes) (starts sizes (opens turn.answer) + request_reads (levels sizes) turn.request turn.answer) within;
      })
  closes-pays turn (Open store) new (Err closing, (owed, (is, same))) few fine calm = absurd (calm (ap kind_of is))
  closes-pays turn (Closing closing) new cause few fine calm = absurd fine.since
  closes-pays turn (Closed now) new (is, same) few fine calm = stays-pays turn (Closed now) new same fine.since

  -- an opening
  opens-pays : (answer : Reply) (ticks : ℕ) (old new : Place D d) → OpenCause d cache old answer new → IsFine old → (kind_of answer ≡ FaultedStep → ⊥) → Pays (turn_of Reopen answer ticks) old new
  opens-pays answer ticks (Open store) new (is, same) fine calm = stays-pays (turn_of Reopen answer ticks) (Open store) new same fine.since
  opens-pays answer ticks (Closing closing) new (is, same) fine calm = absurd fine.since
  opens-pays answer ticks (Closed before) new (Ok store, (opened, (is, same))) fine calm =
      subst (λ (p : Place D d). Pays (turn_of Reopen answer ticks) (Closed before) p) (sym same)
      (subst (λ (r : Reply). Pays (turn_of Reopen r ticks) (Closed before) (Open store)) (sym is)
      (record {
        since = (ap (λ (a : Account). a.opened.faults) opened.account_is ∙ fine.faults_are, opened.opened.blocks);
        reads = open-sum store.account.opened.reads (d.counts before).reads (cached_reads sizes) 0 (ap (λ (a : Account). a.opened.reads) opened.account_is);
      }))
  opens-pays answer ticks (Closed before) new (Err (now, why), (refused, (is, same))) fine calm =
      let within = refused-within d sizes cache before now why refused fine.of_sizes fine.since (subst (λ (r : Reply). kind_of r ≡ FaultedStep → ⊥) is calm) in
      subst (λ (p : Place D d). Pays (turn_of Reopen answer ticks) (Closed before) p) (sym same)
      (subst (λ (r : Reply). Pays (turn_of Reopen r ticks) (Closed before) (Closed now)) (sym is)
      (record {
        since = subst (λ (told : Option (List ℕ)). IfSome told WasShut) (sym within.bytes_stay) fine.since;
        reads = rest-sum (d.counts now).reads (d.counts before).reads (cached_reads sizes) (starts sizes (opens (refused_reply why))) (refusal_reads (levels sizes) (refused_reply why)) within.reads;
      }))

  -- a command of a store
  asks-pays : (command : Command) (answer : Reply) (ticks : ℕ) (result : Result (Unit {0}) SinkFault) (old new : Place D d) (sink sink' : K) → AskCause t d k command result old sink (turn_of command answer ticks) new sink' → KeepsCache d old new → IsFine old → Pays (turn_of command answer ticks) old new
  asks-pays command answer ticks result (Open store) new sink sink' (after, (given, same)) kept fine =
      let opened = given-opened d t k means command answer ticks result store after sink sink' given in
      let since : (store.account.opened.faults ≡ faults) × (store.chain.store.buffers.cache.blocks ≡ cache) = fine.since in
      subst (λ (p : Place D d). Pays (turn_of command answer ticks) (Open store) p) (sym same)
      (record {
        since = (ap (λ (c : Counts). c.faults) opened ∙ since.0, subst (λ (p : Place D d). KeepsCache d (Open store) p) same kept ∙ since.1);
        reads = go-sum after.account.opened.reads store.account.opened.reads (starts sizes (opens answer) + request_reads (levels sizes) (Some command) answer) (ap (λ (c : Counts). c.reads) opened);
      })
  asks-pays command answer ticks result (Closing closing) new sink sink' (is, same) kept fine = absurd fine.since
  asks-pays command answer ticks result (Closed now) new sink sink' (is, same) kept fine = stays-pays (turn_of command answer ticks) (Closed now) new same fine.since

  -- any turn
  turn-pays : (request : Option Command) (answer : Reply) (ticks : ℕ) (result : Result (Unit {0}) SinkFault) (old new : Place D d) (sink sink' : K) → Cause t d k cache request result old sink (record { request = request; answer = answer; ticks = ticks }) new sink'
      → AreFew d old → KeepsCache d old new → IsFine old → (kind_of answer ≡ FaultedStep → ⊥) → Pays (record { request = request; answer = answer; ticks = ticks }) old new
  turn-pays None answer ticks result old new sink sink' (is, same) few kept fine calm = stays-pays (record { request = None; answer = answer; ticks = ticks }) old new same fine.since
  turn-pays (Some command) answer ticks result old new sink sink' cause few kept fine calm = by-which (which command cause)
    where
      by-which : ((command ≡ Close) × CloseCause d old answer new) ⊎ (((command ≡ Reopen) × OpenCause d cache old answer new) ⊎ AskCause t d k command result old sink (turn_of command answer ticks) new sink') → Pays (turn_of command answer ticks) old new
      by-which (inl (is, closes)) = subst (λ (c : Command). Pays (turn_of c answer ticks) old new) (sym is) (closes-pays (turn_of Close answer ticks) old new closes few fine calm)
      by-which (inr (inl (is, reopens))) = subst (λ (c : Command). Pays (turn_of c answer ticks) old new) (sym is) (opens-pays answer ticks old new reopens fine calm)
      by-which (inr (inr asks)) = asks-pays command answer ticks result old new sink sink' asks kept fine

  -- all turns
  record AllPay (turns : List Turn) (old new : Place D d) : Type 0 where
    fine : IsFine new
    reads : from new + paid old ≤ from old + paid new + (all_starts sizes turns + refused_reads (levels sizes) turns)

  fine-then : (turn : Turn) (old new : Place D d) → CausedTurn t d k cache turn old new → IsFine old → (kind_of turn.answer ≡ FaultedStep → ⊥) → Since new → IsFine new
  fine-then turn old new c fine calm since =
      record { of_sizes = c.keeps.sizes sizes fine.of_sizes; faults_are = kind-stays (kind_of turn.answer) (faults_of d old) (faults_of d new) c.faults calm ∙ fine.faults_are; since = since }

  all-pay : (turns : List Turn) (old new : Place D d) → AllCaused t d k cache turns old new → IsFine old → faulted_steps turns ≡ 0 → AllPay turns old new
  all-pay [] old new same fine none = subst (λ (p : Place D d). AllPay [] old p) (sym same) (record { fine = fine; reads = stay-sum (from old) (paid old) 0 })
  all-pay (turn ∷ turns) old new (mid, (c, rest)) fine none =
      let calm = not-faulted (kind_of turn.answer) (faulted_steps turns) none in
      let one = turn-pays turn.request turn.answer turn.ticks c.result old mid c.from_sink c.to_sink c.cause c.few c.keeps.cache_stays fine calm in
      let more = all-pay turns mid new rest (fine-then turn old mid c fine calm one.since) (omega (arith, none)) in
      record {
        fine = more.fine;
        reads = then-sum (from old) (from mid) (from new) (paid old) (paid mid) (paid new) (starts sizes (opens turn.answer)) (all_starts sizes turns) (request_reads (levels sizes) turn.request turn.answer) (refused_reads (levels sizes) turns) one.reads more.reads;
      }

-- no attempt to close opens a file
never-opens : {D : Type 0} (d : device.Ghosts D) (old : Place D d) (answer : Reply) (new : Place D d) → CloseCause d old answer new → opens answer ≡ false
never-opens d (Open store) answer new (Ok now, (closes, (is, same))) = ap opens is
never-opens d (Open store) answer new (Err closing, (closes, (is, same))) = ap opens is
never-opens d (Closing before) answer new (Ok now, (closes, (is, same))) = ap opens is
never-opens d (Closing before) answer new (Err closing, (closes, (is, same))) = ap opens is
never-opens d (Closed now) answer new (is, same) = ap opens is

-- The bound

pub few-cached : {K D : Type 0} (t : table.Ghosts (Stored D) Cursor) (d : device.Ghosts D) (k : sink.Ghosts K) (means : Means d.bytes d.counts t) (sizes : Sizes) (cache : ℕ) (device device' : D) (store : Stored D) (last : Place D d) (answer : Reply) (turns : List Turn)
    → IsStoreOpened d device cache store → IsOfSizes d sizes (Open store) → AllCaused t d k cache turns (Open store) last → AreFew d last → CloseCause d last answer (Closed device') → faulted_steps turns ≡ 0 → (kind_of answer ≡ FaultedStep → ⊥) → (d.counts device).faults + 1 < 2 ^ 64
    → FewCachedReads sizes cache turns (d.counts device) (d.counts device')
few-cached {K} {D} t d k means sizes cache device device' store last answer turns opened of caused few close none calm few_faults = λ room.
    let faults = (d.counts device).faults in
    let account = opened.account_is in
    let all = all-pay t d k means sizes cache faults room few_faults turns (Open store) last caused
    (record { of_sizes = of; faults_are = opened.opened.no_fault; since = (ap (λ (a : Account). a.opened.faults) account, opened.opened.blocks) }) none in
    let end = closes-pays t d k means sizes cache faults room few_faults (last_close answer) last (Closed device') close few all.fine calm in
    whole-sum (d.counts device').reads (from t d k means sizes cache faults room few_faults last) (paid t d k means sizes cache faults room few_faults last) (cached_reads sizes) (starts sizes (opens answer)) store.account.opened.reads (d.counts device).reads
    (all_starts sizes turns) (refused_reads (levels sizes) turns) (sum_by (λ (store : List Turn). cached_reads sizes) (by_store turns)) end.reads (ap (starts sizes) (never-opens d last answer (Closed device') close)) all.reads (ap (λ (a : Account). a.opened.reads) account) (starts-sum sizes turns)
