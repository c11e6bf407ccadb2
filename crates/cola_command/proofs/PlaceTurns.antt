-- What `close` and `open` do to the place of a store, by the cause of their answers.
use Rattle.std.proofs.Common.{◌≡◌, ℕ, ◌≤◌, Bool, true, false, cond, List, length, take, Option, Some, None, Ok, Err, refl, sym, ◌∙◌, ap, subst, arith}
use Rattle.std.proofs.lemmas.Bool.{false≢true}
use Rattle.std.specs.Prelude.{IfSome, IsSome, IsSomeAnd}
use Rattle.cola_outside.specs.Told.{Both}
use Rattle.cola_cell.specs.Held.{Held}
use Rattle.cola_cell.specs.declared.format.Format.{Format}
use Rattle.cola_device.specs.declared.device.Device as device
use Rattle.cola_layout.specs.declared.geometry.Geometry.{Geometry}
use Rattle.cola_layout.specs.declared.header.Header.{Header}
use Rattle.cola_layout.specs.Header.{Fields}
use Rattle.cola_layout.specs.Fields.{fields_of}
use Rattle.cola_layout.proofs.Refusing.{spelling-one}
use Rattle.cola_opening.specs.Judged.{HasHeader}
use Rattle.cola_spec.specs.Map.{Map}
use Rattle.cola_spec.specs.Command.{Command, Close}
use Rattle.cola_spec.specs.Reply as reply
use Rattle.cola_spec.specs.Reply.{Reply}
use Rattle.cola_spec.specs.Machine as machine
use Rattle.cola_spec.specs.Machine.{State, Turn, Kind, Step, StepOf, kind_of, PlainStep, plain_reply, plain_after}
use Rattle.cola_table.specs.Replies.{turn_of}
use Rattle.cola_image.specs.Standing.{HeaderStandsFor, FileStandsFor, with_state}
use Rattle.cola_line.specs.Replied.{KindFaults}
use Rattle.cola_run.specs.Store as run
use Rattle.cola_run.specs.Saving.{SameBehind}
use Rattle.cola_store.specs.declared.closing.Closing.{Closing as ClosingStore}
use Rattle.cola_command.specs.declared.place.Place.{Place}
use Rattle.cola_command.specs.declared.place.Place.TheVariants.{Open, Closing, Closed}
use Rattle.cola_store.specs.Runs.{StoreStandsFor}
use Rattle.cola_store.specs.Store.{Stored, Holds, geometry_of}
use Rattle.cola_store.specs.Close.{IsFileOf, IsClosed, StillOwes}
use Rattle.cola_store.specs.Sessions.{IsStoreClosed, IsStoreOwed}
use Rattle.cola_command.specs.File.{Sizes, sizes_of, sizes_in, shape, KeepsBehind, HasSizes, StandsBut, device_of, format_of, faults_of, IsOfSizes, IsAt}
use Rattle.cola_command.specs.Moves.{KeepsCache}
use Rattle.cola_command.specs.declared.file.Session.{Session}
use Rattle.cola_command.specs.Turns.{Keeps, CloseCause, OpenCause, KeepsFormat, KeepsSession}
use Rattle.cola_command.proofs.StateByte.{some-state, state-is, size-large}

-- a turn is a step of the session machine from a state to one at which the place is then
pub record StepsTo {D : Type 0} (d : device.Ghosts D) (sizes : Sizes) (state : State) (turn : Turn) (new : Place D d) : Type 0 where
  pub next : State
  pub step : Step (shape sizes) state turn next
  pub at : IsAt d sizes new next

-- what follows of a turn without ticks
pub record TurnFacts {D : Type 0} (d : device.Ghosts D) (command : Command) (old : Place D d) (answer : Reply) (new : Place D d) : Type 0 where
  pub faults : KindFaults (kind_of answer) (faults_of d old) (faults_of d new)
  pub keeps : Keeps d old new
  pub steps : (sizes : Sizes) (state : State) → IsAt d sizes old state → StepsTo d sizes state (turn_of command answer 0) new

-- ---- what is told

pub both-told : {A B : Type 0} (a : Option A) (b : Option B) (R : A → B → Type 0) → Both a b R → IsSome a → IsSome b
both-told None None R both told = absurd (false≢true told)
both-told None (Some b) R both told = absurd both
both-told (Some a) None R both told = absurd both
both-told (Some a) (Some b) R both told = refl

behind-sizes : (geometry : Geometry) (sizes : Sizes) (a b : Option (List ℕ)) → sizes_of geometry ≡ sizes → Both a b (SameBehind geometry) → Both a b (KeepsBehind sizes)
behind-sizes geometry sizes None None same both = tt
behind-sizes geometry sizes None (Some b) same both = absurd both
behind-sizes geometry sizes (Some a) None same both = absurd both
behind-sizes geometry sizes (Some a) (Some b) same both = subst (λ (s : Sizes). KeepsBehind s a b) same (record { many = both.many; behind = both.behind })

long-file : (header : Fields) (bytes : List ℕ) → HasHeader header bytes → 512 ≤ length bytes
long-file header bytes has = let l = size-large (sizes_in header) in omega (arith, l, has.whole)

-- a file that stands for a map is closed
pub stands-now : (sizes : Sizes) (header : Fields) (m : Map) (bytes : List ℕ) → HeaderStandsFor header bytes m → sizes_in header ≡ sizes → StandsBut sizes m 0 bytes
stands-now sizes header m bytes stands same =
    let l = size-large (sizes_in header) in
    let long : 512 ≤ length bytes = omega (arith, l, stands.whole) in
    let some = some-state bytes (omega (arith, long)) in
    let zero-state : some.0 ≡ 0 = state-is header some.0 bytes long stands.spelled some.1 ∙ ap (λ b. cond b 0 1) stands.closed in
    let here : with_state 0 bytes ≡ bytes = subst (λ (n : ℕ). with_state n bytes ≡ bytes) zero-state some.1 in
    record { header = header; stands = subst (λ (xs : List ℕ). HeaderStandsFor header xs m) (sym here) stands; sizes_are = same; state = 0; state_is = here; byte_is = refl }

-- a file with a header has its sizes
has-sizes : (sizes : Sizes) (header : Fields) (bytes : List ℕ) → HasHeader header bytes → sizes_in header ≡ sizes → HasSizes sizes bytes
has-sizes sizes header bytes has same =
    let long = long-file header bytes has in
    let some = some-state bytes (omega (arith, long)) in
    record { state = some.0; header = header; has = subst (λ (xs : List ℕ). HasHeader header xs) (sym some.1) has; sizes_are = same }

-- ---- closing

closed-sizes : (sizes : Sizes) (header : Header) (held : Held) (told : Option (List ℕ)) → sizes_of header.geometry ≡ sizes → IfSome told (IsFileOf header held) → IfSome told (HasSizes sizes)
closed-sizes sizes header held None same file = tt
closed-sizes sizes header held (Some bytes) same file = has-sizes sizes (fields_of header) bytes file.has same

module _ {D : Type 0} (d : device.Ghosts D) where
  closed-keeps : (old : Place D d) (header : Header) (runs : run.Store D) (now : D) → (sizes : Sizes) → runs.buffers.cache.device ≡ device_of old → IsClosed d header runs now → sizes_of header.geometry ≡ sizes → IsOfSizes d sizes old → IsOfSizes d sizes (Closed now)
  closed-keeps old header runs now sizes is closed same before = record {
    tells = both-told (d.bytes runs.buffers.cache.device) (d.bytes now) (SameBehind header.geometry) closed.behind (subst (λ (x : D). IsSome (d.bytes x)) (sym is) before.tells);
    sizes_are = closed-sizes sizes header (run.held_of d.bytes runs) (d.bytes now) same closed.file;
  }

  stands-closed : (sizes : Sizes) (header : Header) (held : Held) (m : Map) (told : Option (List ℕ)) → IsSome told → sizes_of header.geometry ≡ sizes → IfSome told (IsFileOf header held) → StoreStandsFor header held m → IsSomeAnd told (StandsBut sizes m 0)
  stands-closed sizes header held m None tells same file owed = absurd (false≢true tells)
  stands-closed sizes header held m (Some bytes) tells same file owed = stands-now sizes (fields_of header) m bytes (file.stands m owed) same

  stands-store : (sizes : Sizes) (header : Header) (held : Held) (m : Map) (told : Option (List ℕ)) → IsSome told → sizes_of header.geometry ≡ sizes → IfSome told (IsFileOf header held) → IfSome told (λ bytes. FileStandsFor bytes m) → IsSomeAnd told (StandsBut sizes m 0)
  stands-store sizes header held m None tells same file stands = absurd (false≢true tells)
  stands-store sizes header held m (Some bytes) tells same file (other, stands) =
      stands-now sizes other m bytes stands (ap sizes_in (spelling-one other (fields_of header) (take 512 bytes) stands.spelled file.has.spelled) ∙ same)

  pub same-behind : (sizes : Sizes) (told : Option (List ℕ)) → Both told told (KeepsBehind sizes)
  same-behind sizes None = tt
  same-behind sizes (Some bytes) = record { many = refl; behind = refl }

  keeps-cache : (old : Place D d) → KeepsCache d old old
  keeps-cache (Open store) = refl
  keeps-cache (Closing closing) = tt
  keeps-cache (Closed now) = tt

  -- a place that stays keeps all
  pub keeps-same : (old : Place D d) → Keeps d old old
  keeps-same old = record { kept = refl; faults_stay = omega arith; sizes = λ sizes h. h; behind = λ sizes h. same-behind sizes (d.bytes (device_of old)); cache_stays = keeps-cache old }

  keeps-format : (place : Place D d) (last : Format) → KeepsFormat place last (format_of place last)
  keeps-format (Open store) last = tt
  keeps-format (Closing closing) last = refl
  keeps-format (Closed now) last = refl

  -- the last format is kept by a place, and by what an opening leaves
  pub format-keeps : (place : Place D d) (now before : Format) → now ≡ before → KeepsFormat place now before
  format-keeps (Open store) now before same = tt
  format-keeps (Closing closing) now before same = same
  format-keeps (Closed device) now before same = same

  pub open-format : (cache : ℕ) (old : Place D d) (answer : Reply) (new : Place D d) (last : Format) → OpenCause d cache old answer new → KeepsFormat new last (format_of old last)
  open-format cache (Open store) answer new last (is, same) = subst (λ (p : Place D d). KeepsFormat p last (format_of {d = d} (Open store) last)) (sym same) tt
  open-format cache (Closing closing) answer new last (is, same) = format-keeps new last last refl
  open-format cache (Closed before) answer new last cause = format-keeps new last last refl

  pub session-keeps : (same : Session D d) → KeepsSession d same same
  session-keeps same = record { place = keeps-same same.place; cache_is = refl; cost_is = refl; format_is = keeps-format same.place same.format }

  -- an answer that changes nothing
  pub stays : (command : Command) (old : Place D d) (answer : Reply) → kind_of answer ≡ PlainStep
      → ((sizes : Sizes) (state : State) → IsAt d sizes old state → (answer ≡ plain_reply (shape sizes) state (Some command)) × (state ≡ plain_after (shape sizes) state (Some command))) → TurnFacts d command old answer old
  stays command old answer plain step = record {
    faults = subst (λ (k : Kind). KindFaults k (faults_of d old) (faults_of d old)) (sym plain) refl;
    keeps = keeps-same old;
    steps = λ sizes state at. record {
      next = state;
      step = subst (λ (k : Kind). StepOf (shape sizes) state (turn_of command answer 0) state k) (sym plain) (step sizes state at);
      at = at;
    };
  }

  -- the facts of a turn, over the answer and the place that it was answered with
  pub facts-of : (command : Command) (old : Place D d) (answer says : Reply) (new is : Place D d) → answer ≡ says → new ≡ is → TurnFacts d command old says is → TurnFacts d command old answer new
  facts-of command old answer says new is a n facts =
      subst (λ (p : Place D d). TurnFacts d command old answer p) (sym n) (subst (λ (r : Reply). TurnFacts d command old r is) (sym a) facts)

  pub kept-of : (old new is : Place D d) → new ≡ is → d.kept (device_of new) ≡ d.kept (device_of old) → d.kept (device_of is) ≡ d.kept (device_of old)
  kept-of old new is n kept = subst (λ (p : Place D d). d.kept (device_of p) ≡ d.kept (device_of old)) n kept

  -- ---- an open store is closed

  abbrev device-in : Stored D → D
  device-in store = store.chain.store.buffers.cache.device

  store-closed-at : (store : Stored D) (now : D) → IsStoreClosed d store now → (sizes : Sizes) (state : State) → IsAt d sizes (Open store) state → StepsTo d sizes state (turn_of Close reply.Closed 0) (Closed now)
  store-closed-at store now closes sizes (machine.Open m) (same, holds) =
      let g = ap sizes_of closes.header_is.geometry_is ∙ same in
      record {
        next = machine.Closed m 0;
        step = (refl, refl);
        at = stands-store sizes closes.header (run.held_of d.bytes store.chain.store) m (d.bytes now) (both-told (d.bytes (device-in store)) (d.bytes now) (SameBehind closes.header.geometry) closes.closed.behind holds.tells) g
            closes.closed.file (held-stands (d.bytes now) m holds closes.stands);
      }
    where
      held-stands : (told : Option (List ℕ)) (m : Map) → Holds d.bytes store m → IfSome told (λ bytes. (m : Map) → Holds d.bytes store m → FileStandsFor bytes m) → IfSome told (λ bytes. FileStandsFor bytes m)
      held-stands None m holds stands = tt
      held-stands (Some bytes) m holds stands = stands m holds
  store-closed-at store now closes sizes (machine.Closing m) at = absurd at
  store-closed-at store now closes sizes (machine.Closed m byte) at = absurd at

  store-closed : (store : Stored D) (now : D) → IsStoreClosed d store now → d.kept now ≡ d.kept (device-in store) → TurnFacts d Close (Open store) reply.Closed (Closed now)
  store-closed store now closes kept = record {
    faults = closes.closed.no_fault;
    keeps = record {
      kept = kept;
      faults_stay = closes.closed.spends.faults_stay;
      sizes = λ sizes h. closed-keeps (Open store) closes.header store.chain.store now sizes refl closes.closed (ap sizes_of closes.header_is.geometry_is ∙ h.sizes_are) h;
      behind = λ sizes h. behind-sizes closes.header.geometry sizes (d.bytes (device-in store)) (d.bytes now) (ap sizes_of closes.header_is.geometry_is ∙ h.sizes_are) closes.closed.behind;
      cache_stays = tt;
    };
    steps = store-closed-at store now closes;
  }

  owed-sizes : (sizes : Sizes) (closing : ClosingStore D d) (geometry : Geometry) → closing.header.geometry ≡ geometry → sizes_of geometry ≡ sizes → sizes_of closing.header.geometry ≡ sizes
  owed-sizes sizes closing geometry g same = ap sizes_of g ∙ same

  store-owed-at : (store : Stored D) (closing : ClosingStore D d) → IsStoreOwed d store closing → (sizes : Sizes) (state : State) → IsAt d sizes (Open store) state → StepsTo d sizes state (turn_of Close (reply.Failed reply.Fault) 0) (Closing closing)
  store-owed-at store closing owed sizes (machine.Open m) (same, holds) = record {
    next = machine.Closing m;
    step = (refl, refl);
    at = record {
      of_sizes = record {
        tells = both-told (d.bytes (device-in store)) (d.bytes closing.runs.buffers.cache.device) (SameBehind closing.header.geometry) owed.still.behind holds.tells;
        sizes_are = owed-sizes sizes closing (geometry_of store) owed.header_is.geometry_is same;
      };
      owed = owed.owes m holds;
    };
  }
  store-owed-at store closing owed sizes (machine.Closing m) at = absurd at
  store-owed-at store closing owed sizes (machine.Closed m byte) at = absurd at

  store-owed : (store : Stored D) (closing : ClosingStore D d) → IsStoreOwed d store closing → d.kept closing.runs.buffers.cache.device ≡ d.kept (device-in store) → TurnFacts d Close (Open store) (reply.Failed reply.Fault) (Closing closing)
  store-owed store closing owed kept = record {
    faults = owed.still.cause;
    keeps = record {
      kept = kept;
      faults_stay = owed.still.spends.faults_stay;
      sizes = λ sizes h. record {
        tells = both-told (d.bytes (device-in store)) (d.bytes closing.runs.buffers.cache.device) (SameBehind closing.header.geometry) owed.still.behind h.tells;
        sizes_are = owed-sizes sizes closing (geometry_of store) owed.header_is.geometry_is h.sizes_are;
      };
      behind = λ sizes h. behind-sizes closing.header.geometry sizes (d.bytes (device-in store)) (d.bytes closing.runs.buffers.cache.device) (owed-sizes sizes closing (geometry_of store) owed.header_is.geometry_is h.sizes_are) owed.still.behind;
      cache_stays = tt;
    };
    steps = store-owed-at store closing owed;
  }

  -- ---- another attempt to close

  again-closed-at : (closing : ClosingStore D d) (now : D) → IsClosed d closing.header closing.runs now → (sizes : Sizes) (state : State) → IsAt d sizes (Closing closing) state → StepsTo d sizes state (turn_of Close reply.Closed 0) (Closed now)
  again-closed-at closing now closed sizes (machine.Open m) at = absurd at
  again-closed-at closing now closed sizes (machine.Closed m byte) at = absurd at
  again-closed-at closing now closed sizes (machine.Closing m) at = record {
    next = machine.Closed m 0;
    step = (refl, refl);
    at = stands-closed sizes closing.header (run.held_of d.bytes closing.runs) m (d.bytes now) (both-told (d.bytes closing.runs.buffers.cache.device) (d.bytes now) (SameBehind closing.header.geometry) closed.behind at.of_sizes.tells)
        at.of_sizes.sizes_are closed.file at.owed;
  }

  again-closed : (closing : ClosingStore D d) (now : D) → IsClosed d closing.header closing.runs now → d.kept now ≡ d.kept closing.runs.buffers.cache.device → TurnFacts d Close (Closing closing) reply.Closed (Closed now)
  again-closed closing now closed kept = record {
    faults = closed.no_fault;
    keeps = record {
      kept = kept;
      faults_stay = closed.spends.faults_stay;
      sizes = λ sizes h. closed-keeps (Closing closing) closing.header closing.runs now sizes refl closed h.sizes_are h;
      behind = λ sizes h. behind-sizes closing.header.geometry sizes (d.bytes closing.runs.buffers.cache.device) (d.bytes now) h.sizes_are closed.behind;
      cache_stays = tt;
    };
    steps = again-closed-at closing now closed;
  }

  again-owed-at : (closing still : ClosingStore D d) → StillOwes d closing.header closing.runs still.runs still.header → (sizes : Sizes) (state : State) → IsAt d sizes (Closing closing) state → StepsTo d sizes state (turn_of Close (reply.Failed reply.Fault) 0) (Closing still)
  again-owed-at closing still owes sizes (machine.Open m) at = absurd at
  again-owed-at closing still owes sizes (machine.Closed m byte) at = absurd at
  again-owed-at closing still owes sizes (machine.Closing m) at = record {
    next = machine.Closing m;
    step = (refl, refl);
    at = record {
      of_sizes = record {
        tells = both-told (d.bytes closing.runs.buffers.cache.device) (d.bytes still.runs.buffers.cache.device) (SameBehind closing.header.geometry) owes.behind at.of_sizes.tells;
        sizes_are = ap (λ (h : Header). sizes_of h.geometry) owes.header_is ∙ at.of_sizes.sizes_are;
      };
      owed = subst (λ (h : Header). StoreStandsFor h (run.held_of d.bytes still.runs) m) (sym owes.header_is) (owes.stands m at.owed);
    };
  }

  again-owed : (closing still : ClosingStore D d) → StillOwes d closing.header closing.runs still.runs still.header → d.kept still.runs.buffers.cache.device ≡ d.kept closing.runs.buffers.cache.device → TurnFacts d Close (Closing closing) (reply.Failed reply.Fault) (Closing still)
  again-owed closing still owes kept = record {
    faults = owes.cause;
    keeps = record {
      kept = kept;
      faults_stay = owes.spends.faults_stay;
      sizes = λ sizes h. record {
        tells = both-told (d.bytes closing.runs.buffers.cache.device) (d.bytes still.runs.buffers.cache.device) (SameBehind closing.header.geometry) owes.behind h.tells;
        sizes_are = ap (λ (x : Header). sizes_of x.geometry) owes.header_is ∙ h.sizes_are;
      };
      behind = λ sizes h. behind-sizes closing.header.geometry sizes (d.bytes closing.runs.buffers.cache.device) (d.bytes still.runs.buffers.cache.device) h.sizes_are owes.behind;
      cache_stays = tt;
    };
    steps = again-owed-at closing still owes;
  }

  already-closed : (now : D) → TurnFacts d Close (Closed now) reply.Already (Closed now)
  already-closed now = stays Close (Closed now) reply.Already refl step
    where
      step : (sizes : Sizes) (state : State) → IsAt d sizes (Closed now) state → (reply.Already ≡ plain_reply (shape sizes) state (Some Close)) × (state ≡ plain_after (shape sizes) state (Some Close))
      step sizes (machine.Open m) at = absurd at
      step sizes (machine.Closing m) at = absurd at
      step sizes (machine.Closed m byte) at = (refl, refl)

  -- what follows of the cause of an answer to `close`
  pub close-facts : (old : Place D d) (answer : Reply) (new : Place D d) → CloseCause d old answer new → d.kept (device_of new) ≡ d.kept (device_of old) → TurnFacts d Close old answer new
  close-facts (Open store) answer new (Ok now, (closes, (a, n))) kept = facts-of Close (Open store) answer reply.Closed new (Closed now) a n (store-closed store now closes (kept-of (Open store) new (Closed now) n kept))
  close-facts (Open store) answer new (Err closing, (owed, (a, n))) kept = facts-of Close (Open store) answer (reply.Failed reply.Fault) new (Closing closing) a n (store-owed store closing owed (kept-of (Open store) new (Closing closing) n kept))
  close-facts (Closing closing) answer new (Ok now, (closes, (a, n))) kept = facts-of Close (Closing closing) answer reply.Closed new (Closed now) a n (again-closed closing now closes (kept-of (Closing closing) new (Closed now) n kept))
  close-facts (Closing closing) answer new (Err still, (owes, (a, n))) kept = facts-of Close (Closing closing) answer (reply.Failed reply.Fault) new (Closing still) a n (again-owed closing still owes (kept-of (Closing closing) new (Closing still) n kept))
  close-facts (Closed now) answer new (a, n) kept = facts-of Close (Closed now) answer reply.Already new (Closed now) a n (already-closed now)

  abbrev is-open : Place D d → Bool
  is-open (Open store) = true
  is-open (Closing closing) = false
  is-open (Closed now) = false

  open-closed : (store : Stored D) (now : D) → ◌≡◌ {A = Place D d} (Open store) (Closed now) → ⊥
  open-closed store now e = false≢true (sym (ap is-open e))

  open-closing : (store : Stored D) (closing : ClosingStore D d) → ◌≡◌ {A = Place D d} (Open store) (Closing closing) → ⊥
  open-closing store closing e = false≢true (sym (ap is-open e))

  -- no attempt to close leaves an open store
  pub never-open : (old : Place D d) (answer : Reply) (store : Stored D) → CloseCause d old answer (Open store) → ⊥
  never-open (Open s) answer store (Ok now, (closes, (a, n))) = open-closed store now n
  never-open (Open s) answer store (Err closing, (owed, (a, n))) = open-closing store closing n
  never-open (Closing c) answer store (Ok now, (closes, (a, n))) = open-closed store now n
  never-open (Closing c) answer store (Err still, (owes, (a, n))) = open-closing store still n
  never-open (Closed now) answer store (a, n) = open-closed store now n
