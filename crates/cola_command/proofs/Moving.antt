-- A turn that is not faulted moves the place of a store and the counts of its device as it may.
use Rattle.std.proofs.Common.{◌≡◌, ◌⊎◌, inl, inr, ℕ, ◌+◌, ◌≤◌, Bool, true, false, List, [], ◌∷◌, ◌++◌, Option, Some, None, Result, Ok, Err, refl, sym, ◌∙◌, ap, subst, arith}
use Rattle.std.proofs.lemmas.Bool.{false≢true}
use Rattle.cola_cursor.specs.declared.cursor.Cursor.{Cursor}
use Rattle.cola_device.specs.declared.device.Device as device
use Rattle.cola_io.specs.declared.sink.Sink as sink
use Rattle.cola_io.specs.declared.sink.SinkFault.{SinkFault}
use Rattle.cola_layout.specs.declared.geometry.Geometry.{Geometry}
use Rattle.cola_opening.specs.Counted.{Spends}
use Rattle.cola_spec.specs.Map.{Shape, Map, count}
use Rattle.cola_spec.specs.Lines.{Line}
use Rattle.cola_spec.specs.Command.{Command, Put, PutIf, Del, Get, Stamp, Range, Scan, Count, Close, Reopen}
use Rattle.cola_spec.specs.Reply as reply
use Rattle.cola_spec.specs.Reply.{Reply}
use Rattle.cola_spec.specs.Machine as machine
use Rattle.cola_spec.specs.Machine.{State, Turn, Kind, PlainStep, FaultedStep, ShortStep, StepOf, Step, kind_of, plain_reply, open_reply, faulted_steps}
use Rattle.cola_table.specs.declared.table.Table as table
use Rattle.cola_table.specs.Replies.{turn_of}
use Rattle.cola_line.specs.Replied.{KindFaults}
use Rattle.cola_store.specs.declared.fault.OpenFault.{OpenFault}
use Rattle.cola_store.specs.declared.fault.OpenFault.TheVariants as fault
use Rattle.cola_store.specs.Store.{Stored, geometry_of}
use Rattle.cola_store.specs.Sessions.{OpensStore}
use Rattle.cola_store.specs.Table.{store_table}
use Rattle.cola_command.specs.declared.file.Session.{Session}
use Rattle.cola_command.specs.declared.place.Place.{Place}
use Rattle.cola_command.specs.declared.place.Place.TheVariants.{Open, Closing, Closed}
use Rattle.cola_command.specs.File.{Sizes, sizes_of, shape, faults_of, IsAt}
use Rattle.cola_command.specs.RunTransfers.{searched, short, opens}
use Rattle.cola_command.specs.Moves.{IsQuiet, CountsCall, AreFew, KeepsCache, Moves, AllMove}
use Rattle.cola_session.specs.Home.{Point, LineLeads}
use Rattle.cola_command.specs.Turns.{CloseCause, OpenCause, file_home, refused_reply}
use Rattle.cola_command.proofs.PlaceCauses.{which, AskCause, Cause, cause-place}
use Rattle.cola_session.proofs.CutOff.{Quiet, not-faulted}
use Rattle.cola_command.proofs.Counting.{NotFailed, Means, table-means, calls-none, turn-counts}

-- Answers

-- whether a call was refused
abbrev fails : Reply → Bool
fails (reply.Failed failure) = true
fails _ = false

-- no plain answer of an open store is a refusal or an opening
plain-answers : (shape : Shape) (m : Map) (command : Command) → (fails (open_reply shape m command) ≡ false) × (opens (open_reply shape m command) ≡ false)
plain-answers shape m (Put key value) = (refl, refl)
plain-answers shape m (PutIf key seen value) = (refl, refl)
plain-answers shape m (Del key) = (refl, refl)
plain-answers shape m (Get key) = (refl, refl)
plain-answers shape m (Stamp key) = (refl, refl)
plain-answers shape m (Range low high) = (refl, refl)
plain-answers shape m (Scan low most) = (refl, refl)
plain-answers shape m Count = (refl, refl)
plain-answers shape m Close = (refl, refl)
plain-answers shape m Reopen = (refl, refl)

-- a step of an open store that is not faulted is plain
plain-open : (shape : Shape) (m : Map) (command : Command) (answer : Reply) (ticks : ℕ) (next : State) (kind : Kind) → StepOf shape (machine.Open m) (turn_of command answer ticks) next kind → (kind ≡ FaultedStep → ⊥) → answer ≡ open_reply shape m command
plain-open shape m command answer ticks next PlainStep step calm = step.0
plain-open shape m command answer ticks next FaultedStep step calm = absurd (calm refl)
plain-open shape m command answer ticks next ShortStep step calm = absurd step

not-failed : (answer says : Reply) → answer ≡ says → fails says ≡ false → NotFailed answer
not-failed answer says is fine f failed = false≢true (sym (ap fails is ∙ fine) ∙ ap fails failed)

-- a closed file with the state byte 0 is opened, unless the device failed or there was no memory
only-memory : (shape : Shape) (m : Map) (why : OpenFault) (ticks : ℕ) (next : State) → Step shape (machine.Closed m 0) (turn_of Reopen (refused_reply why) ticks) next → (kind_of (refused_reply why) ≡ FaultedStep → ⊥) → why ≡ fault.OutOfMemory
only-memory shape m fault.NotStore ticks next (is, same) calm = absurd (never is)
  where
    never : reply.Refused reply.NotStore ≡ reply.Opened (count m) → ⊥
    never e = cc
only-memory shape m fault.NotClosed ticks next (is, same) calm = absurd (never is)
  where
    never : reply.Refused reply.NotClosed ≡ reply.Opened (count m) → ⊥
    never e = cc
only-memory shape m fault.Small ticks next (is, same) calm = absurd (never is)
  where
    never : reply.Refused reply.Small ≡ reply.Opened (count m) → ⊥
    never e = cc
only-memory shape m fault.Device ticks next step calm = absurd (calm refl)
only-memory shape m fault.OutOfMemory ticks next step calm = refl
only-memory shape m (fault.BadCell number) ticks next (is, same) calm = absurd (never is)
  where
    never : reply.Failed (reply.Damaged number) ≡ reply.Opened (count m) → ⊥
    never e = cc

quiet-as : (answer says : Reply) → answer ≡ says → IsQuiet says → IsQuiet answer
quiet-as answer says is quiet = subst (λ (r : Reply). IsQuiet r) (sym is) quiet

-- Places

module _ {D : Type 0} (d : device.Ghosts D) (sizes : Sizes) (cache : ℕ) where
  sizes-at : (store : Stored D) (state : State) → IsAt d sizes (Open store) state → sizes_of (geometry_of store) ≡ sizes
  sizes-at store (machine.Open m) at = at.0
  sizes-at store (machine.Closing m) at = absurd at
  sizes-at store (machine.Closed m byte) at = absurd at

  module _ (turn : Turn) where
    -- nothing was called
    rests : (old : Place D d) (state : State) → IsAt d sizes old state → Quiet state → IsQuiet turn.answer → Moves d sizes cache turn old old
    rests (Open store) state at quiet none = record {
      opens_none = none.opens_none;
      calls = subst (λ (n : ℕ). CountsCall store store n (searched turn.answer)) (sym none.mutated_none) (subst (λ (n : ℕ). CountsCall store store 0 n) (sym none.searched_none) (calls-none d.bytes d.counts store));
      sizes_are = sizes-at store state at;
      cache_is = refl;
      reads_kept = λ asks has. has;
    }
    rests (Closing closing) (machine.Open m) at quiet none = absurd at
    rests (Closing closing) (machine.Closing m) at quiet none = absurd quiet
    rests (Closing closing) (machine.Closed m byte) at quiet none = absurd at
    rests (Closed now) state at quiet none = record { quiet = none; reads_rise = omega arith; writes_rise = omega arith }

    rests-as : (old new : Place D d) (state : State) (says : Reply) → turn.answer ≡ says → new ≡ old → IsQuiet says → IsAt d sizes old state → Quiet state → Moves d sizes cache turn old new
    rests-as old new state says is same none at quiet = subst (λ (p : Place D d). Moves d sizes cache turn old p) (sym same) (rests old state at quiet (quiet-as turn.answer says is none))

    -- an attempt to close
    pub closes-moves : (old new : Place D d) (state : State) → CloseCause d old turn.answer new → AreFew d old → IsAt d sizes old state → (kind_of turn.answer ≡ FaultedStep → ⊥) → Quiet state → Moves d sizes cache turn old new
    closes-moves (Open store) new state (Ok now, (closes, (is, same))) few at calm quiet =
        subst (λ (p : Place D d). Moves d sizes cache turn (Open store) p) (sym same)
        (record {
          quiet = quiet-as turn.answer reply.Closed is (record { mutated_none = refl; searched_none = refl; opens_none = refl });
          few = few;
          sizes_are = sizes-at store state at;
          spends = subst (λ (n : ℕ). Spends (d.counts store.chain.store.buffers.cache.device) (d.counts now) 0 n 2)
              (ap (λ (g : Geometry). g.bottom + 3) closes.header_is.geometry_is ∙ ap (λ (s : Sizes). s.bottom + 3) (sizes-at store state at)) closes.closed.spends;
        })
    closes-moves (Open store) new state (Err closing, (owed, (is, same))) few at calm quiet = absurd (calm (ap kind_of is))
    closes-moves (Closing closing) new (machine.Open m) cause few at calm quiet = absurd at
    closes-moves (Closing closing) new (machine.Closing m) cause few at calm quiet = absurd quiet
    closes-moves (Closing closing) new (machine.Closed m byte) cause few at calm quiet = absurd at
    closes-moves (Closed now) new state (is, same) few at calm quiet = rests-as (Closed now) new state reply.Already is same (record { mutated_none = refl; searched_none = refl; opens_none = refl }) at quiet

    -- an opening that found no memory
    short-moves : (before now : D) → turn.answer ≡ reply.Refused reply.Memory → OpensStore d before cache (Err (now, fault.OutOfMemory)) → Moves d sizes cache turn (Closed before) (Closed now)
    short-moves before now is refused = record {
      quiet = quiet-as turn.answer (reply.Refused reply.Memory) is (record { mutated_none = refl; searched_none = refl; opens_none = refl });
      reads_rise = subst (λ (r : Reply). (d.counts now).reads ≤ (d.counts before).reads + short r) (sym is) refused.spends.reads_rise;
      writes_rise = let w = refused.spends.writes_rise in omega (arith, w);
    }

  -- an opening
  opens-moves : (answer : Reply) (ticks : ℕ) (old new : Place D d) (state next : State) → OpenCause d cache old answer new → IsAt d sizes old state → Step (shape sizes) state (turn_of Reopen answer ticks) next → IsAt d sizes new next → (kind_of answer ≡ FaultedStep → ⊥) → Quiet state → Moves d sizes cache (turn_of Reopen answer ticks) old new
  opens-moves answer ticks (Open store) new state next (is, same) at step then calm quiet = rests-as (turn_of Reopen answer ticks) (Open store) new state reply.Already is same (record { mutated_none = refl; searched_none = refl; opens_none = refl }) at quiet
  opens-moves answer ticks (Closing closing) new state next (is, same) at step then calm quiet = rests-as (turn_of Reopen answer ticks) (Closing closing) new state reply.Already is same (record { mutated_none = refl; searched_none = refl; opens_none = refl }) at quiet
  opens-moves answer ticks (Closed before) new state next (Ok store, (opened, (is, same))) at step then calm quiet =
      subst (λ (p : Place D d). Moves d sizes cache (turn_of Reopen answer ticks) (Closed before) p) (sym same)
      (record { answer_is = is; opened = opened; sizes_are = sizes-at store next (subst (λ (p : Place D d). IsAt d sizes p next) same then) })
  opens-moves answer ticks (Closed before) new (machine.Open m) next (Err (now, why), (refused, (is, same))) at step then calm quiet = absurd at
  opens-moves answer ticks (Closed before) new (machine.Closing m) next (Err (now, why), (refused, (is, same))) at step then calm quiet = absurd at
  opens-moves answer ticks (Closed before) new (machine.Closed m byte) next (Err (now, why), (refused, (is, same))) at step then calm quiet =
      let zero-step : Step (shape sizes) (machine.Closed m 0) (turn_of Reopen answer ticks) next = subst (λ (n : ℕ). Step (shape sizes) (machine.Closed m n) (turn_of Reopen answer ticks) next) quiet step in
      let memory : why ≡ fault.OutOfMemory = only-memory (shape sizes) m why ticks next (subst (λ (r : Reply). Step (shape sizes) (machine.Closed m 0) (turn_of Reopen r ticks) next) is zero-step) (subst (λ (r : Reply). kind_of r ≡ FaultedStep → ⊥) is calm) in
      subst (λ (p : Place D d). Moves d sizes cache (turn_of Reopen answer ticks) (Closed before) p) (sym same)
      (short-moves (turn_of Reopen answer ticks) before now (is ∙ ap refused_reply memory) (subst (λ (f : OpenFault). OpensStore d before cache (Err (now, f))) memory refused))

  module _ {K A E : Type 0} (t : table.Ghosts (Stored D) Cursor) (k : sink.Ghosts K) (means : Means d.bytes d.counts t) where
    -- a command of a store
    asks-moves : (command : Command) (answer : Reply) (ticks : ℕ) (result : Result A E) (old new : Place D d) (sink sink' : K) (state next : State) → AskCause t d k command result old sink (turn_of command answer ticks) new sink' → KeepsCache d old new → IsAt d sizes old state
        → Step (shape sizes) state (turn_of command answer ticks) next → IsAt d sizes new next → (kind_of answer ≡ FaultedStep → ⊥) → Quiet state → Moves d sizes cache (turn_of command answer ticks) old new
    asks-moves command answer ticks result (Open store) new sink sink' (machine.Open m) next (after, (given, same)) kept at step then calm quiet =
        let is = plain-open (shape sizes) m command answer ticks next (kind_of answer) step calm in
        let plain = plain-answers (shape sizes) m command in
        let turned = turn-counts d.bytes d.counts t k means command answer ticks result store after sink sink' m at.1 (not-failed answer (open_reply (shape sizes) m command) is plain.0) given in
        subst (λ (p : Place D d). Moves d sizes cache (turn_of command answer ticks) (Open store) p) (sym same)
        (record {
          opens_none = ap opens is ∙ plain.1;
          calls = turned.calls;
          sizes_are = sizes-at after next (subst (λ (p : Place D d). IsAt d sizes p next) same then);
          cache_is = subst (λ (p : Place D d). KeepsCache d (Open store) p) same kept;
          reads_kept = turned.reads_kept;
        })
    asks-moves command answer ticks result (Open store) new sink sink' (machine.Closing m) next cause kept at step then calm quiet = absurd at
    asks-moves command answer ticks result (Open store) new sink sink' (machine.Closed m byte) next cause kept at step then calm quiet = absurd at
    asks-moves command answer ticks result (Closing closing) new sink sink' state next (is, same) kept at step then calm quiet = rests-as (turn_of command answer ticks) (Closing closing) new state reply.Shut is same (record { mutated_none = refl; searched_none = refl; opens_none = refl }) at quiet
    asks-moves command answer ticks result (Closed now) new sink sink' state next (is, same) kept at step then calm quiet = rests-as (turn_of command answer ticks) (Closed now) new state reply.Shut is same (record { mutated_none = refl; searched_none = refl; opens_none = refl }) at quiet

    -- any turn
    turn-moves : (request : Option Command) (answer : Reply) (ticks : ℕ) (result : Result A E) (old new : Place D d) (sink sink' : K) (state next : State) → Cause t d k cache request result old sink (record { request = request; answer = answer; ticks = ticks }) new sink' → AreFew d old → KeepsCache d old new
        → IsAt d sizes old state → Step (shape sizes) state (record { request = request; answer = answer; ticks = ticks }) next → IsAt d sizes new next → (kind_of answer ≡ FaultedStep → ⊥) → Quiet state → Moves d sizes cache (record { request = request; answer = answer; ticks = ticks }) old new
    turn-moves None answer ticks result old new sink sink' state next (is, same) few kept at step then calm quiet = rests-as (record { request = None; answer = answer; ticks = ticks }) old new state reply.Bad is same (record { mutated_none = refl; searched_none = refl; opens_none = refl }) at quiet
    turn-moves (Some command) answer ticks result old new sink sink' state next cause few kept at step then calm quiet = by-which (which command cause)
      where
        by-which : ((command ≡ Close) × CloseCause d old answer new) ⊎ (((command ≡ Reopen) × OpenCause d cache old answer new) ⊎ AskCause t d k command result old sink (turn_of command answer ticks) new sink') → Moves d sizes cache (turn_of command answer ticks) old new
        by-which (inl (is, closes)) = subst (λ (c : Command). Moves d sizes cache (turn_of c answer ticks) old new) (sym is) (closes-moves (turn_of Close answer ticks) old new state closes few at calm quiet)
        by-which (inr (inl (is, reopens))) =
            subst (λ (c : Command). Moves d sizes cache (turn_of c answer ticks) old new) (sym is) (opens-moves answer ticks old new state next reopens at (subst (λ (c : Command). Step (shape sizes) state (turn_of c answer ticks) next) is step) then calm quiet)
        by-which (inr (inr asks)) = asks-moves command answer ticks result old new sink sink' state next asks kept at step then calm quiet

-- Lines

-- the count of faults stays in a step that is not faulted
pub kind-stays : (kind : Kind) (before now : ℕ) → KindFaults kind before now → (kind ≡ FaultedStep → ⊥) → now ≡ before
kind-stays PlainStep before now same calm = same
kind-stays FaultedStep before now rose calm = absurd (calm refl)
kind-stays ShortStep before now same calm = same

module _ {D : Type 0} (d : device.Ghosts D) (sizes : Sizes) where
  -- one after another
  pub moves-append : (cache : ℕ) (a b : List Turn) (old mid new : Place D d) → AllMove d sizes cache a old mid → AllMove d sizes cache b mid new → AllMove d sizes cache (a ++ b) old new
  moves-append cache [] b old mid new same next = subst (λ (p : Place D d). AllMove d sizes cache b p new) same next
  moves-append cache (turn ∷ a) b old mid new (between, (one, (stay, rest))) next = (between, (one, (stay, moves-append cache a b between mid new rest next)))

  -- the turn of a line
  pub line-moves : {K : Type 0} (k : sink.Ghosts K) (line : Line) (result : Result (Unit {0}) SinkFault) (turns : List Turn) (old new : Point (Session D d) K) → LineLeads (store_table d) (file_home d) k (Some sizes) line result turns old new → Quiet old.state → faulted_steps turns ≡ 0
      → AllMove d sizes old.home.cache turns old.home.place new.home.place
  line-moves k line result [] old new c quiet none = ap (λ (s : Session D d). s.place) c.cause
  line-moves k line result (turn ∷ []) old new c quiet none =
      let calm = not-faulted (kind_of turn.answer) 0 none in
      let cause = cause-place (store_table d) d k result old.home old.sink turn new.home new.sink turn.request c.cause in (
        new.home.place,
        (
          turn-moves d sizes old.home.cache (store_table d) k (table-means d) turn.request turn.answer turn.ticks result old.home.place new.home.place old.sink new.sink old.state c.runs.0 cause c.few c.keeps.place.cache_stays c.stands.at c.runs.1
              (subst (λ (s : State). IsAt d sizes new.home.place s) c.runs.2 c.stays.at) calm quiet,
          (c.faults.1.1 ∙ kind-stays (kind_of turn.answer) (faults_of d old.home.place) c.faults.0 c.faults.1.0 calm, refl),
        ),
      )
  line-moves k line result (turn ∷ next ∷ turns) old new c quiet none = absurd c.cause
