-- A session over a file from its opening to its close.
use Rattle.std.proofs.Common.{◌≡◌, ◌⊎◌, inl, inr, ℕ, zero, suc, ◌+◌, ◌≤◌, Bool, true, false, List, [], ◌∷◌, ◌++◌, length, Option, Some, None, Ok, Err, refl, sym, ap, ◌∙◌, subst, arith}
use Rattle.std.specs.Prelude.{◌<◌, ◌^◌, nat_le, IfSome, IsSomeAnd}
use Rattle.std.proofs.lemmas.Bool.{false≢true}
use Rattle.std.proofs.lemmas.Bool.Decides.{leb_tells}
use Rattle.cola_outside.specs.Faults.{Rose}
use Rattle.cola_outside.specs.Told.{Both}
use Rattle.cola_device.specs.declared.device.Device as device
use Rattle.cola_device.specs.Settling.{IsSettled}
use Rattle.cola_io.specs.Streams.{Appended}
use Rattle.cola_io.specs.declared.source.Source as source
use Rattle.cola_io.specs.declared.sink.Sink as sink
use Rattle.cola_spec.specs.Map.{Map}
use Rattle.cola_spec.specs.Lines.{Line}
use Rattle.cola_spec.specs.Command.{Close, Reopen}
use Rattle.cola_spec.specs.Reply as reply
use Rattle.cola_spec.specs.Reply.{Reply}
use Rattle.cola_spec.specs.Machine as machine
use Rattle.cola_spec.specs.Machine.{State, Turn, PlainStep, FaultedStep, kind_of, turns_text, ticks_of, faulted_one, faulted_steps}
use Rattle.cola_image.specs.Standing.{HeaderStandsFor, with_state}
use Rattle.cola_store.specs.declared.closing.Closing.{Closing}
use Rattle.cola_store.specs.Table.{store_table}
use Rattle.cola_command.specs.declared.file.Session.{Session}
use Rattle.cola_command.specs.declared.place.Place.{Place}
use Rattle.cola_command.specs.declared.place.Place.TheVariants as place
use Rattle.cola_session.specs.Ends.{Ending, Well, Ill, Anyhow, ReadToEnd, NotBegun, Status0, Status3, Status4, Status5, Status9}
use Rattle.cola_command.specs.File.{Sizes, shape, KeepsBehind, StandsBut, device_of, format_of, faults_of, IsOfSizes, IsAt}
use Rattle.cola_command.specs.Headline.{StandsAs, Known, IsKnown, sizes_known, state_known, IsLeft, IsLeftWhole, LeftBy, EndsBy, last_close, StaysWithin, RunsToEnd, CarriedOut, WroteLines, WroteAll, WroteSome, CarriesAll, CarriesFront, FileEnds}
use Rattle.cola_session.specs.Home.{FaultsOver, cut_after, Point, point, IsAtSome, LinesLead, FrontLeads, AllLead, FrontLead, LinesEnd}
use Rattle.cola_command.specs.Moves.{AreFew, Moves, AllMove}
use Rattle.cola_session.specs.Reading.{input_limit}
use Rattle.cola_command.specs.RunTransfers.{short, FewTransfers, FewCachedReads}
use Rattle.cola_command.specs.Turns.{CloseCause, Begun, Ended, EndsAfter, is_closed, end_status, file_home}
use Rattle.cola_command.proofs.Caching.{AllCaused, few-cached}
use Rattle.cola_command.proofs.Carrying.{BeginsAt, StillOf, RunsSoFar, SoFar, lines-then, front-then, both-then, faults-append, faulted-append}
use Rattle.cola_command.proofs.Counting.{table-means}
use Rattle.cola_session.proofs.CutOff.{Safe, safe-run, safe-step, not-faulted, quiet-run}
use Rattle.cola_command.proofs.Rising.{by-count, faults-rise}
use Rattle.cola_command.proofs.Moving.{kind-stays, closes-moves}
use Rattle.cola_command.proofs.PlaceTurns.{StepsTo, TurnFacts, stands-now, close-facts}
use Rattle.cola_command.proofs.Reopening.{open-facts}
use Rattle.cola_session.proofs.Sessions.{with-carried, with-failed, with-front, with-spent}
use Rattle.cola_command.proofs.Settling.{IsSettledAt, close-settles}
use Rattle.cola_command.proofs.Transferring.{few-transfers}

-- The file

stands-told : (sizes : Sizes) (m : Map) (told : Option (List ℕ)) → IsSomeAnd told (StandsAs sizes m) → IsSomeAnd told (StandsBut sizes m 0)
stands-told sizes m None stands = stands
stands-told sizes m (Some bytes) s = stands-now sizes s.header m bytes s.stands s.sizes_are

zero-state : (sizes : Sizes) (m : Map) (bytes : List ℕ) (s : StandsBut sizes m 0 bytes) → s.state ≡ 0
zero-state sizes m bytes s = let e = s.byte_is in omega (arith, e)

stands-as : (sizes : Sizes) (m : Map) (told : Option (List ℕ)) → IsSomeAnd told (StandsBut sizes m 0) → IsSomeAnd told (StandsAs sizes m)
stands-as sizes m None stands = stands
stands-as sizes m (Some bytes) s =
    let same : with_state 0 bytes ≡ bytes = subst (λ (n : ℕ). with_state n bytes ≡ bytes) (zero-state sizes m bytes s) s.state_is in
    record { header = s.header; stands = subst (λ (xs : List ℕ). HeaderStandsFor s.header xs m) same s.stands; sizes_are = s.sizes_are }

abbrev Both-with : Sizes → Option (List ℕ) → Option (List ℕ) → Type 0
Both-with sizes a b = Both a b (KeepsBehind sizes)

-- the count of faults stays where no turn is faulted
faults-stay : (turns : List Turn) (before now : ℕ) → faulted_steps turns ≡ 0 → FaultsOver turns before now → now ≡ before
faults-stay [] before now none same = same
faults-stay (turn ∷ turns) before now none (between, (one, rest)) = faults-stay turns between now (omega (arith, none)) rest ∙ kind-stays (kind_of turn.answer) before between one (not-faulted (kind_of turn.answer) (faulted_steps turns) none)

-- and does not stand at its last value where none was counted
below-last : (before now : ℕ) → now ≡ before → (Rose before now → ⊥) → before + 1 < 2 ^ 64
below-last before now same calm = by-test (leb_tells (2 ^ 64) (before + 1))
  where
    by-test : ((nat_le (2 ^ 64) (before + 1) ≡ true) × (2 ^ 64 ≤ before + 1)) ⊎ ((nat_le (2 ^ 64) (before + 1) ≡ false) × (before + 1 < 2 ^ 64)) → before + 1 < 2 ^ 64
    by-test (inl (is, last)) = absurd (calm (omega (arith, same, last)))
    by-test (inr (is, below)) = below

plain-is-not-faulted : PlainStep ≡ FaultedStep → ⊥
plain-is-not-faulted same = cc

module _ {D : Type 0} (d : device.Ghosts D) where
  -- what an attempt to close says, and where the store is then
  abbrev pub Says : Reply → Place D d → Type 0
  Says answer new = ((kind_of answer ≡ PlainStep) × ((now : D) × (new ≡ place.Closed now))) ⊎ ((kind_of answer ≡ FaultedStep) × ((closing : Closing D d) × (new ≡ place.Closing closing)))

  pub says : (old : Place D d) (answer : Reply) (new : Place D d) → CloseCause d old answer new → Says answer new
  says (place.Open store) answer new (Ok now, (closes, (answered, is))) = inl (ap kind_of answered, (now, is))
  says (place.Open store) answer new (Err closing, (closes, (answered, is))) = inr (ap kind_of answered, (closing, is))
  says (place.Closing before) answer new (Ok now, (closes, (answered, is))) = inl (ap kind_of answered, (now, is))
  says (place.Closing before) answer new (Err closing, (closes, (answered, is))) = inr (ap kind_of answered, (closing, is))
  says (place.Closed now) answer new (answered, is) = inl (ap kind_of answered, (now, is))

  -- what is left of the file
  left-closed : (sizes : Sizes) (now : D) (end : State) → IsAt d sizes (place.Closed now) end → IsLeft sizes end (d.bytes now)
  left-closed sizes now (machine.Open m) at = absurd at
  left-closed sizes now (machine.Closing m) at = absurd at
  left-closed sizes now (machine.Closed m byte) at = at

  left-closing : (sizes : Sizes) (closing : Closing D d) (end : State) (told : Option (List ℕ)) → IsAt d sizes (place.Closing closing) end → IsLeft sizes end told
  left-closing sizes closing (machine.Open m) told at = absurd at
  left-closing sizes closing (machine.Closing m) told at = tt
  left-closing sizes closing (machine.Closed m byte) told at = absurd at

  left-is : (sizes : Sizes) (answer : Reply) (new : Place D d) (end : State) → Says answer new → IsAt d sizes new end → IsLeft sizes end (d.bytes (device_of new))
  left-is sizes answer new end (inl (kind, (now, is))) at =
      subst (λ (p : Place D d). IsLeft sizes end (d.bytes (device_of p))) (sym is) (left-closed sizes now end (subst (λ (p : Place D d). IsAt d sizes p end) is at))
  left-is sizes answer new end (inr (kind, (closing, is))) at = left-closing sizes closing end (d.bytes (device_of new)) (subst (λ (p : Place D d). IsAt d sizes p end) is at)

  whole-closed : (sizes : Sizes) (now : D) (end : State) → IsAt d sizes (place.Closed now) end → Safe end false → IsLeftWhole sizes end (d.bytes now)
  whole-closed sizes now (machine.Open m) at safe = absurd at
  whole-closed sizes now (machine.Closing m) at safe = absurd at
  whole-closed sizes now (machine.Closed m zero) at safe = stands-as sizes m (d.bytes now) at
  whole-closed sizes now (machine.Closed m (suc byte)) at safe = absurd (omega (arith, safe))

  whole-is : (sizes : Sizes) (answer : Reply) (new : Place D d) (end : State) → Says answer new → is_closed new ≡ true → IsAt d sizes new end → Safe end false → IsLeftWhole sizes end (d.bytes (device_of new))
  whole-is sizes answer new end (inl (kind, (now, is))) closed at safe =
      subst (λ (p : Place D d). IsLeftWhole sizes end (d.bytes (device_of p))) (sym is) (whole-closed sizes now end (subst (λ (p : Place D d). IsAt d sizes p end) is at) safe)
  whole-is sizes answer new end (inr (kind, (closing, is))) closed at safe = absurd (false≢true (ap is_closed (sym is) ∙ closed))

  plain-where : (answer : Reply) (new : Place D d) → Says answer new → is_closed new ≡ true → kind_of answer ≡ PlainStep
  plain-where answer new (inl (kind, (now, is))) closed = kind
  plain-where answer new (inr (kind, (closing, is))) closed = absurd (false≢true (ap is_closed (sym is) ∙ closed))

  never-faulted : (answer : Reply) (new : Place D d) → Says answer new → (kind_of answer ≡ FaultedStep → ⊥) → new ≡ place.Closed (device_of new)
  never-faulted answer new (inl (kind, (now, is))) calm = is ∙ ap (λ (p : Place D d). place.Closed (device_of p)) (sym is)
  never-faulted answer new (inr (kind, (closing, is))) calm = absurd (calm kind)

  -- an attempt to close that met no fault leaves the store closed on the device
  pub closed-at-end : (old : Place D d) (answer : Reply) (new : Place D d) (now : D) → CloseCause d old answer new → now ≡ device_of new → kind_of answer ≡ PlainStep → CloseCause d old answer (place.Closed now)
  closed-at-end old answer new now cause is plain =
      let said = never-faulted answer new (says old answer new cause) (λ faulted. plain-is-not-faulted (sym plain ∙ faulted)) in
      subst (λ (p : Place D d). CloseCause d old answer p) (said ∙ ap (λ (x : D). place.Closed x) (sym is)) cause

  -- no attempt to close is short of memory
  never-short : (old : Place D d) (answer : Reply) (new : Place D d) → CloseCause d old answer new → short answer ≡ 0
  never-short (place.Open store) answer new (Ok now, (closes, (answered, is))) = ap short answered
  never-short (place.Open store) answer new (Err closing, (closes, (answered, is))) = ap short answered
  never-short (place.Closing before) answer new (Ok now, (closes, (answered, is))) = ap short answered
  never-short (place.Closing before) answer new (Err closing, (closes, (answered, is))) = ap short answered
  never-short (place.Closed now) answer new (answered, is) = ap short answered

  faulted-where : (answer : Reply) (new : Place D d) → Says answer new → is_closed new ≡ false → kind_of answer ≡ FaultedStep
  faulted-where answer new (inl (kind, (now, is))) opening = absurd (false≢true (sym opening ∙ ap is_closed is))
  faulted-where answer new (inr (kind, (closing, is))) opening = kind

-- The beginning
module _ {D : Type 0} (d : device.Ghosts D) (device : D) (cache : ℕ) (cost : Bool) (first : Session D d) (begun : Begun d device cache cost first)
    (opens : TurnFacts d Reopen (place.Closed device) (reply.Opened begun.store.count) (place.Open begun.store)) where
  first-sizes : (sizes : Sizes) → IsOfSizes d sizes (place.Closed device) → IsOfSizes d sizes first.place
  first-sizes sizes of = subst (λ (p : Place D d). IsOfSizes d sizes p) (sym begun.place_is) (opens.keeps.sizes sizes of)

  first-format : (sizes : Sizes) → IsOfSizes d sizes (place.Closed device) → format_of first.place first.format ≡ sizes.format
  first-format sizes of = ap (λ (p : Place D d). format_of p first.format) begun.place_is ∙ ap (λ (s : Sizes). s.format) (opens.keeps.sizes sizes of).sizes_are

  begins : (known : Option Known) → IsKnown known (d.bytes device) → BeginsAt d first known
  begins None is = tt
  begins (Some known) is =
      let opening = opens.steps known.sizes (machine.Closed known.map 0) (stands-told known.sizes known.map (d.bytes device) is) in
      let at : IsAt d known.sizes (place.Open begun.store) (machine.Open known.map) = subst (λ (s : State). IsAt d known.sizes (place.Open begun.store) s) opening.step.1 opening.at in
      record {
        format_is = ap (λ (p : Place D d). format_of p first.format) begun.place_is ∙ ap (λ (s : Sizes). s.format) at.0;
        at = subst (λ (p : Place D d). IsAt d known.sizes p (machine.Open known.map)) (sym begun.place_is) at;
      }

  starts-at : {K : Type 0} (sink : K) (steps : ℕ) (known : Option Known) → BeginsAt d first known → IsAtSome (file_home d) (sizes_known known) (point first sink steps (state_known known))
  starts-at sink steps None at = tt
  starts-at sink steps (Some known) at = at

  -- The end
  module _ {K : Type 0} (h : sink.Ghosts K) (sink sink' : K) (device' : D) (closed : Bool) (last : Session D d) (ended : Ended d last device' closed) (closes : TurnFacts d Close last.place ended.answer ended.place) (steps steps' : ℕ)
      (kept : d.kept device' ≡ d.kept (device_of last.place)) (few : AreFew d last.place) (kept_first : d.kept (device_of first.place) ≡ d.kept device) (state : State) where
    abbrev now : Point (Session D d) K
    now = point last sink' steps' state

    said : Says d ended.answer ended.place
    said = says d last.place ended.answer ended.place ended.cause

    abbrev Runs : Known → List Line → List Turn → Type 0
    Runs known lines turns = RunsSoFar h d first sink steps known lines turns now

    -- the close at the end is a step of the machine
    close-step : (known : Known) (lines : List Line) (turns : List Turn) → Runs known lines turns → StepsTo d known.sizes state (last_close ended.answer) ended.place
    close-step known lines turns r = closes.steps known.sizes state r.at.at

    abbrev Leaves : Ending → Type 0
    Leaves ending = (known : Known) (lines : List Line) (turns : List Turn) (r : Runs known lines turns) → cut_after turns false ≡ last.cut_off → LeftBy ending known.sizes (close-step known lines turns r).next (d.bytes device')

    leaves : (known : Known) (lines : List Line) (turns : List Turn) (r : Runs known lines turns) → cut_after turns false ≡ last.cut_off → IsLeft known.sizes (close-step known lines turns r).next (d.bytes device')
    leaves known lines turns r cut =
        let close = close-step known lines turns r in
        subst (λ (x : D). IsLeft known.sizes close.next (d.bytes x)) (sym ended.device_is) (left-is d known.sizes ended.answer ended.place close.next said close.at)

    leaves-whole : closed ≡ true → last.cut_off ≡ false → Leaves Well
    leaves-whole is_whole none known lines turns r cut =
        let close = close-step known lines turns r in
        let safe : Safe state false = subst (λ b. Safe state b) (cut ∙ none) (safe-run (shape known.sizes) (machine.Open known.map) turns state false r.run tt) in
        let end : Safe close.next false = safe-step (shape known.sizes) state (Some Close) ended.answer 0 close.next (kind_of ended.answer) false close.step safe in
        subst (λ (x : D). IsLeftWhole known.sizes close.next (d.bytes x)) (sym ended.device_is) (whole-is d known.sizes ended.answer ended.place close.next said (sym ended.closed_is ∙ is_whole) close.at end)

    -- a session that ends well has a settled device
    settled-at-end : kind_of ended.answer ≡ PlainStep → last.cut_off ≡ false → IsSettledAt d last.place last.cut_off → IsSettled d device'
    settled-at-end plain none at =
        let closed_place = never-faulted d ended.answer ended.place said (λ faulted. plain-is-not-faulted (sym plain ∙ faulted)) in
        let end = subst (λ (p : Place D d). IsSettledAt d p last.cut_off) closed_place (close-settles d last.place ended.answer ended.place last.cut_off ended.cause at) in
        subst (λ (x : D). IsSettled d x) (sym ended.device_is) (end none)

    abbrev Over : List Turn → Type 0
    Over turns = FaultsOver (turns ++ last_close ended.answer ∷ []) (d.counts device).faults (d.counts device').faults

    abbrev Calm : Type 0
    Calm = Rose (d.counts device).faults (d.counts device').faults → ⊥

    -- where no fault was counted, no turn is faulted, nor is the close at the end
    record Unfaulted (turns : List Turn) : Type 0 where
      earlier : faulted_steps turns ≡ 0
      closing : kind_of ended.answer ≡ FaultedStep → ⊥
      below : (d.counts device).faults + 1 < 2 ^ 64
      whole : ended.place ≡ place.Closed (device_of ended.place)

    unfaulted : (turns : List Turn) → Over turns → Calm → Unfaulted turns
    unfaulted turns over calm =
        let all = turns ++ last_close ended.answer ∷ [] in
        let none : faulted_steps all ≡ 0 = by-count (faulted_steps all) (d.counts device).faults (d.counts device').faults (faults-rise all (d.counts device).faults (d.counts device').faults over) calm in
        let whole = faulted-append turns (last_close ended.answer ∷ []) in
        let after : faulted_one (kind_of ended.answer) + 0 ≡ 0 = omega (arith, none, whole) in
        let fine = not-faulted (kind_of ended.answer) 0 after in
        record {
          earlier = omega (arith, none, whole);
          closing = fine;
          below = below-last (d.counts device).faults (d.counts device').faults (faults-stay all (d.counts device).faults (d.counts device').faults none over) calm;
          whole = never-faulted d ended.answer ended.place said fine;
        }

    -- the reads and writes
    few-at-end : (known : Known) (lines : List Line) (turns : List Turn) → Runs known lines turns → Over turns → Calm → length turns ≤ input_limit → FewTransfers known.sizes cache turns (d.counts device) (d.counts device')
    few-at-end known lines turns r over calm many =
        let none = unfaulted turns over calm in
        let quiet = quiet-run (shape known.sizes) (machine.Open known.map) turns state r.run none.earlier tt in
        let closing = closes-moves d known.sizes cache (last_close ended.answer) last.place ended.place state ended.cause few r.at.at none.closing quiet in
        let final = subst (λ (x : D). Moves d known.sizes cache (last_close ended.answer) last.place (place.Closed x)) (sym ended.device_is)
        (subst (λ (p : Place D d). Moves d known.sizes cache (last_close ended.answer) last.place p) none.whole closing) in
        let moves = subst (λ (p : Place D d). AllMove d known.sizes cache turns p last.place) begun.place_is (subst (λ n. AllMove d known.sizes n turns first.place last.place) begun.cache_is (r.moves none.earlier)) in
        few-transfers d known.sizes cache begun.store device last.place (last_close ended.answer) device' turns none.below begun.opened
        final (never-short d last.place ended.answer ended.place ended.cause) many moves

    -- and the reads behind a cache for the file, on every file of known sizes
    cached-at-end : (turns : List Turn) → AllCaused (store_table d) d h first.cache turns first.place last.place → Over turns → (sizes : Sizes) → IsOfSizes d sizes (place.Closed device) → Calm → FewCachedReads sizes cache turns (d.counts device) (d.counts device')
    cached-at-end turns caused over sizes of calm =
        let none = unfaulted turns over calm in
        let close = subst (λ (x : D). CloseCause d last.place ended.answer (place.Closed x)) (sym ended.device_is) (subst (λ (p : Place D d). CloseCause d last.place ended.answer p) none.whole ended.cause) in
        few-cached (store_table d) d h (table-means d) sizes cache device device' begun.store last.place ended.answer turns begun.opened (opens.keeps.sizes sizes of)
        (subst (λ (p : Place D d). AllCaused (store_table d) d h cache turns p last.place) begun.place_is (subst (λ n. AllCaused (store_table d) d h n turns first.place last.place) begun.cache_is caused)) few close none.earlier none.closing none.below

    module _ (ending : Ending) (left : Leaves ending) (lines : List Line) (turns : List Turn) where
      runs-to-end : (known : Option Known) → cut_after turns false ≡ last.cut_off → Over turns → IfSome known (λ known. Runs known lines turns) → IfSome known (λ known. RunsToEnd d cache device device' steps steps' ending known lines turns ended.answer)
      runs-to-end None cut over r = tt
      runs-to-end (Some known) cut over r =
          let close = close-step known lines turns r in
          record { asks = r.asks; last = state; run = r.run; end = close.next; close = close.step; left = left known lines turns r cut; few = few-at-end known lines turns r over }

      stays-within : (sizes : Sizes) → IsOfSizes d sizes (place.Closed device) → StillOf h d first sink steps sizes lines turns last → StaysWithin d cache device device' steps steps' sizes lines turns
      stays-within sizes of still = record {
        asks = still.asks;
        within = still.within;
        behind =
            let start = subst (λ (p : Place D d). Both-with sizes (d.bytes device) (d.bytes (device_of p))) (sym begun.place_is) (opens.keeps.behind sizes of) in
            let end = subst (λ (x : D). Both-with sizes (d.bytes (device_of last.place)) (d.bytes x)) (sym ended.device_is) (closes.keeps.behind sizes still.of_sizes) in
            both-then sizes (d.bytes device) (d.bytes (device_of last.place)) (d.bytes device') (both-then sizes (d.bytes device) (d.bytes (device_of first.place)) (d.bytes (device_of last.place)) start still.behind) end;
      }

      carried-out : (known : Option Known) (so_far : SoFar h d first sink steps known lines turns now) → cut_after turns false ≡ last.cut_off → CarriedOut d cache device device' steps steps' ending known lines turns ended.answer
      carried-out known so_far cut =
          let over = faults-append turns (last_close ended.answer ∷ []) (d.counts device).faults (faults_of d last.place) (d.counts device').faults
          (subst (λ n. FaultsOver turns n (faults_of d last.place)) (ap (λ (p : Place D d). faults_of d p) begun.place_is ∙ begun.opened.opened.no_fault) so_far.faults)
          (faults_of d ended.place, (closes.faults, ap (λ (x : D). (d.counts x).faults) ended.device_is)) in
          record {
            store = begun.store;
            opened = begun.opened;
            asks = so_far.asks;
            counted = so_far.counted;
            faults = over;
            kept = kept ∙ so_far.kept ∙ kept_first;
            settled = λ well. settled-at-end well.0 (sym cut ∙ well.1) (so_far.settled (subst (λ (p : Place D d). IsSettledAt d p first.cut_off) (sym begun.place_is) tt));
            sized = λ sizes of. stays-within sizes of (so_far.sized sizes (first-sizes sizes of) (first-format sizes of));
            cached = cached-at-end turns so_far.caused over;
            runs = runs-to-end known cut over so_far.runs;
          }

    cut-is : (known : Option Known) (lines : List Line) (turns : List Turn) → SoFar h d first sink steps known lines turns now → cut_after turns false ≡ last.cut_off
    cut-is known lines turns so_far = ap (cut_after turns) (sym begun.none_cut) ∙ sym so_far.cut_off

    -- What the lines so far become
    whole : (ending : Ending) → Leaves ending → ((turns : List Turn) → cut_after turns false ≡ last.cut_off → EndsBy ending turns ended.answer) → (lines : List Line) (turns : List Turn) (known : Option Known) → BeginsAt d first known
        → LinesLead (store_table d) (file_home d) h (sizes_known known) lines turns (point first sink steps (state_known known)) now → WroteAll h d cache cost sink sink' device device' steps steps' ending known lines
    whole ending left ends lines turns known at led =
        let s = lines-then h d first sink steps known at lines turns now led in
        let cut = cut-is known lines turns s.so_far in
        record {
          turns = turns;
          answer = ended.answer;
          carried = carried-out ending left lines turns known s.so_far cut;
          led = record { first = first; begun = begun; last = last; led = (state, led); few = few; place = ended.place; close = ended.cause; device_is = ended.device_is };
          wrote = subst (λ c. Appended (turns_text c turns) (h.written sink) (h.written sink')) begun.cost_is s.wrote;
          ends = ends turns cut;
        }

    front : (before : List Line) (line : Line) (turns : List Turn) (known : Option Known) → BeginsAt d first known → FrontLeads (store_table d) (file_home d) h (sizes_known known) before line turns (point first sink steps (state_known known)) now
        → WroteSome h d cache cost sink sink' device device' steps steps' known before line
    front before line turns known at led =
        let s = front-then h d first sink steps known at before line turns now led in
        record {
          turns = turns;
          answer = ended.answer;
          carried = carried-out Anyhow leaves (before ++ line ∷ []) turns known s.so_far (cut-is known (before ++ line ∷ []) turns s.so_far);
          led = record { first = first; begun = begun; last = last; led = (state, led); few = few; place = ended.place; close = ended.cause; device_is = ended.device_is };
          wrote = subst (λ c. WroteLines c before turns (h.written sink) (h.written sink')) begun.cost_is s.wrote;
        }

  -- whatever is known of the file
  module _ {K : Type 0} (h : sink.Ghosts K) (sink sink' : K) (device' : D) (closed : Bool) (last : Session D d) (ended : Ended d last device' closed) (closes : TurnFacts d Close last.place ended.answer ended.place) (steps steps' : ℕ)
      (kept : d.kept device' ≡ d.kept (device_of last.place)) (few : AreFew d last.place) (kept_first : d.kept (device_of first.place) ≡ d.kept device) where
    abbrev All : List Line → Type 0
    All lines = AllLead (store_table d) (file_home d) h first last sink sink' steps steps' lines

    abbrev Becomes : Ending → Type 0
    Becomes ending = (lines : List Line) → All lines → CarriesAll h d cache cost sink sink' device device' steps steps' ending lines

    to-whole : (ending : Ending) → ((state : State) → Leaves h sink sink' device' closed last ended closes steps steps' kept few kept_first state ending) → ((turns : List Turn) → cut_after turns false ≡ last.cut_off → EndsBy ending turns ended.answer) → Becomes ending
    to-whole ending left ends lines all known is =
        let at = begins known is in
        let led = all (sizes_known known) (state_known known) (starts-at sink steps known at) in
        whole h sink sink' device' closed last ended closes steps steps' kept few kept_first led.0 ending (left led.0) ends lines led.1.0 known at led.1.1

    to-front : (before : List Line) (line : Line) → FrontLead (store_table d) (file_home d) h first last sink sink' steps steps' before line → CarriesFront h d cache cost sink sink' device device' steps steps' before line
    to-front before line all known is =
        let at = begins known is in
        let led = all (sizes_known known) (state_known known) (starts-at sink steps known at) in
        front h sink sink' device' closed last ended closes steps steps' kept few kept_first led.0 before line led.1.0 known at led.1.1

    to-any : Becomes Anyhow
    to-any = to-whole Anyhow (leaves h sink sink' device' closed last ended closes steps steps' kept few kept_first) (λ turns cut. tt)

    said-last : Says d ended.answer ended.place
    said-last = says d last.place ended.answer ended.place ended.cause

    to-well : closed ≡ true → last.cut_off ≡ false → Becomes Well
    to-well is_whole none = to-whole Well (λ state. leaves-whole h sink sink' device' closed last ended closes steps steps' kept few kept_first state is_whole none) (λ turns cut. (plain-where d ended.answer ended.place said-last (sym ended.closed_is ∙ is_whole), cut ∙ none))

    to-ill : (closed ≡ false) ⊎ (last.cut_off ≡ true) → Becomes Ill
    to-ill (inl opening) = to-whole Ill (leaves h sink sink' device' closed last ended closes steps steps' kept few kept_first) (λ turns cut. inl (faulted-where d ended.answer ended.place said-last (sym ended.closed_is ∙ opening)))
    to-ill (inr cut_off) = to-whole Ill (leaves h sink sink' device' closed last ended closes steps steps' kept few kept_first) (λ turns cut. inr (cut ∙ cut_off))

    -- The status
    module _ {S : Type 0} (g : source.Ghosts S) (source source' : S) where
      abbrev Ends' : ℕ → Type 0
      Ends' status = FileEnds g h d cache cost source source' sink sink' device device' steps steps' status

      read-end : (status : ℕ) (cut_off whole : Bool) → last.cut_off ≡ cut_off → closed ≡ whole → status ≡ end_status 0 cut_off whole → ReadToEnd g h source source' sink sink' All → Ends' status
      read-end status true whole cut is status_is r = Status5 status_is (with-carried g h source source' sink sink' _ _ (to-ill (inr cut)) r)
      read-end status false false cut is status_is r = Status5 status_is (with-carried g h source source' sink sink' _ _ (to-ill (inl is)) r)
      read-end status false true cut is status_is r = Status0 status_is (with-carried g h source source' sink sink' _ _ (to-well is cut) r)

      pub ends : (status status' : ℕ) → LinesEnd (store_table d) (file_home d) h g first last source source' sink sink' steps steps' status → status' ≡ end_status status last.cut_off closed → Ends' status'
      ends status status' (NotBegun never) is = absurd never
      ends status status' (Status5 five r) is = absurd r.carried
      ends status status' (Status0 none r) is = read-end status' last.cut_off closed refl refl (is ∙ ap (λ n. end_status n last.cut_off closed) none) r
      ends status status' (Status3 three r) is = Status3 (is ∙ ap (λ n. end_status n last.cut_off closed) three) (with-failed g h source source' sink sink' _ _ to-any r)
      ends status status' (Status4 four r) is = Status4 (is ∙ ap (λ n. end_status n last.cut_off closed) four) (with-front g h source source' sink sink' _ _ to-front r)
      ends status status' (Status9 nine r) is = Status9 (is ∙ ap (λ n. end_status n last.cut_off closed) nine) (with-spent g h source source' sink sink' _ _ to-any r)

-- a session that begins with an opening, carries out the lines of a source and is ended
pub serves : {S K D : Type 0} (g : source.Ghosts S) (h : sink.Ghosts K) (d : device.Ghosts D) (cache : ℕ) (cost : Bool) (source source' : S) (sink sink' : K) (device device' : D) (steps steps' status status' : ℕ) (first last : Session D d)
    → Begun d device cache cost first → d.kept (device_of first.place) ≡ d.kept device → LinesEnd (store_table d) (file_home d) h g first last source source' sink sink' steps steps' status → EndsAfter d last status device' status'
    → FileEnds g h d cache cost source source' sink sink' device device' steps steps' status'
serves {D} g h d cache cost source source' sink sink' device device' steps steps' status status' first last begun kept_first lines after =
    let opened = open-facts d cache (place.Closed device) (reply.Opened begun.store.count) (place.Open begun.store) (Ok begun.store, (begun.opened, (refl, refl))) (sym (ap (λ (p : Place D d). d.kept (device_of p)) begun.place_is) ∙ kept_first) in
    let closed = close-facts d last.place after.ended.answer after.ended.place after.ended.cause (ap d.kept (sym after.ended.device_is) ∙ after.kept) in
    ends d device cache cost first begun opened h sink sink' device' after.closed last after.ended closed steps steps' after.kept after.few kept_first g source source' status status' lines after.status_is
