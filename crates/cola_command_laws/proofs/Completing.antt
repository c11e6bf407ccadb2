-- Where nothing failed: the turns are plain, and their reads and writes few.
use Rattle.std.proofs.Common.{◌≡◌, ◌⊎◌, inl, inr, ℕ, zero, suc, ◌+◌, ◌≤◌, ◌<◌, Bool, List, [], ◌∷◌, ◌++◌, length, Option, Some, None, Err, refl, ap, ◌∙◌, subst, arith}
use Rattle.std.specs.Prelude.{IsSomeAnd}
use Rattle.std.specs.List.{flat_map, slice_split}
use Rattle.std.proofs.lemmas.List.{length-map, length-append}
use Rattle.std.proofs.lemmas.List.Concat.{flat_map-cons}
use Rattle.std.proofs.lemmas.List.Splits.{length-slice_split}
use Rattle.std.proofs.lemmas.List.Sums.{count_by-le-length}
use Rattle.cola_outside.specs.Faults.{Rose}
use Rattle.cola_device.specs.declared.device.Device as device
use Rattle.cola_io.specs.Law.{all_lines}
use Rattle.cola_io.specs.Reads.{Read, bytes_read}
use Rattle.cola_io.specs.declared.source.Source as source
use Rattle.cola_io.specs.declared.sink.Sink as sink
use Rattle.cola_spec.specs.Map.{Shape, Map}
use Rattle.cola_spec.specs.Lines.{Line, Text, TooLong, line_of, raw_lines, is_line_feed, without_empty_last}
use Rattle.cola_spec.specs.Command.{Command, line_requests}
use Rattle.cola_spec.specs.Reply as reply
use Rattle.cola_spec.specs.Reply.{Reply}
use Rattle.cola_spec.specs.Machine.{State, Open, Closing, Closed, Turn, Kind, PlainStep, FaultedStep, ShortStep, StepOf, ShortOfMemory, History, kind_of, faulted_steps}
use Rattle.cola_image.specs.Standing.{FileStandsFor}
use Rattle.cola_store.specs.declared.fault.OpenFault.{OpenFault}
use Rattle.cola_store.specs.declared.fault.OpenFault.TheVariants as fault
use Rattle.cola_store.specs.Sessions.{MetFault}
use Rattle.cola_store.proofs.OpenLaws.{opens-to}
use Rattle.cola_session.specs.Ends.{Ending, Well, Ill, ReadToEnd, NothingFails, SessionEnds, NotBegun, Status0, Status3, Status4, Status5, Status9}
use Rattle.cola_session.specs.Reading.{input_limit}
use Rattle.cola_command.specs.File.{Sizes, shape, sizes_in}
use Rattle.cola_workload.specs.Refused.{refusal_status}
use Rattle.cola_command.specs.Headline.{FileEnds, StandsAs, NotOpened, WroteAll, CarriesAll, asked, last_close}
use Rattle.cola_command_laws.specs.HeadlineLaws.{PlainHistory, NoneFails, AnsweredPlainly, TransferredFew, Completes, Answered, OutOfMemory}
use Rattle.cola_session.proofs.CutOff.{not-faulted, only-reopened}
use Rattle.cola_command.proofs.Carrying.{faulted-append}
use Rattle.cola_session.proofs.Sessions.{with-carried}
use Rattle.cola_command.proofs.Rising.{by-count, faults-rise}
use Rattle.cola_command_laws.proofs.HeadlineLaws.{ill-counts}

-- Plain turns

-- only the reply `memory` is short of memory
memory-only : (answer : Reply) → kind_of answer ≡ ShortStep → answer ≡ reply.Refused reply.Memory
memory-only (reply.Put outcome) is = cc
memory-only (reply.Deleted value) is = cc
memory-only (reply.Got value) is = cc
memory-only (reply.Stamped stamp) is = cc
memory-only (reply.Rows rows) is = cc
memory-only (reply.Cut rows reply.Fault) is = cc
memory-only (reply.Cut rows (reply.Damaged cell)) is = cc
memory-only (reply.Cut rows (reply.Overfull level)) is = cc
memory-only (reply.Counted keys) is = cc
memory-only (reply.Failed reply.Fault) is = cc
memory-only (reply.Failed (reply.Damaged cell)) is = cc
memory-only (reply.Failed (reply.Overfull level)) is = cc
memory-only reply.Closed is = cc
memory-only (reply.Opened keys) is = cc
memory-only (reply.Refused reply.NotStore) is = cc
memory-only (reply.Refused reply.NotClosed) is = cc
memory-only (reply.Refused reply.Small) is = cc
memory-only (reply.Refused reply.Memory) is = refl
memory-only reply.Already is = cc
memory-only reply.Shut is = cc
memory-only reply.Bad is = cc

-- and only a closed store with the state byte 0 is
closed-whole : (state : State) (request : Option Command) (next : State) → ShortOfMemory state request next → (m : Map) × (state ≡ Closed m 0)
closed-whole (Open m) request next step = absurd step
closed-whole (Closing m) request next step = absurd step
closed-whole (Closed m zero) request next step = (m, refl)
closed-whole (Closed m (suc byte)) request next step = absurd step

-- a run without faulted turns is plain
module _ (shape : Shape) where
  plain-turn : (state next last : State) (turn : Turn) (turns : List Turn) (kind : Kind) → kind_of turn.answer ≡ kind → StepOf shape state turn next kind → (kind ≡ FaultedStep → ⊥) → PlainHistory shape next turns last → PlainHistory shape state (turn ∷ turns) last
  plain-turn state next last turn turns PlainStep is step calm rest = inl (step.0, subst (λ (s : State). PlainHistory shape s turns last) step.1 rest)
  plain-turn state next last turn turns FaultedStep is step calm rest = absurd (calm refl)
  plain-turn state next last turn turns ShortStep is step calm rest =
      let only = only-reopened state turn.request next step in
      inr (only.0, (memory-only turn.answer is, (closed-whole state turn.request next step, subst (λ (s : State). PlainHistory shape s turns last) only.1.0 rest)))

  pub plain-run : (state : State) (turns : List Turn) (last : State) → History shape state turns last → faulted_steps turns ≡ 0 → PlainHistory shape state turns last
  plain-run state [] last same none = same
  plain-run state (turn ∷ turns) last (next, step, rest) none =
      plain-turn state next last turn turns (kind_of turn.answer) refl step (not-faulted (kind_of turn.answer) (faulted_steps turns) none) (plain-run next turns last rest (omega (arith, none)))

-- How many turns there are

request-one : (shape : Shape) (line : Line) → length (line_requests shape line) ≤ 1
request-one shape (Text []) = omega arith
request-one shape (Text (byte ∷ bytes)) = omega arith
request-one shape TooLong = omega arith

requests-few : (shape : Shape) (lines : List Line) → length (flat_map (line_requests shape) lines) ≤ length lines
requests-few shape [] = omega arith
requests-few shape (line ∷ lines) =
    let one = request-one shape line in
    let rest = requests-few shape lines in
    let whole = ap length (flat_map-cons (line_requests shape) line lines) ∙ length-append (line_requests shape line) (flat_map (line_requests shape) lines) in
    omega (arith, one, rest, whole)

without-last : (parts : List (List ℕ)) → length (without_empty_last parts) ≤ length parts
without-last [] = omega arith
without-last ([] ∷ []) = omega arith
without-last ((byte ∷ bytes) ∷ []) = omega arith
without-last (part ∷ next ∷ parts) = let rest = without-last (next ∷ parts) in omega (arith, rest)

lines-few : (bytes : List ℕ) → length (all_lines bytes) ≤ length bytes + 1
lines-few bytes =
    let same = length-map (raw_lines bytes) line_of in
    let parts = without-last (slice_split is_line_feed bytes) in
    let feeds = length-slice_split is_line_feed bytes in
    let most = count_by-le-length is_line_feed bytes in
    omega (arith, same, parts, feeds, most)

-- no more turns than bytes, but for one
pub turns-few : (shape : Shape) (turns : List Turn) (lines : List Line) (bytes : List ℕ) (most : ℕ) → asked turns ≡ flat_map (line_requests shape) lines → lines ≡ all_lines bytes → length bytes < most → length turns ≤ most
turns-few shape turns lines bytes most asks all fewer =
    let many : length (asked turns) ≡ length turns = length-map turns (λ (turn : Turn). turn.request) in
    let same = ap length asks in
    let requests = requests-few shape lines in
    let of-bytes = lines-few bytes in
    let whole = ap length all in
    omega (arith, many, same, requests, of-bytes, whole, fewer)

-- The file

pub stands-sized : (m : Map) (told : Option (List ℕ)) → IsSomeAnd told (λ bytes. FileStandsFor bytes m) → (sizes : Sizes) × IsSomeAnd told (StandsAs sizes m)
stands-sized m None stands = absurd stands
stands-sized m (Some bytes) (header, stands) = (sizes_in header, record { header = header; stands = stands; sizes_are = refl })

-- Completeness

-- where the source and the sink did not fail, and few bytes were read, a session did not begin, or met the end of its source
pub met-end : {S K : Type 0} (g : source.Ghosts S) (h : sink.Ghosts K) (source source' : S) (sink sink' : K) (R : ℕ → Type 0) (B : Ending → List Line → Type 0) (F : List Line → Line → Type 0) (status : ℕ) → SessionEnds g h source source' sink sink' R B F status → NothingFails g h source source' sink sink'
    → R status ⊎ (((status ≡ 0) × ReadToEnd g h source source' sink sink' (B Well)) ⊎ ((status ≡ 5) × ReadToEnd g h source source' sink sink' (B Ill)))
met-end g h source source' sink sink' R B F status (NotBegun refused) sound = inl refused
met-end g h source source' sink sink' R B F status (Status0 is ends) sound = inr (inl (is, ends))
met-end g h source source' sink sink' R B F status (Status3 is ends) sound = absurd (sound.source_answers (omega (arith, ends.source_faults)))
met-end g h source source' sink sink' R B F status (Status4 is ends) sound = absurd (sound.sink_answers (omega (arith, ends.sink_faults)))
met-end g h source source' sink sink' R B F status (Status5 is ends) sound = inr (inr (is, ends))
met-end g h source source' sink sink' R B F status (Status9 is ends) sound = absurd (omega (arith, ends.all, sound.few ends.lines ends.reads ends.read))

module _ {S K D : Type 0} (g : source.Ghosts S) (h : sink.Ghosts K) (d : device.Ghosts D) (cache : ℕ) (cost : Bool) (m : Map) (source source' : S) (sink sink' : K) (device device' : D) (steps steps' : ℕ) where
  -- the session from the map that the file stood for
  from-map : (lines : List Line) → IsSomeAnd (d.bytes device) (λ bytes. FileStandsFor bytes m) → CarriesAll h d cache cost sink sink' device device' steps steps' Well lines
      → (sizes : Sizes) × (IsSomeAnd (d.bytes device) (StandsAs sizes m) × WroteAll h d cache cost sink sink' device device' steps steps' Well (Some (record { sizes = sizes; map = m })) lines)
  from-map lines stands whole = let stood = stands-sized m (d.bytes device) stands in (stood.0, (stood.1, whole (Some (record { sizes = stood.0; map = m })) stood.1))

  -- all lines were answered plainly, and the file stands for the last map
  plainly : (lines : List Line) → IsSomeAnd (d.bytes device) (λ bytes. FileStandsFor bytes m) → (Rose (d.counts device).faults (d.counts device').faults → ⊥) → CarriesAll h d cache cost sink sink' device device' steps steps' Well lines → AnsweredPlainly h d cost m sink sink' device device' lines
  plainly lines stands calm whole =
      let session = from-map lines stands whole in
      let all = session.1.1 in
      let runs = all.carried.runs in
      let over = all.carried.faults in
      let turns = all.turns ++ last_close all.answer ∷ [] in
      let none : faulted_steps turns ≡ 0 = by-count (faulted_steps turns) (d.counts device).faults (d.counts device').faults (faults-rise turns (d.counts device).faults (d.counts device').faults over) calm in
      let whole-count = faulted-append all.turns (last_close all.answer ∷ []) in
      record {
        sizes = session.0;
        stood = session.1.0;
        turns = all.turns;
        asks = runs.asks;
        last = runs.last;
        run = plain-run (shape session.0) (Open m) all.turns runs.last runs.run (omega (arith, none, whole-count));
        wrote = all.wrote;
        end = runs.end;
        close = (subst (λ (k : Kind). StepOf (shape session.0) runs.last (last_close all.answer) runs.end k) all.ends.0 runs.close).1;
        stands = runs.left;
      }

  -- without a fault of the device an opening was refused for want of memory
  no-memory : (why : OpenFault) → (why ≡ fault.OutOfMemory) ⊎ MetFault d device (device', why) → (Rose (d.counts device).faults (d.counts device').faults → ⊥) → why ≡ fault.OutOfMemory
  no-memory why (inl none) calm = none
  no-memory why (inr met) calm = absurd (calm met.1)

  pub completes : (status : ℕ) → FileEnds g h d cache cost source source' sink sink' device device' steps steps' status → NoneFails g h d m source source' sink sink' device device' → Completes g h d cache cost m source source' sink sink' device device' steps steps' status
  completes status ends sound = by-end (met-end g h source source' sink sink' _ _ _ status ends sound.nothing)
    where
      by-end : NotOpened g h d cache cost source source' sink sink' device device' steps steps' status
          ⊎ (((status ≡ 0) × ReadToEnd g h source source' sink sink' (CarriesAll h d cache cost sink sink' device device' steps steps' Well)) ⊎ ((status ≡ 5) × ReadToEnd g h source source' sink sink' (CarriesAll h d cache cost sink sink' device device' steps steps' Ill)))
          → Completes g h d cache cost m source source' sink sink' device device' steps steps' status
      by-end (inl refused) =
          OutOfMemory (refused.status_is ∙ ap refusal_status (no-memory refused.why (opens-to d cache device m (Err (device', refused.why)) sound.stands refused.refused) sound.device_answers)) refused
      by-end (inr (inl (is, all))) = Answered is (with-carried g h source source' sink sink' _ _ (λ lines. plainly lines sound.stands sound.device_answers) all)
      by-end (inr (inr (is, ill))) =
          let all = ill.carried None tt in
          let rose = faults-rise (all.turns ++ last_close all.answer ∷ []) (d.counts device).faults (d.counts device').faults all.carried.faults in
          let some = ill-counts all.turns all.answer all.ends in
          absurd (sound.device_answers (omega (arith, rose, some)))

  -- Reads and writes

  few-for : (reads : List Read) (lines : List Line) → lines ≡ all_lines (bytes_read reads) → length (bytes_read reads) < input_limit → IsSomeAnd (d.bytes device) (λ bytes. FileStandsFor bytes m) → (Rose (d.counts device).faults (d.counts device').faults → ⊥)
      → CarriesAll h d cache cost sink sink' device device' steps steps' Well lines → TransferredFew h d cost m sink sink' device device' cache lines
  few-for reads lines all fewer stands calm whole =
      let session = from-map lines stands whole in
      let one = session.1.1 in
      let runs = one.carried.runs in
      record {
        sizes = session.0;
        stood = session.1.0;
        turns = one.turns;
        asks = runs.asks;
        wrote = one.wrote;
        few = runs.few calm (turns-few (shape session.0) one.turns lines (bytes_read reads) input_limit runs.asks all fewer);
      }

  pub transfers-few : FileEnds g h d cache cost source source' sink sink' device device' steps steps' 0 → IsSomeAnd (d.bytes device) (λ bytes. FileStandsFor bytes m) → (Rose (d.counts device).faults (d.counts device').faults → ⊥)
      → ReadToEnd g h source source' sink sink' (TransferredFew h d cost m sink sink' device device' cache)
  transfers-few (NotBegun refused) stands calm =
      let none : refused.why ≡ fault.OutOfMemory = no-memory refused.why (opens-to d cache device m (Err (device', refused.why)) stands refused.refused) calm in
      let one : 0 ≡ 1 = refused.status_is ∙ ap refusal_status none in
      absurd (omega (arith, one))
  transfers-few (Status0 is ends) stands calm = record {
    reads = ends.reads;
    lines = ends.lines;
    all = ends.all;
    read = ends.read;
    met_the_end = ends.met_the_end;
    fewer = ends.fewer;
    carried = few-for ends.reads ends.lines ends.all ends.fewer stands calm ends.carried;
    source_faults = ends.source_faults;
    sink_faults = ends.sink_faults;
  }
  transfers-few (Status3 is ends) stands calm = absurd (omega (arith, is))
  transfers-few (Status4 is ends) stands calm = absurd (omega (arith, is))
  transfers-few (Status5 is ends) stands calm = absurd (omega (arith, is))
  transfers-few (Status9 is ends) stands calm = absurd (omega (arith, is))
