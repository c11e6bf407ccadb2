-- How a session ends, with another account of its lines.
use Rattle.std.proofs.Common.{ℕ, List}
use Rattle.cola_io.specs.declared.source.Source as source
use Rattle.cola_io.specs.declared.sink.Sink as sink
use Rattle.cola_spec.specs.Lines.{Line}
use Rattle.cola_session.specs.Ends.{Ending, Well, Ill, Anyhow, ReadToEnd, SourceFailed, SinkFailed, Spent, SessionEnds, NotBegun, Status0, Status3, Status4, Status5, Status9}

module _ {S K : Type 0} (g : source.Ghosts S) (h : sink.Ghosts K) (source source' : S) (sink sink' : K) where
  module _ (B C : List Line → Type 0) (turn : (lines : List Line) → B lines → C lines) where
    pub with-carried : ReadToEnd g h source source' sink sink' B → ReadToEnd g h source source' sink sink' C
    with-carried r = record {
      reads = r.reads;
      lines = r.lines;
      all = r.all;
      read = r.read;
      met_the_end = r.met_the_end;
      fewer = r.fewer;
      carried = turn r.lines r.carried;
      source_faults = r.source_faults;
      sink_faults = r.sink_faults;
    }

    pub with-failed : SourceFailed g h source source' sink sink' B → SourceFailed g h source source' sink sink' C
    with-failed r = record {
      reads = r.reads;
      lines = r.lines;
      ended = r.ended;
      read = r.read;
      refused = r.refused;
      fewer = r.fewer;
      carried = turn r.lines r.carried;
      source_faults = r.source_faults;
      sink_faults = r.sink_faults;
    }

    pub with-spent : Spent g h source source' sink sink' B → Spent g h source source' sink sink' C
    with-spent r = record {
      reads = r.reads;
      lines = r.lines;
      ended = r.ended;
      read = r.read;
      unrefused = r.unrefused;
      all = r.all;
      carried = turn r.lines r.carried;
      source_faults = r.source_faults;
      sink_faults = r.sink_faults;
    }

  pub with-front : (B C : List Line → Line → Type 0) → ((before : List Line) (last : Line) → B before last → C before last) → SinkFailed g h source source' sink sink' B → SinkFailed g h source source' sink sink' C
  with-front B C turn r = record {
    reads = r.reads;
    before = r.before;
    last = r.last;
    first = r.first;
    read = r.read;
    unrefused = r.unrefused;
    at_most = r.at_most;
    carried = turn r.before r.last r.carried;
    source_faults = r.source_faults;
    sink_faults = r.sink_faults;
  }

  -- the same statuses
  pub ends-with : (R R' : ℕ → Type 0) (B C : Ending → List Line → Type 0) (F G : List Line → Line → Type 0) → ((n : ℕ) → R n → R' n) → ((ending : Ending) (lines : List Line) → B ending lines → C ending lines) → ((before : List Line) (last : Line) → F before last → G before last)
      → (status : ℕ) → SessionEnds g h source source' sink sink' R B F status → SessionEnds g h source source' sink sink' R' C G status
  ends-with R R' B C F G refused turn front status (NotBegun r) = NotBegun (refused status r)
  ends-with R R' B C F G refused turn front status (Status0 is r) = Status0 is (with-carried (B Well) (C Well) (turn Well) r)
  ends-with R R' B C F G refused turn front status (Status3 is r) = Status3 is (with-failed (B Anyhow) (C Anyhow) (turn Anyhow) r)
  ends-with R R' B C F G refused turn front status (Status4 is r) = Status4 is (with-front F G front r)
  ends-with R R' B C F G refused turn front status (Status5 is r) = Status5 is (with-carried (B Ill) (C Ill) (turn Ill) r)
  ends-with R R' B C F G refused turn front status (Status9 is r) = Status9 is (with-spent (B Anyhow) (C Anyhow) (turn Anyhow) r)
