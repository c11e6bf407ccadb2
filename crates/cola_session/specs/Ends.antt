-- How a session ends, over any home: its status, and what it read.
use Rattle.std.specs.Prelude.{ℕ, ◌≡◌, ◌≤◌, ◌<◌, true, false, List, [], ◌∷◌, ◌++◌, length, take, Option}
use Rattle.cola_outside.specs.Faults.{Rose}
use Rattle.cola_io.specs.Streams.{Appended}
use Rattle.cola_io.specs.Counted.{after_fault}
use Rattle.cola_io.specs.Reads.{Read, bytes_read, was_refused, met_end}
use Rattle.cola_io.specs.declared.source.Source as source
use Rattle.cola_io.specs.declared.sink.Sink as sink
use Rattle.cola_io.specs.Law.{all_lines, all_ended_lines}
use Rattle.cola_spec.specs.Lines.{Line}
use Rattle.cola_session.specs.Reading.{input_limit, ReadFor, AreFirstLines}

-- the source, the sink and the count of cell accesses are those before
pub record Untouched {S K : Type 0} (source source' : S) (sink sink' : K) (steps steps' : ℕ) : Type 0 where
  pub source_stays : source' ≡ source
  pub sink_stays : sink' ≡ sink
  pub steps_stay : steps' ≡ steps

-- some front of a text was written, of so many bytes at least
pub record WroteFront (text : List ℕ) (least : ℕ) (written written' : Option (List ℕ)) : Type 0 where
  pub size : ℕ
  pub least_is : least ≤ size
  pub wrote : Appended (take size text) written written'

-- how the home of a session is left: closed, with no opening behind which none succeeded; not so; or either way
pub data Ending : Type 0 where
  Well : Ending
  Ill : Ending
  Anyhow : Ending

-- no session ends ill, and all others so
abbrev pub UnlessIll : Ending → Type 0 → Type 0
UnlessIll Well A = A
UnlessIll Ill A = ⊥
UnlessIll Anyhow A = A

module _ {S K : Type 0} (g : source.Ghosts S) (h : sink.Ghosts K) (source source' : S) (sink sink' : K) where
  -- the end of the source was met, within the limit, and all lines were carried out
  pub record ReadToEnd (AreCarriedOut : List Line → Type 0) : Type 0 where
    pub reads : List Read
    pub lines : List Line
    pub all : lines ≡ all_lines (bytes_read reads)
    pub read : ReadFor g lines source reads source'
    pub met_the_end : met_end reads ≡ true
    pub fewer : length (bytes_read reads) < input_limit
    pub carried : AreCarriedOut lines
    pub source_faults : g.faults source' ≡ g.faults source
    pub sink_faults : h.faults sink' ≡ h.faults sink

  -- the last read was refused, within the limit, and every line that a line feed ends was carried out
  pub record SourceFailed (AreCarriedOut : List Line → Type 0) : Type 0 where
    pub reads : List Read
    pub lines : List Line
    pub ended : lines ≡ all_ended_lines (bytes_read reads)
    pub read : ReadFor g lines source reads source'
    pub refused : was_refused reads ≡ true
    pub fewer : length (bytes_read reads) < input_limit
    pub carried : AreCarriedOut lines
    pub source_faults : g.faults source' ≡ after_fault (g.faults source)
    pub sink_faults : h.faults sink' ≡ h.faults sink

  -- the sink failed within the reply to a line, which was carried out as all before it, and no read came after
  pub record SinkFailed (AreCarriedOut : List Line → Line → Type 0) : Type 0 where
    pub reads : List Read
    pub before : List Line
    pub last : Line
    pub first : AreFirstLines (before ++ last ∷ []) reads
    pub read : ReadFor g before source reads source'
    pub unrefused : was_refused reads ≡ false
    pub at_most : length (bytes_read reads) ≤ input_limit
    pub carried : AreCarriedOut before last
    pub source_faults : g.faults source' ≡ g.faults source
    pub sink_faults : h.faults sink' ≡ after_fault (h.faults sink)

  -- all the bytes that may be taken were taken, and every line that a line feed ends was carried out
  pub record Spent (AreCarriedOut : List Line → Type 0) : Type 0 where
    pub reads : List Read
    pub lines : List Line
    pub ended : lines ≡ all_ended_lines (bytes_read reads)
    pub read : ReadFor g lines source reads source'
    pub unrefused : was_refused reads ≡ false
    pub all : length (bytes_read reads) ≡ input_limit
    pub carried : AreCarriedOut lines
    pub source_faults : g.faults source' ≡ g.faults source
    pub sink_faults : h.faults sink' ≡ h.faults sink

  -- how a session ends, by its status: it did not begin; 0 or 5 where the end of the source was met, as the home is left; 3 where it failed; 4 where the sink did; and 9 where all bytes that may be taken were
  pub data SessionEnds (Refused : ℕ → Type 0) (Whole : Ending → List Line → Type 0) (Front : List Line → Line → Type 0) (status : ℕ) : Type 0 where
    NotBegun : Refused status → SessionEnds Refused Whole Front status
    Status0 : status ≡ 0 → ReadToEnd (Whole Well) → SessionEnds Refused Whole Front status
    Status3 : status ≡ 3 → SourceFailed (Whole Anyhow) → SessionEnds Refused Whole Front status
    Status4 : status ≡ 4 → SinkFailed Front → SessionEnds Refused Whole Front status
    Status5 : status ≡ 5 → ReadToEnd (Whole Ill) → SessionEnds Refused Whole Front status
    Status9 : status ≡ 9 → Spent (Whole Anyhow) → SessionEnds Refused Whole Front status

-- fewer bytes were read than may be taken, and neither the source nor the sink failed
pub record NothingFails {S K : Type 0} (g : source.Ghosts S) (h : sink.Ghosts K) (source source' : S) (sink sink' : K) : Type 0 where
  pub few : (answered : List Line) (reads : List Read) → ReadFor g answered source reads source' → length (bytes_read reads) < input_limit
  pub source_answers : Rose (g.faults source) (g.faults source') → ⊥
  pub sink_answers : Rose (h.faults sink) (h.faults sink') → ⊥
