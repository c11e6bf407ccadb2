-- How a load ends, by its status, in plain terms.
use Rattle.std.proofs.Common.{◌≡◌, inl, inr, ℕ, ◌<◌, Option, Some, None, List, [], ◌∷◌, ◌++◌, length, subst, ◌∙◌, arith}
use Rattle.std.specs.Prelude.{IfSome, IsSomeAnd}
use Rattle.std.proofs.lemmas.Option.{IfSome_then}
use Rattle.cola_outside.specs.Faults.{Rose}
use Rattle.cola_shapes.specs.Shapes.{shape_of}
use Rattle.cola_device.specs.declared.device.Device as device
use Rattle.cola_io.specs.declared.sink.Sink as sink
use Rattle.cola_io.specs.declared.source.Source as source
use Rattle.cola_layout.specs.declared.geometry.Geometry.{Geometry}
use Rattle.cola_load.specs.declared.answer.Word.{Word}
use Rattle.cola_load.specs.declared.answer.Word.TheVariants.{Bad, Order, Full}
use Rattle.cola_load.specs.declared.fault.LoadFault.{LoadFault}
use Rattle.cola_load.specs.declared.fault.LoadFault.TheVariants as load
use Rattle.cola_load.specs.Rows.{word_of}
use Rattle.cola_report.specs.Line.{LineEnds}
use Rattle.cola_report.specs.Laws.{WroteWhole, WroteSome}
use Rattle.cola_report.specs.Line.LineEnds.{WroteLine, WroteFront}
use Rattle.cola_spec.specs.Lines.{Line}
use Rattle.cola_filling.specs.Loads as ends
use Rattle.cola_filling.specs.Loads.{HasNotBegun, HasStopped, StopsBefore, StoppedAtLine, WasLoaded, LoadEndsBy, load_status, loaded_line, word_line}
use Rattle.cola_filling.specs.LoadLaws as laws
use Rattle.cola_filling.specs.LoadLaws.{HasRows, WroteWord, StopsAtWord, LoadAnswers}

module _ {S K D : Type 0} (g : source.Ghosts S) (h : sink.Ghosts K) (d : device.Ghosts D) (geometry : Geometry) (source source' : S) (sink sink' : K) (device device' : D) (status : ℕ) where
  abbrev Answers : Type 0
  Answers = LoadAnswers g h d geometry source source' sink sink' device device' status

  not-begun : (fault : LoadFault) → status ≡ load_status fault → HasNotBegun g h d geometry source source' sink sink' device device' fault → Answers
  not-begun load.NotEmpty is n = laws.NotEmpty is (n.source_stays, (n.sink_stays, n.why.spends)) n.why.why_is n.why.bytes_stay n.why.no_fault
  not-begun load.OutOfMemory is n = laws.NoMemory is (n.source_stays, (n.sink_stays, n.why.spends)) n.why.why_is n.why.bytes_stay n.why.no_fault
  not-begun load.Device is n = laws.NotLaidOut is (n.source_stays, (n.sink_stays, n.spends)) n.why.cause (elim n.why.left [
    | inl stay ↦ inl stay
    | inr partly ↦ inr (partly.was_empty, partly.at_most)
  ])

  -- the line of a word, by the word
  word-written : (Wrote : List ℕ → Type 0) (lines : List Line) (word : Word) → word_of (shape_of geometry.format geometry.keys) lines ≡ Some word → Wrote (word_line word) →
      (number : ℕ) × WroteWord g h d geometry source source' sink sink' device device' Wrote lines number
  word-written Wrote lines (Bad number) is wrote = (number, inl (is, wrote))
  word-written Wrote lines (Order number) is wrote = (number, inr (inl (is, wrote)))
  word-written Wrote lines (Full number) is wrote = (number, inr (inr (is, wrote)))

  module _ (s : HasStopped g h d geometry source source' sink sink' device device' status) where
    calm : (d.counts device').faults ≡ (d.counts s.between).faults → (d.counts device').faults ≡ (d.counts device).faults
    calm e = e ∙ s.begun

    at-word : (Wrote : List ℕ → Type 0) (at : StoppedAtLine g h d (shape_of geometry.format geometry.keys) source source' sink sink' s.between device' status) → Wrote (word_line at.word) →
        StopsAtWord g h d geometry source source' sink sink' device device' Wrote
    at-word Wrote at wrote =
        let word = word-written Wrote (at.before ++ at.last ∷ []) at.word at.word_is wrote in
        (at.reads, (at.before, (at.last, (word.0, (at.first, (at.read, (at.unrefused, (at.source_faults, (at.no_word, word.1)))))))))

    by-line : (at : StoppedAtLine g h d (shape_of geometry.format geometry.keys) source source' sink sink' s.between device' status) → LineEnds h (word_line at.word) 14 sink sink' status → Answers
    by-line at (WroteLine is wrote counted) = laws.AtWord is (at-word (WroteWhole h sink sink') at (wrote, counted)) s.was_empty (calm at.no_fault) (at.no_header, s.spends.others_rise)
    by-line at (WroteFront is n wrote counted) = laws.SinkStopsAtWord is (at-word (WroteSome h sink sink') at ((n, wrote), counted)) s.was_empty (calm at.no_fault) (at.no_header, s.spends.others_rise)

    stopped : StopsBefore g h d (shape_of geometry.format geometry.keys) source source' sink sink' s.between device' status → Answers
    stopped (ends.Status3 is why at) = laws.SourceStops is why at.sink_stays s.was_empty (calm at.no_fault) (at.no_header, s.spends.others_rise)
    stopped (ends.Status5 is at) =
        laws.DeviceStops is (at.reads, (at.lines, (at.first, (at.read, (at.unrefused, (at.source_faults, at.no_word)))))) at.sink_stays s.was_empty
        (subst (λ (n : ℕ). Rose n (d.counts device').faults) s.begun at.cause) (at.no_header, s.spends.others_rise)
    stopped (ends.Status9 is why at) = laws.InputSpent is why at.sink_stays s.was_empty (calm at.no_fault) (at.no_header, s.spends.others_rise)
    stopped (ends.AtWord at) = by-line at at.wrote

  module _ (was : WasLoaded g h d geometry source source' sink sink' device device' status) where
    has-rows : HasRows g h d geometry source source' sink sink' device device' was.rows
    has-rows = (was.was_empty, (IfSome_then (d.bytes device') was.filled (λ bytes filled. (filled.are_rows, filled.filled)), (was.settled, (was.few_writes, was.no_fault))))

    loaded : LineEnds h (loaded_line (length was.rows)) 0 sink sink' status → Answers
    loaded (WroteLine is wrote counted) = laws.Loaded is was.rows was.read has-rows (wrote, counted)
    loaded (WroteFront is n wrote counted) = laws.SinkStops is was.rows was.read has-rows ((n, wrote), counted)

  pub answers : LoadEndsBy g h d geometry source source' sink sink' device device' status → Answers
  answers (ends.NotBegun fault is n) = not-begun fault is n
  answers (ends.Stopped s) = stopped s s.stops
  answers (ends.AtEnd is failed) = laws.NotFinished is failed.rows failed.read failed.sink_stays failed.was_empty failed.cause failed.left
  answers (ends.Loaded was) = loaded was was.wrote

-- ---- a file that had a byte

none-empty : (told : Option (List ℕ)) → IsSomeAnd told (λ bytes. 0 < length bytes) → IfSome told (λ bytes. length bytes ≡ 0) → ⊥
none-empty None some none = some
none-empty (Some bytes) some none = omega (arith, some, none)

module _ {S K D : Type 0} (g : source.Ghosts S) (h : sink.Ghosts K) (d : device.Ghosts D) (geometry : Geometry) (source source' : S) (sink sink' : K) (device device' : D) (status : ℕ) (some : IsSomeAnd (d.bytes device) (λ bytes. 0 < length bytes)) where
  not-empty : IfSome (d.bytes device) (λ bytes. length bytes ≡ 0) → d.bytes device' ≡ d.bytes device
  not-empty none = absurd (none-empty (d.bytes device) some none)

  stays-unbegun : (fault : LoadFault) → HasNotBegun g h d geometry source source' sink sink' device device' fault → d.bytes device' ≡ d.bytes device
  stays-unbegun load.NotEmpty n = n.why.bytes_stay
  stays-unbegun load.OutOfMemory n = n.why.bytes_stay
  stays-unbegun load.Device n = elim n.why.left [
    | inl stay ↦ stay
    | inr partly ↦ not-empty partly.was_empty
  ]

  pub stays : LoadEndsBy g h d geometry source source' sink sink' device device' status → d.bytes device' ≡ d.bytes device
  stays (ends.NotBegun fault is n) = stays-unbegun fault n
  stays (ends.Stopped s) = not-empty s.was_empty
  stays (ends.AtEnd is failed) = not-empty failed.was_empty
  stays (ends.Loaded was) = not-empty was.was_empty
