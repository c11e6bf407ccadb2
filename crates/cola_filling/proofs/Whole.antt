-- What follows from how a load ends.
use Rattle.std.proofs.Common.{◌≡◌, ◌⊎◌, inl, inr, ℕ, ◌<◌, List, [], ◌∷◌, ◌++◌, Option, Some, None, length, ap, ◌∙◌, subst, arith}
use Rattle.std.specs.Prelude.{IfSome, IsSomeAnd}
use Rattle.std.proofs.lemmas.List.{length-map}
use Rattle.cola_cell.specs.declared.format.Format.{Format}
use Rattle.cola_device.specs.declared.device.Device as device
use Rattle.cola_io.specs.declared.source.Source as source
use Rattle.cola_io.specs.declared.sink.Sink as sink
use Rattle.cola_io.specs.Counted.{after_fault}
use Rattle.cola_image.specs.Standing.{HeaderStandsFor}
use Rattle.cola_layout.specs.declared.geometry.Geometry.{Geometry}
use Rattle.cola_load.specs.declared.fault.LoadFault.{LoadFault}
use Rattle.cola_load.specs.declared.fault.LoadFault.TheVariants as load
use Rattle.cola_load.specs.Filled.{Row, filled_header, map_of}
use Rattle.cola_load.specs.declared.answer.Word.{Word}
use Rattle.cola_load.specs.Rows.{rows_of, word_of}
use Rattle.cola_load.specs.Grow.{IsFor}
use Rattle.cola_load.proofs.FilledLevels.{filled-stands}
use Rattle.cola_outside.specs.Faults.{Rose}
use Rattle.cola_report.specs.Line.{LineEnds}
use Rattle.cola_report.specs.Line.LineEnds.{WroteLine, WroteFront}
use Rattle.cola_session.specs.Ends.{ReadToEnd}
use Rattle.cola_spec.specs.Map.{Shape}
use Rattle.cola_shapes.specs.Shapes.{shape_of}
use Rattle.cola_filling.specs.Loads as loads
use Rattle.cola_filling.specs.Loads.{HaveNoWord, HasNotBegun, loaded_rows, loaded_line, load_status, LoadEndsBy, WasLoaded, IsFilledWith, StopsBefore, StandsForLines, CanBeLoaded}

told : (t : Option (List ℕ)) (bytes : List ℕ) (P : List ℕ → Type 0) → t ≡ Some bytes → IfSome t P → P bytes
told t bytes P is p = subst (λ (o : Option (List ℕ)). IfSome o P) is p

module _ {S K D : Type 0} (g : source.Ghosts S) (h : sink.Ghosts K) (d : device.Ghosts D) (keys block_exp : ℕ) (format : Format) (source source' : S) (sink sink' : K) (device device' : D) where
  module _ (geometry : Geometry) (is : IsFor keys block_exp format geometry) (bytes : List ℕ) (telling : d.bytes device' ≡ Some bytes) where
    loaded : WasLoaded g h d geometry source source' sink sink' device device' 0 → ReadToEnd g h source source' sink sink (StandsForLines keys block_exp format bytes)
    loaded was =
        let shape-there = shape_of geometry.format geometry.keys in
        let filled = told (d.bytes device') bytes (IsFilledWith geometry 0 was.rows) telling was.filled in
        let lines = was.read.lines in
        let same : was.rows ≡ loaded_rows shape-there lines = was.read.carried.1 in
        let many : length was.rows ≡ length (rows_of shape-there lines) = ap length same ∙ length-map (rows_of shape-there lines) _ in
        let stands : HeaderStandsFor (filled_header geometry 0 (length was.rows)) bytes (map_of 0 was.rows) = filled-stands geometry 0 was.rows bytes (omega arith) filled.are_rows filled.filled in
        let here : HeaderStandsFor (filled_header geometry 0 (length (rows_of shape-there lines))) bytes (map_of 0 (loaded_rows shape-there lines)) =
        subst (λ n. HeaderStandsFor (filled_header geometry 0 n) bytes (map_of 0 (loaded_rows shape-there lines))) many (subst (λ (r : List Row). HeaderStandsFor (filled_header geometry 0 (length was.rows)) bytes (map_of 0 r)) same stands) in
        record {
          reads = was.read.reads;
          lines = lines;
          all = was.read.all;
          read = was.read.read;
          met_the_end = was.read.met_the_end;
          fewer = was.read.fewer;
          carried = record {
            no_word = for-shape (λ s. HaveNoWord s lines) was.read.carried.0;
            geometry = geometry;
            is = is;
            stands = for-shape (λ s. HeaderStandsFor (filled_header geometry 0 (length (rows_of s lines))) bytes (map_of 0 (loaded_rows s lines))) here;
          };
          source_faults = was.read.source_faults;
          sink_faults = was.read.sink_faults;
        }
      where
        for-shape : (P : Shape → Type 0) → P (shape_of geometry.format geometry.keys) → P (shape_of format keys)
        for-shape P p = subst (λ n. P (shape_of format n)) is.keys_are (subst (λ f. P (shape_of f geometry.keys)) is.format_is p)

    not-begun : (fault : LoadFault) → 0 ≡ load_status fault → ⊥
    not-begun load.NotEmpty e = cc
    not-begun load.OutOfMemory e = cc
    not-begun load.Device e = cc

    stops-not : (between : D) → StopsBefore g h d (shape_of geometry.format geometry.keys) source source' sink sink' between device' 0 → ⊥
    stops-not between (loads.Status3 is why stopped) = cc
    stops-not between (loads.Status5 is why) = cc
    stops-not between (loads.Status9 is why stopped) = cc
    stops-not between (loads.AtWord at) = elim at.wrote [
      | WroteLine is wrote counted ↦ cc
      | WroteFront is k wrote counted ↦ cc
    ]

    pub ends-standing : LoadEndsBy g h d geometry source source' sink sink' device device' 0 → ReadToEnd g h source source' sink sink (StandsForLines keys block_exp format bytes)
    ends-standing (loads.NotBegun fault is begun) = absurd (not-begun fault is)
    ends-standing (loads.Stopped s) = absurd (stops-not s.between s.stops)
    ends-standing (loads.AtEnd is failed) = cc
    ends-standing (loads.Loaded was) = loaded was

  -- ---- completeness

  rose-one : (before now : ℕ) → now ≡ after_fault before → Rose before now
  rose-one before now is = omega (arith, is)

  module _ (geometry : Geometry) (is : IsFor keys block_exp format geometry) (status : ℕ) (can : CanBeLoaded g h d (shape_of format keys) source source' sink sink' device device') where
    for-shape-there : (P : Shape → Type 0) → P (shape_of geometry.format geometry.keys) → P (shape_of format keys)
    for-shape-there P p = subst (λ n. P (shape_of format n)) is.keys_are (subst (λ f. P (shape_of f geometry.keys)) is.format_is p)

    empty-not : (t : Option (List ℕ)) → IsSomeAnd t (λ bytes. length bytes ≡ 0) → IfSome t (λ bytes. 0 < length bytes) → ⊥
    empty-not None none some = none
    empty-not (Some bytes) none some = omega (arith, none, some)

    by-begin : (fault : LoadFault) → status ≡ load_status fault → HasNotBegun g h d geometry source source' sink sink' device device' fault → (status ≡ 0) ⊎ (status ≡ 1)
    by-begin load.NotEmpty e begun = absurd (empty-not (d.bytes device) can.was_empty begun.why.why_is)
    by-begin load.OutOfMemory e begun = inr e
    by-begin load.Device e begun = absurd (can.device_answers begun.why.cause)

    by-line : (text : List ℕ) → LineEnds h text 0 sink sink' status → (status ≡ 0) ⊎ (status ≡ 1)
    by-line text (WroteLine e wrote counted) = inl e
    by-line text (WroteFront e k wrote counted) = absurd (can.nothing_fails.sink_answers (rose-one (h.faults sink) (h.faults sink') counted))

    some-none : (word : Word) (found : Option Word) → found ≡ Some word → found ≡ None → ⊥
    some-none word found a b = cc

    by-stop : (between : D) → (d.counts between).faults ≡ (d.counts device).faults → StopsBefore g h d (shape_of geometry.format geometry.keys) source source' sink sink' between device' status → (status ≡ 0) ⊎ (status ≡ 1)
    by-stop between up (loads.Status3 e why stopped) = absurd (can.nothing_fails.source_answers (rose-one (g.faults source) (g.faults source') why.source_faults))
    by-stop between up (loads.Status5 e why) = absurd (can.device_answers (subst (λ (n : ℕ). Rose n (d.counts device').faults) up why.cause))
    by-stop between up (loads.Status9 e why stopped) = absurd (let few = can.nothing_fails.few why.lines why.reads why.read in omega (arith, few, why.all))
    by-stop between up (loads.AtWord at) =
        absurd (some-none at.word (word_of (shape_of format keys) (at.before ++ at.last ∷ []))
        (for-shape-there (λ s. word_of s (at.before ++ at.last ∷ []) ≡ Some at.word) at.word_is)
        (can.no_word (at.before ++ at.last ∷ []) at.reads at.read at.first))

    pub completes : LoadEndsBy g h d geometry source source' sink sink' device device' status → (status ≡ 0) ⊎ (status ≡ 1)
    completes (loads.NotBegun fault e begun) = by-begin fault e begun
    completes (loads.Stopped s) = by-stop s.between s.begun s.stops
    completes (loads.AtEnd e failed) = absurd (can.device_answers failed.cause)
    completes (loads.Loaded was) = by-line (loaded_line (length was.rows)) was.wrote
