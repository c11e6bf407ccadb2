-- How a mode ends that writes one line, said once more in plain terms.
use Rattle.std.specs.Prelude.{◌≡◌, ◌⊎◌, ℕ, List, take}
use Rattle.cola_io.specs.Counted.{after_fault}
use Rattle.cola_io.specs.Streams.{Appended}
use Rattle.cola_io.specs.declared.sink.Sink as sink

module _ {K : Type 0} (k : sink.Ghosts K) (sink sink' : K) where
  -- a text was written whole, and the sink met no fault
  abbrev pub WroteWhole : List ℕ → Type 0
  WroteWhole text = Appended text (k.written sink) (k.written sink') × (k.faults sink' ≡ k.faults sink)

  -- some front of it was written, and the sink met a fault
  abbrev pub WroteSome : List ℕ → Type 0
  WroteSome text = ((n : ℕ) × Appended (take n text) (k.written sink) (k.written sink')) × (k.faults sink' ≡ after_fault (k.faults sink))

  -- the one with this status, or the other with 4
  abbrev pub LineSays : List ℕ → ℕ → ℕ → Type 0
  LineSays text success status = ((status ≡ success) × WroteWhole text) ⊎ ((status ≡ 4) × WroteSome text)
