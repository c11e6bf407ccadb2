-- How a mode ends that writes one line.
use Rattle.std.specs.Prelude.{◌≡◌, ℕ, List, take}
use Rattle.cola_io.specs.Streams.{Appended}
use Rattle.cola_io.specs.Counted.{after_fault}
use Rattle.cola_io.specs.declared.sink.Sink as sink

-- a line was written: this status where it was written whole, and 4 where the sink failed, and some front of it was written
pub data LineEnds {K : Type 0} (k : sink.Ghosts K) (text : List ℕ) (success : ℕ) (sink sink' : K) (status : ℕ) : Type 0 where
  WroteLine : status ≡ success → Appended text (k.written sink) (k.written sink') → k.faults sink' ≡ k.faults sink → LineEnds k text success sink sink' status
  WroteFront : status ≡ 4 → (n : ℕ) → Appended (take n text) (k.written sink) (k.written sink') → k.faults sink' ≡ after_fault (k.faults sink) → LineEnds k text success sink sink' status
