-- A line that was written, in plain terms.
use Rattle.std.proofs.Common.{inl, inr, ℕ, List}
use Rattle.cola_io.specs.declared.sink.Sink as sink
use Rattle.cola_report.specs.Laws.{LineSays}
use Rattle.cola_report.specs.Line.{LineEnds}
use Rattle.cola_report.specs.Line.LineEnds.{WroteLine, WroteFront}

pub says : {K : Type 0} (k : sink.Ghosts K) (text : List ℕ) (success status : ℕ) (sink sink' : K) → LineEnds k text success sink sink' status → LineSays k sink sink' text success status
says k text success status sink sink' (WroteLine is wrote counted) = inl (is, (wrote, counted))
says k text success status sink sink' (WroteFront is n wrote counted) = inr (is, ((n, wrote), counted))
