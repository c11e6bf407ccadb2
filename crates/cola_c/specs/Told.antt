-- What the calls by C tell of what an open store is.
use Rattle.std.specs.Prelude.{Option, Some, None}
use Rattle.cola_handle.specs.declared.answer.Answer.{Answer}
use Rattle.cola_handle.specs.declared.answer.Answer.TheVariants.{Done, Absent}

-- the answer of a call that finds something or nothing
abbrev pub has : {A : Type 0} → Option A → Answer
has (Some a) = Done
has None = Absent
