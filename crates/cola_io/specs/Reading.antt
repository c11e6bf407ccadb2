-- What a line reader stands at.
use Rattle.std.specs.Prelude.{ℕ, Bool, false, List, [], Option, None}

-- the bytes taken that no line has used yet, the text of the line just answered, whether the
-- end of the source was seen, and how many bytes may still be taken
pub record Reading : Type 0 where
  pub pending : List ℕ
  pub line : Option (List ℕ)
  pub ended : Bool
  pub allowed : ℕ

-- a line reader that may take so many bytes, and has taken none
abbrev pub fresh : ℕ → Reading
fresh limit = record { pending = []; line = None; ended = false; allowed = limit }
