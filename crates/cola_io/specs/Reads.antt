-- Reads of a source, one after another. They are listed from the latest back to the first.
use Rattle.std.specs.Prelude.{◌≡◌, ℕ, ◌-◌, ◌<◌, min, ⊤, Bool, false, nat_eq, List, [], ◌∷◌, ◌++◌, length, Option, Some, None, unwrap_or, is_none}
use Rattle.cola_io.specs.declared.source.Source.{Ghosts}

-- one read: how many bytes it asked for, and the bytes that it gave, or none where it was refused
pub record Read : Type 0 where
  pub asked : ℕ
  pub gave : Option (List ℕ)

-- all bytes that the reads gave
abbrev pub bytes_read : List Read → List ℕ
bytes_read [] = []
bytes_read (read ∷ earlier) = bytes_read earlier ++ unwrap_or read.gave []

-- the reads lead from one source to another
abbrev pub WasRead : {S : Type 0} → Ghosts S → S → List Read → S → Type 0
WasRead g before [] after = after ≡ before
WasRead {S} g before (read ∷ earlier) after = (between : S) × WasRead g before earlier between × g.reads between read.asked read.gave after

-- each of the reads gave some bytes
abbrev pub GaveSome : List Read → Type 0
GaveSome [] = ⊤
GaveSome (read ∷ earlier) = (0 < length (unwrap_or read.gave [])) × GaveSome earlier

-- a read behind these: each of them gave some bytes, more are wanted behind what they gave, and
-- it asks for 512 bytes, or for those that the limit still allows
pub record IsDue (Wanted : List ℕ → Type 0) (limit : ℕ) (earlier : List Read) (read : Read) : Type 0 where
  pub gave_some : GaveSome earlier
  pub wanted : Wanted (bytes_read earlier)
  pub allowed : length (bytes_read earlier) < limit
  pub asked : read.asked ≡ min 512 (limit - length (bytes_read earlier))

-- each of the reads was due behind those before it; so only the last one may have been refused, or have met the end
abbrev pub AreDue : (List ℕ → Type 0) → ℕ → List Read → Type 0
AreDue Wanted limit [] = ⊤
AreDue Wanted limit (read ∷ earlier) = IsDue Wanted limit earlier read × AreDue Wanted limit earlier

-- the last read was refused
abbrev pub was_refused : List Read → Bool
was_refused [] = false
was_refused (read ∷ earlier) = is_none read.gave

-- the bytes that a read gave are none: it met the end
abbrev pub is_end : Option (List ℕ) → Bool
is_end None = false
is_end (Some bytes) = nat_eq (length bytes) 0

-- the last read met the end
abbrev pub met_end : List Read → Bool
met_end [] = false
met_end (read ∷ earlier) = is_end read.gave
