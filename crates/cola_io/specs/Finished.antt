-- What a buffer answers of a whole line.
use Rattle.std.specs.Prelude.{◌≡◌, ℕ, ◌<◌, ◌≤◌, List, [], ◌∷◌, ◌++◌, length, Option, Some, None}
use Rattle.cola_spec.specs.Lines.{line_limit, without_return}
use Rattle.cola_io.specs.Buffered.{Buffered, HasNoFeed}
use Rattle.cola_io.specs.declared.next.Next.{Next}
use Rattle.cola_io.specs.declared.next.Next.TheVariants.{Line, TooLong, End}

-- the answer to a line, with its text where it is not too long
abbrev pub Finished : List ℕ → Next → Option (List ℕ) → Type 0
Finished raw Line line = (length raw ≤ line_limit) × (line ≡ Some (without_return raw))
Finished raw TooLong line = (line_limit < length raw) × (line ≡ None)
Finished raw _ line = ⊥

-- the answer at the end of the source, to the last bytes
abbrev pub LastFinished : List ℕ → Next → Option (List ℕ) → Type 0
LastFinished [] next line = (next ≡ End) × (line ≡ None)
LastFinished (byte ∷ bytes) next line = Finished (byte ∷ bytes) next line

-- a whole line was cut off the front of the bytes
pub record CutOff (old : Buffered) (next : Next) (new : Buffered) : Type 0 where
  pub raw : List ℕ
  pub no_feed : HasNoFeed raw
  pub whole : old.begun ++ old.rest ≡ raw ++ 10 ∷ new.rest
  pub finished : Finished raw next new.line
  pub nothing_begun : new.begun ≡ []
