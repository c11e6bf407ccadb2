-- What a call of a line reader's `next_line` answers, over the bytes pending before it and those that it took.
use Rattle.std.specs.Prelude.{◌≡◌, ◌≢◌, ℕ, ◌+◌, ◌<◌, ◌≤◌, ◌⊎◌, Bool, true, false, ◌||◌, nat_eq, List, [], ◌∷◌, ◌++◌, length, Some, None}
use Rattle.std.specs.List.{list_any}
use Rattle.cola_spec.specs.Lines.{is_line_feed, line_limit, without_return}
use Rattle.cola_io.specs.Reading.{Reading}
use Rattle.cola_io.specs.Buffered.{HasNoFeed, kept_part}
use Rattle.cola_io.specs.declared.next.Next.{Next}
use Rattle.cola_io.specs.declared.next.Next.TheVariants.{Line, TooLong, End, Fault, Budget}

-- `raw` is the first line of the bytes, up to its line feed, and what is behind that is pending
pub record FedLine (bytes raw : List ℕ) (now : Reading) : Type 0 where
  pub no_feed : HasNoFeed raw
  pub whole : bytes ≡ raw ++ 10 ∷ now.pending
  pub going : now.ended ≡ false

-- `raw` is all of the bytes, and a line since the end of the source was seen
pub record LastLine (bytes raw : List ℕ) (now : Reading) : Type 0 where
  pub no_feed : HasNoFeed raw
  pub whole : bytes ≡ raw
  pub some : raw ≢ []
  pub nothing_left : now.pending ≡ []
  pub at_end : now.ended ≡ true

-- `raw` is the first line of the bytes
abbrev pub FirstLine : List ℕ → List ℕ → Reading → Type 0
FirstLine bytes raw now = FedLine bytes raw now ⊎ LastLine bytes raw now

-- the bytes hold no whole line, and are kept as the beginning of one
pub record Waits (bytes : List ℕ) (now : Reading) : Type 0 where
  pub no_feed : HasNoFeed bytes
  pub kept : now.pending ≡ kept_part bytes
  pub going : now.ended ≡ false
  pub no_line : now.line ≡ None

-- no byte is left, and the end of the source was seen
pub record Nothing (bytes : List ℕ) (now : Reading) : Type 0 where
  pub none : bytes ≡ []
  pub nothing_left : now.pending ≡ []
  pub at_end : now.ended ≡ true
  pub no_line : now.line ≡ None

-- what each answer says of the bytes that were pending, with those taken behind them
abbrev pub Answers : List ℕ → Next → Reading → Type 0
Answers bytes Line now = (raw : List ℕ) × FirstLine bytes raw now × (length raw ≤ line_limit) × (now.line ≡ Some (without_return raw))
Answers bytes TooLong now = (raw : List ℕ) × FirstLine bytes raw now × (line_limit < length raw) × (now.line ≡ None)
Answers bytes End now = Nothing bytes now
Answers bytes Fault now = Waits bytes now × (0 < now.allowed)
Answers bytes Budget now = Waits bytes now × (now.allowed ≡ 0)

-- the next answer needs no further byte: a whole line is pending, the end was seen, or no byte is allowed any more
abbrev pub is_settled : Reading → Bool
is_settled r = list_any is_line_feed r.pending || r.ended || nat_eq r.allowed 0

-- a call that took these bytes of the source
pub record NextLine (old : Reading) (took : List ℕ) (answer : Next) (new : Reading) : Type 0 where
  pub counted : new.allowed + length took ≡ old.allowed
  pub settled : is_settled old ≡ true → took ≡ []
  pub stays_ended : old.ended ≡ true → new.ended ≡ true
  pub ended_within : new.ended ≡ true → 0 < new.allowed
  pub answered : Answers (old.pending ++ took) answer new
