-- What a tally counts: turns of a session, each a command with its reply and its cell accesses.
use Rattle.std.specs.Prelude.{ℕ, zero, suc, ◌+◌, ◌≡◌, ◌≤◌, ◌<◌, Bool, true, false, not, nat_lt, bytes_eq, if◌then◌else◌, List, [], ◌∷◌, length, Option, Some, None}
use Rattle.cola_spec.specs.Map.{New, Old, Full, Worn, Map, value_of}
use Rattle.cola_spec.specs.Command.{Command, Put, Del, Get}
use Rattle.cola_spec.specs.Reply.{Reply, Deleted, Got, Failed}
use Rattle.cola_spec.specs.Reply as reply
use Rattle.cola_spec.specs.Machine.{Turn}
use Rattle.cola_spec.specs.Bounds.{request_bound}
use Rattle.cola_gen.specs.declared.Tally.{Tally}
use Rattle.cola_gen.specs.Keys.{key_text, expected, evens}

-- a put that made a new key
abbrev pub is_new : Reply → Bool
is_new (reply.Put New) = true
is_new _ = false

-- a delete that found its key
abbrev pub is_found : Reply → Bool
is_found (Deleted (Some value)) = true
is_found _ = false

-- two answers to a get are the same
abbrev pub same : Option (List ℕ) → Option (List ℕ) → Bool
same None None = true
same (Some a) (Some b) = bytes_eq a b
same _ _ = false

-- a get whose answer is not the one expected at this place
abbrev pub is_wrong : ℕ → Reply → Bool
is_wrong place (Got value) = not (same value (expected place))
is_wrong place _ = false

-- more cell accesses than a store of so many levels may make for the request
abbrev pub is_over : ℕ → Turn → Bool
is_over levels turn = nat_lt (request_bound levels turn.request) turn.ticks

-- the reply accepts the command: a put that made a key or replaced a value, and any answer to a delete or a get
abbrev pub accepts : Reply → Command → Bool
accepts (reply.Put New) (Put key value) = true
accepts (reply.Put (Old value)) (Put key value') = true
accepts (Deleted value) (Del key) = true
accepts (Got value) (Get key) = true
accepts _ _ = false

-- the reply refuses the command: full and worn refuse a put alone
abbrev pub refuses : Reply → Command → Bool
refuses (Failed failure) command = true
refuses (reply.Put Full) (Put key value) = true
refuses (reply.Put Worn) (Put key value) = true
refuses _ _ = false

-- 1 where a test holds
abbrev pub one : Bool → ℕ
one holds = if holds then 1 else 0

-- how many turns pass a test that is told the turn's place; the newest turn stands first, and
-- has as its place the number of those before it
abbrev pub counted : (ℕ → Turn → Bool) → List Turn → ℕ
counted test [] = 0
counted test (turn ∷ turns) = one (test (length turns) turn) + counted test turns

-- each number of a tally rises by the number of turns that it counts
pub record Tallied (levels : ℕ) (turns : List Turn) (old new : Tally) : Type 0 where
  pub fresh : new.fresh ≡ old.fresh + counted (λ place turn. is_new turn.answer) turns
  pub gone : new.gone ≡ old.gone + counted (λ place turn. is_found turn.answer) turns
  pub wrong : new.wrong ≡ old.wrong + counted (λ place turn. is_wrong place turn.answer) turns
  pub over : new.over ≡ old.over + counted (λ place turn. is_over levels turn) turns

-- each number of a tally rises by one where the turn of this place is one that it counts
pub record TalliedOne (levels place : ℕ) (turn : Turn) (old new : Tally) : Type 0 where
  pub fresh : new.fresh ≡ old.fresh + one (is_new turn.answer)
  pub gone : new.gone ≡ old.gone + one (is_found turn.answer)
  pub wrong : new.wrong ≡ old.wrong + one (is_wrong place turn.answer)
  pub over : new.over ≡ old.over + one (is_over levels turn)

-- each number of a tally rises by at most so much, and none falls
pub record RisesBy (fresh gone wrong over : ℕ) (old new : Tally) : Type 0 where
  pub fresh_kept : old.fresh ≤ new.fresh
  pub fresh_within : new.fresh ≤ old.fresh + fresh
  pub gone_kept : old.gone ≤ new.gone
  pub gone_within : new.gone ≤ old.gone + gone
  pub wrong_kept : old.wrong ≤ new.wrong
  pub wrong_within : new.wrong ≤ old.wrong + wrong
  pub over_kept : old.over ≤ new.over
  pub over_within : new.over ≤ old.over + over

-- each put made a new key and each delete found its own
pub record TalliedAll (number : ℕ) (old new : Tally) : Type 0 where
  pub fresh : new.fresh ≡ old.fresh + number
  pub gone : new.gone ≡ old.gone + evens number

-- each number of a tally can rise by one
pub record HasOneMore (tally : Tally) : Type 0 where
  pub fresh : tally.fresh < 18446744073709551615
  pub gone : tally.gone < 18446744073709551615
  pub wrong : tally.wrong < 18446744073709551615
  pub over : tally.over < 18446744073709551615

-- each number of a tally was below 2^63 so many turns ago
pub record HasCounted (turns : ℕ) (tally : Tally) : Type 0 where
  pub fresh : tally.fresh < 9223372036854775808 + turns
  pub gone : tally.gone < 9223372036854775808 + turns
  pub wrong : tally.wrong < 9223372036854775808 + turns
  pub over : tally.over < 9223372036854775808 + turns

-- at how many places below a number a map has another answer than the expected one
abbrev pub wrong_in : Map → ℕ → ℕ
wrong_in m zero = 0
wrong_in m (suc place) = one (not (same (value_of m (key_text place)) (expected place))) + wrong_in m place
