-- What a read does to the bytes that a source has left, and a write to those that a sink holds, where they are told.
use Rattle.std.specs.Prelude.{◌≡◌, ℕ, List, ◌++◌, take, Option, Some, None, Result, Ok, Err, MatchResult}
use Rattle.cola_outside.specs.Told.{Both}

-- these bytes were the next ones left, and are left no more
abbrev pub Taken : List ℕ → Option (List ℕ) → Option (List ℕ) → Type 0
Taken bytes before after = Both before after (λ b a. b ≡ bytes ++ a)

-- these bytes were appended
abbrev pub Appended : List ℕ → Option (List ℕ) → Option (List ℕ) → Type 0
Appended bytes before after = Both before after (λ b a. a ≡ b ++ bytes)

-- a read took the bytes that it placed at the front of the buffer; where it failed it took none
abbrev pub ReadTakes : {E : Type 0} → Result ℕ E → List ℕ → Option (List ℕ) → Option (List ℕ) → Type 0
ReadTakes result into before after = MatchResult result (λ n. Taken (take n into) before after) (λ _. after ≡ before)

-- a write appended as many bytes of the front as it answers; where it failed it appended none
abbrev pub WriteAppends : {E : Type 0} → Result ℕ E → List ℕ → Option (List ℕ) → Option (List ℕ) → Type 0
WriteAppends result from before after = MatchResult result (λ n. Appended (take n from) before after) (λ _. after ≡ before)

-- what a read gave: the bytes that it placed at the front of the buffer, or none where it was refused
abbrev pub given : {E : Type 0} → Result ℕ E → List ℕ → Option (List ℕ)
given (Ok n) into = Some (take n into)
given (Err fault) into = None
