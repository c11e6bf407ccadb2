-- A range as an iterator: what each call of `next` gives, and how many pairs may be left.
use Rattle.std.specs.Prelude.{◌≡◌, ℕ, ◌+◌, Bool, true, false, not, if◌then◌else◌, List, Option, Some, None, Result, Ok, Err}
use Rattle.cola_device.specs.declared.device.Device as device
use Rattle.cola_store.specs.Walks.{cells_ahead}
use Rattle.cola_kv.specs.declared.error.Error.{Error}
use Rattle.cola_kv.specs.declared.range.Range.{Range}
use Rattle.cola_kv.specs.Ranged.{Nexts}

-- an answer of the iterator as one of a step
abbrev pub stepped : {A : Type 0} → Option (Result A Error) → Result (Option A) Error
stepped None = Ok None
stepped (Some (Ok pair)) = Ok (Some pair)
stepped (Some (Err error)) = Err error

-- whether the range goes on after an answer: behind a pair alone
abbrev pub goes_on : {A : Type 0} → Option (Result A Error) → Bool
goes_on None = false
goes_on (Some (Ok pair)) = true
goes_on (Some (Err error)) = false

module _ {D : Type 0} (d : device.Ghosts D) where
  -- `next` makes a step, as long as no step before it answered none or was refused; then it answers none
  pub record Gives (old : Range D d) (answer : Option (Result (List ℕ × List ℕ) Error)) (new : Range D d) : Type 0 where
    pub same_reference : new.kv.ghost_name ≡ old.kv.ghost_name
    pub after_end : old.ended ≡ true → (answer ≡ None) × (new ≡ old)
    pub step : old.ended ≡ false → Nexts d old.kv.now new.kv.now old.walk new.walk (stepped answer)
    pub ends : old.ended ≡ false → goes_on answer ≡ not new.ended

  -- at most so many answers come before it answers none
  abbrev pub most_left : Range D d → ℕ
  most_left range = if range.ended then 0 else cells_ahead range.walk + 1
