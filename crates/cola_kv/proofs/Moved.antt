-- What one call does to the numbers of a store: at most one step is counted, and what the device had counted at the opening stays.
use Rattle.std.proofs.Common.{◌≡◌, ◌∙◌, ℕ, ◌+◌, ◌≤◌, List, Option, Some, None, Result, Ok, Err, ap, arith}
use Rattle.cola_cell.specs.declared.cell.Item.{Item}
use Rattle.cola_cell.specs.declared.fault.ReadFault.{ReadFault}
use Rattle.cola_cell.specs.declared.fault.StepFault.{StepFault}
use Rattle.cola_cell.specs.Held.{Stamped}
use Rattle.cola_device.specs.declared.counts.Counts.{Counts}
use Rattle.cola_spec.specs.Map.{PutOutcome, New, Old, Full, Worn, Other}
use Rattle.cola_spec.specs.Reply.{Reply}
use Rattle.cola_store.specs.declared.account.Account.{Account}
use Rattle.cola_store.specs.Store.{Stored}
use Rattle.cola_store.specs.Calls.{Searches, Steps, Concludes, Removes, PutFollows, PutIfFollows, DeleteFollows, SearchesFirst}

pub record Moved {D : Type 0} (old new : Stored D) : Type 0 where
  pub steps : new.chain.accepted ≤ old.chain.accepted + 1
  pub opened : new.account.opened ≡ old.account.opened

-- a search counts no step
pub record Searched {D : Type 0} (old new : Stored D) : Type 0 where
  pub steps : new.chain.accepted ≡ old.chain.accepted
  pub opened : new.account.opened ≡ old.account.opened

module _ {D : Type 0} (bytes : D → Option (List ℕ)) (counts : D → Counts) where
  pub searched : (old new : Stored D) (key : List ℕ) (search : Result (Option Item) ReadFault) → Searches bytes counts old new key search → Searched old new
  searched old new key search s = record { steps = s.same.steps_are; opened = ap (λ (a : Account). a.opened) s.counted }

  same-moved : (old new : Stored D) → new ≡ old → Moved old new
  same-moved old new same =
      let e : new.chain.accepted ≡ old.chain.accepted = ap (λ (s : Stored D). s.chain.accepted) same in
      record { steps = omega (arith, e); opened = ap (λ (s : Stored D). s.account.opened) same }

  step-moved : (old new : Stored D) (key : List ℕ) (item : Item) (count last : ℕ) (step : Result (Unit {0}) StepFault) → Steps bytes counts old new key item count last step → Moved old new
  step-moved old new key item count last (Ok a) s = let e = s.counts_step.0 in record { steps = omega (arith, e); opened = ap (λ (a : Account). a.opened) s.by.account_is }
  step-moved old new key item count last (Err f) s = let e = s.counts_step.0 in record { steps = omega (arith, e); opened = ap (λ (a : Account). a.opened) s.by.account_is }

  concludes-moved : (o : PutOutcome) (old new : Stored D) (key value : List ℕ) (x : Option Stamped) (answer : Reply) → Concludes bytes counts o old new key value x answer → Moved old new
  concludes-moved New old new key value x answer w = step-moved old new key _ _ _ w.step w.steps
  concludes-moved (Old v) old new key value x answer w = step-moved old new key _ _ _ w.step w.steps
  concludes-moved Full old new key value x answer w = same-moved old new w.same
  concludes-moved Worn old new key value x answer w = same-moved old new w.same
  concludes-moved (Other n) old new key value x answer w = same-moved old new w.same

  removes-moved : (x : Option (List ℕ)) (old new : Stored D) (key : List ℕ) (answer : Reply) → Removes bytes counts old new key x answer → Moved old new
  removes-moved None old new key answer w = same-moved old new w.same
  removes-moved (Some v) old new key answer w = step-moved old new key _ _ _ w.step w.steps

  put-follows : (search : Result (Option Item) ReadFault) (old new : Stored D) (key value : List ℕ) (answer : Reply) → PutFollows bytes counts old new key value search answer → Moved old new
  put-follows (Ok found) old new key value answer w = concludes-moved _ old new key value _ answer w
  put-follows (Err fault) old new key value answer w = same-moved old new w.same

  put-if-follows : (search : Result (Option Item) ReadFault) (old new : Stored D) (key : List ℕ) (seen : ℕ) (value : List ℕ) (answer : Reply) → PutIfFollows bytes counts old new key seen value search answer → Moved old new
  put-if-follows (Ok found) old new key seen value answer w = concludes-moved _ old new key value _ answer w
  put-if-follows (Err fault) old new key seen value answer w = same-moved old new w.same

  delete-follows : (search : Result (Option Item) ReadFault) (old new : Stored D) (key : List ℕ) (answer : Reply) → DeleteFollows bytes counts old new key search answer → Moved old new
  delete-follows (Ok found) old new key answer w = removes-moved _ old new key answer w
  delete-follows (Err fault) old new key answer w = same-moved old new w.same

  after-search : (old mid new : Stored D) → Searched old mid → Moved mid new → Moved old new
  after-search old mid new s m = let e = s.steps in let f = m.steps in record { steps = omega (arith, e, f); opened = m.opened ∙ s.opened }

  pub put-moved : (old new : Stored D) (key value : List ℕ) (answer : Reply) → SearchesFirst bytes counts old new key (λ mid search. PutFollows bytes counts mid new key value search answer) → Moved old new
  put-moved old new key value answer a = after-search old a.mid new (searched old a.mid key a.search a.searches) (put-follows a.search a.mid new key value answer a.follows)

  pub put-if-moved : (old new : Stored D) (key : List ℕ) (seen : ℕ) (value : List ℕ) (answer : Reply) → SearchesFirst bytes counts old new key (λ mid search. PutIfFollows bytes counts mid new key seen value search answer) → Moved old new
  put-if-moved old new key seen value answer a = after-search old a.mid new (searched old a.mid key a.search a.searches) (put-if-follows a.search a.mid new key seen value answer a.follows)

  pub delete-moved : (old new : Stored D) (key : List ℕ) (answer : Reply) → SearchesFirst bytes counts old new key (λ mid search. DeleteFollows bytes counts mid new key search answer) → Moved old new
  delete-moved old new key answer a = after-search old a.mid new (searched old a.mid key a.search a.searches) (delete-follows a.search a.mid new key answer a.follows)
