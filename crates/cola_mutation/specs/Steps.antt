-- What one mutation says by its answer.
use Rattle.std.specs.Prelude.{◌≡◌, ℕ, ◌+◌, ◌*◌, ◌/◌, ◌^◌, ◌≤◌, List, length, Option, Result, IfOk, IfErr, OnOk, OnErr, MatchResult}
use Rattle.cola_laws.specs.Chain.{updated}
use Rattle.cola_laws.specs.Plain.{next_clock}
use Rattle.cola_laws.specs.Sound.{HasAtMost}
use Rattle.cola_cell.specs.declared.cell.Item.{Item}
use Rattle.cola_cell.specs.declared.fault.StepFault.{StepFault}
use Rattle.cola_cell.specs.Held.{Held, Stamped, as_item}
use Rattle.cola_cell.specs.Order.{key_cmp}
use Rattle.cola_level.specs.declared.level.Level.{Level}
use Rattle.cola_level.specs.Work.{IsCalm, IsDevice}
use Rattle.cola_mutation.specs.Levels.{IsChain}
use Rattle.cola_mutation.specs.Work.{WorkState, Costs}
use Rattle.cola_mutation.specs.Standing.{StandsFor, KeepsProgress, KeepsVisible, new_cell, HasRefusal, AllTake, AllTrade}

-- a map for which levels stand, in a store for as many keys as they have room for
pub record IsMapOf (held : Held) (most t : ℕ) (levels : List Level) (m : List ℕ → Option Stamped) : Type 0 where
  pub stands : StandsFor held most t levels m
  pub room : most ≤ 2 ^ (length levels + 1)

-- the map after key k got this item
abbrev pub with_item : List ℕ → Item → (List ℕ → Option Stamped) → List ℕ → Option Stamped
with_item key item m = updated key_cmp key (as_item item) m

-- levels that stood for a map stand, at the next clock, for the map with the key's item, where that has at most as many keys as the store is for
abbrev pub ChangesMap : Held → Held → ℕ → ℕ → List ℕ → Item → List Level → List Level → Type 0
ChangesMap old new t next key item levels after =
    (most : ℕ) (m : List ℕ → Option Stamped) → IsMapOf old most t levels m → HasAtMost key_cmp most (with_item key item m) → StandsFor new most next after (with_item key item m)

-- levels that stood for a map stand for it at the same clock
abbrev pub KeepsMap : Held → Held → ℕ → List Level → List Level → Type 0
KeepsMap old new t levels after = (most : ℕ) (m : List ℕ → Option Stamped) → IsMapOf old most t levels m → StandsFor new most t after m

-- the ticks of one mutation over so many levels, at most: 9 for level 0, and 59 for each level of 1 and more that works, of which there are half as many as levels
abbrev pub step_ticks : ℕ → ℕ
step_ticks levels = 9 + 59 * (levels / 2)

-- one mutation at clock t that gives the key an item, from one state and levels to others, by its answer
pub record Mutates (t : ℕ) (key : List ℕ) (item : Item) (s u : WorkState) (ls ms : List Level) (result : Result ℕ StepFault) : Type 0 where
  -- the levels may be called to again
  pub chain : MatchResult result (λ next. IsChain u.held next ms) (λ fault. IsChain u.held t ms)
  pub fixed : u.held.fixed ≡ s.held.fixed
  pub counted : length ms ≡ length ls
  pub clock : IfOk result (λ next. next ≡ next_clock (length ls) t)
  pub progress : OnErr result (KeepsProgress t ls ms)
  pub visible : OnErr result (KeepsVisible t (length ls) s.held u.held)
  -- what it means
  pub changes : IfOk result (λ next. ChangesMap s.held u.held t next key item ls ms)
  pub keeps : OnErr result (KeepsMap s.held u.held t ls ms)
  pub takes : OnOk result (AllTake t (new_cell key item) s.held u.held ls ms)
  -- why it was refused
  pub only : (most : ℕ) (m : List ℕ → Option Stamped) → IsMapOf s.held most t ls m → IfErr result IsDevice
  pub cause : IfErr result (HasRefusal t key item s u ls ms)
  pub calm : IsCalm s.spent.faults u.spent.faults result
  -- what it cost
  pub costs : Costs s u (step_ticks (length ls)) (length ls / 2)
  pub transfers : u.spent.turned + u.spent.written ≤ s.spent.turned + s.spent.written + (9 + 60 * (length ls / 2))
  pub trades : OnOk result (AllTrade t s u ls ms)
