-- When levels on an object stand for a map, and what one mutation of them says.
use Rattle.std.specs.Prelude.{◌≡◌, ◌⊎◌, ℕ, suc, ◌-◌, ◌<◌, true, false, List, [], ◌∷◌, length, ⊤, Option, Result, Ok, Err}
use Rattle.cola_clock.specs.Clock.{works, is_over, visible_slot}
use Rattle.cola_clock.specs.Marks.{Marks, merge_steps, AreAllMarks, all_marks_after, no_marks}
use Rattle.cola_laws.specs.Plain.{IsSoundChain}
use Rattle.cola_cell.specs.declared.cell.Cell.{Cell}
use Rattle.cola_cell.specs.declared.cell.Cell.TheVariants as cell
use Rattle.cola_cell.specs.declared.cell.Item.{Item}
use Rattle.cola_cell.specs.declared.fault.StepFault.{StepFault}
use Rattle.cola_cell.specs.Held.{Held, Stamped, IsTelling}
use Rattle.cola_cell.specs.Order.{key_cmp}
use Rattle.cola_cell.specs.Places.{slot_size}
use Rattle.cola_cell.specs.Shadows.{Restarts}
use Rattle.cola_image.specs.Standing.{AreRunsTold}
use Rattle.cola_transfers.specs.Chain.{IsMutated}
use Rattle.cola_level.specs.declared.level.Level.{Level}
use Rattle.cola_level.specs.Marks.{marks_of, all_marks_of}
use Rattle.cola_level.specs.Standing.{all_stood}
use Rattle.cola_mutation.specs.Work.{WorkState, transfers, HaveTurned, HaveTaken, IsTopTaken, IsOneRefused, IsTopRefused, TakeTurns, with_shadow, build_aim, Builds}
use Rattle.cola_mutation.specs.Ends.{all_ended, Restarted}

-- levels on an object that tells its cells stand for a map at clock t, in a store for at most so many keys: their runs are told, a shadow whose window is over is on the device, and the levels are sound for the map
pub record StandsFor (held : Held) (most t : ℕ) (levels : List Level) (m : List ℕ → Option Stamped) : Type 0 where
  pub tells : IsTelling held
  pub told : AreRunsTold held.spots t 0 (all_marks_of levels)
  pub saved : (l : ℕ) → l < length levels → is_over t l ≡ true → (held.shadows l).saved ≡ true
  pub sound : IsSoundChain key_cmp most t m (all_stood held t 0 (all_marks_of levels))

-- the marks of the first level
abbrev pub first_marks : List Level → Marks
first_marks [] = no_marks
first_marks (l ∷ ls) = marks_of l

-- level 0 is built after the turns of the others, unless one of these was refused
abbrev pub ThenBuilds : {A : Type 0} → ℕ → Cell → WorkState → WorkState → Level → Level → List Level → Result A StepFault → Result A StepFault → Type 0
ThenBuilds t c mid u top built worked (Ok a) result = Builds t c mid u top built (first_marks worked) result
ThenBuilds t c mid u top built worked (Err fault) result = (u ≡ mid) × (built ≡ top) × (result ≡ Err fault)

-- the shadows of a mutation are built: the levels of 1 and more have their turns, and level 0 is built
pub record Prepares {A : Type 0} (t : ℕ) (c : Cell) (s u : WorkState) (top built : Level) (below worked : List Level) (result : Result A StepFault) : Type 0 where
  pub mid : WorkState
  pub first : Result A StepFault
  pub turns : TakeTurns t 0 top.visible s mid below worked first
  pub builds : ThenBuilds t c mid u top built worked first result

-- the same of a list of levels, of which the first is level 0
abbrev pub PreparesAll : {A : Type 0} → ℕ → Cell → WorkState → WorkState → List Level → List Level → Result A StepFault → Type 0
PreparesAll t c s u [] built result = ⊥
PreparesAll t c s u (top ∷ below) [] result = ⊥
PreparesAll t c s u (top ∷ below) (built ∷ worked) result = Prepares t c s u top built below worked result

-- a refused mutation leaves level 0 as it was, keeps each visible run, and gives back no source cell
abbrev pub KeepsProgress : ℕ → List Level → List Level → Type 0
KeepsProgress t [] [] = ⊤
KeepsProgress t [] (m ∷ ms) = ⊥
KeepsProgress t (l ∷ ls) [] = ⊥
KeepsProgress t (l ∷ ls) (m ∷ ms) = (m ≡ l) × HaveTurned t 0 ls ms

-- the cells in the slots that are visible at clock t stay, on so many levels
abbrev pub KeepsVisible : (t levels : ℕ) → (old new : Held) → Type 0
KeepsVisible t levels old new = (level index : ℕ) → level < levels → new.spots level (visible_slot t level) index ≡ old.spots level (visible_slot t level) index

-- the cell of a key that gets an item
abbrev pub new_cell : List ℕ → Item → Cell
new_cell key item = cell.Item key item false 0

-- the build of level 0 was refused, when each other level had had its whole turn
pub record IsBuildRefused (t : ℕ) (c : Cell) (s u : WorkState) (top : Level) (below worked : List Level) (fault : StepFault) : Type 0 where
  pub begun : Held
  pub turns : HaveTaken t 0 top.visible s.held begun below worked
  pub refused : IsTopRefused (build_aim t c top (first_marks worked)) s.spent.faults begun u fault

-- one of the levels was refused: one of 1 and more that works, or level 0
abbrev pub IsRefused : (t : ℕ) → Cell → (s u : WorkState) → (ls ms : List Level) → StepFault → Type 0
IsRefused t c s u [] ms fault = ⊥
IsRefused t c s u (top ∷ below) [] fault = ⊥
IsRefused t c s u (top ∷ below) (built ∷ worked) fault =
    IsOneRefused t 0 top.visible s.spent.faults s.held u below worked fault ⊎ IsBuildRefused t c s u top below worked fault

-- why a mutation at clock t that gives the key an item was refused, from one state and levels to others: the cause in the
-- object as it stood then, of which since then the shadow of level 0 was emptied
pub record HasRefusal (t : ℕ) (key : List ℕ) (item : Item) (s u : WorkState) (ls ms : List Level) (fault : StepFault) : Type 0 where
  pub at : Held
  pub restarts : Restarts at u.held 0 (1 - visible_slot t 0)
  pub refused : IsRefused t (new_cell key item) s (record u { held = at }) ls ms fault

-- a level of 1 and more, of so many levels, that works at clock t and whose shadow fills its slot
pub record IsFullLevel (t levels : ℕ) (held : Held) (level : ℕ) : Type 0 where
  pub level_in : level < levels
  pub works : works t level ≡ true
  pub full : (held.shadows level).len ≡ slot_size level

-- an accepted mutation left out no step, on any object, whatever its cells are: each level of 1 and more had its whole turn,
-- level 0 was built whole, and then levels flipped and a window ended
pub record TakesAll (t : ℕ) (c : Cell) (old new : Held) (top : Level) (below after : List Level) : Type 0 where
  pub worked : List Level
  pub mid : Held
  pub built : Held
  pub turns : HaveTaken t 0 top.visible old mid below worked
  pub whole : IsTopTaken (build_aim t c top (first_marks worked)) mid built
  pub restarted : Restarted t 0 (suc (length worked)) built new
  pub after_is : after ≡ all_ended t 0 (with_shadow top (built.shadows 0).len ∷ worked)

-- the same of a list of levels, of which the first is level 0
abbrev pub AllTake : (t : ℕ) → Cell → (old new : Held) → (ls after : List Level) → Type 0
AllTake t c old new [] after = ⊥
AllTake t c old new (top ∷ below) after = TakesAll t c old new top below after

-- an accepted mutation does to the transfers of the levels what the account of a chain says of one; `worked` are the marks of the levels of 1 and more before they flip
pub record Trades (t : ℕ) (s u : WorkState) (top : Level) (below after : List Level) : Type 0 where
  pub worked : List Marks
  pub marks : AreAllMarks merge_steps t 1 top.visible worked
  pub after_is : all_marks_of after ≡ all_marks_after t 1 worked
  pub mutated : IsMutated s.held.fixed.doublings t top.visible (all_marks_of below) worked
      (transfers s) (transfers u)

-- the same of a list of levels, of which the first is level 0
abbrev pub AllTrade : ℕ → WorkState → WorkState → List Level → List Level → Type 0
AllTrade t s u [] after = ⊥
AllTrade t s u (top ∷ below) [] = ⊥
AllTrade t s u (top ∷ below) (turned ∷ after) = Trades t s u top below after
