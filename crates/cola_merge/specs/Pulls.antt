-- What a merge reads for its heads, and what it gives of the cells that are ahead.
use Rattle.std.specs.Prelude.{◌≡◌, ℕ, ◌+◌, ◌<◌, ◌≤◌, ⊤, List, [], ◌∷◌, ◌++◌, length, drop, Option, Some, None, Result, Ok, Err, OnOk}
use Rattle.std.specs.List.Sorted.{IsStrictlySortedBy}
use Rattle.cola_runs.specs.Cells.{IsRising}
use Rattle.cola_runs.specs.Weave.{relinked, unlinked, IsCut}
use Rattle.cola_cell.specs.declared.cell.Cell.{Cell}
use Rattle.cola_cell.specs.declared.cell.Reader.{Reader}
use Rattle.cola_cell.specs.declared.format.Format.{Format}
use Rattle.cola_cell.specs.declared.fault.ReadFault.{ReadFault}
use Rattle.cola_cell.specs.Fault.{step_of_read}
use Rattle.cola_cell.specs.Format.{CellFits}
use Rattle.cola_cell.specs.Held.{Held, LawCell, as_cell}
use Rattle.cola_cell.specs.Spent.{Buffer, Spent, ReadCalm}
use Rattle.cola_cell.specs.Order.{key_cmp}
use Rattle.cola_merge.specs.declared.aims.Aim.{Aim}
use Rattle.cola_merge.specs.declared.rules.Choice.{Choice}
use Rattle.cola_merge.specs.declared.merging.Merger.{Merger}
use Rattle.cola_merge.specs.Feeds.{part_of, feed_cells, feed_keys}
use Rattle.cola_merge.specs.Heads.{head_of, consumed, HasHeads, IsUsedUp, AreFetched, missing, fetched, AreFeedsTold}
use Rattle.cola_merge.specs.Rules.{as_action, next_action, ChoiceSuits}
use Rattle.cola_merge.specs.States.{MergeState, Spends, IsBeside, StepCause, StepCalm, TurnsWithin}
use Rattle.cola_merge.specs.Advance.{cells_read}

-- ---- what is ahead

-- the cells of the three feeds are told and in order
pub record AreInOrder (held : Held) (aim : Aim) : Type 0 where
  pub feeds : AreFeedsTold held aim
  pub own_rises : IsRising key_cmp (feed_cells held aim.own)
  pub incoming_rises : IsRising key_cmp (feed_cells held aim.incoming)
  pub keys_rise : IsStrictlySortedBy key_cmp (feed_keys held aim.sample)

-- the cells that a merge has still to give: the weave of what is left of its sources, where the links count the consumed keys of the sample
abbrev pub ahead : Held → Aim → Merger → List LawCell
ahead held aim m = relinked m.sample.at
    (unlinked key_cmp (part_of aim) (drop m.own.at (feed_cells held aim.own)) (drop m.incoming.at (feed_cells held aim.incoming)) (drop m.sample.at (feed_keys held aim.sample)))

-- the cells are a cut of the aim's run at the cursors: they, followed by the weave of what is left, are the whole run
abbrev pub IsCutAt : Held → Aim → Merger → List LawCell → Type 0
IsCutAt held aim m done = IsCut key_cmp (part_of aim) (feed_cells held aim.own) (feed_cells held aim.incoming) (feed_keys held aim.sample)
    (drop m.own.at (feed_cells held aim.own)) (drop m.incoming.at (feed_cells held aim.incoming)) (drop m.sample.at (feed_keys held aim.sample)) done

-- the cell that was given is the first of those ahead, and the others are ahead then; none comes where none is ahead; a refusal leaves them
abbrev pub Gives : Held → Aim → Merger → Merger → Result (Option Cell) ReadFault → Type 0
Gives held aim m n (Ok (Some c)) = ahead held aim m ≡ as_cell c ∷ ahead held aim n
Gives held aim m n (Ok None) = ahead held aim m ≡ []
Gives held aim m n (Err fault) = ahead held aim n ≡ ahead held aim m

-- none comes only where each source cell was consumed
abbrev pub IsEndedBy : Aim → Merger → Result (Option Cell) ReadFault → Type 0
IsEndedBy aim n (Ok (Some c)) = ⊤
IsEndedBy aim n (Ok None) = IsUsedUp aim n
IsEndedBy aim n (Err fault) = ⊤

-- the cell that was given fits the format
abbrev pub FitsGiven : Format → Result (Option Cell) ReadFault → Type 0
FitsGiven format (Ok (Some c)) = CellFits format c
FitsGiven format (Ok None) = ⊤
FitsGiven format (Err fault) = ⊤

-- 1 where a cell was given
abbrev pub given_cells : Result (Option Cell) ReadFault → ℕ
given_cells (Ok (Some c)) = 1
given_cells (Ok None) = 0
given_cells (Err fault) = 0

-- why it was refused: the count of faults rose, or the cell that a feed reads next is bad
abbrev pub HasPullCause : Held → Aim → ℕ → Spent → Merger → ℕ → Result (Option Cell) ReadFault → Type 0
HasPullCause held aim before now n to (Ok given) = ⊤
HasPullCause held aim before now n to (Err fault) = StepCause aim before (record { held = held; spent = now; merger = n; steps = to }) (step_of_read fault)

-- one tick for each cell that was read of the feeds, and where it was refused one for that read, which is not the last that there is
abbrev pub IsFrugal : Aim → Merger → Merger → ℕ → ℕ → Result (Option Cell) ReadFault → Type 0
IsFrugal aim m n from to (Ok given) = to + fetched aim m ≤ from + fetched aim n
IsFrugal aim m n from to (Err fault) = (to + fetched aim m ≤ from + (fetched aim n + 1)) × (fetched aim n < cells_read aim)

-- what a call of `pull` leaves, from one state to another, by its answer
pub record Pulls (aim : Aim) (s t : MergeState) (result : Result (Option Cell) ReadFault) : Type 0 where
  -- it may be called again, and no cell changed
  pub cells_stay : t.held ≡ s.held
  pub heads : HasHeads s.held aim t.merger
  pub lasts : (buffer : Buffer) → IsBeside aim buffer → t.spent.lasts buffer ≡ s.spent.lasts buffer
  -- what it gave, and how far it went
  pub gives : AreInOrder s.held aim → Gives s.held aim s.merger t.merger result
  pub ends : IsEndedBy aim t.merger result
  pub fits : FitsGiven s.held.fixed.format result
  pub rises : (reader : Reader) → (head_of s.merger reader).at ≤ (head_of t.merger reader).at
  pub consumes : consumed s.merger + given_cells result ≤ consumed t.merger
  -- why it was refused
  pub cause : HasPullCause s.held aim s.spent.faults t.spent t.merger t.steps result
  pub calm : ReadCalm s.spent.faults t.spent.faults result
  -- what it cost
  pub ticks : IsFrugal aim s.merger t.merger s.steps t.steps result
  pub spends : Spends s.spent t.spent s.steps t.steps
  pub written : t.spent.written ≡ s.spent.written
  pub turned : OnOk result (TurnsWithin aim s t)

-- ---- how it goes there

-- heads were read, and no source cell was consumed
pub record Looks (aim : Aim) (s t : MergeState) : Type 0 where
  pub cells_stay : t.held ≡ s.held
  pub at_is : (reader : Reader) → (head_of t.merger reader).at ≡ (head_of s.merger reader).at
  pub heads : HasHeads s.held aim t.merger
  pub spends : Spends s.spent t.spent s.steps t.steps
  pub written_is : t.spent.written ≡ s.spent.written
  pub others_stay : (buffer : Buffer) → IsBeside aim buffer →
      t.spent.lasts buffer ≡ s.spent.lasts buffer

-- heads that were not held were read
pub record Looked (aim : Aim) (s t : MergeState) : Type 0 where
  pub looks : Looks aim s t
  pub ticks : t.steps + missing t.merger ≤ s.steps + missing s.merger
  pub reads : t.steps + fetched aim s.merger ≤ s.steps + fetched aim t.merger
  pub turned : TurnsWithin aim s t
  pub calm : t.spent.faults ≡ s.spent.faults

-- the read of a head was refused, maybe after others
pub record Unread (aim : Aim) (s t : MergeState) (fault : ReadFault) : Type 0 where
  pub looks : Looks aim s t
  pub ticks : t.steps + missing t.merger ≤ s.steps + missing s.merger + 1
  pub reads : t.steps + fetched aim s.merger ≤ s.steps + (fetched aim t.merger + 1)
  pub left : fetched aim t.merger < cells_read aim
  pub cause : StepCause aim s.spent.faults t (step_of_read fault)
  pub calm : StepCalm s.spent.faults t.spent.faults (step_of_read fault)

-- the rules were asked by the heads of all feeds that have cells left
pub record Chosen (aim : Aim) (s t : MergeState) (choice : Option Choice) : Type 0 where
  pub looked : Looked aim s t
  pub fetched : AreFetched aim t.merger
  pub asked : as_action t.merger choice ≡ next_action aim t.merger
  pub suits : ChoiceSuits t.merger choice

-- what the next step is to do, or why a head was not read
abbrev pub Next : Aim → MergeState → MergeState → Result (Option Choice) ReadFault → Type 0
Next aim s t (Ok choice) = Chosen aim s t choice
Next aim s t (Err fault) = Unread aim s t fault

-- source cells were consumed, and these cells given
pub record Gave (aim : Aim) (s t : MergeState) (given : List LawCell) : Type 0 where
  pub cells_stay : t.held ≡ s.held
  pub heads : HasHeads s.held aim t.merger
  pub rises : (reader : Reader) → (head_of s.merger reader).at ≤ (head_of t.merger reader).at
  pub consumes : consumed s.merger + length given ≤ consumed t.merger
  pub gives : AreInOrder s.held aim → ahead s.held aim s.merger ≡ given ++ ahead s.held aim t.merger
  pub spends : Spends s.spent t.spent s.steps t.steps
  pub written_is : t.spent.written ≡ s.spent.written
  pub others_stay : (buffer : Buffer) → IsBeside aim buffer →
      t.spent.lasts buffer ≡ s.spent.lasts buffer
  pub reads : t.steps + fetched aim s.merger ≤ s.steps + fetched aim t.merger
  pub turned : TurnsWithin aim s t
  pub calm : t.spent.faults ≡ s.spent.faults

-- source cells were consumed that give none, and a head was not read
pub record StopsAt (aim : Aim) (s t : MergeState) (fault : ReadFault) : Type 0 where
  pub between : MergeState
  pub gave : Gave aim s between []
  pub unread : Unread aim between t fault

-- one cell was given; or none was left; or a head was not read
abbrev pub Draws : Aim → MergeState → MergeState → Result (Option Cell) ReadFault → Type 0
Draws aim s t (Ok (Some c)) = Gave aim s t (as_cell c ∷ []) × CellFits s.held.fixed.format c
Draws aim s t (Ok None) = Gave aim s t [] × IsUsedUp aim t.merger
Draws aim s t (Err fault) = StopsAt aim s t fault

-- a call that gives the next cell
pub record Drawn (aim : Aim) (s t : MergeState) (result : Result (Option Cell) ReadFault) : Type 0 where
  pub draws : Draws aim s t result
