-- The account of a chain of levels: what it has read and written, what it has still to read and to write in the windows
-- that are open, and what one mutation does. Levels are lists of marks, from the level behind level i on.
use Rattle.std.specs.Prelude.{◌≡◌, ◌≢◌, ℕ, suc, ◌+◌, ◌-◌, ◌%◌, ◌^◌, ◌≤◌, ◌<◌, min, nat_le, Bool, true, false, if◌then◌else◌, List, [], ◌∷◌, length, ⊤}
use Rattle.cola_clock.specs.Clock.{period, is_odd, works, flips, visible_slot}
use Rattle.cola_clock.specs.Marks.{Marks, consumed, sample_end}
use Rattle.cola_transfers.specs.Credit.{IsCovered, last_value}
use Rattle.cola_transfers.specs.Blocks.{slot_cells, block_cells, source_left, unwritten, IsWrittenDown}

-- for each reader the blocks that it holds: by the level and the slot that it reads, and by the number of the block there
pub record Readers : Type 0 where
  pub own : ℕ → ℕ → ℕ → Bool
  pub incoming : ℕ → ℕ → ℕ → Bool
  pub sample : ℕ → ℕ → ℕ → Bool

-- a chain's transfers: the blocks read and written, the blocks that its readers hold, and by level whether the shadow is kept
pub record Transfers : Type 0 where
  pub reads : ℕ
  pub writes : ℕ
  pub readers : Readers
  pub kept : ℕ → Bool

-- the slot of the level below from which level j samples: that of its visible run in an even period of level j, of its
-- shadow in an odd one
abbrev pub sampled_slot : ℕ → ℕ → ℕ
sampled_slot t j = if is_odd (period t j) then 1 - visible_slot t (suc j) else visible_slot t (suc j)

-- the blocks left of level j's sample of the levels below it, at a cursor
abbrev pub sample_left : (doublings : ℕ) → Readers → (t j : ℕ) → List Marks → ℕ → ℕ
sample_left doublings readers t j [] cursor = 0
sample_left doublings readers t j (m ∷ below) cursor =
    source_left (slot_cells (suc j)) (block_cells doublings) (2 ^ doublings) (readers.sample (suc j) (sampled_slot t j))
    (sample_end (is_odd (period t j)) (m ∷ below)) cursor

-- the blocks left of the merge of level i + 1, with the marks m, below a visible run of `above` cells
abbrev pub merge_left : (doublings : ℕ) → Readers → (t i above : ℕ) → Marks → List Marks → ℕ
merge_left doublings readers t i above m below =
    source_left (slot_cells (suc i)) (block_cells doublings) (block_cells doublings) (readers.own (suc i) (visible_slot t (suc i))) m.visible m.own
    + source_left (slot_cells i) (block_cells doublings) (block_cells doublings) (readers.incoming i (visible_slot t i)) above m.incoming
    + sample_left doublings readers t (suc i) below m.sampled

-- the blocks left of the merges of all levels that work at clock t, from level i + 1 on
abbrev pub reads_left : (doublings : ℕ) → Readers → (t i above : ℕ) → List Marks → ℕ
reads_left doublings readers t i above [] = 0
reads_left doublings readers t i above (m ∷ below) =
    (if works t (suc i) then merge_left doublings readers t i above m below else 0) + reads_left doublings readers t (suc i) m.visible below

-- whether the merge of level i + 1 has ended: all cells of its sources are consumed
abbrev pub has_ended : (t i above : ℕ) → Marks → List Marks → Bool
has_ended t i above m below = nat_le (m.visible + above + sample_end (is_odd (period t (suc i))) below) (consumed m)

-- the blocks that level i + 1 may still write
abbrev pub shadow_left : (doublings t i above : ℕ) → Marks → List Marks → ℕ
shadow_left doublings t i above m below = unwritten (slot_cells (suc i)) (block_cells doublings) m.shadow (has_ended t i above m below)

-- the blocks that all levels that work at clock t may still write, from level i + 1 on
abbrev pub writes_left : (doublings t i above : ℕ) → List Marks → ℕ
writes_left doublings t i above [] = 0
writes_left doublings t i above (m ∷ below) =
    (if works t (suc i) then shadow_left doublings t i above m below else 0) + writes_left doublings t (suc i) m.visible below

-- a shadow is kept where it ends with a whole block, as an empty one does; and where its level works and its merge has ended
pub record IsTidy (doublings : ℕ) (kept : ℕ → Bool) (t i above : ℕ) (m : Marks) (below : List Marks) : Type 0 where
  pub whole : m.shadow % block_cells doublings ≡ 0 → kept (suc i) ≡ true
  pub ended : works t (suc i) ≡ true → has_ended t i above m below ≡ true → kept (suc i) ≡ true

-- the same of each level from level i + 1 on
abbrev pub AreTidy : (doublings : ℕ) → (ℕ → Bool) → (t i above : ℕ) → List Marks → Type 0
AreTidy doublings kept t i above [] = ⊤
AreTidy doublings kept t i above (m ∷ below) =
    IsTidy doublings kept t i above m below × AreTidy doublings kept t (suc i) m.visible below

-- the account of a chain after so many mutations, at clock t: with what its open windows may still cost, its reads are
-- paid for at 14 cells a level, its writes at 4, and each shadow is tidy. `ahead` are the marks of the levels of 1 and more
pub record IsPaid (doublings mutations t above : ℕ) (ahead : List Marks) (s : Transfers) : Type 0 where
  pub reads : IsCovered 14 (block_cells doublings) mutations t (length ahead) (s.reads + reads_left doublings s.readers t 0 above ahead)
  pub writes : IsCovered 4 (block_cells doublings) mutations t (length ahead) (s.writes + writes_left doublings t 0 above ahead)
  pub tidy : AreTidy doublings s.kept t 0 above ahead

-- the work of level i + 1 leaves what the other levels' merges hold, and whether their shadows are kept: its own readers
-- hold blocks of the levels i, i + 1 and i + 2, and it may give up blocks of its own slots
pub record StaysBeside (i : ℕ) (old new : Transfers) : Type 0 where
  pub own : (l s n : ℕ) → l ≢ suc i → new.readers.own l s n ≡ old.readers.own l s n
  pub incoming : (l s n : ℕ) → l ≢ suc i → l ≢ i → new.readers.incoming l s n ≡ old.readers.incoming l s n
  pub sample : (l s n : ℕ) → l ≢ suc i → l ≢ suc (suc i) → new.readers.sample l s n ≡ old.readers.sample l s n
  pub kept : (l : ℕ) → l ≢ suc i → new.kept l ≡ old.kept l

-- what the work of level i + 1 does where it works: the marks m become n, each cell that is emitted was consumed, it reads
-- no block that was not left, and writes none that its shadow does not reach; no number falls
pub record IsLevelWorked (doublings t i above : ℕ) (m n : Marks) (below : List Marks) (old new : Transfers) : Type 0 where
  pub visible : n.visible ≡ m.visible
  pub goes_on : consumed m ≤ consumed n
  pub emits : n.shadow + consumed m ≤ m.shadow + consumed n
  pub reads_stay : old.reads ≤ new.reads
  pub writes_stay : old.writes ≤ new.writes
  pub reads : new.reads + merge_left doublings new.readers t i above n below ≤ old.reads + merge_left doublings old.readers t i above m below
  pub writes : IsWrittenDown (slot_cells (suc i)) (block_cells doublings) m.shadow n.shadow (has_ended t i above n below)
      (old.kept (suc i)) (new.kept (suc i)) old.writes new.writes
  pub beside : StaysBeside i old new

-- a level that rests stays as it was, and the chain's transfers with it
pub record IsLevelAtRest (m n : Marks) (old new : Transfers) : Type 0 where
  pub marks : n ≡ m
  pub transfers : new ≡ old

-- what one level's turn in a mutation does, where it works and where it rests
abbrev pub IsLevelsTurn : (doublings t i above : ℕ) → (m n : Marks) → List Marks → (old new : Transfers) → Bool → Type 0
IsLevelsTurn doublings t i above m n below old new true = IsLevelWorked doublings t i above m n below old new
IsLevelsTurn doublings t i above m n below old new false = IsLevelAtRest m n old new

-- each level from level i + 1 on has its turn, in order: the marks are those of the levels before and after
abbrev pub AreLevelsWorked : (doublings t i above : ℕ) → (levels worked : List Marks) → (old new : Transfers) → Type 0
AreLevelsWorked doublings t i above [] [] old new = new ≡ old
AreLevelsWorked doublings t i above [] (n ∷ under) old new = ⊥
AreLevelsWorked doublings t i above (m ∷ below) [] old new = ⊥
AreLevelsWorked doublings t i above (m ∷ below) (n ∷ under) old new =
    (next : Transfers) × IsLevelsTurn doublings t i above m n below old next (works t (suc i))
    × AreLevelsWorked doublings t (suc i) m.visible below under next new

-- level 0 is built whole, over levels that have had their turns: it reads at most the blocks of
-- its sample and writes none; no number falls
pub record IsTopBuilt (doublings t : ℕ) (worked : List Marks) (old new : Transfers) : Type 0 where
  pub reads_stay : old.reads ≤ new.reads
  pub writes_stay : old.writes ≤ new.writes
  pub reads : new.reads ≤ old.reads + sample_left doublings old.readers t 0 worked 0
  pub writes : new.writes ≤ old.writes
  pub own : (l s n : ℕ) → l ≢ 0 → new.readers.own l s n ≡ old.readers.own l s n
  pub incoming : (l s n : ℕ) → l ≢ 0 → new.readers.incoming l s n ≡ old.readers.incoming l s n
  pub sample : (l s n : ℕ) → l ≢ 0 → l ≢ 1 → new.readers.sample l s n ≡ old.readers.sample l s n
  pub kept : (l : ℕ) → l ≢ 0 → new.kept l ≡ old.kept l

-- the flips of the levels 0 to the lowest, at the end of a mutation, read and write nothing: the readers hold what they
-- held, the new, empty shadow of a level that flips is kept, and the others are kept where they were
pub record AreFlipped (t lowest : ℕ) (old new : Transfers) : Type 0 where
  pub reads : new.reads ≡ old.reads
  pub writes : new.writes ≡ old.writes
  pub readers : new.readers ≡ old.readers
  pub flipped : (l : ℕ) → l ≤ lowest → flips t l ≡ true → new.kept l ≡ true
  pub others : (l : ℕ) → l ≤ lowest → flips t l ≡ false → new.kept l ≡ old.kept l

-- what one accepted mutation at clock t does to a chain's transfers, over levels 1 and more with these marks before and
-- after their work: the levels have their turns, level 0 is built, and the levels flip
pub record IsMutated (doublings t above : ℕ) (ahead worked : List Marks) (old new : Transfers) : Type 0 where
  pub after_work : Transfers
  pub after_top : Transfers
  pub levels : AreLevelsWorked doublings t 0 above ahead worked old after_work
  pub top : IsTopBuilt doublings t worked after_work after_top
  pub flips : AreFlipped t (length ahead) after_top new

-- the same of a chain that counts its mutations, reads and writes by numbers which stop at the last value of 64 bits: its
-- account holds as long as none of the three stands there
abbrev pub IsPaidCounting : (doublings mutations t above : ℕ) → List Marks → Transfers → Type 0
IsPaidCounting doublings mutations t above ahead s =
    mutations < last_value → s.reads < last_value → s.writes < last_value → IsPaid doublings mutations t above ahead s

-- a chain's transfers as such numbers
abbrev pub counted : Transfers → Transfers
counted s = record { reads = min s.reads last_value; writes = min s.writes last_value; readers = s.readers; kept = s.kept }
