-- How many blocks a session over a file may read and write: store by store, from each opening to the next.
use Rattle.std.specs.Prelude.{ℕ, ◌+◌, ◌-◌, ◌*◌, ◌^◌, ◌≤◌, Bool, true, false, List, [], ◌∷◌, sum_by, Option, Some, None, ⊤}
use Rattle.cola_device.specs.declared.counts.Counts.{Counts}
use Rattle.cola_spec.specs.Map as map
use Rattle.cola_spec.specs.Command.{Command, Range, Scan}
use Rattle.cola_spec.specs.Reply as reply
use Rattle.cola_spec.specs.Reply.{Reply}
use Rattle.cola_spec.specs.Machine.{Turn, by_command}
use Rattle.cola_transfers.specs.Credit.{parts}
use Rattle.cola_command.specs.File.{Sizes}

-- Turns

-- 1 where a mutation was accepted: a value was put, or a key taken out
abbrev pub mutated : Reply → ℕ
mutated (reply.Put map.New) = 1
mutated (reply.Put (map.Old value)) = 1
mutated (reply.Deleted (Some value)) = 1
mutated _ = 0

-- 1 where a key was searched: put, putif, del, get and stamp search one
abbrev pub searched : Reply → ℕ
searched (reply.Put outcome) = 1
searched (reply.Deleted value) = 1
searched (reply.Got value) = 1
searched (reply.Stamped stamp) = 1
searched _ = 0

-- 1 where there was no memory for an opening
abbrev pub short : Reply → ℕ
short (reply.Refused reply.Memory) = 1
short _ = 0

-- whether a file was opened
abbrev pub opens : Reply → Bool
opens (reply.Opened keys) = true
opens _ = false

-- how many of them there are
abbrev pub mutations : List Turn → ℕ
mutations [] = 0
mutations (turn ∷ turns) = mutated turn.answer + mutations turns

abbrev pub searches : List Turn → ℕ
searches [] = 0
searches (turn ∷ turns) = searched turn.answer + searches turns

abbrev pub shorts : List Turn → ℕ
shorts [] = 0
shorts (turn ∷ turns) = short turn.answer + shorts turns

-- the most reads of an opening that gave no store, in a file of so many levels that met no fault: one where there was no memory; where a cell was damaged, one for each level and 3; and no other comes
abbrev pub refusal_reads : ℕ → Reply → ℕ
refusal_reads depth (reply.Refused reply.Memory) = 1
refusal_reads depth (reply.Failed (reply.Damaged cell)) = depth + 3
refusal_reads depth _ = 0

-- those of a request: only `open` opens
abbrev pub request_reads : ℕ → Option Command → Reply → ℕ
request_reads depth None answer = 0
request_reads depth (Some command) answer = by_command command 0 (refusal_reads depth answer) 0

abbrev pub refused_reads : ℕ → List Turn → ℕ
refused_reads depth [] = 0
refused_reads depth (turn ∷ turns) = request_reads depth turn.request turn.answer + refused_reads depth turns

-- no range and no scan is asked
abbrev pub AsksNoRows : Option Command → Type 0
AsksNoRows (Some (Range low high)) = ⊥
AsksNoRows (Some (Scan low most)) = ⊥
AsksNoRows _ = ⊤

abbrev pub AskNoRows : List Turn → Type 0
AskNoRows [] = ⊤
AskNoRows (turn ∷ turns) = AsksNoRows turn.request × AskNoRows turns

-- Stores

-- a turn comes before these turns, by store
abbrev pub before_all : Turn → List (List Turn) → List (List Turn)
before_all turn [] = (turn ∷ []) ∷ []
before_all turn (first ∷ rest) = (turn ∷ first) ∷ rest

-- another store begins with these turns, or the one before goes on
abbrev pub begin_where : Bool → List (List Turn) → List (List Turn)
begin_where true stores = [] ∷ stores
begin_where false stores = stores

-- the turns of each store that was opened: those of the first, and those from each answer `open` on
abbrev pub by_store : List Turn → List (List Turn)
by_store [] = [] ∷ []
by_store (turn ∷ turns) = begin_where (opens turn.answer) (before_all turn (by_store turns))

module _ (sizes : Sizes) where
  -- the levels, the cells of a block and the blocks of a file
  abbrev pub levels : ℕ
  levels = sizes.bottom + 1

  abbrev pub block_cells : ℕ
  block_cells = 2 ^ sizes.block_exp

  abbrev pub file_blocks : ℕ
  file_blocks = 2 ^ (sizes.bottom + 4 - sizes.block_exp)

  -- the most writes of a store from its opening to its close, after so many mutations: 4 cells for each mutation and level, in whole blocks, each block of the file once, one for each level, and 4 more
  abbrev pub most_writes : ℕ → ℕ
  most_writes m = parts (4 * (m * levels)) block_cells + file_blocks + levels + 4

  -- its most reads, after so many mutations and searches: 14 cells for each mutation and level, in whole blocks, each block of the file four times, one for each search and level, one for each level, and 4 more
  abbrev pub most_reads : ℕ → ℕ → ℕ
  most_reads m s = parts (14 * (m * levels)) block_cells + 4 * file_blocks + levels * s + levels + 4

  -- its most reads where the cache has room for the file: each block of the file once, one for each level, and 4 more
  abbrev pub cached_reads : ℕ
  cached_reads = file_blocks + levels + 4

  -- the reads and writes of turns, behind a cache of so many blocks, are at most those of the stores, and a read more for each opening that found no memory
  pub record FewTransfers (cache : ℕ) (turns : List Turn) (before now : Counts) : Type 0 where
    pub writes : now.writes ≤ before.writes + sum_by (λ (store : List Turn). most_writes (mutations store)) (by_store turns)
    pub reads : AskNoRows turns → now.reads ≤ before.reads + sum_by (λ (store : List Turn). most_reads (mutations store) (searches store)) (by_store turns) + shorts turns
    pub reads_cached : file_blocks ≤ cache → now.reads ≤ before.reads + (sum_by (λ (store : List Turn). cached_reads) (by_store turns) + shorts turns)

  -- the reads of turns on any file of these sizes, where the cache has room for it, are at most those of the stores, and of the openings that gave none
  abbrev pub FewCachedReads : ℕ → List Turn → Counts → Counts → Type 0
  FewCachedReads cache turns before now = file_blocks ≤ cache → now.reads ≤ before.reads + (sum_by (λ (store : List Turn). cached_reads) (by_store turns) + refused_reads levels turns)
