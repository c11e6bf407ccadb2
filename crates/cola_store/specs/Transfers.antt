-- How many reads and writes a store makes at most from its opening on.
use Rattle.std.specs.Prelude.{◌≡◌, ℕ, ◌+◌, ◌*◌, ◌^◌, ◌≤◌, ◌<◌, true}
use Rattle.cola_device.specs.declared.counts.Counts.{Counts}
use Rattle.cola_run.specs.Cells.{block_cells, file_blocks}
use Rattle.cola_transfers.specs.Credit.{parts, last_value}
use Rattle.cola_store.specs.Store.{Stored, spent_of, faults_of, geometry_of, levels_of, cache_in}

-- a store counts: no step was refused since its opening, and no number stands at the last value of 64 bits
pub record IsCounting {D : Type 0} (store : Stored D) : Type 0 where
  pub calm : store.account.calm ≡ true
  pub steps_few : store.chain.accepted < last_value
  pub searches_few : store.account.searches < last_value
  pub reads_few : store.chain.reads < last_value
  pub writes_few : store.chain.writes < last_value

-- the blocks of its file
abbrev pub blocks_of : {D : Type 0} → Stored D → ℕ
blocks_of store = file_blocks (geometry_of store)

-- so many cells for each step and level, in whole blocks
abbrev pub cells_in_blocks : {D : Type 0} → ℕ → Stored D → ℕ
cells_in_blocks rate store = parts (rate * (store.chain.accepted * levels_of store)) (block_cells (geometry_of store))

module _ {D : Type 0} (counts : D → Counts) where
  -- the writes since the opening: 4 cells for each step and level, each block of the file once, and the mark that the file is in use
  abbrev pub WritesFew : Stored D → Type 0
  WritesFew store =
      (spent_of counts store).written ≤ store.account.opened.writes + (cells_in_blocks 4 store + blocks_of store + 1)

  -- the reads since the opening: 14 cells for each step and level, each block of the file four times, one for each search and level, and those of the opening
  abbrev pub ReadsFew : Stored D → Type 0
  ReadsFew store =
      (spent_of counts store).turned ≤ store.account.opened.reads
      + (cells_in_blocks 14 store + 4 * blocks_of store + levels_of store * store.account.searches + (levels_of store + 3))

  -- the reads since the opening where the cache has room for every block of the file and no fault was met: each block once, and the header
  abbrev pub ReadsOnce : Stored D → Type 0
  ReadsOnce store =
      blocks_of store ≤ cache_in store →
      faults_of counts store ≡ store.account.opened.faults → faults_of counts store + 1 < 2 ^ 64 →
      (spent_of counts store).turned ≤ store.account.opened.reads + (blocks_of store + 1)
