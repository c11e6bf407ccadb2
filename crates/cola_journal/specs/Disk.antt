-- A file and its journal on a disk: what stands there, what was written since, and what a crash may leave.
use Rattle.std.specs.Prelude.{◌≡◌, ◌⊎◌, ℕ, Bool, true, not, nat_lt, ◌==◌, ◌&&◌, if◌then◌else◌, List, [], ◌∷◌, Option, Some, None}
use Rattle.cola_journal.specs.declared.stage.Step.{Step}
use Rattle.cola_journal.specs.declared.stage.Step.TheVariants.{WriteJournal, SyncJournal, MarkInUse, WritePages, WriteHeader, SyncFile, EmptyJournal}

-- the byte at each place of a file
abbrev pub Contents : Type 0
Contents = ℕ → ℕ

abbrev pub Same : Contents → Contents → Type 0
Same file other = (place : ℕ) → file place ≡ other place

-- bytes for some places of a file
pub record Pages : Type 0 where
  pub has : ℕ → Bool
  pub byte : ℕ → ℕ

-- a file with these bytes in their places
abbrev pub with_pages : Pages → Contents → Contents
with_pages pages file place = if pages.has place then pages.byte place else file place

-- the file as it was synced last, each write since, and what a read of it returns; the journal as it was synced last, and
-- each content that it was to have since, the last one first
pub record Disk : Type 0 where
  pub file : Contents
  pub writes : List Pages
  pub seen : Contents
  pub journal : List ℕ
  pub journals : List (List ℕ)

-- What is left

-- one of these writes put this byte in this place
abbrev pub Wrote : List Pages → ℕ → ℕ → Type 0
Wrote [] place byte = ⊥
Wrote (pages ∷ writes) place byte = ((pages.has place ≡ true) × (pages.byte place ≡ byte)) ⊎ Wrote writes place byte

-- a crash may leave this of the file: each byte as it was synced, or as one of the writes since put it. So any of them is made,
-- in whole or in part, in any order
abbrev pub LeavesFile : Disk → Contents → Type 0
LeavesFile disk file = (place : ℕ) → (file place ≡ disk.file place) ⊎ Wrote disk.writes place (file place)

-- one of them is this
abbrev pub Among : List ℕ → List (List ℕ) → Type 0
Among bytes [] = ⊥
Among bytes (other ∷ others) = (bytes ≡ other) ⊎ Among bytes others

module _ (reads : List ℕ → Option Pages) where
  -- THE PREMISE. A journal that reads as whole is one that was written: no part of one, and no mixture of two, bears its sum
  abbrev pub IsUnmixed : Disk → List ℕ → Type 0
  IsUnmixed disk bytes = (pages : Pages) → reads bytes ≡ Some pages → (bytes ≡ disk.journal) ⊎ Among bytes disk.journals

  -- a crash may leave this of the journal: what it was where nothing was done to it since it was synced, and else any bytes
  -- that meet the premise
  pub record LeavesJournal (disk : Disk) (bytes : List ℕ) : Type 0 where
    pub quiet : disk.journals ≡ [] → bytes ≡ disk.journal
    pub unmixed : IsUnmixed disk bytes

-- one of these writes is made, whole in the first 512 bytes, and the byte 14 is its
abbrev pub MadeWhole : List Pages → Contents → Contents → Type 0
MadeWhole [] synced file = ⊥
MadeWhole (pages ∷ writes) synced file =
    ((pages.has 14 ≡ true) × ((place : ℕ) → nat_lt place 512 ≡ true → file place ≡ with_pages pages synced place)) ⊎ MadeWhole writes synced file

-- A SECOND PREMISE, for those who know of no journal. Of a header that says that the file is closed, the first 512 bytes are
-- written in one: where it was not closed when it was synced, one write is made of it, and whole
abbrev pub IsHeaderWhole : Disk → Contents → Type 0
IsHeaderWhole disk file = file 14 ≡ 0 → (file 14 ≡ disk.file 14) ⊎ MadeWhole disk.writes disk.file file

-- What the steps do

-- the byte of a header that says that the file is in use
abbrev pub in_use : Pages
in_use = record { has = λ place. place == 14; byte = λ place. 1 }

-- what lies in the first 512 bytes
abbrev pub header_of : Pages → Pages
header_of pages = record { has = λ place. pages.has place && nat_lt place 512; byte = pages.byte }

-- what lies behind them
abbrev pub behind_header : Pages → Pages
behind_header pages = record { has = λ place. pages.has place && not (nat_lt place 512); byte = pages.byte }

-- a write is begun: a crash may leave it
abbrev pub begun_write : Pages → Disk → Disk
begun_write pages disk = record disk { writes = pages ∷ disk.writes }

-- the journal is to have these bytes
abbrev pub begun_journal : List ℕ → Disk → Disk
begun_journal bytes disk = record disk { journals = bytes ∷ disk.journals }

-- a step is begun, with the pages and the bytes of the journal
abbrev pub begun : Option Step → Pages → List ℕ → Disk → Disk
begun None pages bytes disk = disk
begun (Some WriteJournal) pages bytes disk = begun_journal bytes disk
begun (Some SyncJournal) pages bytes disk = disk
begun (Some MarkInUse) pages bytes disk = begun_write in_use disk
begun (Some WritePages) pages bytes disk = begun_write (behind_header pages) disk
begun (Some WriteHeader) pages bytes disk = begun_write (header_of pages) disk
begun (Some SyncFile) pages bytes disk = disk
begun (Some EmptyJournal) pages bytes disk = begun_journal [] disk

-- a write is carried out
abbrev pub written : Pages → Disk → Disk
written pages disk = record (begun_write pages disk) { seen = with_pages pages disk.seen }

-- the journal as it was last to be
abbrev pub last_journal : List ℕ → List (List ℕ) → List ℕ
last_journal journal [] = journal
last_journal journal (bytes ∷ journals) = bytes

-- a step is carried out
abbrev pub carried : Option Step → Pages → List ℕ → Disk → Disk
carried None pages bytes disk = disk
carried (Some WriteJournal) pages bytes disk = begun_journal bytes disk
carried (Some SyncJournal) pages bytes disk = record disk { journal = last_journal disk.journal disk.journals; journals = [] }
carried (Some MarkInUse) pages bytes disk = written in_use disk
carried (Some WritePages) pages bytes disk = written (behind_header pages) disk
carried (Some WriteHeader) pages bytes disk = written (header_of pages) disk
carried (Some SyncFile) pages bytes disk = record disk { file = disk.seen; writes = [] }
carried (Some EmptyJournal) pages bytes disk = begun_journal [] disk

-- the power failed, and this is left
abbrev pub fallen : Contents → List ℕ → Disk
fallen file bytes = record { file = file; writes = []; seen = file; journal = bytes; journals = [] }

-- what the journal was to have, where the process died and this is read of it
abbrev pub journals_read : List ℕ → List (List ℕ) → List (List ℕ)
journals_read bytes [] = []
journals_read bytes (other ∷ others) = bytes ∷ other ∷ others

-- the process died, and the system goes on: this is read
abbrev pub abandoned : Contents → List ℕ → Disk → Disk
abandoned file bytes disk = record disk { seen = file; journals = journals_read bytes disk.journals }
