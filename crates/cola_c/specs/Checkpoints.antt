-- What a checkpoint by a journal of the marked pages makes of a store's file.
use Rattle.std.specs.Prelude.{◌≡◌, ◌≢◌, ◌⊎◌, ℕ, ◌+◌, ◌*◌, ◌^◌, ◌<◌, ◌≤◌, List, [], ◌∷◌, length, slice_index, Some}
use Rattle.cola_marks.specs.Pages.{SameUnmarked}
use Rattle.cola_journal.specs.declared.stage.Stage.TheVariants.{Rest}
use Rattle.cola_journal.specs.Disk.{Contents, Same, Pages, with_pages, LeavesFile, LeavesJournal}
use Rattle.cola_journal.specs.Runs.{World, Event, Carried, Refused, Fallen, Died, Begins, Resumes, IsRun, behind, happens, begin_with, under_way, recovered}
use Rattle.cola_journal_bytes.specs.Format.{journal_of}
use Rattle.cola_journal_bytes.specs.Applied.{pages_of, pages_read}
use Rattle.cola_c.specs.Journal.{pieces_of}

-- a file with these bytes; behind its end there are zeros
abbrev pub contents : List ℕ → Contents
contents bytes place = slice_index bytes place

-- a store was closed in memory with these bytes, whose file had those before at its last checkpoint: as many, with a header; each page
-- has a byte among the marks, and one with no mark is as it was; the first one has a mark
pub record IsToBeSaved (marks before now : List ℕ) : Type 0 where
  pub as_many : length now ≡ length before
  pub header : 512 ≤ length now
  pub covered : length now ≤ 4096 * length marks
  pub inside : 4096 * length marks < length now + 4096
  pub room : length now < 2 ^ 63
  pub unmarked : SameUnmarked marks before now
  pub first : slice_index marks 0 ≢ 0

-- the pages of its checkpoint
abbrev pub saved_pages : List ℕ → List ℕ → Pages
saved_pages marks now = pages_of (pieces_of marks now)

-- its journal
abbrev pub saved_journal : List ℕ → List ℕ → List ℕ
saved_journal marks now = journal_of (pieces_of marks now)

-- no other checkpoint begins
abbrev pub NoneBegins : List Event → Type 0
NoneBegins [] = Unit {0}
NoneBegins (Carried ∷ events) = NoneBegins events
NoneBegins (Refused file ∷ events) = NoneBegins events
NoneBegins (Fallen file bytes ∷ events) = NoneBegins events
NoneBegins (Died file bytes ∷ events) = NoneBegins events
NoneBegins (Begins pages bytes ∷ events) = ⊥
NoneBegins (Resumes ∷ events) = NoneBegins events

-- what is so behind some events, and behind others where this checkpoint begins there
abbrev pub world_behind : Contents → List Event → World
world_behind start past = behind pages_read (begin_with start) past

abbrev pub saved_behind : (marks now : List ℕ) → Contents → (past events : List Event) → World
saved_behind marks now start past events =
    behind pages_read (happens pages_read (world_behind start past) (Begins (saved_pages marks now) (saved_journal marks now))) events

-- the checkpoint begins where none is under way and the file's last one holds; then these events come, and no other checkpoint begins
pub record IsSaved (marks before now : List ℕ) (start : Contents) (past events : List Event) : Type 0 where
  pub store : IsToBeSaved marks before now
  pub came : IsRun pages_read (begin_with start) past
  pub rest : (world_behind start past).stage ≡ Rest
  pub held : Same (world_behind start past).held (contents before)
  pub goes_on : IsRun pages_read (happens pages_read (world_behind start past) (Begins (saved_pages marks now) (saved_journal marks now))) events
  pub alone : NoneBegins events

-- whatever a crash leaves, a recovery makes the file have one of these
abbrev pub Recovers : World → (Contents → Type 0) → Type 0
Recovers w Has = (file : Contents) (bytes : List ℕ) → LeavesFile (under_way w) file → LeavesJournal pages_read (under_way w) bytes → Has (recovered (pages_read bytes) file)

-- all that was before, or all that is now
abbrev pub IsOneOf : (before now : List ℕ) → Contents → Type 0
IsOneOf before now file = Same file (contents before) ⊎ Same file (contents now)

-- Laws: the marked pages over what the file had are the store; they are read of the journal; a recovery makes the one or the other, and,
-- once journal and sync were carried out, the store
abbrev pub PagesAreTheStore : Type 0
PagesAreTheStore = (marks before now : List ℕ) → IsToBeSaved marks before now → Same (with_pages (saved_pages marks now) (contents before)) (contents now)

abbrev pub JournalsAreRead : Type 0
JournalsAreRead = (marks before now : List ℕ) → IsToBeSaved marks before now → pages_read (saved_journal marks now) ≡ Some (saved_pages marks now)

abbrev pub StoresAreKept : Type 0
StoresAreKept =
    (marks before now : List ℕ) (start : Contents) (past events : List Event) → IsSaved marks before now start past events →
    Recovers (saved_behind marks now start past events) (IsOneOf before now)

abbrev pub StoresAreSaved : Type 0
StoresAreSaved =
    (marks before now : List ℕ) (start : Contents) (past events : List Event) → IsSaved marks before now start past (Carried ∷ Carried ∷ events) →
    Recovers (saved_behind marks now start past (Carried ∷ Carried ∷ events)) (λ file. Same file (contents now))
