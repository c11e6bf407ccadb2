-- Runs of checkpoints, refusals, crashes and recoveries, in any order.
use Rattle.std.specs.Prelude.{◌≡◌, ◌≢◌, ◌⊎◌, ℕ, true, false, List, [], ◌∷◌, Option, Some, None, is_some}
use Rattle.cola_journal.specs.declared.stage.Stage.{Stage}
use Rattle.cola_journal.specs.declared.stage.Stage.TheVariants.{Rest, Journal, JournalSync, Found, Mark, MarkSync, Body, BodySync, Header, HeaderSync, Empty, EmptySync, Stuck, Littered}
use Rattle.cola_journal.specs.Stages.{step_of, after, resumed, opened}
use Rattle.cola_journal.specs.Disk.{Contents, Same, Pages, Disk, with_pages, LeavesFile, LeavesJournal, IsHeaderWhole, begun, carried, fallen, abandoned}

-- how far the checkpoint is; the pages of the journal that is written or was found; the bytes of the journal that is to be
-- written; the checkpoint that holds; the one that the file had before it; the one under way, whose journal is not synced
-- yet; and the disk
pub record World : Type 0 where
  pub stage : Stage
  pub pages : Pages
  pub bytes : List ℕ
  pub held : Contents
  pub from : Contents
  pub coming : Option Contents
  pub disk : Disk

-- what happens: the step is carried out, or it is refused, and this is read of the file then; the power fails, or the process
-- dies, and this is left of the file and the journal, which are opened again; a checkpoint of these pages begins, with these
-- bytes of its journal; one goes on of which a step was refused
pub data Event : Type 0 where
  Carried : Event
  Refused : (file : Contents) → Event
  Fallen : (file : Contents) (bytes : List ℕ) → Event
  Died : (file : Contents) (bytes : List ℕ) → Event
  Begins : (pages : Pages) (bytes : List ℕ) → Event
  Resumes : Event

-- the disk while the step of the stage is under way
abbrev pub under_way : World → Disk
under_way w = begun (step_of w.stage) w.pages w.bytes w.disk

-- the checkpoint that holds behind a step that was carried out: from the sync of its journal on, the new one
abbrev pub held_after : Stage → Pages → Contents → Contents
held_after Rest pages held = held
held_after Journal pages held = held
held_after JournalSync pages held = with_pages pages held
held_after Found pages held = with_pages pages held
held_after Mark pages held = held
held_after MarkSync pages held = held
held_after Body pages held = held
held_after BodySync pages held = held
held_after Header pages held = held
held_after HeaderSync pages held = held
held_after Empty pages held = held
held_after EmptySync pages held = held
held_after Stuck pages held = held
held_after Littered pages held = held

-- and the one that is under way still
abbrev pub coming_after : Stage → Option Contents → Option Contents
coming_after Rest coming = coming
coming_after Journal coming = coming
coming_after JournalSync coming = None
coming_after Found coming = None
coming_after Mark coming = coming
coming_after MarkSync coming = coming
coming_after Body coming = coming
coming_after BodySync coming = coming
coming_after Header coming = coming
coming_after HeaderSync coming = coming
coming_after Empty coming = coming
coming_after EmptySync coming = None
coming_after Stuck coming = coming
coming_after Littered coming = coming

-- and what the file had before it: once it is synced with what holds, that
abbrev pub from_after : Stage → Contents → Contents → Contents
from_after Rest held from = from
from_after Journal held from = from
from_after JournalSync held from = from
from_after Found held from = from
from_after Mark held from = from
from_after MarkSync held from = from
from_after Body held from = from
from_after BodySync held from = from
from_after Header held from = from
from_after HeaderSync held from = held
from_after Empty held from = from
from_after EmptySync held from = from
from_after Stuck held from = from
from_after Littered held from = from

-- the pages of a journal that was found, where it is whole
abbrev pub found : Option Pages → Pages → Pages
found None pages = pages
found (Some read) pages = read

-- a file as a recovery leaves it, by what its journal reads as
abbrev pub recovered : Option Pages → Contents → Contents
recovered None file = file
recovered (Some pages) file = with_pages pages file

-- the checkpoint under way is this
abbrev pub IsComing : Option Contents → Contents → Type 0
IsComing None file = ⊥
IsComing (Some coming) file = Same file coming

-- a file is the checkpoint that holds, or the one under way
abbrev pub Stands : World → Contents → Type 0
Stands w file = Same file w.held ⊎ IsComing w.coming file

-- what a file is to those who know of no journal: it says that it is in use, or it is what holds or what it had before
abbrev pub IsTold : World → Contents → Type 0
IsTold w file = (file 14 ≢ 0) ⊎ (Same file w.from ⊎ Same file w.held)

module _ (reads : List ℕ → Option Pages) where
  -- an opening finds this
  abbrev pub opening : World → List ℕ → Disk → World
  opening w bytes disk =
      record w { stage = opened (is_some (reads bytes)); pages = found (reads bytes) w.pages; disk = disk }

  -- what may happen
  abbrev pub CanHappen : World → Event → Type 0
  CanHappen w Carried = Unit {0}
  CanHappen w (Refused file) = LeavesFile (under_way w) file
  CanHappen w (Fallen file bytes) = LeavesFile (under_way w) file × LeavesJournal reads (under_way w) bytes
  CanHappen w (Died file bytes) = LeavesFile (under_way w) file × LeavesJournal reads (under_way w) bytes
  CanHappen w (Begins pages bytes) = (w.stage ≡ Rest) × (reads bytes ≡ Some pages)
  CanHappen w Resumes = Unit {0}

  -- and what is so behind it
  abbrev pub happens : World → Event → World
  happens w Carried =
      record w {
        stage = after w.stage true;
        held = held_after w.stage w.pages w.held;
        from = from_after w.stage w.held w.from;
        coming = coming_after w.stage w.coming;
        disk = carried (step_of w.stage) w.pages w.bytes w.disk;
      }
  happens w (Refused file) = record w { stage = after w.stage false; disk = record (under_way w) { seen = file } }
  happens w (Fallen file bytes) = opening w bytes (fallen file bytes)
  happens w (Died file bytes) = opening w bytes (abandoned file bytes (under_way w))
  happens w (Begins pages bytes) =
      record w { stage = Journal; pages = pages; bytes = bytes; coming = Some (with_pages pages w.held) }
  happens w Resumes = record w { stage = resumed w.stage }

  -- a run: each event can happen where it stands
  abbrev pub IsRun : World → List Event → Type 0
  IsRun w [] = Unit {0}
  IsRun w (event ∷ events) = CanHappen w event × IsRun (happens w event) events

  -- what is so behind a run
  abbrev pub behind : World → List Event → World
  behind w [] = w
  behind w (event ∷ events) = behind (happens w event) events

  -- where the power fails, a header is written whole or not at all
  abbrev pub HeaderStays : World → Event → Type 0
  HeaderStays w Carried = Unit {0}
  HeaderStays w (Refused file) = Unit {0}
  HeaderStays w (Fallen file bytes) = IsHeaderWhole (under_way w) file
  HeaderStays w (Died file bytes) = Unit {0}
  HeaderStays w (Begins pages bytes) = Unit {0}
  HeaderStays w Resumes = Unit {0}

  -- and so it is through a run
  abbrev pub HeadersStay : World → List Event → Type 0
  HeadersStay w [] = Unit {0}
  HeadersStay w (event ∷ events) = HeaderStays w event × HeadersStay (happens w event) events

  -- whatever a crash leaves now, a recovery makes it the checkpoint that holds or the one under way
  abbrev pub IsSafe : World → Type 0
  IsSafe w =
      (file : Contents) (bytes : List ℕ) → LeavesFile (under_way w) file → LeavesJournal reads (under_way w) bytes → Stands w (recovered (reads bytes) file)

  -- no checkpoint is under way: the file on the disk is the checkpoint that holds, and the journal is none that is whole
  pub record IsSettled (w : World) : Type 0 where
    pub file : Same w.disk.file w.held
    pub seen : Same w.disk.seen w.held
    pub writes : w.disk.writes ≡ []
    pub journal : reads w.disk.journal ≡ None
    pub journals : w.disk.journals ≡ []
    pub coming : w.coming ≡ None

-- a closed file, and no journal
abbrev pub begin_with : Contents → World
begin_with file =
    record {
      stage = Rest;
      pages = record { has = λ place. false; byte = λ place. 0 };
      bytes = [];
      held = file;
      from = file;
      coming = None;
      disk = record { file = file; writes = []; seen = file; journal = []; journals = [] };
    }
