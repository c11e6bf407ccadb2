-- A log beside a file and its journal: what a crash leaves of it, and runs of calls, checkpoints, crashes and openings.
use Rattle.std.specs.Prelude.{◌≡◌, ◌≢◌, ◌⊎◌, ◌<◌, ℕ, zero, suc, Bool, true, false, ◌||◌, not, ◌&&◌, if◌then◌else◌, List, [], ◌∷◌, ◌++◌, take, slice_index, bytes_eq, Option, Some, None}
use Rattle.cola_journal.specs.declared.stage.Stage.TheVariants.{Rest}
use Rattle.cola_journal.specs.Disk.{Contents, Same, Pages, with_pages, LeavesFile, LeavesJournal}
use Rattle.cola_journal.specs.Runs as runs
use Rattle.cola_journal.specs.Runs.{World, IsComing, under_way, recovered}
use Rattle.cola_log.specs.Format.{Logged, AllFit, Found, first_sum, log_of, sums_after, record_at, read_log}

-- the bytes of a file from a place on
unfoldable pub bytes_from : ℕ → ℕ → Contents → List ℕ
bytes_from zero place file = []
bytes_from (suc n) place file = file place ∷ bytes_from n (suc place) file

-- its first page: the header, and the cells of the latest puts
abbrev pub first_page : Contents → List ℕ
first_page file = bytes_from 4096 0 file

-- the sum with which its log begins
abbrev pub sum_of : Contents → List ℕ
sum_of file = first_sum (first_page file)

-- these calls, and perhaps more
abbrev pub IsFront : List Logged → List Logged → Type 0
IsFront calls all = (more : List Logged) × (all ≡ calls ++ more)

-- The log on a disk

-- the first page of the file that the log follows; whether its first sum is on the disk; the calls that it had as it was synced last; and
-- those that it was to have since, each time that it was written to, the last one first
pub record LogDisk : Type 0 where
  pub page : List ℕ
  pub begun : Bool
  pub calls : List Logged
  pub written : List (List Logged)

abbrev pub last_calls : List Logged → List (List Logged) → List Logged
last_calls calls [] = calls
last_calls calls (others ∷ written) = others

-- the calls whose writes went well
abbrev pub seen : LogDisk → List Logged
seen log = last_calls log.calls log.written

abbrev pub AmongFronts : List Logged → List (List Logged) → Type 0
AmongFronts calls [] = ⊥
AmongFronts calls (others ∷ written) = IsFront calls others ⊎ AmongFronts calls written

-- the log was to begin with these calls, as it was synced or since
abbrev pub WasToHave : LogDisk → List Logged → Type 0
WasToHave log calls = IsFront calls log.calls ⊎ AmongFronts calls log.written

-- THE PREMISE. A record that bears its sum behind calls that the log was to have is one that was written there: no part of one, no
-- mixture of two, and no other bytes bear that sum
abbrev pub IsUnforged : LogDisk → List ℕ → Type 0
IsUnforged log bytes =
    (calls : List Logged) (rest : List ℕ) (found : Found) → bytes ≡ log_of log.page calls ++ rest → WasToHave log calls →
    record_at (sums_after (first_sum log.page) calls) rest ≡ Some found → WasToHave log (calls ++ found.0 ∷ [])

-- a failure of the power may leave this of it: what was synced, once its first sum was, and any bytes behind it that meet the premise
pub record LeavesLog (log : LogDisk) (bytes : List ℕ) : Type 0 where
  pub are : (k : ℕ) → slice_index bytes k < 256
  pub front : log.begun ≡ true → (rest : List ℕ) × (bytes ≡ log_of log.page log.calls ++ rest)
  pub unforged : IsUnforged log bytes

-- where only the process died, all that was written is read
pub record ReadsLog (log : LogDisk) (bytes : List ℕ) : Type 0 where
  pub are : (k : ℕ) → slice_index bytes k < 256
  pub front : (rest : List ℕ) × (bytes ≡ log_of log.page (seen log) ++ rest)
  pub unforged : IsUnforged log bytes

-- Runs

-- the file and its journal; the log; the calls that the checkpoint has that holds; and those of the one that was begun last
pub record Logs : Type 0 where
  pub world : World
  pub log : LogDisk
  pub base : List Logged
  pub next : List Logged

-- the log follows the checkpoint that holds; any other is passed over
abbrev pub follows : LogDisk → Contents → Bool
follows log held = bytes_eq (first_sum log.page) (sum_of held)

-- the calls that are on the disk: those of the checkpoint, and those of the log as it was synced
abbrev pub durable : Logs → List Logged
durable w = w.base ++ (if follows w.log w.world.held then w.log.calls else [])

-- all calls that were made
abbrev pub history : Logs → List Logged
history w = w.base ++ (if follows w.log w.world.held then seen w.log else [])

-- what happens: a step of the checkpoint is carried out or refused, or one goes on; a checkpoint of all calls begins; the power
-- fails, or the process dies, and this is left, which is opened again; a new log begins; calls are appended by one write; such a
-- write is refused, or under way as the power fails, and the log is to be as before; the log is synced
pub data Happening : Type 0 where
  Turns : runs.Event → Happening
  Begins : (pages : Pages) (journal : List ℕ) → Happening
  Fallen : (file : Contents) (journal bytes : List ℕ) → Happening
  Died : (file : Contents) (journal bytes : List ℕ) → Happening
  NewLog : Happening
  Appends : (calls : List Logged) → Happening
  Breaks : (calls : List Logged) → Happening
  Syncs : Happening

-- calls are appended where no checkpoint is under way, to a log that follows the one that holds and whose first sum is synced
pub record TakesCalls (w : Logs) (calls : List Logged) : Type 0 where
  pub rest : w.world.stage ≡ Rest
  pub follows_it : follows w.log w.world.held ≡ true
  pub begun : w.log.begun ≡ true
  pub fit : AllFit calls

-- so it is at the begin of a checkpoint; and its first page has another sum than that before it
pub record TakesCheckpoint (w : Logs) (pages : Pages) : Type 0 where
  pub follows_it : follows w.log w.world.held ≡ true
  pub begun : w.log.begun ≡ true
  pub other : first_sum w.log.page ≢ sum_of (with_pages pages w.world.held)

-- an event of the checkpoint itself
abbrev pub IsTurn : runs.Event → Type 0
IsTurn runs.Carried = Unit {0}
IsTurn (runs.Refused file) = Unit {0}
IsTurn (runs.Fallen file bytes) = ⊥
IsTurn (runs.Died file bytes) = ⊥
IsTurn (runs.Begins pages bytes) = ⊥
IsTurn runs.Resumes = Unit {0}

-- the event of the checkpoint that a happening is
abbrev pub event_of : Happening → Option runs.Event
event_of (Turns event) = Some event
event_of (Begins pages journal) = Some (runs.Begins pages journal)
event_of (Fallen file journal bytes) = Some (runs.Fallen file journal)
event_of (Died file journal bytes) = Some (runs.Died file journal)
event_of NewLog = None
event_of (Appends calls) = None
event_of (Breaks calls) = None
event_of Syncs = None

module _ (reads : List ℕ → Option Pages) where
  abbrev pub EventCanHappen : World → Option runs.Event → Type 0
  EventCanHappen w None = Unit {0}
  EventCanHappen w (Some event) = runs.CanHappen reads w event

  abbrev pub event_happens : World → Option runs.Event → World
  event_happens w None = w
  event_happens w (Some event) = runs.happens reads w event

  -- what the log asks of a happening
  abbrev pub LogCan : Logs → Happening → Type 0
  LogCan w (Turns event) = IsTurn event
  LogCan w (Begins pages journal) = TakesCheckpoint w pages
  LogCan w (Fallen file journal bytes) = LeavesLog w.log bytes
  LogCan w (Died file journal bytes) = ReadsLog w.log bytes
  LogCan w NewLog = (w.world.stage ≡ Rest) × ((follows w.log w.world.held ≡ false) ⊎ (w.log.begun ≡ false))
  LogCan w (Appends calls) = TakesCalls w calls
  LogCan w (Breaks calls) = TakesCalls w calls
  LogCan w Syncs = w.world.stage ≡ Rest

  abbrev pub CanHappen : Logs → Happening → Type 0
  CanHappen w it = EventCanHappen w.world (event_of it) × LogCan w it

  -- the log behind a happening
  abbrev pub log_after : Logs → Happening → LogDisk
  log_after w (Turns event) = w.log
  log_after w (Begins pages journal) = w.log
  log_after w (Fallen file journal bytes) =
      record w.log { begun = w.log.begun || bytes_eq (take 32 bytes) (first_sum w.log.page); written = read_log w.log.page bytes ∷ [] }
  log_after w (Died file journal bytes) = record w.log { written = read_log w.log.page bytes ∷ w.log.written }
  log_after w NewLog = record { page = first_page w.world.held; begun = false; calls = []; written = [] }
  log_after w (Appends calls) = record w.log { written = (seen w.log ++ calls) ∷ w.log.written }
  log_after w (Breaks calls) = record w.log { written = seen w.log ∷ (seen w.log ++ calls) ∷ w.log.written }
  log_after w Syncs = record w.log { begun = true; calls = seen w.log; written = [] }

  -- the calls of the checkpoint that holds: where another came to hold, which the log does not follow, those that it has
  abbrev pub base_after : Logs → World → List Logged
  base_after w world = if follows w.log w.world.held && not (follows w.log world.held) then w.next else w.base

  abbrev pub next_after : Logs → Happening → List Logged
  next_after w (Begins pages journal) = history w
  next_after w (Turns event) = w.next
  next_after w (Fallen file journal bytes) = w.next
  next_after w (Died file journal bytes) = w.next
  next_after w NewLog = w.next
  next_after w (Appends calls) = w.next
  next_after w (Breaks calls) = w.next
  next_after w Syncs = w.next

  abbrev pub happens : Logs → Happening → Logs
  happens w it =
      record {
        world = event_happens w.world (event_of it);
        log = log_after w it;
        base = base_after w (event_happens w.world (event_of it));
        next = next_after w it;
      }

  abbrev pub IsRun : Logs → List Happening → Type 0
  IsRun w [] = Unit {0}
  IsRun w (it ∷ its) = CanHappen w it × IsRun (happens w it) its

  abbrev pub behind : Logs → List Happening → Logs
  behind w [] = w
  behind w (it ∷ its) = behind (happens w it) its

-- a closed file, with no journal and no log
abbrev pub begin_with : Contents → Logs
begin_with file =
    record {
      world = runs.begin_with file;
      log = record { page = first_page file; begun = false; calls = []; written = [] };
      base = [];
      next = [];
    }

-- What an opening finds

-- an opening that finds the checkpoint that holds: the calls of the log that are synced, and then more that it was to have
pub record FindsHeld (w : Logs) (file : Contents) (calls : List Logged) : Type 0 where
  pub file_is : Same file w.world.held
  pub synced : IsFront (durable w) (w.base ++ calls)
  pub were : follows w.log w.world.held ≡ true → WasToHave w.log calls
  pub none : follows w.log w.world.held ≡ false → calls ≡ []

-- one that finds the checkpoint under way, which has all that are synced: it passes the log over
pub record FindsNext (w : Logs) (file : Contents) (calls : List Logged) : Type 0 where
  pub file_is : IsComing w.world.coming file
  pub synced : IsFront (durable w) w.next
  pub none : calls ≡ []

abbrev pub Finds : Logs → Contents → List Logged → Type 0
Finds w file calls = FindsHeld w file calls ⊎ FindsNext w file calls

module _ (reads : List ℕ → Option Pages) where
  -- whatever the power's failure leaves now, an opening finds all calls that are synced, and a front of those that were written
  abbrev pub IsKept : Logs → Type 0
  IsKept w =
      (file : Contents) (journal bytes : List ℕ) → LeavesFile (under_way w.world) file → LeavesJournal reads (under_way w.world) journal → LeavesLog w.log bytes →
      Finds w (recovered (reads journal) file) (read_log (first_page (recovered (reads journal) file)) bytes)

  -- where only the process died, and the checkpoint that holds is found, all calls are found that were made
  abbrev pub IsAnswered : Logs → Type 0
  IsAnswered w =
      (file : Contents) (bytes : List ℕ) → ReadsLog w.log bytes → Same file w.world.held → IsFront (history w) (w.base ++ read_log (first_page file) bytes)
