-- The maps behind runs of calls, checkpoints, crashes and openings.
use Rattle.std.specs.Prelude.{◌≡◌, ◌⊎◌, ℕ, List, [], ◌∷◌, ◌++◌, Option}
use Rattle.cola_spec.specs.Map.{Shape, Map}
use Rattle.cola_image.specs.Standing.{FileStandsFor}
use Rattle.cola_journal.specs.Disk.{Contents, Same, Pages, with_pages, LeavesFile, LeavesJournal}
use Rattle.cola_journal.specs.Runs.{under_way, recovered}
use Rattle.cola_log.specs.Format.{Logged, read_log}
use Rattle.cola_replay.specs.Crash.{bytes_from, first_page, IsFront, LeavesLog, ReadsLog, Logs, durable, history, Happening, Turns, Begins, Fallen, Died, NewLog, Appends, Breaks, Syncs, happens}
use Rattle.cola_replay.specs.Made.{after_all}

-- a file of so many bytes stands for a map
abbrev pub Stands : ℕ → Contents → Map → Type 0
Stands size file m = FileStandsFor (bytes_from size 0 file) m

module _ (reads : List ℕ → Option Pages) (size : ℕ) (shape : Shape) (m : Map) where
  -- a checkpoint that begins stands for the map behind all calls that were made
  abbrev pub Saves : Logs → Happening → Type 0
  Saves w (Turns event) = Unit {0}
  Saves w (Begins pages journal) = Stands size (with_pages pages w.world.held) (after_all shape m (history w))
  Saves w (Fallen file journal bytes) = Unit {0}
  Saves w (Died file journal bytes) = Unit {0}
  Saves w NewLog = Unit {0}
  Saves w (Appends calls) = Unit {0}
  Saves w (Breaks calls) = Unit {0}
  Saves w Syncs = Unit {0}

  -- and so does each of a run
  abbrev pub AllSave : Logs → List Happening → Type 0
  AllSave w [] = Unit {0}
  AllSave w (it ∷ its) = Saves w it × AllSave (happens reads w it) its

  -- a file stands for a map from which these calls lead to the one behind all calls of the checkpoint that holds and these, or all of
  -- the one under way: at least those that are asked for
  pub record LeadsTo (w : Logs) (least : List Logged) (file : Contents) (calls : List Logged) : Type 0 where
    pub from : Map
    pub stands : Stands size file from
    pub all : List Logged
    pub map : after_all shape from calls ≡ after_all shape m all
    pub were : (all ≡ w.base ++ calls) ⊎ (all ≡ w.next)
    pub enough : IsFront least all

  -- whatever the power's failure leaves now, the file and the log that an opening finds lead to the map behind all calls that are
  -- synced, and perhaps more
  abbrev pub AreMapsKept : Logs → Type 0
  AreMapsKept w =
      (file : Contents) (journal bytes : List ℕ) → LeavesFile (under_way w.world) file → LeavesJournal reads (under_way w.world) journal → LeavesLog w.log bytes →
      LeadsTo w (durable w) (recovered (reads journal) file) (read_log (first_page (recovered (reads journal) file)) bytes)

  -- where only the process died, and the checkpoint that holds is found, behind all that were made
  abbrev pub AreMapsAnswered : Logs → Type 0
  AreMapsAnswered w = (file : Contents) (bytes : List ℕ) → ReadsLog w.log bytes → Same file w.world.held → LeadsTo w (history w) file (read_log (first_page file) bytes)
