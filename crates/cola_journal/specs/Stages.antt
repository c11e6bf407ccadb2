-- The machine of checkpoints: the step of each stage, and the stage behind it.
use Rattle.std.specs.Prelude.{Bool, true, false, Option, Some, None}
use Rattle.cola_journal.specs.declared.stage.Step.{Step}
use Rattle.cola_journal.specs.declared.stage.Step.TheVariants.{WriteJournal, SyncJournal, MarkInUse, WritePages, WriteHeader, SyncFile, EmptyJournal}
use Rattle.cola_journal.specs.declared.stage.Stage.{Stage}
use Rattle.cola_journal.specs.declared.stage.Stage.TheVariants.{Rest, Journal, JournalSync, Found, Mark, MarkSync, Body, BodySync, Header, HeaderSync, Empty, EmptySync, Stuck, Littered}

-- what is to be done at a stage
abbrev pub step_of : Stage → Option Step
step_of Rest = None
step_of Journal = Some WriteJournal
step_of JournalSync = Some SyncJournal
step_of Found = Some SyncJournal
step_of Mark = Some MarkInUse
step_of MarkSync = Some SyncFile
step_of Body = Some WritePages
step_of BodySync = Some SyncFile
step_of Header = Some WriteHeader
step_of HeaderSync = Some SyncFile
step_of Empty = Some EmptyJournal
step_of EmptySync = Some SyncJournal
step_of Stuck = None
step_of Littered = None

-- the stage behind it, by whether it was carried out
abbrev pub after : Stage → Bool → Stage
after Rest ok = Rest
after Journal true = JournalSync
after Journal false = Empty
after JournalSync true = Mark
after JournalSync false = Empty
after Found true = Mark
after Found false = Stuck
after Mark true = MarkSync
after Mark false = Stuck
after MarkSync true = Body
after MarkSync false = Stuck
after Body true = BodySync
after Body false = Stuck
after BodySync true = Header
after BodySync false = Stuck
after Header true = HeaderSync
after Header false = Stuck
after HeaderSync true = Empty
after HeaderSync false = Stuck
after Empty true = EmptySync
after Empty false = Littered
after EmptySync true = Rest
after EmptySync false = Littered
after Stuck ok = Stuck
after Littered ok = Littered

-- the stage at which it goes on
abbrev pub resumed : Stage → Stage
resumed Rest = Rest
resumed Journal = Journal
resumed JournalSync = JournalSync
resumed Found = Found
resumed Mark = Mark
resumed MarkSync = MarkSync
resumed Body = Body
resumed BodySync = BodySync
resumed Header = Header
resumed HeaderSync = HeaderSync
resumed Empty = Empty
resumed EmptySync = EmptySync
resumed Stuck = Found
resumed Littered = Empty

-- where an opening begins, by whether it found a whole journal
abbrev pub opened : Bool → Stage
opened true = Found
opened false = Empty
