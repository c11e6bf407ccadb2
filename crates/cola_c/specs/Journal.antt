-- The numbers of stages and steps in C, and the journal of the marked pages of a store.
use Rattle.std.specs.Prelude.{◌≡◌, ℕ, ◌+◌, ◌*◌, ◌==◌, if◌then◌else◌, List, [], ◌∷◌, take, drop, Option, Some, None}
use Rattle.cola_journal.specs.declared.stage.Step.{Step}
use Rattle.cola_journal.specs.declared.stage.Step.TheVariants.{WriteJournal, SyncJournal, MarkInUse, WritePages, WriteHeader, SyncFile, EmptyJournal}
use Rattle.cola_journal.specs.declared.stage.Stage.{Stage}
use Rattle.cola_journal.specs.declared.stage.Stage.TheVariants.{Rest, Journal, JournalSync, Found, Mark, MarkSync, Body, BodySync, Header, HeaderSync, Empty, EmptySync, Stuck, Littered}
use Rattle.cola_marks.specs.Pages.{page_of}
use Rattle.cola_journal_bytes.specs.Format.{Piece, piece_at}

-- the number of a stage
abbrev pub number_of : Stage → ℕ
number_of Rest = 0
number_of Journal = 1
number_of JournalSync = 2
number_of Found = 3
number_of Mark = 4
number_of MarkSync = 5
number_of Body = 6
number_of BodySync = 7
number_of Header = 8
number_of HeaderSync = 9
number_of Empty = 10
number_of EmptySync = 11
number_of Stuck = 12
number_of Littered = 13

-- the stage of a number; that of any other number is stuck
abbrev pub stage_at : ℕ → Stage
stage_at number =
    if number == 0 then Rest else
    if number == 1 then Journal else
    if number == 2 then JournalSync else
    if number == 3 then Found else
    if number == 4 then Mark else
    if number == 5 then MarkSync else
    if number == 6 then Body else
    if number == 7 then BodySync else
    if number == 8 then Header else
    if number == 9 then HeaderSync else
    if number == 10 then Empty else
    if number == 11 then EmptySync else
    if number == 13 then Littered else Stuck

-- the number of a step, and 0 of none
abbrev pub step_number : Option Step → ℕ
step_number None = 0
step_number (Some WriteJournal) = 1
step_number (Some SyncJournal) = 2
step_number (Some MarkInUse) = 3
step_number (Some WritePages) = 4
step_number (Some WriteHeader) = 5
step_number (Some SyncFile) = 6
step_number (Some EmptyJournal) = 7

-- where a checkpoint begins
abbrev pub begun : Stage → Stage
begun Rest = Journal
begun stage = stage

-- the marked pages from one on, as pieces of a file
abbrev pub pieces_from : ℕ → List ℕ → List ℕ → List Piece
pieces_from page [] bytes = []
pieces_from page (mark ∷ marks) bytes =
    if mark == 0 then pieces_from (page + 1) marks bytes
    else (record { at = 4096 * page; bytes = page_of bytes page }) ∷ pieces_from (page + 1) marks bytes

-- the marked pages of a store, as pieces of its file
abbrev pub pieces_of : List ℕ → List ℕ → List Piece
pieces_of marks bytes = pieces_from 0 marks bytes

-- a piece stands at the front: it has this place, and so many bytes, 16 behind its begin
abbrev pub FindsPiece : List ℕ → (at count : ℕ) → Type 0
FindsPiece pieces at count =
    piece_at pieces ≡ Some (record { at = at; bytes = take count (drop 16 pieces) }, drop count (drop 16 pieces))
