-- What the laws of stores say: of new files, of what a store counts, of openings and of walks.
use Rattle.std.specs.Prelude.{◌≡◌, ℕ, ◌<◌, true, List, length, Option, Some, Ok, Result, is_ok, IsSome, IsSomeAnd}
use Rattle.std.specs.declared.ops.Bound.{Bound}
use Rattle.cola_outside.specs.Faults.{Rose}
use Rattle.cola_cell.specs.declared.format.Format.{Format}
use Rattle.cola_cell.specs.declared.fault.StepFault.{StepFault}
use Rattle.cola_device.specs.declared.device.Device as device
use Rattle.cola_spec.specs.Command as spec
use Rattle.cola_spec.specs.Command.{Command}
use Rattle.cola_spec.specs.Map.{Map, empty_map}
use Rattle.cola_spec.specs.Reply.{Reply}
use Rattle.cola_image.specs.Standing.{FileStandsFor, with_state}
use Rattle.cola_table.specs.declared.Put.{Put}
use Rattle.cola_table.specs.declared.PutIf.{PutIf}
use Rattle.cola_table.specs.declared.PutFault.{PutFault}
use Rattle.cola_table.specs.Answers.{PutAnswers, PutIfAnswers, DeleteAnswers, PutFaults, StepFaults}
use Rattle.cola_table.specs.Replies.{turn_of, put_reply, put_if_reply, delete_reply}
use Rattle.cola_cursor.specs.declared.cursor.Cursor.{Cursor}
use Rattle.cola_cursor.specs.Seeking.{range_ticks}
use Rattle.cola_store.specs.Backward.{BeginsBack}
use Rattle.cola_store.specs.declared.fault.CreateFault.{CreateFault}
use Rattle.cola_store.specs.declared.fault.OpenFault.{OpenFault}
use Rattle.cola_store.specs.declared.fault.OpenFault.TheVariants.{NotClosed, NotStore}
use Rattle.cola_store.specs.Calls.{AnswersTurn}
use Rattle.cola_store.specs.Create.{Created, IsNewFile, Suits}
use Rattle.cola_store.specs.Sessions.{OpensStore, ClosesStore, OpensTo, RefusesAs}
use Rattle.cola_store.specs.Store.{Stored, Holds, HasRead, faults_of, levels_of, map_shape}
use Rattle.cola_store.specs.Walks.{Begins, GoesOn, TurnsBy, left_of}

-- a new file stands for the empty map
abbrev pub NewFileStands : Type 0
NewFileStands = (format : Format) (keys block_exp bottom : ℕ) (bytes : List ℕ) →
    IsNewFile format keys block_exp bottom bytes → FileStandsFor bytes empty_map

module _ {D : Type 0} (d : device.Ghosts D) where
  -- on a device that tells that it is empty, with keys and a block that suit each other, a file is made unless the count of faults rises
  abbrev pub NewFileIsMade : Type 0
  NewFileIsMade = (format : Format) (keys block_exp bottom : ℕ) (before now : D) (result : Result (Unit {0}) CreateFault) →
      Suits keys block_exp bottom → IsSomeAnd (d.bytes before) (λ bytes. length bytes ≡ 0) →
      (Rose (d.counts before).faults (d.counts now).faults → ⊥) →
      Created d format keys block_exp before now result → is_ok result ≡ true

  -- What a store counts

  -- a turn with this command keeps the account of reads of a store that holds a map
  abbrev pub KeepsReads : Command → Type 0
  KeepsReads command = (old new : Stored D) (m : Map) (answer : Reply) (ticks : ℕ) → Holds d.bytes old m →
      AnswersTurn d.bytes d.counts old (turn_of command answer ticks) new →
      HasRead d.counts old → HasRead d.counts new

  -- a count keeps the account of reads of every store
  abbrev pub CountKeepsReads : Type 0
  CountKeepsReads = (old new : Stored D) (answer : Reply) (ticks : ℕ) →
      AnswersTurn d.bytes d.counts old (turn_of spec.Count answer ticks) new →
      HasRead d.counts old → HasRead d.counts new

  -- where a command is answered so and the count of faults did not rise, the account stays as calm as it was
  abbrev pub StaysCalm : (old new : Stored D) → Command → Reply → Type 0
  StaysCalm old new command answer = (ticks : ℕ) →
      AnswersTurn d.bytes d.counts old (turn_of command answer ticks) new →
      (Rose (faults_of d.counts old) (faults_of d.counts new) → ⊥) → new.account.calm ≡ old.account.calm

  -- a put that is answered as on a store that holds a map stays calm
  abbrev pub PutStaysCalm : Type 0
  PutStaysCalm = (old new : Stored D) (m : Map) (key value : List ℕ) (result : Result (Put × ℕ) PutFault) →
      PutAnswers (map_shape old) m key value (Holds d.bytes new) result →
      PutFaults result (faults_of d.counts old) (faults_of d.counts new) →
      StaysCalm old new (spec.Put key value) (put_reply result)

  -- so does such a put that depends on the stamp seen
  abbrev pub PutIfStaysCalm : Type 0
  PutIfStaysCalm = (old new : Stored D) (m : Map) (key : List ℕ) (seen : ℕ) (value : List ℕ) (result : Result (PutIf × ℕ) PutFault) →
      PutIfAnswers (map_shape old) m key seen value (Holds d.bytes new) result →
      PutFaults result (faults_of d.counts old) (faults_of d.counts new) →
      StaysCalm old new (spec.PutIf key seen value) (put_if_reply result)

  -- so does such a delete
  abbrev pub DeleteStaysCalm : Type 0
  DeleteStaysCalm = (old new : Stored D) (m : Map) (key : List ℕ) (result : Result (Option (List ℕ) × ℕ) StepFault) →
      DeleteAnswers m key (Holds d.bytes new) result →
      StepFaults result (faults_of d.counts old) (faults_of d.counts new) →
      StaysCalm old new (spec.Del key) (delete_reply result)

  -- a turn with this command leaves the account of every store as calm as it was
  abbrev pub LeavesCalm : Command → Type 0
  LeavesCalm command = (old new : Stored D) (answer : Reply) (ticks : ℕ) →
      AnswersTurn d.bytes d.counts old (turn_of command answer ticks) new → new.account.calm ≡ old.account.calm

  -- Openings

  -- the file that stands for a map is opened to it
  abbrev pub ClosedFileOpens : Type 0
  ClosedFileOpens = (cache : ℕ) (before : D) (m : Map) (result : Result (Stored D) (D × OpenFault)) →
      IsSomeAnd (d.bytes before) (λ bytes. FileStandsFor bytes m) →
      OpensStore d before cache result → OpensTo d before m result

  -- the same file with the state byte 1 is refused as not closed
  abbrev pub FileInUseIsNotClosed : Type 0
  FileInUseIsNotClosed = (cache : ℕ) (before : D) (closed : List ℕ) (m : Map) (result : Result (Stored D) (D × OpenFault)) →
      FileStandsFor closed m → d.bytes before ≡ Some (with_state 1 closed) →
      OpensStore d before cache result → RefusesAs d before NotClosed result

  -- the same file with a state byte above 1 is refused as no store
  abbrev pub AnotherStateIsNoStore : Type 0
  AnotherStateIsNoStore = (cache state : ℕ) (before : D) (closed : List ℕ) (m : Map) (result : Result (Stored D) (D × OpenFault)) →
      1 < state → FileStandsFor closed m → d.bytes before ≡ Some (with_state state closed) →
      OpensStore d before cache result → RefusesAs d before NotStore result

  -- a new file is opened to the empty map
  abbrev pub NewFileOpens : Type 0
  NewFileOpens = (format : Format) (keys block_exp cache : ℕ) (empty made : D)
      (creation : Result (Unit {0}) CreateFault) (result : Result (Stored D) (D × OpenFault)) →
      Created d format keys block_exp empty made creation → is_ok creation ≡ true → IsSome (d.bytes made) →
      OpensStore d made cache result → OpensTo d made empty_map result

  -- what a store that holds a map was closed to is opened to it again
  abbrev pub ClosedStoreOpensAgain : Type 0
  ClosedStoreOpensAgain = (cache : ℕ) (store : Stored D) (m : Map) (now : D) (result : Result (Stored D) (D × OpenFault)) →
      Holds d.bytes store m → ClosesStore d store (Ok now) →
      OpensStore d now cache result → OpensTo d now m result

  -- Walks

  -- a range and the answered calls on its walk turn to at most one block for each tick that a whole range may make
  abbrev pub WalksTurnWithinARange : Type 0
  WalksTurnWithinARange = (old mid new : Stored D) (low : List ℕ) (high : Option (List ℕ)) (walk last : Cursor) →
      Begins d.bytes d.counts old low high (Ok walk) mid → GoesOn d.bytes d.counts mid walk new last →
      TurnsBy d.bytes d.counts old new (left_of last) (range_ticks (levels_of old))

  -- the same of a falling range
  abbrev pub FallingWalksTurnWithinARange : Type 0
  FallingWalksTurnWithinARange = (old mid new : Stored D) (low : Option (List ℕ)) (high : Bound (List ℕ)) (walk last : Cursor) →
      BeginsBack d.bytes d.counts old low high (Ok walk) mid → GoesOn d.bytes d.counts mid walk new last →
      TurnsBy d.bytes d.counts old new (left_of last) (range_ticks (levels_of old))
