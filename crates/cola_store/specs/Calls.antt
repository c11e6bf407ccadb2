-- What each call on a store says by its answer, on every file, sound or not.
use Rattle.std.specs.Prelude.{◌≡◌, ℕ, ◌+◌, ◌-◌, ◌*◌, ◌/◌, ◌%◌, ◌^◌, ◌≤◌, Bool, false, ◌&&◌, nat_eq, nat_le, if◌then◌else◌, List, length, Option, None, Some, Result, Ok, Err, IfErr}
use Rattle.std.specs.Option.{option_map, unwrap_or}
use Rattle.cola_runs.specs.Search.{AreSampled}
use Rattle.cola_laws.specs.Plain.{next_clock}
use Rattle.cola_cell.specs.declared.cell.Item.{Item}
use Rattle.cola_cell.specs.declared.cell.Item.TheVariants.{Value, Tombstone}
use Rattle.cola_cell.specs.declared.format.Format.{Format}
use Rattle.cola_cell.specs.declared.fault.ReadFault.{ReadFault}
use Rattle.cola_cell.specs.declared.fault.StepFault.{StepFault}
use Rattle.cola_cell.specs.Format.{key_limit}
use Rattle.cola_cell.specs.Held.{LawCell, Stamped, as_item}
use Rattle.cola_cell.specs.Order.{key_cmp}
use Rattle.cola_cell.specs.Spent.{Spent, Ticks}
use Rattle.cola_device.specs.declared.counts.Counts.{Counts}
use Rattle.cola_spec.specs.Bounds.{put_bound}
use Rattle.cola_spec.specs.Command.{Command, Put, PutIf, Del, Get, Stamp, Range, Scan, Count, Close, Reopen}
use Rattle.cola_spec.specs.Machine.{Turn}
use Rattle.cola_image.specs.Standing.{found_in}
use Rattle.cola_spec.specs.Map.{Shape, Map, PutOutcome, New, Old, Full, Worn, Other, last_stamp}
use Rattle.cola_spec.specs.Reply as reply
use Rattle.cola_spec.specs.Reply.{Reply}
use Rattle.cola_table.specs.declared.Put as put
use Rattle.cola_table.specs.declared.Put.TheVariants as puts
use Rattle.cola_table.specs.declared.PutFault.{PutFault}
use Rattle.cola_table.specs.declared.PutFault.TheVariants as fault
use Rattle.cola_table.specs.Answers.{OnlyDeviceRead}
use Rattle.cola_table.specs.Replies.{read_failure, step_failure}
use Rattle.cola_look.specs.Outcome.{Answers}
use Rattle.cola_look.specs.Runs.{AreRuns}
use Rattle.cola_search.specs.Find.{found_in_runs, FindCause}
use Rattle.cola_mutation.specs.Work as work
use Rattle.cola_mutation.specs.Standing.{new_cell, HasRefusal, KeepsProgress, KeepsVisible, AllTake}
use Rattle.cola_mutation.specs.Steps.{ChangesMap}
use Rattle.cola_chain.specs.Account.{added, CountsStep}
use Rattle.cola_store.specs.declared.account.Account.{Account}
use Rattle.cola_store.specs.Store.{Stored, Holds, held_of, spent_of, state_of, faults_of, transferred, geometry_of, levels_of, runs_of, map_shape}

-- What was found

-- a value with its stamp, of what a search found: none of a tombstone
abbrev pub stamped_found : Option Item → Option Stamped
stamped_found None = None
stamped_found (Some (Value value stamp)) = Some (record { value = value; stamp = stamp })
stamped_found (Some Tombstone) = None

-- its value
abbrev pub value_found : Option Item → Option (List ℕ)
value_found found = option_map (λ s. s.value) (stamped_found found)

-- its stamp
abbrev pub stamp_found : Option Item → Option ℕ
stamp_found found = option_map (λ s. s.stamp) (stamped_found found)

-- its stamp, and 0 where nothing is found
abbrev pub stamp_or_zero : Option Stamped → ℕ
stamp_or_zero found = unwrap_or (option_map (λ s. s.stamp) found) 0

-- what a key has by its search: nothing where it does not fit the format, since no cell has such a key
abbrev pub held_by : Format → List ℕ → Option (List ℕ) → Option (List ℕ)
held_by format key found = if nat_le (length key) (key_limit format) then found else None

-- Decisions, before anything is changed

-- no number is left to give after this last one, where values are numbered
abbrev pub worn_at : Shape → ℕ → Bool
worn_at shape last = shape.stamped && nat_le last_stamp last

-- how a put is decided in a store of this shape with so many keys and this last number, where its key has this: full where a new key meets the limit, then worn where no number is left, else it is made
abbrev pub decided : Shape → (count last : ℕ) → Option Stamped → PutOutcome
decided shape count last None = if nat_le shape.limit count then Full else if worn_at shape last then Worn else New
decided shape count last (Some s) = if worn_at shape last then Worn else Old s.value

-- the same of a put that depends on the stamp seen: refused first where the key has another
abbrev pub decided_if : Shape → (count last seen : ℕ) → Option Stamped → PutOutcome
decided_if shape count last seen found =
    if nat_eq (stamp_or_zero found) seen then decided shape count last found else Other (stamp_or_zero found)

-- how a store decides a put to a key that has this
abbrev pub decided_by : {D : Type 0} → Stored D → Option Stamped → PutOutcome
decided_by store found = decided (map_shape store) store.count store.last found

-- and one that depends on the stamp seen
abbrev pub decided_if_by : {D : Type 0} → Stored D → ℕ → Option Stamped → PutOutcome
decided_if_by store seen found = decided_if (map_shape store) store.count store.last seen found

-- why a put is refused that is decided so, or no reason
abbrev pub refusal_of : PutOutcome → Option PutFault
refusal_of New = None
refusal_of (Old value) = None
refusal_of Full = Some fault.Full
refusal_of Worn = Some fault.Worn
refusal_of (Other stamp) = None

-- the number that the next value gets: the one after the last where values are numbered, else 0
abbrev pub next_number : Shape → ℕ → ℕ
next_number shape last = if shape.stamped then last + 1 else 0

-- the number that a store gives next
abbrev pub number_by : {D : Type 0} → Stored D → ℕ
number_by store = next_number (map_shape store) store.last

-- how many keys there are after a put to a key that has this
abbrev pub count_with : ℕ → Option Stamped → ℕ
count_with count None = count + 1
count_with count (Some s) = count

-- Answers

-- an answer with a number of ticks, of which nothing is asked yet
abbrev pub with_ticks : {A E : Type 0} → Result A E → Result (A × ℕ) E
with_ticks (Ok answer) = Ok (answer, 0)
with_ticks (Err fault) = Err fault

-- what an accepted put answers to a key that had this value, or none
abbrev pub put_of : Option (List ℕ) → put.Put
put_of None = puts.New
put_of (Some value) = puts.Old value

-- Replies

-- what a get answers of what its search found, or why this was refused
abbrev pub got : Result (Option Item) ReadFault → Reply
got (Ok found) = reply.Got (value_found found)
got (Err fault) = reply.Failed (read_failure fault)

-- what a stamp answers
abbrev pub stamp_got : Result (Option Item) ReadFault → Reply
stamp_got (Ok found) = reply.Stamped (stamp_found found)
stamp_got (Err fault) = reply.Failed (read_failure fault)

-- what is answered where the step was accepted, or why this was refused
abbrev pub stepped : {A : Type 0} → Reply → Result A StepFault → Reply
stepped answer (Ok a) = answer
stepped answer (Err fault) = reply.Failed (step_failure fault)

-- Searches and steps

-- a search found what the map has of the key, or was refused by the device
abbrev pub FindsIn : Map → List ℕ → Result (Option Item) ReadFault → Type 0
FindsIn m key (Ok found) = stamped_found found ≡ found_in m key
FindsIn m key (Err fault) = OnlyDeviceRead fault

-- a call made at most so many ticks, which the object counts too, and no fault was forgotten
pub record TicksWithin (old new : Spent) (before after most : ℕ) : Type 0 where
  pub steps_stay : before ≤ after
  pub steps_rise : after ≤ before + most
  pub ticked_is : (new.ticked + before) % 2 ^ 64 ≡ (old.ticked + after) % 2 ^ 64
  pub faults_stay : old.faults ≤ new.faults

-- the same of a call on a store, within a bound by the number of its levels
abbrev pub TicksBy : {D : Type 0} → (D → Counts) → (ℕ → ℕ) → (old new : Stored D) → (before after : ℕ) → Type 0
TicksBy counts bound old new before after =
    TicksWithin (spent_of counts old) (spent_of counts new) before after (bound (levels_of old))

-- one step reads and writes at most one block for each tick that it may make, and one more for each level that works
abbrev pub StepTransfers : {D : Type 0} → (D → Counts) → (old new : Stored D) → Type 0
StepTransfers counts old new = transferred counts new ≤ transferred counts old + (9 + 60 * (levels_of old / 2))

-- the device turned to so many blocks more at most, and wrote none
pub record ReadsWithin (old new : Spent) (turns : ℕ) : Type 0 where
  pub turned_stays : old.turned ≤ new.turned
  pub turned_rises : new.turned ≤ old.turned + turns
  pub written_is : new.written ≡ old.written

-- an account with one search more
abbrev pub with_search : Account → Account
with_search account = record account { searches = added account.searches 1 }

-- an account in which a step was refused
abbrev pub with_refusal : Account → Account
with_refusal account = record account { calm = false }

module _ {D : Type 0} (bytes : D → Option (List ℕ)) (counts : D → Counts) where
  -- what a call that only reads leaves: all cells, the levels, the clock, the numbers of the chain, the count of keys and the last number
  pub record Same (old new : Stored D) : Type 0 where
    pub held_is : held_of bytes new ≡ held_of bytes old
    pub geometry_is : geometry_of new ≡ geometry_of old
    pub levels_are : new.chain.levels ≡ old.chain.levels
    pub clock_is : new.chain.clock ≡ old.chain.clock
    pub steps_are : new.chain.accepted ≡ old.chain.accepted
    pub reads_are : new.chain.reads ≡ old.chain.reads
    pub writes_are : new.chain.writes ≡ old.chain.writes
    pub count_is : new.count ≡ old.count
    pub last_is : new.last ≡ old.last

  -- a call turned to so many blocks more at most, and wrote none
  abbrev pub ReadsBy : (old new : Stored D) → ℕ → Type 0
  ReadsBy old new turns = ReadsWithin (spent_of counts old) (spent_of counts new) turns

  -- a search of the store for a key answers what the cells of its visible runs say, as far as they are told, and is refused where the device failed or a cell of these runs is bad. It turns to two blocks for each level at most, and to one where the runs are in order, as those of a store that holds a map are
  pub record Searches (old new : Stored D) (key : List ℕ) (search : Result (Option Item) ReadFault) : Type 0 where
    pub exact : Answers (found_in_runs (held_of bytes old) key 0 (runs_of old))
        (option_map as_item) search
    pub cause : IfErr search (FindCause (held_of bytes old) (runs_of old) (faults_of counts old) (faults_of counts new))
    pub reads : ReadsBy old new (2 * levels_of old)
    pub standing : (lists : List (List LawCell)) → AreRuns (held_of bytes old) (runs_of old) lists →
        AreSampled key_cmp lists → ReadsBy old new (levels_of old)
    pub on_map : (m : Map) → Holds bytes old m → ReadsBy old new (levels_of old)
    pub same : Same old new
    pub counted : new.account ≡ with_search old.account

  -- the key got this item by one step of the chain, which left out no step of a merge, and there are so many keys and this last number
  pub record Changed (old new : Stored D) (key : List ℕ) (item : Item) (count last : ℕ) : Type 0 where
    pub clock_is : new.chain.clock ≡ next_clock (levels_of old) old.chain.clock
    pub changes : ChangesMap (held_of bytes old) (held_of bytes new) old.chain.clock new.chain.clock
        key item old.chain.levels new.chain.levels
    pub takes : AllTake old.chain.clock (new_cell key item) (held_of bytes old) (held_of bytes new)
        old.chain.levels new.chain.levels
    pub count_is : new.count ≡ count
    pub last_is : new.last ≡ last
    pub account_is : new.account ≡ old.account

  -- the step by which the key was to get this item was refused for this reason: the count of faults rose; a cell that a merge reads next is bad; or overfull, where a level that works at this clock, or level 0, builds a next run that fills its slot and a step would emit another cell. Every visible run, the clock, the count of keys and the last number stay
  pub record Unchanged (old new : Stored D) (key : List ℕ) (item : Item) (fault : StepFault) : Type 0 where
    pub before : ℕ
    pub steps : ℕ
    pub cause : HasRefusal old.chain.clock key item (work.state_of (state_of bytes counts old) before)
        (work.state_of (state_of bytes counts new) steps) old.chain.levels new.chain.levels fault
    pub clock_is : new.chain.clock ≡ old.chain.clock
    pub progress : KeepsProgress old.chain.clock old.chain.levels new.chain.levels
    pub visible : KeepsVisible old.chain.clock (levels_of old)
        (held_of bytes old) (held_of bytes new)
    pub count_is : new.count ≡ old.count
    pub last_is : new.last ≡ old.last
    pub account_is : new.account ≡ with_refusal old.account

  -- one step of the chain, or its refusal
  abbrev pub StepsBy : {A : Type 0} → (old new : Stored D) → List ℕ → Item → (count last : ℕ) → Result A StepFault → Type 0
  StepsBy old new key item count last (Ok a) = Changed old new key item count last
  StepsBy old new key item count last (Err fault) = Unchanged old new key item fault

  -- the same, over the same geometry; how the chain counts it; and the device's counts of reads and writes do not fall
  pub record Steps {A : Type 0} (old new : Stored D) (key : List ℕ) (item : Item) (count last : ℕ) (result : Result A StepFault) : Type 0 where
    pub by : StepsBy old new key item count last result
    pub geometry_is : geometry_of new ≡ geometry_of old
    pub counts_step : CountsStep counts old.chain new.chain result
    pub turned_stays : (spent_of counts old).turned ≤ (spent_of counts new).turned
    pub written_stays : (spent_of counts old).written ≤ (spent_of counts new).written

  -- Puts and deletes

  -- nothing changes, and this is answered
  pub record Refuses (old new : Stored D) (says answer : Reply) : Type 0 where
    pub answer_is : answer ≡ says
    pub same : new ≡ old

  -- the key gets this item by one step, and this is answered where that is accepted
  pub record Writes (old new : Stored D) (key : List ℕ) (item : Item) (count last : ℕ) (says answer : Reply) : Type 0 where
    pub step : Result (Unit {0}) StepFault
    pub steps : Steps old new key item count last step
    pub answer_is : answer ≡ stepped says step

  -- how a put ends that was decided so, to a key that has this
  abbrev pub Concludes : PutOutcome → (old new : Stored D) → (key value : List ℕ) → Option Stamped → Reply → Type 0
  Concludes New old new key value found answer =
      Writes old new key (Value value (number_by old)) (count_with old.count found) (number_by old) (reply.Put New) answer
  Concludes (Old v) old new key value found answer =
      Writes old new key (Value value (number_by old)) (count_with old.count found) (number_by old) (reply.Put (Old v)) answer
  Concludes Full old new key value found answer = Refuses old new (reply.Put Full) answer
  Concludes Worn old new key value found answer = Refuses old new (reply.Put Worn) answer
  Concludes (Other stamp) old new key value found answer = Refuses old new (reply.Put (Other stamp)) answer

  -- what a put does after its search
  abbrev pub PutFollows : (old new : Stored D) → (key value : List ℕ) → Result (Option Item) ReadFault → Reply → Type 0
  PutFollows old new key value (Err fault) answer = Refuses old new (reply.Failed (read_failure fault)) answer
  PutFollows old new key value (Ok found) answer =
      Concludes (decided_by old (stamped_found found)) old new key value (stamped_found found) answer

  -- the same of a put that depends on the stamp seen
  abbrev pub PutIfFollows : (old new : Stored D) → (key : List ℕ) → ℕ → (value : List ℕ) → Result (Option Item) ReadFault → Reply → Type 0
  PutIfFollows old new key seen value (Err fault) answer = Refuses old new (reply.Failed (read_failure fault)) answer
  PutIfFollows old new key seen value (Ok found) answer =
      Concludes (decided_if_by old seen (stamped_found found)) old new key value (stamped_found found) answer

  -- how a delete ends whose key has this value, or none
  abbrev pub Removes : (old new : Stored D) → List ℕ → Option (List ℕ) → Reply → Type 0
  Removes old new key None answer = Refuses old new (reply.Deleted None) answer
  Removes old new key (Some value) answer = Writes old new key Tombstone (old.count - 1) old.last (reply.Deleted (Some value)) answer

  -- what a delete does after its search
  abbrev pub DeleteFollows : (old new : Stored D) → List ℕ → Result (Option Item) ReadFault → Reply → Type 0
  DeleteFollows old new key (Err fault) answer = Refuses old new (reply.Failed (read_failure fault)) answer
  DeleteFollows old new key (Ok found) answer =
      Removes old new key (held_by (geometry_of old).format key (value_found found)) answer

  -- a call that searches first, and then does this
  pub record SearchesFirst (old new : Stored D) (key : List ℕ) (Follows : Stored D → Result (Option Item) ReadFault → Type 0) : Type 0 where
    pub mid : Stored D
    pub search : Result (Option Item) ReadFault
    pub searches : Searches old mid key search
    pub follows : Follows mid search

  -- a call that only searches
  pub record OnlySearches (old new : Stored D) (key : List ℕ) (says : Result (Option Item) ReadFault → Reply) (answer : Reply) : Type 0 where
    pub search : Result (Option Item) ReadFault
    pub searches : Searches old new key search
    pub answer_is : answer ≡ says search

  -- the reads and writes of a put or a delete are within the bound on its ticks
  pub record TransfersWithin (old new : Stored D) : Type 0 where
    pub transfers : transferred counts new ≤ transferred counts old + put_bound (levels_of old)

  -- the store is asked this, answers so, and is this one afterwards
  abbrev pub AnswersRequest : Option Command → Reply → (old new : Stored D) → Type 0
  AnswersRequest None answer old new = ⊥
  AnswersRequest (Some (Put key value)) answer old new =
      SearchesFirst old new key (λ mid search. PutFollows mid new key value search answer) × TransfersWithin old new
  AnswersRequest (Some (PutIf key seen value)) answer old new =
      SearchesFirst old new key (λ mid search. PutIfFollows mid new key seen value search answer) × TransfersWithin old new
  AnswersRequest (Some (Del key)) answer old new =
      SearchesFirst old new key (λ mid search. DeleteFollows mid new key search answer) × TransfersWithin old new
  AnswersRequest (Some (Get key)) answer old new = OnlySearches old new key got answer
  AnswersRequest (Some (Stamp key)) answer old new = OnlySearches old new key stamp_got answer
  AnswersRequest (Some (Range low high)) answer old new = ⊥
  AnswersRequest (Some (Scan low most)) answer old new = ⊥
  AnswersRequest (Some Count) answer old new = (answer ≡ reply.Counted old.count) × (new ≡ old)
  AnswersRequest (Some Close) answer old new = ⊥
  AnswersRequest (Some Reopen) answer old new = ⊥

  -- its object counts so many ticks more
  abbrev pub Ticked : (old new : Stored D) → ℕ → Type 0
  Ticked old new ticks = Ticks (spent_of counts old).ticked (spent_of counts new).ticked ticks

  -- the same as a turn, in so many ticks
  abbrev pub AnswersTurn : Stored D → Turn → Stored D → Type 0
  AnswersTurn old turn new = AnswersRequest turn.request turn.answer old new × Ticked old new turn.ticks
