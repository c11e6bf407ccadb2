-- What turns keep, of the account of reads and of its calm, and the bounds of a store that counts.
use Rattle.std.proofs.Common.{◌≡◌, ℕ, Bool, ◌+◌, ◌-◌, ◌*◌, ◌<◌, ◌≤◌, true, false, List, Option, Some, None, Result, Ok, Err, sym, ap, subst, ◌∙◌, arith}
use Rattle.cola_outside.specs.Faults.{Rose}
use Rattle.cola_transfers.specs.Credit.{last_value}
use Rattle.cola_cell.specs.declared.cell.Item.{Item}
use Rattle.cola_cell.specs.declared.fault.ReadFault.{ReadFault}
use Rattle.cola_cell.specs.declared.fault.StepFault.{StepFault}
use Rattle.cola_cell.specs.Held.{Stamped}
use Rattle.cola_cell.specs.declared.fault.StepFault.TheVariants as step
use Rattle.cola_device.specs.declared.counts.Counts.{Counts}
use Rattle.cola_layout.specs.declared.geometry.Geometry.{Geometry}
use Rattle.cola_spec.specs.Map.{Shape, Map, PutOutcome, put_outcome, put_if_outcome, New, Old, Full, Worn, Other, Shape}
use Rattle.cola_spec.specs.Reply.{Reply}
use Rattle.cola_spec.specs.Reply as reply
use Rattle.cola_table.specs.declared.Put.{Put}
use Rattle.cola_table.specs.declared.PutIf.{PutIf}
use Rattle.cola_table.specs.declared.PutFault.{PutFault}
use Rattle.cola_table.specs.declared.PutFault.TheVariants as fault
use Rattle.cola_table.specs.Answers.{PutRefused, PutAnswers, PutIfAnswers, DeleteAnswers, PutFaults, StepFaults}
use Rattle.cola_table.specs.Replies.{put_refused, put_reply, put_if_reply, delete_reply, step_failure}
use Rattle.cola_run.proofs.News.{blocks-are}
use Rattle.cola_chain.specs.Account.{AreBounded, sums_of}
use Rattle.cola_chain.proofs.Account.{bounded}
use Rattle.cola_store.specs.declared.account.Account.{Account}
use Rattle.cola_store.specs.Store.{Stored, IsStored, Holds, HasRead, held_of, spent_of, geometry_of, levels_of}
use Rattle.cola_store.specs.Calls.{Searches, Steps, Concludes, Removes, PutFollows, PutIfFollows, DeleteFollows, SearchesFirst, stepped}
use Rattle.cola_store.specs.Transfers.{IsCounting, WritesFew, ReadsFew}
use Rattle.cola_store.proofs.Storing.{not-last}

-- A property of stores that each step with this answer keeps: a turn has it in the end, where its search does

module _ {D : Type 0} (bytes : D → Option (List ℕ)) (counts : D → Counts) (P : Stored D → Type 0) (new : Stored D) (answer : Reply)
    (keeps : (old : Stored D) (key : List ℕ) (item : Item) (count last : ℕ) (says : Reply) (step : Result (Unit {0}) StepFault) → Steps bytes counts old new key item count last step → answer ≡ stepped says step → P old → P new) where
  same-kept : (old : Stored D) → new ≡ old → P old → P new
  same-kept old same has = subst (λ (s : Stored D). P s) (sym same) has

  concludes-kept : (o : PutOutcome) (old : Stored D) (key value : List ℕ) (x : Option Stamped) → Concludes bytes counts o old new key value x answer → P old → P new
  concludes-kept New old key value x w = keeps old key _ _ _ _ w.step w.steps w.answer_is
  concludes-kept (Old v) old key value x w = keeps old key _ _ _ _ w.step w.steps w.answer_is
  concludes-kept Full old key value x w = same-kept old w.same
  concludes-kept Worn old key value x w = same-kept old w.same
  concludes-kept (Other n) old key value x w = same-kept old w.same

  removes-kept : (x : Option (List ℕ)) (old : Stored D) (key : List ℕ) → Removes bytes counts old new key x answer → P old → P new
  removes-kept None old key w = same-kept old w.same
  removes-kept (Some v) old key w = keeps old key _ _ _ _ w.step w.steps w.answer_is

  put-follows : (search : Result (Option Item) ReadFault) (old : Stored D) (key value : List ℕ) → PutFollows bytes counts old new key value search answer → P old → P new
  put-follows (Ok found) old key value w = concludes-kept _ old key value _ w
  put-follows (Err fault) old key value w = same-kept old w.same

  put-if-follows : (search : Result (Option Item) ReadFault) (old : Stored D) (key : List ℕ) (seen : ℕ) (value : List ℕ) → PutIfFollows bytes counts old new key seen value search answer → P old → P new
  put-if-follows (Ok found) old key seen value w = concludes-kept _ old key value _ w
  put-if-follows (Err fault) old key seen value w = same-kept old w.same

  delete-follows : (search : Result (Option Item) ReadFault) (old : Stored D) (key : List ℕ) → DeleteFollows bytes counts old new key search answer → P old → P new
  delete-follows (Ok found) old key w = removes-kept _ old key w
  delete-follows (Err fault) old key w = same-kept old w.same

  module _ (old : Stored D) (key : List ℕ) (searched : (mid : Stored D) (search : Result (Option Item) ReadFault) → Searches bytes counts old mid key search → P mid) where
    pub put-kept : (value : List ℕ) → SearchesFirst bytes counts old new key (λ mid search. PutFollows bytes counts mid new key value search answer) → P new
    put-kept value a = put-follows a.search a.mid key value a.follows (searched a.mid a.search a.searches)

    pub put-if-kept : (seen : ℕ) (value : List ℕ) → SearchesFirst bytes counts old new key (λ mid search. PutIfFollows bytes counts mid new key seen value search answer) → P new
    put-if-kept seen value a = put-if-follows a.search a.mid key seen value a.follows (searched a.mid a.search a.searches)

    pub delete-kept : SearchesFirst bytes counts old new key (λ mid search. DeleteFollows bytes counts mid new key search answer) → P new
    delete-kept a = delete-follows a.search a.mid key a.follows (searched a.mid a.search a.searches)

-- Calm: on a store that stands for a map, a turn leaves it, unless a fault of the device was counted

-- an answer that is no refusal of a step
abbrev NoStepFailed : Reply → Type 0
NoStepFailed answer = (f : StepFault) → answer ≡ reply.Failed (step_failure f) → ⊥

put-refused : (A : Type 0) (o : PutOutcome) (f : PutFault) (before now : ℕ) → PutRefused o f → PutFaults {A = A} (Err f) before now → (Rose before now → ⊥) → NoStepFailed (put_refused f)
put-refused A o fault.Full before now refused faults calm = λ f is. cc
put-refused A o fault.Worn before now refused faults calm = λ f is. cc
put-refused A o fault.Device before now refused faults calm = λ f is. calm faults
put-refused A o (fault.BadCell n) before now refused faults calm = λ f is. refused
put-refused A o (fault.Overfull n) before now refused faults calm = λ f is. refused

pub put-not-failed : (shape : Shape) (m : Map) (key value : List ℕ) (After : Map → Type 0) (result : Result (Put × ℕ) PutFault) (before now : ℕ) → PutAnswers shape m key value After result → PutFaults result before now → (Rose before now → ⊥) → NoStepFailed (put_reply result)
put-not-failed shape m key value After (Ok a) before now answers faults calm = λ f is. cc
put-not-failed shape m key value After (Err f) before now answers faults calm = put-refused (Put × ℕ) (put_outcome shape m key) f before now answers.0 faults calm

pub put-if-not-failed : (shape : Shape) (m : Map) (key : List ℕ) (seen : ℕ) (value : List ℕ) (After : Map → Type 0) (result : Result (PutIf × ℕ) PutFault) (before now : ℕ) → PutIfAnswers shape m key seen value After result → PutFaults result before now → (Rose before now → ⊥) →
    NoStepFailed (put_if_reply result)
put-if-not-failed shape m key seen value After (Ok a) before now answers faults calm = λ f is. cc
put-if-not-failed shape m key seen value After (Err f) before now answers faults calm = put-refused (PutIf × ℕ) (put_if_outcome shape m key seen) f before now answers.0 faults calm

pub delete-not-failed : (m : Map) (key : List ℕ) (After : Map → Type 0) (result : Result (Option (List ℕ) × ℕ) StepFault) (before now : ℕ) → DeleteAnswers m key After result → StepFaults result before now → (Rose before now → ⊥) → NoStepFailed (delete_reply result)
delete-not-failed m key After (Ok a) before now answers faults calm = λ f is. cc
delete-not-failed m key After (Err step.Device) before now answers faults calm = λ f is. calm faults
delete-not-failed m key After (Err (step.BadCell n)) before now answers faults calm = λ f is. answers.0
delete-not-failed m key After (Err (step.Overfull n)) before now answers faults calm = λ f is. answers.0

module _ {D : Type 0} (bytes : D → Option (List ℕ)) (counts : D → Counts) where
  pub step-calm : (calm : Bool) (new : Stored D) (answer : Reply) → NoStepFailed answer → (old : Stored D) (key : List ℕ) (item : Item) (count last : ℕ) (says : Reply) (step : Result (Unit {0}) StepFault) → Steps bytes counts old new key item count last step →
      answer ≡ stepped says step → old.account.calm ≡ calm → new.account.calm ≡ calm
  step-calm calm new answer fine old key item count last says (Ok a) s is was = ap (λ (x : Account). x.calm) s.by.account_is ∙ was
  step-calm calm new answer fine old key item count last says (Err f) s is was = absurd (fine f is)

  pub search-calm : (old new : Stored D) (key : List ℕ) (search : Result (Option Item) ReadFault) → Searches bytes counts old new key search → new.account.calm ≡ old.account.calm
  search-calm old new key search s = ap (λ (x : Account). x.calm) s.counted

-- The account of reads

-- a search more turns to a block more for each level
search-more : (turned now opened opened' levels levels' reads reads' searches searches' : ℕ) → opened' ≡ opened → levels' ≡ levels → reads' ≡ reads → searches' ≡ searches + 1 →
    now ≤ turned + levels → turned ≤ opened + (levels + 3) + reads + levels * searches → now ≤ opened' + (levels' + 3) + reads' + levels' * searches'
search-more turned now opened opened' levels levels' reads reads' searches searches' o l r s rises was =
    rw (o, l, r, s) (
    let e : levels * (searches + 1) ≡ levels * searches + levels = grind arith in
    omega (arith, e, rises, was))

-- a step more turns to as many blocks as it is counted for
step-more : (turned now opened opened' levels levels' reads reads' searches searches' : ℕ) → opened' ≡ opened → levels' ≡ levels → searches' ≡ searches → reads' ≡ reads + (now - turned) →
    turned ≤ opened + (levels + 3) + reads + levels * searches → now ≤ opened' + (levels' + 3) + reads' + levels' * searches'
step-more turned now opened opened' levels levels' reads reads' searches searches' o l s r was =
    rw (o, l, s) (omega (arith, r, was))

module _ {D : Type 0} (bytes : D → Option (List ℕ)) (counts : D → Counts) where
  pub search-reads : (old new : Stored D) (m : Map) (key : List ℕ) (search : Result (Option Item) ReadFault) → Holds bytes old m → Searches bytes counts old new key search → HasRead counts old → HasRead counts new
  search-reads old new m key search holds s has = λ calm few few_searches.
      let within = s.on_map m holds in
      let one = not-last old.account.searches 1 new.account.searches (ap (λ (a : Account). a.searches) s.counted) few_searches in
      let was = has (sym (ap (λ (a : Account). a.calm) s.counted) ∙ calm) (subst (λ (n : ℕ). n < last_value) s.same.reads_are few) one.1 in
      search-more (spent_of counts old).turned (spent_of counts new).turned old.account.opened.reads new.account.opened.reads (levels_of old) (levels_of new) old.chain.reads new.chain.reads old.account.searches new.account.searches
      (ap (λ (a : Account). a.opened.reads) s.counted) (ap (λ (q : Geometry). q.bottom + 1) s.same.geometry_is) s.same.reads_are one.0 within.turned_rises was

  step-reads : {A : Type 0} (old new : Stored D) (key : List ℕ) (item : Item) (count last : ℕ) (step : Result A StepFault) → Steps bytes counts old new key item count last step → HasRead counts old → HasRead counts new
  step-reads old new key item count last (Ok a) s has = λ calm few few_searches.
      let account = s.by.account_is in
      let more = not-last old.chain.reads ((spent_of counts new).turned - (spent_of counts old).turned) new.chain.reads s.counts_step.1 few in
      let searches : new.account.searches ≡ old.account.searches = ap (λ (a : Account). a.searches) account in
      let was = has (sym (ap (λ (a : Account). a.calm) account) ∙ calm) more.1 (subst (λ (n : ℕ). n < last_value) searches few_searches) in
      step-more (spent_of counts old).turned (spent_of counts new).turned old.account.opened.reads new.account.opened.reads (levels_of old) (levels_of new) old.chain.reads new.chain.reads old.account.searches new.account.searches
      (ap (λ (a : Account). a.opened.reads) account) (ap (λ (q : Geometry). q.bottom + 1) s.geometry_is) searches more.0 was
  step-reads old new key item count last (Err fault) s has = λ calm few few_searches.
      let no : false ≡ true = sym (ap (λ (a : Account). a.calm) s.by.account_is) ∙ calm in
      cc

  pub put-turn : (old new : Stored D) (m : Map) (key value : List ℕ) (answer : Reply) → Holds bytes old m → SearchesFirst bytes counts old new key (λ mid search. PutFollows bytes counts mid new key value search answer) → HasRead counts old → HasRead counts new
  put-turn old new m key value answer holds a has =
      put-kept bytes counts (λ s. HasRead counts s) new answer (λ o k i c l says step s is. step-reads o new k i c l step s) old key (λ mid search s. search-reads old mid m key search holds s has) value a

  pub put-if-turn : (old new : Stored D) (m : Map) (key : List ℕ) (seen : ℕ) (value : List ℕ) (answer : Reply) → Holds bytes old m → SearchesFirst bytes counts old new key (λ mid search. PutIfFollows bytes counts mid new key seen value search answer) → HasRead counts old → HasRead counts new
  put-if-turn old new m key seen value answer holds a has =
      put-if-kept bytes counts (λ s. HasRead counts s) new answer (λ o k i c l says step s is. step-reads o new k i c l step s) old key (λ mid search s. search-reads old mid m key search holds s has) seen value a

  pub delete-turn : (old new : Stored D) (m : Map) (key : List ℕ) (answer : Reply) → Holds bytes old m → SearchesFirst bytes counts old new key (λ mid search. DeleteFollows bytes counts mid new key search answer) → HasRead counts old → HasRead counts new
  delete-turn old new m key answer holds a has =
      delete-kept bytes counts (λ s. HasRead counts s) new answer (λ o k i c l says step s is. step-reads o new k i c l step s) old key (λ mid search s. search-reads old mid m key search holds s has) a

  -- The bounds

  within-bounds : (store : Stored D) → IsStored bytes counts store → IsCounting store → AreBounded (geometry_of store) store.chain.accepted store.chain.reads store.chain.writes
  within-bounds store is c =
      bounded (geometry_of store) store.chain.accepted 0 0 store.chain.clock 0 store.chain.levels (sums_of (held_of bytes store) (spent_of counts store) store.chain.reads store.chain.writes) is.many
      c.steps_few c.reads_few c.writes_few (is.paid c.calm).paid

  pub writes-bound : (store : Stored D) → IsStored bytes counts store → IsCounting store → WritesFew counts store
  writes-bound store is c =
      let most = (within-bounds store is c).writes_most in
      let blocks = blocks-are (geometry_of store) in
      let so = is.written c.calm c.writes_few in
      omega (arith, most, blocks, so)

  pub reads-bound : (store : Stored D) → IsStored bytes counts store → HasRead counts store → IsCounting store → ReadsFew counts store
  reads-bound store is has c =
      let most = (within-bounds store is c).reads_most in
      let blocks = blocks-are (geometry_of store) in
      let so = has c.calm c.reads_few c.searches_few in
      omega (arith, most, blocks, so)
