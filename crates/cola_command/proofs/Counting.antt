-- What a turn on an open store adds to what the store counts.
use Rattle.std.proofs.Common.{◌≡◌, ℕ, ◌+◌, ◌-◌, ◌<◌, ◌≤◌, min, List, [], ◌∷◌, Option, Some, None, Result, Ok, Err, inl, inr, refl, sym, ◌∙◌, ap, subst, arith}
use Rattle.cola_cell.specs.declared.cell.Item.{Item}
use Rattle.cola_cell.specs.declared.fault.ReadFault.{ReadFault}
use Rattle.cola_cell.specs.declared.fault.StepFault.{StepFault}
use Rattle.cola_cell.specs.Held.{Stamped}
use Rattle.cola_cursor.specs.declared.cursor.Cursor.{Cursor}
use Rattle.cola_device.specs.declared.counts.Counts.{Counts}
use Rattle.cola_device.specs.declared.device.Device as device
use Rattle.cola_io.specs.declared.sink.Sink as sink
use Rattle.cola_spec.specs.Map.{Map, PutOutcome, New, Old, Full, Worn, Other}
use Rattle.cola_spec.specs.Bounds.{put_bound}
use Rattle.cola_spec.specs.Command.{Command, Put, PutIf, Del, Get, Stamp, Range, Scan, Count, Close, Reopen}
use Rattle.cola_spec.specs.Reply as reply
use Rattle.cola_spec.specs.Reply.{Reply}
use Rattle.cola_spec.specs.Machine.{Turn}
use Rattle.cola_table.specs.declared.table.Table as table
use Rattle.cola_table.specs.Replies.{turn_of, read_failure, step_failure}
use Rattle.cola_transfers.specs.Credit.{last_value}
use Rattle.cola_line.specs.Given.{Pair, Gave, Ended, RowsGiven, Given}
use Rattle.cola_store.specs.declared.account.Account.{Account}
use Rattle.cola_store.specs.Store.{Stored, Holds, HasRead, spent_of, levels_of}
use Rattle.cola_store.specs.Calls.{Same, Searches, Steps, Refuses, Concludes, Removes, PutFollows, PutIfFollows, DeleteFollows, TransfersWithin, AnswersTurn, got, stamp_got, stepped}
use Rattle.cola_store.specs.Walks.{Begins, Goes}
use Rattle.cola_store.proofs.Rising.{search-reads, put-turn, put-if-turn, delete-turn}
use Rattle.cola_command.specs.RunTransfers.{mutated, searched, AsksNoRows}
use Rattle.cola_command.specs.Moves.{CountsCall}
use Rattle.cola_store.specs.Table.{store_table}

-- a count that does not come to the last value
counted-more : (most n more now : ℕ) → now ≡ min (n + more) most → n + more < most → now ≡ n + more
counted-more most n more now is few = omega (arith, is, few)

-- what a step reads and writes, of what a whole call does
rises-within : (bound first mid last first' mid' last' before between now : ℕ) → last + last' ≤ first + first' + bound → first ≤ mid → mid' ≡ first' → mid ≤ last → mid' ≤ last' → now ≡ min (between + (last - mid)) last_value → between ≡ before → now ≤ before + bound
rises-within bound first mid last first' mid' last' before between now within a b c e is same = omega (arith, within, a, b, c, e, is, same)

written-within : (bound first mid last first' mid' last' before between now : ℕ) → last + last' ≤ first + first' + bound → first ≤ mid → mid' ≡ first' → mid ≤ last → mid' ≤ last' → now ≡ min (between + (last' - mid')) last_value → between ≡ before → now ≤ before + bound
written-within bound first mid last first' mid' last' before between now within a b c e is same = omega (arith, within, a, b, c, e, is, same)

-- an answer that is no refusal
abbrev pub NotFailed : Reply → Type 0
NotFailed answer = (f : reply.Failure) → answer ≡ reply.Failed f → ⊥

module _ {D : Type 0} (bytes : D → Option (List ℕ)) (counts : D → Counts) where
  -- the store's own meanings are these
  pub record Means (t : table.Ghosts (Stored D) Cursor) : Type 0 where
    pub answers : (old : Stored D) (turn : Turn) (new : Stored D) → t.answers old turn new → AnswersTurn bytes counts old turn new
    pub begins : (old : Stored D) (low : List ℕ) (high : Option (List ℕ)) (result : Result Cursor ReadFault) (new : Stored D) → t.begins old low high result new → Begins bytes counts old low high result new
    pub goes : (old : Stored D) (walk : Cursor) (result : Result (Option Pair) ReadFault) (new : Stored D) (after : Cursor) → t.goes old walk result new after → Goes bytes counts old walk result new after

  -- nothing is counted
  pub calls-none : (store : Stored D) → CountsCall store store 0 0
  calls-none store = record {
    opened_is = refl;
    calm_is = refl;
    steps_are = λ few. omega arith;
    searches_are = λ few. omega arith;
    reads_rise = omega arith;
    writes_rise = omega arith;
  }

  -- a search is
  search-calls : (old mid : Stored D) (key : List ℕ) (search : Result (Option Item) ReadFault) → Searches bytes counts old mid key search → CountsCall old mid 0 1
  search-calls old mid key search s = record {
    opened_is = ap (λ (a : Account). a.opened) s.counted;
    calm_is = ap (λ (a : Account). a.calm) s.counted;
    steps_are = λ few. let e = s.same.steps_are in omega (arith, e);
    searches_are = λ few. counted-more last_value old.account.searches 1 mid.account.searches (ap (λ (a : Account). a.searches) s.counted) few;
    reads_rise = let e = s.same.reads_are in omega (arith, e);
    writes_rise = let e = s.same.writes_are in omega (arith, e);
  }

  -- a search and a step are
  step-calls : {A : Type 0} (old mid new : Stored D) (key : List ℕ) (search : Result (Option Item) ReadFault) (item : Item) (count last : ℕ) (a : A) → Searches bytes counts old mid key search → TransfersWithin bytes counts old new
      → Steps bytes counts mid new key item count last (Ok a) → CountsCall old new 1 1
  step-calls old mid new key search item count last a s within step =
      let account = step.by.account_is in
      let before = spent_of counts old in
      let between = spent_of counts mid in
      let after = spent_of counts new in
      record {
        opened_is = ap (λ (x : Account). x.opened) account ∙ ap (λ (x : Account). x.opened) s.counted;
        calm_is = ap (λ (x : Account). x.calm) account ∙ ap (λ (x : Account). x.calm) s.counted;
        steps_are = λ few. counted-more last_value old.chain.accepted 1 new.chain.accepted (step.counts_step.0 ∙ ap (λ (n : ℕ). min (n + 1) last_value) s.same.steps_are) few;
        searches_are = λ few. counted-more last_value old.account.searches 1 new.account.searches (ap (λ (x : Account). x.searches) account ∙ ap (λ (x : Account). x.searches) s.counted) few;
        reads_rise = rises-within (put_bound (levels_of old)) before.turned between.turned after.turned before.written between.written after.written old.chain.reads mid.chain.reads new.chain.reads
            within.transfers s.reads.turned_stays s.reads.written_is step.turned_stays step.written_stays step.counts_step.1 s.same.reads_are;
        writes_rise = written-within (put_bound (levels_of old)) before.turned between.turned after.turned before.written between.written after.written old.chain.writes mid.chain.writes new.chain.writes
            within.transfers s.reads.turned_stays s.reads.written_is step.turned_stays step.written_stays step.counts_step.2 s.same.writes_are;
      }

  -- what is counted for an answer
  abbrev CountsFor : Stored D → Stored D → Reply → Type 0
  CountsFor old new answer = CountsCall old new (mutated answer) (searched answer)

  counts-as : (old new : Stored D) (answer says : Reply) (m s : ℕ) → answer ≡ says → mutated says ≡ m → searched says ≡ s → CountsCall old new m s → CountsFor old new answer
  counts-as old new answer says m s is mutations searches calls =
      subst (λ (n : ℕ). CountsCall old new n (searched answer)) (sym (ap mutated is ∙ mutations)) (subst (λ (n : ℕ). CountsCall old new m n) (sym (ap searched is ∙ searches)) calls)

  module _ (old mid new : Stored D) (key : List ℕ) (search : Result (Option Item) ReadFault) (s : Searches bytes counts old mid key search) (within : TransfersWithin bytes counts old new) (answer : Reply) (fine : NotFailed answer) where
    written-calls : (item : Item) (count last : ℕ) (says : Reply) (step : Result (Unit {0}) StepFault) → Steps bytes counts mid new key item count last step → answer ≡ stepped says step → mutated says ≡ 1 → searched says ≡ 1 → CountsFor old new answer
    written-calls item count last says (Ok a) step is mutations searches = counts-as old new answer says 1 1 is mutations searches (step-calls old mid new key search item count last a s within step)
    written-calls item count last says (Err f) step is mutations searches = absurd (fine (step_failure f) is)

    refused-calls : (says : Reply) → Refuses bytes counts mid new says answer → mutated says ≡ 0 → searched says ≡ 1 → CountsFor old new answer
    refused-calls says w mutations searches = counts-as old new answer says 0 1 w.answer_is mutations searches (subst (λ (x : Stored D). CountsCall old x 0 1) (sym w.same) (search-calls old mid key search s))

    concludes-calls : (o : PutOutcome) (value : List ℕ) (x : Option Stamped) → Concludes bytes counts o mid new key value x answer → CountsFor old new answer
    concludes-calls New value x w = written-calls _ _ _ (reply.Put New) w.step w.steps w.answer_is refl refl
    concludes-calls (Old v) value x w = written-calls _ _ _ (reply.Put (Old v)) w.step w.steps w.answer_is refl refl
    concludes-calls Full value x w = refused-calls (reply.Put Full) w refl refl
    concludes-calls Worn value x w = refused-calls (reply.Put Worn) w refl refl
    concludes-calls (Other n) value x w = refused-calls (reply.Put (Other n)) w refl refl

    removes-calls : (x : Option (List ℕ)) → Removes bytes counts mid new key x answer → CountsFor old new answer
    removes-calls None w = refused-calls (reply.Deleted None) w refl refl
    removes-calls (Some v) w = written-calls _ _ _ (reply.Deleted (Some v)) w.step w.steps w.answer_is refl refl

  module _ (old new : Stored D) (key : List ℕ) (answer : Reply) (fine : NotFailed answer) where
    put-calls : (mid : Stored D) (search : Result (Option Item) ReadFault) (value : List ℕ) → Searches bytes counts old mid key search → TransfersWithin bytes counts old new → PutFollows bytes counts mid new key value search answer → CountsFor old new answer
    put-calls mid (Ok found) value s within w = concludes-calls old mid new key (Ok found) s within answer fine _ value _ w
    put-calls mid (Err f) value s within w = absurd (fine (read_failure f) w.answer_is)

    put-if-calls : (mid : Stored D) (search : Result (Option Item) ReadFault) (seen : ℕ) (value : List ℕ) → Searches bytes counts old mid key search → TransfersWithin bytes counts old new → PutIfFollows bytes counts mid new key seen value search answer → CountsFor old new answer
    put-if-calls mid (Ok found) seen value s within w = concludes-calls old mid new key (Ok found) s within answer fine _ value _ w
    put-if-calls mid (Err f) seen value s within w = absurd (fine (read_failure f) w.answer_is)

    delete-calls : (mid : Stored D) (search : Result (Option Item) ReadFault) → Searches bytes counts old mid key search → TransfersWithin bytes counts old new → DeleteFollows bytes counts mid new key search answer → CountsFor old new answer
    delete-calls mid (Ok found) s within w = removes-calls old mid new key (Ok found) s within answer fine _ w
    delete-calls mid (Err f) s within w = absurd (fine (read_failure f) w.answer_is)

    got-calls : (says : Result (Option Item) ReadFault → Reply) → ((found : Option Item) → (mutated (says (Ok found)) ≡ 0) × (searched (says (Ok found)) ≡ 1)) → ((f : ReadFault) → says (Err f) ≡ reply.Failed (read_failure f)) → (search : Result (Option Item) ReadFault) → Searches bytes counts old new key search → answer ≡ says search → CountsFor old new answer
    got-calls says none failed (Ok found) s is = counts-as old new answer (says (Ok found)) 0 1 is (none found).0 (none found).1 (search-calls old new key (Ok found) s)
    got-calls says none failed (Err f) s is = absurd (fine (read_failure f) (is ∙ failed f))

  -- Rows

  -- nothing that is counted changed
  record Uncounted (old new : Stored D) : Type 0 where
    account_is : new.account ≡ old.account
    steps_are : new.chain.accepted ≡ old.chain.accepted
    reads_are : new.chain.reads ≡ old.chain.reads
    writes_are : new.chain.writes ≡ old.chain.writes

  uncounted-none : (old new : Stored D) → new ≡ old → Uncounted old new
  uncounted-none old new same = subst (λ (x : Stored D). Uncounted old x) (sym same) (record { account_is = refl; steps_are = refl; reads_are = refl; writes_are = refl })

  uncounted-then : (old mid new : Stored D) → Uncounted old mid → Uncounted mid new → Uncounted old new
  uncounted-then old mid new a b = record { account_is = b.account_is ∙ a.account_is; steps_are = b.steps_are ∙ a.steps_are; reads_are = b.reads_are ∙ a.reads_are; writes_are = b.writes_are ∙ a.writes_are }

  uncounted-same : (old new : Stored D) → Same bytes counts old new → new.account ≡ old.account → Uncounted old new
  uncounted-same old new same account = record { account_is = account; steps_are = same.steps_are; reads_are = same.reads_are; writes_are = same.writes_are }

  calls-uncounted : (old new : Stored D) → Uncounted old new → CountsCall old new 0 0
  calls-uncounted old new u = record {
    opened_is = ap (λ (a : Account). a.opened) u.account_is;
    calm_is = ap (λ (a : Account). a.calm) u.account_is;
    steps_are = λ few. let e = u.steps_are in omega (arith, e);
    searches_are = λ few. let e = ap (λ (a : Account). a.searches) u.account_is in omega (arith, e);
    reads_rise = let e = u.reads_are in omega (arith, e);
    writes_rise = let e = u.writes_are in omega (arith, e);
  }

  module _ (t : table.Ghosts (Stored D) Cursor) (means : Means t) where
    begun : (old : Stored D) (low : List ℕ) (high : Option (List ℕ)) (result : Result Cursor ReadFault) (new : Stored D) → t.begins old low high result new → Uncounted old new
    begun old low high result new b = let is = means.begins old low high result new b in uncounted-same old new is.same is.account_is

    gone : (old : Stored D) (walk : Cursor) (result : Result (Option Pair) ReadFault) (new : Stored D) (after : Cursor) → t.goes old walk result new after → Uncounted old new
    gone old walk result new after g = let is = means.goes old walk result new after g in uncounted-same old new is.same is.account_is

    gave : (pairs : List Pair) (old : Stored D) (walk : Cursor) (new : Stored D) (walk' : Cursor) → Gave t old walk pairs new walk' → Uncounted old new
    gave [] old walk new walk' g = uncounted-none old new g.0
    gave (pair ∷ pairs) old walk new walk' (u, (v, (goes, rest))) = uncounted-then old u new (gone old walk (Ok (Some pair)) u v goes) (gave pairs u v new walk' rest)

  row-calls : (old new : Stored D) (answer says : Reply) → answer ≡ says → mutated says ≡ 0 → searched says ≡ 0 → Uncounted old new → CountsFor old new answer
  row-calls old new answer says is m s u = counts-as old new answer says 0 0 is m s (calls-uncounted old new u)

  -- A turn

  -- what a turn on an open store that stands for a map counts, and, where it is no range, that the account of reads is kept
  pub record TurnCounts (old new : Stored D) (command : Command) (answer : Reply) : Type 0 where
    pub calls : CountsFor old new answer
    pub reads_kept : AsksNoRows (Some command) → HasRead counts old → HasRead counts new

  module _ {K A E : Type 0} (t : table.Ghosts (Stored D) Cursor) (k : sink.Ghosts K) (means : Means t) where
    ended-calls : (most : Option ℕ) (result : Result A E) (rows : List Pair) (first old : Stored D) (walk : Cursor) (sink : K) (answer : Reply) (new : Stored D) (sink' : K) → Uncounted first old → Ended t k most result rows old walk sink answer new sink' → CountsFor first new answer
    ended-calls most result rows first old walk sink answer new sink' u (inl none) = row-calls first new answer (reply.Rows rows) none.answer_is refl refl (uncounted-then first old new u (gone t means old walk (Ok None) new none.after none.goes))
    ended-calls most result rows first old walk sink answer new sink' u (inr (inl unwanted)) = row-calls first new answer (reply.Rows rows) unwanted.answer_is refl refl (uncounted-then first old new u (uncounted-none old new unwanted.table_stays))
    ended-calls most result rows first old walk sink answer new sink' u (inr (inr (inl cut))) = row-calls first new answer (reply.Cut rows (read_failure cut.fault)) cut.answer_is refl refl (uncounted-then first old new u (gone t means old walk (Err cut.fault) new cut.after cut.goes))
    ended-calls most result rows first old walk sink answer new sink' u (inr (inr (inr broken))) = row-calls first new answer _ broken.answer_is refl refl (uncounted-then first old new u (uncounted-none old new broken.table_stays))

    pub rows-calls : (low : List ℕ) (high : Option (List ℕ)) (most : Option ℕ) (result : Result A E) (old : Stored D) (sink : K) (answer : Reply) (new : Stored D) (sink' : K) → RowsGiven t k low high most result old sink answer new sink' → CountsFor old new answer
    rows-calls low high most result old sink answer new sink' (inl refused) = row-calls old new answer (reply.Cut [] (read_failure refused.fault)) refused.answer_is refl refl (begun t means old low high (Err refused.fault) new refused.begins)
    rows-calls low high most result old sink answer new sink' (inr r) =
        let w = r.walked in
        ended-calls most result r.rows old r.table r.walk sink answer new sink' (uncounted-then old w.begun r.table (begun t means old low high (Ok w.first) w.begun w.begins) (gave t means r.rows w.begun w.first r.table r.walk w.gave)) r.ended

    pub turn-counts : (command : Command) (answer : Reply) (ticks : ℕ) (result : Result A E) (old new : Stored D) (sink sink' : K) (m : Map) → Holds bytes old m → NotFailed answer → Given t k command result old sink (turn_of command answer ticks) new sink' → TurnCounts old new command answer
    turn-counts (Put key value) answer ticks result old new sink sink' m holds fine given =
        let a = (means.answers old (turn_of (Put key value) answer ticks) new given).0 in
        record { calls = put-calls old new key answer fine a.0.mid a.0.search value a.0.searches a.1 a.0.follows; reads_kept = λ none. put-turn bytes counts old new m key value answer holds a.0 }
    turn-counts (PutIf key seen value) answer ticks result old new sink sink' m holds fine given =
        let a = (means.answers old (turn_of (PutIf key seen value) answer ticks) new given).0 in
        record { calls = put-if-calls old new key answer fine a.0.mid a.0.search seen value a.0.searches a.1 a.0.follows; reads_kept = λ none. put-if-turn bytes counts old new m key seen value answer holds a.0 }
    turn-counts (Del key) answer ticks result old new sink sink' m holds fine given =
        let a = (means.answers old (turn_of (Del key) answer ticks) new given).0 in
        record { calls = delete-calls old new key answer fine a.0.mid a.0.search a.0.searches a.1 a.0.follows; reads_kept = λ none. delete-turn bytes counts old new m key answer holds a.0 }
    turn-counts (Get key) answer ticks result old new sink sink' m holds fine given =
        let a = (means.answers old (turn_of (Get key) answer ticks) new given).0 in
        record { calls = got-calls old new key answer fine got (λ found. (refl, refl)) (λ f. refl) a.search a.searches a.answer_is; reads_kept = λ none. search-reads bytes counts old new m key a.search holds a.searches }
    turn-counts (Stamp key) answer ticks result old new sink sink' m holds fine given =
        let a = (means.answers old (turn_of (Stamp key) answer ticks) new given).0 in
        record { calls = got-calls old new key answer fine stamp_got (λ found. (refl, refl)) (λ f. refl) a.search a.searches a.answer_is; reads_kept = λ none. search-reads bytes counts old new m key a.search holds a.searches }
    turn-counts (Range low high) answer ticks result old new sink sink' m holds fine given = record { calls = rows-calls low (Some high) None result old sink answer new sink' given; reads_kept = λ none. absurd none }
    turn-counts (Scan low most) answer ticks result old new sink sink' m holds fine given = record { calls = rows-calls low None (Some most) result old sink answer new sink' given; reads_kept = λ none. absurd none }
    turn-counts Count answer ticks result old new sink sink' m holds fine given =
        let a = (means.answers old (turn_of Count answer ticks) new given).0 in
        record { calls = counts-as old new answer (reply.Counted old.count) 0 0 a.0 refl refl (calls-uncounted old new (uncounted-none old new a.1)); reads_kept = λ none has. subst (λ (x : Stored D). HasRead counts x) (sym a.1) has }
    turn-counts Close answer ticks result old new sink sink' m holds fine given = absurd (means.answers old (turn_of Close answer ticks) new given).0
    turn-counts Reopen answer ticks result old new sink sink' m holds fine given = absurd (means.answers old (turn_of Reopen answer ticks) new given).0

-- an open store as a table has these meanings
pub table-means : {D : Type 0} (d : device.Ghosts D) → Means d.bytes d.counts (store_table d)
table-means d = record { answers = λ old turn new a. a; begins = λ old low high result new b. b; goes = λ old walk result new after g. g }
