-- What a table gave in a walk, pair by pair, what was written of it, and how it ended.
use Rattle.std.proofs.Common.{◌≡◌, ℕ, ◌+◌, true, false, inl, inr, List, [], ◌∷◌, ◌++◌, length, drop, Option, Some, None, Result, Ok, Err, refl, ap, ◌∙◌, subst, codes, decimal}
use Rattle.cola_cell.specs.declared.fault.ReadFault.{ReadFault}
use Rattle.cola_io.specs.Streams.{Appended}
use Rattle.cola_io.specs.declared.sink.Sink as sink
use Rattle.cola_spec.specs.Map.{Map, pairs_between}
use Rattle.cola_spec.specs.Reply.{Reply, Failure, Rows, Cut, Failed, row_text, line, reply_text}
use Rattle.cola_table.specs.declared.table.Table as table
use Rattle.cola_table.specs.Answers.{RangeAnswers, NextAnswers, ReadFaults}
use Rattle.cola_table.specs.Replies.{read_failure}
use Rattle.cola_line.specs.declared.command.Command.{Command}
use Rattle.cola_line.specs.declared.command.Command.TheVariants as code
use Rattle.cola_line.specs.Spoken.{IsOfTable, IsOfOneLine}
use Rattle.cola_line.specs.Replied.{Wrote}
use Rattle.cola_line.specs.Given.{Pair, Gave, Walked, wants}
use Rattle.cola_line.specs.Listed.{Listed, first_of}
use Rattle.cola_line.proofs.Listing.{Listing, IsWithin, start_listing, start_within, still_within, one_more_row, one_more_done, wrote_end, wrote_cut, wrote_row, wrote_some, failure_faults, rows_cut, rows_ended, rows_enough, rows_go_on, next_some, next_none}

module _ {T W : Type 0} (t : table.Ghosts T W) where
  gave_more : (old : T) (walk : W) (pairs : List Pair) (u : T) (v : W) (pair : Pair) (new : T) (walk' : W) → Gave t old walk pairs u v → t.goes u v (Ok (Some pair)) new walk' → Gave t old walk (pairs ++ pair ∷ []) new walk'
  gave_more old walk [] u v pair new walk' gave goes =
      (new, (walk', (subst (λ x. t.goes x walk (Ok (Some pair)) new walk') gave.0 (subst (λ x. t.goes u x (Ok (Some pair)) new walk') gave.1 goes), (refl, refl))))
  gave_more old walk (first ∷ pairs) u v pair new walk' gave goes =
      (gave.0, (gave.1.0, (gave.1.1.0, gave_more gave.0 gave.1.0 pairs u v pair new walk' gave.1.1.1 goes)))

  -- the map has these pairs, and then those that are ahead of the walk
  pub record IsAhead (low : List ℕ) (high : Option (List ℕ)) (m : Map) (done : List Pair) (table : T) (walk : W) : Type 0 where
    pub held : t.holds table m
    pub pairs : List Pair
    pub ahead : t.ahead table walk pairs
    pub whole : pairs_between m low high ≡ done ++ pairs

module _ {T W K : Type 0} (t : table.Ghosts T W) (k : sink.Ghosts K) (low : List ℕ) (high : Option (List ℕ)) (most : Option ℕ) (old : T) (sink : K) where
  -- the rows that were given and written so far
  pub record SoFar (rows : ℕ) (table : T) (walk : W) (sink' : K) : Type 0 where
    pub done : List Pair
    pub listing : Listing (k.written sink) (k.written sink') rows done
    pub within : IsWithin most rows
    pub walked : Walked t low high old done table walk
    pub faults : t.faults table ≡ t.faults old
    pub sound : (m : Map) → t.holds old m → IsAhead t low high m done table walk

  -- a range that was begun has given nothing yet
  pub begun : (table : T) (walk : W) → t.begins old low high (Ok walk) table → t.faults table ≡ t.faults old → ((m : Map) → t.holds old m → RangeAnswers m low high (t.holds table) (t.ahead table) (Ok walk)) → SoFar 0 table walk sink
  begun table walk begins faults answer = record {
    done = [];
    listing = start_listing (k.written sink);
    within = start_within most;
    walked = record { begun = table; first = walk; begins = begins; gave = (refl, refl) };
    faults = faults;
    sound = λ m held. let a = answer m held in record { held = a.1; pairs = pairs_between m low high; ahead = a.0; whole = refl };
  }

  -- a range that was refused
  pub range_refused : {A E : Type 0} (result : Result A E) (fault : ReadFault) (failure : Failure) (new : T) (sink' : K) → failure ≡ read_failure fault → t.begins old low high (Err fault) new → ReadFaults {A = W} (Err fault) (t.faults old) (t.faults new) → ((m : Map) → t.holds old m → RangeAnswers m low high (t.holds new) (t.ahead new) (Err fault)) → Wrote (reply_text false 0 (Failed failure)) result (k.written sink) (k.written sink')
      → (m : Map) → (answer : Reply) × Listed t k m low high most result old new sink sink' answer
  range_refused result fault failure new sink' is begins faults answer wrote m = (
    Cut [] failure,
    record {
      wrote = wrote_cut result (k.written sink) (k.written sink) (k.written sink') 0 [] failure (start_listing (k.written sink)) wrote;
      costless = λ cost ticks. refl;
      faults = failure_faults W [] fault failure (t.faults old) (t.faults old) (t.faults new) is refl faults;
      given = inl (record { fault = fault; begins = begins; answer_is = ap (Cut []) is });
      rows = λ held. rows_cut most 0 [] (pairs_between m low high) (pairs_between m low high) fault failure is (answer m held).0 refl refl (start_within most);
    },
  )

  module _ (rows : ℕ) (table : T) (walk : W) (sink' : K) (so_far : SoFar rows table walk sink') where
    -- one more pair was given, and its row was written
    pub one_more : (pair : Pair) (answer : Option Pair) (new : T) (walk' : W) (sink'' : K) → answer ≡ Some pair → wants most rows ≡ true → t.goes table walk (Ok answer) new walk' → t.faults new ≡ t.faults table → ((m : Map) → t.holds table m → t.holds new m) → ((m : Map) (pairs : List Pair) → t.holds table m → t.ahead table walk pairs → NextAnswers (t.ahead new walk') pairs (Ok answer)) → Appended (row_text pair) (k.written sink') (k.written sink'') → SoFar (rows + 1) new walk' sink''
    one_more pair answer new walk' sink'' is wanted goes faults holds ahead wrote = record {
      done = so_far.done ++ pair ∷ [];
      listing = one_more_row (k.written sink) (k.written sink') (k.written sink'') rows so_far.done pair so_far.listing wrote;
      within = still_within most rows wanted;
      walked = record {
        begun = so_far.walked.begun;
        first = so_far.walked.first;
        begins = so_far.walked.begins;
        gave = gave_more t so_far.walked.begun so_far.walked.first so_far.done table walk pair new walk' so_far.walked.gave (subst (λ a. t.goes table walk (Ok a) new walk') is goes);
      };
      faults = faults ∙ so_far.faults;
      sound = λ m held.
          let s = so_far.sound m held in
          let next = next_some (t.ahead new walk') s.pairs answer pair is (ahead m s.pairs s.held s.ahead) in
          record { held = holds m s.held; pairs = next.0; ahead = next.2; whole = one_more_done so_far.done next.0 (pairs_between m low high) s.pairs pair s.whole next.1 };
    }

    -- no more rows were wanted
    pub enough : {A E : Type 0} (result : Result A E) (sink'' : K) → wants most rows ≡ false → Wrote (line (codes "end " ++ decimal rows)) result (k.written sink') (k.written sink'')
        → (m : Map) → (answer : Reply) × Listed t k m low high most result old table sink sink'' answer
    enough result sink'' unwanted wrote m = (
      Rows so_far.done,
      record {
        wrote = wrote_end result (k.written sink) (k.written sink') (k.written sink'') rows so_far.done so_far.listing wrote;
        costless = λ cost ticks. refl;
        faults = so_far.faults;
        given = inr (record {
          rows = so_far.done;
          table = table;
          walk = walk;
          walked = so_far.walked;
          ended = inr (inl (record { unwanted = subst (λ n. wants most n ≡ false) so_far.listing.number unwanted; table_stays = refl; answer_is = refl }));
        });
        rows = λ held. let s = so_far.sound m held in rows_enough most rows so_far.done s.pairs (pairs_between m low high) s.whole so_far.listing.number so_far.within unwanted;
      },
    )

    -- another was wanted, and none was left
    pub none_left : {A E : Type 0} (result : Result A E) (answer : Option Pair) (new : T) (walk' : W) (sink'' : K) → answer ≡ None → wants most rows ≡ true → t.goes table walk (Ok answer) new walk' → t.faults new ≡ t.faults table → ((m : Map) (pairs : List Pair) → t.holds table m → t.ahead table walk pairs → NextAnswers (t.ahead new walk') pairs (Ok answer)) → Wrote (line (codes "end " ++ decimal rows)) result (k.written sink') (k.written sink'')
        → (m : Map) → (answer : Reply) × Listed t k m low high most result old new sink sink'' answer
    none_left result answer new walk' sink'' is wanted goes faults ahead wrote m = (
      Rows so_far.done,
      record {
        wrote = wrote_end result (k.written sink) (k.written sink') (k.written sink'') rows so_far.done so_far.listing wrote;
        costless = λ cost ticks. refl;
        faults = faults ∙ so_far.faults;
        given = inr (record {
          rows = so_far.done;
          table = table;
          walk = walk;
          walked = so_far.walked;
          ended = inl (record {
            wanted = subst (λ n. wants most n ≡ true) so_far.listing.number wanted;
            after = walk';
            goes = subst (λ a. t.goes table walk (Ok a) new walk') is goes;
            answer_is = refl;
          });
        });
        rows = λ held.
            let s = so_far.sound m held in
            let none = next_none (t.ahead new walk') s.pairs answer is (ahead m s.pairs s.held s.ahead) in
            rows_ended most rows so_far.done s.pairs (pairs_between m low high) none.0 s.whole so_far.listing.number so_far.within;
      },
    )

    -- another was wanted, and was refused
    pub cut_short : {A E : Type 0} (result : Result A E) (fault : ReadFault) (failure : Failure) (new : T) (walk' : W) (sink'' : K) → failure ≡ read_failure fault → wants most rows ≡ true → t.goes table walk (Err fault) new walk' → ReadFaults {A = Option Pair} (Err fault) (t.faults table) (t.faults new) → ((m : Map) (pairs : List Pair) → t.holds table m → t.ahead table walk pairs → NextAnswers (t.ahead new walk') pairs (Err fault)) → Wrote (reply_text false 0 (Failed failure)) result (k.written sink') (k.written sink'')
        → (m : Map) → (answer : Reply) × Listed t k m low high most result old new sink sink'' answer
    cut_short result fault failure new walk' sink'' is wanted goes faults ahead wrote m = (
      Cut so_far.done failure,
      record {
        wrote = wrote_cut result (k.written sink) (k.written sink') (k.written sink'') rows so_far.done failure so_far.listing wrote;
        costless = λ cost ticks. refl;
        faults = failure_faults (Option Pair) so_far.done fault failure (t.faults old) (t.faults table) (t.faults new) is so_far.faults faults;
        given = inr (record {
          rows = so_far.done;
          table = table;
          walk = walk;
          walked = so_far.walked;
          ended = inr (inr (inl (record {
            wanted = subst (λ n. wants most n ≡ true) so_far.listing.number wanted;
            fault = fault;
            after = walk';
            goes = goes;
            answer_is = ap (Cut so_far.done) is;
          })));
        });
        rows = λ held.
            let s = so_far.sound m held in
            rows_cut most rows so_far.done s.pairs (pairs_between m low high) fault failure is (ahead m s.pairs s.held s.ahead).0 s.whole so_far.listing.number so_far.within;
      },
    )

    -- one more pair was given, and the sink refused its row: the answer goes on with the other rows of the map
    pub broken_off : (A : Type 0) {E : Type 0} (e : E) (pair : Pair) (answer : Option Pair) (new : T) (walk' : W) (sink'' : K) → answer ≡ Some pair → wants most rows ≡ true → t.goes table walk (Ok answer) new walk' → t.faults new ≡ t.faults table → ((m : Map) (pairs : List Pair) → t.holds table m → t.ahead table walk pairs → NextAnswers (t.ahead new walk') pairs (Ok answer)) → Wrote {A = A} (row_text pair) (Err e) (k.written sink') (k.written sink'')
        → (m : Map) → (answer : Reply) × Listed {A = A} t k m low high most (Err e) old new sink sink'' answer
    broken_off A e pair answer new walk' sink'' is wanted goes faults ahead wrote m =
        let rest : List Pair = drop (length (so_far.done ++ pair ∷ [])) (first_of most (pairs_between m low high)) in (
          Rows (so_far.done ++ pair ∷ rest),
          record {
            wrote = wrote_row A e (k.written sink) (k.written sink') (k.written sink'') rows so_far.done rest pair so_far.listing wrote;
            costless = λ cost ticks. refl;
            faults = faults ∙ so_far.faults;
            given = inr (record {
              rows = so_far.done ++ pair ∷ [];
              table = new;
              walk = walk';
              walked = record {
                begun = so_far.walked.begun;
                first = so_far.walked.first;
                begins = so_far.walked.begins;
                gave = gave_more t so_far.walked.begun so_far.walked.first so_far.done table walk pair new walk' so_far.walked.gave (subst (λ a. t.goes table walk (Ok a) new walk') is goes);
              };
              ended = inr (inr (inr (record {
                failed = refl;
                table_stays = refl;
                more = rest;
                answer_is = ap Rows (one_more_done so_far.done rest (so_far.done ++ pair ∷ rest) (pair ∷ rest) pair refl refl);
                wrote = wrote_some A e (k.written sink) (k.written sink') (k.written sink'') rows so_far.done pair so_far.listing wrote;
              })));
            });
            rows = λ held.
                let s = so_far.sound m held in
                let next = next_some (t.ahead new walk') s.pairs answer pair is (ahead m s.pairs s.held s.ahead) in
                rows_go_on most rows so_far.done next.0 (pairs_between m low high) pair (s.whole ∙ ap (λ p. so_far.done ++ p) next.1) so_far.listing.number wanted;
          },
        )

-- a command of the table that asks for no rows
pub one_line : (command : Command) → IsOfTable command → ((low high : List ℕ) → command ≡ code.Range low high → ⊥) → ((low : List ℕ) (most : ℕ) → command ≡ code.Scan low most → ⊥) → IsOfOneLine command
one_line (code.Put key value) of_table no_range no_scan = tt
one_line (code.PutIf key seen value) of_table no_range no_scan = tt
one_line (code.Del key) of_table no_range no_scan = tt
one_line (code.Get key) of_table no_range no_scan = tt
one_line (code.Stamp key) of_table no_range no_scan = tt
one_line code.Count of_table no_range no_scan = tt
one_line (code.Range low high) of_table no_range no_scan = absurd (no_range low high refl)
one_line (code.Scan low most) of_table no_range no_scan = absurd (no_scan low most refl)
one_line code.Close of_table no_range no_scan = absurd of_table
one_line code.Reopen of_table no_range no_scan = absurd of_table
