-- How far a walk filled rows, and how many blocks a falling range and the calls on its walk turn to.
use Rattle.std.proofs.Common.{◌≡◌, ◌∙◌, inl, inr, sym, ap, subst, ℕ, ◌≤◌, List, [], ◌∷◌, ◌++◌, length, take, map, Option, Some, None, Result, Ok, Err, append_assoc}
use Rattle.std.specs.declared.ops.Bound.{Bound}
use Rattle.cola_cell.specs.declared.fault.ReadFault.{ReadFault}
use Rattle.cola_cursor.specs.declared.cursor.Cursor as ranges
use Rattle.cola_device.specs.declared.device.Device as device
use Rattle.cola_spec.specs.Bounds.{range_bound}
use Rattle.cola_spec.specs.Map.{Map}
use Rattle.cola_store.specs.Backward.{BeginsBack}
use Rattle.cola_store.specs.Calls.{ReadsWithin}
use Rattle.cola_store.specs.Store.{Stored, spent_of, levels_of}
use Rattle.cola_store.specs.Walks.{Begins, Goes, TurnsWithin, left_of}
use Rattle.cola_table.specs.declared.table.Table as table
use Rattle.cola_table.specs.Answers.{NextAnswers}
use Rattle.cola_handle.specs.declared.cursor.Row.{Row}
use Rattle.cola_handle.specs.Cursors.{Pair, row_pair, HaveFirst}
use Rattle.cola_handle.specs.Falling.{Ended, Takes, Taken, FillsBack}
use Rattle.cola_handle.specs.Open.{LentDevice, bytes_of, counts_of, lent_device}
use Rattle.cola_handle.specs.Walking.{GoesOn, Then}
use Rattle.cola_handle.proofs.Rows.{front_first}
use Rattle.cola_handle.proofs.Turns.{then_more, within, turns_on}

module _ {T W : Type 0} (t : table.Ghosts T W) where
  -- the rows so far have the first of the pairs that were ahead, and the others are ahead of the walk
  pub record SoFar (m : Map) (pairs : List Pair) (given : ℕ) (rows : List Row) (table : T) (walk : W) : Type 0 where
    pub held : t.holds table m
    pub rest : List Pair
    pub ahead : t.ahead table walk rest
    pub whole : pairs ≡ map row_pair (take given rows) ++ rest

  -- a step gave a pair, and the rows have it
  pub one_more : (m : Map) (pairs : List Pair) (given given' : ℕ) (rows rows' : List Row) (u v : T) (walk walk' : W) (next : Option Pair) (pair : Pair) → next ≡ Some pair
      → map row_pair (take given' rows') ≡ map row_pair (take given rows) ++ pair ∷ [] → t.holds v m
      → (so : SoFar m pairs given rows u walk) → NextAnswers (t.ahead v walk') so.rest (Ok next) → SoFar m pairs given' rows' v walk'
  one_more m pairs given given' rows rows' u v walk walk' next pair is pushed held so answer =
      let step = subst (λ (a : Option Pair). NextAnswers (t.ahead v walk') so.rest (Ok a)) is answer in
      record {
        held = held;
        rest = step.0;
        ahead = step.2;
        whole = so.whole ∙ ap (λ (ps : List Pair). map row_pair (take given rows) ++ ps) step.1
            ∙ sym (append_assoc (map row_pair (take given rows)) (pair ∷ []) step.0) ∙ ap (λ (ps : List Pair). ps ++ step.0) (sym pushed);
      }

  -- a step gave none: the rows have all
  pub none_more : (m : Map) (pairs : List Pair) (given : ℕ) (rows : List Row) (u v : T) (walk walk' : W) (next : Option Pair) → next ≡ None → given ≤ length rows
      → (so : SoFar m pairs given rows u walk) → NextAnswers (t.ahead v walk') so.rest (Ok next) → HaveFirst pairs rows given
  none_more m pairs given rows u v walk walk' next is few so answer =
      let step = subst (λ (a : Option Pair). NextAnswers (t.ahead v walk') so.rest (Ok a)) is answer in
      front_first pairs so.rest rows given so.whole few (inl step.0)

  -- the calls on the walk so far, and one that gave a pair
  pub goes_more : (old u v : T) (first walk walk' : W) (given given' : ℕ) (rows rows' : List Row) (next : Option Pair) (pair : Pair) → next ≡ Some pair
      → map row_pair (take given' rows') ≡ map row_pair (take given rows) ++ pair ∷ [] → t.goes u walk (Ok next) v walk'
      → GoesOn t.begins t.goes old first (map row_pair (take given rows)) u walk → GoesOn t.begins t.goes old first (map row_pair (take given' rows')) v walk'
  goes_more old u v first walk walk' given given' rows rows' next pair is pushed went gone =
      subst (λ (ps : List Pair). GoesOn t.begins t.goes old first ps v walk') (sym pushed) (Then pair gone (subst (λ (a : Option Pair). t.goes u walk (Ok a) v walk') is went))

module _ {D : Type 0} (d : device.Ghosts D) (high : Bound (List ℕ)) (old mid new : Stored D) (rows : List Row) (walk : ranges.Cursor) (begun : BeginsBack d.bytes d.counts old None high (Ok walk) mid) where
  -- a falling range was begun, and rows were filled by its walk
  pub fills_back : (result : Result ℕ ReadFault) → Takes (Begins d.bytes d.counts) (Goes d.bytes d.counts) mid walk rows result new → FillsBack d high old new rows result
  fills_back (Ok given) takes = record { mid = mid; walk = walk; begun = begun; takes = takes }
  fills_back (Err fault) takes = inr (record { mid = mid; walk = walk; begun = begun; takes = takes })

-- Blocks

module _ (high : Bound (List ℕ)) (old new : Stored LentDevice) (rows : List Row) where
  gone_back : (mid far : Stored LentDevice) (walk last : ranges.Cursor) (pairs : List Pair) → BeginsBack bytes_of counts_of old None high (Ok walk) mid → GoesOn (Begins bytes_of counts_of) (Goes bytes_of counts_of) mid walk pairs far last
      → TurnsWithin (spent_of counts_of old) (spent_of counts_of far) (left_of last) (range_bound (levels_of old))
  gone_back mid far walk last pairs begun gone =
      then_more (spent_of counts_of old) (spent_of counts_of mid) (spent_of counts_of far) (left_of walk) (left_of last) (range_bound (levels_of old)) begun.turns
      (turns_on (spent_of counts_of) left_of (λ (store : Stored LentDevice). range_bound (levels_of store)) (Begins bytes_of counts_of) (Goes bytes_of counts_of)
      (λ o l h w n b. b.turns) (λ o l h f n b. b.turns) (λ o w a n z b. b.turns) (λ o w f n z b. b.turns) mid far walk last pairs gone)

  ended_back : (mid : Stored LentDevice) (walk : ranges.Cursor) (given : ℕ) (answer : Result (Option Pair) ReadFault) (left : ℕ) → BeginsBack bytes_of counts_of old None high (Ok walk) mid
      → (e : Ended (Begins bytes_of counts_of) (Goes bytes_of counts_of) mid walk rows given answer new) → TurnsWithin (spent_of counts_of e.far) (spent_of counts_of new) left (left_of e.last)
      → ReadsWithin (spent_of counts_of old) (spent_of counts_of new) (range_bound (levels_of old))
  ended_back mid walk given answer left begun e turns =
      within (spent_of counts_of old) (spent_of counts_of new) left (range_bound (levels_of old))
      (then_more (spent_of counts_of old) (spent_of counts_of e.far) (spent_of counts_of new) (left_of e.last) left (range_bound (levels_of old))
      (gone_back mid e.far walk e.last (map row_pair (take given rows)) begun e.gone) turns)

  taken_reads : (result : Result ℕ ReadFault) → Taken lent_device high old new rows result → ReadsWithin (spent_of counts_of old) (spent_of counts_of new) (range_bound (levels_of old))
  taken_reads (Ok given) taken =
      elim taken.takes [
        | inl all ↦ within (spent_of counts_of old) (spent_of counts_of new) (left_of all.1.0) (range_bound (levels_of old))
            (gone_back taken.mid new taken.walk all.1.0 (map row_pair (take given rows)) taken.begun all.1.1)
        | inr e ↦ ended_back taken.mid taken.walk given (Ok None) (left_of e.after) taken.begun e e.ends.turns
      ]
  taken_reads (Err fault) taken = ended_back taken.mid taken.walk taken.takes.0 (Err fault) 0 taken.begun taken.takes.1 taken.takes.1.ends.turns

  -- filling rows by falling keys turns to at most one block for each tick of a range, and writes none
  pub fill_back_reads : (result : Result ℕ ReadFault) → FillsBack lent_device high old new rows result → ReadsWithin (spent_of counts_of old) (spent_of counts_of new) (range_bound (levels_of old))
  fill_back_reads (Ok given) fills = taken_reads (Ok given) fills
  fill_back_reads (Err fault) (inl refused) = within (spent_of counts_of old) (spent_of counts_of new) 0 (range_bound (levels_of old)) refused.turns
  fill_back_reads (Err fault) (inr taken) = taken_reads (Err fault) taken
