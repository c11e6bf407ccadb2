-- How far a walk over a table filled rows.
use Rattle.std.proofs.Common.{◌≡◌, ◌∙◌, refl, sym, ap, subst, ℕ, ◌+◌, ◌-◌, ◌≤◌, not, List, [], ◌∷◌, ◌++◌, length, take, drop, map, Option, Some, None, Ok, inl, arith, append_assoc}
use Rattle.std.proofs.lemmas.List.{drop-drop}
use Rattle.std.proofs.lemmas.List.Elements.{filter-append}
use Rattle.cola_spec.specs.Map.{Map, pairs_between}
use Rattle.cola_table.specs.declared.table.Table as table
use Rattle.cola_table.specs.Answers.{NextAnswers}
use Rattle.cola_handle.specs.declared.cursor.Cursor.{Cursor}
use Rattle.cola_handle.specs.declared.cursor.Row.{Row}
use Rattle.cola_handle.specs.Cursors.{Pair, row_pair, was_given, not_given, HaveFirst}
use Rattle.cola_handle.specs.Walking.{Stays, Then, Came}
use Rattle.cola_handle.proofs.Rows.{front_first}

-- the same lists behind a place are the same behind a later one
pub drop_later : {X : Type 0} (first later : ℕ) (xs ys : List X) → first ≤ later → drop first xs ≡ drop first ys → drop later xs ≡ drop later ys
drop_later first later xs ys le same =
    let whole : first + (later - first) ≡ later = omega arith in
    subst (λ n. drop n xs ≡ drop n ys) whole (sym (drop-drop (later - first) first xs) ∙ ap (drop (later - first)) same ∙ drop-drop (later - first) first ys)

module _ {T W : Type 0} (t : table.Ghosts T W) (cursor : Cursor) (low : List ℕ) (high : Option (List ℕ)) where
  -- the rows so far have the first of the pairs that the cursor has not given, and the others are ahead of the walk
  pub record SoFar (m : Map) (given : ℕ) (rows : List Row) (table : T) (walk : W) : Type 0 where
    pub held : t.holds table m
    pub pairs : List Pair
    pub ahead : t.ahead table walk pairs
    pub whole : not_given cursor (pairs_between m low high) ≡ map row_pair (take given rows) ++ not_given cursor pairs

  -- a step gave a pair, and the rows have it unless it was given
  pub one_more : (m : Map) (given given' : ℕ) (rows rows' : List Row) (u v : T) (walk walk' : W) (next : Option Pair) (pair : Pair) → next ≡ Some pair
      → map row_pair (take given' rows') ≡ map row_pair (take given rows) ++ not_given cursor (pair ∷ []) → t.holds v m
      → (so : SoFar m given rows u walk) → NextAnswers (t.ahead v walk') so.pairs (Ok next) → SoFar m given' rows' v walk'
  one_more m given given' rows rows' u v walk walk' next pair is pushed held so answer =
      let step = subst (λ (a : Option Pair). NextAnswers (t.ahead v walk') so.pairs (Ok a)) is answer in
      record {
        held = held;
        pairs = step.0;
        ahead = step.2;
        whole =
            so.whole ∙ ap (λ (ps : List Pair). map row_pair (take given rows) ++ not_given cursor ps) step.1
            ∙ ap (λ (ps : List Pair). map row_pair (take given rows) ++ ps) (filter-append (λ (p : Pair). not (was_given cursor p.0)) (pair ∷ []) step.0)
            ∙ sym (append_assoc (map row_pair (take given rows)) (not_given cursor (pair ∷ [])) (not_given cursor step.0))
            ∙ ap (λ (ps : List Pair). ps ++ not_given cursor step.0) (sym pushed);
      }

  -- a step gave none: the rows have all
  pub none_left : (m : Map) (given : ℕ) (rows : List Row) (u v : T) (walk walk' : W) (next : Option Pair) → next ≡ None → given ≤ length rows
      → (so : SoFar m given rows u walk) → NextAnswers (t.ahead v walk') so.pairs (Ok next) → HaveFirst (not_given cursor (pairs_between m low high)) rows given
  none_left m given rows u v walk walk' next is few so answer =
      let step = subst (λ (a : Option Pair). NextAnswers (t.ahead v walk') so.pairs (Ok a)) is answer in
      front_first (not_given cursor (pairs_between m low high)) (not_given cursor so.pairs) rows given so.whole few (inl (ap (not_given cursor) step.0))

  -- a range was begun, and no row is given
  pub came_first : (old mid : T) (walk : W) (rows : List Row) → t.begins old low high (Ok walk) mid → Came t.begins t.goes cursor low high old rows 0 mid walk
  came_first old mid walk rows begun = record { mid = mid; walk = walk; pairs = []; begun = begun; gone = Stays; rows_have = refl }

  -- a step gave a pair, and the rows have it unless it was given
  pub came_on : (old u v : T) (walk walk' : W) (rows rows' : List Row) (given given' : ℕ) (next : Option Pair) (pair : Pair) → next ≡ Some pair
      → map row_pair (take given' rows') ≡ map row_pair (take given rows) ++ not_given cursor (pair ∷ []) → t.goes u walk (Ok next) v walk'
      → Came t.begins t.goes cursor low high old rows given u walk → Came t.begins t.goes cursor low high old rows' given' v walk'
  came_on old u v walk walk' rows rows' given given' next pair is pushed went came = record {
    mid = came.mid;
    walk = came.walk;
    pairs = came.pairs ++ pair ∷ [];
    begun = came.begun;
    gone = Then pair came.gone (subst (λ (a : Option Pair). t.goes u walk (Ok a) v walk') is went);
    rows_have = pushed ∙ ap (λ (ps : List Pair). ps ++ not_given cursor (pair ∷ [])) came.rows_have
        ∙ sym (filter-append (λ (p : Pair). not (was_given cursor p.0)) came.pairs (pair ∷ []));
  }
