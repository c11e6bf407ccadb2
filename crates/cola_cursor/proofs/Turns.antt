-- A loop over lines that changes some of them in place.
use Rattle.std.proofs.Common.{◌≡◌, ℕ, zero, suc, ◌+◌, ◌≤◌, ◌<◌, List, [], ◌∷◌, ◌++◌, length, take, drop, set, get_or, Option, None, false, refl, sym, ap, subst, ◌∙◌, arith, Bool}
use Rattle.std.proofs.lemmas.List.{set-get_or, take_more, take_more_set, drop-set-lt, drop_more}
use Rattle.std.specs.Option.{option_or}
use Rattle.std.specs.List.{AllByRecursion}
use Rattle.cola_cell.specs.declared.cell.Item.{Item}
use Rattle.cola_cell.specs.declared.fault.ReadFault.{ReadFault}
use Rattle.cola_cell.specs.Held.{Held}
use Rattle.cola_cursor.specs.declared.line.Line.{Line}
use Rattle.cola_cursor.specs.declared.saved.Saved.{Saved}
use Rattle.cola_cursor.specs.Lines.{left_of, all_left, LineCause, LineFits, IsReady}
use Rattle.cola_cursor.specs.Passing.{has_key, Passes, PassAll}
use Rattle.cola_cursor.specs.Results.{Fetches, FetchAll, LinesCause}
use Rattle.cola_cursor.specs.Saving.{Saves}
use Rattle.cola_cursor.proofs.Fronts.{or_none, passing_begins, passing_ends}
use Rattle.cola_cursor.proofs.Lists.{all_at, left_next, fetch_push, pass_push, left_one, cause_at}
use Rattle.cola_cursor.proofs.Saving.{saves_none, saves_then}

module _ (falls : Bool) where
  -- the first lines had their turn, and the others are as they were
  pub record Turned (i : ℕ) (olds news : List Line) (before now : List Saved) (ticks ticks_now : ℕ) : Type 0 where
    pub saves : Saves olds news before now
    pub rest : drop i news ≡ drop i olds
    pub left : ticks_now + all_left (take i news) + all_left (drop i olds) ≤ ticks + all_left olds

  first_is : {X : Type 0} (xs ys : List X) (i : ℕ) (x : X) → drop i xs ≡ x ∷ ys → x ≡ get_or xs i x
  first_is [] ys zero x e = cc
  first_is [] ys (suc i) x e = cc
  first_is (z ∷ xs) ys zero x e = cc
  first_is (z ∷ xs) ys (suc i) x e = first_is xs ys i x e

  tails : {X : Type 0} (x : X) (xs ys : List X) → x ∷ xs ≡ x ∷ ys → xs ≡ ys
  tails x xs ys e = cc

  module _ {i : ℕ} {olds news : List Line} {before now : List Saved} {ticks ticks_now : ℕ} (t : Turned i olds news before now ticks ticks_now) (l : i < length olds) (d : Line) where
    -- the line whose turn it is
    abbrev line : Line
    line = get_or news i d

    inside : i < length news
    inside = let e = t.saves.count in omega arith

    line_was : line ≡ get_or olds i line
    line_was = first_is olds (drop (i + 1) news) i line (sym t.rest ∙ drop_more news i d inside)

    taken_was : take (i + 1) olds ≡ take i olds ++ line ∷ []
    taken_was = take_more olds i line l ∙ ap (λ x. take i olds ++ x ∷ []) (sym line_was)

    pub line_has : {held object : Held} (P : Held → Line → Type 0) → object ≡ held → AllByRecursion (P held) olds → P object line
    line_has {held} {object} P e h = subst (λ x. P x line) (sym e) (subst (P held) (sym line_was) (all_at falls (P held) olds i line l h))

    pub line_cause : (held object : Held) (faults between after : ℕ) (fault : ReadFault) → held ≡ object → between ≡ faults → LineCause falls held line between after fault → LinesCause falls object olds faults after fault
    line_cause held object faults between after fault e c h = cause_at falls held object olds i line faults between after fault e c l line_was h

    module _ {then : List Line} (new : Line) (puts : then ≡ set news i new) where
      taken_then : take (i + 1) then ≡ take i news ++ new ∷ []
      taken_then = ap (take (i + 1)) puts ∙ take_more_set news i new inside

      pub turned_next : {saved : List Saved} {ticks_then : ℕ} → Saves news then now saved → ticks_then + left_of new ≤ ticks_now + left_of line → Turned (i + 1) olds then before saved ticks ticks_then
      turned_next {saved} {ticks_then} s m = record {
        saves = saves_then t.saves s;
        rest = ap (drop (i + 1)) puts ∙ drop-set-lt (i + 1) news i new (omega arith)
            ∙ tails line (drop (i + 1) news) (drop (i + 1) olds) (sym (drop_more news i d inside) ∙ t.rest ∙ left_next falls olds i line l line_was);
        left = left_one falls olds (take i news) (take (i + 1) then) i line new ticks_now ticks_then (ticks + all_left olds) taken_then l line_was t.left m;
      }

      pub fetched_next : {held object : Held} → object ≡ held → FetchAll falls held (take i olds) (take i news) → Fetches falls object line new → FetchAll falls held (take (i + 1) olds) (take (i + 1) then)
      fetched_next {held} {object} e h f =
          subst (λ xs. FetchAll falls held xs (take (i + 1) then)) (sym taken_was) (subst (FetchAll falls held (take i olds ++ line ∷ [])) (sym taken_then)
          (fetch_push falls held (take i olds) (take i news) line new h (subst (λ x. Fetches falls x line new) e f)))

      pub passed_next : {held object : Held} (key : List ℕ) (item more joined : Option Item) → object ≡ held → joined ≡ option_or item more → PassAll falls held key (take i olds) (take i news) item → Passes falls object key line new more →
          PassAll falls held key (take (i + 1) olds) (take (i + 1) then) joined
      passed_next {held} {object} key item more joined e j h p =
          subst (λ xs. PassAll falls held key xs (take (i + 1) then) joined) (sym taken_was) (subst (λ xs. PassAll falls held key (take i olds ++ line ∷ []) xs joined) (sym taken_then)
          (subst (PassAll falls held key (take i olds ++ line ∷ []) (take i news ++ new ∷ [])) (sym j)
          (pass_push falls held key (take i olds) (take i news) line new item more h (subst (λ x. Passes falls x key line new more) e p))))

    -- a line that stays as it is
    same_line : news ≡ set news i line
    same_line = sym (set-get_or news i d)

    pub turned_stays : Turned (i + 1) olds news before now ticks ticks_now
    turned_stays = turned_next line same_line (saves_none t.saves.once) (omega arith)

    pub fetched_stays : {held object : Held} → object ≡ held → FetchAll falls held (take i olds) (take i news) → LineFits falls object line → IsReady line → FetchAll falls held (take (i + 1) olds) (take (i + 1) news)
    fetched_stays e h f r = fetched_next line same_line e h (record { run_is = refl; place_is = refl; keeps = λ cell h. h; fits = f; ready = r })

    pub passed_stays : {held object : Held} (key : List ℕ) (item : Option Item) → object ≡ held → PassAll falls held key (take i olds) (take i news) item → LineFits falls object line → IsReady line → has_key key line.head ≡ false →
        PassAll falls held key (take (i + 1) olds) (take (i + 1) news) item
    passed_stays {held} {object} key item e h f r n = passed_next line same_line key item None item e (sym (or_none falls item)) h (passing_ends falls (passing_begins falls object key line f r) n)
