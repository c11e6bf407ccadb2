-- The first line that has the least key.
use Rattle.std.proofs.Common.{◌≡◌, inl, inr, ℕ, zero, suc, ◌+◌, ◌≤◌, ◌<◌, Bool, true, false, cond, List, [], ◌∷◌, ◌++◌, length, take, drop, set, get_or, Option, None, Some, option_map, refl, sym, ap, subst, ◌∙◌, arith}
use Rattle.std.proofs.lemmas.List.{take_more, take_all}
use Rattle.std.specs.List.{AllByRecursion}
use Rattle.std.specs.Ordering.{is_lt, is_eq}
use Rattle.cola_runs.proofs.Order.{by_bool}
use Rattle.cola_cell.specs.declared.cell.Cell.{Cell}
use Rattle.cola_cell.specs.declared.cell.Item.{Item}
use Rattle.cola_cell.specs.Cell.{key_of}
use Rattle.cola_cell.specs.Held.{Held}
use Rattle.cola_cell.specs.Order.{key_cmp}
use Rattle.cola_cursor.specs.declared.line.Line.{Line}
use Rattle.cola_cursor.specs.Lines.{LineFits, IsReady}
use Rattle.cola_cursor.specs.Passing.{has_key, NoneHas, Passes, PassAll}
use Rattle.cola_cursor.specs.Results.{lesser, lowered, is_lower, least_from}
use Rattle.cola_cursor.specs.Way.{way_cmp}
use Rattle.cola_cursor.proofs.Fronts.{or_none, passing_begins, passing_ends}
use Rattle.cola_look.proofs.KeyLemmas.{same_key}
use Rattle.cola_cursor.proofs.Keys.{none_ends}
use Rattle.cola_cursor.proofs.Least.{HeadPast, HeadFrom, least_is, least_none}

module _ (falls : Bool) where
  -- ---- one line more

  least_append : (before : Option (List ℕ)) (xs : List Line) (x : Line) → least_from falls None before (xs ++ x ∷ []) ≡ lowered falls None (least_from falls None before xs) x.head
  least_append before [] x = refl
  least_append before (y ∷ xs) x = least_append (lowered falls None before y.head) xs x

  lowered_is : (before : Option (List ℕ)) (head : Option Cell) → lowered falls None before head ≡ cond (is_lower falls head before) (option_map key_of head) before
  lowered_is before None = refl
  lowered_is None (Some c) = ap (λ b. cond b (Some (key_of c)) None) (none_ends falls (key_of c))
  lowered_is (Some l) (Some c) = ap (λ b. cond b (lesser falls (Some l) (key_of c)) (Some l)) (none_ends falls (key_of c))

  -- ---- lines whose heads are above a key

  past_none : (xs : List Line) (k : List ℕ) → AllByRecursion (λ line. HeadPast falls None line.head) xs → NoneHas k xs
  past_none [] k h = tt
  past_none (x ∷ xs) k h = (go x.head h.0, past_none xs k h.1)
    where
      go : (head : Option Cell) → HeadPast falls None head → has_key k head ≡ false
      go None e = refl
      go (Some c) e = let g = sym (none_ends falls (key_of c)) ∙ e in cc

  above_none : (xs : List Line) (k l : List ℕ) → is_lt (way_cmp falls k l) ≡ true → AllByRecursion (λ line. HeadFrom falls None l line.head) xs → NoneHas k xs
  above_none [] k l t h = tt
  above_none (x ∷ xs) k l t h = (go x.head h.0, above_none xs k l t h.1)
    where
      go : (head : Option Cell) → HeadFrom falls None l head → has_key k head ≡ false
      go None e = refl
      go (Some c) (inl e) = let g = sym (none_ends falls (key_of c)) ∙ e in cc
      go (Some c) (inr e) =
          by_bool (λ b. is_eq (key_cmp k (key_of c)) ≡ b → b ≡ false)
          (λ f. let g = sym t ∙ ap (λ x. is_lt (way_cmp falls x l)) (same_key k (key_of c) f) ∙ e in absurd (cc)) (λ f. refl) (is_eq (key_cmp k (key_of c))) refl

  lower_none : (xs : List Line) (before : Option (List ℕ)) (head : Option Cell) (k : List ℕ) → least_from falls None None xs ≡ before → is_lower falls head before ≡ true → option_map key_of head ≡ Some k → NoneHas k xs
  lower_none xs before None k e t n = absurd (cc)
  lower_none xs None (Some c) k e t n = past_none xs k (least_none falls None None xs e).1
  lower_none xs (Some l) (Some c) k e t n =
      let m : Some (key_of c) ≡ Some k = n in let f : key_of c ≡ k = cc in
      above_none xs k l (ap (λ x. is_lt (way_cmp falls x l)) (sym f) ∙ t) (least_is falls None None xs l e).from

  -- ---- the first lines, as far as they were looked at

  -- their least key, and the first line that has it
  pub record Seen (lines : List Line) (i : ℕ) (least : Option (List ℕ)) (first : ℕ) : Type 0 where
    pub taken : least_from falls None None (take i lines) ≡ least
    pub none : (k : List ℕ) → least ≡ Some k → NoneHas k (take first lines)

  pub seen_none : (lines : List Line) → Seen lines 0 None 0
  seen_none lines = record { taken = refl; none = λ k e. absurd (cc) }

  pub seen_next : (lines : List Line) (i : ℕ) (d : Line) (least next : Option (List ℕ)) (first then : ℕ) → Seen lines i least first → i < length lines →
      next ≡ cond (is_lower falls (get_or lines i d).head least) (option_map key_of (get_or lines i d).head) least → then ≡ cond (is_lower falls (get_or lines i d).head least) i first → Seen lines (i + 1) next then
  seen_next lines i d least next first then s l n m =
      let head = (get_or lines i d).head in
      record {
        taken = ap (least_from falls None None) (take_more lines i d l) ∙ least_append None (take i lines) (get_or lines i d) ∙ ap (λ x. lowered falls None x head) s.taken ∙ lowered_is least head ∙ sym n;
        none = λ k e. by_bool (λ b. is_lower falls head least ≡ b → next ≡ cond b (option_map key_of head) least → then ≡ cond b i first → NoneHas k (take then lines))
            (λ b x y. subst (λ j. NoneHas k (take j lines)) (sym y) (lower_none (take i lines) least head k s.taken b (sym x ∙ e)))
            (λ b x y. subst (λ j. NoneHas k (take j lines)) (sym y) (s.none k (sym x ∙ e)))
            (is_lower falls head least) refl n m;
      }

  -- where all were looked at
  pub seen_all : (lines : List Line) (i : ℕ) (least : Option (List ℕ)) (first : ℕ) → length lines ≤ i → Seen lines i least first → least ≡ least_from falls None None lines
  seen_all lines i least first h s = sym s.taken ∙ ap (least_from falls None None) (take_all i lines h)

  -- ---- lines that are passed over

  pub pass_none : (held : Held) (key : List ℕ) (lines : List Line) (n : ℕ) → AllByRecursion (LineFits falls held) lines → AllByRecursion IsReady lines → NoneHas key (take n lines) → PassAll falls held key (take n lines) (take n lines) None
  pass_none held key [] zero f r h = refl
  pass_none held key [] (suc n) f r h = refl
  pass_none held key (x ∷ xs) zero f r h = refl
  pass_none held key (x ∷ xs) (suc n) f r h = (None, None, passing_ends falls (passing_begins falls held key x f.0 r.0) h.0, pass_none held key xs n f.1 r.1 h.1, refl)

  -- one line that passes a key, which none of the others has
  pub pass_one : (held : Held) (key : List ℕ) (lines : List Line) (i : ℕ) (d new : Line) (item : Option Item) → AllByRecursion (LineFits falls held) lines → AllByRecursion IsReady lines → i < length lines →
      NoneHas key (take i lines) → NoneHas key (drop (suc i) lines) → Passes falls held key (get_or lines i d) new item → PassAll falls held key lines (set lines i new) item
  pass_one held key [] i d new item f r l a b p = absurd (omega arith)
  pass_one held key (x ∷ xs) zero d new item f r l a b p =
      let e = take_all (length xs) xs (omega arith) in
      (item, None, p, subst (λ ys. PassAll falls held key ys ys None) e (pass_none held key xs (length xs) f.1 r.1 (subst (NoneHas key) (sym e) b)), sym (or_none falls item))
  pass_one held key (x ∷ xs) (suc i) d new item f r l a b p = (None, item, passing_ends falls (passing_begins falls held key x f.0 r.0) a.0, pass_one held key xs i d new item f.1 r.1 (omega arith) a.1 b p, refl)
