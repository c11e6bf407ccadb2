-- The least key of the heads of lines.
use Rattle.std.proofs.Common.{◌≡◌, ◌⊎◌, inl, inr, ℕ, Bool, true, false, cond, List, [], ◌∷◌, Option, None, Some, IsTrue, refl, sym, ap, ◌∙◌, Less, Equal, Greater, Ordering}
use Rattle.std.specs.Ordering.{is_lt, is_eq, is_gt, ordering_reverse}
use Rattle.std.specs.Cmp.{upto, tied_itself, IsTotalOrder}
use Rattle.std.specs.Cmp.Lexicographic.{nat_list_cmp_total}
use Rattle.std.specs.List.{AllByRecursion}
use Rattle.cola_runs.proofs.Order.{by_bool}
use Rattle.cola_pairs.proofs.Order.{by_ordering}
use Rattle.cola_cell.specs.declared.cell.Cell.{Cell}
use Rattle.cola_cell.specs.Cell.{key_of}
use Rattle.cola_cell.specs.Order.{key_cmp}
use Rattle.cola_cursor.specs.declared.line.Line.{Line}
use Rattle.cola_cursor.specs.Passing.{has_key}
use Rattle.cola_cursor.specs.Results.{lesser, lowered, least_from}
use Rattle.cola_cursor.specs.Way.{way_cmp, within_end}
use Rattle.cola_cursor.proofs.Keys.{way_total, way_closes, none_ends}

module _ (falls : Bool) where
  abbrev key_total : IsTotalOrder (way_cmp falls)
  key_total = way_total falls

  -- ---- the order of keys

  not_lt : (x y : List ℕ) → is_lt (way_cmp falls y x) ≡ false → is_gt (way_cmp falls x y) ≡ false
  not_lt x y e =
      ap is_gt (key_total.antisymm x y)
      ∙ by_ordering (λ r. is_lt r ≡ false → is_gt (ordering_reverse r) ≡ false) (λ f. cc) (λ f. refl) (λ f. refl) (way_cmp falls y x) e

  not_gt : (x y : List ℕ) → is_gt (way_cmp falls x y) ≡ false → is_lt (way_cmp falls y x) ≡ false
  not_gt x y e =
      ap is_lt (key_total.antisymm y x)
      ∙ by_ordering (λ r. is_gt r ≡ false → is_lt (ordering_reverse r) ≡ false) (λ f. refl) (λ f. refl) (λ f. cc) (way_cmp falls x y) e

  -- what is not below y, and y not below z
  pub not_below : (x y z : List ℕ) → is_lt (way_cmp falls x y) ≡ false → is_lt (way_cmp falls y z) ≡ false → is_lt (way_cmp falls x z) ≡ false
  not_below x y z e f = not_gt z x (upto key_total z y x (not_lt z y f) (not_lt y x e))

  is_less : (r : Ordering) → is_lt r ≡ true → r ≡ Less
  is_less Less e = refl
  is_less Equal e = cc
  is_less Greater e = cc

  less_not : (x y : List ℕ) → is_lt (way_cmp falls x y) ≡ true → is_lt (way_cmp falls y x) ≡ false
  less_not x y e = ap is_lt (key_total.antisymm y x) ∙ ap (λ r. is_lt (ordering_reverse r)) (is_less _ e)

  itself : (x : List ℕ) → is_lt (way_cmp falls x x) ≡ false
  itself x = ap is_lt (tied_itself key_total x)

  pub itself_equal : (x : List ℕ) → is_eq (key_cmp x x) ≡ true
  itself_equal x = ap is_eq (tied_itself nat_list_cmp_total x)

  -- a key past the upper end is not below one within
  pub past_within : (end : Option (List ℕ)) (x k : List ℕ) → within_end falls end x ≡ false → within_end falls end k ≡ true → is_lt (way_cmp falls x k) ≡ false
  past_within end x k e f =
      by_bool (λ t. is_lt (way_cmp falls x k) ≡ t → t ≡ false) (λ t. let g = sym (way_closes falls end x k e (less_not x k t)) ∙ f in absurd (cc)) (λ t. refl) (is_lt (way_cmp falls x k)) refl

  -- ---- one head more

  -- a head at or past the upper end
  abbrev pub HeadPast : Option (List ℕ) → Option Cell → Type 0
  HeadPast end None = Unit {0}
  HeadPast end (Some c) = within_end falls end (key_of c) ≡ false

  -- a head at or past the upper end, or not below k
  abbrev pub HeadFrom : Option (List ℕ) → List ℕ → Option Cell → Type 0
  HeadFrom end k None = Unit {0}
  HeadFrom end k (Some c) = (within_end falls end (key_of c) ≡ false) ⊎ (is_lt (way_cmp falls (key_of c) k) ≡ false)

  -- some line has a head of the key
  abbrev pub AnyHas : List ℕ → List Line → Type 0
  AnyHas k [] = ⊥
  AnyHas k (line ∷ lines) = IsTrue (has_key k line.head) ⊎ AnyHas k lines

  -- what the least key says of the heads and of the key before them
  pub record IsLeast (end before : Option (List ℕ)) (lines : List Line) (k : List ℕ) : Type 0 where
    pub below : ((a : List ℕ) → before ≡ Some a → within_end falls end a ≡ true) → within_end falls end k ≡ true
    pub from : AllByRecursion (λ line. HeadFrom end k line.head) lines
    pub first : (a : List ℕ) → before ≡ Some a → is_lt (way_cmp falls a k) ≡ false
    pub any : (before ≡ Some k) ⊎ AnyHas k lines

  -- the same with one head before
  record Lowers (end before : Option (List ℕ)) (head : Option Cell) (k : List ℕ) (after : Option (List ℕ)) : Type 0 where
    below : ((a : List ℕ) → before ≡ Some a → within_end falls end a ≡ true) → (a : List ℕ) → after ≡ Some a → within_end falls end a ≡ true
    from : ((a : List ℕ) → after ≡ Some a → is_lt (way_cmp falls a k) ≡ false) → HeadFrom end k head
    first : ((a : List ℕ) → after ≡ Some a → is_lt (way_cmp falls a k) ≡ false) → (a : List ℕ) → before ≡ Some a → is_lt (way_cmp falls a k) ≡ false
    any : after ≡ Some k → (before ≡ Some k) ⊎ IsTrue (has_key k head)

  same_key : (a b : List ℕ) → Some a ≡ Some b → a ≡ b
  same_key a b e = cc

  lowers : (end before : Option (List ℕ)) (head : Option Cell) (k : List ℕ) → Lowers end before head k (lowered falls end before head)
  lowers end before None k = record { below = λ h. h; from = λ h. tt; first = λ h. h; any = λ e. inl e }
  lowers end before (Some c) k =
      by_bool (λ b. within_end falls end (key_of c) ≡ b → Lowers end before (Some c) k (cond b (lesser falls before (key_of c)) before))
      (λ e. within before e) (λ e. record { below = λ h. h; from = λ h. inl e; first = λ h. h; any = λ f. inl f }) (within_end falls end (key_of c)) refl
    where
      within : (before : Option (List ℕ)) → within_end falls end (key_of c) ≡ true → Lowers end before (Some c) k (lesser falls before (key_of c))
      within None e = record {
        below = λ h a f. ap (within_end falls end) (sym (same_key (key_of c) a f)) ∙ e;
        from = λ h. inr (h (key_of c) refl);
        first = λ h a f. cc;
        any = λ f. inr (ap (λ x. is_eq (key_cmp k x)) (same_key (key_of c) k f) ∙ itself_equal k);
      }
      within (Some l) e =
          by_bool (λ t. is_lt (way_cmp falls (key_of c) l) ≡ t → Lowers end (Some l) (Some c) k (cond t (Some (key_of c)) (Some l)))
          (λ t. record {
            below = λ h a f. ap (within_end falls end) (sym (same_key (key_of c) a f)) ∙ e;
            from = λ h. inr (h (key_of c) refl);
            first = λ h a f. not_below a (key_of c) k (ap (λ x. is_lt (way_cmp falls x (key_of c))) (sym (same_key l a f)) ∙ less_not (key_of c) l t) (h (key_of c) refl);
            any = λ f. inr (ap (λ x. is_eq (key_cmp k x)) (same_key (key_of c) k f) ∙ itself_equal k);
          })
          (λ t. record {
            below = λ h. h;
            from = λ h. inr (not_below (key_of c) l k t (h l refl));
            first = λ h. h;
            any = λ f. inl f;
          })
          (is_lt (way_cmp falls (key_of c) l)) refl

  pub least_is : (end before : Option (List ℕ)) (lines : List Line) (k : List ℕ) → least_from falls end before lines ≡ Some k → IsLeast end before lines k
  least_is end before [] k e = record {
    below = λ h. h k e;
    from = tt;
    first = λ a f. ap (λ x. is_lt (way_cmp falls x k)) (same_key a k (sym f ∙ e)) ∙ itself k;
    any = inl e;
  }
  least_is end before (line ∷ lines) k e =
      let r = least_is end (lowered falls end before line.head) lines k e in
      let l = lowers end before line.head k in
      record {
        below = λ h. r.below (l.below h);
        from = (l.from r.first, r.from);
        first = l.first r.first;
        any = found (lowered falls end before line.head) l.any r.any;
      }
    where
      found : (after : Option (List ℕ)) → (after ≡ Some k → (before ≡ Some k) ⊎ IsTrue (has_key k line.head)) → (after ≡ Some k) ⊎ AnyHas k lines → (before ≡ Some k) ⊎ AnyHas k (line ∷ lines)
      found after h (inr a) = inr (inr a)
      found after h (inl f) = elim (h f) [ inl x ↦ inl x | inr y ↦ inr (inl y) ]

  lowered_none : (end before : Option (List ℕ)) (head : Option Cell) → lowered falls end before head ≡ None → (before ≡ None) × HeadPast end head
  lowered_none end before None e = (e, tt)
  lowered_none end before (Some c) e =
      by_bool (λ b. within_end falls end (key_of c) ≡ b → cond b (lesser falls before (key_of c)) before ≡ None → (before ≡ None) × (within_end falls end (key_of c) ≡ false))
      (λ b f. absurd (some before f)) (λ b f. (f, b)) (within_end falls end (key_of c)) refl e
    where
      some : (before : Option (List ℕ)) → lesser falls before (key_of c) ≡ None → ⊥
      some None f = cc
      some (Some l) f = by_bool (λ t. cond t (Some (key_of c)) (Some l) ≡ None → ⊥) (λ g. cc) (λ g. cc) (is_lt (way_cmp falls (key_of c) l)) f

  pub least_none : (end before : Option (List ℕ)) (lines : List Line) → least_from falls end before lines ≡ None → (before ≡ None) × AllByRecursion (λ line. HeadPast end line.head) lines
  least_none end before [] e = (e, tt)
  least_none end before (line ∷ lines) e =
      let r = least_none end (lowered falls end before line.head) lines e in
      let l = lowered_none end before line.head r.0 in
      (l.0, (l.1, r.1))

  -- ---- the upper end, looked at once

  -- a key, where it is below the upper end
  abbrev pub kept_within : Option (List ℕ) → Option (List ℕ) → Option (List ℕ)
  kept_within end None = None
  kept_within end (Some k) = cond (within_end falls end k) (Some k) None

  -- what is not below a key past the upper end is past it
  past_then : (end : Option (List ℕ)) (x y : List ℕ) → is_lt (way_cmp falls x y) ≡ false → within_end falls end y ≡ false → within_end falls end x ≡ false
  past_then end x y e f = way_closes falls end y x f e

  lowered_within : (end before : Option (List ℕ)) (head : Option Cell) → lowered falls end (kept_within end before) head ≡ kept_within end (lowered falls None before head)
  lowered_within end before None = refl
  lowered_within end None (Some c) = ap (λ b. kept_within end (cond b (Some (key_of c)) None)) (sym (none_ends falls (key_of c)))
  lowered_within end (Some l) (Some c) = go (within_end falls end l) (within_end falls end (key_of c)) (is_lt (way_cmp falls (key_of c) l)) refl refl refl
      ∙ ap (λ b. kept_within end (cond b (lesser falls (Some l) (key_of c)) (Some l))) (sym (none_ends falls (key_of c)))
    where
      go : (bl bc lt : Bool) → within_end falls end l ≡ bl → within_end falls end (key_of c) ≡ bc → is_lt (way_cmp falls (key_of c) l) ≡ lt →
          cond bc (lesser falls (cond bl (Some l) None) (key_of c)) (cond bl (Some l) None) ≡ kept_within end (cond lt (Some (key_of c)) (Some l))
      go true true true x y z = ap (λ b. cond b (Some (key_of c)) (Some l)) z ∙ sym (ap (λ b. cond b (Some (key_of c)) None) y)
      go true true false x y z = ap (λ b. cond b (Some (key_of c)) (Some l)) z ∙ sym (ap (λ b. cond b (Some l) None) x)
      go true false true x y z = let f = past_within end (key_of c) l y x in let g = sym z ∙ f in cc
      go true false false x y z = sym (ap (λ b. cond b (Some l) None) x)
      go false true true x y z = sym (ap (λ b. cond b (Some (key_of c)) None) y)
      go false true false x y z = let f = past_then end (key_of c) l z x in let g = sym y ∙ f in cc
      go false false true x y z = sym (ap (λ b. cond b (Some (key_of c)) None) y)
      go false false false x y z = sym (ap (λ b. cond b (Some l) None) x)

  -- the least key below the upper end is the least key, where that is below it
  pub least_within : (end before : Option (List ℕ)) (lines : List Line) → least_from falls end (kept_within end before) lines ≡ kept_within end (least_from falls None before lines)
  least_within end before [] = refl
  least_within end before (line ∷ lines) = ap (λ x. least_from falls end x lines) (lowered_within end before line.head) ∙ least_within end (lowered falls None before line.head) lines

  -- where all heads were seen, whose least key is this
  pub least_ends : (end before found : Option (List ℕ)) (lines left : List Line) → left ≡ [] → least_from falls None before left ≡ least_from falls None None lines → before ≡ found → kept_within end found ≡ least_from falls end None lines
  least_ends end before found lines left n h e = ap (kept_within end) (sym e ∙ sym (ap (least_from falls None before) n) ∙ h) ∙ sym (least_within end None lines)
