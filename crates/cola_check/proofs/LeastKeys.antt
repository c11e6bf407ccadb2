-- The least keys of walks, and of those down to each level.
use Rattle.std.proofs.Common.{◌≡◌, ℕ, List, true, refl, ◌⊎◌, inl, inr, false, cond, [], ◌∷◌, Option, None, Some, IsTrue, sym, ap, ◌∙◌, zero, suc, ◌-◌, ◌<◌, length, take, get_or, Result, OnOk, subst, arith, is_eq, is_lt}
use Rattle.cola_check.proofs.Common.{IsTotalOrder, tied_itself, AllByRecursion, refill, take-length, on_ok_weaker, same_Some, by_bool, by_ordering, is_less, all_change, not_below_then, Cell, key_of, Held, key_cmp}
use Rattle.cola_check.proofs.Common.{ReadFault, Walk, has_key, lesser, least_from, Passes, LevelWalks, walks_in, LevelFits, IsLevelReady, Each, PassesLevel, AreLeasts, AreFirstLeasts, IsAwayFrom, AreAwayFrom, Stays, IsHushed}
use Rattle.cola_check.proofs.Common.{FirstStay}
use Rattle.std.specs.Ordering.{ordering_reverse}
use Rattle.std.specs.Cmp.Lexicographic.{nat_list_cmp_total}
use Rattle.cola_look.proofs.KeyLemmas.{keys_alike, same_key}
use Rattle.cola_check.proofs.Fronts.{stands_still}
use Rattle.cola_check.proofs.Levels.{refilled}
use Rattle.cola_check.specs.declared.walk.Found.TheVariants as found

-- ---- the order of keys

abbrev pub key_total : IsTotalOrder key_cmp
key_total = nat_list_cmp_total

-- ---- what is below a key, and what is not

less_not : (x y : List ℕ) → is_lt (key_cmp x y) ≡ true → is_lt (key_cmp y x) ≡ false
less_not x y e = ap is_lt (key_total.antisymm y x) ∙ ap (λ r. is_lt (ordering_reverse r)) (is_less _ e)

itself : (x : List ℕ) → is_lt (key_cmp x x) ≡ false
itself x = ap is_lt (tied_itself key_total x)

pub itself_equal : (x : List ℕ) → is_eq (key_cmp x x) ≡ true
itself_equal x = ap is_eq (tied_itself key_total x)

-- ---- one head more

-- a head that is not below k, or none
abbrev pub HeadFrom : List ℕ → Option Cell → Type 0
HeadFrom k None = Unit {0}
HeadFrom k (Some c) = is_lt (key_cmp (key_of c) k) ≡ false

-- some walk has a head of the key
abbrev pub AnyHas : List ℕ → List Walk → Type 0
AnyHas k [] = ⊥
AnyHas k (walk ∷ walks) = IsTrue (has_key k walk.head) ⊎ AnyHas k walks

-- what the least key says of the heads and of the key before them
pub record IsLeast (before : Option (List ℕ)) (walks : List Walk) (k : List ℕ) : Type 0 where
  pub from : AllByRecursion (λ walk. HeadFrom k walk.head) walks
  pub first : (a : List ℕ) → before ≡ Some a → is_lt (key_cmp a k) ≡ false
  pub any : (before ≡ Some k) ⊎ AnyHas k walks

-- the same with one head before
record Lowers (before : Option (List ℕ)) (head : Option Cell) (k : List ℕ) (after : Option (List ℕ)) : Type 0 where
  from : ((a : List ℕ) → after ≡ Some a → is_lt (key_cmp a k) ≡ false) → HeadFrom k head
  first : ((a : List ℕ) → after ≡ Some a → is_lt (key_cmp a k) ≡ false) → (a : List ℕ) → before ≡ Some a → is_lt (key_cmp a k) ≡ false
  any : after ≡ Some k → (before ≡ Some k) ⊎ IsTrue (has_key k head)

lowers : (before : Option (List ℕ)) (head : Option Cell) (k : List ℕ) → Lowers before head k (lesser before head)
lowers before None k = record { from = λ h. tt; first = λ h. h; any = λ e. inl e }
lowers None (Some c) k = record {
  from = λ h. h (key_of c) refl;
  first = λ h a f. cc;
  any = λ f. inr (ap (λ x. is_eq (key_cmp k x)) (same_Some (key_of c) k f) ∙ itself_equal k);
}
lowers (Some l) (Some c) k =
    by_bool (λ t. is_lt (key_cmp (key_of c) l) ≡ t → Lowers (Some l) (Some c) k (cond t (Some (key_of c)) (Some l)))
    (λ t. record {
      from = λ h. h (key_of c) refl;
      first = λ h a f. not_below_then key_total (key_of c) a k (ap (λ x. is_lt (key_cmp x (key_of c))) (sym (same_Some l a f)) ∙ less_not (key_of c) l t) (h (key_of c) refl);
      any = λ f. inr (ap (λ x. is_eq (key_cmp k x)) (same_Some (key_of c) k f) ∙ itself_equal k);
    })
    (λ t. record {
      from = λ h. not_below_then key_total l (key_of c) k t (h l refl);
      first = λ h. h;
      any = λ f. inl f;
    })
    (is_lt (key_cmp (key_of c) l)) refl

pub least_is : (before : Option (List ℕ)) (walks : List Walk) (k : List ℕ) → least_from before walks ≡ Some k → IsLeast before walks k
least_is before [] k e = record {
  from = tt;
  first = λ a f. ap (λ x. is_lt (key_cmp x k)) (same_Some a k (sym f ∙ e)) ∙ itself k;
  any = inl e;
}
least_is before (walk ∷ walks) k e =
    let r = least_is (lesser before walk.head) walks k e in
    let l = lowers before walk.head k in
    record {
      from = (l.from r.first, r.from);
      first = l.first r.first;
      any = found (lesser before walk.head) l.any r.any;
    }
  where
    found : (after : Option (List ℕ)) → (after ≡ Some k → (before ≡ Some k) ⊎ IsTrue (has_key k walk.head)) → (after ≡ Some k) ⊎ AnyHas k walks → (before ≡ Some k) ⊎ AnyHas k (walk ∷ walks)
    found after h (inr a) = inr (inr a)
    found after h (inl f) = elim (h f) [ inl x ↦ inl x | inr y ↦ inr (inl y) ]

lesser_none : (before : Option (List ℕ)) (head : Option Cell) → lesser before head ≡ None → (before ≡ None) × (head ≡ None)
lesser_none before None e = (e, refl)
lesser_none None (Some c) e = cc
lesser_none (Some l) (Some c) e =
    by_bool (λ t. cond t (Some (key_of c)) (Some l) ≡ None → (Some l ≡ None) × (Some c ≡ None)) (λ f. cc) (λ f. cc) (is_lt (key_cmp (key_of c) l)) e

pub least_none : (before : Option (List ℕ)) (walks : List Walk) → least_from before walks ≡ None → (before ≡ None) × AllByRecursion (λ walk. walk.head ≡ None) walks
least_none before [] e = (e, tt)
least_none before (walk ∷ walks) e =
    let r = least_none (lesser before walk.head) walks e in
    let l = lesser_none before walk.head r.0 in
    (l.0, (l.1, r.1))

-- ---- the least key down to a level

pub leasts-many : (before : Option (List ℕ)) (leasts : List (Option (List ℕ))) (levels : List LevelWalks) → AreLeasts before leasts levels → length leasts ≡ length levels
leasts-many before [] [] h = refl
leasts-many before (least ∷ leasts) (level ∷ levels) h = ap suc (leasts-many least leasts levels h.1)
leasts-many before _ _ h = absurd h

-- it is the least of the walks down to there
entry-is : (before : Option (List ℕ)) (leasts : List (Option (List ℕ))) (levels : List LevelWalks) → AreLeasts before leasts levels → (i : ℕ) (x : Option (List ℕ)) → i < length leasts → x ≡ get_or leasts i x →
    x ≡ least_from before (walks_in (take (suc i) levels))
entry-is before [] levels h i x l e = absurd (omega (arith, l))
entry-is before (least ∷ leasts) [] h i x l e = absurd h
entry-is before (least ∷ leasts) (level ∷ levels) h zero x l e = e ∙ h.0
entry-is before (least ∷ leasts) (level ∷ levels) h (suc i) x l e =
    entry-is least leasts levels h.1 i x (omega (arith, l)) e ∙ ap (λ (b : Option (List ℕ)). least_from b (walks_in (take (suc i) levels))) h.0

-- the last one is the least of all
pub last-is : (leasts : List (Option (List ℕ))) (levels : List LevelWalks) → AreLeasts None leasts levels → (i : ℕ) (x : Option (List ℕ)) → suc i ≡ length leasts → x ≡ get_or leasts i x → x ≡ least_from None (walks_in levels)
last-is leasts levels h i x l e =
    entry-is None leasts levels h i x (omega (arith, l)) e
    ∙ ap (λ (n : ℕ). least_from None (walks_in (take n levels))) (l ∙ leasts-many None leasts levels h) ∙ ap (λ (ls : List LevelWalks). least_from None (walks_in ls)) (take-length levels)

-- ---- one key, which no head is below

above : (k m : List ℕ) → is_lt (key_cmp m k) ≡ false → (m ≡ k → ⊥) → is_lt (key_cmp k m) ≡ true
above k m e n =
    ap is_lt (key_total.antisymm k m)
    ∙ by_ordering (λ r. key_cmp m k ≡ r → is_lt r ≡ false → is_lt (ordering_reverse r) ≡ true) (λ q f. cc) (λ q f. absurd (n (keys_alike m k q))) (λ q f. refl) (key_cmp m k) refl e

-- a head from another key on, which is above this one, has not this one
past : (k m : List ℕ) → is_lt (key_cmp k m) ≡ true → (head : Option Cell) → HeadFrom m head → has_key k head ≡ false
past k m t None h = refl
past k m t (Some c) h = by_bool (λ b. is_eq (key_cmp k (key_of c)) ≡ b → b ≡ false) (λ e. sym t ∙ ap (λ x. is_lt (key_cmp x m)) (same_key k (key_of c) e) ∙ h) (λ e. refl) (is_eq (key_cmp k (key_of c))) refl

head_from : (k m : List ℕ) (head : Option Cell) → HeadFrom k head → IsTrue (has_key m head) → is_lt (key_cmp m k) ≡ false
head_from k m None h a = cc
head_from k m (Some c) h a = ap (λ x. is_lt (key_cmp x k)) (same_key m (key_of c) a) ∙ h

any_from : (k m : List ℕ) (walks : List Walk) → AllByRecursion (λ walk. HeadFrom k walk.head) walks → AnyHas m walks → is_lt (key_cmp m k) ≡ false
any_from k m [] h a = absurd a
any_from k m (walk ∷ walks) h (inl a) = head_from k m walk.head h.0 a
any_from k m (walk ∷ walks) h (inr a) = any_from k m walks h.1 a

pub some_head : (m : List ℕ) (walks : List Walk) → (None ≡ Some m) ⊎ AnyHas m walks → AnyHas m walks
some_head m walks (inl e) = cc
some_head m walks (inr a) = a

first_from : (k : List ℕ) (n : ℕ) (levels : List LevelWalks) → AllByRecursion (λ walk. HeadFrom k walk.head) (walks_in levels) → AllByRecursion (λ walk. HeadFrom k walk.head) (walks_in (take n levels))
first_from k (suc n) (level ∷ levels) h = (h.0, (h.1.0, first_from k n levels h.1.1))
first_from k _ _ h = tt

are_away : (n : ℕ) (k : List ℕ) (levels : List LevelWalks) → AllByRecursion (λ walk. has_key k walk.head ≡ false) (walks_in (take n levels)) → AreAwayFrom n k levels
are_away (suc n) k (level ∷ levels) h = (record { visible = h.0; shadow = h.1.0 }, are_away n k levels h.1.1)
are_away _ k _ h = tt

-- heads from a key on, whose least is not that key, have it not
none_has : (k : List ℕ) (walks : List Walk) → AllByRecursion (λ walk. HeadFrom k walk.head) walks → (least : Option (List ℕ)) → least_from None walks ≡ least → (least ≡ Some k → ⊥) → AllByRecursion (λ walk. has_key k walk.head ≡ false) walks
none_has k walks h None e n = all_change (λ walk f. ap (has_key k) f) walks (least_none None walks e).1
none_has k walks h (Some m) e n =
    let is = least_is None walks m e in
    let t : is_lt (key_cmp k m) ≡ true = above k m (any_from k m walks h (some_head m walks is.any)) (λ q. n (ap Some q)) in
    all_change (λ walk f. past k m t walk.head f) walks is.from

-- where another key is the least down to a level, no walk down to there stands at the least of all
pub away-above : (k : List ℕ) (leasts : List (Option (List ℕ))) (levels : List LevelWalks) → AreLeasts None leasts levels → least_from None (walks_in levels) ≡ Some k →
    (n i : ℕ) (x : Option (List ℕ)) → n ≡ suc i → i < length leasts → x ≡ get_or leasts i x → (x ≡ Some k → ⊥) → AreAwayFrom n k levels
away-above k leasts levels h least n i x m l e not =
    subst (λ (j : ℕ). AreAwayFrom j k levels) (sym m) (are_away (suc i) k levels
    (none_has k (walks_in (take (suc i) levels)) (first_from k (suc i) levels (least_is None (walks_in levels) k least).from) x (sym (entry-is None leasts levels h i x l e)) not))

-- ---- one level fewer

away-here : (n : ℕ) (k : List ℕ) (level : LevelWalks) (levels : List LevelWalks) → 0 < n → AreAwayFrom n k (level ∷ levels) → IsAwayFrom k level
away-here zero k level levels l h = absurd (omega (arith, l))
away-here (suc n) k level levels l h = h.0

pub away-below : (n m : ℕ) (k : List ℕ) (level : LevelWalks) (levels : List LevelWalks) → m ≡ n - 1 → AreAwayFrom n k (level ∷ levels) → AreAwayFrom m k levels
away-below zero m k level levels e h = subst (λ (j : ℕ). AreAwayFrom j k levels) (let z : 0 ≡ m = omega (arith, e) in z) tt
away-below (suc n) m k level levels e h = subst (λ (j : ℕ). AreAwayFrom j k levels) (let z : n ≡ m = omega (arith, e) in z) h.1

-- a level away from the key is passed by staying
stays-passes : {held : Held} (k : List ℕ) (old new : LevelWalks) → LevelFits held old → IsLevelReady old → IsAwayFrom k old → Stays old new → IsHushed old new → PassesLevel held k old new
stays-passes {held} k old new f r a s h = record {
  visible = record { found = found.Nothing; passes = subst (λ (w : Walk). Passes held k old.visible.walk w found.Nothing) (sym s.visible) (stands_still f.visible r.visible a.visible); said_is = h.visible };
  shadow = record { found = found.Nothing; passes = subst (λ (w : Walk). Passes held k old.shadow.walk w found.Nothing) (sym s.shadow) (stands_still f.shadow r.shadow a.shadow); said_is = h.shadow };
  odd_is = h.odd_is;
}

pub stays-then : {T : Type 0} (held : Held) (k : List ℕ) (result : Result T ReadFault) (n : ℕ) (levels : List LevelWalks) (old new : LevelWalks) (olds news : List LevelWalks) → levels ≡ old ∷ olds → 0 < n →
    AllByRecursion (LevelFits held) levels → AllByRecursion IsLevelReady levels → AreAwayFrom n k levels → Stays old new → IsHushed old new → OnOk result (Each (PassesLevel held k) olds news) → OnOk result (Each (PassesLevel held k) levels (new ∷ news))
stays-then held k result n levels old new olds news is l f r a s h =
    let fits = subst (AllByRecursion (LevelFits held)) is f in
    let ready = subst (AllByRecursion IsLevelReady) is r in
    let away = away-here n k old olds l (subst (AreAwayFrom n k) is a) in
    on_ok_weaker result (λ p. subst (λ (ls : List LevelWalks). Each (PassesLevel held k) ls (new ∷ news)) (sym is) (stays-passes k old new fits.0 ready.0 away s h, p))

-- ---- a step

-- the least keys of the first levels stay where their walks do
pub kept-on : (n : ℕ) (before : Option (List ℕ)) (leasts : List (Option (List ℕ))) (olds news : List LevelWalks) → AreLeasts before leasts olds → FirstStay n olds news → AreFirstLeasts n before leasts news
kept-on (suc n) before (least ∷ leasts) [] news h s = absurd h
kept-on (suc n) before (least ∷ leasts) (old ∷ olds) (new ∷ news) h s = (
  h.0 ∙ ap (λ (walk : Walk). lesser (lesser before walk.head) old.shadow.walk.head) (sym s.0.visible)
      ∙ ap (λ (walk : Walk). lesser (lesser before new.visible.walk.head) walk.head) (sym s.0.shadow),
  kept-on n least leasts olds news h.1 s.1,
)
kept-on _ before _ _ _ h s = tt

-- the least key of all walks, by the answer
pub leads : {leasts items : List (Option (List ℕ))} (walks : List LevelWalks) {answer wanted : Option (List ℕ)} → ((levels : List LevelWalks) → AreLeasts None leasts levels → answer ≡ least_from None (walks_in levels)) →
    leasts ≡ items → AreLeasts None items walks → answer ≡ wanted → least_from None (walks_in walks) ≡ wanted
leads walks f e h is = sym (f walks (subst (λ (ls : List (Option (List ℕ))). AreLeasts None ls walks) (sym e) h)) ∙ is

-- a list of least keys, written over another
pub refilled-leasts : (olds news : List (Option (List ℕ))) (levels : List LevelWalks) → length olds ≡ length levels → AreLeasts None news levels → AreLeasts None (refill (length olds) olds news) levels
refilled-leasts olds news levels m h =
    subst (λ (ls : List (Option (List ℕ))). AreLeasts None ls levels) (sym (refilled olds news (leasts-many None news levels h ∙ sym m))) h
