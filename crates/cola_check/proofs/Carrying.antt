-- A walk over three runs by least keys, and what it says of each key of them.
use Rattle.std.proofs.Common.{◌≡◌, ℕ, false, cond, List, [], ◌∷◌, refl, sym, ap, ◌∙◌, Less, ◌↔◌, inl, inr, ◌<◌, ◌+◌, Bool, true, drop, Option, None, Some, subst, arith, is_lt, is_eq}
use Rattle.cola_check.proofs.Common.{AllByRecursion, transport, IsStrictlySortedBy, Entry, Look, IsRising, flagged, seen, Seen, AtHead, pass_key, by_bool, tied_alike, LawCell, Held, Stamped, key_cmp, Cell, Run, run_cells}
use Rattle.cola_check.proofs.Common.{passed_seen, WalkFits, IsReady, rest, ahead, as_seen, least_from, Passes, Beside, Found, Walk, IsRunTold, FitsAt, IsCarried, IsInOrder, AreInOrder, BeginBeside, StepsBeside, walks_of}
use Rattle.cola_runs.specs.Cells.{key_of}
use Rattle.cola_runs.specs.Seen.{Nothing}
use Rattle.cola_laws.specs.Chain.{part_of}
use Rattle.cola_laws.specs.Sound.{Carried, Keeps, KeepsAll}
use Rattle.cola_pairs.proofs.LivePairs.{rising_onward, none_below}
use Rattle.cola_pairs.proofs.Onward.{passed_above, rising_passed}
use Rattle.cola_check.specs.declared.carried.Step.{Step}
use Rattle.cola_look.proofs.KeyLemmas.{key_same, same_key}
use Rattle.cola_check.proofs.LeastKeys.{key_total, HeadFrom, IsLeast, some_head, least_is, least_none}
use Rattle.cola_check.proofs.Fronts.{FrontIs, ready_front, ahead_stays, ahead_falls}

-- ---- what a list in order has of keys, before and behind the cells of a key at its front

-- no cell before key k stands at the front
abbrev pub BeginsFrom : List ℕ → List LawCell → Type 0
BeginsFrom k = AtHead (λ h. is_lt (key_cmp h k) ≡ false)

-- what has other keys stays
pub others_stay : (k q : List ℕ) → is_eq (key_cmp q k) ≡ false → (cells : List LawCell) → seen key_cmp q (pass_key key_cmp k cells) ≡ seen key_cmp q cells
others_stay k q n [] = refl
others_stay k q n (Look x l ∷ cells) =
    by_bool (λ b. seen key_cmp q (cond b (pass_key key_cmp k cells) (Look x l ∷ cells)) ≡ seen key_cmp q cells) (others_stay k q n cells) refl (is_eq (key_cmp k x))
others_stay k q n (Entry x i y l ∷ cells) =
    by_bool (λ b. is_eq (key_cmp k x) ≡ b → seen key_cmp q (cond b (pass_key key_cmp k cells) (Entry x i y l ∷ cells)) ≡ cond (is_eq (key_cmp q x)) (flagged y i) (seen key_cmp q cells))
    (λ e. others_stay k q n cells ∙ ap (λ b. cond b (flagged y i) (seen key_cmp q cells)) (sym (tied_alike key_total q k x e ∙ n)))
    (λ e. refl)
    (is_eq (key_cmp k x)) refl

-- a list above a key has nothing of it
unseen_below : (k : List ℕ) (cells : List LawCell) → AllByRecursion (λ c. key_cmp k (key_of c) ≡ Less) cells → seen key_cmp k cells ≡ Nothing
unseen_below k [] h = refl
unseen_below k (Look x l ∷ cells) h = unseen_below k cells h.1
unseen_below k (Entry x i y l ∷ cells) h = ap (λ r. cond (is_eq r) (flagged y i) (seen key_cmp k cells)) h.0 ∙ unseen_below k cells h.1

-- nothing of the key is left behind its cells
pub none_behind : (k : List ℕ) (cells : List LawCell) → IsRising key_cmp cells → BeginsFrom k cells → seen key_cmp k (pass_key key_cmp k cells) ≡ Nothing
none_behind k cells h p = unseen_below k (pass_key key_cmp k cells) (passed_above key_total k cells (rising_onward key_total cells h) p)

begins_after : (k : List ℕ) (c : LawCell) (cells : List LawCell) → IsRising key_cmp (c ∷ cells) → BeginsFrom k (c ∷ cells) → BeginsFrom k cells
begins_after k c [] h p = tt
begins_after k c (d ∷ cells) h p = (none_below key_total k c (d ∷ cells) p (rising_onward key_total (c ∷ d ∷ cells) h)).1.0

-- the item of the key stands at the front, or nowhere
pub front_is_seen : (k : List ℕ) (cells : List LawCell) → IsRising key_cmp cells → BeginsFrom k cells → passed_seen k cells ≡ seen key_cmp k cells
unfolding IsStrictlySortedBy
front_is_seen k [] h p = refl
front_is_seen k (Entry x i y l ∷ cells) h p =
    by_bool (λ b. is_eq (key_cmp k x) ≡ b → seen key_cmp k (cond b (pass_key key_cmp k cells) (Entry x i y l ∷ cells)) ≡ Nothing → cond b (flagged y i) Nothing ≡ cond b (flagged y i) (seen key_cmp k cells))
    (λ e n. refl)
    (λ e n. sym n ∙ ap (λ b. cond b (flagged y i) (seen key_cmp k cells)) e)
    (is_eq (key_cmp k x)) refl (none_behind k (Entry x i y l ∷ cells) h p)
front_is_seen k (Look x l ∷ cells) h p =
    by_bool (λ b. is_eq (key_cmp k x) ≡ b → seen key_cmp k (cond b (pass_key key_cmp k cells) (Look x l ∷ cells)) ≡ Nothing → cond b (passed_seen k cells) Nothing ≡ seen key_cmp k cells)
    (λ e n. front_is_seen k cells h.1 (begins_after k (Look x l) cells h p))
    (λ e n. sym n)
    (is_eq (key_cmp k x)) refl (none_behind k (Look x l ∷ cells) h p)

-- ---- lists of cells

-- a list in order that begins at a key or behind it, and the list without the cells of that key
pub record Behind (k : List ℕ) (old new : List LawCell) : Type 0 where
  rising : IsRising key_cmp old
  begins : BeginsFrom k old
  is : new ≡ pass_key key_cmp k old

other_key : {k : List ℕ} {old new : List LawCell} → Behind k old new → (q : List ℕ) → is_eq (key_cmp q k) ≡ false → seen key_cmp q new ≡ seen key_cmp q old
other_key {k} {old} {new} b q e = ap (seen key_cmp q) b.is ∙ others_stay k q e old

that_key : {k : List ℕ} {old new : List LawCell} → Behind k old new → (q : List ℕ) → q ≡ k → seen key_cmp q new ≡ Nothing
that_key {k} {old} {new} b q e = ap (λ x. seen key_cmp x new) e ∙ ap (seen key_cmp k) b.is ∙ none_behind k old b.rising b.begins

-- a relation between what three lists have of a key, which holds where they have nothing
module _ (P : Seen Stamped → Seen Stamped → Seen Stamped → Type 0) where
  -- it holds at each key
  abbrev pub AtEach : List LawCell → List LawCell → List LawCell → Type 0
  AtEach above own shadow = (q : List ℕ) → P (seen key_cmp q above) (seen key_cmp q own) (seen key_cmp q shadow)

  all_three : {a b c d e f : Seen Stamped} → a ≡ d → b ≡ e → c ≡ f → P a b c → P d e f
  all_three {a} {b} {c} {d} {e} {f} p q r h = subst (λ x. P d e x) r (subst (λ x. P d x c) q (subst (λ x. P x b c) p h))

  module _ (nothing : P Nothing Nothing Nothing) {k : List ℕ} {above own shadow above_left own_left shadow_left : List LawCell}
      (a : Behind k above above_left) (o : Behind k own own_left) (s : Behind k shadow shadow_left) where
    step_leaves : AtEach above own shadow → AtEach above_left own_left shadow_left
    step_leaves h q =
        by_bool (λ b. is_eq (key_cmp q k) ≡ b → P (seen key_cmp q above_left) (seen key_cmp q own_left) (seen key_cmp q shadow_left))
        (λ e. let i = same_key q k e in all_three (sym (that_key a q i)) (sym (that_key o q i)) (sym (that_key s q i)) nothing)
        (λ e. all_three (sym (other_key a q e)) (sym (other_key o q e)) (sym (other_key s q e)) (h q))
        (is_eq (key_cmp q k)) refl

    step_adds : P (seen key_cmp k above) (seen key_cmp k own) (seen key_cmp k shadow) → AtEach above_left own_left shadow_left → AtEach above own shadow
    step_adds f h q =
        by_bool (λ b. is_eq (key_cmp q k) ≡ b → P (seen key_cmp q above) (seen key_cmp q own) (seen key_cmp q shadow))
        (λ e. subst (λ x. P (seen key_cmp x above) (seen key_cmp x own) (seen key_cmp x shadow)) (sym (same_key q k e)) f)
        (λ e. all_three (other_key a q e) (other_key o q e) (other_key s q e) (h q))
        (is_eq (key_cmp q k)) refl

-- ---- one walk

pub begins_from : (held : Held) (k : List ℕ) (walk : Walk) → WalkFits held walk → IsReady walk → IsRunTold held walk.run → HeadFrom k walk.head → BeginsFrom k (rest held walk)
begins_from held k walk f r t h = go walk.head h (ready_front held walk f r t)
  where
    go : (head : Option Cell) → HeadFrom k head → FrontIs held walk head → BeginsFrom k (rest held walk)
    go None h e = subst (BeginsFrom k) (sym e) tt
    go (Some c) h e = subst (BeginsFrom k) (sym e) (ap (λ x. is_lt (key_cmp x k)) (key_same c) ∙ h)

pub nothing_left : (held : Held) (walk : Walk) → WalkFits held walk → IsReady walk → IsRunTold held walk.run → walk.head ≡ None → rest held walk ≡ []
nothing_left held walk f r t h = subst (FrontIs held walk) h (ready_front held walk f r t)

-- a walk on its way in a run
pub record IsOn (held : Held) (run : Run) (walk : Walk) : Type 0 where
  pub run_is : walk.run ≡ run
  pub fits : WalkFits held walk
  pub ready : IsReady walk
  pub rising : IsInOrder held run → IsRising key_cmp (rest held walk)

pub told_of : {held : Held} {run : Run} {walk : Walk} → IsOn held run walk → IsInOrder held run → IsRunTold held walk.run
told_of {held} i o = subst (IsRunTold held) (sym i.run_is) o.told

pub behind_of : {held : Held} {k : List ℕ} {run : Run} {old new : Walk} {found : Found} → IsOn held run old → IsInOrder held run → HeadFrom k old.head → Passes held k old new found → Behind k (rest held old) (rest held new)
behind_of {held} {k} {run} {old} i o h p = record {
  rising = i.rising o;
  begins = begins_from held k old i.fits i.ready (told_of i o) h;
  is = p.rest_is (told_of i o);
}

pub found_of_key : {held : Held} {k : List ℕ} {run : Run} {old new : Walk} {found : Found} → IsOn held run old → IsInOrder held run → HeadFrom k old.head → Passes held k old new found → as_seen found ≡ seen key_cmp k (rest held old)
found_of_key {held} {k} {run} {old} i o h p = p.found_is (told_of i o) ∙ front_is_seen k (rest held old) (i.rising o) (begins_from held k old i.fits i.ready (told_of i o) h)

pub rest_begins : (held : Held) (run : Run) (walk : Walk) → walk.run ≡ run → walk.at ≡ 0 → rest held walk ≡ run_cells held run
rest_begins held run walk r a = ap (λ n. drop n (run_cells held walk.run)) a ∙ ap (run_cells held) r

pub on_first : {held : Held} {run : Run} {walk : Walk} → walk.run ≡ run → walk.at ≡ 0 → WalkFits held walk → IsReady walk → IsOn held run walk
on_first {held} {run} {walk} r a f d = record { run_is = r; fits = f; ready = d; rising = λ o. subst (IsRising key_cmp) (sym (rest_begins held run walk r a)) o.rising }

pub on_next : {held : Held} {k : List ℕ} {run : Run} {old new : Walk} {found : Found} → IsOn held run old → Passes held k old new found → IsOn held run new
on_next {held} {k} {run} {old} {new} i p = record {
  run_is = p.run_is ∙ i.run_is;
  fits = p.fits;
  ready = p.ready;
  rising = λ o. subst (IsRising key_cmp) (sym (p.rest_is (told_of i o))) (rising_passed key_total k (rest held old) (i.rising o));
}

-- ---- the three walks

-- the walks on their way: a relation holds at each key of what is left where it holds at each key of the runs, and the other way round
pub record IsGoing (P : Seen Stamped → Seen Stamped → Seen Stamped → Type 0) (held : Held) (above own shadow : Run) (walks : Beside) : Type 0 where
  pub above_on : IsOn held above walks.above
  pub own_on : IsOn held own walks.own
  pub shadow_on : IsOn held shadow walks.shadow
  pub leaves : AreInOrder held above own shadow → AtEach P (run_cells held above) (run_cells held own) (run_cells held shadow) → AtEach P (rest held walks.above) (rest held walks.own) (rest held walks.shadow)
  pub adds : AreInOrder held above own shadow → AtEach P (rest held walks.above) (rest held walks.own) (rest held walks.shadow) → AtEach P (run_cells held above) (run_cells held own) (run_cells held shadow)

pub going_begins : {P : Seen Stamped → Seen Stamped → Seen Stamped → Type 0} {held : Held} {above own shadow : Run} {walks : Beside} → BeginBeside held above own shadow walks → IsGoing P held above own shadow walks
going_begins {P} {held} {above} {own} {shadow} {walks} b =
    let e = rest_begins held above walks.above b.above_is b.above_at in
    let f = rest_begins held own walks.own b.own_is b.own_at in
    let g = rest_begins held shadow walks.shadow b.shadow_is b.shadow_at in
    record {
      above_on = on_first b.above_is b.above_at b.fits.above b.ready.above;
      own_on = on_first b.own_is b.own_at b.fits.own b.ready.own;
      shadow_on = on_first b.shadow_is b.shadow_at b.fits.shadow b.ready.shadow;
      leaves = λ o h. transport (λ i. AtEach P (sym e i) (sym f i) (sym g i)) h;
      adds = λ o h. transport (λ i. AtEach P (e i) (f i) (g i)) h;
    }

module _ {P : Seen Stamped → Seen Stamped → Seen Stamped → Type 0} {held : Held} {above own shadow : Run} {walks : Beside} where
  module _ (nothing : P Nothing Nothing Nothing) (i : IsGoing P held above own shadow walks) where
    pub going_ends : AreInOrder held above own shadow → least_from None (walks_of walks) ≡ None → AtEach P (run_cells held above) (run_cells held own) (run_cells held shadow)
    going_ends o e =
        let heads = (least_none None (walks_of walks) e).1 in
        let a = nothing_left held walks.above i.above_on.fits i.above_on.ready (told_of i.above_on o.above_in) heads.0 in
        let b = nothing_left held walks.own i.own_on.fits i.own_on.ready (told_of i.own_on o.own_in) heads.1.0 in
        let c = nothing_left held walks.shadow i.shadow_on.fits i.shadow_on.ready (told_of i.shadow_on o.shadow_in) heads.1.1.0 in
        i.adds o (transport (λ j. AtEach P (sym a j) (sym b j) (sym c j)) (λ q. nothing))

    module _ {k : List ℕ} {new : Beside} {step : Step} (e : least_from None (walks_of walks) ≡ Some k) (p : StepsBeside held k walks new step) where
      abbrev heads : IsLeast None (walks_of walks) k
      heads = least_is None (walks_of walks) k e

      -- what the walk found of the key is what the three lists have of it
      found_at : AreInOrder held above own shadow → P (as_seen step.above) (as_seen step.own) (as_seen step.shadow) ↔
          P (seen key_cmp k (rest held walks.above)) (seen key_cmp k (rest held walks.own)) (seen key_cmp k (rest held walks.shadow))
      found_at o =
          let a = found_of_key i.above_on o.above_in heads.from.0 p.above in
          let b = found_of_key i.own_on o.own_in heads.from.1.0 p.own in
          let c = found_of_key i.shadow_on o.shadow_in heads.from.1.1.0 p.shadow in
          (all_three P a b c, all_three P (sym a) (sym b) (sym c))

      pub going_on : P (as_seen step.above) (as_seen step.own) (as_seen step.shadow) → IsGoing P held above own shadow new
      going_on f = record {
        above_on = on_next i.above_on p.above;
        own_on = on_next i.own_on p.own;
        shadow_on = on_next i.shadow_on p.shadow;
        leaves = λ o h. step_leaves P nothing (behind_of i.above_on o.above_in heads.from.0 p.above) (behind_of i.own_on o.own_in heads.from.1.0 p.own) (behind_of i.shadow_on o.shadow_in heads.from.1.1.0 p.shadow) (i.leaves o h);
        adds = λ o h. i.adds o (step_adds P nothing (behind_of i.above_on o.above_in heads.from.0 p.above) (behind_of i.own_on o.own_in heads.from.1.0 p.own) (behind_of i.shadow_on o.shadow_in heads.from.1.1.0 p.shadow)
            ((found_at o).0 f) h);
      }

      -- where the relation fails at a key it fails of the runs
      pub going_fails : (P (as_seen step.above) (as_seen step.own) (as_seen step.shadow) → ⊥) → AreInOrder held above own shadow → AtEach P (run_cells held above) (run_cells held own) (run_cells held shadow) → ⊥
      going_fails f o h = f ((found_at o).1 (i.leaves o h k))

      -- a step leaves less to pass
      pub going_less : ahead new.above + ahead new.own + ahead new.shadow < ahead walks.above + ahead walks.own + ahead walks.shadow
      going_less =
          let a = ahead_stays p.above in
          let b = ahead_stays p.own in
          let c = ahead_stays p.shadow in
          elim (some_head k (walks_of walks) heads.any) [
            | inl x ↦ let d = ahead_falls p.above x in omega arith
            | inr (inl x) ↦ let d = ahead_falls p.own x in omega arith
            | inr (inr (inl x)) ↦ let d = ahead_falls p.shadow x in omega arith
            | inr (inr (inr x)) ↦ absurd x
          ]

-- ---- a finished shadow

pub fits_nothing : (odd bottom : Bool) → FitsAt odd bottom Nothing Nothing Nothing
fits_nothing odd bottom = record { carried = refl; keeps = λ a b. refl }

pub carried_each : (odd bottom : Bool) (above own shadow : List LawCell) → AtEach (FitsAt odd bottom) above own shadow → IsCarried odd bottom above own shadow
carried_each odd bottom above own shadow h = record { carried = λ q. (h q).carried; keeps = λ b o q. (h q).keeps b o }

pub each_carried : (odd bottom : Bool) (above own shadow : List LawCell) → IsCarried odd bottom above own shadow → AtEach (FitsAt odd bottom) above own shadow
each_carried odd bottom above own shadow h = λ q. record { carried = h.carried q; keeps = λ b o. h.keeps b o q }

-- by the list of the levels below
abbrev pub is_none : {X : Type 0} → List X → Bool
is_none [] = true
is_none (x ∷ xs) = false

pub carried_by_part : {X : Type 0} (odd : Bool) (below : List X) (above own shadow : List LawCell) → IsCarried odd (is_none below) above own shadow →
    ((q : List ℕ) → Carried (part_of odd below) (seen key_cmp q above) (seen key_cmp q own) (seen key_cmp q shadow)) × KeepsAll odd below ((q : List ℕ) → Keeps (seen key_cmp q own) (seen key_cmp q shadow))
carried_by_part odd [] above own shadow h = (h.carried, tt)
carried_by_part odd (x ∷ below) above own shadow h = (h.carried, h.keeps refl)

pub part_carried : {X : Type 0} (odd : Bool) (below : List X) (above own shadow : List LawCell) → ((q : List ℕ) → Carried (part_of odd below) (seen key_cmp q above) (seen key_cmp q own) (seen key_cmp q shadow)) →
    KeepsAll odd below ((q : List ℕ) → Keeps (seen key_cmp q own) (seen key_cmp q shadow)) → IsCarried odd (is_none below) above own shadow
part_carried odd [] above own shadow c k = record { carried = c; keeps = λ b o. cc }
part_carried odd (x ∷ below) above own shadow c k = record { carried = c; keeps = λ b o. k o }
