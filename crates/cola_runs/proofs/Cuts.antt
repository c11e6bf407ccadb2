-- The first rule that fits takes a source cell and emits the first cell of what the sources weave.
use Rattle.std.proofs.Common.{◌≡◌, ℕ, suc, ◌+◌, ◌*◌, ◌<◌, Bool, true, false, cond, not, List, [], ◌∷◌, ◌++◌, refl, sym, ap, ◌∙◌, subst, Less, Equal, Greater, Ordering, map, length, drop, Option, Some, None, arith}
use Rattle.std.proofs.lemmas.Bool.{cond_both}
use Rattle.std.specs.Ordering.{is_gt, match_ordering, ordering_then}
use Rattle.std.specs.Option.{option_to_list, option_map}
use Rattle.std.specs.Cmp.{IsTotalOrder, tied_back}
use Rattle.std.specs.List.{AllByRecursion, filter, slice_get}
use Rattle.std.specs.List.Sorted.{IsStrictlySortedBy}
use Rattle.cola_runs.specs.Cells.{Item, Value, Tombstone, Cell, Entry, Look, place_cmp, IsRising, count_looks}
use Rattle.cola_runs.specs.Weave.{Part, is_wanted, kept, taken_own, taken_incoming, stays, look_at, relinked, set_cell, set_cells, unlinked}
use Rattle.cola_runs.specs.Steps.{Head, Own, Incoming, Sample, Action, Take, Ended, skips_own, skips_incoming, flag_of, emitted, item_or_look, least, rule}
use Rattle.cola_runs.proofs.Order.{all_above, all_beside, turned_greater, match_three, by_bool, place_total}
use Rattle.cola_runs.proofs.Sets.{all_sets, set_first, sets_behind}
use Rattle.cola_runs.proofs.InOrder.{all_taken}

-- ---- what an action leaves of the sources

module _ {X : Type 0} where
  -- what is left of the own run once this head is consumed
  abbrev pub own_left : Head → List X → List X
  own_left Own xs = drop 1 xs
  own_left Incoming xs = xs
  own_left Sample xs = xs

  -- what is left of the incoming run
  abbrev pub incoming_left : Head → List X → List X
  incoming_left Own xs = xs
  incoming_left Incoming xs = drop 1 xs
  incoming_left Sample xs = xs

  -- what is left of the sample
  abbrev pub keys_left : Head → List X → List X
  keys_left Own xs = xs
  keys_left Incoming xs = xs
  keys_left Sample xs = drop 1 xs

-- the head is there
abbrev pub IsThere : {X Y Z : Type 0} → Head → List X → List Y → List Z → Type 0
IsThere Own own incoming keys = 0 < length own
IsThere Incoming own incoming keys = 0 < length incoming
IsThere Sample own incoming keys = 0 < length keys

module _ {K V : Type 0} where
  -- a kept cell in front of a list, and one that is left out
  filter_kept : (part : Part) (n : ℕ) (head : Head) (k : K) (i : Item V) (x y : Bool) (l : ℕ) (cells : List (Cell K V)) → y ≡ flag_of part head →
      filter (stays part) (Entry k i y 0 ∷ cells) ≡ option_to_list (emitted part 0 head (Entry k i x l)) ++ filter (stays part) cells
  filter_kept part n head k (Value v) x y l cells e = ap (λ z. Entry k (Value v) z 0 ∷ filter (stays part) cells) e
  filter_kept part n head k Tombstone x y l cells e = go part.drops_tombstones
    where
      go : (d : Bool) → cond (not d) (Entry k Tombstone y 0 ∷ filter (stays part) cells) (filter (stays part) cells)
          ≡ option_to_list (option_map (λ j. Entry k j (flag_of part head) 0) (cond d None (Some Tombstone))) ++ filter (stays part) cells
      go true = refl
      go false = ap (λ z. Entry k Tombstone z 0 ∷ filter (stays part) cells) e

  -- the links of an emitted item and of what follows it
  relinked_item : (part : Part) (n : ℕ) (head : Head) (c : Cell K V) (cells : List (Cell K V)) →
      relinked n (option_to_list (emitted part 0 head c) ++ cells)
      ≡ option_to_list (emitted part (8 * n) head c) ++ relinked (count_looks (option_to_list (emitted part (8 * n) head c)) + n) cells
  relinked_item part n head (Look k l) cells = let e : 0 + n ≡ n = omega arith in rw e refl
  relinked_item part n head (Entry k i y l) cells = go (kept part i)
    where
      go : (j : Option (Item V)) → relinked n (option_to_list (option_map (λ j. Entry k j (flag_of part head) 0) j) ++ cells)
          ≡ option_to_list (option_map (λ j. Entry k j (flag_of part head) (8 * n)) j) ++ relinked (count_looks (option_to_list (option_map (λ j. Entry k j (flag_of part head) (8 * n)) j)) + n) cells
      go None = let e : 0 + n ≡ n = omega arith in rw e refl
      go (Some j) = let e : 0 + n ≡ n = omega arith in rw e refl

module _ {K V : Type 0} {cmp : K → K → Ordering} (o : IsTotalOrder cmp) where
  -- an item in front of the lookahead cells, where its key is at most each of theirs
  looks_behind : (c : Cell K V) (keys : List K) (cells : List (Cell K V)) → AllByRecursion (λ d. place_cmp cmp c d ≡ Less) (map look_at keys) →
      set_cells cmp (map look_at keys) (c ∷ cells) ≡ c ∷ set_cells cmp (map look_at keys) cells
  looks_behind c keys cells h = sets_behind o c (map look_at keys) cells h

  -- the same for an item that may be left out
  looks_behind_item : (part : Part) (head : Head) (k : K) (i : Item V) (y : Bool) (l : ℕ) (keys : List K) (cells : List (Cell K V)) →
      AllByRecursion (λ d. place_cmp cmp (Entry k i y l) d ≡ Less) (map look_at keys) →
      set_cells cmp (map look_at keys) (option_to_list (emitted part 0 head (Entry k i y l)) ++ cells) ≡ option_to_list (emitted part 0 head (Entry k i y l)) ++ set_cells cmp (map look_at keys) cells
  looks_behind_item part head k i y l keys cells h = go (kept part i)
    where
      go : (j : Option (Item V)) → set_cells cmp (map look_at keys) (option_to_list (option_map (λ j. Entry k j (flag_of part head) 0) j) ++ cells)
          ≡ option_to_list (option_map (λ j. Entry k j (flag_of part head) 0) j) ++ set_cells cmp (map look_at keys) cells
      go None = refl
      go (Some j) = sets_behind o (Entry k j (flag_of part head) 0) (map look_at keys) cells h

  -- an item whose key is at most the first key stands before all lookahead cells
  before_looks : (k : K) (i : Item V) (y : Bool) (l : ℕ) (key : K) (keys : List K) → is_gt (cmp k key) ≡ false → AllByRecursion (λ q. cmp key q ≡ Less) keys →
      AllByRecursion (λ d. place_cmp cmp (Entry k i y l) d ≡ Less) (map look_at (key ∷ keys))
  before_looks k i y l key keys e h = go (cmp k key) refl e
    where
      under : (q : K) → cmp k q ≡ Less → ordering_then (cmp k q) Less ≡ Less
      under q f = rw f refl

      each : ((q : K) → cmp key q ≡ Less → cmp k q ≡ Less) → (qs : List K) → AllByRecursion (λ q. cmp key q ≡ Less) qs → AllByRecursion (λ d. place_cmp cmp (Entry k i y l) d ≡ Less) (map look_at qs)
      each f [] g = tt
      each f (q ∷ qs) g = (under q (f q g.0), each f qs g.1)

      go : (r : Ordering) → cmp k key ≡ r → is_gt r ≡ false → AllByRecursion (λ d. place_cmp cmp (Entry k i y l) d ≡ Less) (map look_at (key ∷ keys))
      go Less f g = (under key f, each (λ q z. o.trans k key q f z) keys h)
      go Equal f g = (rw f refl, each (λ q z. o.congr k key q f ∙ z) keys h)
      go Greater f g = cc

  -- an item whose key is above the first key: the lookahead cell of the key stands before it
  before_item : (key k : K) (i : Item V) (y : Bool) (l m : ℕ) → is_gt (cmp k key) ≡ true → place_cmp cmp (Look key m) (Entry k i y l) ≡ Less
  before_item key k i y l m e = go (cmp k key) refl e
    where
      go : (r : Ordering) → cmp k key ≡ r → is_gt r ≡ true → ordering_then (cmp key k) Greater ≡ Less
      go Less f g = cc
      go Equal f g = cc
      go Greater f g = let less : cmp key k ≡ Less = turned_greater o k key f in rw less refl

-- lookahead cells of rising keys
looks_above : {K : Type 0} (V : Type 0) (cmp : K → K → Ordering) (key : K) (m : ℕ) (keys : List K) → AllByRecursion (λ q. cmp key q ≡ Less) keys → AllByRecursion (λ d. place_cmp {V = V} cmp (Look key m) d ≡ Less) (map look_at keys)
looks_above V cmp key m [] h = tt
looks_above V cmp key m (q ∷ keys) h = (let e : cmp key q ≡ Less = h.0 in rw e refl, looks_above V cmp key m keys h.1)

all_filter : {X : Type 0} (P : X → Type 0) (p : X → Bool) (xs : List X) → AllByRecursion P xs → AllByRecursion P (filter p xs)
all_filter P p [] h = tt
all_filter P p (x ∷ xs) h =
    let rest = all_filter P p xs h.1 in
    by_bool (λ w. AllByRecursion P (cond w (x ∷ filter p xs) (filter p xs))) (h.0, rest) rest (p x)

-- ---- what one rule keeps

module _ {K V : Type 0} (cmp : K → K → Ordering) (part : Part) where
  -- the items of a weave, before tombstones are left out and the keys are set among them
  abbrev pub items_of : List (Cell K V) → List (Cell K V) → List (Cell K V)
  items_of own incoming = set_cells cmp (taken_incoming part incoming) (taken_own part own)

module _ {K V : Type 0} (cmp : K → K → Ordering) (part : Part) (n : ℕ) (own incoming : List (Cell K V)) (keys : List K) where
  -- an action that consumes this head and emits these cells is right: the head is there, and the cells are the first ones of the weave of what is left, where n lookahead cells stand before it
  pub record TakesFirst (head : Head) (cells : List (Cell K V)) : Type 0 where
    pub there : IsThere head own incoming keys
    pub first : relinked n (unlinked cmp part own incoming keys)
        ≡ cells ++ relinked (count_looks cells + n) (unlinked cmp part (own_left head own) (incoming_left head incoming) (keys_left head keys))

  -- the same of any action; where none is left to do, no head is left
  abbrev pub IsRight : Action K V → Type 0
  IsRight (Take head cell) = TakesFirst head (option_to_list cell)
  IsRight Ended = (own ≡ []) × (incoming ≡ []) × (keys ≡ [])

wanted_unless : (w : Bool) → not w ≡ false → w ≡ true
wanted_unless true f = refl
wanted_unless false f = cc

zero_more : (n : ℕ) → n ≡ 0 + n
zero_more n = omega arith

one_more : (n : ℕ) → suc n ≡ 1 + n
one_more n = omega arith

module _ {K V : Type 0} {cmp : K → K → Ordering} (o : IsTotalOrder cmp) (part : Part) (n : ℕ) where
  -- a head that is passed over adds nothing to the weave
  passes_own : (c : Cell K V) (own incoming : List (Cell K V)) (keys : List K) → skips_own part (Some c) ≡ true → TakesFirst cmp part n (c ∷ own) incoming keys Own []
  unfolding unlinked
  passes_own (Look k l) own incoming keys e =
      record { there = omega arith; first = ap (λ m. relinked m (unlinked cmp part own incoming keys)) (zero_more n) }
  passes_own (Entry k i y l) own incoming keys e = record {
    there = omega arith;
    first = ap (λ w. relinked n (set_cells cmp (map look_at keys) (filter (stays part) (set_cells cmp (taken_incoming part incoming) (cond w (Entry k i false 0 ∷ taken_own part own) (taken_own part own)))))) (unwanted (is_wanted part y) e)
        ∙ ap (λ m. relinked m (unlinked cmp part own incoming keys)) (zero_more n);
  }
    where
      unwanted : (w : Bool) → not w ≡ true → w ≡ false
      unwanted true f = cc
      unwanted false f = refl

  passes_incoming : (c : Cell K V) (own incoming : List (Cell K V)) (keys : List K) → skips_incoming (Some c) ≡ true → TakesFirst cmp part n own (c ∷ incoming) keys Incoming []
  unfolding unlinked
  passes_incoming (Look k l) own incoming keys e =
      record { there = omega arith; first = ap (λ m. relinked m (unlinked cmp part own incoming keys)) (zero_more n) }
  passes_incoming (Entry k i y l) own incoming keys e = cc

  -- the first item of the weave, which is first among all cells where its key is at most each key of the sample
  takes_item : (head : Head) (k : K) (i : Item V) (y : Bool) (l : ℕ) (own incoming : List (Cell K V)) (keys : List K) → IsThere head own incoming keys → keys_left head keys ≡ keys →
      items_of cmp part own incoming ≡ Entry k i (flag_of part head) 0 ∷ items_of cmp part (own_left head own) (incoming_left head incoming) →
      AllByRecursion (λ d. place_cmp cmp (Entry k i y l) d ≡ Less) (map look_at keys) →
      TakesFirst cmp part n own incoming keys head (option_to_list (emitted part (8 * n) head (Entry k i y l)))
  unfolding unlinked
  takes_item head k i y l own incoming keys there same e h = record {
    there = there;
    first =
        ap (λ z. relinked n (set_cells cmp (map look_at keys) (filter (stays part) z))) e
        ∙ ap (λ z. relinked n (set_cells cmp (map look_at keys) z)) (filter_kept part n head k i y (flag_of part head) l _ refl)
        ∙ ap (relinked n) (looks_behind_item o part head k i y l keys _ h)
        ∙ relinked_item part n head (Entry k i y l) _
        ∙ ap (λ z. option_to_list (emitted part (8 * n) head (Entry k i y l)) ++ relinked (count_looks (option_to_list (emitted part (8 * n) head (Entry k i y l))) + n) (unlinked cmp part (own_left head own) (incoming_left head incoming) z)) (sym same);
  }

  -- the first key of the sample, where it is below the keys of all items
  takes_look : (key : K) (own incoming : List (Cell K V)) (keys : List K) → IsStrictlySortedBy cmp (key ∷ keys) →
      AllByRecursion (λ d. place_cmp cmp (Look key 0) d ≡ Less) (items_of cmp part own incoming) →
      TakesFirst cmp part n own incoming (key ∷ keys) Sample (Look key (8 * n) ∷ [])
  unfolding unlinked IsStrictlySortedBy
  takes_look key own incoming keys asc h = record {
    there = omega arith;
    first =
        ap (relinked n) (set_first cmp (Look key 0) _ (all_sets cmp (λ d. place_cmp cmp (Look key 0) d ≡ Less) (map look_at keys) _ (looks_above V cmp key 0 keys asc.0) (all_filter _ (stays part) _ h)))
        ∙ ap (λ m. Look key (8 * n) ∷ relinked m (unlinked cmp part own incoming keys)) (one_more n);
  }

  -- a head that is the first item of all: it goes first, or the lookahead cell of the first key does
  item_or_look_is_right : (head : Head) (k : K) (i : Item V) (y : Bool) (l : ℕ) (own incoming : List (Cell K V)) (keys : List K) →
      IsThere head own incoming keys → keys_left head keys ≡ keys →
      items_of cmp part own incoming ≡ Entry k i (flag_of part head) 0 ∷ items_of cmp part (own_left head own) (incoming_left head incoming) →
      AllByRecursion (λ d. place_cmp cmp (Entry k i y l) d ≡ Less) (items_of cmp part (own_left head own) (incoming_left head incoming)) →
      IsStrictlySortedBy cmp keys →
      IsRight cmp part n own incoming keys (item_or_look cmp part (8 * n) head (Entry k i y l) (slice_get keys 0))
  unfolding IsStrictlySortedBy
  item_or_look_is_right head k i y l own incoming [] there same e above asc = takes_item head k i y l own incoming [] there same e tt
  item_or_look_is_right head k i y l own incoming (key ∷ keys) there same e above asc =
      cond_both (is_gt (cmp k key)) (Take Sample (Some (Look key (8 * n)))) (Take head (emitted part (8 * n) head (Entry k i y l))) (IsRight cmp part n own incoming (key ∷ keys))
      (λ g. takes_look key own incoming keys asc (subst (AllByRecursion (λ d. place_cmp cmp (Look key 0) d ≡ Less)) (sym e)
      (before_item o key k i y l 0 g, all_above (place_total o) (Look key 0) (Entry k i y l) (before_item o key k i y l 0 g) _ above)))
      (λ g. takes_item head k i y l own incoming (key ∷ keys) there same e (before_looks o k i y l key keys g asc.0))

  -- where every item of the other source is above the own head
  own_first : (k : K) (i : Item V) (y : Bool) (l : ℕ) (own incoming : List (Cell K V)) → is_wanted part y ≡ true → AllByRecursion (λ d. place_cmp cmp (Entry k i y l) d ≡ Less) (taken_incoming part incoming) →
      items_of cmp part (Entry k i y l ∷ own) incoming ≡ Entry k i false 0 ∷ items_of cmp part own incoming
  own_first k i y l own incoming w h =
      ap (λ b. set_cells cmp (taken_incoming part incoming) (cond b (Entry k i false 0 ∷ taken_own part own) (taken_own part own))) w
      ∙ sets_behind o (Entry k i false 0) (taken_incoming part incoming) (taken_own part own) h

  -- where every own item is above the incoming head
  incoming_first : (k : K) (i : Item V) (y : Bool) (l : ℕ) (own incoming : List (Cell K V)) →
      AllByRecursion (λ d. place_cmp cmp (Entry k i y l) d ≡ Less) (taken_own part own) → AllByRecursion (λ d. place_cmp cmp (Entry k i y l) d ≡ Less) (taken_incoming part incoming) →
      items_of cmp part own (Entry k i y l ∷ incoming) ≡ Entry k i part.marks_young 0 ∷ items_of cmp part own incoming
  incoming_first k i y l own incoming h g =
      set_first cmp (Entry k i part.marks_young 0) (items_of cmp part own incoming) (all_sets cmp (λ d. place_cmp cmp (Entry k i y l) d ≡ Less) (taken_incoming part incoming) (taken_own part own) g h)

  -- an own item with the key of the incoming head adds nothing
  shadowed : (k k' : K) (i j : Item V) (x y : Bool) (l m : ℕ) (own incoming : List (Cell K V)) (keys : List K) → is_wanted part x ≡ true → cmp k k' ≡ Equal →
      IsRising cmp (Entry k i x l ∷ own) → IsRising cmp (Entry k' j y m ∷ incoming) →
      TakesFirst cmp part n (Entry k i x l ∷ own) (Entry k' j y m ∷ incoming) keys Own []
  unfolding IsStrictlySortedBy unlinked
  shadowed k k' i j x y l m own incoming keys w e h g =
      let D : Cell K V = Entry k' j part.marks_young 0 in
      let inside : AllByRecursion (λ d. place_cmp cmp D d ≡ Less) (taken_incoming part incoming) = all_taken cmp D (λ _. true) part.marks_young incoming g.0 in
      let beside : place_cmp {V = V} cmp (Entry k i x l) D ≡ Equal = rw e refl in
      let back : place_cmp {V = V} cmp D (Entry k i false 0) ≡ Equal = tied_back (place_total o) (Entry k i false 0) D beside in
      let below : AllByRecursion (λ d. place_cmp cmp (Entry k i x l) d ≡ Less) (taken_incoming part incoming) = all_beside (place_total o) (Entry k i x l) D beside _ inside in
      let under : AllByRecursion (λ d. place_cmp cmp D d ≡ Less) (taken_own part own) = all_beside (place_total o) D (Entry k i false 0) back _ (all_taken cmp (Entry k i false 0) (is_wanted part) false own h.0) in
      let with_it : items_of cmp part (Entry k i x l ∷ own) (Entry k' j y m ∷ incoming) ≡ D ∷ items_of cmp part own incoming =
      ap (set_cell cmp D) (own_first k i x l own incoming w below)
      ∙ ap (λ r. match_ordering r (D ∷ Entry k i false 0 ∷ items_of cmp part own incoming) (D ∷ items_of cmp part own incoming) (Entry k i false 0 ∷ set_cell cmp D (items_of cmp part own incoming))) back in
      let without_it : items_of cmp part own (Entry k' j y m ∷ incoming) ≡ D ∷ items_of cmp part own incoming = incoming_first k' j y m own incoming under inside in
      record {
        there = omega arith;
        first = ap (λ z. relinked n (set_cells cmp (map look_at keys) (filter (stays part) z))) (with_it ∙ sym without_it)
            ∙ ap (λ z. relinked z (unlinked cmp part own (Entry k' j y m ∷ incoming) keys)) (zero_more n);
      }

  -- two heads that are both there and not passed over
  least_of_two : (k k' : K) (i j : Item V) (x y : Bool) (l m : ℕ) (own incoming : List (Cell K V)) (keys : List K) → is_wanted part x ≡ true →
      IsRising cmp (Entry k i x l ∷ own) → IsRising cmp (Entry k' j y m ∷ incoming) → IsStrictlySortedBy cmp keys →
      IsRight cmp part n (Entry k i x l ∷ own) (Entry k' j y m ∷ incoming) keys (least cmp part (8 * n) (Some (Entry k i x l)) (Some (Entry k' j y m)) (slice_get keys 0))
  unfolding IsStrictlySortedBy
  least_of_two k k' i j x y l m own incoming keys w h g asc =
      match_three (IsRight cmp part n (Entry k i x l ∷ own) (Entry k' j y m ∷ incoming) keys) (cmp k k') _ _ _
      (λ e. let lower : place_cmp {V = V} cmp (Entry k i x l) (Entry k' j y m) ≡ Less = rw e refl in
      let others : AllByRecursion (λ d. place_cmp cmp (Entry k i x l) d ≡ Less) (taken_incoming part (Entry k' j y m ∷ incoming)) = all_taken cmp (Entry k i x l) (λ _. true) part.marks_young (Entry k' j y m ∷ incoming) (lower, all_above (place_total o) (Entry k i x l) (Entry k' j y m) lower _ g.0) in
      item_or_look_is_right Own k i x l (Entry k i x l ∷ own) (Entry k' j y m ∷ incoming) keys (omega arith) refl (own_first k i x l own (Entry k' j y m ∷ incoming) w others)
      (all_sets cmp (λ d. place_cmp cmp (Entry k i x l) d ≡ Less) (taken_incoming part (Entry k' j y m ∷ incoming)) (taken_own part own) others (all_taken cmp (Entry k i x l) (is_wanted part) false own h.0)) asc)
      (λ e. shadowed k k' i j x y l m own incoming keys w e h g)
      (λ e. let lower : place_cmp {V = V} cmp (Entry k' j y m) (Entry k i x l) ≡ Less = turned_greater (place_total o) (Entry k i x l) (Entry k' j y m) (rw e refl) in
      let others : AllByRecursion (λ d. place_cmp cmp (Entry k' j y m) d ≡ Less) (taken_own part (Entry k i x l ∷ own)) = all_taken cmp (Entry k' j y m) (is_wanted part) false (Entry k i x l ∷ own) (lower, all_above (place_total o) (Entry k' j y m) (Entry k i x l) lower _ h.0) in
      let inside : AllByRecursion (λ d. place_cmp cmp (Entry k' j y m) d ≡ Less) (taken_incoming part incoming) = all_taken cmp (Entry k' j y m) (λ _. true) part.marks_young incoming g.0 in
      item_or_look_is_right Incoming k' j y m (Entry k i x l ∷ own) (Entry k' j y m ∷ incoming) keys (omega arith) refl (incoming_first k' j y m (Entry k i x l ∷ own) incoming others inside)
      (all_sets cmp (λ d. place_cmp cmp (Entry k' j y m) d ≡ Less) (taken_incoming part incoming) (taken_own part (Entry k i x l ∷ own)) inside others) asc)

  -- the least of the heads that are there, where none is passed over
  least_is_right : (own incoming : List (Cell K V)) (keys : List K) → skips_own part (slice_get own 0) ≡ false → skips_incoming (slice_get incoming 0) ≡ false →
      IsRising cmp own → IsRising cmp incoming → IsStrictlySortedBy cmp keys →
      IsRight cmp part n own incoming keys (least cmp part (8 * n) (slice_get own 0) (slice_get incoming 0) (slice_get keys 0))
  unfolding IsStrictlySortedBy
  least_is_right [] [] [] s t h g asc = (refl, refl, refl)
  least_is_right [] [] (key ∷ keys) s t h g asc = takes_look key [] [] keys asc tt
  least_is_right (Look k l ∷ own) incoming keys s t h g asc = cc
  least_is_right own (Look k l ∷ incoming) keys s t h g asc = cc
  least_is_right (Entry k i x l ∷ own) [] keys s t h g asc =
      item_or_look_is_right Own k i x l (Entry k i x l ∷ own) [] keys (omega arith) refl (own_first k i x l own [] (wanted_unless (is_wanted part x) s) tt)
      (all_taken cmp (Entry k i x l) (is_wanted part) false own h.0) asc
  least_is_right [] (Entry k j y l ∷ incoming) keys s t h g asc =
      let inside : AllByRecursion (λ d. place_cmp cmp (Entry k j y l) d ≡ Less) (taken_incoming part incoming) = all_taken cmp (Entry k j y l) (λ _. true) part.marks_young incoming g.0 in
      item_or_look_is_right Incoming k j y l [] (Entry k j y l ∷ incoming) keys (omega arith) refl (incoming_first k j y l [] incoming tt inside)
      (all_sets cmp (λ d. place_cmp cmp (Entry k j y l) d ≡ Less) (taken_incoming part incoming) [] inside tt) asc
  least_is_right (Entry k i x l ∷ own) (Entry k' j y m ∷ incoming) keys s t h g asc =
      least_of_two k k' i j x y l m own incoming keys (wanted_unless (is_wanted part x) s) h g asc

  passed_own : (own incoming : List (Cell K V)) (keys : List K) → skips_own part (slice_get own 0) ≡ true → IsRight cmp part n own incoming keys (Take Own None)
  passed_own [] incoming keys e = cc
  passed_own (c ∷ own) incoming keys e = passes_own c own incoming keys e

  passed_incoming : (own incoming : List (Cell K V)) (keys : List K) → skips_incoming (slice_get incoming 0) ≡ true → IsRight cmp part n own incoming keys (Take Incoming None)
  passed_incoming own [] keys e = cc
  passed_incoming own (c ∷ incoming) keys e = passes_incoming c own incoming keys e

  -- the first of the five rules that fits is right
  pub rule_is_right : (own incoming : List (Cell K V)) (keys : List K) → IsRising cmp own → IsRising cmp incoming → IsStrictlySortedBy cmp keys →
      IsRight cmp part n own incoming keys (rule cmp part (8 * n) (slice_get own 0) (slice_get incoming 0) (slice_get keys 0))
  rule_is_right own incoming keys h g asc =
      cond_both (skips_own part (slice_get own 0)) _ _ (IsRight cmp part n own incoming keys) (passed_own own incoming keys)
      (λ s. cond_both (skips_incoming (slice_get incoming 0)) _ _ (IsRight cmp part n own incoming keys) (passed_incoming own incoming keys)
      (λ t. least_is_right own incoming keys s t h g asc))
