-- The test of soundness speaks of soundness itself: it answers true on each sound chain. So where it answers false, no
-- chain is sound.
use Rattle.std.proofs.Common.{◌≡◌, ℕ, zero, suc, ◌+◌, ◌*◌, ◌^◌, ◌<◌, ◌≤◌, min, Bool, true, false, not, cond, ◌&&◌, List, [], ◌∷◌, length, Option, None, Some, eqb, leb, refl, sym, ◌∙◌, ap, subst, arith}
use Rattle.std.proofs.lemmas.Bool.{and_from, eq-eqb, le-leb, lt-ltb, false≢true}
use Rattle.std.specs.Ordering.{nat_cmp, is_lt}
use Rattle.std.specs.declared.cmp.Ordering.TheVariants.{Less}
use Rattle.std.specs.List.{AllByRecursion}
use Rattle.std.specs.List.Sorted.{IsStrictlySortedBy}
use Rattle.cola_clock.specs.Clock.{period, is_odd, works, is_before, is_over, window_step}
use Rattle.cola_runs.specs.Cells.{Item, Value, Tombstone, Cell, Entry, Look, place_cmp, IsRising, IsLinked, IsOldValue, look_keys, count_items, count_young}
use Rattle.cola_runs.specs.Seen.{Seen, Nothing, Old, Young, holds, seen, answer, value_of, IsLive}
use Rattle.cola_runs.specs.Weave.{Part, kept}
use Rattle.cola_laws.specs.Chain.{Level, part_of, build_of, visibles, next_runs, first_keys, value_at}
use Rattle.cola_laws.specs.Sound.{Carried, Keeps, KeepsAll, IsVisible, AreVisible, AreFew, IsFinished, AreKept, IsIdle, IsAtRest, IsWorking, ArePaced}
use Rattle.cola_laws.specs.Plain.{IsSoundChain}
use Rattle.cola_laws.proofs.Tested.{all_of, same_numbers, same_item, cell_numbers, same_runs, rises, links, old_value, lives, live_keys, fits, fit_runs, carries, keeps, is_bottom, finished, idle, builds, levels_hold, same_value, answers, sound}

-- ---- equal and in order

also : {a b : Bool} → a ≡ true → b ≡ true → (a && b) ≡ true
also {a = a} {b = b} h k = and_from a b h k

all-pass : {X : Type 0} (P : X → Type 0) (p : X → Bool) → ((x : X) → P x → p x ≡ true) → (xs : List X) → AllByRecursion P xs → all_of p xs ≡ true
all-pass P p h [] all = refl
all-pass P p h (x ∷ xs) all = also (h x all.0) (all-pass P p h xs all.1)

each-pass : {X : Type 0} (p : X → Bool) → ((x : X) → p x ≡ true) → (xs : List X) → all_of p xs ≡ true
each-pass p h [] = refl
each-pass p h (x ∷ xs) = also (h x) (each-pass p h xs)

numbers-pass : (xs : List ℕ) → same_numbers xs xs ≡ true
numbers-pass [] = refl
numbers-pass (x ∷ xs) = also (eq-eqb x x refl) (numbers-pass xs)

item-pass : (a : Option (Item ℕ)) → same_item a a ≡ true
item-pass None = refl
item-pass (Some Tombstone) = refl
item-pass (Some (Value v)) = eq-eqb v v refl

runs-pass : (xs : List (Cell ℕ ℕ)) → same_runs xs xs ≡ true
runs-pass [] = refl
runs-pass (c ∷ cells) = also (numbers-pass (cell_numbers c)) (runs-pass cells)

value-pass : (a : Option (Item ℕ)) → same_value a (value_of a) ≡ true
value-pass None = refl
value-pass (Some Tombstone) = refl
value-pass (Some (Value v)) = eq-eqb v v refl

rises-pass : (run : List (Cell ℕ ℕ)) → IsRising nat_cmp run → rises run ≡ true
unfolding IsStrictlySortedBy
rises-pass [] h = refl
rises-pass (c ∷ cells) h =
    also (all-pass (λ d. place_cmp nat_cmp c d ≡ Less) (λ d. is_lt (place_cmp nat_cmp c d)) (λ d less. ap is_lt less) cells h.0) (rises-pass cells h.1)

links-pass : (n : ℕ) (run : List (Cell ℕ ℕ)) → IsLinked n run → links n run ≡ true
links-pass n [] h = refl
links-pass n (Entry k i y l ∷ cells) h = also (eq-eqb l (8 * n) h.0) (links-pass n cells h.1)
links-pass n (Look k l ∷ cells) h = also (eq-eqb l (8 * n) h.0) (links-pass (suc n) cells h.1)

old-pass : (c : Cell ℕ ℕ) → IsOldValue c → old_value c ≡ true
old-pass (Entry k (Value v) false l) h = refl
old-pass (Entry k (Value v) true l) h = absurd h
old-pass (Entry k Tombstone y l) h = absurd h
old-pass (Look k l) h = absurd h

-- ---- how many keys live

-- the keys of the list that have a live answer
abbrev living : List ℕ → List (List (Cell ℕ ℕ)) → List ℕ
living [] runs = []
living (q ∷ keys) runs = cond (eqb (lives (answer nat_cmp q runs)) 1) (q ∷ living keys runs) (living keys runs)

-- an answer counts for one where it lives, else for none
counts : (a : Option (Item ℕ)) (q : ℕ) (keys : List ℕ) → length (cond (eqb (lives a) 1) (q ∷ keys) keys) ≡ lives a + length keys
counts None q keys = omega arith
counts (Some Tombstone) q keys = omega arith
counts (Some (Value v)) q keys = omega arith

living-counts : (keys : List ℕ) (runs : List (List (Cell ℕ ℕ))) → length (living keys runs) ≡ live_keys keys runs
living-counts [] runs = refl
living-counts (q ∷ keys) runs = counts (answer nat_cmp q runs) q (living keys runs) ∙ ap (λ (n : ℕ). lives (answer nat_cmp q runs) + n) (living-counts keys runs)

one-lives : (a : Option (Item ℕ)) → eqb (lives a) 1 ≡ true → IsLive a
one-lives None h = cc
one-lives (Some Tombstone) h = cc
one-lives (Some (Value v)) h = tt

-- those that are kept of a list meet what all of it meet
kept-meet : (P : ℕ → Type 0) (b : Bool) (q : ℕ) (keys : List ℕ) → (b ≡ true → P q) → AllByRecursion P keys → AllByRecursion P (cond b (q ∷ keys) keys)
kept-meet P true q keys h all = (h refl, all)
kept-meet P false q keys h all = all

living-all : (P : ℕ → Type 0) (keys : List ℕ) (runs : List (List (Cell ℕ ℕ))) → AllByRecursion P keys → AllByRecursion P (living keys runs)
living-all P [] runs all = tt
living-all P (q ∷ keys) runs all = kept-meet P (eqb (lives (answer nat_cmp q runs)) 1) q (living keys runs) (λ _. all.0) (living-all P keys runs all.1)

living-live : (keys : List ℕ) (runs : List (List (Cell ℕ ℕ))) → AllByRecursion (λ q. IsLive (answer nat_cmp q runs)) (living keys runs)
living-live [] runs = tt
living-live (q ∷ keys) runs = kept-meet (λ k. IsLive (answer nat_cmp k runs)) (eqb (lives (answer nat_cmp q runs)) 1) q (living keys runs) (one-lives (answer nat_cmp q runs)) (living-live keys runs)

kept-sorted : (b : Bool) (q : ℕ) (keys : List ℕ) → AllByRecursion (λ k. nat_cmp q k ≡ Less) keys → IsStrictlySortedBy nat_cmp keys → IsStrictlySortedBy nat_cmp (cond b (q ∷ keys) keys)
unfolding IsStrictlySortedBy
kept-sorted true q keys all sorted = (all, sorted)
kept-sorted false q keys all sorted = sorted

living-sorted : (keys : List ℕ) (runs : List (List (Cell ℕ ℕ))) → IsStrictlySortedBy nat_cmp keys → IsStrictlySortedBy nat_cmp (living keys runs)
unfolding IsStrictlySortedBy
living-sorted [] runs sorted = tt
living-sorted (q ∷ keys) runs sorted =
    kept-sorted (eqb (lives (answer nat_cmp q runs)) 1) q (living keys runs) (living-all (λ k. nat_cmp q k ≡ Less) keys runs sorted.0) (living-sorted keys runs sorted.1)

few-pass : (most : ℕ) (keys : List ℕ) (runs : List (List (Cell ℕ ℕ))) → IsStrictlySortedBy nat_cmp keys → AreFew nat_cmp most runs → leb (live_keys keys runs) most ≡ true
few-pass most keys runs sorted few =
    le-leb (live_keys keys runs) most
    (subst (λ (n : ℕ). n ≤ most) (living-counts keys runs) (few (living keys runs) (living-sorted keys runs sorted) (living-live keys runs)))

-- ---- the parts of soundness

fits-pass : {X : Type 0} (most : ℕ) (odd : Bool) (j : ℕ) (run : List (Cell ℕ ℕ)) (below : List X) (keys : List ℕ) → IsVisible nat_cmp most odd j run below keys → fits most odd j run below keys ≡ true
fits-pass most odd j run [] keys h =
    also (also (also (rises-pass run h.formed.rising) (links-pass 0 run h.formed.linked)) (all-pass IsOldValue old_value old-pass run h.values)) (le-leb (length run) most h.few)
fits-pass most odd j run (x ∷ below) keys h =
    let looks = subst (λ (ks : List ℕ). same_numbers (look_keys run) ks ≡ true) h.samples (numbers-pass (look_keys run)) in
    let items = le-leb (count_items run) (cond odd 3 2 * 2 ^ j) h.few_items in
    also (also (also (also (rises-pass run h.formed.rising) (links-pass 0 run h.formed.linked)) looks) items) (le-leb (count_young run) (2 ^ j) h.few_young)

all-fit : (most t j : ℕ) (runs : List (List (Cell ℕ ℕ))) → AreVisible nat_cmp most t j runs → fit_runs most t j runs ≡ true
all-fit most t j [] h = refl
all-fit most t j (run ∷ runs) h = also (fits-pass most (is_odd (period t j)) j run runs (first_keys runs) h.0) (all-fit most t (suc j) runs h.1)

carries-pass : (part : Part) (above own shadow : Seen ℕ) → Carried part above own shadow → carries part above own shadow ≡ true
carries-pass part Nothing own shadow h = subst (λ (a : Option (Item ℕ)). same_item (holds shadow) a ≡ true) h (item-pass (holds shadow))
carries-pass part (Old i) own shadow h = subst (λ (a : Option (Item ℕ)). same_item (holds shadow) a ≡ true) h (item-pass (holds shadow))
carries-pass part (Young i) own shadow h = refl

nothing-keeps : (own : Seen ℕ) → own ≡ Nothing → keeps own Nothing ≡ true
nothing-keeps Nothing h = refl
nothing-keeps (Old i) h = cc
nothing-keeps (Young i) h = cc

old-keeps : (own : Seen ℕ) (i : Item ℕ) → holds own ≡ Some i → keeps own (Old i) ≡ true
old-keeps Nothing i h = cc
old-keeps (Old j) i h = subst (λ (a : Option (Item ℕ)). same_item (Some j) a ≡ true) h (item-pass (Some j))
old-keeps (Young j) i h = subst (λ (a : Option (Item ℕ)). same_item (Some j) a ≡ true) h (item-pass (Some j))

young-keeps : (own : Seen ℕ) (i : Item ℕ) → keeps own (Young i) ≡ true
young-keeps Nothing i = refl
young-keeps (Old j) i = refl
young-keeps (Young j) i = refl

keeps-pass : (own shadow : Seen ℕ) → Keeps own shadow → keeps own shadow ≡ true
keeps-pass own Nothing h = nothing-keeps own h
keeps-pass own (Old i) h = old-keeps own i h
keeps-pass own (Young i) h = young-keeps own i

-- what is asked of the own items, by whether the shadow is one above the bottom in an even period
asked-pass : {X : Type 0} (odd : Bool) (below : List X) (P : Type 0) (p : Bool) → KeepsAll odd below P → (P → p ≡ true) → cond (true && not odd && not (is_bottom below)) p true ≡ true
asked-pass true [] P p h k = refl
asked-pass true (x ∷ below) P p h k = refl
asked-pass false [] P p h k = refl
asked-pass false (x ∷ below) P p h k = k (h refl)

finished-pass : (most : ℕ) (universe : List ℕ) → IsStrictlySortedBy nat_cmp universe → (t j : ℕ) (above : List (Cell ℕ ℕ)) (l : Level ℕ ℕ) (below : List (Level ℕ ℕ)) →
    IsFinished nat_cmp most (is_odd (period t j)) j above l.visible l.shadow below (next_runs t j below) → finished true most universe t j above l below ≡ true
finished-pass most universe sorted t j above l below h =
    let fit = fits-pass most (not (is_odd (period t j))) j l.shadow below (first_keys (next_runs t j below)) h.fit in
    let carried = each-pass _ (λ q. carries-pass (part_of (is_odd (period t j)) below) (seen nat_cmp q above) (seen nat_cmp q l.visible) (seen nat_cmp q l.shadow) (h.carried q)) universe in
    let kept = asked-pass (is_odd (period t j)) below ((q : ℕ) → Keeps (seen nat_cmp q l.visible) (seen nat_cmp q l.shadow)) _ h.keeps
    (λ each. each-pass _ (λ q. keeps-pass (seen nat_cmp q l.visible) (seen nat_cmp q l.shadow) (each q)) universe) in
    also (also (also fit carried) kept) (few-pass most universe (l.shadow ∷ next_runs t j below) sorted h.few)

cursors-pass : (l : Level ℕ ℕ) (b : Bool) → b ≡ true → l.own ≡ 0 → l.incoming ≡ 0 → l.sampled ≡ 0 → (b && eqb l.own 0 && eqb l.incoming 0 && eqb l.sampled 0) ≡ true
cursors-pass l b h own incoming sampled = also (also (also h (eq-eqb l.own 0 own)) (eq-eqb l.incoming 0 incoming)) (eq-eqb l.sampled 0 sampled)

idle-pass : (l : Level ℕ ℕ) → IsIdle l → idle l ≡ true
idle-pass l h =
    cursors-pass l (eqb (length l.shadow) 0) (eq-eqb (length l.shadow) 0 (ap (λ (x : List (Cell ℕ ℕ)). length x) h.empty)) h.own_rests h.incoming_rests h.sampled_rests

same-pass : (xs ys : List (Cell ℕ ℕ)) → xs ≡ ys → same_runs xs ys ≡ true
same-pass xs ys e = subst (λ (run : List (Cell ℕ ℕ)). same_runs xs run ≡ true) e (runs-pass xs)

builds-pass : (part : Part) (above : List (Cell ℕ ℕ)) (keys : List ℕ) (due : ℕ) (l : Level ℕ ℕ) → IsWorking nat_cmp part l.visible above keys due (build_of l) → builds part above keys due l ≡ true
builds-pass part above keys due l h =
    let own = le-leb l.own (length l.visible) h.under_way.own_within in
    let incoming = le-leb l.incoming (length above) h.under_way.incoming_within in
    let sampled = le-leb l.sampled (length keys) h.under_way.sampled_within in
    let enough = le-leb (min (length l.visible + length above + length keys) due) (l.own + l.incoming + l.sampled) h.enough in
    let lower = le-leb l.sampled (length l.shadow) h.sampled_done in
    let upper = le-leb (length l.shadow) (l.own + l.incoming + l.sampled) h.done_consumed in
    also (also (also (also (also (also own incoming) sampled) (same-pass _ _ h.under_way.cut)) enough) lower) upper

-- what is asked under a test
under : (b p : Bool) → (b ≡ true → p ≡ true) → cond b p true ≡ true
under true p h = h refl
under false p h = refl

over-pass : (l : Level ℕ ℕ) (done : Bool) → IsAtRest l → done ≡ true → (eqb l.own 0 && eqb l.incoming 0 && eqb l.sampled 0 && done) ≡ true
over-pass l done h all =
    also (also (also (eq-eqb l.own 0 h.own_rests) (eq-eqb l.incoming 0 h.incoming_rests)) (eq-eqb l.sampled 0 h.sampled_rests)) all

-- no step ahead
no-more : (part : Part) (own above : List (Cell ℕ ℕ)) (keys : List ℕ) (due : ℕ) (l : Level ℕ ℕ) → IsWorking nat_cmp part own above keys (due + 0) (build_of l) → IsWorking nat_cmp part own above keys due (build_of l)
no-more part own above keys due l h = let is : due + 0 ≡ due = omega arith in rw is at h

levels-pass : (most : ℕ) (universe : List ℕ) → IsStrictlySortedBy nat_cmp universe → (t j : ℕ) (above : List (Cell ℕ ℕ)) (ls : List (Level ℕ ℕ)) →
    ArePaced nat_cmp 0 t j above ls → AreKept nat_cmp most t j above ls → levels_hold true most universe t j above ls ≡ true
levels-pass most universe sorted t j above [] p kept = refl
levels-pass most universe sorted t j above (l ∷ below) p kept =
    let part = part_of (is_odd (period t j)) below in
    let keys = first_keys (next_runs t j below) in
    let due = 28 * window_step t j in
    let before = under (is_before t j) (idle l) (λ early. idle-pass l (p.0.before early)) in
    let inside = under (works t j) _ (λ work. builds-pass part above keys due l (no-more part l.visible above keys due l (p.0.inside work))) in
    let after = under (is_over t j) _ (λ over. over-pass l (finished true most universe t j above l below) (p.0.after over)
    (finished-pass most universe sorted t j above l below (kept.0.over over))) in
    also (also (also (also before inside) after) (few-pass most universe (visibles (l ∷ below)) sorted kept.0.few))
    (levels-pass most universe sorted t (suc j) l.visible below p.1 kept.1)

answers-pass : (universe : List ℕ) (map : ℕ → Option ℕ) (ls : List (Level ℕ ℕ)) → ((q : ℕ) → value_at nat_cmp (visibles ls) q ≡ map q) → answers universe map ls ≡ true
answers-pass universe map ls h =
    each-pass _ (λ q. subst (λ (v : Option ℕ). same_value (answer nat_cmp q (visibles ls)) v ≡ true) (h q) (value-pass (answer nat_cmp q (visibles ls)))) universe

-- the test answers true on a sound chain, over any rising list of keys
pub sound-passes : (most : ℕ) (universe : List ℕ) (map : ℕ → Option ℕ) (t : ℕ) (ls : List (Level ℕ ℕ)) → IsStrictlySortedBy nat_cmp universe →
    IsSoundChain nat_cmp most t map ls → sound true most universe map t ls ≡ true
sound-passes most universe map t [] sorted s = absurd s
sound-passes most universe map t (top ∷ below) sorted s =
    let fit = all-fit most t 0 (visibles (top ∷ below)) s.sound.visible in
    let answered = answers-pass universe map (top ∷ below) s.sound.stands in
    let few = few-pass most universe (visibles (top ∷ below)) sorted s.sound.few in
    also (also (also (also fit answered) (idle-pass top s.idle)) few) (levels-pass most universe sorted t 1 top.visible below s.sound.paced s.sound.kept)

-- so where it answers false, the chain is not sound
pub not-sound : (most : ℕ) (universe : List ℕ) (map : ℕ → Option ℕ) (t : ℕ) (ls : List (Level ℕ ℕ)) → IsStrictlySortedBy nat_cmp universe →
    sound true most universe map t ls ≡ false → IsSoundChain nat_cmp most t map ls → ⊥
not-sound most universe map t ls sorted fails s = false≢true (sym fails ∙ sound-passes most universe map t ls sorted s)

-- and where the answers are not the map's, it is not sound either
pub not-answered : (most : ℕ) (universe : List ℕ) (map : ℕ → Option ℕ) (t : ℕ) (ls : List (Level ℕ ℕ)) → answers universe map ls ≡ false → IsSoundChain nat_cmp most t map ls → ⊥
not-answered most universe map t [] fails s = absurd s
not-answered most universe map t (top ∷ below) fails s = false≢true (sym fails ∙ answers-pass universe map (top ∷ below) s.sound.stands)

-- ---- rising keys to test with

-- so many numbers from a first one on
abbrev pub numbers : ℕ → ℕ → List ℕ
numbers first zero = []
numbers first (suc n) = first ∷ numbers (suc first) n

behind : (k first n : ℕ) → k < first → AllByRecursion (λ q. nat_cmp k q ≡ Less) (numbers first n)
behind k first zero less = tt
behind k first (suc n) less = ((rw (lt-ltb k first less) refl), behind k (suc first) n (omega arith))

pub numbers-rise : (first n : ℕ) → IsStrictlySortedBy nat_cmp (numbers first n)
unfolding IsStrictlySortedBy
numbers-rise first zero = tt
numbers-rise first (suc n) = (behind first (suc first) n (omega arith), numbers-rise (suc first) n)
