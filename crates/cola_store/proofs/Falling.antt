-- Falling walks over a store.
use Rattle.std.proofs.Common.{◌≡◌, ◌+◌, ◌*◌, ◌≤◌, arith, length, ℕ, Bool, true, cond, T, List, [], ◌∷◌, ◌++◌, map, filter, reverse, Option, Some, None, Result, Ok, Err, option_map, refl, ap, sym, subst, ◌∙◌}
use Rattle.std.proofs.lemmas.List.{reverse-reverse, map-append}
use Rattle.std.specs.Prelude.{IfOk, IfErr, OnOk}
use Rattle.std.specs.List.{last_or}
use Rattle.std.specs.declared.ops.Bound.{Bound}
use Rattle.std.specs.declared.ops.Bound.TheVariants.{Included, Excluded, Unbounded}
use Rattle.std.specs.FinMap as finite
use Rattle.std.specs.Cmp.Lexicographic.{nat_list_cmp_total}
use Rattle.cola_laws.specs.Chain.{value_at}
use Rattle.cola_cell.specs.declared.cell.Run.{Run}
use Rattle.cola_cell.specs.declared.fault.ReadFault.{ReadFault}
use Rattle.cola_cell.specs.Held.{Held, LawCell, Stamped}
use Rattle.cola_cell.specs.Order.{key_cmp}
use Rattle.cola_shapes.specs.Shapes.{stamped_of}
use Rattle.cola_spec.specs.Map as spec
use Rattle.cola_spec.specs.Map.{Map}
use Rattle.cola_image.specs.Standing.{found_in}
use Rattle.cola_look.specs.Outcome.{Answers}
use Rattle.cola_look.specs.Runs.{AreRuns}
use Rattle.cola_look.proofs.RunLists.{sampled_rise}
use Rattle.cola_pairs.specs.Live.{live}
use Rattle.cola_pairs.proofs.LivePairs.{live_entries}
use Rattle.cola_reverse.specs.Falling.{within_bounds}
use Rattle.cola_reverse.proofs.Turned.{reverse_first}
use Rattle.cola_cursor.specs.declared.cursor.Cursor.{Cursor}
use Rattle.cola_cursor.specs.Seeking.{RunsCause, aheads_of, range_ticks, left_sought}
use Rattle.cola_cursor.specs.Standing as standing
use Rattle.cola_cursor.specs.Standing.{runs_of}
use Rattle.cola_cursor.specs.Turning.{AreSearchedTo, SeekBackGives, places_to, places_told_to, over_key}
use Rattle.cola_look.proofs.KeyLemmas.{keys_alike}
use Rattle.cola_chain.specs.Runs.{AreSearched}
use Rattle.cola_store.specs.Store as opened
use Rattle.cola_store.specs.Store.{Stored, Holds, held_of, spent_of, levels_of}
use Rattle.cola_store.specs.Walks.{Ahead, Goes, left_of, left_after, pair_of}
use Rattle.cola_store.specs.Backward.{pairs_back, RangeBackAnswers, LastAnswers, BeginsBack, AsksLast}
use Rattle.cola_store.proofs.Storing.{same, turns_few}
use Rattle.cola_table.specs.Answers.{NextAnswers}
use Rattle.cola_device.specs.declared.counts.Counts.{Counts}
use Rattle.cola_cell.specs.State.{State}
use Rattle.cola_chain.specs.Contents as chain
use Rattle.cola_chain.specs.Contents.{Contents}
use Rattle.cola_cursor.specs.Lines.{ahead_of}
use Rattle.cola_store.proofs.Walking.{stored, sorted-stored, find-stored, kept-pair, only-runs, begun-end, begun-way}

map-reverse : {X Y : Type 0} (f : X → Y) (xs : List X) → map f (reverse xs) ≡ reverse (map f xs)
map-reverse f [] = refl
map-reverse f (x ∷ xs) =
    ap (map f) (reverse_first x xs) ∙ map-append f (reverse xs) (x ∷ []) ∙ ap (λ z. z ++ f x ∷ []) (map-reverse f xs) ∙ sym (reverse_first (f x) (map f xs))

bounds-stored : (low : Option (List ℕ)) (high : Bound (List ℕ)) (es : List (List ℕ × spec.Stored)) →
    filter (λ pair. within_bounds key_cmp low high pair.0) (map spec.pair_of es) ≡ map pair_of (filter (λ e. within_bounds key_cmp low high e.0) (map stored es))
unfolding stored
bounds-stored low high [] = refl
bounds-stored low high (e ∷ es) =
    let rest = filter (λ e. within_bounds key_cmp low high e.0) (map stored es) in
    ap (λ (ps : List (List ℕ × List ℕ)). cond (within_bounds key_cmp low high e.0) (spec.pair_of e ∷ ps) ps) (bounds-stored low high es)
    ∙ kept-pair (within_bounds key_cmp low high e.0) e rest

-- the pairs of a map in falling order are the live pairs of runs that have of each key what the map has, from the last on
pub falling-live : (m : Map) (low : Option (List ℕ)) (high : Bound (List ℕ)) (lists : List (List LawCell)) → ((key : List ℕ) → value_at key_cmp lists key ≡ found_in m key) →
    pairs_back m low high ≡ map pair_of (reverse (live key_cmp (within_bounds key_cmp low high) lists))
falling-live m low high lists values =
    let es = finite.entries m.entries in
    let lives = live key_cmp (within_bounds key_cmp low high) lists in
    ap reverse (bounds-stored low high es
    ∙ ap (λ (ps : List (List ℕ × Stamped)). map pair_of ps)
    (live_entries nat_list_cmp_total (within_bounds key_cmp low high) lists keys_alike (map stored es)
    (subst (λ (b : Bool). T b) (sym (sorted-stored es)) (finite.entries_sorted m.entries))
    (λ q. find-stored q es ∙ ap (λ (x : Option spec.Stored). option_map stamped_of x) (sym (finite.get-entries m.entries q)) ∙ sym (values q))))
    ∙ sym (map-reverse pair_of lives)

module _ {held : Held} {runs : List Run} {lists : List (List LawCell)} {found : List ℕ → Option Stamped} (ready : AreSearched held runs lists found) where
  -- the visible runs of a store that holds a map are as the beginning at any bound wants them
  pub searched-to : (high : Bound (List ℕ)) → AreSearchedTo high lists
  searched-to (Included high) = record { sampled = ready.sampled; near = ready.near (over_key high) }
  searched-to (Excluded high) = record { sampled = ready.sampled; near = ready.near high }
  searched-to Unbounded = sampled_rise key_cmp lists ready.sampled

module _ {D : Type 0} (bytes : D → Option (List ℕ)) (old new : Stored D) (held_is : held_of bytes new ≡ held_of bytes old) (runs_are : opened.runs_of new ≡ opened.runs_of old) where
  pub back-right : (m : Map) (low : Option (List ℕ)) (high : Bound (List ℕ)) (runs : List Run) (lists : List (List LawCell)) (before now : ℕ) (result : Result Cursor ReadFault) →
      Holds bytes new m → runs ≡ opened.runs_of old → AreSearched (held_of bytes old) runs lists (found_in m) →
      ((lists : List (List LawCell)) → AreRuns (held_of bytes old) runs lists → AreSearchedTo high lists →
      IfOk result (λ walk. standing.Ahead (held_of bytes old) walk (reverse (live key_cmp (within_bounds key_cmp low high) lists)))) →
      IfOk result (λ walk. (runs_of walk.lines.items ≡ runs) × (walk.end ≡ low) × (walk.falls ≡ true)) → IfErr result (RunsCause (held_of bytes old) runs before now) →
      RangeBackAnswers m low high (Holds bytes new) (Ahead bytes new) result
  back-right m low high runs lists before now (Ok walk) holds visible ready ahead begins cause = (
    record {
      stamped = reverse (live key_cmp (within_bounds key_cmp low high) lists);
      cursor = subst (λ (h : Held). standing.Ahead h walk (reverse (live key_cmp (within_bounds key_cmp low high) lists))) (sym held_is) (ahead lists ready.told (searched-to ready high));
      pairs_are = falling-live m low high lists ready.values;
      visible = begins.0 ∙ visible ∙ sym runs_are;
    },
    holds,
  )
  back-right m low high runs lists before now (Err fault) holds visible ready ahead begins cause =
      (only-runs (held_of bytes old) runs lists before now fault ready.told cause, holds)

-- ---- the greatest key

last-behind : {X : Type 0} (o : Option X) (xs : List X) (x : X) → last_or o (xs ++ x ∷ []) ≡ Some x
last-behind o [] x = refl
last-behind o (y ∷ xs) x = last-behind (Some y) xs x

all-kept : (es : List (List ℕ × List ℕ)) → filter (λ pair. within_bounds key_cmp None Unbounded pair.0) es ≡ es
all-kept [] = refl
all-kept (e ∷ es) = ap (λ (ps : List (List ℕ × List ℕ)). e ∷ ps) (all-kept es)

turned : {X : Type 0} (xs ys : List X) → reverse xs ≡ ys → xs ≡ reverse ys
turned xs ys e = sym (reverse-reverse xs) ∙ ap reverse e

pub first-is-last : (es : List (List ℕ × List ℕ)) (pair : List ℕ × List ℕ) (rest : List (List ℕ × List ℕ)) → reverse (filter (λ pair. within_bounds key_cmp None Unbounded pair.0) es) ≡ pair ∷ rest → last_or None es ≡ Some pair
first-is-last es pair rest e =
    ap (last_or None) (turned es (pair ∷ rest) (ap reverse (sym (all-kept es)) ∙ e) ∙ reverse_first pair rest) ∙ last-behind None (reverse rest) pair

pub none-is-last : (es : List (List ℕ × List ℕ)) → reverse (filter (λ pair. within_bounds key_cmp None Unbounded pair.0) es) ≡ [] → last_or None es ≡ None
none-is-last es e = ap (last_or None) (turned es [] (ap reverse (sym (all-kept es)) ∙ e))

pub last-answers : (m : Map) (Ahead : List (List ℕ × List ℕ) → Type 0) (Holds : Map → Type 0) (result : Result (Option (List ℕ × List ℕ)) ReadFault) → NextAnswers Ahead (pairs_back m None Unbounded) result → Holds m → LastAnswers m Holds result
last-answers m Ahead Holds (Ok (Some pair)) took holds = (sym (first-is-last (spec.pairs m) pair took.0 took.1), holds)
last-answers m Ahead Holds (Ok None) took holds = (sym (none-is-last (spec.pairs m) took.0), holds)
last-answers m Ahead Holds (Err fault) took holds = (took.0, holds)

-- ---- how a falling walk begins, on every file

module _ {D K : Type 0} (bytes : D → Option (List ℕ)) (counts : D → Counts) (kept : D → K) where
  pub back-given : (store : Stored D) (now : Contents D) (low : Option (List ℕ)) (high : Bound (List ℕ)) (runs : List Run) (ticks ticks' : ℕ) (result : Result Cursor ReadFault) → runs ≡ opened.runs_of store →
      chain.held_of bytes now ≡ held_of bytes store → chain.kept_of bytes counts kept now ≡ chain.kept_of bytes counts kept store.chain →
      SeekBackGives runs low high (record { held = held_of bytes store; spent = spent_of counts store }) (record { held = chain.held_of bytes now; spent = chain.spent_of counts now }) ticks ticks' result →
      BeginsBack bytes counts store low high result (record { chain = now; count = store.count; last = store.last; account = store.account })
  back-given store now low high runs ticks ticks' result visible held_is kept_is seeks =
      record {
        ends = begun-end runs low true result seeks.begins;
        way = begun-way runs low true result seeks.begins;
        places = subst (λ (rs : List Run). (lists : List (List LawCell)) → AreRuns (held_of bytes store) rs lists → IfOk result (λ walk. map ahead_of walk.lines.items ≡ places_to high lists)) visible seeks.places;
        exact = subst (λ (rs : List Run). Answers (places_told_to (held_of bytes store) high rs) (λ (walk : Cursor). aheads_of walk.lines) result) visible seeks.exact;
        few = subst (λ (rs : List Run). (chain.spent_of counts now).turned ≤ (spent_of counts store).turned + 2 * length rs) visible seeks.costs.turned_rises;
        unread = λ e. let u = seeks.unread e in (u.0, ap (λ (s : State). s.spent) u.1);
        cause = subst (λ (rs : List Run). IfErr result (RunsCause (held_of bytes store) rs (spent_of counts store).faults (chain.spent_of counts now).faults)) visible seeks.cause;
        turns = turns_few (spent_of counts store) (chain.spent_of counts now) ticks ticks' (left_sought result) (range_ticks (levels_of store)) seeks.reading.costs seeks.left;
        same = same bytes counts kept store now store.account held_is kept_is;
        account_is = refl;
      }

-- ---- what the call for the greatest key read

last-reads : (ticks mid now : ℕ) (walk after : Cursor) (result : Result (Option (List ℕ × List ℕ)) ReadFault) → mid ≡ ticks → now ≤ mid + left_of walk →
    OnOk result (now + left_of after ≤ mid + left_of walk) → now + left_after after result ≤ ticks + left_of walk
last-reads ticks mid now walk after (Ok pair) unread within left = subst (λ (n : ℕ). now + left_of after ≤ n + left_of walk) unread left
last-reads ticks mid now walk after (Err fault) unread within left =
    let w : now ≤ ticks + left_of walk = subst (λ (n : ℕ). now ≤ n + left_of walk) unread within in
    omega (arith, w)

module _ {D : Type 0} (bytes : D → Option (List ℕ)) (counts : D → Counts) where
  pub asked-last : (old mid new : Stored D) (walk after : Cursor) (result : Result (Option (List ℕ × List ℕ)) ReadFault) (ticks between now : ℕ) →
      BeginsBack bytes counts old None Unbounded (Ok walk) mid → Goes bytes counts mid walk result new after → between ≡ ticks → now ≤ between + left_of walk →
      OnOk result (now + left_of after ≤ between + left_of walk) → AsksLast bytes counts old result new ticks now
  asked-last old mid new walk after result ticks between now begins goes unread within left =
      record { mid = mid; walk = walk; after = after; begins = begins; goes = goes; reads = last-reads ticks between now walk after result unread within left }
