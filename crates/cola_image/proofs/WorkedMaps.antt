-- The map after worked puts, as the map of a finite list and as the laws of levels have it.
use Rattle.std.proofs.Common.{◌≡◌, inl, inr, ℕ, ◌+◌, ◌≤◌, Bool, true, false, cond, List, [], ◌∷◌, ◌++◌, length, map, Option, Some, None, option_map, IsSome, All, ◌&&◌, append_assoc, length-append, refl, sym, ap, subst, ◌∙◌, arith}
use Rattle.std.specs.declared.cmp.Ordering.{Ordering}
use Rattle.std.specs.declared.cmp.Ordering.TheVariants.{Less, Equal, Greater}
use Rattle.std.specs.Ordering.{is_eq, is_lt}
use Rattle.std.specs.Cmp.{tied_itself}
use Rattle.std.specs.Cmp.Lexicographic.{nat_list_cmp_total}
use Rattle.std.specs.List.{AllByRecursion}
use Rattle.std.specs.List.Sorted.{IsStrictlySortedBy}
use Rattle.std.specs.FinMap as finite
use Rattle.std.specs.FinMap.{FinMap}
use Rattle.std.specs.FinMap.Entries.{put}
use Rattle.std.proofs.Math.Path.{fun_ext}
use Rattle.std.proofs.lemmas.Bool.{eqb-true}
use Rattle.std.specs.Prelude.{nat_eq}
use Rattle.std.proofs.lemmas.List.Elements.{All-from_recursion}
use Rattle.cola_runs.specs.Cells as laws
use Rattle.cola_cell.specs.declared.format.Format.TheVariants.{One}
use Rattle.cola_cell.specs.Held.{Stamped}
use Rattle.cola_laws.specs.Chain.{updated}
use Rattle.cola_laws.specs.Plain.{all_updated, StayWithin}
use Rattle.cola_laws.specs.Sound.{HasAtMost, IsAmong}
use Rattle.cola_laws.proofs.Facts.{few-keys}
use Rattle.cola_spec.specs.Map.{Stored, EntryFits, IsMap, is_key, is_value, key_cmp, count}
use Rattle.cola_spec.proofs.Entries.{same_key, entries_empty, entries_insert}
use Rattle.cola_shapes.specs.Shapes.{stamped_of}
use Rattle.cola_shapes.specs.Shapes.{shape_of}
use Rattle.cola_image.specs.Standing.{found_in}
use Rattle.cola_image.specs.Worked.{after_puts, map_after}

-- two tests that are both true
pub and-both : (a b : Bool) → (a && b) ≡ true → (a ≡ true) × (b ≡ true)
and-both true b h = (refl, h)
and-both false b h = cc

-- a map of keys, as the laws have it
abbrev Found : Type 0
Found = List ℕ → Option Stamped

-- a put as the laws have it: its key and the item that it gives
abbrev pub change_of : List ℕ × List ℕ → List ℕ × laws.Item Stamped
change_of p = (p.0, laws.Value (record { value = p.1; stamp = 0 }))

-- what entries have of a key
abbrev found : FinMap key_cmp Stored → Found
found entries q = option_map stamped_of (finite.get entries q)

-- ---- what is found after puts

option_map-cond : (b : Bool) (s : Stored) (o : Option Stored) → option_map stamped_of (cond b (Some s) o) ≡ cond b (Some (stamped_of s)) (option_map stamped_of o)
option_map-cond true s o = refl
option_map-cond false s o = refl

found-put : (entries : FinMap key_cmp Stored) (key value : List ℕ) →
    updated key_cmp key (laws.Value (record { value = value; stamp = 0 })) (found entries) ≡ found (finite.insert entries key (record { value = value; stamp = 0 }))
found-put entries key value = fun_ext (λ (q : List ℕ).
    sym (ap (λ (o : Option Stored). option_map stamped_of o) (finite.get-insert nat_list_cmp_total entries key (record { value = value; stamp = 0 }) q)
    ∙ option_map-cond (is_eq (key_cmp q key)) (record { value = value; stamp = 0 }) (finite.get entries q)))

found-puts : (puts : List (List ℕ × List ℕ)) (entries : FinMap key_cmp Stored) → all_updated key_cmp (map change_of puts) (found entries) ≡ found (after_puts puts entries)
found-puts [] entries = refl
found-puts (p ∷ puts) entries =
    ap (λ (f : Found). all_updated key_cmp (map change_of puts) f) (found-put entries p.0 p.1)
    ∙ found-puts puts (finite.insert entries p.0 (record { value = p.1; stamp = 0 }))

found-nothing : found finite.empty ≡ (λ (q : List ℕ). None)
found-nothing = fun_ext (λ (q : List ℕ). ap (λ (o : Option Stored). option_map stamped_of o) (finite.get-empty key_cmp q))

-- the laws' changes of no map give what the map after the puts has
pub found-is : (puts : List (List ℕ × List ℕ)) → all_updated key_cmp (map change_of puts) (λ (q : List ℕ). None) ≡ found_in (map_after puts)
found-is puts = ap (λ (f : Found). all_updated key_cmp (map change_of puts) f) (sym found-nothing) ∙ found-puts puts finite.empty

-- ---- its entries, in order

-- entries after puts
abbrev pub all-put : List (List ℕ × List ℕ) → List (List ℕ × Stored) → List (List ℕ × Stored)
all-put [] es = es
all-put (p ∷ puts) es = all-put puts (put key_cmp p.0 (record { value = p.1; stamp = 0 }) es)

entries-after : (puts : List (List ℕ × List ℕ)) (entries : FinMap key_cmp Stored) → finite.entries (after_puts puts entries) ≡ all-put puts (finite.entries entries)
entries-after [] entries = refl
entries-after (p ∷ puts) entries =
    entries-after puts (finite.insert entries p.0 (record { value = p.1; stamp = 0 }))
    ∙ ap (λ (es : List (List ℕ × Stored)). all-put puts es) (entries_insert entries p.0 (record { value = p.1; stamp = 0 }))

entries-are : (puts : List (List ℕ × List ℕ)) → finite.entries (map_after puts).entries ≡ all-put puts []
entries-are puts = entries-after puts finite.empty ∙ ap (λ (es : List (List ℕ × Stored)). all-put puts es) entries_empty

pub count-is : (puts : List (List ℕ × List ℕ)) → count (map_after puts) ≡ length (all-put puts [])
count-is puts = finite.len-entries (map_after puts).entries ∙ ap (λ (es : List (List ℕ × Stored)). length es) (entries-are puts)

-- a test of entries without stamps
abbrev pub all-fit : List (List ℕ × Stored) → Bool
all-fit [] = true
all-fit (e ∷ es) = is_key (shape_of One 32) e.0 && is_value (shape_of One 32) e.1.value && nat_eq e.1.stamp 0 && all-fit es

fit-by-test : (es : List (List ℕ × Stored)) → all-fit es ≡ true → AllByRecursion (EntryFits (shape_of One 32) 0) es
fit-by-test [] h = tt
fit-by-test (e ∷ es) h =
    let rest = and-both (is_key (shape_of One 32) e.0 && is_value (shape_of One 32) e.1.value && nat_eq e.1.stamp 0) (all-fit es) h in
    let last = and-both (is_key (shape_of One 32) e.0 && is_value (shape_of One 32) e.1.value) (nat_eq e.1.stamp 0) rest.0 in
    let first = and-both (is_key (shape_of One 32) e.0) (is_value (shape_of One 32) e.1.value) last.0 in
    let none : e.1.stamp ≡ 0 = eqb-true e.1.stamp 0 last.1 in
    (record { key_fits = first.0; value_fits = first.1; given = omega arith }, fit-by-test es rest.1)

pub is-map : (puts : List (List ℕ × List ℕ)) → length (all-put puts []) ≤ 32 → all-fit (all-put puts []) ≡ true → IsMap (shape_of One 32) (map_after puts)
is-map puts few fit = record {
  within = let n : count (map_after puts) ≡ length (all-put puts []) = count-is puts in omega (arith, n, few);
  fitting = subst (λ (es : List (List ℕ × Stored)). All (EntryFits (shape_of One 32) 0) es) (sym (entries-are puts))
      (All-from_recursion (EntryFits (shape_of One 32) 0) (all-put puts []) (fit-by-test (all-put puts []) fit));
  last_given = omega arith;
  unstamped = refl;
}

-- ---- it has few keys at each moment

-- each key that the map has is among these
abbrev AreAmong : List (List ℕ) → Found → Type 0
AreAmong held f = (q : List ℕ) → IsSome (f q) → IsAmong key_cmp q held

among-before : (q k : List ℕ) (held : List (List ℕ)) → IsAmong key_cmp q held → IsAmong key_cmp q (held ++ k ∷ [])
among-before q k [] m = absurd m
among-before q k (h ∷ held) m = elim m [ inl e ↦ inl e | inr r ↦ inr (among-before q k held r) ]

among-last : (q k : List ℕ) (held : List (List ℕ)) → key_cmp k q ≡ Equal → IsAmong key_cmp q (held ++ k ∷ [])
among-last q k [] e = inl e
among-last q k (h ∷ held) e = inr (among-last q k held e)

tied : (q k : List ℕ) → key_cmp q k ≡ Equal → key_cmp k q ≡ Equal
tied q k e = subst (λ (x : List ℕ). key_cmp x q ≡ Equal) (same_key q k e) (tied_itself nat_list_cmp_total q)

among-by : (q k : List ℕ) (held : List (List ℕ)) (r : Ordering) (v : Stamped) (o : Option Stamped) → key_cmp q k ≡ r → (IsSome o → IsAmong key_cmp q held) →
    IsSome (cond (is_eq r) (Some v) o) → IsAmong key_cmp q (held ++ k ∷ [])
among-by q k held Less v o e there some = among-before q k held (there some)
among-by q k held Equal v o e there some = among-last q k held (tied q k e)
among-by q k held Greater v o e there some = among-before q k held (there some)

among-more : (held : List (List ℕ)) (f : Found) (k : List ℕ) (v : Stamped) → AreAmong held f → AreAmong (held ++ k ∷ []) (updated key_cmp k (laws.Value v) f)
among-more held f k v among q some = among-by q k held (key_cmp q k) v (f q) refl (among q) some

few-held : (held : List (List ℕ)) (f : Found) → IsStrictlySortedBy key_cmp held → length held ≤ 32 → AreAmong held f → HasAtMost key_cmp 32 f
few-held held f sorted few among keys rising some = let n : length keys ≤ length held = few-keys nat_list_cmp_total held f sorted among keys rising some in omega (arith, n, few)

-- a test of keys that rise
abbrev pub all-above : List ℕ → List (List ℕ) → Bool
all-above k [] = true
all-above k (q ∷ keys) = is_lt (key_cmp k q) && all-above k keys

abbrev pub all-rise : List (List ℕ) → Bool
all-rise [] = true
all-rise (k ∷ keys) = all-above k keys && all-rise keys

less-by-test : (r : Ordering) → is_lt r ≡ true → r ≡ Less
less-by-test Less h = refl
less-by-test Equal h = cc
less-by-test Greater h = cc

above-by-test : (k : List ℕ) (keys : List (List ℕ)) → all-above k keys ≡ true → AllByRecursion (λ (q : List ℕ). key_cmp k q ≡ Less) keys
above-by-test k [] h = tt
above-by-test k (q ∷ keys) h =
    let both = and-both (is_lt (key_cmp k q)) (all-above k keys) h in
    (less-by-test (key_cmp k q) both.0, above-by-test k keys both.1)

rise-by-test : (keys : List (List ℕ)) → all-rise keys ≡ true → IsStrictlySortedBy key_cmp keys
unfolding IsStrictlySortedBy
rise-by-test [] h = tt
rise-by-test (k ∷ keys) h = let both = and-both (all-above k keys) (all-rise keys) h in (above-by-test k keys both.0, rise-by-test keys both.1)

-- the front of what rises rises
above-front : (k : List ℕ) (keys more : List (List ℕ)) → AllByRecursion (λ (q : List ℕ). key_cmp k q ≡ Less) (keys ++ more) → AllByRecursion (λ (q : List ℕ). key_cmp k q ≡ Less) keys
above-front k [] more h = tt
above-front k (q ∷ keys) more h = (h.0, above-front k keys more h.1)

rise-front : (keys more : List (List ℕ)) → IsStrictlySortedBy key_cmp (keys ++ more) → IsStrictlySortedBy key_cmp keys
unfolding IsStrictlySortedBy
rise-front [] more h = tt
rise-front (k ∷ keys) more h = (above-front k keys more h.0, rise-front keys more h.1)

-- the keys of puts
abbrev pub keys-of : List (List ℕ × List ℕ) → List (List ℕ)
keys-of = map (λ (p : List ℕ × List ℕ). p.0)

few-from : (held : List (List ℕ)) (f : Found) (puts : List (List ℕ × List ℕ)) → AreAmong held f → IsStrictlySortedBy key_cmp (held ++ keys-of puts) → length held + length puts ≤ 32 →
    StayWithin key_cmp 32 (map change_of puts) f
few-from held f [] among rising few = tt
few-from held f (p ∷ puts) among rising few =
    let now : Found = updated key_cmp p.0 (laws.Value (record { value = p.1; stamp = 0 })) f in
    let here : List (List ℕ) = held ++ p.0 ∷ [] in
    let among' : AreAmong here now = among-more held f p.0 (record { value = p.1; stamp = 0 }) among in
    let rising' : IsStrictlySortedBy key_cmp (here ++ keys-of puts) = subst (IsStrictlySortedBy key_cmp) (sym (append_assoc held (p.0 ∷ []) (keys-of puts))) rising in
    let long : length here ≡ length held + 1 = length-append held (p.0 ∷ []) in
    (few-held here now (rise-front here (keys-of puts) rising') (omega (arith, long, few)) among', few-from here now puts among' rising' (omega (arith, long, few)))

-- the map stays within its limit while so few rising keys are put
pub stays-few : (puts : List (List ℕ × List ℕ)) → all-rise (keys-of puts) ≡ true → length puts ≤ 32 → StayWithin key_cmp 32 (map change_of puts) (λ (q : List ℕ). None)
stays-few puts rise few = few-from [] (λ (q : List ℕ). None) puts (λ q some. cc) (rise-by-test (keys-of puts) rise) (omega (arith, few))
