-- The map that runs answer as, and what a map that they answer as has.
use Rattle.std.proofs.Common.{◌≡◌, ℕ, Bool, cond, ◌&&◌, T, List, [], ◌∷◌, length, map, refl, sym, ap, subst, ◌∙◌, Option, Some, None, option_map}
use Rattle.std.specs.FinMap as finite
use Rattle.std.specs.FinMap.{find, is_sorted}
use Rattle.std.specs.FinMap.Entries.{below_all, same_entries}
use Rattle.std.specs.Ordering.{is_lt, eq_by_cmp}
use Rattle.std.specs.Cmp.Lexicographic.{nat_list_cmp_total}
use Rattle.std.proofs.lemmas.List.{length-map}
use Rattle.cola_cell.specs.Held.{LawCell, Stamped}
use Rattle.cola_cell.specs.Order.{key_cmp}
use Rattle.cola_image.specs.Standing.{found_in}
use Rattle.cola_laws.specs.Chain.{value_at}
use Rattle.cola_pairs.proofs.Order.{by_bool}
use Rattle.cola_spec.specs.Map.{Map, Stored, count}
use Rattle.cola_spec.proofs.Entries.{same_key}
use Rattle.cola_shapes.specs.Shapes.{stamped_of, stored_of}
use Rattle.cola_verdict.specs.Tests.{live_pairs}
use Rattle.cola_verdict.proofs.Living.{pairs-find, pairs-rise}

-- a pair as a map stores it
abbrev pub stored-pair : List ℕ × Stamped → List ℕ × Stored
stored-pair e = (e.0, stored_of e.1)

-- the live pairs of runs as a map stores them
abbrev pub stored-pairs : List (List LawCell) → List (List ℕ × Stored)
stored-pairs runs = map stored-pair (live_pairs runs)

below-stored : (k : List ℕ) (es : List (List ℕ × Stamped)) → below_all key_cmp k (map stored-pair es) ≡ below_all key_cmp k es
below-stored k [] = refl
below-stored k (e ∷ es) = ap (λ (b : Bool). is_lt (key_cmp k e.0) && b) (below-stored k es)

sorted-stored : (es : List (List ℕ × Stamped)) → is_sorted key_cmp (map stored-pair es) ≡ is_sorted key_cmp es
sorted-stored [] = refl
sorted-stored (e ∷ es) =
    ap (λ (b : Bool). b && is_sorted key_cmp (map stored-pair es)) (below-stored e.0 es) ∙ ap (λ (b : Bool). below_all key_cmp e.0 es && b) (sorted-stored es)

found-stored : (b : Bool) (v : Stamped) (x : Option Stamped) → cond b (Some (stored_of v)) (option_map stored_of x) ≡ option_map stored_of (cond b (Some v) x)
found-stored b v x = by_bool (λ b. cond b (Some (stored_of v)) (option_map stored_of x) ≡ option_map stored_of (cond b (Some v) x)) refl refl b

find-stored : (q : List ℕ) (es : List (List ℕ × Stamped)) → find key_cmp q (map stored-pair es) ≡ option_map stored_of (find key_cmp q es)
find-stored q [] = refl
find-stored q (e ∷ es) =
    ap (λ (x : Option Stored). cond (eq_by_cmp key_cmp q e.0) (Some (stored_of e.1)) x) (find-stored q es)
    ∙ found-stored (eq_by_cmp key_cmp q e.0) e.1 (find key_cmp q es)

stored-rise : (runs : List (List LawCell)) → T (is_sorted key_cmp (stored-pairs runs))
stored-rise runs = subst (λ (b : Bool). T b) (sym (sorted-stored (live_pairs runs))) (pairs-rise runs)

-- the live pairs, as a map stores them, have of a key what the runs answer
stored-find : (runs : List (List LawCell)) (q : List ℕ) → find key_cmp q (stored-pairs runs) ≡ option_map stored_of (value_at key_cmp runs q)
stored-find runs q = find-stored q (live_pairs runs) ∙ ap (λ (x : Option Stamped). option_map stored_of x) (pairs-find runs q)

there-and-back : (x : Option Stamped) → x ≡ option_map stamped_of (option_map stored_of x)
there-and-back None = refl
there-and-back (Some v) = refl

back-and-there : (x : Option Stored) → option_map stored_of (option_map stamped_of x) ≡ x
back-and-there None = refl
back-and-there (Some v) = refl

-- the map that runs answer as, with this last number
abbrev pub map-of : ℕ → List (List LawCell) → Map
map-of last runs = record { entries = finite.from_sorted (stored-pairs runs); last = last }

pub map-says : (last : ℕ) (runs : List (List LawCell)) (q : List ℕ) → value_at key_cmp runs q ≡ found_in (map-of last runs) q
map-says last runs q =
    there-and-back (value_at key_cmp runs q)
    ∙ ap (λ (x : Option Stored). option_map stamped_of x) (sym (finite.get-from_sorted key_cmp (stored-pairs runs) q (stored-rise runs) ∙ stored-find runs q))

-- a map that runs answer as has their live pairs, and no others
pub entries-are : (m : Map) (runs : List (List LawCell)) → ((q : List ℕ) → value_at key_cmp runs q ≡ found_in m q) → finite.entries m.entries ≡ stored-pairs runs
entries-are m runs says =
    same_entries key_cmp nat_list_cmp_total same_key (finite.entries m.entries) (stored-pairs runs) (finite.entries_sorted m.entries) (stored-rise runs)
    (λ q. sym (finite.get-entries m.entries q) ∙ sym (back-and-there (finite.get m.entries q))
    ∙ ap (λ (x : Option Stamped). option_map stored_of x) (sym (says q)) ∙ sym (stored-find runs q))

pub count-is : (m : Map) (runs : List (List LawCell)) → ((q : List ℕ) → value_at key_cmp runs q ≡ found_in m q) → count m ≡ length (live_pairs runs)
count-is m runs says =
    finite.len-entries m.entries ∙ ap (λ (es : List (List ℕ × Stored)). length es) (entries-are m runs says) ∙ length-map (live_pairs runs) stored-pair
