-- The keys of a finite map, as the laws of levels take them.
use Rattle.std.proofs.Common.{◌≡◌, ℕ, suc, ◌≤◌, Bool, true, false, ◌&&◌, cond, List, [], ◌∷◌, length, Option, Some, None, option_map, IsSome, refl, ap, subst, ◌∙◌, inl, inr, arith, T}
use Rattle.std.proofs.Math.Path.{fun_ext}
use Rattle.std.specs.declared.cmp.Ordering.{Ordering}
use Rattle.std.specs.declared.cmp.Ordering.TheVariants.{Less, Equal, Greater}
use Rattle.std.specs.Ordering.{eq_by_cmp, is_eq, is_lt}
use Rattle.std.specs.Cmp.{eq_by_cmp_equiv}
use Rattle.std.specs.Cmp.Lexicographic.{nat_list_cmp_total}
use Rattle.std.specs.List.{AllByRecursion}
use Rattle.std.specs.List.Sorted.{IsStrictlySortedBy}
use Rattle.std.specs.FinMap as finite
use Rattle.std.specs.FinMap.Entries.{find, is_sorted, below_all}
use Rattle.cola_cell.specs.declared.cell.Item.TheVariants.{Value, Tombstone}
use Rattle.cola_cell.specs.Held.{Stamped, as_item}
use Rattle.cola_laws.specs.Chain.{updated}
use Rattle.cola_laws.specs.Sound.{IsAmong, HasAtMost}
use Rattle.cola_laws.proofs.Facts.{few-keys}
use Rattle.cola_spec.specs.Map.{Shape, Stored, Map, key_cmp, count, next_stamp, with_value, after_delete}
use Rattle.cola_spec.proofs.MapLaws.{new_entry}
use Rattle.cola_shapes.specs.Shapes.{stamped_of}
use Rattle.cola_image.specs.Standing.{found_in}

mapped : (b : Bool) (x : Option Stored) (s : Stored) → option_map stamped_of (cond b (Some s) x) ≡ cond b (Some (stamped_of s)) (option_map stamped_of x)
mapped true x s = refl
mapped false x s = refl

without : (b : Bool) (x : Option Stored) → option_map stamped_of (cond b None x) ≡ cond b None (option_map stamped_of x)
without true x = refl
without false x = refl

pub found-put : (shape : Shape) (m : Map) (key value : List ℕ) →
    found_in (with_value shape m key value) ≡ updated key_cmp key (as_item (Value value (next_stamp shape m))) (found_in m)
found-put shape m key value =
    fun_ext (λ (q : List ℕ).
    ap (λ (x : Option Stored). option_map stamped_of x) (finite.get-insert nat_list_cmp_total m.entries key (new_entry shape m value) q)
    ∙ mapped (eq_by_cmp key_cmp q key) (finite.get m.entries q) (new_entry shape m value))

pub found-delete : (m : Map) (key : List ℕ) → found_in (after_delete m key) ≡ updated key_cmp key (as_item Tombstone) (found_in m)
found-delete m key =
    fun_ext (λ (q : List ℕ).
    ap (λ (x : Option Stored). option_map stamped_of x) (finite.get-remove nat_list_cmp_total m.entries key q)
    ∙ without (eq_by_cmp key_cmp q key) (finite.get m.entries q))

-- Few keys

less_of : (o : Ordering) → T (is_lt o) → o ≡ Less
less_of Less h = refl
less_of Equal h = absurd h
less_of Greater h = absurd h

equal_of : (o : Ordering) → is_eq o ≡ true → o ≡ Equal
equal_of Less h = cc
equal_of Equal h = refl
equal_of Greater h = cc

left_of : (a b : Bool) → T (a && b) → T a
left_of true b h = tt
left_of false b h = h

right_of : (a b : Bool) → T (a && b) → T b
right_of true b h = h
right_of false b h = absurd h

keys_of : List (List ℕ × Stored) → List (List ℕ)
keys_of [] = []
keys_of (e ∷ es) = e.0 ∷ keys_of es

below_keys : (k : List ℕ) (es : List (List ℕ × Stored)) → T (below_all key_cmp k es) → AllByRecursion (λ (y : List ℕ). key_cmp k y ≡ Less) (keys_of es)
unfolding keys_of
below_keys k [] h = tt
below_keys k (e ∷ es) h =
    (less_of (key_cmp k e.0) (left_of (is_lt (key_cmp k e.0)) (below_all key_cmp k es) h), below_keys k es (right_of (is_lt (key_cmp k e.0)) (below_all key_cmp k es) h))

sorted_keys : (es : List (List ℕ × Stored)) → T (is_sorted key_cmp es) → IsStrictlySortedBy key_cmp (keys_of es)
unfolding keys_of IsStrictlySortedBy
sorted_keys [] h = tt
sorted_keys (e ∷ es) h =
    (below_keys e.0 es (left_of (below_all key_cmp e.0 es) (is_sorted key_cmp es) h), sorted_keys es (right_of (below_all key_cmp e.0 es) (is_sorted key_cmp es) h))

length_keys : (es : List (List ℕ × Stored)) → length (keys_of es) ≡ length es
unfolding keys_of
length_keys [] = refl
length_keys (e ∷ es) = ap suc (length_keys es)

some_of : (x : Option Stored) → IsSome (option_map stamped_of x) → IsSome x
some_of None h = h
some_of (Some s) h = refl

among : (q : List ℕ) (es : List (List ℕ × Stored)) → IsSome (find key_cmp q es) → IsAmong key_cmp q (keys_of es)
unfolding keys_of
among q [] h = cc
among q (e ∷ es) h =
    elim (eq_by_cmp key_cmp q e.0) as (λ (b : Bool). eq_by_cmp key_cmp q e.0 ≡ b → IsSome (cond b (Some e.1) (find key_cmp q es)) → IsAmong key_cmp q (keys_of (e ∷ es))) [
      | true ↦ λ t h. inl (equal_of (key_cmp e.0 q) ((eq_by_cmp_equiv nat_list_cmp_total).symm e.0 q ∙ t))
      | false ↦ λ t h. inr (among q es h)
    ] refl h

more-keys : (most less : ℕ) (f : List ℕ → Option Stamped) → less ≤ most → HasAtMost key_cmp less f → HasAtMost key_cmp most f
more-keys most less f h few keys sorted some = let e = few keys sorted some in omega (arith, e, h)

pub few-found : (most : ℕ) (m : Map) → count m ≤ most → HasAtMost key_cmp most (found_in m)
few-found most m h =
    more-keys most (length (keys_of (finite.entries m.entries))) (found_in m)
    (let e = length_keys (finite.entries m.entries) in let n = finite.len-entries m.entries in omega (arith, e, n, h))
    (few-keys nat_list_cmp_total (keys_of (finite.entries m.entries)) (found_in m) (sorted_keys (finite.entries m.entries) (finite.entries_sorted m.entries))
    (λ (k : List ℕ) (s : IsSome (found_in m k)). among k (finite.entries m.entries) (subst (λ (x : Option Stored). IsSome x) (finite.get-entries m.entries k) (some_of (finite.get m.entries k) s))))
