-- The entries of a finite map after each of its operations, as a list.
use Rattle.std.proofs.Common.{ℕ, ◌≡◌, Bool, true, false, cond, refl, sym, ◌∙◌, ap, not, List, [], ◌∷◌, length, None, arith}
use Rattle.std.specs.declared.cmp.Ordering.TheVariants.{Equal}
use Rattle.std.specs.Cmp.{eq_by_cmp_equiv}
use Rattle.std.specs.Ordering.{eq_by_cmp}
use Rattle.std.specs.Cmp.Lexicographic.{nat_list_cmp_total}
use Rattle.std.specs.FinMap as finite
use Rattle.std.specs.FinMap.{FinMap, slice_cmp-IsAntisymmetric, nat_cmp-IsAntisymmetric}
use Rattle.std.specs.FinMap.Entries.{where_key, find, put, same_entries, is_sorted-where_key, find-where_key}
use Rattle.cola_spec.specs.Map.{key_cmp, Stored}

nothing_of_length : (es : List (List ℕ × Stored)) → length es ≡ 0 → es ≡ []
nothing_of_length [] e = refl
nothing_of_length (x ∷ es) e = absurd (omega arith)

pub entries_empty : finite.entries (finite.empty {K = List ℕ} {X = Stored} {R = key_cmp}) ≡ []
entries_empty = nothing_of_length _ (sym (finite.len-entries _) ∙ finite.len-empty key_cmp Stored)

pub entries_insert : (m : FinMap key_cmp Stored) (k : List ℕ) (v : Stored) → finite.entries (finite.insert m k v) ≡ put key_cmp k v (finite.entries m)
entries_insert m k v = finite.entries-insert nat_list_cmp_total m k v

-- only equal keys tie
pub same_key : (x y : List ℕ) → key_cmp x y ≡ Equal → x ≡ y
same_key = slice_cmp-IsAntisymmetric nat_cmp-IsAntisymmetric

turned : {A : Type 0} (b : Bool) (x y : A) → cond b x y ≡ cond (not b) y x
turned true x y = refl
turned false x y = refl

-- the keys other than one
abbrev pub is_other : List ℕ → List ℕ → Bool
is_other k x = not (eq_by_cmp key_cmp k x)

pub entries_remove : (m : FinMap key_cmp Stored) (k : List ℕ) → finite.entries (finite.remove m k) ≡ where_key key_cmp (is_other k) (finite.entries m)
entries_remove m k =
    same_entries key_cmp nat_list_cmp_total same_key _ _ (finite.entries_sorted (finite.remove m k)) (is_sorted-where_key key_cmp (is_other k) (finite.entries m) (finite.entries_sorted m))
    (λ q. sym (finite.get-entries (finite.remove m k) q) ∙ finite.get-remove nat_list_cmp_total m k q
    ∙ ap (λ b. cond b None (finite.get m q)) ((eq_by_cmp_equiv nat_list_cmp_total).symm q k) ∙ turned (eq_by_cmp key_cmp k q) None (finite.get m q)
    ∙ ap (λ x. cond (is_other k q) x None) (finite.get-entries m q)
    ∙ sym (find-where_key key_cmp (is_other k) q (λ x t. ap (is_other k) (sym (same_key q x t))) (finite.entries m)))

pub found : (m : FinMap key_cmp Stored) (k : List ℕ) → finite.get m k ≡ find key_cmp k (finite.entries m)
found m k = finite.get-entries m k

pub counted : (m : FinMap key_cmp Stored) → finite.len m ≡ length (finite.entries m)
counted m = finite.len-entries m

-- with these a map that was built from none is computed
pub ruleset listed = (found, counted, entries_empty, entries_insert, entries_remove)
