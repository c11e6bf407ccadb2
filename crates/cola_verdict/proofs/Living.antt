-- The live pairs of runs: how many there are, and what they have of a key.
use Rattle.std.proofs.Common.{◌≡◌, inl, inr, ℕ, ◌≤◌, true, cond, T, List, [], ◌∷◌, length, map, refl, sym, ap, subst, ◌∙◌, Option, Some, arith}
use Rattle.std.specs.Option.{IsSome}
use Rattle.std.specs.declared.cmp.Ordering.{Ordering}
use Rattle.std.specs.declared.cmp.Ordering.TheVariants.{Less, Equal}
use Rattle.std.specs.Ordering.{is_eq, eq_by_cmp, ordering_reverse}
use Rattle.std.specs.Cmp.{IsTotalOrder, tied_itself}
use Rattle.std.specs.Cmp.Lexicographic.{nat_list_cmp_total}
use Rattle.std.specs.FinMap.{find, is_sorted}
use Rattle.std.specs.FinMap.Entries.{below_all}
use Rattle.std.specs.List.{AllByRecursion}
use Rattle.std.specs.List.Sorted.{IsStrictlySortedBy}
use Rattle.std.proofs.lemmas.List.{length-map}
use Rattle.cola_cell.specs.Held.{LawCell, Stamped}
use Rattle.cola_cell.specs.Order.{key_cmp}
use Rattle.cola_laws.specs.Sound.{AreFew, IsAmong}
use Rattle.cola_laws.proofs.Facts.{few-among}
use Rattle.cola_laws.proofs.Live.{live-some, some-live}
use Rattle.cola_pairs.proofs.Order.{by_bool, first, second, less, equal}
use Rattle.cola_pairs.proofs.LivePairs.{live_find, live_rises}
use Rattle.cola_runs.proofs.Order.{all_change}
use Rattle.cola_runs.specs.Seen.{answer, value_of, IsLive}
use Rattle.cola_verdict.specs.Tests.{live_pairs}

-- the keys of pairs
abbrev pub keys_of : {K X : Type 0} → List (K × X) → List K
keys_of = map (λ e. e.0)

module _ {K : Type 0} {cmp : K → K → Ordering} (o : IsTotalOrder cmp) where
  equal-back : (q k : K) → cmp q k ≡ Equal → cmp k q ≡ Equal
  equal-back q k e = o.antisymm k q ∙ ap ordering_reverse e

module _ {K X : Type 0} {cmp : K → K → Ordering} (o : IsTotalOrder cmp) where
  below-keys : (k : K) (es : List (K × X)) → T (below_all cmp k es) → AllByRecursion (λ q. cmp k q ≡ Less) (keys_of es)
  below-keys k [] h = tt
  below-keys k (e ∷ es) h = (less _ (first _ _ h), below-keys k es (second _ _ h))

  -- the keys of a sorted list rise
  pub keys-rise : (es : List (K × X)) → T (is_sorted cmp es) → IsStrictlySortedBy cmp (keys_of es)
  unfolding IsStrictlySortedBy
  keys-rise [] h = tt
  keys-rise (e ∷ es) h = (below-keys e.0 es (first _ _ h), keys-rise es (second _ _ h))

  some-more : (q : K) (e : K × X) (es : List (K × X)) → IsSome (find cmp q es) → IsSome (find cmp q (e ∷ es))
  some-more q e es h = by_bool (λ b. IsSome (cond b (Some e.1) (find cmp q es))) refl h (eq_by_cmp cmp q e.0)

  -- each of the keys is found
  pub keys-found : (es : List (K × X)) → AllByRecursion (λ q. IsSome (find cmp q es)) (keys_of es)
  keys-found [] = tt
  keys-found (e ∷ es) = (
    subst (λ (r : Ordering). IsSome (cond (is_eq r) (Some e.1) (find cmp e.0 es))) (sym (tied_itself o e.0)) refl,
    all_change (λ q h. some-more q e es h) (keys_of es) (keys-found es),
  )

  -- a key that is found is beside one of the keys
  pub found-among : (q : K) (es : List (K × X)) → IsSome (find cmp q es) → IsAmong cmp q (keys_of es)
  found-among q [] h = cc
  found-among q (e ∷ es) h =
      by_bool (λ b. eq_by_cmp cmp q e.0 ≡ b → IsSome (cond b (Some e.1) (find cmp q es)) → IsAmong cmp q (keys_of (e ∷ es)))
      (λ t h. inl (equal-back o q e.0 (equal _ t)))
      (λ t h. inr (found-among q es h))
      (eq_by_cmp cmp q e.0) refl h

-- the live pairs have of a key what the runs answer
pub pairs-find : (runs : List (List LawCell)) (q : List ℕ) → find key_cmp q (live_pairs runs) ≡ value_of (answer key_cmp q runs)
pairs-find runs q = live_find nat_list_cmp_total (λ k. true) runs (λ x y e. refl) q

pub pairs-rise : (runs : List (List LawCell)) → T (is_sorted key_cmp (live_pairs runs))
pairs-rise runs = live_rises nat_list_cmp_total (λ k. true) runs

-- where there are few live pairs few keys have a live answer
pub few-answers : (most : ℕ) (runs : List (List LawCell)) → length (live_pairs runs) ≤ most → AreFew key_cmp most runs
few-answers most runs few keys sorted live =
    let held = keys_of (live_pairs runs) in
    let among : AllByRecursion (λ q. IsAmong key_cmp q held) keys =
    all_change (λ q l. found-among nat_list_cmp_total q (live_pairs runs) (subst (λ (x : Option Stamped). IsSome x) (sym (pairs-find runs q)) (live-some (answer key_cmp q runs) l))) keys live in
    let n : length keys ≤ length held = few-among nat_list_cmp_total keys held sorted (keys-rise nat_list_cmp_total (live_pairs runs) (pairs-rise runs)) among in
    let e : length held ≡ length (live_pairs runs) = length-map (live_pairs runs) (λ e. e.0) in
    omega (arith, n, e, few)

-- and the other way round
pub few-pairs : (most : ℕ) (runs : List (List LawCell)) → AreFew key_cmp most runs → length (live_pairs runs) ≤ most
few-pairs most runs few =
    let held = keys_of (live_pairs runs) in
    let live : AllByRecursion (λ q. IsLive (answer key_cmp q runs)) held =
    all_change (λ q s. some-live (answer key_cmp q runs) (subst (λ (x : Option Stamped). IsSome x) (pairs-find runs q) s)) held (keys-found nat_list_cmp_total (live_pairs runs)) in
    let n : length held ≤ most = few held (keys-rise nat_list_cmp_total (live_pairs runs) (pairs-rise runs)) live in
    let e : length held ≡ length (live_pairs runs) = length-map (live_pairs runs) (λ e. e.0) in
    omega (arith, n, e)
