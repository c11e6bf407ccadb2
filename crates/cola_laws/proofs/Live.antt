-- How many keys have a live answer.
use Rattle.std.proofs.Common.{◌≡◌, ℕ, suc, ◌≤◌, Bool, true, false, cond, List, [], ◌∷◌, length, map, refl, sym, ap, subst, Option, Some, None}
use Rattle.std.specs.Option.{IsSome, option_or}
use Rattle.std.specs.declared.cmp.Ordering.{Ordering}
use Rattle.std.specs.declared.cmp.Ordering.TheVariants.{Less, Equal, Greater}
use Rattle.std.specs.Ordering.{is_eq, ordering_then}
use Rattle.std.specs.Cmp.{IsTotalOrder, tied_itself}
use Rattle.std.specs.List.{AllByRecursion}
use Rattle.std.specs.List.Sorted.{IsStrictlySortedBy}
use Rattle.cola_runs.specs.Cells.{Item, Value, Tombstone, Cell, Entry, Look, key_of, place_cmp, IsRising, IsOldValue}
use Rattle.cola_runs.specs.Seen.{Seen, Old, holds, seen, answer, value_of, IsLive, AtMost}
use Rattle.cola_runs.proofs.Order.{all_change}
use Rattle.cola_laws.specs.Sound.{AreFew, HasAtMost}

module _ {V : Type 0} where
  -- an answer is live where its value is there
  pub live-some : (a : Option (Item V)) → IsLive a → IsSome (value_of a)
  live-some None h = absurd h
  live-some (Some (Value v)) h = refl
  live-some (Some Tombstone) h = absurd h

  pub some-live : (a : Option (Item V)) → IsSome (value_of a) → IsLive a
  some-live None h = cc
  some-live (Some (Value v)) h = tt
  some-live (Some Tombstone) h = cc

module _ {K V : Type 0} (cmp : K → K → Ordering) (most : ℕ) where
  -- answers of the same values are live for the same keys
  pub few-same : (f g : K → Option (Item V)) → ((q : K) → value_of (f q) ≡ value_of (g q)) → AtMost cmp most f → AtMost cmp most g
  few-same f g e h keys sorted live =
      h keys sorted (all_change (λ q l. some-live (f q) (subst (λ (x : Option V). IsSome x) (sym (e q)) (live-some (g q) l))) keys live)

  -- a map of few keys, as the answers that give it
  pub few-of_map : (map : K → Option V) (f : K → Option (Item V)) → ((q : K) → value_of (f q) ≡ map q) → HasAtMost cmp most map → AtMost cmp most f
  few-of_map map f e h keys sorted live =
      h keys sorted (all_change (λ q l. subst (λ (x : Option V). IsSome x) (e q) (live-some (f q) l)) keys live)

  pub map-of_few : (map : K → Option V) (f : K → Option (Item V)) → ((q : K) → value_of (f q) ≡ map q) → AtMost cmp most f → HasAtMost cmp most map
  map-of_few map f e h keys sorted live =
      h keys sorted (all_change (λ q l. some-live (f q) (subst (λ (x : Option V). IsSome x) (sym (e q)) l)) keys live)

-- ---- the keys of the bottom's run

key-less : (r : Ordering) → ordering_then r Equal ≡ Less → r ≡ Less
key-less Less h = refl
key-less Equal h = cc
key-less Greater h = cc

module _ {K V : Type 0} {cmp : K → K → Ordering} (o : IsTotalOrder cmp) where
  one-live : (b : Bool) (v : V) (s : Seen V) → (b ≡ false → IsLive (holds s)) → IsLive (holds (cond b (Old (Value v)) s))
  one-live true v s h = tt
  one-live false v s h = h refl

  -- each key of a run of old values has a live answer
  keys-live : (run : List (Cell K V)) → AllByRecursion IsOldValue run → AllByRecursion (λ q. IsLive (holds (seen cmp q run))) (map key_of run)
  keys-live [] h = tt
  keys-live (Entry k (Value v) false l ∷ run) h =
      (rw (tied_itself o k) tt, all_change (λ q r. one-live (is_eq (cmp q k)) v (seen cmp q run) (λ e. r)) (map key_of run) (keys-live run h.1))
  keys-live (Entry k (Value v) true l ∷ run) h = absurd h.0
  keys-live (Entry k Tombstone y l ∷ run) h = absurd h.0
  keys-live (Look k l ∷ run) h = absurd h.0

  keys-above : (k : K) (v : V) (l : ℕ) (run : List (Cell K V)) → AllByRecursion IsOldValue run → AllByRecursion (λ d. place_cmp cmp (Entry k (Value v) false l) d ≡ Less) run →
      AllByRecursion (λ q. cmp k q ≡ Less) (map key_of run)
  keys-above k v l [] h a = tt
  keys-above k v l (Entry k' (Value w) false m ∷ run) h a = (key-less (cmp k k') a.0, keys-above k v l run h.1 a.1)
  keys-above k v l (Entry k' (Value w) true m ∷ run) h a = absurd h.0
  keys-above k v l (Entry k' Tombstone y m ∷ run) h a = absurd h.0
  keys-above k v l (Look k' m ∷ run) h a = absurd h.0

  pub keys-sorted : (run : List (Cell K V)) → AllByRecursion IsOldValue run → IsRising cmp run → IsStrictlySortedBy cmp (map key_of run)
  unfolding IsStrictlySortedBy
  keys-sorted [] h r = tt
  keys-sorted (Entry k (Value v) false l ∷ run) h r = (keys-above k v l run h.1 r.0, keys-sorted run h.1 r.1)
  keys-sorted (Entry k (Value v) true l ∷ run) h r = absurd h.0
  keys-sorted (Entry k Tombstone y l ∷ run) h r = absurd h.0
  keys-sorted (Look k l ∷ run) h r = absurd h.0

  pub keys-length : (run : List (Cell K V)) → length (map key_of run) ≡ length run
  keys-length [] = refl
  keys-length (c ∷ run) = ap suc (keys-length run)

  or-none : (a : Option (Item V)) → value_of (option_or a None) ≡ value_of a
  or-none None = refl
  or-none (Some i) = refl

  -- a run of old values that answers alone has at most as many cells as there are live keys
  pub bottom-length : (most : ℕ) (run : List (Cell K V)) → IsRising cmp run → AllByRecursion IsOldValue run → AreFew cmp most (run ∷ []) → length run ≤ most
  bottom-length most run r h few =
      let n = few-same cmp most (λ q. answer cmp q (run ∷ [])) (λ q. holds (seen cmp q run)) (λ q. or-none (holds (seen cmp q run))) few
      (map key_of run) (keys-sorted run h r) (keys-live run h) in
      subst (λ (x : ℕ). x ≤ most) (keys-length run) n
