-- A chain whose bottom alone has items is sound at clock 0 for the map of its bottom's run.
use Rattle.std.proofs.Common.{◌≡◌, inl, inr, ℕ, zero, suc, ◌+◌, ◌*◌, Bool, true, false, cond, List, [], ◌∷◌, length, map, refl, sym, ap, ◌∙◌, arith, Option, None}
use Rattle.std.specs.Option.{IsSome, option_or}
use Rattle.std.proofs.lemmas.Bool.{false≢true}
use Rattle.std.specs.declared.cmp.Ordering.{Ordering}
use Rattle.std.specs.declared.cmp.Ordering.TheVariants.{Less, Equal}
use Rattle.std.specs.Ordering.{is_eq, ordering_then}
use Rattle.std.specs.Cmp.{IsTotalOrder, tied_back}
use Rattle.std.specs.List.{AllByRecursion}
use Rattle.std.specs.List.Sorted.{IsStrictlySortedBy}
use Rattle.cola_clock.specs.Clock.{period, is_odd, window_step}
use Rattle.cola_runs.specs.Cells.{Item, Value, Tombstone, Cell, Entry, Look, key_of, place_cmp, IsRising, look_keys, count_items, count_young, IsOldValue}
use Rattle.cola_runs.specs.Seen.{Seen, Nothing, Old, holds, seen, answer, value_of}
use Rattle.cola_runs.specs.Weave.{look_at, relinked}
use Rattle.cola_runs.proofs.Order.{equal_is}
use Rattle.cola_runs.proofs.InOrder.{rising_relinked, linked_relinked}
use Rattle.cola_runs.proofs.Counts.{relinked_keys, relinked_items, relinked_young}
use Rattle.cola_laws.specs.Chain.{visibles, first_keys, value_at}
use Rattle.cola_laws.specs.Sound.{IsUpperRun, IsBottomRun, IsVisible, AreVisible, AreFew, AreKept, IsIdle, ArePaced, IsAmong}
use Rattle.cola_laws.specs.Plain.{showing, look_run, loaded, IsSoundChain}
use Rattle.cola_laws.proofs.Sources.{sample-sorted}
use Rattle.cola_laws.proofs.Windows.{idle-working, rests-idle}
use Rattle.cola_laws.proofs.Live.{few-same, few-of_map, keys-sorted, keys-length}
use Rattle.cola_laws.proofs.Facts.{few-keys}
use Rattle.cola_laws.proofs.Empty.{not_over-zero, step-zero}

-- ---- a run of lookahead cells

less-look : (r : Ordering) → r ≡ Less → ordering_then r Equal ≡ Less
less-look r e = rw e refl

module _ {K : Type 0} (V : Type 0) (cmp : K → K → Ordering) where
  looks-above : (k : K) (keys : List K) → AllByRecursion (λ q. cmp k q ≡ Less) keys → AllByRecursion (λ d. place_cmp {V = V} cmp (look_at k) d ≡ Less) (map look_at keys)
  looks-above k [] h = tt
  looks-above k (q ∷ keys) h = (less-look (cmp k q) h.0, looks-above k keys h.1)

  looks-rising : (keys : List K) → IsStrictlySortedBy cmp keys → IsRising {V = V} cmp (map look_at keys)
  unfolding IsStrictlySortedBy
  looks-rising [] h = tt
  looks-rising (k ∷ keys) h = (looks-above k keys h.0, looks-rising keys h.1)

module _ {K : Type 0} (V : Type 0) where
  looks-keys : (keys : List K) → look_keys {V = V} (map look_at keys) ≡ keys
  looks-keys [] = refl
  looks-keys (k ∷ keys) = ap (λ (xs : List K). k ∷ xs) (looks-keys keys)

  looks-items : (keys : List K) → count_items {V = V} (map look_at keys) ≡ 0
  looks-items [] = refl
  looks-items (k ∷ keys) = looks-items keys

  looks-young : (keys : List K) → count_young {V = V} (map look_at keys) ≡ 0
  looks-young [] = refl
  looks-young (k ∷ keys) = looks-young keys

module _ {K V : Type 0} (cmp : K → K → Ordering) where
  looks-seen : (q : K) (n : ℕ) (keys : List K) → seen {V = V} cmp q (relinked n (map look_at keys)) ≡ Nothing
  looks-seen q n [] = refl
  looks-seen q n (k ∷ keys) = looks-seen q (suc n) keys

  look_run-upper : (odd : Bool) (j : ℕ) (keys : List K) → IsStrictlySortedBy cmp keys → IsUpperRun {V = V} cmp odd j (look_run keys) keys
  look_run-upper odd j keys sorted = record {
    formed = record { rising = rising_relinked cmp 0 (map look_at keys) (looks-rising V cmp keys sorted); linked = linked_relinked 0 (map look_at keys) };
    samples = relinked_keys 0 (map look_at keys) ∙ looks-keys V keys;
    few_items = let e = relinked_items {V = V} 0 (map look_at keys) in let f = looks-items V keys in omega arith;
    few_young = let e = relinked_young {V = V} 0 (map look_at keys) in let f = looks-young V keys in omega arith;
  }

-- ---- the loaded chain

module _ {K V : Type 0} {cmp : K → K → Ordering} (o : IsTotalOrder cmp) (most : ℕ) (run : List (Cell K V)) (bottom : IsBottomRun cmp most run) where
  place-upper : (odd : Bool) (j n : ℕ) (r : List (Cell K V)) (keys : List K) → IsUpperRun cmp odd j r keys → IsVisible cmp most odd j r (visibles (loaded n run)) keys
  place-upper odd j zero r keys h = h
  place-upper odd j (suc n) r keys h = h

  loaded-sorted : (n : ℕ) → IsStrictlySortedBy cmp (first_keys (visibles (loaded n run)))
  loaded-sorted zero = sample-sorted o run bottom.formed.rising
  loaded-sorted (suc n) = sample-sorted o (look_run (first_keys (visibles (loaded n run))))
      (look_run-upper cmp false 0 (first_keys (visibles (loaded n run))) (loaded-sorted n)).formed.rising

  loaded-visible : (j n : ℕ) → AreVisible cmp most 0 j (visibles (loaded n run))
  loaded-visible j zero = (bottom, tt)
  loaded-visible j (suc n) = (
    place-upper (is_odd (period 0 j)) j n (look_run (first_keys (visibles (loaded n run)))) (first_keys (visibles (loaded n run)))
        (look_run-upper cmp (is_odd (period 0 j)) j (first_keys (visibles (loaded n run))) (loaded-sorted n)),
    loaded-visible (suc j) n,
  )

  loaded-answer : (q : K) (n : ℕ) → answer cmp q (visibles (loaded n run)) ≡ answer cmp q (run ∷ [])
  loaded-answer q zero = refl
  loaded-answer q (suc n) =
      ap (λ (x : Seen V). option_or (holds x) (answer cmp q (visibles (loaded n run)))) (looks-seen cmp q 0 (first_keys (visibles (loaded n run)))) ∙ loaded-answer q n

  among-step : (q k : K) (v : V) (cells : List (Cell K V)) (b : Bool) → is_eq (cmp q k) ≡ b →
      IsSome (value_of (option_or (holds (cond b (Old (Value v)) (seen cmp q cells))) None)) →
      (IsSome (value_at cmp (cells ∷ []) q) → IsAmong cmp q (map key_of cells)) → IsAmong cmp q (k ∷ map key_of cells)
  among-step q k v cells true e s rest = inl (tied_back o q k (equal_is (cmp q k) e))
  among-step q k v cells false e s rest = inr (rest s)

  -- each key with a value is one of the run's
  among : (q : K) (cells : List (Cell K V)) → AllByRecursion IsOldValue cells → IsSome (value_at cmp (cells ∷ []) q) → IsAmong cmp q (map key_of cells)
  among q [] h s = cc
  among q (Entry k (Value v) false l ∷ cells) h s = among-step q k v cells (is_eq (cmp q k)) refl s (among q cells h.1)
  among q (Entry k (Value v) true l ∷ cells) h s = absurd h.0
  among q (Entry k Tombstone y l ∷ cells) h s = absurd h.0
  among q (Look k l ∷ cells) h s = absurd h.0

  bottom-few : AreFew cmp most (run ∷ [])
  bottom-few keys sorted live =
      let n = few-of_map cmp (length (map key_of run)) (value_at cmp (run ∷ [])) (λ q. answer cmp q (run ∷ [])) (λ q. refl)
      (few-keys o (map key_of run) (value_at cmp (run ∷ [])) (keys-sorted o run bottom.values bottom.formed.rising) (λ q s. among q run bottom.values s)) keys sorted live in
      let e = keys-length o run in
      let f = bottom.few in
      omega arith

  loaded-few : (n : ℕ) → AreFew cmp most (visibles (loaded n run))
  loaded-few n = few-same cmp most (λ q. answer cmp q (run ∷ [])) (λ q. answer cmp q (visibles (loaded n run))) (λ q. ap (λ (x : Option (Item V)). value_of x) (sym (loaded-answer q n))) bottom-few

  loaded-kept : (j n : ℕ) (above : List (Cell K V)) → AreKept cmp most 0 (suc j) above (loaded n run)
  loaded-kept j zero above = (record { over = λ over. absurd (false≢true (sym (not_over-zero j) ∙ over)); few = loaded-few zero }, tt)
  loaded-kept j (suc n) above =
      (record { over = λ over. absurd (false≢true (sym (not_over-zero j) ∙ over)); few = loaded-few (suc n) }, loaded-kept (suc j) n (look_run (first_keys (visibles (loaded n run)))))

  showing-idle : (r : List (Cell K V)) → IsIdle (showing r)
  showing-idle r = record { empty = refl; own_rests = refl; incoming_rests = refl; sampled_rests = refl }

  loaded-paced : (j n : ℕ) (above : List (Cell K V)) → ArePaced cmp 0 0 (suc j) above (loaded n run)
  loaded-paced j zero above = (
    record {
      before = λ before. showing-idle run;
      inside = λ work. idle-working cmp _ run above _ (showing run) (28 * window_step 0 (suc j) + 0) (showing-idle run) (let e : window_step 0 (suc j) ≡ 0 = step-zero (suc j) in omega arith);
      after = λ over. rests-idle (showing run) (showing-idle run);
    },
    tt,
  )
  loaded-paced j (suc n) above =
      let r : List (Cell K V) = look_run (first_keys (visibles (loaded n run))) in (
        record {
          before = λ before. showing-idle r;
          inside = λ work. idle-working cmp _ r above _ (showing r) (28 * window_step 0 (suc j) + 0) (showing-idle r) (let e : window_step 0 (suc j) ≡ 0 = step-zero (suc j) in omega arith);
          after = λ over. rests-idle (showing r) (showing-idle r);
        },
        loaded-paced (suc j) n r,
      )

  pub loaded-sound : (n : ℕ) → IsSoundChain cmp most 0 (value_at cmp (run ∷ [])) (loaded (suc n) run)
  loaded-sound n =
      let r : List (Cell K V) = look_run (first_keys (visibles (loaded n run))) in
      record {
        sound = record {
          visible = loaded-visible 0 (suc n);
          stands = λ q. ap (λ (x : Option (Item V)). value_of x) (loaded-answer q (suc n));
          paced = loaded-paced 0 n r;
          kept = loaded-kept 0 n r;
          few = loaded-few (suc n);
        };
        idle = showing-idle r;
      }
