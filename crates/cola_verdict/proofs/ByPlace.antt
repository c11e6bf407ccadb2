-- What holds at each place of a list: by the index of the place, and by recursion.
use Rattle.std.proofs.Common.{◌≡◌, ℕ, zero, suc, ◌+◌, ◌<◌, List, [], ◌∷◌, length, drop, refl, sym, subst, arith}
use Rattle.std.specs.Prelude.{slice_index_or, ⊤}

module _ {X A : Type 0} (d : X) (view : X → A) where
  -- what is seen of the one above an index
  abbrev pub seen_above : A → List X → ℕ → A
  seen_above above xs zero = above
  seen_above above xs (suc i) = view (slice_index_or xs i d)

  seen-next : (x : X) (xs : List X) (i : ℕ) → view (slice_index_or (x ∷ xs) i d) ≡ seen_above (view x) xs i
  seen-next x xs zero = refl
  seen-next x xs (suc i) = refl

module _ {X A : Type 0} (d : X) (view : X → A) (P : ℕ → A → X → List X → Type 0) where
  -- from number j on, where so much is seen of what stands above: at each place by its number, what is seen of the one above,
  -- what stands there, and what lies below it
  abbrev pub Each : ℕ → A → List X → Type 0
  Each j above [] = ⊤
  Each j above (x ∷ below) = P j above x below × Each (suc j) (view x) below

  -- the same by the index
  abbrev pub AtPlace : ℕ → A → List X → ℕ → Type 0
  AtPlace j above xs i = P (j + i) (seen_above d view above xs i) (slice_index_or xs i d) (drop (suc i) xs)

  at-next : (j : ℕ) (above : A) (x : X) (xs : List X) (i : ℕ) → AtPlace j above (x ∷ xs) (suc i) → AtPlace (suc j) (view x) xs i
  at-next j above x xs i h =
      subst (λ (a : A). P (suc j + i) a (slice_index_or xs i d) (drop (suc i) xs)) (seen-next d view x xs i)
      (subst (λ (n : ℕ). P n (view (slice_index_or (x ∷ xs) i d)) (slice_index_or xs i d) (drop (suc i) xs)) (let e : j + suc i ≡ suc j + i = omega arith in e) h)

  next-at : (j : ℕ) (above : A) (x : X) (xs : List X) (i : ℕ) → AtPlace (suc j) (view x) xs i → AtPlace j above (x ∷ xs) (suc i)
  next-at j above x xs i h =
      subst (λ (n : ℕ). P n (view (slice_index_or (x ∷ xs) i d)) (slice_index_or xs i d) (drop (suc i) xs)) (let e : suc j + i ≡ j + suc i = omega arith in e)
      (subst (λ (a : A). P (suc j + i) a (slice_index_or xs i d) (drop (suc i) xs)) (sym (seen-next d view x xs i)) h)

  at-first : (j : ℕ) (above : A) (x : X) (xs : List X) → AtPlace j above (x ∷ xs) 0 → P j above x xs
  at-first j above x xs h = subst (λ (n : ℕ). P n above x xs) (let e : j + 0 ≡ j = omega arith in e) h

  first-at : (j : ℕ) (above : A) (x : X) (xs : List X) → P j above x xs → AtPlace j above (x ∷ xs) 0
  first-at j above x xs h = subst (λ (n : ℕ). P n above x xs) (let e : j ≡ j + 0 = omega arith in e) h

  each_of : (j : ℕ) (above : A) (xs : List X) → ((i : ℕ) → i < length xs → AtPlace j above xs i) → Each j above xs
  each_of j above [] h = tt
  each_of j above (x ∷ xs) h =
      (at-first j above x xs (h 0 (omega arith)), each_of (suc j) (view x) xs (λ i l. at-next j above x xs i (h (suc i) (omega (arith, l)))))

  of_each : (j : ℕ) (above : A) (xs : List X) → Each j above xs → (i : ℕ) → i < length xs → AtPlace j above xs i
  of_each j above [] h i l = absurd (omega (arith, l))
  of_each j above (x ∷ xs) h zero l = first-at j above x xs h.0
  of_each j above (x ∷ xs) h (suc i) l = next-at j above x xs i (of_each (suc j) (view x) xs h.1 i (omega (arith, l)))

  -- from number 0 on
  pub each-of_places : (above : A) (xs : List X) → ((i : ℕ) → i < length xs → P i (seen_above d view above xs i) (slice_index_or xs i d) (drop (suc i) xs)) → Each 0 above xs
  each-of_places above xs h =
      each_of 0 above xs
      (λ i l. subst (λ (n : ℕ). P n (seen_above d view above xs i) (slice_index_or xs i d) (drop (suc i) xs)) (let e : i ≡ 0 + i = omega arith in e) (h i l))

  pub places-of_each : (above : A) (xs : List X) → Each 0 above xs → (i : ℕ) → i < length xs → P i (seen_above d view above xs i) (slice_index_or xs i d) (drop (suc i) xs)
  places-of_each above xs h i l =
      subst (λ (n : ℕ). P n (seen_above d view above xs i) (slice_index_or xs i d) (drop (suc i) xs)) (let e : 0 + i ≡ i = omega arith in e) (of_each 0 above xs h i l)
