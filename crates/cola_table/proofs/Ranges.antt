-- The pairs of an interval among sorted entries.
use Rattle.std.proofs.Common.{◌≡◌, ℕ, zero, suc, ◌<◌, ◌≤◌, Bool, true, false, cond, ◌&&◌, IsTrue, List, [], ◌∷◌, length, get_or, drop, map, filter, Option, Some, None, refl, arith}
use Rattle.std.proofs.lemmas.Bool.{and_parts}
use Rattle.std.specs.Ordering.{is_lt, is_le}
use Rattle.std.specs.declared.cmp.Ordering.TheVariants.{Less, Equal, Greater}
use Rattle.std.specs.FinMap.{is_sorted}
use Rattle.std.specs.FinMap.Entries.{below_all}
use Rattle.cola_spec.specs.Map.{Stored, key_cmp, pair_of, is_from, is_before}
use Rattle.cola_table.specs.Flat.{place_of}
use Rattle.cola_table.proofs.Places.{is_less}
use Rattle.cola_table.proofs.FlatMap.{key_cmp-total}

abbrev Entry : Type 0
Entry = List ℕ × Stored

-- the test of an interval, and of its upper end alone
abbrev pub is_between : List ℕ → Option (List ℕ) → List ℕ × List ℕ → Bool
is_between low high pair = is_from low pair.0 && is_before high pair.0

abbrev pub is_ahead : Option (List ℕ) → List ℕ × List ℕ → Bool
is_ahead high pair = is_before high pair.0

-- not above, and then below, is below
from_less : (low x y : List ℕ) → is_from low x ≡ true → key_cmp x y ≡ Less → is_from low y ≡ true
from_less low x y from less =
    elim (key_cmp low x) as (λ r. key_cmp low x ≡ r → is_le r ≡ true → is_from low y ≡ true) [
      | Less ↦ λ p from. rw (key_cmp-total.trans low x y p less) refl
      | Equal ↦ λ p from. rw (key_cmp-total.congr low x y p, less) refl
      | Greater ↦ λ p from. absurd (cc)
    ] refl from

-- rising entries above one in the interval are ahead exactly where they are in the interval
all_from : (low : List ℕ) (high : Option (List ℕ)) (x : List ℕ) (es : List Entry) → is_from low x ≡ true → IsTrue (below_all key_cmp x es) → filter (is_between low high) (map pair_of es) ≡ filter (is_ahead high) (map pair_of es)
all_from low high x [] from h = refl
all_from low high x (e ∷ es) from h =
    let parts = and_parts _ _ h in
    rw (from_less low x e.0 from (is_less _ parts.0), all_from low high x es from parts.1) refl

-- the interval begins at the place of its lower end
pub filter-between : (low : List ℕ) (high : Option (List ℕ)) (es : List Entry) → IsTrue (is_sorted key_cmp es) → filter (is_between low high) (map pair_of es) ≡ filter (is_ahead high) (drop (place_of key_cmp low es) (map pair_of es))
filter-between low high [] s = refl
filter-between low high (e ∷ es) s =
    let parts = and_parts _ _ s in
    elim (key_cmp e.0 low) as (λ r. key_cmp e.0 low ≡ r → filter (is_between low high) (map pair_of (e ∷ es)) ≡ filter (is_ahead high) (drop (cond (is_lt r) (suc (place_of key_cmp low es)) 0) (map pair_of (e ∷ es)))) [
      | Less ↦ λ p. rw (key_cmp-total.antisymm low e.0, p) (filter-between low high es parts.1)
      | Equal ↦ λ p. let from : is_from low e.0 ≡ true = rw (key_cmp-total.antisymm low e.0, p) refl in rw (from, all_from low high e.0 es from parts.0) refl
      | Greater ↦ λ p. let from : is_from low e.0 ≡ true = rw (key_cmp-total.antisymm low e.0, p) refl in rw (from, all_from low high e.0 es from parts.0) refl
    ] refl

-- above a key that is not below the upper end, no key is
before_less : (high : Option (List ℕ)) (x y : List ℕ) → is_before high x ≡ false → key_cmp x y ≡ Less → is_before high y ≡ false
before_less None x y past less = past
before_less (Some high) x y past less =
    elim (key_cmp y high) as (λ r. key_cmp y high ≡ r → is_lt r ≡ false) [
      | Less ↦ λ p. let below : key_cmp x high ≡ Less = key_cmp-total.trans x y high less p in absurd (cc (rw below at past))
      | Equal ↦ λ p. refl
      | Greater ↦ λ p. refl
    ] refl

none_ahead : (high : Option (List ℕ)) (x : List ℕ) (es : List Entry) → is_before high x ≡ false → IsTrue (below_all key_cmp x es) → filter (is_ahead high) (map pair_of es) ≡ []
none_ahead high x [] past h = refl
none_ahead high x (e ∷ es) past h =
    let parts = and_parts _ _ h in
    rw (before_less high x e.0 past (is_less _ parts.0)) (none_ahead high x es past parts.1)

module _ (high : Option (List ℕ)) where
  -- where the entry at the place is not below the upper end, nothing is ahead
  pub ahead_past : (es : List Entry) (place : ℕ) (d : Entry) → IsTrue (is_sorted key_cmp es) → place < length es → is_before high (get_or es place d).0 ≡ false → filter (is_ahead high) (drop place (map pair_of es)) ≡ []
  ahead_past [] place d s lt past = absurd (omega arith)
  ahead_past (e ∷ es) zero d s lt past = rw past (none_ahead high e.0 es past (and_parts _ _ s).0)
  ahead_past (e ∷ es) (suc place) d s lt past = ahead_past es place d (and_parts _ _ s).1 (omega arith) past

  -- where it is, its pair is the first ahead
  pub ahead_first : (es : List Entry) (place : ℕ) (d : Entry) → place < length es → is_before high (get_or es place d).0 ≡ true → filter (is_ahead high) (drop place (map pair_of es)) ≡ pair_of (get_or es place d) ∷ filter (is_ahead high) (drop (suc place) (map pair_of es))
  ahead_first [] place d lt before = absurd (omega arith)
  ahead_first (e ∷ es) zero d lt before = rw before refl
  ahead_first (e ∷ es) (suc place) d lt before = ahead_first es place d (omega arith) before

  -- past the last entry, nothing is
  pub ahead_end : (es : List Entry) (place : ℕ) → length es ≤ place → filter (is_ahead high) (drop place (map pair_of es)) ≡ []
  ahead_end [] zero le = refl
  ahead_end [] (suc place) le = refl
  ahead_end (e ∷ es) zero le = absurd (omega arith)
  ahead_end (e ∷ es) (suc place) le = ahead_end es place (omega arith)
