-- A range over the keys that begin with a prefix, by the record of the range between its ends.
use Rattle.std.proofs.Common.{◌≡◌, ◌∙◌, ◌⊎◌, inl, ℕ, zero, suc, ◌+◌, ◌<◌, ◌≤◌, Bool, true, false, cond, ◌&&◌, List, [], ◌∷◌, length, get_or, filter, All, Option, Some, None, Result, Ok, Err, refl, sym, ap, subst, arith, leb, ltb}
use Rattle.std.specs.Cmp.{nat_cmp_is}
use Rattle.std.specs.Cmp.Lexicographic.{slice_cmp}
use Rattle.std.specs.FinMap as finite
use Rattle.std.specs.Option.{IsSomeAnd}
use Rattle.std.specs.Ordering.{is_le, nat_cmp, ordering_then}
use Rattle.std.specs.declared.cmp.Ordering.TheVariants.{Less}
use Rattle.std.specs.Prelude.{IfSome}
use Rattle.std.proofs.lemmas.Bool.{and_parts, leb-true, ltb-true, ltb-false, le-leb, lt-leb}
use Rattle.std.proofs.lemmas.List.Elements.{All-head, All-tail, All-map, All-weaker}
use Rattle.cola_cell.specs.declared.format.Format.{Format}
use Rattle.cola_cell.specs.declared.format.Format.TheVariants.{One, Two}
use Rattle.cola_cell.specs.Format.{key_limit}
use Rattle.cola_cursor.specs.declared.cursor.Cursor.{Cursor}
use Rattle.cola_device.specs.declared.device.Device as device
use Rattle.cola_spec.specs.Map.{Map, Shape, IsMap, EntryFits, is_key, pair_of, pairs, pairs_between, is_from, is_before, key_cmp}
use Rattle.cola_kv.specs.declared.error.Error.{Error}
use Rattle.cola_kv.specs.declared.error.Error.TheVariants.{KeyLength, BadCell, Device}
use Rattle.cola_kv.specs.declared.kv.Kv.{Kv}
use Rattle.cola_kv.specs.Kv.{shape_of, geometry_of}
use Rattle.cola_kv.specs.Causes.{RangeCause, IsRangeRefusal}
use Rattle.cola_kv.specs.Prefix.{BeginsPrefix, PrefixCause, IsPrefixRefusal, KeysAreBytes, begins_with, end_behind, prefix_end, first_from, pairs_with}
use Rattle.cola_kv.specs.Ranged.{Ahead, Begins}
use Rattle.cola_kv.proofs.Beginning.{interval}
use Rattle.cola_kv.proofs.Ranging.{both-fit, range-short}

-- Lengths

-- an end is a key where the prefix is no longer than one
abbrev IsEndOf : List ℕ → List ℕ → Type 0
IsEndOf prefix end = (1 ≤ length end) × (length end ≤ length prefix)

end-lone : (byte next : ℕ) (prefix : List ℕ) (more : Bool) (end : List ℕ) → cond more (Some (next ∷ [])) None ≡ Some end → IsEndOf (byte ∷ prefix) end
end-lone byte next prefix true end e = let same : end ≡ next ∷ [] = cc in subst (IsEndOf (byte ∷ prefix)) (sym same) (omega arith, omega arith)
end-lone byte next prefix false end e = absurd (cc)

end-behind : (byte : ℕ) (prefix : List ℕ) (rest : Option (List ℕ)) → ((end : List ℕ) → rest ≡ Some end → IsEndOf prefix end) → (end : List ℕ) → end_behind byte rest ≡ Some end → IsEndOf (byte ∷ prefix) end
end-behind byte prefix (Some rest) later end e =
    let few = later rest refl in
    let same : end ≡ byte ∷ rest = cc in
    subst (IsEndOf (byte ∷ prefix)) (sym same) (omega arith, omega (arith, few.1))
end-behind byte prefix None later end e = end-lone byte (byte + 1) prefix (ltb byte 255) end e

end-length : (prefix end : List ℕ) → prefix_end prefix ≡ Some end → IsEndOf prefix end
end-length [] end e = absurd (cc)
end-length (byte ∷ prefix) end e = end-behind byte prefix (prefix_end prefix) (end-length prefix) end e

pub and-true : (a b : Bool) → a ≡ true → b ≡ true → (a && b) ≡ true
and-true a b p q = rw (p, q) refl

and_false : (a b : Bool) → b ≡ false → (a && b) ≡ false
and_false true b e = e
and_false false b e = refl

fits : (shape : Shape) (key : List ℕ) → 1 ≤ length key → length key ≤ shape.key_limit → is_key shape key ≡ true
fits shape key some few = and-true _ _ (le-leb 1 (length key) some) (le-leb (length key) shape.key_limit few)

end-fits : (shape : Shape) (prefix : List ℕ) → length prefix ≤ shape.key_limit → (rest : Option (List ℕ)) → prefix_end prefix ≡ rest → IfSome rest (λ key. is_key shape key ≡ true)
end-fits shape prefix few None e = tt
end-fits shape prefix few (Some end) e = let within = end-length prefix end e in fits shape end within.0 (omega (arith, within.1, few))

first-fits : (shape : Shape) → 1 ≤ shape.key_limit → (prefix : List ℕ) → length prefix ≤ shape.key_limit → is_key shape (first_from prefix) ≡ true
first-fits shape some [] few = fits shape (0 ∷ []) (omega arith) (omega (arith, some))
first-fits shape some (byte ∷ prefix) few = fits shape (byte ∷ prefix) (omega arith) few

-- an end that is no key is one of a prefix that is too long
long-prefix : (shape : Shape) → 1 ≤ shape.key_limit → (prefix : List ℕ) → (is_key shape (first_from prefix) ≡ false) ⊎ IsSomeAnd (prefix_end prefix) (λ key. is_key shape key ≡ false) → shape.key_limit < length prefix
long-prefix shape some prefix short =
    elim (ltb shape.key_limit (length prefix)) as (λ b. ltb shape.key_limit (length prefix) ≡ b → shape.key_limit < length prefix) [
      | true ↦ λ e. ltb-true shape.key_limit (length prefix) e
      | false ↦ λ e.
          let few : length prefix ≤ shape.key_limit = ltb-false shape.key_limit (length prefix) e in
          absurd (both-fit shape (first_from prefix) (prefix_end prefix) (first-fits shape some prefix few) (end-fits shape prefix few (prefix_end prefix) refl) short)
    ] refl

-- and of such a prefix the lower end is none
short-first : (shape : Shape) (prefix : List ℕ) → shape.key_limit < length prefix → is_key shape (first_from prefix) ≡ false
short-first shape [] long = absurd (omega (arith, long))
short-first shape (byte ∷ prefix) long = and_false _ _ (lt-leb (length (byte ∷ prefix)) shape.key_limit long)

limit-some : (format : Format) → 1 ≤ key_limit format
limit-some One = omega arith
limit-some Two = omega arith

limit-few : (format : Format) → key_limit format ≤ 40
limit-few One = omega arith
limit-few Two = omega arith

-- The pairs

empty-least : (bytes : List ℕ) → is_le (slice_cmp nat_cmp [] bytes) ≡ true
empty-least [] = refl
empty-least (byte ∷ bytes) = refl

zero-least : (byte : ℕ) (bytes : List ℕ) → is_le (key_cmp (0 ∷ []) (byte ∷ bytes)) ≡ true
zero-least zero bytes = empty-least bytes
zero-least (suc byte) bytes = ap (λ o. is_le (ordering_then o (slice_cmp nat_cmp [] bytes))) (sym (nat_cmp_is 0 (suc byte) Less (omega arith)))

begins-first : (prefix key : List ℕ) → 1 ≤ length key → All (λ byte. byte < 256) key → (is_from (first_from prefix) key && is_before (prefix_end prefix) key) ≡ begins_with prefix key
begins-first [] [] some bytes = absurd (omega (arith, some))
begins-first [] (byte ∷ key) some bytes = ap (λ b. b && true) (zero-least byte key)
begins-first (byte ∷ prefix) key some bytes = sym (interval (byte ∷ prefix) key bytes)

pub all-same : {X : Type 0} (p q : X → Bool) (xs : List X) → All (λ x. p x ≡ q x) xs → filter p xs ≡ filter q xs
all-same p q [] same = refl
all-same p q (x ∷ xs) same = rw (All-head (λ x. p x ≡ q x) x xs same, all-same p q xs (All-tail (λ x. p x ≡ q x) x xs same)) refl

keys-some : (shape : Shape) (m : Map) → IsMap shape m → All (λ pair. 1 ≤ length pair.0) (pairs m)
keys-some shape m is =
    All-map (λ (pair : List ℕ × List ℕ). 1 ≤ length pair.0) pair_of (finite.entries m.entries)
    (All-weaker (EntryFits shape m.last) (λ entry. 1 ≤ length entry.0) (λ entry fits. leb-true 1 (length entry.0) (and_parts (leb 1 (length entry.0)) (leb (length entry.0) shape.key_limit) fits.key_fits).0) (finite.entries m.entries) is.fitting)

-- of a map of bytes the pairs between the ends are those whose keys begin so
pairs-same : (shape : Shape) (m : Map) → IsMap shape m → KeysAreBytes m → (prefix : List ℕ) → pairs_between m (first_from prefix) (prefix_end prefix) ≡ pairs_with m prefix
pairs-same shape m is bytes prefix =
    all-same (λ pair. is_from (first_from prefix) pair.0 && is_before (prefix_end prefix) pair.0) (λ pair. begins_with prefix pair.0) (pairs m)
    (λ k d within. begins-first prefix (get_or (pairs m) k d).0 (keys-some shape m is k d within) (bytes k d within))

-- The record

prefix-refusal : (shape : Shape) → 1 ≤ shape.key_limit → (prefix : List ℕ) (error : Error) → IsRangeRefusal shape (first_from prefix) (prefix_end prefix) error → IsPrefixRefusal shape prefix error
prefix-refusal shape some prefix KeyLength short = long-prefix shape some prefix short
prefix-refusal shape some prefix Device is = is
prefix-refusal shape some prefix error is = is

prefix-cause : (shape : Shape) → 1 ≤ shape.key_limit → (prefix : List ℕ) (before now : ℕ) (error : Error) → RangeCause shape (first_from prefix) (prefix_end prefix) before now error → PrefixCause shape prefix before now error
prefix-cause shape some prefix before now KeyLength short = long-prefix shape some prefix short
prefix-cause shape some prefix before now Device is = is
prefix-cause shape some prefix before now (BadCell cell) is = is
prefix-cause shape some prefix before now error is = is

module _ {D : Type 0} (d : device.Ghosts D) where
  begins-prefix : (old new : Kv D d) (prefix : List ℕ) (result : Result Cursor Error) → Begins d old new (first_from prefix) (prefix_end prefix) result → BeginsPrefix d old new prefix result
  begins-prefix old new prefix (Ok walk) begins = record {
    begins = begins;
    ahead = λ m holds bytes. subst (Ahead d new walk) (pairs-same (shape_of old) m holds.is_map bytes prefix) (begins.ahead m holds);
    refusal = λ m holds. tt;
    long_prefix = λ long. begins.short_end (inl (short-first (shape_of old) prefix long));
    cause = tt;
  }
  begins-prefix old new prefix (Err error) begins =
      let some : 1 ≤ (shape_of old).key_limit = limit-some (geometry_of old).format in
      record {
        begins = begins;
        ahead = λ m holds bytes. tt;
        refusal = λ m holds. prefix-refusal (shape_of old) some prefix error (begins.refusal m holds);
        long_prefix = λ long. begins.short_end (inl (short-first (shape_of old) prefix long));
        cause = prefix-cause (shape_of old) some prefix _ _ error begins.cause;
      }

  -- a range from the prefix on, below an end or with none
  pub begins-below : (old new : Kv D d) (prefix low high end : List ℕ) (result : Result Cursor Error) → Begins d old new low (Some high) result → low ≡ first_from prefix → high ≡ end → Some end ≡ prefix_end prefix → BeginsPrefix d old new prefix result
  begins-below old new prefix low high end result begins first same is =
      begins-prefix old new prefix result
      (subst (λ (l : List ℕ). Begins d old new l (prefix_end prefix) result) first
      (subst (λ (h : Option (List ℕ)). Begins d old new low h result) (ap Some same ∙ is) begins))

  pub begins-onward : (old new : Kv D d) (prefix low : List ℕ) (result : Result Cursor Error) → Begins d old new low None result → low ≡ first_from prefix → None ≡ prefix_end prefix → BeginsPrefix d old new prefix result
  begins-onward old new prefix low result begins first is =
      begins-prefix old new prefix result
      (subst (λ (l : List ℕ). Begins d old new l (prefix_end prefix) result) first
      (subst (λ (h : Option (List ℕ)). Begins d old new low h result) is begins))

  -- a prefix of more bytes than any key has
  pub prefix-long : (kv : Kv D d) (prefix : List ℕ) (error : Error) → error ≡ KeyLength → 40 < length prefix → BeginsPrefix d kv kv prefix (Err error)
  prefix-long kv prefix error is long =
      let few : (shape_of kv).key_limit ≤ 40 = limit-few (geometry_of kv).format in
      begins-prefix kv kv prefix (Err error) (range-short d kv (first_from prefix) (prefix_end prefix) error is (inl (short-first (shape_of kv) prefix (omega (arith, few, long)))))
