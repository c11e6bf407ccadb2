-- The strings of bytes that begin with a prefix are an interval.
use Rattle.std.proofs.Common.{◌≡◌, ◌∙◌, ℕ, zero, suc, ◌+◌, ◌-◌, ◌<◌, ◌≤◌, Bool, true, false, cond, ◌&&◌, List, [], ◌∷◌, ◌++◌, length, get_or, set, take, drop, All, Option, Some, None, refl, sym, ap, arith, subst, eqb, ltb, Less, Equal, Greater, Ordering}
use Rattle.std.specs.Prelude.{SomeIff}
use Rattle.std.specs.Cmp.{nat_cmp_is}
use Rattle.std.specs.Cmp.Lexicographic.{slice_cmp}
use Rattle.std.specs.Ordering.{is_lt, is_le, nat_cmp, ordering_then}
use Rattle.std.proofs.lemmas.Bool.{and_parts, ne_eqb, eq-eqb, eqb-true, ltb-false, lt-ltb}
use Rattle.std.proofs.lemmas.Cmp.{ranked}
use Rattle.std.proofs.lemmas.List.Elements.{All-head, All-tail}
use Rattle.cola_cell.specs.Bytes.{IsKey}
use Rattle.cola_spec.specs.Map.{is_from, is_before}
use Rattle.cola_kv.specs.Prefix.{begins_with, end_behind, prefix_end}

-- What begins with a prefix is the prefix and a rest

pub begins-rest : (prefix key : List ℕ) → begins_with prefix key ≡ true → (rest : List ℕ) × (key ≡ prefix ++ rest)
begins-rest [] key e = (key, refl)
begins-rest (byte ∷ prefix) [] e = absurd (cc)
begins-rest (byte ∷ prefix) (first ∷ key) e =
    let parts = and_parts (eqb byte first) (begins_with prefix key) e in
    let later = begins-rest prefix key parts.1 in
    (later.0, ap (λ n. n ∷ key) (sym (eqb-true byte first parts.0)) ∙ ap (λ ks. byte ∷ ks) later.1)

pub rest-begins : (prefix rest : List ℕ) → begins_with prefix (prefix ++ rest) ≡ true
rest-begins [] rest = refl
rest-begins (byte ∷ prefix) rest = ap (λ b. b && begins_with prefix (prefix ++ rest)) (eq-eqb byte byte refl) ∙ rest-begins prefix rest

-- What begins so lies between the ends

not_before_none : (key : List ℕ) → is_lt (slice_cmp nat_cmp key []) ≡ false
not_before_none [] = refl
not_before_none (first ∷ key) = refl

-- a key with a greater first byte is not below the end
module _ (byte first : ℕ) (key : List ℕ) (above : byte < first) (small : first < 256) where
  past_next : (o : Ordering) → nat_cmp first (byte + 1) ≡ o → is_lt (ordering_then o (slice_cmp nat_cmp key [])) ≡ false
  past_next Less e = let less : first < byte + 1 = ranked first (byte + 1) Less (sym e) in absurd (omega arith)
  past_next Equal e = not_before_none key
  past_next Greater e = refl

  past_none : (b : Bool) → ltb byte 255 ≡ b → is_before (cond b (Some ((byte + 1) ∷ [])) None) (first ∷ key) ≡ false
  past_none true e = past_next (nat_cmp first (byte + 1)) refl
  past_none false e = let large : 255 ≤ byte = ltb-false byte 255 e in absurd (omega arith)

  past_end : (end : Option (List ℕ)) → is_before (end_behind byte end) (first ∷ key) ≡ false
  past_end (Some end) = ap (λ o. is_lt (ordering_then o (slice_cmp nat_cmp key end))) (sym (nat_cmp_is first byte Greater above))
  past_end None = past_none (ltb byte 255) refl

-- a key with the same first byte is below the end where what follows is
module _ (byte : ℕ) (key : List ℕ) where
  under_none : (b : Bool) → is_before (cond b (Some ((byte + 1) ∷ [])) None) (byte ∷ key) ≡ true
  under_none true = ap (λ o. is_lt (ordering_then o (slice_cmp nat_cmp key []))) (sym (nat_cmp_is byte (byte + 1) Less (omega arith)))
  under_none false = refl

  same_end : (end : Option (List ℕ)) → is_before (end_behind byte end) (byte ∷ key) ≡ is_before end key
  same_end (Some end) = ap (λ o. is_lt (ordering_then o (slice_cmp nat_cmp key end))) (sym (nat_cmp_is byte byte Equal refl))
  same_end None = under_none (ltb byte 255)

and_false : (b : Bool) → false ≡ (b && false)
and_false true = refl
and_false false = refl

step : (byte first : ℕ) (prefix key : List ℕ) → first < 256 → begins_with prefix key ≡ (is_from prefix key && is_before (prefix_end prefix) key) → (o : Ordering) → nat_cmp byte first ≡ o →
    (eqb byte first && begins_with prefix key) ≡ (is_le (ordering_then o (slice_cmp nat_cmp prefix key)) && is_before (end_behind byte (prefix_end prefix)) (first ∷ key))
step byte first prefix key small later Less e =
    let less : byte < first = ranked byte first Less (sym e) in
    ap (λ b. b && begins_with prefix key) (ne_eqb byte first (λ same. omega arith)) ∙ sym (past_end byte first key less small (prefix_end prefix))
step byte first prefix key small later Equal e =
    let same : byte ≡ first = ranked byte first Equal (sym e) in
    subst (λ (f : ℕ). (eqb byte f && begins_with prefix key) ≡ (is_from prefix key && is_before (end_behind byte (prefix_end prefix)) (f ∷ key))) same
    (ap (λ b. b && begins_with prefix key) (eq-eqb byte byte refl) ∙ later ∙ ap (λ b. is_from prefix key && b) (sym (same_end byte key (prefix_end prefix))))
step byte first prefix key small later Greater e =
    let less : first < byte = ranked byte first Greater (sym e) in
    ap (λ b. b && begins_with prefix key) (ne_eqb byte first (λ same. omega arith))

-- what begins with a prefix lies from it on and below its end
pub interval : (prefix key : List ℕ) → All (λ byte. byte < 256) key → begins_with prefix key ≡ (is_from prefix key && is_before (prefix_end prefix) key)
interval [] [] bytes = refl
interval [] (first ∷ key) bytes = refl
interval (byte ∷ prefix) [] bytes = refl
interval (byte ∷ prefix) (first ∷ key) bytes =
    step byte first prefix key (All-head (λ b. b < 256) first key bytes) (interval prefix key (All-tail (λ b. b < 256) first key bytes)) (nat_cmp byte first) refl

-- in front of what has no end the end is one byte higher
pub end-raised : (prefix : List ℕ) (len : ℕ) → len < length prefix → get_or prefix len 0 < 255 → prefix_end (drop (len + 1) prefix) ≡ None → prefix_end prefix ≡ Some (take len prefix ++ (get_or prefix len 0 + 1) ∷ [])
end-raised [] len within small none = absurd (omega (arith, within))
end-raised (byte ∷ prefix) zero within small none = rw (none, lt-ltb byte 255 small) refl
end-raised (byte ∷ prefix) (suc len) within small none =
    let e : suc len + 1 ≡ suc (len + 1) = omega arith in
    ap (end_behind byte) (end-raised prefix len (omega (arith, within)) small (subst (λ (n : ℕ). prefix_end (drop n (byte ∷ prefix)) ≡ None) e none))

-- What the code builds

raised : (prefix zeros : List ℕ) (at next : ℕ) → at < length prefix → take (suc at) (set (take (suc at) prefix ++ zeros) at next) ≡ take at prefix ++ (next ∷ [])
raised [] zeros at next within = absurd (omega (arith, within))
raised (byte ∷ prefix) zeros zero next within = refl
raised (byte ∷ prefix) zeros (suc at) next within = ap (λ bytes. byte ∷ bytes) (raised prefix zeros at next (omega (arith, within)))

pub built : (prefix copied zeros : List ℕ) (len next : ℕ) → copied ≡ take len prefix → len ≤ length prefix → 1 ≤ len → take len (set (copied ++ zeros) (len - 1) next) ≡ take (len - 1) prefix ++ (next ∷ [])
built prefix copied zeros zero next is few some = absurd (omega (arith, some))
built prefix copied zeros (suc at) next is few some = let e : suc at - 1 ≡ at = omega arith in rw (e, is) (raised prefix zeros at next (omega (arith, few)))

pub of-key : (result : Option (List ℕ)) (bytes end : List ℕ) → SomeIff result (IsKey bytes) bytes → bytes ≡ end → IsKey end → result ≡ Some end
of-key None bytes end is same fits = absurd (is (subst IsKey (sym same) fits))
of-key (Some key) bytes end is same fits = ap Some (is.1 ∙ same)
