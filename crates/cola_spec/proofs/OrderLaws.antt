-- The laws of the order of keys, and of what a map of a shape holds.
use Rattle.std.proofs.Common.{ℕ, ◌≡◌, ◌≢◌, ◌≤◌, ◌<◌, ◌^◌, ◌↔◌, true, false, cond, refl, sym, ◌∙◌, ap, subst, List, [], ◌∷◌, ◌++◌, Some, None, option_map, All}
use Rattle.std.specs.declared.cmp.Ordering.{Ordering}
use Rattle.std.specs.declared.cmp.Ordering.TheVariants.{Less, Equal, Greater}
use Rattle.std.specs.Cmp.{nat_cmp_is}
use Rattle.std.specs.Ordering.{nat_cmp, ordering_then, ordering_reverse, is_lt, is_le, is_eq}
use Rattle.std.specs.Cmp.Lexicographic.{nat_list_cmp_total}
use Rattle.std.specs.FinMap as finite
use Rattle.std.specs.FinMap.Entries.{find}
use Rattle.std.proofs.lemmas.Bool.{OnFalse_at}
use Rattle.std.proofs.lemmas.List.Elements.{All-head, All-tail}
use Rattle.cola_spec.specs.Map.{Shape, Stored, Map, IsMap, EntryFits, is_before, is_from, is_key, is_value, key_cmp, stamp_of, value_of, empty_map, count}
use Rattle.cola_spec.proofs.Entries.{same_key, found, entries_empty}

-- The order

byte_ties : (byte : ℕ) → nat_cmp byte byte ≡ Equal
byte_ties byte = sym (nat_cmp_is byte byte Equal refl)

byte_below : (byte other : ℕ) → byte < other → nat_cmp byte other ≡ Less
byte_below byte other below = sym (nat_cmp_is byte other Less below)

after_tie : (byte : ℕ) (rest others : List ℕ) → key_cmp (byte ∷ rest) (byte ∷ others) ≡ key_cmp rest others
after_tie byte rest others = ap (λ o. ordering_then o (key_cmp rest others)) (byte_ties byte)

pub begins_first : (key : List ℕ) (byte : ℕ) (bytes : List ℕ) → key_cmp key (key ++ byte ∷ bytes) ≡ Less
begins_first [] byte bytes = refl
begins_first (first ∷ key) byte bytes = after_tie first key (key ++ byte ∷ bytes) ∙ begins_first key byte bytes

pub differs_first : (front rest others : List ℕ) (byte other : ℕ) → byte < other → key_cmp (front ++ byte ∷ rest) (front ++ other ∷ others) ≡ Less
differs_first [] rest others byte other below = ap (λ o. ordering_then o (key_cmp rest others)) (byte_below byte other below)
differs_first (first ∷ front) rest others byte other below = after_tie first (front ++ byte ∷ rest) (front ++ other ∷ others) ∙ differs_first front rest others byte other below

key_ties : (key : List ℕ) → key_cmp key key ≡ Equal
key_ties [] = refl
key_ties (byte ∷ key) = after_tie byte key key ∙ key_ties key

pub ties_alone : (key other : List ℕ) → (key_cmp key other ≡ Equal) ↔ (key ≡ other)
ties_alone key other = (same_key key other, λ same. subst (λ k. key_cmp key k ≡ Equal) same (key_ties key))

greater_turned : (o : Ordering) → ordering_reverse o ≡ Greater → o ≡ Less
greater_turned Less h = refl
greater_turned Equal h = cc
greater_turned Greater h = cc

pub turned : (key other : List ℕ) → (key_cmp key other ≡ Greater) ↔ (key_cmp other key ≡ Less)
turned key other = (
  λ h. greater_turned (key_cmp other key) (sym (nat_list_cmp_total.antisymm key other) ∙ h),
  λ h. nat_list_cmp_total.antisymm key other ∙ ap ordering_reverse h,
)

-- Intervals

le_tells : (o : Ordering) → (is_le o ≡ true) ↔ (o ≢ Greater)
le_tells Less = (λ _ e. absurd (cc), λ _. refl)
le_tells Equal = (λ _ e. absurd (cc), λ _. refl)
le_tells Greater = (λ h. absurd (cc), λ apart. absurd (apart refl))

lt_tells : (o : Ordering) → (is_lt o ≡ true) ↔ (o ≡ Less)
lt_tells Less = (λ _. refl, λ _. refl)
lt_tells Equal = (λ h. absurd (cc), λ e. absurd (cc))
lt_tells Greater = (λ h. absurd (cc), λ e. absurd (cc))

pub from_tells : (low key : List ℕ) → (is_from low key ≡ true) ↔ (key_cmp low key ≢ Greater)
from_tells low key = le_tells (key_cmp low key)

pub before_tells : (high key : List ℕ) → (is_before (Some high) key ≡ true) ↔ (key_cmp key high ≡ Less)
before_tells high key = lt_tells (key_cmp key high)

-- What a map of a shape holds

abbrev Entry : Type 0
Entry = List ℕ × Stored

-- an entry that is found is one of the list
found_fits : (shape : Shape) (last : ℕ) (key : List ℕ) (es : List Entry) (s : Stored) → All (EntryFits shape last) es → find key_cmp key es ≡ Some s → EntryFits shape last (key, s)
found_fits shape last key [] s all h = absurd (cc)
found_fits shape last key (e ∷ es) s all h =
    elim (key_cmp key e.0) as (λ o. key_cmp key e.0 ≡ o → cond (is_eq o) (Some e.1) (find key_cmp key es) ≡ Some s → EntryFits shape last (key, s)) [
      | Less ↦ λ _ later. found_fits shape last key es s (All-tail (EntryFits shape last) e es all) later
      | Equal ↦ λ tie here.
          let same : e.1 ≡ s = cc in
          subst (λ (x : Stored). EntryFits shape last (key, x)) same (subst (λ (k : List ℕ). EntryFits shape last (k, e.1)) (sym (same_key key e.0 tie)) (All-head (EntryFits shape last) e es all))
      | Greater ↦ λ _ later. found_fits shape last key es s (All-tail (EntryFits shape last) e es all) later
    ] refl h

stored_fits : (shape : Shape) (m : Map) (key : List ℕ) (s : Stored) → IsMap shape m → finite.get m.entries key ≡ Some s → EntryFits shape m.last (key, s)
stored_fits shape m key s is h = found_fits shape m.last key (finite.entries m.entries) s is.fitting (sym (found m.entries key) ∙ h)

pub pair_fits : (shape : Shape) (m : Map) (key value : List ℕ) → IsMap shape m → value_of m key ≡ Some value → (is_key shape key ≡ true) × (is_value shape value ≡ true)
pair_fits shape m key value is =
    elim (finite.get m.entries key) as (λ o. finite.get m.entries key ≡ o → option_map (λ s. s.value) o ≡ Some value → (is_key shape key ≡ true) × (is_value shape value ≡ true)) [
      | None ↦ λ _ h. absurd (cc)
      | Some s ↦ λ here h.
          let fits = stored_fits shape m key s is here in
          let same : s.value ≡ value = cc in
          (fits.key_fits, subst (λ v. is_value shape v ≡ true) same fits.value_fits)
    ] refl

pub stamp_fits : (shape : Shape) (m : Map) (key : List ℕ) (stamp : ℕ) → IsMap shape m → stamp_of m key ≡ Some stamp → stamp ≤ m.last
stamp_fits shape m key stamp is =
    elim (finite.get m.entries key) as (λ o. finite.get m.entries key ≡ o → option_map (λ s. s.stamp) o ≡ Some stamp → stamp ≤ m.last) [
      | None ↦ λ _ h. absurd (cc)
      | Some s ↦ λ here h.
          let fits = stored_fits shape m key s is here in
          let same : s.stamp ≡ stamp = cc in
          subst (λ n. n ≤ m.last) same fits.given
    ] refl

pub last_fits : (shape : Shape) (m : Map) → IsMap shape m → m.last ≤ 2 ^ 63
last_fits shape m is = is.last_given

pub unstamped : (shape : Shape) (m : Map) → IsMap shape m → shape.stamped ≡ false → m.last ≡ 0
unstamped shape m is none = OnFalse_at none is.unstamped

pub nothing_in_empty : (key : List ℕ) → value_of empty_map key ≡ None
unfolding empty_map
nothing_in_empty key = ap (option_map (λ s. s.value)) (found finite.empty key ∙ ap (find key_cmp key) entries_empty)

pub empty_counts_none : count empty_map ≡ 0
unfolding empty_map
empty_counts_none = finite.len-empty key_cmp Stored

pub empty_has_no_stamp : empty_map.last ≡ 0
unfolding empty_map
empty_has_no_stamp = refl
