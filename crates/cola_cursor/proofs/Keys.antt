-- The order of keys, and the keys of cells.
use Rattle.std.proofs.Common.{◌≡◌, ℕ, not, ◌<◌, Bool, cond, List, [], ◌∷◌, true, false, refl, sym, ap, ◌∙◌, Less, Equal, Greater, Ordering, Option, None, Some, length, get_or, reverse, arith}
use Rattle.std.proofs.lemmas.List.{length-reverse, get_or-reverse}
use Rattle.std.specs.Option.{option_or}
use Rattle.std.specs.Cmp.{IsTotalOrder, back_total, eq_by_cmp_equiv}
use Rattle.std.specs.Cmp.Lexicographic.{nat_list_cmp_total}
use Rattle.cola_pairs.specs.Walk.{Closes, KeysOnward, pass_key, pass_keys, passed_item, first_passed}
use Rattle.cola_pairs.proofs.LivePairs.{rising_onward}
use Rattle.cola_pairs.proofs.Onward.{below_closes}
use Rattle.cola_reverse.proofs.Turned.{falling_onward, sorted_reverse}
use Rattle.cola_reverse.proofs.Falls.{low_closes}
use Rattle.cola_look.proofs.KeyLemmas.{keys_alike}
use Rattle.cola_cursor.specs.Way.{way_cmp, within_end, way, at}
use Rattle.std.specs.Ordering.{is_eq, is_lt, is_le, ordering_reverse}
use Rattle.std.specs.FinMap.{IsAntisymmetric}
use Rattle.cola_runs.specs.Cells as laws
use Rattle.cola_cell.specs.Held.{LawCell}
use Rattle.cola_cell.specs.Order.{key_cmp}

-- ---- the two directions

pub way_total : (falls : Bool) → IsTotalOrder (way_cmp falls)
way_total true = back_total nat_list_cmp_total
way_total false = nat_list_cmp_total

pub way_alike : (falls : Bool) → IsAntisymmetric (way_cmp falls)
way_alike true x y e = sym (keys_alike y x e)
way_alike false x y e = keys_alike x y e

pub way_eq : (falls : Bool) (x y : List ℕ) → is_eq (way_cmp falls x y) ≡ is_eq (key_cmp x y)
way_eq true x y = (eq_by_cmp_equiv nat_list_cmp_total).symm y x
way_eq false x y = refl

pub none_ends : (falls : Bool) (k : List ℕ) → within_end falls None k ≡ true
none_ends true k = refl
none_ends false k = refl

pub way_closes : (falls : Bool) (end : Option (List ℕ)) → Closes (way_cmp falls) (within_end falls end)
way_closes true end = low_closes nat_list_cmp_total end
way_closes false end = below_closes nat_list_cmp_total end

pub way_onward : (falls : Bool) (cells : List LawCell) → laws.IsRising key_cmp cells → KeysOnward (way_cmp falls) (way falls cells)
way_onward true cells h = falling_onward nat_list_cmp_total (reverse cells) (sorted_reverse (laws.place_cmp key_cmp) cells h)
way_onward false cells h = rising_onward nat_list_cmp_total cells h

pub way_pass : (falls : Bool) (k : List ℕ) (cells : List LawCell) → pass_key (way_cmp falls) k cells ≡ pass_key key_cmp k cells
way_pass falls k [] = refl
way_pass falls k (c ∷ cells) =
    ap (λ b. cond b (pass_key (way_cmp falls) k cells) (c ∷ cells)) (way_eq falls k (laws.key_of c))
    ∙ ap (λ z. cond (is_eq (key_cmp k (laws.key_of c))) z (c ∷ cells)) (way_pass falls k cells)

pub way_passes : (falls : Bool) (k : List ℕ) (lists : List (List LawCell)) → pass_keys (way_cmp falls) k lists ≡ pass_keys key_cmp k lists
way_passes falls k [] = refl
way_passes falls k (cells ∷ lists) =
    ap (λ z. z ∷ pass_keys (way_cmp falls) k lists) (way_pass falls k cells) ∙ ap (λ z. pass_key key_cmp k cells ∷ z) (way_passes falls k lists)

way_item : (falls : Bool) (k : List ℕ) (cells : List LawCell) → passed_item (way_cmp falls) k cells ≡ passed_item key_cmp k cells
way_item falls k [] = refl
way_item falls k (laws.Entry x i y l ∷ cells) = ap (λ b. cond b (Some i) None) (way_eq falls k x)
way_item falls k (laws.Look x l ∷ cells) =
    ap (λ b. cond b (passed_item (way_cmp falls) k cells) None) (way_eq falls k x)
    ∙ ap (λ z. cond (is_eq (key_cmp k x)) z None) (way_item falls k cells)

pub way_first : (falls : Bool) (k : List ℕ) (lists : List (List LawCell)) → first_passed (way_cmp falls) k lists ≡ first_passed key_cmp k lists
way_first falls k [] = refl
way_first falls k (cells ∷ lists) =
    ap (λ z. option_or z (first_passed (way_cmp falls) k lists)) (way_item falls k cells) ∙ ap (option_or (passed_item key_cmp k cells)) (way_first falls k lists)

-- ---- the cells of a told run, from where a cursor comes

pub way_length : (falls : Bool) {X : Type 0} (cells : List X) → length (way falls cells) ≡ length cells
way_length true cells = length-reverse cells
way_length false cells = refl

pub way_get : (falls : Bool) {X : Type 0} (cells : List X) (place : ℕ) (d : X) → place < length cells → get_or (way falls cells) place d ≡ get_or cells (at falls (length cells) place) d
way_get true cells place d l = get_or-reverse cells place d l ∙ ap (λ n. get_or cells n d) (omega arith)
way_get false cells place d l = refl

pub at_within : (falls : Bool) (len place : ℕ) → place < len → at falls len place < len
at_within true len place l = omega arith
at_within false len place l = l

le_of : (r s : Ordering) → s ≡ ordering_reverse r → not (is_lt r) ≡ is_le s
le_of Less s e = ap is_le (sym e)
le_of Equal s e = ap is_le (sym e)
le_of Greater s e = ap is_le (sym e)

-- a key is not below the lower end
pub not_below_low : (low key : List ℕ) → not (is_lt (key_cmp key low)) ≡ is_le (key_cmp low key)
not_below_low low key = le_of (key_cmp key low) (key_cmp low key) (nat_list_cmp_total.antisymm low key)
