-- Puts and deletes on a store that stands for a map: how they are decided, and which map they leave.
use Rattle.std.proofs.Common.{◌≡◌, ℕ, ◌+◌, Bool, true, false, cond, nat_le, ◌&&◌, List, length, Option, Some, None, is_some, option_map, refl, sym, ap, subst, ◌∙◌, ◌≢◌, ◌-◌}
use Rattle.std.specs.FinMap as finite
use Rattle.std.specs.Bool.{OnFalse}
use Rattle.std.proofs.lemmas.Bool.{le-leb}
use Rattle.std.specs.declared.cmp.Ordering.TheVariants.{Less, Equal, Greater}
use Rattle.std.specs.Ordering.{is_eq}
use Rattle.std.specs.Option.{unwrap_or}
use Rattle.std.specs.Cmp.Lexicographic.{nat_list_cmp_total}
use Rattle.std.specs.FinMap.{FinMap, get-remove, same_map}
use Rattle.cola_laws.specs.Chain.{updated}
use Rattle.cola_cell.specs.declared.cell.Item.TheVariants.{Value}
use Rattle.cola_cell.specs.declared.format.Format.{Format}
use Rattle.cola_cell.specs.declared.fault.StepFault.{StepFault}
use Rattle.cola_cell.specs.declared.fault.StepFault.TheVariants as step
use Rattle.cola_cell.specs.Format.{KeyFits, ValueFits, key_limit, value_limit}
use Rattle.cola_cell.specs.Bytes.{IsKey}
use Rattle.cola_cell.specs.Held.{Stamped, as_item}
use Rattle.cola_cell.specs.Order.{key_cmp}
use Rattle.cola_device.specs.declared.counts.Counts.{Counts}
use Rattle.cola_spec.specs.Reply as reply
use Rattle.cola_spec.specs.Reply.{Reply}
use Rattle.cola_spec.specs.Map.{Shape, Map, IsMap, Stored as Entry, PutOutcome, New, Old, Full, Worn, Other, count, put_outcome, outcome_at, with_value, after_put, is_key, is_value, value_of, after_delete, after_put_if, settled, put_if_outcome}
use Rattle.cola_spec.specs.Laws.{is_accepted}
use Rattle.cola_spec.proofs.MapLaws.{settled_accepted, after_put_is_map, count_with_value, count_after_delete, put_if_is_put, put_if_is_other}
use Rattle.cola_spec.specs.Map as map
use Rattle.cola_spec.proofs.Entries.{same_key}
use Rattle.cola_spec.proofs.OrderLaws.{pair_fits}
use Rattle.cola_table.specs.declared.PutFault.{PutFault}
use Rattle.cola_table.specs.Answers.{put_answer, PutRefused, OnlyDevice}
use Rattle.cola_shapes.specs.Shapes.{stamped_of}
use Rattle.cola_shapes.specs.Shapes.{shape_of}
use Rattle.cola_table.specs.Terms.{shape}
use Rattle.cola_image.specs.Standing.{found_in}
use Rattle.cola_mutation.proofs.MapLemmas.{found-put}
use Rattle.cola_table.specs.Replies.{put_of_step}
use Rattle.cola_store.specs.Calls.{decided, refusal_of, count_with, next_number, worn_at, put_of, Writes, Concludes, held_by, stamp_or_zero}
use Rattle.cola_store.specs.Store.{Stored, terms_of}

-- Puts

-- where a put is not refused, a number is left, and it is made
ready : (s : Shape) (c l : ℕ) (x : Option Stamped) → refusal_of (decided s c l x) ≡ None → (worn_at s l ≡ false) × (decided s c l x ≡ put_answer (put_of (option_map (λ (v : Stamped). v.value) x)))
ready s c l None is = of-none (nat_le s.limit c) (worn_at s l) is
  where
    of-none : (full worn : Bool) → refusal_of (cond full Full (cond worn Worn New)) ≡ None → (worn ≡ false) × (cond full Full (cond worn Worn New) ≡ New)
    of-none true worn is = (cc, cc)
    of-none false true is = (cc, cc)
    of-none false false is = (refl, refl)
ready s c l (Some v) is = of-some (worn_at s l) is
  where
    of-some : (worn : Bool) → refusal_of (cond worn Worn (Old v.value)) ≡ None → (worn ≡ false) × (cond worn Worn (Old v.value) ≡ Old v.value)
    of-some true is = (cc, cc)
    of-some false is = (refl, refl)

pub fresh-of : (s : Shape) (c l : ℕ) (x : Option Stamped) → refusal_of (decided s c l x) ≡ None → worn_at s l ≡ false
fresh-of s c l x is = (ready s c l x is).0

pub made : (s : Shape) (c l : ℕ) (x : Option Stamped) → refusal_of (decided s c l x) ≡ None → decided s c l x ≡ put_answer (put_of (option_map (λ (v : Stamped). v.value) x))
made s c l x is = (ready s c l x is).1

-- the decision by what the store has is the map's
decided-at : (s : Shape) (m : Map) (x : Option Entry) → decided s (count m) m.last (option_map stamped_of x) ≡ outcome_at s m x
decided-at s m None = refl
decided-at s m (Some e) = refl

pub decided-map : (s : Shape) (m : Map) (key : List ℕ) (c l : ℕ) (x : Option Stamped) → c ≡ count m → l ≡ m.last → x ≡ found_in m key → decided s c l x ≡ put_outcome s m key
decided-map s m key c l x c_is l_is x_is =
    ap (λ (n : ℕ). decided s n l x) c_is ∙ ap (λ (n : ℕ). decided s (count m) n x) l_is ∙ ap (decided s (count m) m.last) x_is ∙ decided-at s m (finite.get m.entries key)

accepted-of : (x : Option (List ℕ)) → is_accepted (put_answer (put_of x)) ≡ true
accepted-of None = refl
accepted-of (Some v) = refl

counted-at : (n : ℕ) (x : Option Entry) → count_with n (option_map stamped_of x) ≡ (cond (is_some (option_map (λ (e : Entry). e.value) x)) n (n + 1))
counted-at n None = refl
counted-at n (Some e) = refl

next-last : (b : Bool) (n : ℕ) → OnFalse b (n ≡ 0) → cond b (n + 1) 0 ≡ cond b (n + 1) n
next-last true n is = refl
next-last false n is = sym is

both : (a b : Bool) → a ≡ true → b ≡ true → (a && b) ≡ true
both true true p q = refl
both true false p q = cc
both false b p q = cc

module _ (format : Format) (limit : ℕ) (m : Map) (key new : List ℕ) (c l : ℕ) (x : Option Stamped) (is_map : IsMap (shape_of format limit) m) (c_is : c ≡ count m) (l_is : l ≡ m.last) (x_is : x ≡ found_in m key)
    (free : refusal_of (decided (shape_of format limit) c l x) ≡ None) where
  abbrev s : Shape
  s = shape_of format limit

  pub outcome-is : put_answer (put_of (option_map (λ (v : Stamped). v.value) x)) ≡ put_outcome s m key
  outcome-is = sym (made s c l x free) ∙ decided-map s m key c l x c_is l_is x_is

  pub after-is : after_put s m key new ≡ with_value s m key new
  after-is = settled_accepted (put_outcome s m key) m (with_value s m key new) (subst (λ (o : PutOutcome). is_accepted o ≡ true) outcome-is (accepted-of (option_map (λ (v : Stamped). v.value) x)))

  -- what a step with the value leaves holds of the map with the value
  pub written : (R : Map → Type 0) (number after : ℕ) → IsKey key → KeyFits format key → ValueFits format new → number ≡ next_number s l → after ≡ count_with c x →
      ((n : Map) → IsMap s n → found_in n ≡ updated key_cmp key (as_item (Value new number)) (found_in m) → after ≡ count n → number ≡ n.last → R n) → R (with_value s m key new)
  written R number after some key_fits value_fits number_is after_is right =
      right (with_value s m key new)
      (subst (λ (n : Map). IsMap s n) after-is (after_put_is_map s m key new is_map (both (nat_le 1 (length key)) (nat_le (length key) (key_limit format)) (le-leb 1 (length key) some.0) (le-leb (length key) (key_limit format) key_fits)) (le-leb (length new) (value_limit format) value_fits)))
      (found-put s m key new ∙ ap (λ (n : ℕ). updated key_cmp key (as_item (Value new n)) (found_in m)) (sym (number_is ∙ ap (next_number s) l_is)))
      (after_is ∙ ap (λ (n : ℕ). count_with n x) c_is ∙ ap (count_with (count m)) x_is ∙ counted-at (count m) (finite.get m.entries key) ∙ sym (count_with_value s m key new))
      (number_is ∙ ap (next_number s) l_is ∙ next-last s.stamped m.last is_map.unstamped)

-- a step that the device refused
pub device-refuses : (o : PutOutcome) (f : StepFault) (r : PutFault) → r ≡ put_of_step f → OnlyDevice f → PutRefused o r
device-refuses o step.Device r is only = subst (λ (x : PutFault). PutRefused o x) (sym is) tt
device-refuses o (step.BadCell n) r is only = absurd only
device-refuses o (step.Overfull n) r is only = absurd only

module _ {D : Type 0} (bytes : D → Option (List ℕ)) (counts : D → Counts) where
  -- a put that is made concludes as it is decided
  pub concluded : (o : PutOutcome) (y : Option (List ℕ)) (old new : Stored D) (key value : List ℕ) (x : Option Stamped) (answer : Reply) → o ≡ put_answer (put_of y) →
      Writes bytes counts old new key (Value value (next_number (shape (terms_of old)) old.last)) (count_with old.count x) (next_number (shape (terms_of old)) old.last) (reply.Put o) answer →
      Concludes bytes counts o old new key value x answer
  concluded New y old new key value x answer is w = w
  concluded (Old v) y old new key value x answer is w = w
  concluded Full None old new key value x answer is w = cc
  concluded Full (Some v) old new key value x answer is w = cc
  concluded Worn None old new key value x answer is w = cc
  concluded Worn (Some v) old new key value x answer is w = cc
  concluded (Other n) None old new key value x answer is w = cc
  concluded (Other n) (Some v) old new key value x answer is w = cc

-- Deletes

absent-entry : (x : Option Entry) → option_map (λ (s : Entry). s.value) x ≡ None → x ≡ None
absent-entry None e = refl
absent-entry (Some s) e = cc

-- without a key that is absent, a map is the same
pub absent-delete : (m : Map) (key : List ℕ) → value_of m key ≡ None → after_delete m key ≡ m
absent-delete m key none =
    let absent : finite.get m.entries key ≡ None = absent-entry (finite.get m.entries key) none in
    let entries : finite.remove m.entries key ≡ m.entries =
    same_map nat_list_cmp_total same_key (finite.remove m.entries key) m.entries (λ q.
    get-remove nat_list_cmp_total m.entries key q
    ∙ elim (map.key_cmp q key) as (λ r. map.key_cmp q key ≡ r → cond (is_eq r) None (finite.get m.entries q) ≡ finite.get m.entries q) [
      | Less ↦ λ p. refl
      | Equal ↦ λ p. sym (ap (λ (k : List ℕ). finite.get m.entries k) (same_key q key p) ∙ absent)
      | Greater ↦ λ p. refl
    ] refl) in
    ap (λ (es : FinMap map.key_cmp Entry). record { entries = es; last = m.last }) entries

-- one key fewer
pub fewer-keys : (m : Map) (key value : List ℕ) → value_of m key ≡ Some value → count (after_delete m key) ≡ count m - 1
fewer-keys m key value is = count_after_delete m key ∙ ap (λ (x : Option (List ℕ)). cond (is_some x) (count m - 1) (count m)) is

fits-or-none : (a b : Bool) (v : Option (List ℕ)) → ((w : List ℕ) → v ≡ Some w → (a && b) ≡ true) → cond b v None ≡ v
fits-or-none a true v f = refl
fits-or-none a false None f = refl
fits-or-none true false (Some w) f = let e : false ≡ true = f w refl in cc
fits-or-none false false (Some w) f = let e : false ≡ true = f w refl in cc

-- a map has no key that does not fit its format
pub held-value : (format : Format) (limit : ℕ) (m : Map) (key : List ℕ) (x : Option (List ℕ)) → IsMap (shape_of format limit) m → x ≡ value_of m key → held_by format key x ≡ value_of m key
held-value format limit m key x is_map is =
    ap (held_by format key) is ∙ fits-or-none (nat_le 1 (length key)) (nat_le (length key) (key_limit format)) (value_of m key) (λ w e. (pair_fits (shape_of format limit) m key w is_map e).0)

-- Puts that depend on the stamp seen

zero-at : (x : Option Entry) → stamp_or_zero (option_map stamped_of x) ≡ unwrap_or (option_map (λ (s : Entry). s.stamp) x) 0
zero-at None = refl
zero-at (Some s) = refl

-- the stamp that was found is the map's
pub zero-found : (m : Map) (key : List ℕ) (x : Option Stamped) → x ≡ found_in m key → stamp_or_zero x ≡ map.stamp_or_zero m key
zero-found m key x is = ap stamp_or_zero is ∙ zero-at (finite.get m.entries key)

module _ (s : Shape) (m : Map) (key : List ℕ) (seen : ℕ) (x : Option Stamped) (x_is : x ≡ found_in m key) where
  pub seen-outcome : stamp_or_zero x ≡ seen → put_if_outcome s m key seen ≡ put_outcome s m key
  seen-outcome is = put_if_is_put s m key seen (sym (zero-found m key x x_is) ∙ is)

  pub seen-after : (value : List ℕ) → stamp_or_zero x ≡ seen → after_put_if s m key seen value ≡ after_put s m key value
  seen-after value is = ap (λ (o : PutOutcome). settled o m (with_value s m key value)) (seen-outcome is)

  pub other-outcome : stamp_or_zero x ≢ seen → put_if_outcome s m key seen ≡ Other (stamp_or_zero x)
  other-outcome apart = (put_if_is_other s m key seen (stamp_or_zero x)).1 (sym (zero-found m key x x_is), apart)

  pub other-after : (value : List ℕ) → stamp_or_zero x ≢ seen → after_put_if s m key seen value ≡ m
  other-after value apart = ap (λ (o : PutOutcome). settled o m (with_value s m key value)) (other-outcome apart)
