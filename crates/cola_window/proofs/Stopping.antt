-- Why a merge of windows takes no more steps.
use Rattle.std.proofs.Common.{◌≡◌, ◌⊎◌, ℕ, ◌+◌, ◌*◌, ◌≤◌, ◌<◌, inl, inr, nat_le, Bool, true, false, List, length, take, drop, Option, Some, None, is_some, refl, ap, sym, subst, ◌∙◌, arith}
use Rattle.std.specs.Option.{option_map}
use Rattle.std.proofs.lemmas.Bool.{true≢false}
use Rattle.std.proofs.lemmas.Bool.Decides.{leb_tells}
use Rattle.cola_runs.specs.Steps.{Ended}
use Rattle.cola_cell.specs.declared.cell.Cell.{Cell}
use Rattle.cola_cell.specs.declared.cell.Reader.{Reader}
use Rattle.cola_cell.specs.declared.cell.Reader.TheVariants.{Own, Incoming, Sample}
use Rattle.cola_cell.specs.declared.format.Format.{Format}
use Rattle.cola_cell.specs.Cell.{key_of}
use Rattle.cola_cell.specs.Decoded.{standing}
use Rattle.cola_cell.specs.Format.{width}
use Rattle.cola_cell.specs.Held.{as_cell}
use Rattle.cola_cell.specs.Order.{key_cmp}
use Rattle.cola_window.specs.declared.windows.Lasts.{Lasts}
use Rattle.cola_window.specs.declared.windows.Rules.{Rules}
use Rattle.cola_window.specs.declared.windows.Taken.{Taken}
use Rattle.cola_window.specs.Windows.{Bytes, Known, Merged, consumed, front_cell, part_of, asked, as_action, moved, last_of, window_of, taken_with}
use Rattle.cola_window.specs.Stopping.{IsUnknown, AreKnown, IsOneUnknown, AreUsedUp, MergeStops, CanStep, left_of}
use Rattle.cola_window.proofs.Fronts.{front_is}
use Rattle.cola_window.proofs.Merging.{Fronts, Lefts, lefts_next}
use Rattle.cola_window.proofs.Taking.{IsTaken, rule_taken}

abbrev pub three : List ℕ → List ℕ → List ℕ → Bytes
three a b c = record { own = a; incoming = b; sample = c }

lefts_are : (f : Format) (windows : Bytes) (t : Taken) (a b c : List ℕ) → Lefts f windows t a b c → three a b c ≡ left_of f windows t
lefts_are f windows t a b c h =
    ap (λ (x : List ℕ). three x b c) h.own_is
    ∙ ap (λ (x : List ℕ). three (drop (t.own * width f) windows.own) x c) h.incoming_is
    ∙ ap (λ (x : List ℕ). three (drop (t.own * width f) windows.own) (drop (t.incoming * width f) windows.incoming) x) h.sample_is

pub stops_unknown : (f : Format) (windows : Bytes) (lasts : Lasts) (room : List ℕ) (t : Taken) (quota : ℕ) (a b c : List ℕ) → Lefts f windows t a b c →
    IsOneUnknown f lasts (three a b c) → MergeStops f windows lasts room t quota
stops_unknown f windows lasts room t quota a b c h u = inr (inr (inl (subst (λ (x : Bytes). IsOneUnknown f lasts x) (lefts_are f windows t a b c h) u)))

-- no front, no cell
short_front : {X : Type 0} (read : Cell → X) (f : Format) (w : List ℕ) → option_map read (front_cell f w) ≡ None → length w < width f
short_front read f w e = elim (leb_tells (width f) (length w)) [
  | inl d ↦ absurd (true≢false (ap is_some (sym (ap (option_map read) (front_is f w (nat_le (width f) (length w)) refl d.0)) ∙ e)))
  | inr d ↦ d.1
]

used_up : (rules : Rules) (link : ℕ) (f : Format) (a b c : List ℕ) →
    as_action rules link (front_cell f a) (front_cell f b) (front_cell f c) None ≡ asked rules link (front_cell f a) (front_cell f b) (front_cell f c) → AreUsedUp f (three a b c)
used_up rules link f a b c e =
    let taken : IsTaken (option_map as_cell (front_cell f a)) (option_map as_cell (front_cell f b)) (option_map key_of (front_cell f c)) Ended =
    subst (IsTaken (option_map as_cell (front_cell f a)) (option_map as_cell (front_cell f b)) (option_map key_of (front_cell f c))) (sym e)
    (rule_taken key_cmp (part_of rules) link (option_map as_cell (front_cell f a)) (option_map as_cell (front_cell f b)) (option_map key_of (front_cell f c))) in
    record { own = short_front as_cell f a taken.0; incoming = short_front as_cell f b taken.1; sample = short_front key_of f c taken.2 }

pub stops_used_up : (f : Format) (rules : Rules) (link : ℕ) (windows : Bytes) (lasts : Lasts) (room : List ℕ) (t : Taken) (quota : ℕ) (a b c : List ℕ) → Fronts f windows lasts t a b c →
    as_action rules link (front_cell f a) (front_cell f b) (front_cell f c) None ≡ asked rules link (front_cell f a) (front_cell f b) (front_cell f c) → MergeStops f windows lasts room t quota
stops_used_up f rules link windows lasts room t quota a b c h e =
    let l : Lefts f windows t a b c = record { own_is = h.own_is; incoming_is = h.incoming_is; sample_is = h.sample_is } in
    inr (inr (inr (subst (λ (x : Bytes). AreUsedUp f x) (lefts_are f windows t a b c l) (used_up rules link f a b c e))))

-- the front behind a step is not known
one_unknown : (f : Format) (lasts : Lasts) (head : Reader) (x y z : List ℕ) → IsUnknown f (last_of head lasts) (window_of head x y z) → IsOneUnknown f lasts (three x y z)
one_unknown f lasts Own x y z u = inl u
one_unknown f lasts Incoming x y z u = inr (inl u)
one_unknown f lasts Sample x y z u = inr (inr u)

pub stops_behind : (f : Format) (windows : Bytes) (lasts : Lasts) (room : List ℕ) (t to : Taken) (quota : ℕ) (a b c x y z : List ℕ) (head : Reader) (emitted : Bool) → Fronts f windows lasts t a b c →
    x ≡ moved f head Own a → y ≡ moved f head Incoming b → z ≡ moved f head Sample c → IsUnknown f (last_of head lasts) (window_of head x y z) → to ≡ taken_with head emitted t → MergeStops f windows lasts room to quota
stops_behind f windows lasts room t to quota a b c x y z head emitted h e g k u is =
    stops_unknown f windows lasts room to quota x y z (subst (λ (n : Taken). Lefts f windows n x y z) (sym is) (lefts_next f windows lasts t a b c x y z head emitted h e g k)) (one_unknown f lasts head x y z u)

-- ---- a step that can be taken is

not_unknown : (f : Format) (last : Bool) (w : List ℕ) → IsUnknown f last w → Known f last w → ⊥
not_unknown f last w u k = elim (leb_tells (width f) (length w)) [
  | inl d ↦ u.bad d.1 (standing f (take (width f) w)) (k.spells d.1)
  | inr d ↦ true≢false (sym (k.ended d.1) ∙ u.goes_on d.1)
]

not_one_unknown : (f : Format) (lasts : Lasts) (left : Bytes) → IsOneUnknown f lasts left → AreKnown f lasts left → ⊥
not_one_unknown f lasts left (inl u) k = not_unknown f lasts.own left.own u k.own
not_one_unknown f lasts left (inr (inl u)) k = not_unknown f lasts.incoming left.incoming u k.incoming
not_one_unknown f lasts left (inr (inr u)) k = not_unknown f lasts.sample left.sample u k.sample

not_used_up : (f : Format) (left : Bytes) → AreUsedUp f left → (width f ≤ length left.own) ⊎ ((width f ≤ length left.incoming) ⊎ (width f ≤ length left.sample)) → ⊥
not_used_up f left u (inl h) = let a = u.own in omega (arith, a, h)
not_used_up f left u (inr (inl h)) = let a = u.incoming in omega (arith, a, h)
not_used_up f left u (inr (inr h)) = let a = u.sample in omega (arith, a, h)

none_left : (k w : ℕ) (window : List ℕ) → k ≡ 0 → drop (k * w) window ≡ window
none_left k w window e = ap (λ (n : ℕ). drop (n * w) window) e ∙ (let z : 0 * w ≡ 0 = omega arith in ap (λ (n : ℕ). drop n window) z)

all_left : (f : Format) (windows : Bytes) (t : Taken) → consumed t ≡ 0 → left_of f windows t ≡ windows
all_left f windows t e =
    ap (λ (x : List ℕ). three x (drop (t.incoming * width f) windows.incoming) (drop (t.sample * (8 * width f)) windows.sample)) (none_left t.own (width f) windows.own (omega (arith, e)))
    ∙ ap (λ (x : List ℕ). three windows.own x (drop (t.sample * (8 * width f)) windows.sample)) (none_left t.incoming (width f) windows.incoming (omega (arith, e)))
    ∙ ap (λ (x : List ℕ). three windows.own windows.incoming x) (none_left t.sample (8 * width f) windows.sample (omega (arith, e)))

no_stop : (f : Format) (windows : Bytes) (lasts : Lasts) (room : List ℕ) (t : Taken) (quota : ℕ) → MergeStops f windows lasts room t quota → CanStep f windows lasts room quota → consumed t ≡ 0 → t.pushed ≡ 0 → ⊥
no_stop f windows lasts room t quota (inl s) c e p = let q = c.asked in omega (arith, s, e, q)
no_stop f windows lasts room t quota (inr (inl s)) c e p =
    let h = c.place in
    let z : t.pushed * width f ≡ 0 = ap (λ (n : ℕ). n * width f) p ∙ (let y : 0 * width f ≡ 0 = omega arith in y) in
    omega (arith, s, h, z)
no_stop f windows lasts room t quota (inr (inr (inl s))) c e p = not_one_unknown f lasts windows (subst (λ (x : Bytes). IsOneUnknown f lasts x) (all_left f windows t e) s) c.known
no_stop f windows lasts room t quota (inr (inr (inr s))) c e p = not_used_up f windows (subst (λ (x : Bytes). AreUsedUp f x) (all_left f windows t e) s) c.some

pub goes_on : (f : Format) (rules : Rules) (base : ℕ) (windows : Bytes) (lasts : Lasts) (room : List ℕ) (t : Taken) (quota : ℕ) → Merged f rules base windows lasts room t →
    MergeStops f windows lasts room t quota → CanStep f windows lasts room quota → 0 < consumed t
goes_on f rules base windows lasts room t quota m s c = elim (leb_tells 1 (consumed t)) [
  | inl d ↦ d.1
  | inr d ↦
      let few = m.emits in
      let none : consumed t ≡ 0 = omega (arith, d.1) in
      absurd (no_stop f windows lasts room t quota s c none (omega (arith, few, none)))
]
