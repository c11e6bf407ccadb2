-- A merge of windows is so many steps of the list machine.
use Rattle.std.proofs.Common.{◌≡◌, ℕ, zero, suc, ◌+◌, ◌-◌, ◌*◌, ◌≤◌, ◌<◌, inl, inr, nat_le, Bool, true, false, List, [], ◌∷◌, ◌++◌, length, take, drop, Option, Some, None, is_some, refl, ap, sym, subst, ◌∙◌, arith, append_assoc, append-nil}
use Rattle.std.specs.Option.{option_map, option_to_list}
use Rattle.std.specs.List.{slice_get}
use Rattle.std.proofs.lemmas.Bool.{true≢false}
use Rattle.std.proofs.lemmas.Bool.Decides.{leb_tells}
use Rattle.std.proofs.Math.Nat.{add-mul}
use Rattle.std.proofs.Common.{IsSome}
use Rattle.cola_cell.specs.declared.format.Format.TheVariants.{One, Two}
use Rattle.cola_window.proofs.Taking.{IsTaken, rule_taken}
use Rattle.cola_window.specs.Windows.{Merged, moved, last_of}
use Rattle.std.proofs.lemmas.List.{drop-drop, drop-take, length-drop, take-take}
use Rattle.std.proofs.Math.Nat.{suc-mul}
use Rattle.std.proofs.Math.Seq.{take-add}
use Rattle.cola_runs.specs.Cells as cells
use Rattle.cola_runs.specs.Steps as laws
use Rattle.cola_runs.specs.Steps.{Action, Take, Ended, Build, after, consumed_from, rule, step, steps}
use Rattle.cola_runs.specs.Weave.{Part}
use Rattle.std.specs.declared.cmp.Ordering.{Ordering}
use Rattle.cola_cell.specs.declared.cell.Cell.{Cell}
use Rattle.cola_cell.specs.declared.cell.Reader.{Reader}
use Rattle.cola_cell.specs.declared.cell.Reader.TheVariants.{Own, Incoming, Sample}
use Rattle.cola_cell.specs.declared.format.Format.{Format}
use Rattle.cola_cell.specs.declared.packed.Pass.{Pass}
use Rattle.cola_cell.specs.Cell.{key_of}
use Rattle.cola_cell.specs.Format.{width}
use Rattle.cola_cell.specs.Decoded.{standing}
use Rattle.cola_cell.specs.Held.{LawCell, Stamped, as_cell}
use Rattle.cola_cell.specs.Order.{key_cmp}
use Rattle.cola_cell.specs.Spelling.{IsSpelling}
use Rattle.cola_cell.proofs.DecodedLemmas.{standing-is}
use Rattle.cola_window.specs.declared.windows.Act.{Act}
use Rattle.cola_window.specs.declared.windows.Lasts.{Lasts}
use Rattle.cola_window.specs.declared.windows.Rules.{Rules}
use Rattle.cola_window.specs.declared.windows.Taken.{Taken}
use Rattle.cola_window.specs.Windows.{Known, Spells, Bytes, Shows, Merges, Suits, front_cell, part_of, asked, as_action, act_pass, as_head, pick, window_of, taken_with, more, consumed, Puts, emitted_of, cells_in, key_read, behind}
use Rattle.cola_window.proofs.Fronts.{front_is, no_front, key_of-as_cell}
use Rattle.cola_window.proofs.Going.{one_consumed, known_after, pushed_with, more-le, suits_picked}

-- ---- steps of the laws

module _ {K V : Type 0} (cmp : K → K → Ordering) (part : Part) (own incoming : List (cells.Cell K V)) (keys : List K) where
  -- one step more, at the end
  pub steps-last : (n : ℕ) (p : Build K V) → steps cmp part own incoming keys (n + 1) p ≡ step cmp part own incoming keys (steps cmp part own incoming keys n p)
  steps-last zero p = refl
  steps-last (suc n) p = ap (λ (k : ℕ). steps cmp part own incoming keys k p) (let e : suc n + 1 ≡ suc (n + 1) = omega arith in e) ∙ steps-last n (step cmp part own incoming keys p)

-- ---- cells in a room

part_stays : (k m at : ℕ) (w : ℕ) (new old : List ℕ) → at ≡ k + m → w ≤ m → take at new ≡ take at old → take w (drop k new) ≡ take w (drop k old)
part_stays k m at w new old e h s = front_of new ∙ ap (λ (xs : List ℕ). take w (drop k xs)) s ∙ sym (front_of old)
  where
    front_of : (xs : List ℕ) → take w (drop k xs) ≡ take w (drop k (take at xs))
    front_of xs = sym (ap (λ (n : ℕ). take w (drop k (take n xs))) e ∙ ap (take w) (drop-take k m xs) ∙ take-take w m (drop k xs) h)

one_more : (f : Format) (n : ℕ) → suc n * width f ≡ n * width f + width f
one_more f n = suc-mul n (width f)

pub cells_stay : (f : Format) (n at : ℕ) (new old : List ℕ) → n * width f ≤ at → take at new ≡ take at old → cells_in f n new ≡ cells_in f n old
cells_stay f zero at new old h s = refl
cells_stay f (suc n) at new old h s =
    let z : suc n * width f ≡ n * width f + width f = one_more f n in
    ap (λ (l : List LawCell). l ++ (as_cell (standing f (take (width f) (drop (n * width f) new))) ∷ [])) (cells_stay f n at new old (omega (arith, h, z)) s)
    ∙ ap (λ (x : List ℕ). cells_in f n old ++ (as_cell (standing f x) ∷ [])) (part_stays (n * width f) (at - n * width f) at (width f) new old (omega (arith, h, z)) (omega (arith, h, z)) s)

pub cells_after : (f : Format) (n : ℕ) (cell : Option Cell) (b : Bool) (new old : List ℕ) → b ≡ is_some cell → take (n * width f) new ≡ take (n * width f) old → Puts f (n * width f) cell new →
    cells_in f (more b n) new ≡ cells_in f n old ++ option_to_list (option_map as_cell cell)
cells_after f n None b new old e s q = ap (λ (x : Bool). cells_in f (more x n) new) e ∙ cells_stay f n (n * width f) new old (omega arith) s ∙ sym (append-nil (cells_in f n old))
cells_after f n (Some c) b new old e s q =
    ap (λ (x : Bool). cells_in f (more x n) new) e
    ∙ ap (λ (k : ℕ). cells_in f k new) (let z : n + 1 ≡ suc n = omega arith in z)
    ∙ ap (λ (x : Cell). cells_in f n new ++ (as_cell x ∷ [])) (standing-is f c (take (width f) (drop (n * width f) new)) q)
    ∙ ap (λ (l : List LawCell). l ++ (as_cell c ∷ [])) (cells_stay f n (n * width f) new old (omega arith) s)

pub emitted_there : (p : Option Pass) (o : Option Cell) → Suits p o → is_some p ≡ is_some (emitted_of p o)
emitted_there None None s = refl
emitted_there None (Some c) s = refl
emitted_there (Some pass) None s = absurd s
emitted_there (Some pass) (Some c) s = refl

-- ---- the fronts are the cells at the cursors

pub front_shown : {X : Type 0} (read : Cell → X) (f : Format) (distance : ℕ) (last : Bool) (window : List ℕ) (list : List X) (at n : ℕ) (left : List ℕ) → Shows read f distance last window list at →
    left ≡ drop (n * distance) window → Known f last left → option_map read (front_cell f left) ≡ slice_get list (at + n)
front_shown read f distance last window list at n left s e k =
    ap (λ (w : List ℕ). option_map read (front_cell f w)) e ∙ here (subst (Known f last) e k)
  where
    here : Known f last (drop (n * distance) window) → option_map read (front_cell f (drop (n * distance) window)) ≡ slice_get list (at + n)
    here k = elim (leb_tells (width f) (length (drop (n * distance) window))) [
      | inl d ↦ ap (option_map read) (front_is f (drop (n * distance) window) (nat_le (width f) (length (drop (n * distance) window))) refl d.0) ∙ sym (s.cells n d.1 (k.spells d.1))
      | inr d ↦ ap (option_map read) (no_front f (drop (n * distance) window) (nat_le (width f) (length (drop (n * distance) window))) refl d.0) ∙ sym (s.ends n d.1 (k.ended d.1))
    ]

key_map : (o : Option Cell) → option_map key_of o ≡ option_map key_read o
key_map None = refl
key_map (Some c) = refl

-- ---- the build behind a step

step_done : (a b c : List LawCell) → (a ++ b) ++ c ≡ a ++ (b ++ c)
step_done a b c = append_assoc a b c

pub behind_next : (f : Format) (p : Build (List ℕ) Stamped) (t : Taken) (head : Reader) (b : Bool) (cell : Option LawCell) (new old : List ℕ) →
    cells_in f (more b t.pushed) new ≡ cells_in f t.pushed old ++ option_to_list cell → after (Take (as_head head) cell) (behind f p t old) ≡ behind f p (taken_with head b t) new
behind_next f p t Own b cell new old e =
    ap (λ (n : ℕ). record { own = n; incoming = p.incoming + t.incoming; sampled = p.sampled + t.sample; done = (p.done ++ cells_in f t.pushed old) ++ option_to_list cell }) (let z : suc (p.own + t.own) ≡ p.own + (t.own + 1) = omega arith in z)
    ∙ ap (λ (l : List LawCell). record { own = p.own + (t.own + 1); incoming = p.incoming + t.incoming; sampled = p.sampled + t.sample; done = l })
    (step_done p.done (cells_in f t.pushed old) (option_to_list cell) ∙ ap (λ (l : List LawCell). p.done ++ l) (sym e))
behind_next f p t Incoming b cell new old e =
    ap (λ (n : ℕ). record { own = p.own + t.own; incoming = n; sampled = p.sampled + t.sample; done = (p.done ++ cells_in f t.pushed old) ++ option_to_list cell }) (let z : suc (p.incoming + t.incoming) ≡ p.incoming + (t.incoming + 1) = omega arith in z)
    ∙ ap (λ (l : List LawCell). record { own = p.own + t.own; incoming = p.incoming + (t.incoming + 1); sampled = p.sampled + t.sample; done = l })
    (step_done p.done (cells_in f t.pushed old) (option_to_list cell) ∙ ap (λ (l : List LawCell). p.done ++ l) (sym e))
behind_next f p t Sample b cell new old e =
    ap (λ (n : ℕ). record { own = p.own + t.own; incoming = p.incoming + t.incoming; sampled = n; done = (p.done ++ cells_in f t.pushed old) ++ option_to_list cell }) (let z : suc (p.sampled + t.sample) ≡ p.sampled + (t.sample + 1) = omega arith in z)
    ∙ ap (λ (l : List LawCell). record { own = p.own + t.own; incoming = p.incoming + t.incoming; sampled = p.sampled + (t.sample + 1); done = l })
    (step_done p.done (cells_in f t.pushed old) (option_to_list cell) ∙ ap (λ (l : List LawCell). p.done ++ l) (sym e))

-- ---- one step more

pub record Fronts (f : Format) (windows : Bytes) (lasts : Lasts) (t : Taken) (a b c : List ℕ) : Type 0 where
  pub own_is : a ≡ drop (t.own * width f) windows.own
  pub incoming_is : b ≡ drop (t.incoming * width f) windows.incoming
  pub sample_is : c ≡ drop (t.sample * (8 * width f)) windows.sample
  pub own_known : Known f lasts.own a
  pub incoming_known : Known f lasts.incoming b
  pub sample_known : Known f lasts.sample c

module _ (f : Format) (rules : Rules) (base : ℕ) (windows : Bytes) (lasts : Lasts) (a b c : List ℕ) (t : Taken) (h : Fronts f windows lasts t a b c) where
  step_is : (own incoming : List LawCell) (keys : List (List ℕ)) (p : Build (List ℕ) Stamped) (room : List ℕ) →
      Shows as_cell f (width f) lasts.own windows.own own p.own → Shows as_cell f (width f) lasts.incoming windows.incoming incoming p.incoming → Shows key_read f (8 * width f) lasts.sample windows.sample keys p.sampled → base ≡ 8 * p.sampled →
      step key_cmp (part_of rules) own incoming keys (behind f p t room) ≡ after (asked rules (base + 8 * t.sample) (front_cell f a) (front_cell f b) (front_cell f c)) (behind f p t room)
  unfolding step
  step_is own incoming keys p room so si sk e =
      let q = behind f p t room in
      let l : 8 * (p.sampled + t.sample) ≡ base + 8 * t.sample = omega (arith, e) in
      let x = front_shown as_cell f (width f) lasts.own windows.own own p.own t.own a so h.own_is h.own_known in
      let y = front_shown as_cell f (width f) lasts.incoming windows.incoming incoming p.incoming t.incoming b si h.incoming_is h.incoming_known in
      let z = key_map (front_cell f c) ∙ front_shown key_read f (8 * width f) lasts.sample windows.sample keys p.sampled t.sample c sk h.sample_is h.sample_known in
      ap (λ (n : ℕ). after (rule key_cmp (part_of rules) n (slice_get own (p.own + t.own)) (slice_get incoming (p.incoming + t.incoming)) (slice_get keys (p.sampled + t.sample))) q) l
      ∙ ap (λ (o : Option LawCell). after (rule key_cmp (part_of rules) (base + 8 * t.sample) o (slice_get incoming (p.incoming + t.incoming)) (slice_get keys (p.sampled + t.sample))) q) (sym x)
      ∙ ap (λ (o : Option LawCell). after (rule key_cmp (part_of rules) (base + 8 * t.sample) (option_map as_cell (front_cell f a)) o (slice_get keys (p.sampled + t.sample))) q) (sym y)
      ∙ ap (λ (o : Option (List ℕ)). after (rule key_cmp (part_of rules) (base + 8 * t.sample) (option_map as_cell (front_cell f a)) (option_map as_cell (front_cell f b)) o) q) (sym z)

  pub merges_next : (act : Act) (emitted : Bool) (new old : List ℕ) →
      as_action rules (base + 8 * t.sample) (front_cell f a) (front_cell f b) (front_cell f c) (Some act) ≡ asked rules (base + 8 * t.sample) (front_cell f a) (front_cell f b) (front_cell f c) →
      Suits (act_pass rules (base + 8 * t.sample) act) (pick act.head (front_cell f a) (front_cell f b) (front_cell f c)) → emitted ≡ is_some (act_pass rules (base + 8 * t.sample) act) →
      take (t.pushed * width f) new ≡ take (t.pushed * width f) old → Puts f (t.pushed * width f) (emitted_of (act_pass rules (base + 8 * t.sample) act) (pick act.head (front_cell f a) (front_cell f b) (front_cell f c))) new →
      Merges f rules base windows lasts old t → Merges f rules base windows lasts new (taken_with act.head emitted t)
  merges_next act emitted new old asked-so suits there stays puts m own incoming keys p so si sk e =
      let cell : Option Cell = emitted_of (act_pass rules (base + 8 * t.sample) act) (pick act.head (front_cell f a) (front_cell f b) (front_cell f c)) in
      ap (λ (n : ℕ). steps key_cmp (part_of rules) own incoming keys n p) (one_consumed act.head emitted t)
      ∙ steps-last key_cmp (part_of rules) own incoming keys (consumed t) p
      ∙ ap (step key_cmp (part_of rules) own incoming keys) (m own incoming keys p so si sk e)
      ∙ step_is own incoming keys p old so si sk e
      ∙ ap (λ (x : Action (List ℕ) Stamped). after x (behind f p t old)) (sym asked-so)
      ∙ behind_next f p t act.head emitted (option_map as_cell cell) new old
      (cells_after f t.pushed cell emitted new old (there ∙ emitted_there (act_pass rules (base + 8 * t.sample) act) (pick act.head (front_cell f a) (front_cell f b) (front_cell f c)) suits) stays puts)

-- ---- sums

pub next_place : (n w : ℕ) → (n + 1) * w ≡ n * w + w
next_place n w = ap (λ (k : ℕ). k * w) (let e : n + 1 ≡ suc n = omega arith in e) ∙ suc-mul n w

pub wide : (f : Format) → 64 ≤ width f
wide One = omega arith
wide Two = omega arith

within_next : (n w len left : ℕ) → left ≡ len - n * w → n * w ≤ len → w ≤ left → (n + 1) * w ≤ len
within_next n w len left e h k = let z = next_place n w in omega (arith, e, h, k, z)

sample_next : (n w len left : ℕ) → 1 ≤ w → left ≡ len - n * (8 * w) → w ≤ left → (n + 1) * (8 * w) ≤ len + 7 * w
sample_next n w len left p e k = let z : (n + 1) * (8 * w) ≡ n * (8 * w) + 8 * w = next_place n (8 * w) in omega (arith, e, k, z, p)

left_length : (k : ℕ) (left window : List ℕ) → left ≡ drop k window → length left ≡ length window - k
left_length k left window e = ap length e ∙ length-drop k window

pub spells_of : (f : Format) (c : Cell) (bytes : List ℕ) → IsSpelling f c bytes → Spells f bytes
spells_of f c bytes s = subst (λ (x : Cell). IsSpelling f x bytes) (sym (standing-is f c bytes s)) s

put_there : (f : Format) (at : ℕ) (cell : Option Cell) (room : List ℕ) → is_some cell ≡ true → Puts f at cell room → Spells f (take (width f) (drop at room))
put_there f at None room e q = absurd (true≢false (sym e))
put_there f at (Some c) room e q = spells_of f c (take (width f) (drop at room)) q

spelled_next : (f : Format) (n : ℕ) (b : Bool) (new old : List ℕ) → take (n * width f) new ≡ take (n * width f) old → (b ≡ true → Spells f (take (width f) (drop (n * width f) new))) →
    ((k : ℕ) → k < n → Spells f (take (width f) (drop (k * width f) old))) → (k : ℕ) → k < more b n → Spells f (take (width f) (drop (k * width f) new))
spelled_next f n b new old s last h k l = elim (leb_tells (k + 1) n) [
  | inl d ↦ subst (Spells f) (sym (part_stays (k * width f) (n * width f - k * width f) (n * width f) (width f) new old (place k n (below d.1)) (room k n (below d.1)) s)) (h k (below d.1))
  | inr d ↦ at_end b l last (let e : n ≤ k = omega (arith, d.1) in e)
]
  where
    below : k + 1 ≤ n → k < n
    below d = omega (arith, d)

    apart : (k n : ℕ) → k < n → (more : ℕ) × (n * width f ≡ k * width f + width f + more)
    apart k n d = let e : n ≡ (k + 1) + (n - (k + 1)) = omega (arith, d) in
        ((n - (k + 1)) * width f, ap (λ (x : ℕ). x * width f) e ∙ add-mul (k + 1) (n - (k + 1)) (width f) ∙ ap (λ (x : ℕ). x + (n - (k + 1)) * width f) (next_place k (width f)))

    place : (k n : ℕ) → k < n → n * width f ≡ k * width f + (n * width f - k * width f)
    place k n d = let e = (apart k n d).1 in omega (arith, e)

    room : (k n : ℕ) → k < n → width f ≤ n * width f - k * width f
    room k n d = let e = (apart k n d).1 in omega (arith, e)

    at_end : (b : Bool) → k < more b n → (b ≡ true → Spells f (take (width f) (drop (n * width f) new))) → n ≤ k → Spells f (take (width f) (drop (k * width f) new))
    at_end true l last d = subst (λ (x : ℕ). Spells f (take (width f) (drop (x * width f) new))) (let e : n ≡ k = omega (arith, l, d) in e) (last refl)
    at_end false l last d = absurd (omega (arith, l, d))

fits_next : (f : Format) (n len : ℕ) (b : Bool) → n * width f ≤ len → n * width f + width f ≤ len → more b n * width f ≤ len
fits_next f n len true h k = let z = next_place n (width f) in omega (arith, k, z)
fits_next f n len false h k = h

-- ---- the whole, one step further

pub record Lefts (f : Format) (windows : Bytes) (t : Taken) (a b c : List ℕ) : Type 0 where
  pub own_is : a ≡ drop (t.own * width f) windows.own
  pub incoming_is : b ≡ drop (t.incoming * width f) windows.incoming
  pub sample_is : c ≡ drop (t.sample * (8 * width f)) windows.sample

pub lefts_next : (f : Format) (windows : Bytes) (lasts : Lasts) (t : Taken) (a b c x y z : List ℕ) (head : Reader) (emitted : Bool) → Fronts f windows lasts t a b c →
    x ≡ moved f head Own a → y ≡ moved f head Incoming b → z ≡ moved f head Sample c → Lefts f windows (taken_with head emitted t) x y z
lefts_next f windows lasts t a b c x y z head emitted h e g k = record { own_is = own head e; incoming_is = incoming head g; sample_is = sample head k }
  where
    moved_on : (n w : ℕ) (left window : List ℕ) → left ≡ drop (n * w) window → drop w left ≡ drop ((n + 1) * w) window
    moved_on n w left window i = ap (drop w) i ∙ drop-drop w (n * w) window ∙ ap (λ (m : ℕ). drop m window) (sym (next_place n w))

    own : (head : Reader) → x ≡ moved f head Own a → x ≡ drop ((taken_with head emitted t).own * width f) windows.own
    own Own e = e ∙ moved_on t.own (width f) a windows.own h.own_is
    own Incoming e = e ∙ h.own_is
    own Sample e = e ∙ h.own_is

    incoming : (head : Reader) → y ≡ moved f head Incoming b → y ≡ drop ((taken_with head emitted t).incoming * width f) windows.incoming
    incoming Own e = e ∙ h.incoming_is
    incoming Incoming e = e ∙ moved_on t.incoming (width f) b windows.incoming h.incoming_is
    incoming Sample e = e ∙ h.incoming_is

    sample : (head : Reader) → z ≡ moved f head Sample c → z ≡ drop ((taken_with head emitted t).sample * (8 * width f)) windows.sample
    sample Own e = e ∙ h.sample_is
    sample Incoming e = e ∙ h.sample_is
    sample Sample e = e ∙ moved_on t.sample (8 * width f) c windows.sample h.sample_is

pub fronts_next : (f : Format) (windows : Bytes) (lasts : Lasts) (t : Taken) (a b c x y z : List ℕ) (head : Reader) (emitted : Bool) → Fronts f windows lasts t a b c →
    x ≡ moved f head Own a → y ≡ moved f head Incoming b → z ≡ moved f head Sample c → Known f (last_of head lasts) (window_of head x y z) → Fronts f windows lasts (taken_with head emitted t) x y z
fronts_next f windows lasts t a b c x y z head emitted h e g k known =
    let l = lefts_next f windows lasts t a b c x y z head emitted h e g k in
    record {
      own_is = l.own_is;
      incoming_is = l.incoming_is;
      sample_is = l.sample_is;
      own_known = known_after f head Own lasts a b c x y z e g k known h.own_known;
      incoming_known = known_after f head Incoming lasts a b c x y z e g k known h.incoming_known;
      sample_known = known_after f head Sample lasts a b c x y z e g k known h.sample_known;
    }

module _ (f : Format) (rules : Rules) (base : ℕ) (windows : Bytes) (lasts : Lasts) (a b c : List ℕ) (t : Taken) (h : Fronts f windows lasts t a b c) where
  pub merged_next : (act : Act) (emitted : Bool) (new old : List ℕ) →
      as_action rules (base + 8 * t.sample) (front_cell f a) (front_cell f b) (front_cell f c) (Some act) ≡ asked rules (base + 8 * t.sample) (front_cell f a) (front_cell f b) (front_cell f c) →
      Suits (act_pass rules (base + 8 * t.sample) act) (pick act.head (front_cell f a) (front_cell f b) (front_cell f c)) → emitted ≡ is_some (act_pass rules (base + 8 * t.sample) act) →
      take (t.pushed * width f) new ≡ take (t.pushed * width f) old → Puts f (t.pushed * width f) (emitted_of (act_pass rules (base + 8 * t.sample) act) (pick act.head (front_cell f a) (front_cell f b) (front_cell f c))) new →
      length new ≡ length old → t.pushed * width f + width f ≤ length old →
      Merged f rules base windows lasts old t → Merged f rules base windows lasts new (taken_with act.head emitted t)
  merged_next act emitted new old asked-so suits there stays puts size place m = record {
    own_within = own act.head long;
    incoming_within = incoming act.head long;
    sample_within = sample act.head long;
    emits = (let e = one_consumed act.head emitted t in let p = pushed_with act.head emitted t in let q = more-le emitted t.pushed in omega (arith, e, p, q, m.emits));
    samples = samples act.head taken;
    fits = subst (λ (n : ℕ). n * width f ≤ length new) (sym (pushed_with act.head emitted t)) (subst (λ (n : ℕ). more emitted t.pushed * width f ≤ n) (sym size) (fits_next f t.pushed (length old) emitted m.fits place));
    spelled = λ k l. spelled_next f t.pushed emitted new old stays put m.spelled k (subst (λ (n : ℕ). k < n) (pushed_with act.head emitted t) l);
    merges = merges_next f rules base windows lasts a b c t h act emitted new old asked-so suits there stays puts m.merges;
  }
    where
      cell : Option Cell
      cell = emitted_of (act_pass rules (base + 8 * t.sample) act) (pick act.head (front_cell f a) (front_cell f b) (front_cell f c))

      is_put : emitted ≡ is_some cell
      is_put = there ∙ emitted_there (act_pass rules (base + 8 * t.sample) act) (pick act.head (front_cell f a) (front_cell f b) (front_cell f c)) suits

      put : emitted ≡ true → Spells f (take (width f) (drop (t.pushed * width f) new))
      put e = put_there f (t.pushed * width f) cell new (sym is_put ∙ e) puts

      long : width f ≤ length (window_of act.head a b c)
      long = (suits_picked f (act_pass rules (base + 8 * t.sample) act) act.head a b c suits).0

      own : (head : Reader) → width f ≤ length (window_of head a b c) → (taken_with head emitted t).own * width f ≤ length windows.own
      own Own l = within_next t.own (width f) (length windows.own) (length a) (left_length (t.own * width f) a windows.own h.own_is) m.own_within l
      own Incoming l = m.own_within
      own Sample l = m.own_within

      incoming : (head : Reader) → width f ≤ length (window_of head a b c) → (taken_with head emitted t).incoming * width f ≤ length windows.incoming
      incoming Own l = m.incoming_within
      incoming Incoming l = within_next t.incoming (width f) (length windows.incoming) (length b) (left_length (t.incoming * width f) b windows.incoming h.incoming_is) m.incoming_within l
      incoming Sample l = m.incoming_within

      sample : (head : Reader) → width f ≤ length (window_of head a b c) → (taken_with head emitted t).sample * (8 * width f) ≤ length windows.sample + 7 * width f
      sample Own l = m.sample_within
      sample Incoming l = m.sample_within
      sample Sample l = sample_next t.sample (width f) (length windows.sample) (length c) (let w = wide f in omega (arith, w)) (left_length (t.sample * (8 * width f)) c windows.sample h.sample_is) l

      taken : IsTaken (option_map as_cell (front_cell f a)) (option_map as_cell (front_cell f b)) (option_map key_of (front_cell f c)) (Take (as_head act.head) (option_map as_cell cell))
      taken = subst (IsTaken (option_map as_cell (front_cell f a)) (option_map as_cell (front_cell f b)) (option_map key_of (front_cell f c))) (sym asked-so)
          (rule_taken key_cmp (part_of rules) (base + 8 * t.sample) (option_map as_cell (front_cell f a)) (option_map as_cell (front_cell f b)) (option_map key_of (front_cell f c)))

      some_of : (o : Option Cell) → IsSome (option_map as_cell o) → is_some o ≡ true
      some_of None e = absurd (true≢false (sym e))
      some_of (Some d) e = refl

      more_true : (b : Bool) (n : ℕ) → b ≡ true → more b n ≡ n + 1
      more_true b n e = rw e refl

      more_least : (b : Bool) (n : ℕ) → n ≤ more b n
      more_least true n = omega arith
      more_least false n = omega arith

      samples : (head : Reader) → IsTaken (option_map as_cell (front_cell f a)) (option_map as_cell (front_cell f b)) (option_map key_of (front_cell f c)) (Take (as_head head) (option_map as_cell cell)) →
          (taken_with head emitted t).sample ≤ (taken_with head emitted t).pushed
      samples Own q = let l = more_least emitted t.pushed in omega (arith, l, m.samples)
      samples Incoming q = let l = more_least emitted t.pushed in omega (arith, l, m.samples)
      samples Sample q = let l = more_true emitted t.pushed (is_put ∙ some_of cell q.1) in omega (arith, l, m.samples)

-- ---- none taken

pub none_taken : Taken
none_taken = record { own = 0; incoming = 0; sample = 0; pushed = 0 }

pub merged_none : (f : Format) (rules : Rules) (base : ℕ) (windows : Bytes) (lasts : Lasts) (room : List ℕ) → Merged f rules base windows lasts room (record { own = 0; incoming = 0; sample = 0; pushed = 0 })
merged_none f rules base windows lasts room = record {
  own_within = omega arith;
  incoming_within = omega arith;
  sample_within = omega arith;
  emits = omega arith;
  samples = omega arith;
  fits = omega arith;
  spelled = λ k l. absurd (omega (arith, l));
  merges = λ own incoming keys p so si sk e. begun p;
}
  where
    none : (n : ℕ) → n ≡ n + 0
    none n = omega arith

    begun : (p : Build (List ℕ) Stamped) → p ≡ behind f p (record { own = 0; incoming = 0; sample = 0; pushed = 0 }) room
    begun p =
        ap (λ (n : ℕ). record { own = n; incoming = p.incoming; sampled = p.sampled; done = p.done }) (none p.own)
        ∙ ap (λ (n : ℕ). record { own = p.own + 0; incoming = n; sampled = p.sampled; done = p.done }) (none p.incoming)
        ∙ ap (λ (n : ℕ). record { own = p.own + 0; incoming = p.incoming + 0; sampled = n; done = p.done }) (none p.sampled)
        ∙ ap (λ (l : List LawCell). record { own = p.own + 0; incoming = p.incoming + 0; sampled = p.sampled + 0; done = l }) (sym (append-nil p.done))

begin_of : (w : ℕ) (window : List ℕ) → window ≡ drop (0 * w) window
begin_of w window = ap (λ (n : ℕ). drop n window) (let z : 0 ≡ 0 * w = omega arith in z)

pub lefts_none : (f : Format) (windows : Bytes) → Lefts f windows (record { own = 0; incoming = 0; sample = 0; pushed = 0 }) windows.own windows.incoming windows.sample
lefts_none f windows = record { own_is = begin_of (width f) windows.own; incoming_is = begin_of (width f) windows.incoming; sample_is = begin_of (8 * width f) windows.sample }

pub fronts_none : (f : Format) (windows : Bytes) (lasts : Lasts) → Known f lasts.own windows.own → Known f lasts.incoming windows.incoming → Known f lasts.sample windows.sample →
    Fronts f windows lasts (record { own = 0; incoming = 0; sample = 0; pushed = 0 }) windows.own windows.incoming windows.sample
fronts_none f windows lasts a b c = record {
  own_is = begin_of (width f) windows.own;
  incoming_is = begin_of (width f) windows.incoming;
  sample_is = begin_of (8 * width f) windows.sample;
  own_known = a;
  incoming_known = b;
  sample_known = c;
}
