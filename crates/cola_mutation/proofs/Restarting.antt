-- Flips and ends of windows, one level after another.
use Rattle.std.proofs.Common.{◌≡◌, ◌≢◌, ◌⊎◌, inl, inr, ℕ, zero, suc, ◌+◌, ◌-◌, ◌*◌, ◌^◌, ◌<◌, ◌≤◌, Bool, true, false, ◌&&◌, not, cond, List, [], ◌∷◌, refl, ap, sym, subst, ◌∙◌, arith, IsTrue}
use Rattle.std.proofs.lemmas.Bool.{true≢false}
use Rattle.std.proofs.lemmas.Bool.Decides.{eqb_tells, leb_tells}
use Rattle.cola_clock.specs.Clock.{flips, ends, period, is_odd, visible_slot}
use Rattle.cola_clock.proofs.Laws.{flips-zero, flips-suc, ends-flips}
use Rattle.cola_cell.specs.declared.sink.Shadow.{Shadow}
use Rattle.cola_cell.specs.Held.{Held, Fixed}
use Rattle.cola_cell.specs.Places.{slot_size}
use Rattle.cola_cell.specs.Shadows.{emptied, IsKept, Restarts}
use Rattle.cola_level.specs.declared.level.Level.{Level}
use Rattle.cola_level.specs.Marks.{out_of_window, flipped}
use Rattle.cola_mutation.specs.Ends.{ended, all_ended, IsStaying, Restarted}

-- ---- one level

pub ended_flips : (t j : ℕ) (l : Level) → flips t j ≡ true → ended t j l ≡ flipped l
ended_flips t j l f = ap (λ (b : Bool). cond b (flipped l) (cond (ends t j) (out_of_window l) l)) f

pub ended_leaves : (t j : ℕ) (l : Level) → flips t j ≡ false → ends t j ≡ true → ended t j l ≡ out_of_window l
ended_leaves t j l f e =
    ap (λ (b : Bool). cond b (flipped l) (cond (ends t j) (out_of_window l) l)) f ∙ ap (λ (b : Bool). cond b (out_of_window l) l) e

pub ended_stays : (t j : ℕ) (l : Level) → flips t j ≡ false → ends t j ≡ false → ended t j l ≡ l
ended_stays t j l f e =
    ap (λ (b : Bool). cond b (flipped l) (cond (ends t j) (out_of_window l) l)) f ∙ ap (λ (b : Bool). cond b (out_of_window l) l) e

-- a window ends where the level above flips and the level does not
pub ends_where : (t i : ℕ) (above : Bool) → flips t (suc i) ≡ false → flips t i ≡ above → ends t (suc i) ≡ above
ends_where t i true f e = ends-flips t i ∙ ap (λ (b : Bool). b && not (flips t (suc i))) e ∙ ap (λ (b : Bool). not b) f
ends_where t i false f e = ends-flips t i ∙ ap (λ (b : Bool). b && not (flips t (suc i))) e

before : (n : ℕ) → n ≢ 0 → suc (n - 1) ≡ n
before n d = omega (arith, d)

pub ends_at : (t n : ℕ) (above : Bool) → n ≢ 0 → flips t n ≡ false → flips t (n - 1) ≡ above → ends t n ≡ above
ends_at t n above d f e =
    subst (λ (x : ℕ). ends t x ≡ above) (before n d) (ends_where t (n - 1) above (ap (λ (x : ℕ). flips t x) (before n d) ∙ f) e)

pub zero_flips : (t j : ℕ) → j ≡ 0 → flips t j ≡ false → ⊥
zero_flips t j e f = true≢false (sym (flips-zero t) ∙ ap (λ (n : ℕ). flips t n) (sym e) ∙ f)

staying_apart : (t j l : ℕ) → flips t j ≡ true → IsStaying t j 1 l → l ≢ j
staying_apart t j l f (inl h) = λ e. let x : l ≡ j = e in omega (arith, x, h)
staying_apart t j l f (inr (inl h)) = λ e. let x : l ≡ j = e in omega (arith, x, h)
staying_apart t j l f (inr (inr g)) = λ e. true≢false (sym f ∙ ap (λ (n : ℕ). flips t n) (sym e) ∙ g)

only_one : (j l : ℕ) → j ≤ l → l < j + 1 → l ≡ j
only_one j l lo hi = omega (arith, lo, hi)

spots_one : {a b : Held} (t j l s k : ℕ) → flips t j ≡ true → Restarts a b j (visible_slot t j) → IsStaying t j 1 l ⊎ ((s ≢ (a.shadows l).slot) ⊎ IsKept a l) → b.spots l s k ≡ a.spots l s k
spots_one t j l s k f r (inl h) = r.others_stay l s k (inl (staying_apart t j l f h))
spots_one {a} {b} t j l s k f r (inr (inl d)) = elim (eqb_tells l j) [
  | inl e ↦ r.others_stay l s k (inr (inl (λ g. d (g ∙ ap (λ (n : ℕ). (a.shadows n).slot) (sym e.1)))))
  | inr e ↦ r.others_stay l s k (inl e.1)
]
spots_one {a} {b} t j l s k f r (inr (inr h)) = elim (eqb_tells l j) [
  | inl e ↦ r.kept_stay (subst (λ (n : ℕ). IsKept a n) e.1 h) l s k
  | inr e ↦ r.others_stay l s k (inl e.1)
]

pub restarted_one : {a b : Held} (t j : ℕ) → flips t j ≡ true → Restarts a b j (visible_slot t j) → Restarted t j 1 a b
restarted_one {a} {b} t j f r = record {
  fixed_is = r.around.fixed_is;
  telling_is = r.around.telling_is;
  flipped = λ l lo hi _. subst (λ (n : ℕ). b.shadows n ≡ emptied (visible_slot t n)) (sym (only_one j l lo hi)) r.shadow_is;
  others_stay = λ l h. r.around.shadows_stay l (staying_apart t j l f h);
  spots_stay = λ l s k h. spots_one t j l s k f r h;
}

-- where none of these levels flips
pub restarted_still : (held : Held) (t j n : ℕ) → ((l : ℕ) → j ≤ l → l < j + n → flips t l ≡ false) → Restarted t j n held held
restarted_still held t j n f = record {
  fixed_is = refl;
  telling_is = λ l s k. refl;
  flipped = λ l lo hi g. absurd (true≢false (sym g ∙ f l lo hi));
  others_stay = λ l h. refl;
  spots_stay = λ l s k h. refl;
}

pub restarted_not : (held : Held) (t j : ℕ) → flips t j ≡ false → Restarted t j 1 held held
restarted_not held t j f = restarted_still held t j 1 (λ l lo hi. ap (λ (n : ℕ). flips t n) (only_one j l lo hi) ∙ f)

-- ---- all levels

pub restarted_none : (held : Held) (t j : ℕ) → Restarted t j 0 held held
restarted_none held t j = restarted_still held t j 0 (λ l lo hi. absurd (omega (arith, lo, hi)))

staying_first : (t j n l : ℕ) → IsStaying t j (suc n) l → IsStaying t j 1 l
staying_first t j n l (inl h) = inl h
staying_first t j n l (inr (inl h)) = inr (inl (omega (arith, h)))
staying_first t j n l (inr (inr f)) = inr (inr f)

staying_rest : (t j n l : ℕ) → IsStaying t j (suc n) l → IsStaying t (suc j) n l
staying_rest t j n l (inl h) = inl (omega (arith, h))
staying_rest t j n l (inr (inl h)) = inr (inl (omega (arith, h)))
staying_rest t j n l (inr (inr f)) = inr (inr f)

less_or : (j l : ℕ) → l ≢ j → (l < j) ⊎ (j + 1 ≤ l)
less_or j l d = elim (leb_tells (j + 1) l) [ inl e ↦ inr e.1 | inr e ↦ inl (let h = e.1 in omega (arith, h, d)) ]

sides : (t j l : ℕ) → (l < j) ⊎ (j + 1 ≤ l) → IsStaying t j 1 l
sides t j l (inl h) = inl h
sides t j l (inr h) = inr (inl h)

-- a level beside the first has the shadow that it had
beside_first : {a b : Held} (t j l : ℕ) → Restarted t j 1 a b → l ≢ j → b.shadows l ≡ a.shadows l
beside_first t j l g d = g.others_stay l (sides t j l (less_or j l d))

kept_same : {a b : Held} (l : ℕ) → b.fixed ≡ a.fixed → b.shadows l ≡ a.shadows l → IsKept a l → IsKept b l
kept_same {a} {b} l x e h = record { is = both h.is }
  where
    both : (IsTrue (a.shadows l).saved) ⊎ (slot_size l < 8 * 2 ^ a.fixed.doublings) → (IsTrue (b.shadows l).saved) ⊎ (slot_size l < 8 * 2 ^ b.fixed.doublings)
    both (inl k) = inl (subst (λ (s : Shadow). IsTrue s.saved) (sym e) k)
    both (inr k) = inr (subst (λ (y : Fixed). slot_size l < 8 * 2 ^ y.doublings) (sym x) k)

later_spots : {a b : Held} (t j n l s : ℕ) → Restarted t j 1 a b → IsStaying t j (suc n) l ⊎ ((s ≢ (a.shadows l).slot) ⊎ IsKept a l) → IsStaying t (suc j) n l ⊎ ((s ≢ (b.shadows l).slot) ⊎ IsKept b l)
later_spots t j n l s g (inl h) = inl (staying_rest t j n l h)
later_spots {a} {b} t j n l s g (inr (inl d)) = elim (eqb_tells l j) [
  | inl e ↦ inl (inl (let x = e.1 in omega (arith, x)))
  | inr e ↦ inr (inl (λ f. d (f ∙ ap (λ (x : Shadow). x.slot) (beside_first t j l g e.1))))
]
later_spots {a} {b} t j n l s g (inr (inr h)) = elim (eqb_tells l j) [
  | inl e ↦ inl (inl (let x = e.1 in omega (arith, x)))
  | inr e ↦ inr (inr (kept_same l g.fixed_is (beside_first t j l g e.1) h))
]

first_spots : {a : Held} (t j n l s : ℕ) → IsStaying t j (suc n) l ⊎ ((s ≢ (a.shadows l).slot) ⊎ IsKept a l) → IsStaying t j 1 l ⊎ ((s ≢ (a.shadows l).slot) ⊎ IsKept a l)
first_spots t j n l s (inl h) = inl (staying_first t j n l h)
first_spots t j n l s (inr d) = inr d

flipped_then : {a b c : Held} (t j n l : ℕ) → Restarted t j 1 a b → Restarted t (suc j) n b c → j ≤ l → l < j + suc n → flips t l ≡ true → c.shadows l ≡ emptied (visible_slot t l)
flipped_then {a} {b} {c} t j n l g h lo hi f = elim (eqb_tells l j) [
  | inl e ↦ h.others_stay l (inl (let x = e.1 in omega (arith, x))) ∙ g.flipped l lo (let x = e.1 in omega (arith, x)) f
  | inr e ↦ h.flipped l (let d = e.1 in omega (arith, d, lo)) (omega (arith, hi)) f
]

pub restarted_then : {a b c : Held} (t j n : ℕ) → Restarted t j 1 a b → Restarted t (suc j) n b c → Restarted t j (suc n) a c
restarted_then {a} {b} {c} t j n g h = record {
  fixed_is = h.fixed_is ∙ g.fixed_is;
  telling_is = λ l s k. h.telling_is l s k ∙ g.telling_is l s k;
  flipped = λ l lo hi f. flipped_then t j n l g h lo hi f;
  others_stay = λ l k. h.others_stay l (staying_rest t j n l k) ∙ g.others_stay l (staying_first t j n l k);
  spots_stay = λ l s k d. h.spots_stay l s k (later_spots t j n l s g d) ∙ g.spots_stay l s k (first_spots t j n l s d);
}

-- ---- behind a level that does not flip

next_stays : (t j : ℕ) → flips t j ≡ false → flips t (suc j) ≡ false
next_stays t j f = flips-suc t j ∙ ap (λ (b : Bool). b && is_odd (period t j)) f

stays_by : (t j k l : ℕ) → flips t j ≡ false → l ≡ k + j → flips t l ≡ false
stays_by t j zero l f e = ap (λ (n : ℕ). flips t n) (let x : l ≡ j = omega (arith, e) in x) ∙ f
stays_by t j (suc k) l f e = ap (λ (n : ℕ). flips t n) (let x : l ≡ suc (k + j) = omega (arith, e) in x) ∙ next_stays t (k + j) (stays_by t j k (k + j) f refl)

stays_behind : (t j l : ℕ) → flips t j ≡ false → j ≤ l → flips t l ≡ false
stays_behind t j l f h = stays_by t j (l - j) l f (omega (arith, h))

pub none_ended : (t j : ℕ) (ls : List Level) → flips t j ≡ false → all_ended t (suc j) ls ≡ ls
none_ended t j [] f = refl
none_ended t j (l ∷ ls) f =
    let g = next_stays t j f in
    ap (λ (x : Level). x ∷ all_ended t (suc (suc j)) ls) (ended_stays t (suc j) l g (ends_where t j false g f))
    ∙ ap (λ (xs : List Level). l ∷ xs) (none_ended t (suc j) ls g)

pub restarted_alone : {a b : Held} (t j n : ℕ) → flips t j ≡ false → Restarted t j 1 a b → Restarted t j (suc n) a b
restarted_alone {a} {b} t j n f r = restarted_then t j n r (restarted_still b t (suc j) n (λ l lo hi. stays_behind t j l f (omega (arith, lo))))
