-- Runs that stay told, and alike, while a mutation builds level 0 and ends.
use Rattle.std.proofs.Common.{◌≡◌, ◌≢◌, inl, inr, ℕ, suc, ◌+◌, ◌-◌, ◌<◌, ◌≤◌, Bool, true, false, cond, List, [], ◌∷◌, length, refl, ap, sym, subst, ◌∙◌, arith}
use Rattle.std.proofs.lemmas.Bool.Decides.{eqb_tells}
use Rattle.cola_clock.specs.Clock.{flips, ends, visible_slot, SameSchedule}
use Rattle.cola_clock.specs.Marks.{Marks, marks_after, all_marks_after}
use Rattle.cola_clock.proofs.Wrap.{slot-stays, slot-turns}
use Rattle.cola_cell.specs.Held.{Held, Spot, Spots}
use Rattle.cola_cell.specs.Shadows.{IsKept}
use Rattle.cola_cell.specs.ToldCells.{AreTold}
use Rattle.cola_image.specs.Standing.{AreRunsTold, AreRunsAlike}
use Rattle.cola_merge.specs.States.{Grows}
use Rattle.cola_level.specs.declared.level.Level.{Level}
use Rattle.cola_mutation.specs.Levels.{AreFit}
use Rattle.cola_mutation.specs.Ends.{Restarted}
use Rattle.cola_mutation.specs.Work.{Keeps}
use Rattle.cola_mutation.proofs.Advancing.{visible_apart}

-- ---- alike

pub alike_then : (a b c : Spots) (t j : ℕ) (ms : List Marks) → AreRunsAlike a b t j ms → AreRunsAlike b c t j ms → AreRunsAlike a c t j ms
alike_then a b c t j [] h k = tt
alike_then a b c t j (m ∷ ms) h k = (λ i l. k.0 i l ∙ h.0 i l, λ i l. k.1 i l ∙ h.1 i l, alike_then a b c t (suc j) ms h.2 k.2)

-- the build of level 0 leaves the other levels
pub alike_grown : {a b : Held} (t j : ℕ) (ms : List Marks) → Grows a b 0 → AreRunsAlike a.spots b.spots t (suc j) ms
alike_grown t j [] g = tt
alike_grown t j (m ∷ ms) g =
    let d : suc j ≢ 0 = λ e. let x : suc j ≡ 0 = e in omega (arith, x) in
    (λ i l. g.others_stay (suc j) (visible_slot t (suc j)) i (inl d), λ i l. g.others_stay (suc j) (1 - visible_slot t (suc j)) i (inl d), alike_grown t (suc j) ms g)

-- levels that keep
pub alike_kept : {Q : ℕ → Type 0} {a b : Held} (t j : ℕ) (ms : List Marks) → Keeps Q a b → ((l : ℕ) → j ≤ l → Q l) → AreRunsAlike a.spots b.spots t j ms
alike_kept t j [] k q = tt
alike_kept t j (m ∷ ms) k q = (
  λ i l. k.spots_stay j (visible_slot t j) i (inl (q j (omega arith))),
  λ i l. k.spots_stay j (1 - visible_slot t j) i (inl (q j (omega arith))),
  alike_kept t (suc j) ms k (λ l h. q l (omega (arith, h))),
)

given_up : {a b : Held} (t n j i : ℕ) (c : Bool) → flips t j ≡ c → Restarted t 0 n a b → (flips t j ≡ true → IsKept a j) → b.spots j (1 - visible_slot t j) i ≡ a.spots j (1 - visible_slot t j) i
given_up t n j i true f r kept = r.spots_stay j (1 - visible_slot t j) i (inr (inr (kept f)))
given_up t n j i false f r kept = r.spots_stay j (1 - visible_slot t j) i (inl (inr (inr f)))

-- the end of a mutation leaves visible runs, and the shadows that were kept
pub alike_restarted : {a b : Held} (t n j : ℕ) (ms : List Marks) → Restarted t 0 n a b → ((l : ℕ) → j ≤ l → l < j + length ms → (a.shadows l).slot ≡ 1 - visible_slot t l) →
    ((l : ℕ) → j ≤ l → l < j + length ms → flips t l ≡ true → IsKept a l) → AreRunsAlike a.spots b.spots t j ms
alike_restarted t n j [] r slots kept = tt
alike_restarted {a} {b} t n j (m ∷ ms) r slots kept = (
  λ i l. r.spots_stay j (visible_slot t j) i (inr (inl (visible_apart t j (a.shadows j).slot (slots j (omega arith) (omega arith))))),
  λ i l. given_up t n j i (flips t j) refl r (kept j (omega arith) (omega arith)),
  alike_restarted t n (suc j) ms r (λ l lo hi. slots l (omega (arith, lo)) (omega (arith, hi))) (λ l lo hi. kept l (omega (arith, lo)) (omega (arith, hi))),
)

-- ---- slots

pub slots_of : (held : Held) (t i above : ℕ) (ls : List Level) → AreFit held t i above ls → (l : ℕ) → i < l → l ≤ i + length ls → (held.shadows l).slot ≡ 1 - visible_slot t l
slots_of held t i above [] f l lo hi = absurd (omega (arith, lo, hi))
slots_of held t i above (x ∷ ls) f l lo hi = elim (eqb_tells l (suc i)) [
  | inl e ↦ subst (λ (n : ℕ). (held.shadows n).slot ≡ 1 - visible_slot t n) (sym e.1) f.0.slot_is
  | inr e ↦ slots_of held t (suc i) x.visible ls f.1 l (let d = e.1 in omega (arith, d, lo)) (omega (arith, hi))
]

-- ---- told at the next clock

pub nothing_told : (f : ℕ → Spot) (n : ℕ) → n ≡ 0 → AreTold f n
nothing_told f n e i h = absurd (let x = e in omega (arith, x, h))

told_level : (spots : Spots) (t j : ℕ) (c : Bool) → flips t j ≡ c → (m : Marks) → AreTold (spots j (visible_slot t j)) m.visible → AreTold (spots j (1 - visible_slot t j)) m.shadow →
    AreTold (spots j (visible_slot (suc t) j)) (marks_after t j m).visible × AreTold (spots j (1 - visible_slot (suc t) j)) (marks_after t j m).shadow
told_level spots t j true f m v w =
    let turned : marks_after t j m ≡ record { visible = m.shadow; shadow = 0; own = m.own; incoming = m.incoming; sampled = m.sampled } =
    ap (λ (b : Bool). cond b (record { visible = m.shadow; shadow = 0; own = m.own; incoming = m.incoming; sampled = m.sampled }) (cond (ends t j) (record { visible = m.visible; shadow = m.shadow; own = 0; incoming = 0; sampled = 0 }) m)) f in (
      subst (λ (x : Marks). AreTold (spots j (visible_slot (suc t) j)) x.visible) (sym turned) (subst (λ (s : ℕ). AreTold (spots j s) m.shadow) (sym (slot-turns t j f)) w),
      nothing_told (spots j (1 - visible_slot (suc t) j)) (marks_after t j m).shadow (ap (λ (x : Marks). x.shadow) turned),
    )
told_level spots t j false f m v w =
    let stays : marks_after t j m ≡ cond (ends t j) (record { visible = m.visible; shadow = m.shadow; own = 0; incoming = 0; sampled = 0 }) m =
    ap (λ (b : Bool). cond b (record { visible = m.shadow; shadow = 0; own = m.own; incoming = m.incoming; sampled = m.sampled }) (cond (ends t j) (record { visible = m.visible; shadow = m.shadow; own = 0; incoming = 0; sampled = 0 }) m)) f in (
      subst (λ (n : ℕ). AreTold (spots j (visible_slot (suc t) j)) n) (sym (ap (λ (x : Marks). x.visible) stays ∙ same_visible (ends t j))) (subst (λ (s : ℕ). AreTold (spots j s) m.visible) (sym (slot-stays t j f)) v),
      subst (λ (n : ℕ). AreTold (spots j (1 - visible_slot (suc t) j)) n) (sym (ap (λ (x : Marks). x.shadow) stays ∙ same_shadow (ends t j))) (subst (λ (s : ℕ). AreTold (spots j (1 - s)) m.shadow) (sym (slot-stays t j f)) w),
    )
  where
    same_visible : (b : Bool) → (cond b (record { visible = m.visible; shadow = m.shadow; own = 0; incoming = 0; sampled = 0 }) m).visible ≡ m.visible
    same_visible true = refl
    same_visible false = refl

    same_shadow : (b : Bool) → (cond b (record { visible = m.visible; shadow = m.shadow; own = 0; incoming = 0; sampled = 0 }) m).shadow ≡ m.shadow
    same_shadow true = refl
    same_shadow false = refl

pub told_next : (spots : Spots) (t j : ℕ) (ms : List Marks) → AreRunsTold spots t j ms → AreRunsTold spots (suc t) j (all_marks_after t j ms)
told_next spots t j [] h = tt
told_next spots t j (m ∷ ms) h =
    let both = told_level spots t j (flips t j) refl m h.0 h.1 in
    (both.0, both.1, told_next spots t (suc j) ms h.2)

pub told_same : (spots : Spots) (t u j bottom : ℕ) (ms : List Marks) → ((k : ℕ) → k ≤ bottom → SameSchedule u t k) → j + length ms ≤ suc bottom → AreRunsTold spots t j ms → AreRunsTold spots u j ms
told_same spots t u j bottom [] same h told = tt
told_same spots t u j bottom (m ∷ ms) same h told = (
  subst (λ (s : ℕ). AreTold (spots j s) m.visible) (sym (same j (omega (arith, h))).slot) told.0,
  subst (λ (s : ℕ). AreTold (spots j (1 - s)) m.shadow) (sym (same j (omega (arith, h))).slot) told.1,
  told_same spots t u (suc j) bottom ms same (omega (arith, h)) told.2,
)
