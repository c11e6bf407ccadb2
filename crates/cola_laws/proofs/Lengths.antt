-- How long runs are, and how long a build takes: every build is done within its window.
use Rattle.std.proofs.Common.{◌≡◌, ℕ, zero, suc, ◌+◌, ◌*◌, ◌^◌, ◌≤◌, Bool, true, false, not, cond, List, [], ◌∷◌, length, refl, sym, ap, ◌∙◌, subst, arith}
use Rattle.std.proofs.Math.Nat.{two-pow-succ}
use Rattle.std.proofs.lemmas.Bool.{and_parts, eqb-true}
use Rattle.std.specs.declared.cmp.Ordering.{Ordering}
use Rattle.cola_clock.specs.Clock.{period, is_odd, is_over, window_step, window_length, ends}
use Rattle.cola_clock.proofs.Laws.{is_over-suc}
use Rattle.cola_runs.specs.Cells.{Cell, sample}
use Rattle.cola_runs.proofs.Counts.{length_counts, looks_are_keys}
use Rattle.cola_laws.specs.Chain.{Level, visibles, next_runs, first_keys}
use Rattle.cola_laws.specs.Sound.{IsUpperRun, IsVisible, AreVisible, AreKept}
use Rattle.cola_laws.proofs.Sources.{sample-length}

-- the powers of two that count the cells of slots
pub four-times : (j : ℕ) → 2 ^ (j + 2) ≡ 4 * 2 ^ j
four-times j =
    let a = two-pow-succ j in
    let b = two-pow-succ (suc j) in
    let e : j + 2 ≡ suc (suc j) = omega arith in
    rw e (omega arith)

pub slot-suc : (j : ℕ) → 2 ^ (suc j + 2) ≡ 8 * 2 ^ j
slot-suc j = let a = two-pow-succ j in let b = four-times (suc j) in omega arith

-- what bounds the bottom's run, said from the level below
pub room-below : (most j n : ℕ) → most ≤ 2 ^ (j + suc n + 1) → most ≤ 2 ^ (suc j + n + 1)
room-below most j n h = let e : j + suc n + 1 ≡ suc j + n + 1 = omega arith in subst (λ (x : ℕ). most ≤ 2 ^ x) e h

no-keys : (K V : Type 0) (b : Bool) → length (first_keys {K = K} {V = V} (cond b [] [])) ≡ 0
no-keys K V true = refl
no-keys K V false = refl

module _ {K V : Type 0} (cmp : K → K → Ordering) (most : ℕ) where
  upper-length : (odd : Bool) (j : ℕ) (run : List (Cell K V)) (keys : List K) → IsUpperRun cmp odd j run keys → 8 * length keys ≤ 2 ^ (suc j + 2) → length run ≤ 2 ^ (j + 2)
  upper-length true j run keys h k =
      let a = length_counts run in let b = looks_are_keys run in let c = ap length h.samples in let d = h.few_items in
      let e = four-times j in let f = slot-suc j in omega arith
  upper-length false j run keys h k =
      let a = length_counts run in let b = looks_are_keys run in let c = ap length h.samples in let d = h.few_items in
      let e = four-times j in let f = slot-suc j in omega arith

  -- a run as it may be visible fits its slot, where the sample of the run below is as short as that of a run in its slot
  pub fit-length : {X : Type 0} (odd : Bool) (j : ℕ) (run : List (Cell K V)) (below : List X) (keys : List K) → IsVisible cmp most odd j run below keys →
      8 * length keys ≤ 2 ^ (suc j + 2) → most ≤ 2 ^ (j + suc (length below) + 1) → length run ≤ 2 ^ (j + 2)
  fit-length odd j run [] keys h k room =
      let e : j + 1 + 1 ≡ j + 2 = omega arith in
      let r : most ≤ 2 ^ (j + 2) = subst (λ (x : ℕ). most ≤ 2 ^ x) e room in
      let f = h.few in omega arith
  fit-length odd j run (x ∷ below) keys h k room = upper-length odd j run keys h k

  -- each visible run fits its slot
  pub visible-length : (t j : ℕ) (run : List (Cell K V)) (runs : List (List (Cell K V))) → AreVisible cmp most t j (run ∷ runs) →
      most ≤ 2 ^ (j + suc (length runs) + 1) → length run ≤ 2 ^ (j + 2)
  visible-length t j run [] h room = fit-length {X = List (Cell K V)} (is_odd (period t j)) j run [] [] h.0 (omega arith) room
  visible-length t j run (next ∷ runs) h room =
      let a = visible-length t (suc j) next runs h.1 (room-below most j (suc (length runs)) room) in
      let b = sample-length next in
      fit-length (is_odd (period t j)) j run (next ∷ runs) (sample next) h.0 (omega arith) room

  pub visibles-length : (ls : List (Level K V)) → length (visibles ls) ≡ length ls
  visibles-length [] = refl
  visibles-length (l ∷ ls) = ap suc (visibles-length ls)

  pub visible-length-of : (t j : ℕ) (l : Level K V) (ls : List (Level K V)) → AreVisible cmp most t j (visibles (l ∷ ls)) →
      most ≤ 2 ^ (j + suc (length ls) + 1) → length l.visible ≤ 2 ^ (j + 2)
  visible-length-of t j l ls h room =
      visible-length t j l.visible (visibles ls) h (subst (λ (x : ℕ). most ≤ 2 ^ (j + suc x + 1)) (sym (visibles-length ls)) room)

  next-keys : (b : Bool) (n : ℕ) (shadow visible : List (Cell K V)) (flipping staying : List (List (Cell K V))) → (b ≡ true → length shadow ≤ n) → length visible ≤ n →
      8 * length (first_keys (cond b (shadow ∷ flipping) (visible ∷ staying))) ≤ n
  next-keys true n shadow visible flipping staying h k = let a = sample-length shadow in let b = h refl in omega arith
  next-keys false n shadow visible flipping staying h k = let a = sample-length visible in omega arith

  -- the run that level j samples fits its slot: a visible one, or a finished shadow
  pub next-length : (t j : ℕ) (above : List (Cell K V)) (ls : List (Level K V)) → AreVisible cmp most t (suc j) (visibles ls) → AreKept cmp most t (suc j) above ls →
      most ≤ 2 ^ (suc j + length ls + 1) → 8 * length (first_keys (next_runs t j ls)) ≤ 2 ^ (suc j + 2)
  next-length t j above [] h kept room = let e = no-keys K V (is_odd (period t j)) in omega arith
  next-length t j above (l ∷ ls) h kept room =
      next-keys (is_odd (period t j)) (2 ^ (suc j + 2)) l.shadow l.visible _ _
      (λ odd. let over : is_over t (suc j) ≡ true = is_over-suc t j ∙ odd in
      fit-length (not (is_odd (period t (suc j)))) (suc j) l.shadow ls (first_keys (next_runs t (suc j) ls)) (kept.0.over over).fit
      (next-length t (suc j) l.visible ls h.1 kept.1 (room-below most (suc j) (length ls) room)) room)
      (visible-length-of t (suc j) l ls h room)

-- with its three sources at most as long as their slots allow, a build is done in its window at 28 steps a mutation
pub window-total : (j a b c : ℕ) → a ≤ 2 ^ (suc j + 2) → b ≤ 2 ^ (j + 2) → 8 * c ≤ 2 ^ (suc (suc j) + 2) → a + b + c ≤ 28 * window_length (suc j)
unfolding window_length
window-total zero a b c x y z = omega arith
window-total (suc j) a b c x y z =
    let p = two-pow-succ j in let q = four-times (suc j) in let r = slot-suc (suc j) in let s = slot-suc (suc (suc j)) in let u = two-pow-succ (suc j) in omega arith

-- the last mutation of a window is as many as it has
pub ends-last : (t j : ℕ) → ends t j ≡ true → suc (window_step t j) ≡ window_length j
unfolding ends
ends-last t j h = eqb-true _ _ (and_parts _ _ h).1
