-- What an emitted cell changes.
use Rattle.std.proofs.Common.{◌≡◌, ◌≢◌, ◌⊎◌, inl, inr, ℕ, zero, suc, ◌+◌, ◌-◌, ◌*◌, ◌/◌, ◌%◌, ◌^◌, ◌<◌, ◌≤◌, ◌==◌, List, [], ◌∷◌, ◌++◌, Option, Some, Result, Ok, Err, refl, ap, sym, subst, ◌∙◌, arith}
use Rattle.std.proofs.lemmas.Bool.Decides.{eqb_tells, leb_tells}
use Rattle.std.proofs.lemmas.List.{append-nil}
use Rattle.std.proofs.lemmas.Nat.{div_below}
use Rattle.std.proofs.Math.Nat.{div-add-mod}
use Rattle.std.proofs.Math.Pow.{pow_pos}
use Rattle.cola_cell.specs.declared.cell.Cell.{Cell}
use Rattle.cola_cell.specs.declared.sink.Shadow.{Shadow}
use Rattle.cola_cell.specs.declared.fault.PushFault.{PushFault}
use Rattle.cola_cell.specs.declared.fault.PushFault.TheVariants as push
use Rattle.cola_cell.specs.Places.{slot_size, block_of}
use Rattle.cola_cell.specs.Held.{Held, Spot, Told, LawCell, as_cell, IsTelling, span}
use Rattle.cola_cell.specs.Spent.{Buffer, Spent}
use Rattle.cola_cell.specs.State.{State}
use Rattle.cola_cell.specs.Shadows.{StaysAround, Pushes, PushSpends, PushAnswers, push_ticks, after_push}
use Rattle.cola_cell.proofs.RunLemmas.{pushed_is_told, slot_stays}
use Rattle.cola_cell.specs.ToldCells.{cell_at, IsTold, cells, shadow_cells, IsShadowTold}
use Rattle.cola_merge.specs.States.{Grows, Spends, KeepsBlocks, Emitted, PushFailed, Unpushed, Emission}
use Rattle.cola_cell.proofs.CellLists.{cells-same}
use Rattle.cola_merge.proofs.Kept.{forgets_keeps, third}
use Rattle.cola_merge.proofs.Sums.{spends_ticks}
use Rattle.cola_merge.proofs.Groups.{div-mono}

pub span_pos : (d : ℕ) → 0 < 8 * 2 ^ d
span_pos d = let h : 0 < 2 ^ d = pow_pos d in omega (arith, h)

-- ---- a shadow that grew by so many cells

pub grows_by : {old new : Held} {level : ℕ} (n : ℕ) → StaysAround old new level → (new.shadows level).slot ≡ (old.shadows level).slot → (new.shadows level).len ≡ (old.shadows level).len + n →
    ((old.shadows level).len ≤ slot_size level → (old.shadows level).len + n ≤ slot_size level) →
    ((l s i : ℕ) → (l ≢ level) ⊎ (s ≢ (old.shadows level).slot) ⊎ (i < (old.shadows level).len) → new.spots l s i ≡ old.spots l s i) → Grows old new level
grows_by n around slot len fits stays = record { around = around; slot_is = slot; len_rises = omega (arith, len); len_fits = λ h. let k = fits h in omega (arith, len, k); others_stay = stays }

-- cells of places, and of those behind them
cells-append : (f : ℕ → Spot) (i a b : ℕ) → cells f i (a + b) ≡ cells f i a ++ cells f (i + a) b
cells-append f i zero b = ap (λ (m : ℕ). cells f i m) (let e : 0 + b ≡ b = omega arith in e) ∙ ap (λ (j : ℕ). cells f j b) (let e : i ≡ i + 0 = omega arith in e)
cells-append f i (suc a) b =
    ap (λ (m : ℕ). cells f i m) (let e : suc a + b ≡ suc (a + b) = omega arith in e)
    ∙ ap (λ (r : List LawCell). cell_at (f i) ∷ r) (cells-append f (suc i) a b ∙ ap (λ (j : ℕ). cells f (suc i) a ++ cells f j b) (let e : suc i + a ≡ i + suc a = omega arith in e))

module _ {old new : Held} {level : ℕ} (n : ℕ) (g : Grows old new level) (e : (new.shadows level).len ≡ (old.shadows level).len + n) where
  -- its cells are those that it had, and those behind them
  pub shadow_more : shadow_cells new level ≡ shadow_cells old level ++ cells (new.spots level (old.shadows level).slot) (old.shadows level).len n
  shadow_more =
      ap (λ (s : ℕ). cells (new.spots level s) 0 (new.shadows level).len) g.slot_is
      ∙ ap (λ (m : ℕ). cells (new.spots level (old.shadows level).slot) 0 m) e
      ∙ cells-append (new.spots level (old.shadows level).slot) 0 (old.shadows level).len n
      ∙ ap (λ (j : ℕ). cells (new.spots level (old.shadows level).slot) 0 (old.shadows level).len ++ cells (new.spots level (old.shadows level).slot) j n) (omega arith)
      ∙ ap (λ (r : List LawCell). r ++ cells (new.spots level (old.shadows level).slot) (old.shadows level).len n)
      (cells-same (new.spots level (old.shadows level).slot) (old.spots level (old.shadows level).slot) 0 (old.shadows level).len
      (λ k h. g.others_stay level (old.shadows level).slot k (inr (inr (omega (arith, h))))))

  -- it is told whole where those are told
  pub told_more : ((j : ℕ) → j < n → IsTold (new.spots level (old.shadows level).slot ((old.shadows level).len + j))) → IsShadowTold old level → IsShadowTold new level
  told_more ends h i l = rw g.slot_is (elim (leb_tells (old.shadows level).len i) [
    | inl f ↦
        let a : (old.shadows level).len ≤ i = f.1 in
        let z : (old.shadows level).len + (i - (old.shadows level).len) ≡ i = omega (arith, a) in rw z at (ends (i - (old.shadows level).len) (omega (arith, l, e, a)))
    | inr f ↦ let a : i < (old.shadows level).len = f.1 in rw (g.others_stay level (old.shadows level).slot i (inr (inr a))) (h i a)
  ])

-- ---- any push

push_spends : {A : Type 0} {old new : State} {level : ℕ} {result : Result A PushFault} (from to : ℕ) → PushSpends old new level result → to ≡ from + push_ticks result →
    new.spent.written ≤ old.spent.written + push_ticks result → Spends old.spent new.spent from to
push_spends {result = result} from to w e l =
    spends_ticks (push_ticks result) e w.writes.ticks_made (omega (arith, w.writes.turned_is)) w.writes.written_stays (omega (arith, w.writes.turned_is, l)) w.writes.faults_stay

push_keeps : {A : Type 0} {old new : State} {level : ℕ} {result : Result A PushFault} → PushSpends old new level result → (buffer : Buffer) →
    KeepsBlocks level (old.held.shadows level).slot buffer old.spent.lasts new.spent.lasts
push_keeps {old = old} {new = new} {level = level} w buffer l s k d =
    forgets_keeps (block_of (span old.held) level (old.held.shadows level).slot (old.held.shadows level).len) (old.spent.lasts buffer) (new.spent.lasts buffer) (w.writes.lasts_forget buffer) l s k d

-- ---- a push that is accepted

written_push : (k x y n : ℕ) → 0 < k → y ≤ x + 1 → ((n + 1) % k ≢ 0 → y ≡ x) → y + n / k ≤ x + (n + 1) / k
written_push k x y n p h z = elim (eqb_tells ((n + 1) % k) 0) [
  | inl e ↦
      let f : (n + 1) % k ≡ 0 = e.1 in
      let g : k * ((n + 1) / k) + (n + 1) % k ≡ n + 1 = div-add-mod (n + 1) k in
      let c : (n + 1) / k * k ≡ k * ((n + 1) / k) = grind arith in
      let l : n / k < (n + 1) / k = div_below n k ((n + 1) / k) p (omega (arith, f, g, c)) in
      omega (arith, h, l)
  | inr e ↦ let f : y ≡ x = z e.1 in let l : n / k ≤ (n + 1) / k = div-mono n (n + 1) k p (omega arith) in omega (arith, f, l)
]

pub emitted_push : {A : Type 0} {old new : State} {level : ℕ} {c : Cell} (a : A) (from to : ℕ) → Pushes old new level c (Ok a) → PushSpends old new level (Ok a) →
    to ≡ from + 1 → level < old.held.fixed.levels → (old.held.shadows level).slot < 2 → Emitted old new level (Some c) from to
emitted_push {A} {old} {new} {level} {c} a from to p w e level_in slot_in =
    let n : ℕ = (old.held.shadows level).len in
    let len : (new.held.shadows level).len ≡ (old.held.shadows level).len + 1 = ap (λ (s : Shadow). s.len) p.shadow_is in
    let g : Grows old.held new.held level = grows_by 1 p.around (slot_stays p) len (λ h. omega (arith, p.answer.0)) (λ l s i d. p.others_stay l s i (third (λ k z. omega (arith, k, z)) d)) in
    record {
      grows = g;
      len_is = len;
      done = λ t. shadow_more 1 g len ∙ ap (λ (x : Spot). shadow_cells old.held level ++ cell_at x ∷ []) (told_end t);
      told = λ t. told_more 1 g len (λ j l. let z : (old.held.shadows level).len + j ≡ (old.held.shadows level).len = omega (arith, l) in rw (z, told_end t));
      spends = push_spends from to w e w.writes.written_rises;
      ticks = e;
      turned_is = w.writes.turned_is;
      keeps = λ buffer. push_keeps w buffer;
      written = rw len
          (written_push (span old.held) old.spent.written new.spent.written (old.held.shadows level).len (span_pos old.held.fixed.doublings) w.writes.written_rises (λ d. (w.only_full d).written_is));
      saved = record { still = λ f. absurd (omega (arith, f, len)); grew = λ _. subst (λ (s : Shadow). s.saved ≡ (s.len % span old.held == 0)) (sym p.shadow_is) refl };
      calm = p.calm;
    }
  where
    told_end : IsTelling old.held → new.held.spots level (old.held.shadows level).slot (old.held.shadows level).len ≡ Told (as_cell c)
    told_end t = pushed_is_told old new level c a p (t level (old.held.shadows level).slot (old.held.shadows level).len (record { level_in = level_in; slot_in = slot_in; index_in = p.answer.0 }))

-- ---- a push that is refused

refused_len : (A : Type 0) (size : ℕ) (shadow : Shadow) (fault : PushFault) → (after_push {A = A} size shadow (Err fault)).len ≡ shadow.len
refused_len A size shadow push.Device = refl
refused_len A size shadow (push.Overfull number) = refl

refused_push : (A : Type 0) (old new : State) (level : ℕ) (c : Cell) (fault : PushFault) (from to : ℕ) → PushAnswers {A = A} old new level c (Err fault) → new.spent.written ≤ old.spent.written + 1 →
    to ≡ from + push_ticks {A = A} (Err fault) → PushFailed (old.held.shadows level).len old.spent.faults new.spent.faults level from to fault × (new.spent.written ≤ old.spent.written + push_ticks {A = A} (Err fault))
refused_push A old new level c push.Device from to a w e = ((a.0, a.1, e), w)
refused_push A old new level c (push.Overfull number) from to a w e = ((a.0, a.1, ap (λ (s : Spent). s.faults) a.3, omega (arith, e)), let k = ap (λ (s : Spent). s.written) a.3 in omega (arith, k))

pub unpushed : {A : Type 0} {old new : State} {level : ℕ} {c : Cell} (fault : PushFault) (from to : ℕ) → Pushes {A = A} old new level c (Err fault) →
    PushSpends {A = A} old new level (Err fault) → to ≡ from + push_ticks {A = A} (Err fault) → Unpushed old new level (Some c) from to fault
unpushed {A} {old} {new} {level} {c} fault from to p w e =
    let len : (new.held.shadows level).len ≡ (old.held.shadows level).len = ap (λ (s : Shadow). s.len) p.shadow_is ∙ refused_len A (span old.held) (old.held.shadows level) fault in
    let g : Grows old.held new.held level = grows_by 0 p.around (slot_stays p) (omega (arith, len)) (λ h. omega (arith, h)) (λ l s i d. p.others_stay l s i (third (λ k z. omega (arith, k, z)) d)) in
    let b = refused_push A old new level c fault from to p.answer w.writes.written_rises e in
    record {
      there = refl;
      grows = g;
      len_is = len;
      done = shadow_more 0 g (omega (arith, len)) ∙ append-nil (shadow_cells old.held level);
      told = told_more 0 g (omega (arith, len)) (λ j l. absurd (omega (arith, l)));
      spends = push_spends from to w e b.1;
      keeps = λ buffer. push_keeps w buffer;
      written = w.writes.written_rises;
      cause = b.0;
    }

-- ---- a cell, if there is one

pub emission_of : {A : Type 0} {old new : State} {level : ℕ} (cell : Option Cell) (c : Cell) (slot from to : ℕ) (result : Result A PushFault) → cell ≡ Some c →
    Pushes old new level c result → PushSpends old new level result → to ≡ from + push_ticks result → level < old.held.fixed.levels → slot < 2 → slot ≡ (old.held.shadows level).slot →
    Emission old new level cell from to result
emission_of {A} {old} {new} {level} cell c slot from to (Ok a) e p w t l s i =
    rw e (emitted_push a from to p w t l (rw i at s))
emission_of {A} {old} {new} {level} cell c slot from to (Err fault) e p w t l s i =
    rw e (unpushed fault from to p w t)
