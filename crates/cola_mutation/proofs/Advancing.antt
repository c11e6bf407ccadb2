-- How the turns of levels add up to what the laws of levels say.
use Rattle.std.proofs.Common.{◌≡◌, ◌≢◌, ◌⊎◌, inl, inr, ℕ, suc, ◌+◌, ◌-◌, ◌*◌, ◌<◌, Bool, true, false, cond, List, [], ◌∷◌, Result, Ok, Err, sym, subst, ◌∙◌, arith}
use Rattle.cola_clock.specs.Clock.{period, is_odd, visible_slot}
use Rattle.cola_clock.specs.Marks.{Marks, merge_steps}
use Rattle.cola_clock.proofs.Wrap.{slot-of_parity}
use Rattle.cola_laws.specs.Chain.{Level as LawLevel}
use Rattle.cola_laws.specs.Sound.{ArePaced}
use Rattle.cola_laws.specs.Mutation.{IsAdvanced, AreAdvanced, AreWorkable}
use Rattle.cola_laws.proofs.Mutations.{fewer-advanced, none-advanced}
use Rattle.cola_cell.specs.declared.fault.StepFault.{StepFault}
use Rattle.cola_cell.specs.Order.{key_cmp}
use Rattle.cola_cell.specs.Held.{Held, Fixed, Spot, Stamped, LawCell, IsTelling}
use Rattle.cola_cell.specs.Places.{IsPlace}
use Rattle.cola_cell.specs.ToldCells.{IsTold, AreTold, IsShadowTold}
use Rattle.cola_cell.proofs.CellLists.{cells-same}
use Rattle.cola_image.specs.Standing.{AreRunsTold, AreRunsAlike}
use Rattle.cola_image.proofs.CellsLemmas.{levels-alike, runs-told}
use Rattle.cola_merge.specs.Heads.{AreFeedsTold}
use Rattle.cola_level.specs.declared.level.Level.{Level}
use Rattle.cola_level.specs.Marks.{marks_of, all_marks_of}
use Rattle.cola_level.specs.Aims.{aim_at}
use Rattle.cola_level.specs.Standing.{slot_cells, visible_cells, stood, all_stood}
use Rattle.cola_level.specs.Work.{taken, Advances}
use Rattle.cola_mutation.specs.Levels.{Fits}
use Rattle.cola_mutation.specs.Work.{Keeps, IsBeside, IsQuiet, HasTurned, CanTurn, CanAllTurn, AllAdvance}
use Rattle.cola_mutation.proofs.AddingUp.{taken_few}

-- ---- cells that stay

pub cells_stay : {Q : ℕ → Type 0} {a b : Held} (l s n : ℕ) → Keeps Q a b → Q l ⊎ (s ≢ (a.shadows l).slot) → slot_cells b l s n ≡ slot_cells a l s n
cells_stay {Q} {a} {b} l s n k d = cells-same (b.spots l s) (a.spots l s) 0 n (λ i h. k.spots_stay l s i d)

pub stood_stays : {Q : ℕ → Type 0} {a b : Held} (t j : ℕ) (m : Marks) → Keeps Q a b → Q j → stood b t j m ≡ stood a t j m
stood_stays {Q} {a} {b} t j m k q =
    let v : slot_cells b j (visible_slot t j) m.visible ≡ slot_cells a j (visible_slot t j) m.visible = cells_stay j (visible_slot t j) m.visible k (inl q) in
    let w : slot_cells b j (1 - visible_slot t j) m.shadow ≡ slot_cells a j (1 - visible_slot t j) m.shadow = cells_stay j (1 - visible_slot t j) m.shadow k (inl q) in
    λ i. record { visible = v i; shadow = w i; own = m.own; incoming = m.incoming; sampled = m.sampled }

pub alike_behind : {a b : Held} (t i k : ℕ) (marks : List Marks) → i < k → Keeps (IsBeside t i) a b → AreRunsAlike a.spots b.spots t (suc k) marks
alike_behind t i k [] h keeps = tt
alike_behind t i k (m ∷ marks) h keeps =
    let d : suc k ≢ suc i = λ e. let f : suc k ≡ suc i = e in omega (arith, f, h) in (
      λ index l. keeps.spots_stay (suc k) (visible_slot t (suc k)) index (inl (inl d)),
      λ index l. keeps.spots_stay (suc k) (1 - visible_slot t (suc k)) index (inl (inl d)),
      alike_behind t i (suc k) marks (omega (arith, h)) keeps,
    )

pub behind_stays : {a b : Held} (t i : ℕ) (marks : List Marks) → Keeps (IsBeside t i) a b → all_stood b t (suc (suc i)) marks ≡ all_stood a t (suc (suc i)) marks
behind_stays {a} {b} t i marks keeps = levels-alike a.spots b.spots t (suc (suc i)) marks (alike_behind t i (suc i) marks (omega arith) keeps)

-- ---- the slot that is visible is not the shadow's

parity_apart : (b : Bool) (v : ℕ) → v ≡ cond b 1 0 → v ≢ 1 - v
parity_apart true v e f = omega (arith, e, f)
parity_apart false v e f = omega (arith, e, f)

pub visible_apart : (t j slot : ℕ) → slot ≡ 1 - visible_slot t j → visible_slot t j ≢ slot
visible_apart t j slot e f = parity_apart (is_odd (period t j)) (visible_slot t j) (slot-of_parity t j) (f ∙ e)

-- ---- what one level needs for its turn

pub sampled_told : (b : Bool) (f : ℕ → ℕ → Spot) (v x y : ℕ) → AreTold (f v) y → AreTold (f (1 - v)) x → AreTold (f (cond b (1 - v) v)) (cond b x y)
sampled_told true f v x y p q = q
sampled_told false f v x y p q = p

feeds_told : (held : Held) (t i own above : ℕ) (below : List Marks) → AreTold (held.spots (suc i) (visible_slot t (suc i))) own → AreTold (held.spots i (visible_slot t i)) above →
    AreRunsTold held.spots t (suc (suc i)) below → AreFeedsTold held (aim_at t i own above below)
feeds_told held t i own above [] p q r = record { own = p; incoming = q; sample = λ n h. absurd (omega (arith, h)) }
feeds_told held t i own above (next ∷ under) p q r = record {
  own = p;
  incoming = q;
  sample = λ n h. sampled_told (is_odd (period t (suc i))) (held.spots (suc (suc i))) (visible_slot t (suc (suc i))) next.shadow next.visible r.0 r.1 (8 * n + 7) (omega (arith, h));
}

shadow_told : (held : Held) (j slot len : ℕ) → AreTold (held.spots j slot) len → (held.shadows j).slot ≡ slot → len ≡ (held.shadows j).len → IsShadowTold held j
shadow_told held j slot len told e f = subst (λ (x : ℕ). AreTold (held.spots j x) (held.shadows j).len) (sym e) (subst (λ (n : ℕ). AreTold (held.spots j slot) n) f told)

told_shadow : (held : Held) (j slot len : ℕ) → IsShadowTold held j → (held.shadows j).slot ≡ slot → len ≡ (held.shadows j).len → AreTold (held.spots j slot) len
told_shadow held j slot len told e f = subst (λ (n : ℕ). AreTold (held.spots j slot) n) (sym f) (subst (λ (x : ℕ). AreTold (held.spots j x) (held.shadows j).len) e told)

pub can_turn : {held : Held} (t i above : ℕ) (l : Level) (below : List Marks) → Fits held t i above l below → CanAllTurn held t i above (marks_of l ∷ below) → CanTurn held t i above (marks_of l) below
can_turn {held} t i above l below f c =
    let told = shadow_told held (suc i) (1 - visible_slot t (suc i)) l.shadow c.told.1 f.slot_is f.shadow_is in
    record {
      told = told;
      can = λ w. record {
        tells = c.tells;
        feeds = feeds_told held t i l.visible above below c.told.0 c.above_told c.told.2;
        shadow = told;
        shadow_is = f.shadow_is;
        works = w;
        paced = c.paced.0;
        workable = c.workable.0 w;
      };
    }

-- ---- what the others then need

pub telling_stays : {Q : ℕ → Type 0} {a b : Held} → Keeps Q a b → IsTelling a → IsTelling b
telling_stays {Q} {a} {b} k tells = λ l s n p. k.telling_is l s n ∙ tells l s n (subst (λ (x : Fixed). IsPlace x.levels l s n) k.fixed_is p)

visible_told : {a b : Held} (t i above : ℕ) (l : Level) (below : List Marks) → Keeps (IsBeside t i) a b → Fits a t i above l below → AreTold (a.spots (suc i) (visible_slot t (suc i))) l.visible →
    AreTold (b.spots (suc i) (visible_slot t (suc i))) l.visible
visible_told {a} {b} t i above l below keeps f told = λ n h.
    subst (λ (x : Spot). IsTold x) (sym (keeps.spots_stay (suc i) (visible_slot t (suc i)) n (inr (visible_apart t (suc i) (a.shadows (suc i)).slot f.slot_is)))) (told n h)

visible_stays : {a b : Held} (t i above : ℕ) (l : Level) (below : List Marks) → Keeps (IsBeside t i) a b → Fits a t i above l below → visible_cells b t (suc i) l.visible ≡ visible_cells a t (suc i) l.visible
visible_stays {a} {b} t i above l below keeps f = cells_stay (suc i) (visible_slot t (suc i)) l.visible keeps (inr (visible_apart t (suc i) (a.shadows (suc i)).slot f.slot_is))

pub rest_can : {a b : Held} (t i above : ℕ) (l m : Level) (below : List Marks) → Keeps (IsBeside t i) a b → Fits a t i above l below → m.visible ≡ l.visible →
    CanAllTurn a t i above (marks_of l ∷ below) → CanAllTurn b t (suc i) m.visible below
rest_can {a} {b} t i above l m below keeps f e c = subst (λ (n : ℕ). CanAllTurn b t (suc i) n below) (sym e) (record {
  tells = telling_stays keeps c.tells;
  above_told = visible_told t i above l below keeps f c.told.0;
  told = runs-told a.spots b.spots t (suc (suc i)) below (alike_behind t i (suc i) below (omega arith) keeps) c.told.2;
  paced = subst (λ (ls : List (LawLevel (List ℕ) Stamped)). ArePaced key_cmp 0 t (suc (suc i)) (visible_cells b t (suc i) l.visible) ls) (sym (behind_stays t i below keeps))
      (subst (λ (cs : List LawCell). ArePaced key_cmp 0 t (suc (suc i)) cs (all_stood a t (suc (suc i)) below)) (sym (visible_stays t i above l below keeps f)) c.paced.1);
  workable = subst (λ (ls : List (LawLevel (List ℕ) Stamped)). AreWorkable key_cmp t (suc (suc i)) (visible_cells b t (suc i) l.visible) ls) (sym (behind_stays t i below keeps))
      (subst (λ (cs : List LawCell). AreWorkable key_cmp t (suc (suc i)) cs (all_stood a t (suc (suc i)) below)) (sym (visible_stays t i above l below keeps f)) c.workable.1);
})

-- ---- all turns

-- the runs of one level stay told
pub told_runs : {s u v : Held} (t i above : ℕ) (l m : Level) (below : List Marks) → Keeps (IsBeside t i) s u → Keeps (IsQuiet t (suc i)) u v → Fits s t i above l below → Fits u t i above m below →
    m.visible ≡ l.visible → AreTold (s.spots (suc i) (visible_slot t (suc i))) l.visible → IsShadowTold u (suc i) →
    AreTold (v.spots (suc i) (visible_slot t (suc i))) m.visible × AreTold (v.spots (suc i) (1 - visible_slot t (suc i))) m.shadow
told_runs {s} {u} {v} t i above l m below k q f g e told shadow =
    let quiet : IsQuiet t (suc i) (suc i) = inl (omega arith) in (
      λ n h. subst (λ (x : Spot). IsTold x) (sym (q.spots_stay (suc i) (visible_slot t (suc i)) n (inl quiet)))
          (visible_told t i above l below k f told n (subst (λ (x : ℕ). n < x) e h)),
      λ n h. subst (λ (x : Spot). IsTold x) (sym (q.spots_stay (suc i) (1 - visible_slot t (suc i)) n (inl quiet)))
          (told_shadow u (suc i) (1 - visible_slot t (suc i)) m.shadow shadow g.slot_is g.shadow_is n h),
    )

pub advance_then : {A B : Type 0} (r : Result A StepFault) (b : B) (s u v : Held) (t i above : ℕ) (l m : Level) (ls ms : List Level) → Keeps (IsBeside t i) s u → Keeps (IsQuiet t (suc i)) u v → HasTurned t i l m →
    Fits s t i above l (all_marks_of ls) → Fits u t i above m (all_marks_of ls) →
    (CanTurn s t i above (marks_of l) (all_marks_of ls) → Advances {A = B} s u t i above (marks_of l) (marks_of m) (all_marks_of ls) (Ok b)) →
    (CanAllTurn u t (suc i) m.visible (all_marks_of ls) → AllAdvance u v t (suc i) m.visible (all_marks_of ls) (all_marks_of ms) r) →
    CanAllTurn s t i above (all_marks_of (l ∷ ls)) → AllAdvance s v t i above (all_marks_of (l ∷ ls)) (all_marks_of (m ∷ ms)) r
advance_then r b s u v t i above l m ls ms k q one f g first rest c =
    let own = first (can_turn t i above l (all_marks_of ls) f c) in
    let all = rest (rest_can t i above l m (all_marks_of ls) k f one.visible c) in
    let runs = told_runs t i above l m (all_marks_of ls) k q f g one.visible c.told.0 own.told in
    let quiet : IsQuiet t (suc i) (suc i) = inl (omega arith) in
    record {
      advanced = (
        fewer-advanced key_cmp merge_steps (taken r) t (suc i) (visible_cells s t i above) (stood s t (suc i) (marks_of l)) (stood v t (suc i) (marks_of m)) (all_stood s t (suc (suc i)) (all_marks_of ls)) (taken_few r)
            (subst (λ (x : LawLevel (List ℕ) Stamped). IsAdvanced key_cmp merge_steps t (suc i) (visible_cells s t i above) (stood s t (suc i) (marks_of l)) (all_stood s t (suc (suc i)) (all_marks_of ls)) x) (sym (stood_stays t (suc i) (marks_of m) q quiet)) own.advanced),
        subst (λ (xs : List (LawLevel (List ℕ) Stamped)). AreAdvanced key_cmp (taken r) t (suc (suc i)) (visible_cells s t (suc i) l.visible) xs (all_stood v t (suc (suc i)) (all_marks_of ms))) (behind_stays t i (all_marks_of ls) k)
            (subst (λ (cs : List LawCell). AreAdvanced key_cmp (taken r) t (suc (suc i)) cs (all_stood u t (suc (suc i)) (all_marks_of ls)) (all_stood v t (suc (suc i)) (all_marks_of ms))) (visible_stays t i above l (all_marks_of ls) k f)
            (subst (λ (n : ℕ). AreAdvanced key_cmp (taken r) t (suc (suc i)) (visible_cells u t (suc i) n) (all_stood u t (suc (suc i)) (all_marks_of ls)) (all_stood v t (suc (suc i)) (all_marks_of ms))) one.visible all.advanced)),
      );
      told = (runs.0, runs.1, all.told);
      only = all.only;
    }

pub advance_refused : {A B : Type 0} (fault : StepFault) (s u : Held) (t i above : ℕ) (l m : Level) (ls : List Level) → Keeps (IsBeside t i) s u → HasTurned t i l m →
    Fits s t i above l (all_marks_of ls) → Fits u t i above m (all_marks_of ls) → Keeps (IsQuiet t (suc i)) u u →
    (CanTurn s t i above (marks_of l) (all_marks_of ls) → Advances {A = B} s u t i above (marks_of l) (marks_of m) (all_marks_of ls) (Err fault)) →
    CanAllTurn s t i above (all_marks_of (l ∷ ls)) → AllAdvance {A = A} s u t i above (all_marks_of (l ∷ ls)) (all_marks_of (m ∷ ls)) (Err fault)
advance_refused fault s u t i above l m ls k one f g q first c =
    let own = first (can_turn t i above l (all_marks_of ls) f c) in
    let runs = told_runs t i above l m (all_marks_of ls) k q f g one.visible c.told.0 own.told in
    record {
      advanced = (
        own.advanced,
        subst (λ (xs : List (LawLevel (List ℕ) Stamped)). AreAdvanced key_cmp 0 t (suc (suc i)) (visible_cells s t (suc i) l.visible) (all_stood s t (suc (suc i)) (all_marks_of ls)) xs) (sym (behind_stays t i (all_marks_of ls) k))
            (none-advanced key_cmp 0 t (suc (suc i)) (visible_cells s t (suc i) l.visible) (all_stood s t (suc (suc i)) (all_marks_of ls)) c.paced.1),
      );
      told = (runs.0, runs.1, runs-told s.spots u.spots t (suc (suc i)) (all_marks_of ls) (alike_behind t i (suc i) (all_marks_of ls) (omega arith) k) c.told.2);
      only = own.only;
    }
