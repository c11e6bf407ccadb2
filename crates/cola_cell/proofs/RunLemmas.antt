-- The cells of a run, read and kept.
use Rattle.std.proofs.Common.{◌≡◌, ◌≢◌, ◌⊎◌, inl, inr, ℕ, zero, suc, ◌+◌, ◌<◌, ◌≤◌, false, List, [], ◌∷◌, ◌++◌, length, get_or, Result, Ok, Err, refl, ap, sym, subst, ◌∙◌, arith, length-append}
use Rattle.std.proofs.lemmas.Bool.{true≢false}
use Rattle.cola_abstract.specs.Cell as laws
use Rattle.cola_cell.specs.declared.cell.Cell.{Cell}
use Rattle.cola_cell.specs.declared.cell.Run.{Run}
use Rattle.cola_cell.specs.declared.fault.ReadFault.TheVariants.{BadCell}
use Rattle.cola_cell.specs.declared.fault.PushFault.{PushFault}
use Rattle.cola_cell.specs.declared.fault.PushFault.TheVariants as push
use Rattle.cola_cell.specs.declared.sink.Shadow.{Shadow}
use Rattle.cola_cell.specs.Held.{Held, span, HasPlace, Spot, Untold, Bad, Told, Tells, LawCell, as_cell, is_untold, with_cell, IsTelling}
use Rattle.cola_cell.specs.State.{State}
use Rattle.cola_cell.specs.Reads.{Reads}
use Rattle.cola_cell.specs.Spent.{Buffer}
use Rattle.cola_cell.specs.Shadows.{StaysAround, IsKept, Restarts, Pushes, Finishes, after_push}
use Rattle.cola_cell.specs.Listed.{Stands, IsRun}

-- a cell, where one is needed
abbrev any_cell : LawCell
any_cell = laws.Look [] 0

-- the cell that is told, or another where none is
abbrev told_or : Spot → LawCell → LawCell
told_or Untold d = d
told_or Bad d = d
told_or (Told c) d = c

-- one cell is told of a place
pub told_same : (c d : LawCell) → Told c ≡ Told d → c ≡ d
told_same c d e = ap (λ x. told_or x c) e

-- what a read gives is what is told
pub given_is_told : (spot : Spot) (c d : LawCell) → spot ≡ Told c → Tells spot (Told d) → c ≡ d
given_is_told spot c d e h = told_same c d (subst (λ x. Tells x (Told d)) e h)

-- a place that is told is not bad
pub told_is_good : (spot : Spot) (c : LawCell) → spot ≡ Told c → Tells spot Bad → ⊥
told_is_good spot c e h = let k : Told c ≡ Bad = subst (λ x. Tells x Bad) e h in grind arith

-- a cell that is put where a place is told
pub put_is_told : (spot : Spot) (c : LawCell) → is_untold spot ≡ false → with_cell spot c ≡ Told c
put_is_told Untold c e = absurd (true≢false e)
put_is_told Bad c e = refl
put_is_told (Told b) c e = refl

-- one cell of a run
stands_at : (spots : ℕ → Spot) (i : ℕ) (cells : List LawCell) (k : ℕ) (d : LawCell) → Stands spots i cells → k < length cells → spots (i + k) ≡ Told (get_or cells k d)
stands_at spots i [] k d h l = absurd (omega (arith, l))
stands_at spots i (c ∷ cells) zero d h l = subst (λ n. spots n ≡ Told c) (let e : i ≡ i + 0 = omega arith in e) h.0
stands_at spots i (c ∷ cells) (suc k) d h l =
    let g : spots (suc i + k) ≡ Told (get_or cells k d) = stands_at spots (suc i) cells k d h.1 (omega (arith, l)) in
    subst (λ n. spots n ≡ Told (get_or cells k d)) (let e : suc i + k ≡ i + suc k = omega arith in e) g

-- the cell of a run at an index
pub run_tells : (held : Held) (run : Run) (cells : List LawCell) (i : ℕ) (d : LawCell) → IsRun held run cells → i < run.len → held.spots run.level run.slot i ≡ Told (get_or cells i d)
run_tells held run cells i d h l =
    let g : held.spots run.level run.slot (0 + i) ≡ Told (get_or cells i d) = stands_at (held.spots run.level run.slot) 0 cells i d h.stands (let e : run.len ≡ length cells = h.length_is in omega (arith, l, e)) in
    subst (λ n. held.spots run.level run.slot n ≡ Told (get_or cells i d)) (let e : 0 + i ≡ i = omega arith in e) g

-- the cells stay where each place of theirs does
stands_stay : (old new : ℕ → Spot) (i : ℕ) (cells : List LawCell) → ((k : ℕ) → k < i + length cells → new k ≡ old k) → Stands old i cells → Stands new i cells
stands_stay old new i [] s h = tt
stands_stay old new i (c ∷ cells) s h = (s i (omega arith) ∙ h.0, stands_stay old new (suc i) cells (λ k l. s k (omega (arith, l))) h.1)

-- a run stays where each place of its does
pub run_stays : (old new : Held) (run : Run) (cells : List LawCell) → ((i : ℕ) → i < run.len → new.spots run.level run.slot i ≡ old.spots run.level run.slot i) → IsRun old run cells → IsRun new run cells
run_stays old new run cells s h = record {
  length_is = h.length_is;
  stands = stands_stay (old.spots run.level run.slot) (new.spots run.level run.slot) 0 cells (λ k l. s k (let e : run.len ≡ length cells = h.length_is in omega (arith, l, e))) h.stands;
}

-- one cell more at the end
stands_more : (spots : ℕ → Spot) (i : ℕ) (cells : List LawCell) (c : LawCell) → Stands spots i cells → spots (i + length cells) ≡ Told c → Stands spots i (cells ++ c ∷ [])
stands_more spots i [] c h e = (subst (λ n. spots n ≡ Told c) (let k : i + 0 ≡ i = omega arith in k) e, tt)
stands_more spots i (b ∷ cells) c h e = (h.0, stands_more spots (suc i) cells c h.1 (subst (λ n. spots n ≡ Told c) (let k : i + suc (length cells) ≡ suc i + length cells = omega arith in k) e))

-- a push changes no place below the shadow's end, and none of another run
beside : {A : Type 0} (old new : State) (level : ℕ) (cell : Cell) (result : Result A PushFault) (l s n i : ℕ) → Pushes old new level cell result →
    (l ≢ level) ⊎ (s ≢ (old.held.shadows level).slot) ⊎ (n ≤ (old.held.shadows level).len) → i < n → new.held.spots l s i ≡ old.held.spots l s i
beside old new level cell result l s n i p (inl d) h = p.others_stay l s i (inl d)
beside old new level cell result l s n i p (inr (inl d)) h = p.others_stay l s i (inr (inl d))
beside old new level cell result l s n i p (inr (inr d)) h = p.others_stay l s i (inr (inr (λ e. omega (arith, d, e, h))))

-- a push leaves each run that does not reach behind the shadow's end
pub push_keeps_run : {A : Type 0} (old new : State) (level : ℕ) (cell : Cell) (result : Result A PushFault) (run : Run) (cells : List LawCell) → Pushes old new level cell result →
    (run.level ≢ level) ⊎ (run.slot ≢ (old.held.shadows level).slot) ⊎ (run.len ≤ (old.held.shadows level).len) → IsRun old.held run cells → IsRun new.held run cells
push_keeps_run old new level cell result run cells p d h =
    run_stays old.held new.held run cells (λ i l. beside old new level cell result run.level run.slot run.len i p d l) h

-- an accepted push makes the shadow's run one cell longer
pub push_adds_cell : {A : Type 0} (old new : State) (level : ℕ) (cell : Cell) (a : A) (cells : List LawCell) → Pushes old new level cell (Ok a) →
    is_untold (old.held.spots level (old.held.shadows level).slot (old.held.shadows level).len) ≡ false →
    IsRun old.held (record { level = level; slot = (old.held.shadows level).slot; len = (old.held.shadows level).len }) cells →
    IsRun new.held (record { level = level; slot = (new.held.shadows level).slot; len = (new.held.shadows level).len }) (cells ++ as_cell cell ∷ [])
push_adds_cell old new level cell a cells p t h = rw p.shadow_is (record {
  length_is = (let e : (old.held.shadows level).len ≡ length cells = h.length_is in let k : length (cells ++ as_cell cell ∷ []) ≡ length cells + 1 = length-append cells (as_cell cell ∷ []) in omega (arith, e, k));
  stands = stands_more (new.held.spots level (old.held.shadows level).slot) 0 cells (as_cell cell)
      (push_keeps_run old new level cell (Ok a) (record { level = level; slot = (old.held.shadows level).slot; len = (old.held.shadows level).len }) cells p (inr (inr (omega arith))) h).stands
      (subst (λ n. new.held.spots level (old.held.shadows level).slot n ≡ Told (as_cell cell)) (let e : (old.held.shadows level).len ≡ length cells = h.length_is in let k : (old.held.shadows level).len ≡ 0 + length cells = omega (arith, e) in k)
      (p.answer.1 ∙ put_is_told (old.held.spots level (old.held.shadows level).slot (old.held.shadows level).len) (as_cell cell) t));
})

-- an object that tells every place goes on to do so
pub telling_stays : (old new : Held) (level : ℕ) → StaysAround old new level → IsTelling old → IsTelling new
telling_stays old new level a t = λ l s i p. a.telling_is l s i ∙ t l s i (subst (λ f. HasPlace (record { fixed = f; spots = new.spots; shadows = new.shadows }) l s i) a.fixed_is p)

-- a restart leaves each run of another slot, and every run where the shadow that it gives up was kept
restart_beside : (old new : Held) (level slot l s i : ℕ) → Restarts old new level slot → (l ≢ level) ⊎ (s ≢ (old.shadows level).slot) ⊎ IsKept old level → new.spots l s i ≡ old.spots l s i
restart_beside old new level slot l s i r (inl d) = r.others_stay l s i (inl d)
restart_beside old new level slot l s i r (inr (inl d)) = r.others_stay l s i (inr (inl d))
restart_beside old new level slot l s i r (inr (inr d)) = r.kept_stay d l s i

pub restart_keeps_run : (old new : Held) (level slot : ℕ) (run : Run) (cells : List LawCell) → Restarts old new level slot →
    (run.level ≢ level) ⊎ (run.slot ≢ (old.shadows level).slot) ⊎ IsKept old level → IsRun old run cells → IsRun new run cells
restart_keeps_run old new level slot run cells r d h = run_stays old new run cells (λ i l. restart_beside old new level slot run.level run.slot i r d) h

-- a finish leaves each run that does not reach behind the shadow's end
finish_beside : {A : Type 0} (old new : State) (level : ℕ) (result : Result A PushFault) (l s n i : ℕ) → Finishes old new level result →
    (l ≢ level) ⊎ (s ≢ (old.held.shadows level).slot) ⊎ (n ≤ (old.held.shadows level).len) → i < n → new.held.spots l s i ≡ old.held.spots l s i
finish_beside old new level result l s n i f (inl d) h = f.others_stay l s i (inl d)
finish_beside old new level result l s n i f (inr (inl d)) h = f.others_stay l s i (inr (inl d))
finish_beside old new level result l s n i f (inr (inr d)) h = f.others_stay l s i (inr (inr (omega (arith, d, h))))

pub finish_keeps_run : {A : Type 0} (old new : State) (level : ℕ) (result : Result A PushFault) (run : Run) (cells : List LawCell) → Finishes old new level result →
    (run.level ≢ level) ⊎ (run.slot ≢ (old.held.shadows level).slot) ⊎ (run.len ≤ (old.held.shadows level).len) → IsRun old.held run cells → IsRun new.held run cells
finish_keeps_run old new level result run cells f d h =
    run_stays old.held new.held run cells (λ i l. finish_beside old new level result run.level run.slot run.len i f d l) h

-- a read within a run gives its cell
pub run_is_read : (before now : State) (buffer : Buffer) (run : Run) (cells : List LawCell) (i : ℕ) (cell : Cell) (d : LawCell) → IsRun before.held run cells → i < run.len →
    Reads before now buffer run.level run.slot i (Ok cell) → get_or cells i d ≡ as_cell cell
run_is_read before now buffer run cells i cell d h l r = given_is_told (before.held.spots run.level run.slot i) (get_or cells i d) (as_cell cell) (run_tells before.held run cells i d h l) r.answer.told

-- and never finds that it is no cell
pub run_is_good : (before now : State) (buffer : Buffer) (run : Run) (cells : List LawCell) (i number : ℕ) → IsRun before.held run cells → i < run.len →
    Reads before now buffer run.level run.slot i (Err (BadCell number)) → ⊥
run_is_good before now buffer run cells i number h l r = told_is_good (before.held.spots run.level run.slot i) (get_or cells i any_cell) (run_tells before.held run cells i any_cell h l) r.answer.told

-- what was pushed is told
pub pushed_is_told : {A : Type 0} (old new : State) (level : ℕ) (cell : Cell) (a : A) → Pushes old new level cell (Ok a) →
    is_untold (old.held.spots level (old.held.shadows level).slot (old.held.shadows level).len) ≡ false → new.held.spots level (old.held.shadows level).slot (old.held.shadows level).len ≡ Told (as_cell cell)
pushed_is_told old new level cell a p t = p.answer.1 ∙ put_is_told (old.held.spots level (old.held.shadows level).slot (old.held.shadows level).len) (as_cell cell) t

-- what was pushed is read again
pub pushed_is_read : {A : Type 0} (old new : State) (level : ℕ) (cell : Cell) (a : A) (earlier later : State) (buffer : Buffer) (found : Cell) → Pushes old new level cell (Ok a) →
    is_untold (old.held.spots level (old.held.shadows level).slot (old.held.shadows level).len) ≡ false → earlier.held ≡ new.held → Reads earlier later buffer level (old.held.shadows level).slot (old.held.shadows level).len (Ok found) → as_cell found ≡ as_cell cell
pushed_is_read old new level cell a earlier later buffer found p t stays r =
    sym (given_is_told (earlier.held.spots level (old.held.shadows level).slot (old.held.shadows level).len) (as_cell cell) (as_cell found) (ap (λ held. held.spots level (old.held.shadows level).slot (old.held.shadows level).len) stays ∙ pushed_is_told old new level cell a p t) r.answer.told)

-- a shadow after a push stands where it stood
after_push_slot : {A : Type 0} (span : ℕ) (shadow : Shadow) (result : Result A PushFault) → (after_push span shadow result).slot ≡ shadow.slot
after_push_slot span shadow (Ok a) = refl
after_push_slot span shadow (Err push.Device) = refl
after_push_slot span shadow (Err (push.Overfull level)) = refl

-- a push leaves the shadow in its slot
pub slot_stays : {A : Type 0} {old new : State} {level : ℕ} {cell : Cell} {result : Result A PushFault} → Pushes old new level cell result → (new.held.shadows level).slot ≡ (old.held.shadows level).slot
slot_stays {A} {old} {new} {level} {cell} {result} p = ap (λ shadow. shadow.slot) p.shadow_is ∙ after_push_slot (span old.held) (old.held.shadows level) result
