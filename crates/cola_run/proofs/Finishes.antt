-- What a finish of the shadow of a level on the device leaves of the cells.
use Rattle.std.proofs.Common.{◌≡◌, ◌≢◌, ◌⊎◌, inl, inr, ℕ, ◌+◌, ◌*◌, ◌/◌, ◌%◌, ◌<◌, ◌≤◌, Bool, true, false, List, length, Option, IfSome, Result, Ok, Err, is_ok, refl, sym, ap, subst, ◌∙◌, arith, option_map}
use Rattle.std.proofs.lemmas.Bool.{cases_eq, false≢true}
use Rattle.cola_outside.specs.Told.{Both}
use Rattle.cola_cell.specs.declared.fault.PushFault.{PushFault}
use Rattle.cola_cell.specs.declared.sink.Shadow.{Shadow}
use Rattle.cola_cell.specs.Flat.{shadow_at}
use Rattle.cola_cell.specs.Places.{slot_size, number_of, IsPlace}
use Rattle.cola_device.specs.Bytes.{splice, WroteSome}
use Rattle.cola_front.specs.Front.{FrontCells, cell_bytes}
use Rattle.cola_layout.specs.declared.geometry.Geometry.{Geometry}
use Rattle.cola_layout.proofs.Places.{slot-blocks}
use Rattle.cola_run.specs.Cells.{IsOnDevice, Lower, block_cells, block_bytes, file_bytes, block_number, tail_number, is_in_tail, device_cell, spots_of, IsShadow, IsShape, IsSaved, IsBacked, cells_by}
use Rattle.cola_run.specs.Parts.{tail_of, TailFinished, IsFinished}
use Rattle.cola_run.specs.Store.{beside}
use Rattle.cola_run.proofs.Sinks.{beside-tail, long-of}
use Rattle.cola_run.proofs.Spots.{both-so, both-same, both-with, both-second, in-tail, device-in, device-out, device-is, spots-stay}
use Rattle.cola_run.proofs.Steps.{tail_many, tail-cell, written-there}
use Rattle.cola_run.proofs.Lowers.{IsAround, around-same, around-written, TailsStay, other-cell, backed-by, shape-by}

-- a shadow that ends within a block does not fill its slot
pub ends-within : (g : Geometry) (front : FrontCells) (shadows : List Shadow) (tails : List ℕ) (level : ℕ) → IsShape g front shadows tails → IsOnDevice g level → (shadow_at shadows level).saved ≡ false
    → IsPlace (g.bottom + 1) level (shadow_at shadows level).slot (shadow_at shadows level).len
ends-within g front shadows tails level shape device unsaved =
    let stands = shape.shadows_fit level device.within in
    record {
      level_in = omega (arith, device.within);
      slot_in = stands.slot_in;
      index_in = elim (cases_eq (shadow_at shadows level).len (slot_size level)) [
        | inl e ↦ absurd ((shape.unsaved level device unsaved) (ap (λ (n : ℕ). n % block_cells g) e ∙ ((slot-blocks g.block_exp level 0 device.whole).1)))
        | inr d ↦ omega (arith, stands.within, d)
      ];
    }

-- the device tells its bytes after a finish where it told them before
pub finish-told : {T : Type 0} (g : Geometry) (old new : Lower) (level : ℕ) (result : Result T PushFault) → IsFinished g old new level result → Both old.told new.told (λ _ _. Unit {0})
finish-told g old new level result finished = by-test (shadow_at old.shadows level) (shadow_at old.shadows level).saved finished.device
  where
    by-test : (s : Shadow) (t : Bool) → TailFinished t result g old.tails level s.slot s.len old.told new.told → Both old.told new.told (λ _ _. Unit {0})
    by-test s false w = both-so old.told new.told (WroteSome result (block_number g level s.slot s.len * block_bytes g) (tail_of g old.tails level)) (λ _ _. Unit {0}) (λ _ _ _. tt) w
    by-test s true w = subst (λ (x : Option (List ℕ)). Both old.told x (λ _ _. Unit {0})) (sym w.0) (both-same old.told (λ _ _. Unit {0}) (λ _. tt))

-- and what lies beside the levels on the device stays
pub finish-beside : {T : Type 0} (g : Geometry) (front : FrontCells) (old new : Lower) (level : ℕ) (result : Result T PushFault) → IsShape g front old.shadows old.tails → IsOnDevice g level
    → IsFinished g old new level result → IfSome old.told (IsBacked g old.shadows old.tails) → option_map (beside g) new.told ≡ option_map (beside g) old.told
finish-beside g front old new level result shape device finished backed = by-test (shadow_at old.shadows level).saved refl finished.device
  where
    by-test : (t : Bool) → (shadow_at old.shadows level).saved ≡ t → TailFinished t result g old.tails level (shadow_at old.shadows level).slot (shadow_at old.shadows level).len old.told new.told
        → option_map (beside g) new.told ≡ option_map (beside g) old.told
    by-test false e w =
        beside-tail result g old.tails level (shadow_at old.shadows level).slot (shadow_at old.shadows level).len old.told new.told shape.block device.whole
        (ends-within g front old.shadows old.tails level shape device e) (tail_many g old.tails level shape.block device shape.tails_many) (long-of g old.shadows old.tails old.told backed) w
    by-test true e w = ap (λ (x : Option (List ℕ)). option_map (beside g) x) w.0

-- the two ways of a finish: nothing is written, or the shadow's block is, which is the tail where the finish is accepted
data Way (g : Geometry) (tails b c : List ℕ) (level : ℕ) (shadow : Shadow) (accepted : Bool) : Type 0 where
  Same : shadow.saved ≡ true → c ≡ b → Way g tails b c level shadow accepted
  Written : shadow.saved ≡ false → (left : List ℕ) → length left ≡ length (tail_of g tails level) → c ≡ splice b (block_number g level shadow.slot shadow.len * block_bytes g) left
      → (accepted ≡ true → left ≡ tail_of g tails level) → Way g tails b c level shadow accepted

exact-of : {T E : Type 0} (result : Result T E) (at : ℕ) (from b c : List ℕ) (w : WroteSome result at from b c) → is_ok result ≡ true → w.left ≡ from
exact-of (Ok value) at from b c w e = w.exact
exact-of (Err fault) at from b c w e = absurd (false≢true e)

module _ (g : Geometry) (front : FrontCells) (old new : Lower) (level : ℕ) {T : Type 0} (result : Result T PushFault)
    (shape : IsShape g front old.shadows old.tails) (device : IsOnDevice g level) (finished : IsFinished g old new level result) where
  abbrev shadow : Shadow
  shadow = shadow_at old.shadows level

  abbrev now : Shadow
  now = shadow_at new.shadows level

  stands : IsShadow level shadow
  stands = shape.shadows_fit level device.within

  slots : now.slot ≡ shadow.slot
  slots = ap (λ (x : Shadow). x.slot) finished.shadow.is

  lens : now.len ≡ shadow.len
  lens = ap (λ (x : Shadow). x.len) finished.shadow.is

  tails-stay : TailsStay g old.tails new.tails level
  tails-stay l i on apart = ap (λ (xs : List ℕ). cell_bytes g.format xs (tail_number g l i)) finished.tails

  whole : length (tail_of g old.tails level) ≡ block_bytes g
  whole = tail_many g old.tails level shape.block device shape.tails_many

  way-told : Both old.told new.told (λ b c. Way g old.tails b c level shadow (is_ok result))
  way-told = by-test shadow.saved refl finished.device
    where
      by-test : (t : Bool) → shadow.saved ≡ t → TailFinished t result g old.tails level shadow.slot shadow.len old.told new.told → Both old.told new.told (λ b c. Way g old.tails b c level shadow (is_ok result))
      by-test true e w = subst (λ (x : Option (List ℕ)). Both old.told x (λ b c. Way g old.tails b c level shadow (is_ok result))) (sym w.0) (both-same old.told (λ b c. Way g old.tails b c level shadow (is_ok result)) (λ b. Same e refl))
      by-test false e w =
          both-so old.told new.told (WroteSome result (block_number g level shadow.slot shadow.len * block_bytes g) (tail_of g old.tails level)) (λ b c. Way g old.tails b c level shadow (is_ok result))
          (λ b c v. Written e v.left v.as_many v.others_stay (exact-of result (block_number g level shadow.slot shadow.len * block_bytes g) (tail_of g old.tails level) b c v)) w

  abbrev ways : IfSome old.told (IsBacked g old.shadows old.tails) → Both old.told new.told (λ b c. IsBacked g old.shadows old.tails b × Way g old.tails b c level shadow (is_ok result))
  ways backed = both-with old.told new.told (IsBacked g old.shadows old.tails) (λ b c. Way g old.tails b c level shadow (is_ok result)) backed way-told

  around : (b c : List ℕ) → file_bytes g ≤ length b → Way g old.tails b c level shadow (is_ok result) → IsAround g b c level shadow.slot shadow.len
  around b c holds (Same e is) = around-same g b c level shadow.slot shadow.len is
  around b c holds (Written e left many is exact) =
      around-written g shape.block b c left level shadow.slot shadow.len device.whole (ends-within g front old.shadows old.tails level shape device e) holds (many ∙ whole) is

  this-cell : (b c : List ℕ) (s i : ℕ) → IsAround g b c level shadow.slot shadow.len → IsPlace (g.bottom + 1) level s i → (s ≢ shadow.slot) ⊎ (i < shadow.len) →
      device_cell g new.shadows new.tails c level s i ≡ device_cell g old.shadows old.tails b level s i
  this-cell b c s i around p apart =
      device-is g old.shadows old.tails b level s i (device_cell g new.shadows new.tails c level s i)
      (λ q.
      let h : i < shadow.len = q.within in
      device-in g new.shadows new.tails c level s i (record { slot_is = q.slot_is ∙ sym slots; block_is = q.block_is ∙ ap (λ (n : ℕ). n / block_cells g) (sym lens); within = omega (arith, h, lens) })
      ∙ ap (λ (xs : List ℕ). cell_bytes g.format xs (tail_number g level i)) finished.tails)
      (λ d.
      device-out g new.shadows new.tails c level s i
      (λ q.
      d (record { slot_is = q.slot_is ∙ slots; block_is = q.block_is ∙ ap (λ (n : ℕ). n / block_cells g) lens; within = omega (arith, q.within, lens) }))
      ∙ around.stays level s i device.whole p (inr (elim (cases_eq s shadow.slot) [
        | inr other ↦ inl other
        | inl same ↦ inr (λ e. elim apart [ inl h ↦ h same | inr h ↦ d (record { slot_is = same; block_is = e; within = h }) ])
      ])))

  -- what is told of every place stays, but for those behind the shadow in its slot
  pub finish-stays : IfSome old.told (IsBacked g old.shadows old.tails) → (l s i : ℕ) → (l ≢ level) ⊎ (s ≢ shadow.slot) ⊎ (i < shadow.len) →
      spots_of (cells_by g front new) l s i ≡ spots_of (cells_by g front old) l s i
  finish-stays backed l s i apart =
      spots-stay g front front old new l s i (λ p low. refl)
      (both-so old.told new.told (λ b c. IsBacked g old.shadows old.tails b × Way g old.tails b c level shadow (is_ok result))
      (λ b c. IsPlace (g.bottom + 1) l s i → g.block_exp ≤ l + 2 → device_cell g new.shadows new.tails c l s i ≡ device_cell g old.shadows old.tails b l s i)
      (λ b c w p high. elim (cases_eq l level) [
        | inr other ↦ other-cell g old.shadows new.shadows old.tails new.tails b c level shadow.slot shadow.len (record shadow { saved = is_ok result }) finished.shadow (around b c w.0.long w.1) tails-stay l s i p high other
        | inl same ↦
            let here : (s ≢ shadow.slot) ⊎ (i < shadow.len) = elim apart [ inl h ↦ absurd (h same) | inr h ↦ h ] in
            subst (λ (x : ℕ). device_cell g new.shadows new.tails c x s i ≡ device_cell g old.shadows old.tails b x s i) (sym same)
            (this-cell b c s i (around b c w.0.long w.1) (subst (λ (x : ℕ). IsPlace (g.bottom + 1) x s i) same p) here)
      ])
      (ways backed))

  still-unsaved : is_ok result ≡ false → shadow.len % block_cells g ≢ 0
  still-unsaved refused = by-test shadow.saved refl finished.device
    where
      by-test : (t : Bool) → shadow.saved ≡ t → TailFinished t result g old.tails level shadow.slot shadow.len old.told new.told → shadow.len % block_cells g ≢ 0
      by-test true e w = absurd (false≢true (sym refused ∙ w.1))
      by-test false e w = shape.unsaved level device e

  pub finish-shape : IsShape g front new.shadows new.tails
  finish-shape =
      shape-by g front old.shadows new.shadows old.tails new.tails level (record shadow { saved = is_ok result }) shape finished.shadow (ap (λ (xs : List ℕ). length xs) finished.tails)
      (record { slot_in = stands.slot_in; within = stands.within }) (λ on. still-unsaved)

  after-saved : (b c : List ℕ) → IsBacked g old.shadows old.tails b → Way g old.tails b c level shadow (is_ok result) → is_ok result ≡ true → IsSaved g new.shadows new.tails c level
  after-saved b c backed way accepted =
      subst (λ (x : Shadow). (i : ℕ) → is_in_tail (block_cells g) x x.slot i ≡ true → cell_bytes g.format c (number_of level x.slot i) ≡ cell_bytes g.format new.tails (tail_number g level i)) (sym finished.shadow.is)
      (λ i t. by-way i t way ∙ sym (ap (λ (xs : List ℕ). cell_bytes g.format xs (tail_number g level i)) finished.tails))
    where
      by-way : (i : ℕ) → is_in_tail (block_cells g) shadow shadow.slot i ≡ true → Way g old.tails b c level shadow (is_ok result) → cell_bytes g.format c (number_of level shadow.slot i) ≡ cell_bytes g.format old.tails (tail_number g level i)
      by-way i t (Same e is) = ap (λ (xs : List ℕ). cell_bytes g.format xs (number_of level shadow.slot i)) is ∙ backed.saved level device e i t
      by-way i t (Written e left many is exact) =
          let q = in-tail (block_cells g) shadow shadow.slot i t in
          ap (λ (xs : List ℕ). cell_bytes g.format xs (number_of level shadow.slot i)) (is ∙ ap (λ (xs : List ℕ). splice b (block_number g level shadow.slot shadow.len * block_bytes g) xs) (exact accepted))
          ∙ written-there g shape.block level shadow.slot shadow.len device.whole (ends-within g front old.shadows old.tails level shape device e) b (tail_of g old.tails level) backed.long whole i q.block_is
          ∙ tail-cell g old.tails level i

  pub finish-backed : IfSome old.told (IsBacked g old.shadows old.tails) → IfSome new.told (IsBacked g new.shadows new.tails)
  finish-backed backed =
      both-second old.told new.told (λ b c. IsBacked g old.shadows old.tails b × Way g old.tails b c level shadow (is_ok result)) (IsBacked g new.shadows new.tails)
      (λ b c w.
      backed-by g front old.shadows new.shadows old.tails new.tails b c level shadow.slot shadow.len (record shadow { saved = is_ok result }) shape w.0 finished.shadow (around b c w.0.long w.1) tails-stay (λ on. after-saved b c w.0 w.1))
      (ways backed)
