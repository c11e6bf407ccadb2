-- What a push to the shadow of a level on the device leaves of the cells.
use Rattle.std.proofs.Common.{◌≡◌, ◌≢◌, ◌⊎◌, inl, inr, ℕ, ◌+◌, ◌*◌, ◌/◌, ◌%◌, ◌<◌, ◌≤◌, Bool, true, false, List, length, Option, Some, IfSome, Result, Ok, Err, refl, sym, ap, subst, ◌∙◌, arith}
use Rattle.std.proofs.lemmas.Bool.{cases_eq, eqb-true, eqb-false, false≢true}
use Rattle.std.proofs.lemmas.Nat.{pow_pos}
use Rattle.std.specs.Option.{unwrap_or}
use Rattle.cola_outside.specs.Told.{Both}
use Rattle.cola_cell.specs.declared.cell.Cell.{Cell}
use Rattle.cola_cell.specs.declared.fault.PushFault.{PushFault}
use Rattle.cola_cell.specs.declared.fault.PushFault.TheVariants.{Device, Overfull}
use Rattle.cola_cell.specs.declared.sink.Shadow.{Shadow}
use Rattle.cola_cell.specs.Decoded.{spelling, spot_of_bytes}
use Rattle.cola_cell.specs.Flat.{shadow_at}
use Rattle.cola_cell.specs.Held.{as_cell, with_cell, IsElsewhere}
use Rattle.cola_cell.proofs.DecodedLemmas.{spot_told}
use Rattle.cola_cell.specs.Places.{slot_size, number_of, IsPlace}
use Rattle.cola_cell.specs.Shadows.{after_push}
use Rattle.cola_device.specs.Bytes.{splice, WroteSome}
use Rattle.cola_front.specs.Front.{FrontCells, cell_bytes}
use Rattle.cola_layout.specs.declared.geometry.Geometry.{Geometry}
use Rattle.cola_layout.proofs.Powers.{power-le}
use Rattle.cola_run.specs.Cells.{IsOnDevice, Lower, block_cells, block_bytes, file_bytes, block_number, tail_number, device_cell, Cells, known_spot, told_spot, spots_of, IsShadow, IsShape, IsSaved, IsBacked, cells_by}
use Rattle.cola_run.specs.Parts.{tail_of, fills, TailPushed, MetFault, IsPushed}
use Rattle.cola_run.proofs.Numbers.{next-full, next-same, one-place, last-place}
use Rattle.cola_run.proofs.Spots.{no-tail, both-all, both-so, both-same, both-with, both-second, with-told, IsInTail, in-tail, device-in, device-out, device-is, spot-there, spot-device, spots-stay, known-told}
use Rattle.cola_run.proofs.Steps.{tail_many, tail-cell, put-many, put-there, put-stays, written-there}
use Rattle.cola_run.proofs.Lowers.{IsAround, around-same, around-written, TailsStay, other-cell, backed-by, shape-by}

-- the three ways of a push: the cell stays in the tail; the block that it fills was not written; and it was
data Way (g : Geometry) (tails b c : List ℕ) (level : ℕ) (shadow now : Shadow) : Type 0 where
  More : fills g shadow.len ≡ false → c ≡ b → now ≡ record { slot = shadow.slot; len = shadow.len + 1; saved = fills g shadow.len } → Way g tails b c level shadow now
  Refused : fills g shadow.len ≡ true → (left : List ℕ) → length left ≡ length (tail_of g tails level) → c ≡ splice b (block_number g level shadow.slot shadow.len * block_bytes g) left
      → now ≡ record { slot = shadow.slot; len = shadow.len; saved = false } → Way g tails b c level shadow now
  Full : fills g shadow.len ≡ true → c ≡ splice b (block_number g level shadow.slot shadow.len * block_bytes g) (tail_of g tails level)
      → now ≡ record { slot = shadow.slot; len = shadow.len + 1; saved = fills g shadow.len } → Way g tails b c level shadow now

way-by : (g : Geometry) (tails b c : List ℕ) (level : ℕ) (shadow : Shadow) {T : Type 0} (result : Result T PushFault) (t : Bool) → fills g shadow.len ≡ t → MetFault result
    → TailPushed t result g tails level shadow.slot shadow.len (Some b) (Some c) → Way g tails b c level shadow (after_push (block_cells g) shadow result)
way-by g tails b c level shadow (Ok value) true e fault w =
    Full e (let v : WroteSome (Ok value) (block_number g level shadow.slot shadow.len * block_bytes g) (tail_of g tails level) b c = w in
    v.others_stay ∙ ap (λ (left : List ℕ). splice b (block_number g level shadow.slot shadow.len * block_bytes g) left) v.exact) refl
way-by g tails b c level shadow (Ok value) false e fault w = More e (ap (λ (o : Option (List ℕ)). unwrap_or o c) w.0) refl
way-by g tails b c level shadow (Err Device) true e fault w =
    Refused e w.left w.as_many w.others_stay refl
way-by g tails b c level shadow (Err Device) false e fault w = absurd (false≢true w.1)
way-by g tails b c level shadow (Err (Overfull l)) t e fault w = absurd fault

module _ (g : Geometry) (front : FrontCells) (old new : Lower) (level : ℕ) (cell : Cell) {T : Type 0} (result : Result T PushFault)
    (shape : IsShape g front old.shadows old.tails) (device : IsOnDevice g level) (room : (shadow_at old.shadows level).len < slot_size level) (pushed : IsPushed g old new level cell result) where
  abbrev shadow : Shadow
  shadow = shadow_at old.shadows level

  abbrev now : Shadow
  now = shadow_at new.shadows level

  some : 0 < block_cells g
  some = pow_pos g.block_exp

  stands : IsShadow level shadow
  stands = shape.shadows_fit level device.within

  place : IsPlace (g.bottom + 1) level shadow.slot shadow.len
  place = record { level_in = (let low : level ≤ g.bottom = device.within in omega (arith, low)); slot_in = stands.slot_in; index_in = room }

  tails-many : length new.tails ≡ length old.tails
  tails-many = ap (λ (xs : List ℕ). length xs) pushed.tails ∙ put-many g old.tails (spelling g.format cell) level shadow.len shape.block device shape.tails_many pushed.spelled.size

  tails-stay : TailsStay g old.tails new.tails level
  tails-stay l i on apart = ap (λ (xs : List ℕ). cell_bytes g.format xs (tail_number g l i)) pushed.tails
      ∙ put-stays g old.tails (spelling g.format cell) level shadow.len shape.block device shape.tails_many pushed.spelled.size l i on (inl apart)

  tail-stays : (i : ℕ) → i % block_cells g ≢ shadow.len % block_cells g → cell_bytes g.format new.tails (tail_number g level i) ≡ cell_bytes g.format old.tails (tail_number g level i)
  tail-stays i apart = ap (λ (xs : List ℕ). cell_bytes g.format xs (tail_number g level i)) pushed.tails
      ∙ put-stays g old.tails (spelling g.format cell) level shadow.len shape.block device shape.tails_many pushed.spelled.size level i device (inr apart)

  tail-there : cell_bytes g.format new.tails (tail_number g level shadow.len) ≡ spelling g.format cell
  tail-there = ap (λ (xs : List ℕ). cell_bytes g.format xs (tail_number g level shadow.len)) pushed.tails ∙ put-there g old.tails (spelling g.format cell) level shadow.len shape.block device shape.tails_many pushed.spelled.size

  whole : length (tail_of g new.tails level) ≡ block_bytes g
  whole = tail_many g new.tails level shape.block device (tails-many ∙ shape.tails_many)

  -- the next cell begins a block where the push fills one
  begins : fills g shadow.len ≡ true → (shadow.len + 1) % block_cells g ≡ 0
  begins = eqb-true ((shadow.len + 1) % block_cells g) 0

  -- a cell of the tail other than the one that was put
  in-old : (i : ℕ) → IsInTail (block_cells g) shadow shadow.slot i → cell_bytes g.format new.tails (tail_number g level i) ≡ cell_bytes g.format old.tails (tail_number g level i)
  in-old i q = tail-stays i (λ e. omega (arith, q.within, one-place (block_cells g) i shadow.len some q.block_is e))

  -- a place of the shadow's slot that is not in the tail, and is not the shadow's end, is in another block where that is full
  out-full : (s i : ℕ) → fills g shadow.len ≡ true → (IsInTail (block_cells g) shadow s i → ⊥) → (s ≢ shadow.slot) ⊎ (i ≢ shadow.len) → (s ≢ shadow.slot) ⊎ (i / block_cells g ≢ shadow.len / block_cells g)
  out-full s i full d apart = elim (cases_eq s shadow.slot) [
    | inr other ↦ inl other
    | inl same ↦ inr (λ e.
        elim apart [
          | inl h ↦ h same
          | inr h ↦ d (record { slot_is = same; block_is = e; within = omega (arith, last-place (block_cells g) i shadow.len some e (next-full (block_cells g) shadow.len some (begins full)), h) })
        ])
  ]

  -- the device after the push
  around : (b c : List ℕ) (after : Shadow) → file_bytes g ≤ length b → Way g new.tails b c level shadow after → IsAround g b c level shadow.slot shadow.len
  around b c after holds (More e same is) = around-same g b c level shadow.slot shadow.len same
  around b c after holds (Refused e left many at is) = around-written g shape.block b c left level shadow.slot shadow.len device.whole place holds (many ∙ whole) at
  around b c after holds (Full e at is) = around-written g shape.block b c (tail_of g new.tails level) level shadow.slot shadow.len device.whole place holds whole at

  -- the cells of this level but the one at the shadow's end
  this-cell : (b c : List ℕ) (s i : ℕ) → file_bytes g ≤ length b → Way g new.tails b c level shadow now → IsPlace (g.bottom + 1) level s i → (s ≢ shadow.slot) ⊎ (i ≢ shadow.len) →
      device_cell g new.shadows new.tails c level s i ≡ device_cell g old.shadows old.tails b level s i
  this-cell b c s i holds (More e same is) p apart =
      let slots : now.slot ≡ shadow.slot = ap (λ (x : Shadow). x.slot) is in
      let lens : now.len ≡ shadow.len + 1 = ap (λ (x : Shadow). x.len) is in
      let blocks : now.len / block_cells g ≡ shadow.len / block_cells g = ap (λ (n : ℕ). n / block_cells g) lens ∙ next-same (block_cells g) shadow.len some (eqb-false ((shadow.len + 1) % block_cells g) 0 e) in
      device-is g old.shadows old.tails b level s i (device_cell g new.shadows new.tails c level s i)
      (λ q.
      let h : i < shadow.len = q.within in
      device-in g new.shadows new.tails c level s i (record { slot_is = q.slot_is ∙ sym slots; block_is = q.block_is ∙ sym blocks; within = omega (arith, h, lens) })
      ∙ in-old i (record { slot_is = refl; block_is = q.block_is; within = h }))
      (λ d.
      device-out g new.shadows new.tails c level s i
      (λ q.
      elim apart [
        | inl x ↦ x (q.slot_is ∙ slots)
        | inr x ↦ d (record { slot_is = q.slot_is ∙ slots; block_is = q.block_is ∙ blocks; within = omega (arith, q.within, lens, x) })
      ])
      ∙ ap (λ (xs : List ℕ). cell_bytes g.format xs (number_of level s i)) same)
  this-cell b c s i holds (Refused e left many at is) p apart =
      let slots : now.slot ≡ shadow.slot = ap (λ (x : Shadow). x.slot) is in
      let lens : now.len ≡ shadow.len = ap (λ (x : Shadow). x.len) is in
      device-is g old.shadows old.tails b level s i (device_cell g new.shadows new.tails c level s i)
      (λ q.
      let h : i < shadow.len = q.within in
      device-in g new.shadows new.tails c level s i (record { slot_is = q.slot_is ∙ sym slots; block_is = q.block_is ∙ ap (λ (n : ℕ). n / block_cells g) (sym lens); within = omega (arith, h, lens) })
      ∙ in-old i (record { slot_is = refl; block_is = q.block_is; within = h }))
      (λ d.
      device-out g new.shadows new.tails c level s i
      (λ q.
      d (record { slot_is = q.slot_is ∙ slots; block_is = q.block_is ∙ ap (λ (n : ℕ). n / block_cells g) lens; within = omega (arith, q.within, lens) }))
      ∙ (around b c now holds (Refused e left many at is)).stays level s i device.whole p (inr (out-full s i e d apart)))
  this-cell b c s i holds (Full e at is) p apart =
      let none = no-tail (block_cells g) now s i some (ap (λ (x : Shadow). x.len % block_cells g) is ∙ begins e) in
      device-is g old.shadows old.tails b level s i (device_cell g new.shadows new.tails c level s i)
      (λ q.
      device-out g new.shadows new.tails c level s i none
      ∙ ap (λ (x : ℕ). cell_bytes g.format c (number_of level x i)) q.slot_is
      ∙ there b c holds at i q.block_is
      ∙ in-old i (record { slot_is = refl; block_is = q.block_is; within = q.within }))
      (λ d.
      device-out g new.shadows new.tails c level s i none
      ∙ (around b c now holds (Full e at is)).stays level s i device.whole p (inr (out-full s i e d apart)))
    where
      there : (b c : List ℕ) → file_bytes g ≤ length b → c ≡ splice b (block_number g level shadow.slot shadow.len * block_bytes g) (tail_of g new.tails level) → (i : ℕ) → i / block_cells g ≡ shadow.len / block_cells g
          → cell_bytes g.format c (number_of level shadow.slot i) ≡ cell_bytes g.format new.tails (tail_number g level i)
      there b c holds at i block =
          ap (λ (xs : List ℕ). cell_bytes g.format xs (number_of level shadow.slot i)) at
          ∙ written-there g shape.block level shadow.slot shadow.len device.whole place b (tail_of g new.tails level) holds whole i block
          ∙ tail-cell g new.tails level i

  -- the cell at the shadow's end
  end-cell : (b c : List ℕ) → file_bytes g ≤ length b → (value : T) → result ≡ Ok value → Way g new.tails b c level shadow now → device_cell g new.shadows new.tails c level shadow.slot shadow.len ≡ spelling g.format cell
  end-cell b c holds value ok (More e same is) =
      let slots : now.slot ≡ shadow.slot = ap (λ (x : Shadow). x.slot) is in
      let lens : now.len ≡ shadow.len + 1 = ap (λ (x : Shadow). x.len) is in
      device-in g new.shadows new.tails c level shadow.slot shadow.len
      (record { slot_is = sym slots; block_is = sym (ap (λ (n : ℕ). n / block_cells g) lens ∙ next-same (block_cells g) shadow.len some (eqb-false ((shadow.len + 1) % block_cells g) 0 e)); within = omega (arith, lens) })
      ∙ tail-there
  end-cell b c holds value ok (Refused e left many at is) =
      let lens : now.len ≡ shadow.len = ap (λ (x : Shadow). x.len) is in
      absurd (omega (arith, lens, ap (λ (x : Shadow). x.len) (pushed.longer.shadow.is ∙ ap (λ (r : Result T PushFault). after_push (block_cells g) shadow r) ok)))
  end-cell b c holds value ok (Full e at is) =
      device-out g new.shadows new.tails c level shadow.slot shadow.len (no-tail (block_cells g) now shadow.slot shadow.len some (ap (λ (x : Shadow). x.len % block_cells g) is ∙ begins e))
      ∙ ap (λ (xs : List ℕ). cell_bytes g.format xs (number_of level shadow.slot shadow.len)) at
      ∙ written-there g shape.block level shadow.slot shadow.len device.whole place b (tail_of g new.tails level) holds whole shadow.len refl
      ∙ tail-cell g new.tails level shadow.len
      ∙ tail-there

  -- what the device tells after the push
  way-told : Both old.told new.told (λ b c. Way g new.tails b c level shadow now)
  way-told = by-test (fills g shadow.len) refl pushed.longer.device
    where
      back : (b c : List ℕ) → Way g new.tails b c level shadow (after_push (block_cells g) shadow result) → Way g new.tails b c level shadow now
      back b c w = subst (λ (x : Shadow). Way g new.tails b c level shadow x) (sym pushed.longer.shadow.is) w

      by-test : (t : Bool) → fills g shadow.len ≡ t → TailPushed t result g new.tails level shadow.slot shadow.len old.told new.told → Both old.told new.told (λ b c. Way g new.tails b c level shadow now)
      by-test true e w =
          both-so old.told new.told (WroteSome result (block_number g level shadow.slot shadow.len * block_bytes g) (tail_of g new.tails level)) (λ b c. Way g new.tails b c level shadow now)
          (λ b c v. back b c (way-by g new.tails b c level shadow result true e pushed.longer.fault v)) w
      by-test false e w =
          subst (λ (x : Option (List ℕ)). Both old.told x (λ b c. Way g new.tails b c level shadow now)) (sym w.0)
          (both-same old.told (λ b c. Way g new.tails b c level shadow now) (λ b. back b b (way-by g new.tails b b level shadow result false e pushed.longer.fault (refl, w.1))))

  -- the device tells its bytes where it told them before
  pub push-told : Both old.told new.told (λ _ _. Unit {0})
  push-told = both-so old.told new.told (λ b c. Way g new.tails b c level shadow now) (λ _ _. Unit {0}) (λ _ _ _. tt) way-told

  abbrev ways : IfSome old.told (IsBacked g old.shadows old.tails) → Both old.told new.told (λ b c. IsBacked g old.shadows old.tails b × Way g new.tails b c level shadow now)
  ways backed = both-with old.told new.told (IsBacked g old.shadows old.tails) (λ b c. Way g new.tails b c level shadow now) backed way-told

  -- what is told of every other place stays
  pub push-stays : IfSome old.told (IsBacked g old.shadows old.tails) → (l s i : ℕ) → IsElsewhere level shadow.slot shadow.len l s i →
      spots_of (cells_by g front new) l s i ≡ spots_of (cells_by g front old) l s i
  push-stays backed l s i apart =
      spots-stay g front front old new l s i (λ p low. refl)
      (both-so old.told new.told (λ b c. IsBacked g old.shadows old.tails b × Way g new.tails b c level shadow now)
      (λ b c. IsPlace (g.bottom + 1) l s i → g.block_exp ≤ l + 2 → device_cell g new.shadows new.tails c l s i ≡ device_cell g old.shadows old.tails b l s i)
      (λ b c w p high. elim (cases_eq l level) [
        | inr other ↦ other-cell g old.shadows new.shadows old.tails new.tails b c level shadow.slot shadow.len (after_push (block_cells g) shadow result) pushed.longer.shadow (around b c now w.0.long w.1) tails-stay l s i p high other
        | inl same ↦
            let here : (s ≢ shadow.slot) ⊎ (i ≢ shadow.len) = elim apart [ inl h ↦ absurd (h same) | inr h ↦ h ] in
            subst (λ (x : ℕ). device_cell g new.shadows new.tails c x s i ≡ device_cell g old.shadows old.tails b x s i) (sym same)
            (this-cell b c s i w.0.long w.1 (subst (λ (x : ℕ). IsPlace (g.bottom + 1) x s i) same p) here)
      ])
      (ways backed))

  abbrev after : Cells
  after = record { geometry = g; front = front; lower = new }

  abbrev before : Cells
  before = record { geometry = g; front = front; lower = old }

  -- what is told of the shadow's end is the cell
  pub push-end : IfSome old.told (IsBacked g old.shadows old.tails) → (value : T) → result ≡ Ok value →
      spots_of (cells_by g front new) level shadow.slot shadow.len ≡ with_cell (spots_of (cells_by g front old) level shadow.slot shadow.len) (as_cell cell)
  push-end backed value ok =
      both-all (λ b c. IsBacked g old.shadows old.tails b × Way g new.tails b c level shadow now)
      (λ x y. told_spot after y level shadow.slot shadow.len ≡ with_cell (told_spot before x level shadow.slot shadow.len) (as_cell cell)) refl
      (λ b c w.
      spot-there after c level shadow.slot shadow.len place
      ∙ spot-device after c level shadow.slot shadow.len device.whole
      ∙ ap (λ (x : List ℕ). spot_of_bytes g.format x) (end-cell b c w.0.long value ok w.1)
      ∙ spot_told g.format cell (spelling g.format cell) pushed.spelled
      ∙ with-told (known_spot before b level shadow.slot shadow.len) (as_cell cell) (known-told before b level shadow.slot shadow.len))
      old.told new.told (ways backed)

  -- the shape stays
  after-stands : IsShadow level (after_push (block_cells g) shadow result)
  after-stands = by-result result
    where
      by-result : (r : Result T PushFault) → IsShadow level (after_push (block_cells g) shadow r)
      by-result (Ok value) = record { slot_in = stands.slot_in; within = omega (arith, room) }
      by-result (Err Device) = record { slot_in = stands.slot_in; within = stands.within }
      by-result (Err (Overfull l)) = stands

  after-unsaved : (after_push (block_cells g) shadow result).saved ≡ false → (after_push (block_cells g) shadow result).len % block_cells g ≢ 0
  after-unsaved = by-result result (fills g shadow.len) refl pushed.longer.fault pushed.longer.device
    where
      by-result : (r : Result T PushFault) (t : Bool) → fills g shadow.len ≡ t → MetFault r → TailPushed t r g new.tails level shadow.slot shadow.len old.told new.told → (after_push (block_cells g) shadow r).saved ≡ false
          → (after_push (block_cells g) shadow r).len % block_cells g ≢ 0
      by-result (Ok value) t e fault w is = eqb-false ((shadow.len + 1) % block_cells g) 0 is
      by-result (Err Device) true e fault w is =
          λ z. omega (arith, next-full (block_cells g) shadow.len some (begins e), power-le 3 g.block_exp shape.block.group, z)
      by-result (Err Device) false e fault w is = absurd (false≢true w.1)
      by-result (Err (Overfull l)) t e fault w is = absurd fault

  pub push-shape : IsShape g front new.shadows new.tails
  push-shape = shape-by g front old.shadows new.shadows old.tails new.tails level (after_push (block_cells g) shadow result) shape pushed.longer.shadow tails-many after-stands (λ on. after-unsaved)

  -- what is saved is on the device
  after-saved : (b c : List ℕ) → Way g new.tails b c level shadow now → (after_push (block_cells g) shadow result).saved ≡ true → IsSaved g new.shadows new.tails c level
  after-saved b c (More e same is) saved = absurd (false≢true (sym e ∙ sym (ap (λ (x : Shadow). x.saved) (sym pushed.longer.shadow.is ∙ is)) ∙ saved))
  after-saved b c (Refused e left many at is) saved = absurd (false≢true (sym (ap (λ (x : Shadow). x.saved) (sym pushed.longer.shadow.is ∙ is)) ∙ saved))
  after-saved b c (Full e at is) saved = λ i t.
      absurd (no-tail (block_cells g) now now.slot i some (ap (λ (x : Shadow). x.len % block_cells g) is ∙ begins e) (in-tail (block_cells g) now now.slot i t))

  pub push-backed : IfSome old.told (IsBacked g old.shadows old.tails) → IfSome new.told (IsBacked g new.shadows new.tails)
  push-backed backed =
      both-second old.told new.told (λ b c. IsBacked g old.shadows old.tails b × Way g new.tails b c level shadow now) (IsBacked g new.shadows new.tails)
      (λ b c w.
      backed-by g front old.shadows new.shadows old.tails new.tails b c level shadow.slot shadow.len (after_push (block_cells g) shadow result) shape w.0 pushed.longer.shadow (around b c now w.0.long w.1) tails-stay (λ on. after-saved b c w.1))
      (ways backed)
