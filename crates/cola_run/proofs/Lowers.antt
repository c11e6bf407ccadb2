-- What lies below the front, where one level of it changes.
use Rattle.std.proofs.Common.{◌≡◌, ◌≢◌, ◌⊎◌, inl, inr, ℕ, ◌+◌, ◌*◌, ◌/◌, ◌%◌, ◌<◌, ◌≤◌, true, false, List, length, sym, ap, subst, ◌∙◌, arith}
use Rattle.std.proofs.lemmas.Bool.{cases_eq}
use Rattle.cola_cell.specs.declared.sink.Shadow.{Shadow}
use Rattle.cola_cell.specs.Flat.{shadow_at}
use Rattle.cola_cell.specs.Places.{number_of, IsPlace}
use Rattle.cola_device.specs.Bytes.{splice}
use Rattle.cola_front.specs.Front.{FrontCells, cell_bytes}
use Rattle.cola_layout.specs.declared.geometry.Geometry.{Geometry}
use Rattle.cola_layout.specs.Geometry.{IsBlock}
use Rattle.cola_run.specs.Cells.{IsOnDevice, block_cells, block_bytes, file_bytes, block_number, tail_number, is_in_tail, device_cell, IsShadow, IsShape, IsSaved, IsBacked}
use Rattle.cola_run.specs.Parts.{OneShadow}
use Rattle.cola_run.proofs.Spots.{IsInTail, in-tail, device-in, device-out, device-is}
use Rattle.cola_run.proofs.Steps.{written-many, written-stays}

-- a device on which at most the block of a place changed
pub record IsAround (g : Geometry) (before now : List ℕ) (level slot index : ℕ) : Type 0 where
  pub many : length now ≡ length before
  pub stays : (l s i : ℕ) → g.block_exp ≤ l + 2 → IsPlace (g.bottom + 1) l s i → (l ≢ level) ⊎ (s ≢ slot) ⊎ (i / block_cells g ≢ index / block_cells g) →
      cell_bytes g.format now (number_of l s i) ≡ cell_bytes g.format before (number_of l s i)

-- one that stayed is such a device
pub around-same : (g : Geometry) (before now : List ℕ) (level slot index : ℕ) → now ≡ before → IsAround g before now level slot index
around-same g before now level slot index same = record {
  many = ap (λ (xs : List ℕ). length xs) same;
  stays = λ l s i on p apart. ap (λ (xs : List ℕ). cell_bytes g.format xs (number_of l s i)) same;
}

-- and so is one to which a block was written
pub around-written : (g : Geometry) (fits : IsBlock g.block_exp g.bottom) (before now left : List ℕ) (level slot index : ℕ) → g.block_exp ≤ level + 2 → IsPlace (g.bottom + 1) level slot index
    → file_bytes g ≤ length before → length left ≡ block_bytes g → now ≡ splice before (block_number g level slot index * block_bytes g) left → IsAround g before now level slot index
around-written g fits before now left level slot index high place long whole is = record {
  many = ap (λ (xs : List ℕ). length xs) is ∙ written-many g fits level slot index high place before left long whole;
  stays = λ l s i on p apart. ap (λ (xs : List ℕ). cell_bytes g.format xs (number_of l s i)) is ∙ written-stays g fits level slot index high place before left long whole l s i on p apart;
}

-- the tails of other levels stay
abbrev pub TailsStay : Geometry → List ℕ → List ℕ → ℕ → Type 0
TailsStay g before now level = (l i : ℕ) → IsOnDevice g l → l ≢ level → cell_bytes g.format now (tail_number g l i) ≡ cell_bytes g.format before (tail_number g l i)

-- a place of a level that lies on the device
pub on-device : (g : Geometry) (l s i : ℕ) → IsPlace (g.bottom + 1) l s i → g.block_exp ≤ l + 2 → IsOnDevice g l
on-device g l s i p high = let low : l < g.bottom + 1 = p.level_in in record { within = omega (arith, low); whole = high }

-- the cells of other levels stay, and so does what of them is saved
module _ (g : Geometry) (shadows shadows_now : List Shadow) (tails tails_now before now : List ℕ) (level slot index : ℕ) (shadow : Shadow)
    (one : OneShadow shadows shadows_now level shadow) (around : IsAround g before now level slot index) (stay : TailsStay g tails tails_now level) where
  pub other-cell : (l s i : ℕ) → IsPlace (g.bottom + 1) l s i → g.block_exp ≤ l + 2 → l ≢ level →
      device_cell g shadows_now tails_now now l s i ≡ device_cell g shadows tails before l s i
  other-cell l s i p high apart =
      let same : shadow_at shadows_now l ≡ shadow_at shadows l = one.others l apart in
      device-is g shadows tails before l s i (device_cell g shadows_now tails_now now l s i)
      (λ q. device-in g shadows_now tails_now now l s i (subst (λ (x : Shadow). IsInTail (block_cells g) x s i) (sym same) q) ∙ stay l i (on-device g l s i p high) apart)
      (λ d. device-out g shadows_now tails_now now l s i (λ q. d (subst (λ (x : Shadow). IsInTail (block_cells g) x s i) same q)) ∙ around.stays l s i high p (inl apart))

  pub other-saved : (l : ℕ) → IsOnDevice g l → l ≢ level → IsShadow l (shadow_at shadows l) → IsSaved g shadows tails before l → IsSaved g shadows_now tails_now now l
  other-saved l on apart stands saved =
      subst (λ (x : Shadow). (i : ℕ) → is_in_tail (block_cells g) x x.slot i ≡ true → cell_bytes g.format now (number_of l x.slot i) ≡ cell_bytes g.format tails_now (tail_number g l i)) (sym (one.others l apart))
      (λ i e.
      let x = shadow_at shadows l in
      let q = in-tail (block_cells g) x x.slot i e in
      let p : IsPlace (g.bottom + 1) l x.slot i = record { level_in = omega (arith, on.within); slot_in = stands.slot_in; index_in = omega (arith, q.within, stands.within) } in
      around.stays l x.slot i on.whole p (inl apart) ∙ saved i e ∙ sym (stay l i on apart))

-- what is saved of all levels, by the one that changed and the others
pub backed-by : (g : Geometry) (front : FrontCells) (shadows shadows_now : List Shadow) (tails tails_now before now : List ℕ) (level slot index : ℕ) (shadow : Shadow) → IsShape g front shadows tails
    → IsBacked g shadows tails before → OneShadow shadows shadows_now level shadow → IsAround g before now level slot index → TailsStay g tails tails_now level
    → (IsOnDevice g level → shadow.saved ≡ true → IsSaved g shadows_now tails_now now level) → IsBacked g shadows_now tails_now now
backed-by g front shadows shadows_now tails tails_now before now level slot index shadow shape backed one around stay own = record {
  long = let h = backed.long in let m = around.many in omega (arith, h, m);
  saved = λ l on is. elim (cases_eq l level) [
    | inl e ↦ subst (λ (x : ℕ). IsSaved g shadows_now tails_now now x) (sym e) (own (subst (λ (x : ℕ). IsOnDevice g x) e on) (sym (ap (λ (x : Shadow). x.saved) (ap (λ (x : ℕ). shadow_at shadows_now x) e ∙ one.is)) ∙ is))
    | inr apart ↦
        other-saved g shadows shadows_now tails tails_now before now level slot index shadow one around stay l on apart (shape.shadows_fit l on.within)
        (backed.saved l on (sym (ap (λ (x : Shadow). x.saved) (one.others l apart)) ∙ is))
  ];
}

-- the shape of a store of which one shadow changed
pub shape-by : (g : Geometry) (front : FrontCells) (shadows shadows_now : List Shadow) (tails tails_now : List ℕ) (level : ℕ) (shadow : Shadow) → IsShape g front shadows tails
    → OneShadow shadows shadows_now level shadow → length tails_now ≡ length tails → IsShadow level shadow → (IsOnDevice g level → shadow.saved ≡ false → shadow.len % block_cells g ≢ 0)
    → IsShape g front shadows_now tails_now
shape-by g front shadows shadows_now tails tails_now level shadow shape one many stands unsaved = record {
  block = shape.block;
  shallow = shape.shallow;
  format = shape.format;
  front_block = shape.front_block;
  shadows_many = one.many ∙ shape.shadows_many;
  shadows_fit = λ l low. elim (cases_eq l level) [
    | inl e ↦ subst (λ (x : ℕ). IsShadow x (shadow_at shadows_now x)) (sym e) (subst (λ (x : Shadow). IsShadow level x) (sym one.is) stands)
    | inr apart ↦ subst (λ (x : Shadow). IsShadow l x) (sym (one.others l apart)) (shape.shadows_fit l low)
  ];
  tails_many = many ∙ shape.tails_many;
  unsaved = λ l on is. elim (cases_eq l level) [
    | inl e ↦
        let now : shadow_at shadows_now l ≡ shadow = ap (λ (x : ℕ). shadow_at shadows_now x) e ∙ one.is in
        subst (λ (x : Shadow). x.len % block_cells g ≢ 0) (sym now) (unsaved (subst (λ (x : ℕ). IsOnDevice g x) e on) (sym (ap (λ (x : Shadow). x.saved) now) ∙ is))
    | inr apart ↦
        let now : shadow_at shadows_now l ≡ shadow_at shadows l = one.others l apart in
        subst (λ (x : Shadow). x.len % block_cells g ≢ 0) (sym now) (shape.unsaved l on (sym (ap (λ (x : Shadow). x.saved) now) ∙ is))
  ];
}
