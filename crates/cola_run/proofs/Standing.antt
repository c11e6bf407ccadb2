-- What a change of one shadow, and of the front, leaves of the cells where the device and the tails stay.
use Rattle.std.proofs.Common.{◌≡◌, ◌≢◌, ◌⊎◌, inl, inr, ℕ, ◌+◌, ◌%◌, ◌<◌, ◌≤◌, true, false, List, length, Option, None, Some, IfSome, refl, sym, ap, subst, ◌∙◌, arith, set, length-set}
use Rattle.std.proofs.lemmas.Bool.{cases_eq, false≢true}
use Rattle.std.proofs.lemmas.List.{get_or-set_same, get_or-set_other}
use Rattle.std.proofs.lemmas.Option.{IfSome_then}
use Rattle.cola_outside.specs.Told.{Both}
use Rattle.cola_cell.specs.declared.cell.Cell.{Cell}
use Rattle.cola_cell.specs.declared.sink.Shadow.{Shadow}
use Rattle.cola_cell.specs.Flat.{shadow_at, spot_of}
use Rattle.cola_cell.specs.Held.{as_cell, with_cell, IsElsewhere}
use Rattle.cola_cell.specs.Places.{number_of, IsPlace}
use Rattle.cola_cell.specs.Shadows.{emptied}
use Rattle.cola_front.specs.Front.{FrontCells, cell_at, cell_bytes}
use Rattle.cola_layout.specs.declared.geometry.Geometry.{Geometry}
use Rattle.cola_layout.proofs.Places.{place-differ}
use Rattle.cola_run.specs.Cells.{IsOnDevice, Lower, Cells, block_cells, tail_number, device_cell, known_spot, told_spot, spots_of, IsShadow, IsShape, IsSaved, IsBacked, cells_by}
use Rattle.cola_run.specs.Parts.{OneShadow}
use Rattle.cola_run.proofs.Spots.{IsInTail, in-tail, tail-is, device-out, device-is, spot-there, spot-front, spots-stay, known-told, with-told, if-told}
use Rattle.cola_run.proofs.Lowers.{around-same, other-cell, backed-by, shape-by, TailsStay}

-- one shadow changed, by setting it
pub one-set : (shadows : List Shadow) (level : ℕ) (shadow : Shadow) → level < length shadows → OneShadow shadows (set shadows level shadow) level shadow
one-set shadows level shadow within = record {
  many = length-set shadows level shadow;
  is = get_or-set_same shadows level shadow (emptied 1) within;
  others = λ other apart. get_or-set_other shadows level other shadow (emptied 1) apart;
}

module _ (g : Geometry) (front now : FrontCells) (old new : Lower) (level : ℕ) (shadow : Shadow) (shape : IsShape g front old.shadows old.tails)
    (told : new.told ≡ old.told) (tails : new.tails ≡ old.tails) (one : OneShadow old.shadows new.shadows level shadow) where
  tails-stay : TailsStay g old.tails new.tails level
  tails-stay l i on apart = ap (λ (xs : List ℕ). cell_bytes g.format xs (tail_number g l i)) tails

  -- what is told stays where the front does, and at this level where the bytes do
  pub shadow-stays : (l s i : ℕ) → (IsPlace (g.bottom + 1) l s i → l + 2 < g.block_exp → cell_at now (number_of l s i) ≡ cell_at front (number_of l s i)) →
      IfSome old.told (λ b. l ≡ level → IsPlace (g.bottom + 1) level s i → g.block_exp ≤ level + 2 → device_cell g new.shadows new.tails b level s i ≡ device_cell g old.shadows old.tails b level s i) →
      spots_of (cells_by g now new) l s i ≡ spots_of (cells_by g front old) l s i
  shadow-stays l s i fronts own =
      spots-stay g front now old new l s i fronts
      (subst (λ (x : Option (List ℕ)). Both old.told x (λ b c. IsPlace (g.bottom + 1) l s i → g.block_exp ≤ l + 2 → device_cell g new.shadows new.tails c l s i ≡ device_cell g old.shadows old.tails b l s i)) (sym told)
      (by-case old.told own))
    where
      by-case : (x : Option (List ℕ)) → IfSome x (λ b. l ≡ level → IsPlace (g.bottom + 1) level s i → g.block_exp ≤ level + 2 → device_cell g new.shadows new.tails b level s i ≡ device_cell g old.shadows old.tails b level s i)
          → Both x x (λ b c. IsPlace (g.bottom + 1) l s i → g.block_exp ≤ l + 2 → device_cell g new.shadows new.tails c l s i ≡ device_cell g old.shadows old.tails b l s i)
      by-case None h = tt
      by-case (Some b) h =
          λ p high. elim (cases_eq l level) [
            | inr other ↦ other-cell g old.shadows new.shadows old.tails new.tails b b level 0 0 shadow one (around-same g b b level 0 0 refl) tails-stay l s i p high other
            | inl same ↦ subst (λ (x : ℕ). device_cell g new.shadows new.tails b x s i ≡ device_cell g old.shadows old.tails b x s i) (sym same)
                (h same (subst (λ (x : ℕ). IsPlace (g.bottom + 1) x s i) same p) (subst (λ (x : ℕ). g.block_exp ≤ x + 2) same high))
          ]

  pub shadow-shape : IsShadow level shadow → (IsOnDevice g level → shadow.saved ≡ false → shadow.len % block_cells g ≢ 0) → IsShape g front new.shadows new.tails
  shadow-shape stands unsaved = shape-by g front old.shadows new.shadows old.tails new.tails level shadow shape one (ap (λ (xs : List ℕ). length xs) tails) stands unsaved

  pub shadow-backed : IfSome old.told (IsBacked g old.shadows old.tails) → IfSome old.told (λ b. IsOnDevice g level → shadow.saved ≡ true → IsSaved g new.shadows new.tails b level) → IfSome new.told (IsBacked g new.shadows new.tails)
  shadow-backed backed own = subst (λ (x : Option (List ℕ)). IfSome x (IsBacked g new.shadows new.tails)) (sym told) (by-case old.told backed own)
    where
      by-case : (x : Option (List ℕ)) → IfSome x (IsBacked g old.shadows old.tails) → IfSome x (λ b. IsOnDevice g level → shadow.saved ≡ true → IsSaved g new.shadows new.tails b level) → IfSome x (IsBacked g new.shadows new.tails)
      by-case None b h = tt
      by-case (Some bytes) b h = backed-by g front old.shadows new.shadows old.tails new.tails bytes bytes level 0 0 shadow shape b one (around-same g bytes bytes level 0 0 refl) tails-stay h

-- a shadow of a level on the device is given up, and an empty one stands in another place
module _ (g : Geometry) (front : FrontCells) (old new : Lower) (level slot : ℕ) (shape : IsShape g front old.shadows old.tails)
    (told : new.told ≡ old.told) (tails : new.tails ≡ old.tails) (one : OneShadow old.shadows new.shadows level (emptied slot)) where
  none : (s i : ℕ) → IsInTail (block_cells g) (shadow_at new.shadows level) s i → ⊥
  none s i q = omega (arith, q.within, ap (λ (x : Shadow). x.len) one.is)

  -- the cells that are not in its tail stay
  pub restart-others : (l s i : ℕ) → (l ≢ level) ⊎ (s ≢ (shadow_at old.shadows level).slot) ⊎ ((shadow_at old.shadows level).len ≤ i) →
      spots_of (cells_by g front new) l s i ≡ spots_of (cells_by g front old) l s i
  restart-others l s i apart =
      shadow-stays g front front old new level (emptied slot) shape told tails one l s i (λ p low. refl)
      (if-told old.told (λ b same p high.
      device-out g new.shadows new.tails b level s i (none s i)
      ∙ sym (device-out g old.shadows old.tails b level s i (λ q.
      elim apart [ inl x ↦ x same | inr x ↦ elim x [ inl y ↦ y q.slot_is | inr y ↦ omega (arith, q.within, y) ] ]))))

  -- all of them do where those of its tail are on the device
  pub restart-kept : IfSome old.told (IsBacked g old.shadows old.tails) → (g.block_exp ≤ level + 2 → (shadow_at old.shadows level).saved ≡ true) → (l s i : ℕ) →
      spots_of (cells_by g front new) l s i ≡ spots_of (cells_by g front old) l s i
  restart-kept backed saved l s i =
      shadow-stays g front front old new level (emptied slot) shape told tails one l s i (λ p low. refl)
      (IfSome_then old.told backed
      (λ b h same p high.
      let low : level < g.bottom + 1 = p.level_in in
      let sh = shadow_at old.shadows level in
      device-is g old.shadows old.tails b level s i (device_cell g new.shadows new.tails b level s i)
      (λ q.
      device-out g new.shadows new.tails b level s i (none s i)
      ∙ ap (λ (x : ℕ). cell_bytes g.format b (number_of level x i)) q.slot_is
      ∙ h.saved level (record { within = omega (arith, low); whole = high }) (saved high) i (tail-is (block_cells g) sh sh.slot i (record { slot_is = refl; block_is = q.block_is; within = q.within })))
      (λ d. device-out g new.shadows new.tails b level s i (none s i))))

  pub restart-shape : slot < 2 → IsShape g front new.shadows new.tails
  restart-shape within = shadow-shape g front front old new level (emptied slot) shape told tails one (record { slot_in = within; within = omega arith }) (λ on e. absurd (false≢true (sym e)))

  pub restart-backed : IfSome old.told (IsBacked g old.shadows old.tails) → IfSome new.told (IsBacked g new.shadows new.tails)
  restart-backed backed = shadow-backed g front front old new level (emptied slot) shape told tails one backed
      (if-told old.told (λ b on e i t. absurd (none (shadow_at new.shadows level).slot i (in-tail (block_cells g) (shadow_at new.shadows level) (shadow_at new.shadows level).slot i t))))

-- a shadow of a level of the front changes, and perhaps a cell there
module _ (g : Geometry) (front now : FrontCells) (old new : Lower) (level : ℕ) (shadow : Shadow) (shape : IsShape g front old.shadows old.tails)
    (told : new.told ≡ old.told) (tails : new.tails ≡ old.tails) (one : OneShadow old.shadows new.shadows level shadow) (low : level + 2 < g.block_exp) where
  pub front-stays : (l s i : ℕ) → (IsPlace (g.bottom + 1) l s i → l + 2 < g.block_exp → cell_at now (number_of l s i) ≡ cell_at front (number_of l s i)) →
      spots_of (cells_by g now new) l s i ≡ spots_of (cells_by g front old) l s i
  front-stays l s i fronts = shadow-stays g front now old new level shadow shape told tails one l s i fronts (if-told old.told (λ b same p high. absurd (omega (arith, low, high))))

  pub front-shape : IsShadow level shadow → IsShape g front new.shadows new.tails
  front-shape stands = shadow-shape g front front old new level shadow shape told tails one stands (λ on e. let high : g.block_exp ≤ level + 2 = on.whole in absurd (omega (arith, low, high)))

  pub front-backed : IfSome old.told (IsBacked g old.shadows old.tails) → IfSome new.told (IsBacked g new.shadows new.tails)
  front-backed backed = shadow-backed g front front old new level shadow shape told tails one backed
      (if-told old.told (λ b on. let high : g.block_exp ≤ level + 2 = on.whole in absurd (omega (arith, low, high))))

-- a cell is put at a place of the front
pub put-elsewhere : (g : Geometry) (front : FrontCells) (cell : Cell) (level slot index l s i : ℕ) → IsPlace (g.bottom + 1) level slot index → IsElsewhere level slot index l s i → IsPlace (g.bottom + 1) l s i →
    cell_at (record front { cells = set front.cells (number_of level slot index) (Some cell) }) (number_of l s i) ≡ cell_at front (number_of l s i)
put-elsewhere g front cell level slot index l s i place apart p =
    get_or-set_other front.cells (number_of level slot index) (number_of l s i) (Some cell) None
    (λ e.
    let (levels, slots, indices) = place-differ g.bottom l s i level slot index p place e in
    elim apart [ inl x ↦ x levels | inr x ↦ elim x [ inl y ↦ y slots | inr y ↦ y indices ] ])

pub put-end : (g : Geometry) (front : FrontCells) (cell : Cell) (old new : Lower) (level slot index : ℕ) → IsPlace (g.bottom + 1) level slot index → level + 2 < g.block_exp → number_of level slot index < length front.cells → new.told ≡ old.told →
    spots_of (record { geometry = g; front = record front { cells = set front.cells (number_of level slot index) (Some cell) }; lower = new }) level slot index
    ≡ with_cell (spots_of (cells_by g front old) level slot index) (as_cell cell)
put-end g front cell old new level slot index place low within told = ap (λ (x : Option (List ℕ)). told_spot after x level slot index) told ∙ by-case old.told
  where
    after : Cells
    after = record { geometry = g; front = record front { cells = set front.cells (number_of level slot index) (Some cell) }; lower = new }

    before : Cells
    before = record { geometry = g; front = front; lower = old }

    by-case : (x : Option (List ℕ)) → told_spot after x level slot index ≡ with_cell (told_spot before x level slot index) (as_cell cell)
    by-case None = refl
    by-case (Some b) =
        spot-there after b level slot index place
        ∙ spot-front after b level slot index low
        ∙ ap (λ (c : Option Cell). spot_of c) (get_or-set_same front.cells (number_of level slot index) (Some cell) None within)
        ∙ with-told (known_spot before b level slot index) (as_cell cell) (known-told before b level slot index)
