-- What writes to the two blocks of the front leave; and when the cells of a store are those of its file.
use Rattle.std.proofs.Common.{◌≡◌, inl, inr, ℕ, ◌+◌, ◌*◌, ◌^◌, ◌<◌, ◌≤◌, List, length, drop, Option, None, Some, IfSome, Result, refl, sym, ap, subst, ◌∙◌, arith}
use Rattle.std.proofs.lemmas.Bool.{cases_lt}
use Rattle.std.proofs.Math.Nat.{mul-le-mul_left}
use Rattle.cola_outside.specs.Told.{Both}
use Rattle.cola_cell.specs.declared.format.Format.{Format}
use Rattle.cola_cell.specs.declared.format.Format.TheVariants.{One, Two}
use Rattle.cola_cell.specs.declared.cell.Cell.{Cell}
use Rattle.cola_cell.specs.declared.sink.Shadow.{Shadow}
use Rattle.cola_cell.specs.Decoded.{decoded, spot_of_bytes}
use Rattle.cola_cell.specs.Flat.{spot_of, shadow_at}
use Rattle.cola_cell.specs.Format.{width}
use Rattle.cola_cell.specs.Places.{number_of, IsPlace}
use Rattle.cola_device.specs.Bytes.{splice, WroteSome, Wrote}
use Rattle.cola_device.proofs.BytesLemmas.{length-splice, part-splice_above}
use Rattle.cola_front.specs.Front.{FrontCells, cell_at, cell_bytes, IsLoaded}
use Rattle.cola_layout.specs.declared.geometry.Geometry.{Geometry}
use Rattle.cola_layout.specs.Geometry.{IsBlock}
use Rattle.cola_layout.proofs.Places.{device-behind, place-behind, front-below}
use Rattle.cola_layout.proofs.Powers.{next_power, power-le}
use Rattle.cola_run.specs.Cells.{Lower, block_cells, block_bytes, file_bytes, device_cell, known_spot, told_spot, spots_of, IsShape, IsBacked, cells_by}
use Rattle.cola_run.specs.Saving.{AreFileSpots, AreLevelSpots, SameLevels, SameBehind}
use Rattle.cola_layout.specs.Cells.{file_spots}
use Rattle.cola_run.specs.Loading.{AreSavedBelow}
use Rattle.cola_run.proofs.Bytes.{drop-behind}
use Rattle.cola_run.proofs.Lowers.{on-device}
use Rattle.cola_run.proofs.Spots.{tail-is, device-in, device-out, device-is, spot-there, spot-front, spot-device, spots-stay, both-so, both-with, both-second}

-- the bytes of the front's blocks end before those of a place on the device
cell-behind : (f : Format) (b n m : ℕ) → 2 ^ (b + 1) ≤ n → m ≤ 2 * (width f * 2 ^ b) → m ≤ width f * n
cell-behind f b n m h k = omega (arith, k, mul-le-mul_left (width f) h, ap (λ (x : ℕ). width f * x) (next_power b (b + 1) (omega arith)))

-- and before the end of the file
file-behind : (f : Format) (b bottom m : ℕ) → b ≤ bottom + 2 → m ≤ 2 * (width f * 2 ^ b) → m ≤ width f * 2 ^ (bottom + 4)
file-behind f b bottom m few h = cell-behind f b (2 ^ (bottom + 4)) m (power-le (b + 1) (bottom + 4) (omega (arith, few))) h

-- a device on which bytes of the front's blocks were written
module _ (g : Geometry) (fits : IsBlock g.block_exp g.bottom) (bytes left : List ℕ) (at : ℕ) (long : file_bytes g ≤ length bytes) (within : at + length left ≤ 2 * block_bytes g) where
  head-fits : at + length left ≤ file_bytes g
  head-fits = let most = fits.fits in file-behind g.format g.block_exp g.bottom (at + length left) (omega (arith, most)) within

  pub head-many : length (splice bytes at left) ≡ length bytes
  head-many = let h = head-fits in length-splice bytes at left (omega (arith, h, long))

  pub head-stays : (l s i : ℕ) → g.block_exp ≤ l + 2 → cell_bytes g.format (splice bytes at left) (number_of l s i) ≡ cell_bytes g.format bytes (number_of l s i)
  head-stays l s i high =
      part-splice_above bytes at left (width g.format * number_of l s i) (width g.format) (omega (arith, head-fits, long))
      (cell-behind g.format g.block_exp (number_of l s i) (at + length left) (device-behind g.block_exp l s i high) within)

  pub head-behind : drop (file_bytes g) (splice bytes at left) ≡ drop (file_bytes g) bytes
  head-behind = let h = head-fits in drop-behind bytes left at (file_bytes g) (omega (arith, h, long)) h

  pub head-levels : SameLevels g bytes (splice bytes at left)
  head-levels = let h = head-fits in drop-behind bytes left at (2 * block_bytes g) (omega (arith, h, long)) within

  pub head-backed : (shadows : List Shadow) (tails : List ℕ) → IsBacked g shadows tails bytes → IsBacked g shadows tails (splice bytes at left)
  head-backed shadows tails b = record {
    long = let m = head-many in omega (arith, m, long);
    saved = λ level on is i t. head-stays level (shadow_at shadows level).slot i on.whole ∙ b.saved level on is i t;
  }

  pub head-cell : (shadows : List Shadow) (tails : List ℕ) (l s i : ℕ) → g.block_exp ≤ l + 2 → device_cell g shadows tails (splice bytes at left) l s i ≡ device_cell g shadows tails bytes l s i
  head-cell shadows tails l s i high =
      device-is g shadows tails bytes l s i (device_cell g shadows tails (splice bytes at left) l s i)
      (λ q. device-in g shadows tails (splice bytes at left) l s i q)
      (λ d. device-out g shadows tails (splice bytes at left) l s i d ∙ head-stays l s i high)

-- the same where the device tells its bytes
module _ {T E : Type 0} (g : Geometry) (fits : IsBlock g.block_exp g.bottom) (shadows : List Shadow) (tails : List ℕ) (result : Result T E) (at : ℕ) (from : List ℕ) (within : at + length from ≤ 2 * block_bytes g) where
  pub heads-backed : (x y : Option (List ℕ)) → Wrote result at from x y → IfSome x (IsBacked g shadows tails) → IfSome y (IsBacked g shadows tails)
  heads-backed x y w b =
      both-second x y (λ c d. IsBacked g shadows tails c × WroteSome result at from c d) (IsBacked g shadows tails)
      (λ c d (b, v). let many = v.as_many in subst (IsBacked g shadows tails) (sym v.others_stay) (head-backed g fits c v.left at b.long (omega (arith, many, within)) shadows tails b))
      (both-with x y (IsBacked g shadows tails) (WroteSome result at from) b w)

  -- what the bytes of before and the written ones have, told contents have
  heads-have : (P : List ℕ → List ℕ → Type 0) → ((bytes left : List ℕ) → file_bytes g ≤ length bytes → at + length left ≤ 2 * block_bytes g → P bytes (splice bytes at left)) → (x y : Option (List ℕ)) → Wrote result at from x y → IfSome x (IsBacked g shadows tails)
      → Both x y P
  heads-have P has x y w b =
      both-so x y (λ c d. IsBacked g shadows tails c × WroteSome result at from c d) P
      (λ c d (b, v). let many = v.as_many in subst (λ (bytes : List ℕ). P c bytes) (sym v.others_stay) (has c v.left b.long (omega (arith, many, within))))
      (both-with x y (IsBacked g shadows tails) (WroteSome result at from) b w)

  pub heads-behind : (x y : Option (List ℕ)) → Wrote result at from x y → IfSome x (IsBacked g shadows tails) → Both x y (SameBehind g)
  heads-behind = heads-have (SameBehind g) (λ bytes left long inside. record { many = head-many g fits bytes left at long inside; behind = head-behind g fits bytes left at long inside })

  pub heads-levels : (x y : Option (List ℕ)) → Wrote result at from x y → IfSome x (IsBacked g shadows tails) → Both x y (SameLevels g)
  heads-levels = heads-have (SameLevels g) (λ bytes left long inside. head-levels g fits bytes left at long inside)

  pub heads-spots : (front : FrontCells) (x y : Option (List ℕ)) → Wrote result at from x y → IfSome x (IsBacked g shadows tails) → (l s i : ℕ) →
      spots_of (record { geometry = g; front = front; lower = record { told = y; shadows = shadows; tails = tails } }) l s i ≡ spots_of (record { geometry = g; front = front; lower = record { told = x; shadows = shadows; tails = tails } }) l s i
  heads-spots front x y w b l s i =
      spots-stay g front front (record { told = x; shadows = shadows; tails = tails }) (record { told = y; shadows = shadows; tails = tails }) l s i (λ p low. refl)
      (heads-have (λ b c. IsPlace (g.bottom + 1) l s i → g.block_exp ≤ l + 2 → device_cell g shadows tails c l s i ≡ device_cell g shadows tails b l s i)
      (λ bytes left long inside p high. head-cell g fits bytes left at long inside shadows tails l s i high) x y w b)

-- the cells of the levels on the device are those of the file where each shadow is there
pub level-spots : (g : Geometry) (front : FrontCells) (lower : Lower) (bytes : List ℕ) → IsBacked g lower.shadows lower.tails bytes → AreSavedBelow g lower.shadows (g.bottom + 1)
    → AreLevelSpots g (known_spot (cells_by g front lower) bytes) bytes
level-spots g front lower bytes backed saved l s i on p =
    spot-there (cells_by g front lower) bytes l s i p
    ∙ spot-device (cells_by g front lower) bytes l s i on.whole
    ∙ ap (λ (x : List ℕ). spot_of_bytes g.format x)
    (sym (device-is g lower.shadows lower.tails bytes l s i (cell_bytes g.format bytes (number_of l s i))
    (λ q.
    let sh = shadow_at lower.shadows l in
    ap (λ (x : ℕ). cell_bytes g.format bytes (number_of l x i)) q.slot_is
    ∙ backed.saved l on (saved l on p.level_in) i (tail-is (block_cells g) sh sh.slot i (record { slot_is = refl; block_is = q.block_is; within = q.within })))
    (λ d. refl)))

-- a cell of a store is that of its file where each shadow is on the device, and the file has it if it is one of the front
pub place-spots : (g : Geometry) (front : FrontCells) (lower : Lower) (bytes : List ℕ) → IsShape g front lower.shadows lower.tails → IsBacked g lower.shadows lower.tails bytes → AreSavedBelow g lower.shadows (g.bottom + 1)
    → (l s i : ℕ) → IsPlace (g.bottom + 1) l s i → (number_of l s i < 2 * front.block → cell_at front (number_of l s i) ≡ decoded front.format (cell_bytes front.format bytes (number_of l s i)))
    → known_spot (cells_by g front lower) bytes l s i ≡ file_spots g.format bytes l s i
place-spots g front lower bytes shape backed saved l s i p there =
    elim (cases_lt (l + 2) g.block_exp) [
      | inl low ↦
          let twice : 2 ^ (g.block_exp + 1) ≡ 2 ^ g.block_exp + 2 ^ g.block_exp = next_power g.block_exp (g.block_exp + 1) (omega arith) in
          spot-there (cells_by g front lower) bytes l s i p
          ∙ spot-front (cells_by g front lower) bytes l s i low
          ∙ ap (λ (c : Option Cell). spot_of c) (there (omega (arith, front-below g.block_exp l s i (omega (arith, p.slot_in)) p.index_in low, twice, shape.front_block)))
          ∙ ap (λ (f : Format). spot_of (decoded f (cell_bytes f bytes (number_of l s i)))) shape.format
      | inr high ↦ level-spots g front lower bytes backed saved l s i (on-device g l s i p high) p
    ]

-- the cells of a store are those of its file where each shadow is on the device, and the front is as the file has it
pub saved-spots : (g : Geometry) (front : FrontCells) (lower : Lower) (bytes : List ℕ) → IsShape g front lower.shadows lower.tails → IsBacked g lower.shadows lower.tails bytes → AreSavedBelow g lower.shadows (g.bottom + 1)
    → IsLoaded bytes front → (l s i : ℕ) → IsPlace (g.bottom + 1) l s i → known_spot (cells_by g front lower) bytes l s i ≡ file_spots g.format bytes l s i
saved-spots g front lower bytes shape backed saved loaded l s i p =
    place-spots g front lower bytes shape backed saved l s i p (λ within. loaded (number_of l s i) (place-behind l s i) within)

-- the file has the front's two blocks
pub head-long : (g : Geometry) → IsBlock g.block_exp g.bottom → 2 * block_bytes g ≤ file_bytes g
head-long g fits = let most = fits.fits in file-behind g.format g.block_exp g.bottom (2 * block_bytes g) (omega (arith, most)) (omega arith)

-- a block has 512 bytes at least
pub block-least : (g : Geometry) → IsBlock g.block_exp g.bottom → 512 ≤ block_bytes g
block-least g fits = by-format g.format (let h : 2 ^ 3 ≤ 2 ^ g.block_exp = power-le 3 g.block_exp fits.group in h)
  where
    by-format : (f : Format) → 8 ≤ 2 ^ g.block_exp → 512 ≤ width f * 2 ^ g.block_exp
    by-format One h = omega (arith, h)
    by-format Two h = omega (arith, h)

pub saved-told : (g : Geometry) (front : FrontCells) (lower : Lower) → IsShape g front lower.shadows lower.tails → IfSome lower.told (IsBacked g lower.shadows lower.tails) → AreSavedBelow g lower.shadows (g.bottom + 1)
    → IfSome lower.told (λ bytes. IsLoaded bytes front) → IfSome lower.told (AreFileSpots g (spots_of (cells_by g front lower)))
saved-told g front lower shape backed saved loaded = by-case lower.told backed loaded
  where
    by-case : (x : Option (List ℕ)) → IfSome x (IsBacked g lower.shadows lower.tails) → IfSome x (λ bytes. IsLoaded bytes front) → IfSome x (AreFileSpots g (λ l s i. told_spot (cells_by g front lower) x l s i))
    by-case None b f = tt
    by-case (Some bytes) b f = λ l s i p. saved-spots g front lower bytes shape b saved f l s i p
