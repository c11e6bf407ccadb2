-- What putting a cell into a tail and writing a block leave of the other cells.
use Rattle.std.proofs.Common.{◌≡◌, ◌≢◌, ◌⊎◌, inl, inr, ℕ, ◌+◌, ◌-◌, ◌*◌, ◌/◌, ◌%◌, ◌^◌, ◌<◌, ◌≤◌, List, length, sym, ap, ◌∙◌, arith}
use Rattle.std.proofs.lemmas.Bool.{cases_order}
use Rattle.std.proofs.lemmas.Nat.{pow_pos}
use Rattle.std.proofs.Math.Nat.{mod-lt, zero-mod}
use Rattle.cola_cell.specs.Format.{width}
use Rattle.cola_cell.specs.Places.{number_of, IsPlace}
use Rattle.cola_device.specs.Bytes.{part, splice}
use Rattle.cola_device.proofs.BytesLemmas.{length-splice, length-part, part-splice}
use Rattle.cola_front.specs.Front.{cell_bytes}
use Rattle.cola_layout.specs.declared.geometry.Geometry.{Geometry}
use Rattle.cola_layout.specs.Geometry.{IsBlock}
use Rattle.cola_run.specs.Cells.{IsOnDevice, block_cells, block_bytes, file_bytes, device_levels, block_number, tail_number}
use Rattle.cola_run.specs.Parts.{tail_of}
use Rattle.cola_run.proofs.Numbers.{same-block, one-block, block-ends, block-in_file, block-before, tail-block, place-is}
use Rattle.cola_run.proofs.Bytes.{cell-below, cell-above, cell-part, room-of, room-sum, block-from, block-stays, block-is_new}

-- the tails have room for the tail of each level on the device
pub tail-within : (g : Geometry) (level i : ℕ) → IsBlock g.block_exp g.bottom → IsOnDevice g level → tail_number g level i + 1 ≤ block_cells g * device_levels g
tail-within g level i fits device =
    omega (arith, block-before (block_cells g) (level + 2 - g.block_exp) (device_levels g) (omega (arith, device.within, device.whole)), mod-lt i (pow_pos g.block_exp))

-- the number of the first cell of a tail
pub tail-first : (g : Geometry) (level : ℕ) → tail_number g level 0 ≡ block_cells g * (level + 2 - g.block_exp)
tail-first g level = omega (arith, zero-mod (block_cells g))

-- the tail of a level is one block
pub tail_room : (g : Geometry) (level : ℕ) → IsOnDevice g level → width g.format * tail_number g level 0 + block_bytes g ≤ width g.format * (block_cells g * device_levels g)
tail_room g level device =
    let more : block_cells g * (level + 2 - g.block_exp) + block_cells g ≤ block_cells g * device_levels g =
    block-before (block_cells g) (level + 2 - g.block_exp) (device_levels g) (omega (arith, device.within, device.whole)) in
    let sum = room-sum g.format (tail_number g level 0) (block_cells g) in
    omega (arith, room-of g.format (tail_number g level 0 + block_cells g) (block_cells g * device_levels g) (omega (arith, tail-first g level, more)), sum)

pub tail-holds : (g : Geometry) (tails : List ℕ) (level : ℕ) → IsOnDevice g level → length tails ≡ width g.format * (block_cells g * device_levels g)
    → width g.format * tail_number g level 0 + block_bytes g ≤ length tails
tail-holds g tails level device many = let h = tail_room g level device in omega (arith, h, many)

-- and for a cell of it
pub cell_holds : (g : Geometry) (place many : ℕ) → place < block_cells g * device_levels g → many ≡ width g.format * (block_cells g * device_levels g) → width g.format * place + width g.format ≤ many
cell_holds g place many within is =
    omega (arith, room-of g.format (place + 1) (block_cells g * device_levels g) (omega (arith, within)), room-sum g.format place 1, is)

pub tail_many : (g : Geometry) (tails : List ℕ) (level : ℕ) → IsBlock g.block_exp g.bottom → IsOnDevice g level → length tails ≡ width g.format * (block_cells g * device_levels g)
    → length (tail_of g tails level) ≡ block_bytes g
tail_many g tails level fits device many = length-part tails (width g.format * tail_number g level 0) (block_bytes g) (tail-holds g tails level device many)

-- a cell of a tail among those of the tails
pub tail-cell : (g : Geometry) (tails : List ℕ) (level i : ℕ) → cell_bytes g.format (tail_of g tails level) (i % block_cells g) ≡ cell_bytes g.format tails (tail_number g level i)
tail-cell g tails level i =
    let at : tail_number g level 0 + i % block_cells g ≡ tail_number g level i = omega (arith, tail-first g level) in
    cell-part g.format tails (tail_number g level 0) (block_cells g) (i % block_cells g) (mod-lt i (pow_pos g.block_exp)) ∙ ap (λ (n : ℕ). cell_bytes g.format tails n) at

-- tails in which a cell was put
module _ (g : Geometry) (tails new : List ℕ) (level at : ℕ) (fits : IsBlock g.block_exp g.bottom) (device : IsOnDevice g level)
    (many : length tails ≡ width g.format * (block_cells g * device_levels g)) (long : length new ≡ width g.format) where
  room : width g.format * (tail_number g level at + 1) ≤ length tails
  room = omega (arith, room-of g.format (tail_number g level at + 1) (block_cells g * device_levels g) (tail-within g level at fits device), many)

  begins : width g.format * tail_number g level at ≤ length tails
  begins = omega (arith, room, room-sum g.format (tail_number g level at) 1)

  -- are as many
  pub put-many : length (splice tails (width g.format * tail_number g level at) new) ≡ length tails
  put-many =
      length-splice tails (width g.format * tail_number g level at) new (omega (arith, room, room-sum g.format (tail_number g level at) 1, long))

  -- the cell is there
  pub put-there : cell_bytes g.format (splice tails (width g.format * tail_number g level at) new) (tail_number g level at) ≡ new
  put-there =
      ap (λ (n : ℕ). part (splice tails (width g.format * tail_number g level at) new) (width g.format * tail_number g level at) n) (sym long)
      ∙ part-splice tails (width g.format * tail_number g level at) new begins

  -- and every other cell stays
  pub put-stays : (l i : ℕ) → IsOnDevice g l → (l ≢ level) ⊎ (i % block_cells g ≢ at % block_cells g) →
      cell_bytes g.format (splice tails (width g.format * tail_number g level at) new) (tail_number g l i) ≡ cell_bytes g.format tails (tail_number g l i)
  put-stays l i on apart =
      elim (cases_order (tail_number g l i) (tail_number g level at)) [
        | inl same ↦ absurd (differ same)
        | inr (inl below) ↦ cell-below g.format tails new (tail_number g level at) (tail_number g l i) begins (omega (arith, below))
        | inr (inr above) ↦ cell-above g.format tails new (tail_number g level at) 1 (tail_number g l i) begins (omega (arith, long)) (omega (arith, above))
      ]
    where
      differ : tail_number g l i ≡ tail_number g level at → ⊥
      differ same =
          let (first, place) = tail-block g.block_exp (l + 2 - g.block_exp) i in
          let (second, there) = tail-block g.block_exp (level + 2 - g.block_exp) at in
          let blocks : l + 2 - g.block_exp ≡ level + 2 - g.block_exp = sym first ∙ ap (λ (n : ℕ). n / block_cells g) same ∙ second in
          elim apart [ inl h ↦ h (omega (arith, blocks, on.whole, device.whole)) | inr h ↦ h (sym place ∙ ap (λ (n : ℕ). n % block_cells g) same ∙ there) ]

-- a device on which the block of a place was written
module _ (g : Geometry) (fits : IsBlock g.block_exp g.bottom) (level slot index : ℕ) (high : g.block_exp ≤ level + 2) (place : IsPlace (g.bottom + 1) level slot index)
    (bytes left : List ℕ) (long : file_bytes g ≤ length bytes) (whole : length left ≡ block_bytes g) where
  abbrev written : List ℕ
  written = splice bytes (block_number g level slot index * block_bytes g) left

  few : g.block_exp ≤ g.bottom + 2
  few = let low : level < g.bottom + 1 = place.level_in in let most = fits.fits in omega (arith, most)

  ends : width g.format * (block_cells g * block_number g level slot index) + block_bytes g ≤ length bytes
  ends =
      let h : block_cells g * block_number g level slot index + block_cells g ≤ 2 ^ (g.bottom + 4) =
      block-ends g.bottom g.block_exp (block_number g level slot index) few (block-in_file g.bottom g.block_exp level slot index few place) in
      let sum = room-sum g.format (block_cells g * block_number g level slot index) (block_cells g) in
      omega (arith, room-of g.format (block_cells g * block_number g level slot index + block_cells g) (2 ^ (g.bottom + 4)) h, sum, long)

  begins-at : width g.format * (block_cells g * block_number g level slot index) ≤ length bytes
  begins-at = let h = ends in omega (arith, h)

  -- where the block ends in the file, in bytes
  pub block-fits : block_number g level slot index * block_bytes g + length left ≤ file_bytes g
  block-fits =
      let h : block_cells g * block_number g level slot index + block_cells g ≤ 2 ^ (g.bottom + 4) =
      block-ends g.bottom g.block_exp (block_number g level slot index) few (block-in_file g.bottom g.block_exp level slot index few place) in
      let sum = room-sum g.format (block_cells g * block_number g level slot index) (block_cells g) in
      let from = block-from g.format (block_cells g) (block_number g level slot index) in
      omega (arith, room-of g.format (block_cells g * block_number g level slot index + block_cells g) (2 ^ (g.bottom + 4)) h, sum, from, whole)

  -- it has as many bytes
  pub written-many : length written ≡ length bytes
  written-many = let h = block-fits in length-splice bytes (block_number g level slot index * block_bytes g) left (omega (arith, h, long))

  -- the cells of other blocks stay
  pub written-stays : (l s i : ℕ) → g.block_exp ≤ l + 2 → IsPlace (g.bottom + 1) l s i → (l ≢ level) ⊎ (s ≢ slot) ⊎ (i / block_cells g ≢ index / block_cells g) →
      cell_bytes g.format written (number_of l s i) ≡ cell_bytes g.format bytes (number_of l s i)
  written-stays l s i on p apart =
      block-stays g.format bytes left (block_cells g) (block_number g level slot index) (pow_pos g.block_exp) begins-at whole (number_of l s i)
      (λ same.
      let (levels, slots, blocks) = one-block g.bottom g.block_exp l s i level slot index on high p place same in
      elim apart [ inl h ↦ h levels | inr h ↦ elim h [ inl k ↦ k slots | inr k ↦ k blocks ] ])

  -- and those of this block are the new ones
  pub written-there : (i : ℕ) → i / block_cells g ≡ index / block_cells g → cell_bytes g.format written (number_of level slot i) ≡ cell_bytes g.format left (i % block_cells g)
  written-there i same =
      block-is_new g.format bytes left (block_cells g) (block_number g level slot index) (pow_pos g.block_exp) begins-at whole (number_of level slot i) (same-block g.block_exp level slot i index high same)
      ∙ ap (λ (n : ℕ). cell_bytes g.format left n) (place-is g.block_exp level slot i high)
