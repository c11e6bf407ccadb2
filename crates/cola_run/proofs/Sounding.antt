-- A store stays sound behind a merge over lent bytes.
use Rattle.std.proofs.Common.{◌≡◌, ◌≢◌, ◌⊎◌, inl, inr, ℕ, zero, suc, ◌+◌, ◌-◌, ◌*◌, ◌/◌, ◌%◌, ◌≤◌, ◌<◌, ◌==◌, Bool, true, false, if◌then◌else◌, List, length, take, drop, Option, None, Some, refl, ap, sym, subst, ◌∙◌, arith}
use Rattle.std.proofs.Math.Nat.{mul-add, mod-lt, mul-le-mul_left, div-add-mod, mul_comm}
use Rattle.std.proofs.lemmas.Nat.{pow_pos}
use Rattle.std.proofs.lemmas.Bool.{true≢false}
use Rattle.std.proofs.lemmas.Bool.Decides.{eqb_tells, leb_tells}
use Rattle.cola_cell.specs.declared.sink.Shadow.{Shadow}
use Rattle.cola_cell.specs.Flat.{shadow_at}
use Rattle.cola_cell.specs.Format.{width}
use Rattle.cola_cell.specs.Places.{number_of, IsPlace}
use Rattle.cola_device.specs.Bytes.{splice}
use Rattle.cola_device.proofs.BytesLemmas.{length-splice}
use Rattle.cola_front.specs.Front.{FrontCells, cell_bytes}
use Rattle.cola_layout.specs.declared.geometry.Geometry.{Geometry}
use Rattle.cola_run.specs.Cells.{Lower, cells_by, spots_of, device_cell, IsOnDevice, IsShape, IsShadow, IsBacked, IsSaved, block_cells, tail_number, is_in_tail}
use Rattle.cola_run.specs.Parts.{OneShadow}
use Rattle.cola_run.specs.Weaving.{room_cells}
use Rattle.cola_run.proofs.Bytes.{cell-below, cell-above, cell-inside}
use Rattle.cola_run.proofs.Numbers.{block-before, next-more}
use Rattle.cola_run.proofs.Spots.{in-tail, IsInTail, spot-there, spot-device, device-in, device-out, device-is, spots-stay, both-same}
use Rattle.cola_run.proofs.Steps.{tail_room}
use Rattle.cola_run.proofs.Lowers.{around-same, other-cell, backed-by, shape-by}
use Rattle.cola_cell.specs.Windows.{grown, cell_bytes_at}
use Rattle.cola_cell.specs.Decoded.{standing, spot_of_bytes}
use Rattle.cola_cell.specs.Held.{Spot, is_untold, with_cell, as_cell}
use Rattle.cola_cell.specs.Spelling.{IsSpelling}
use Rattle.cola_cell.proofs.DecodedLemmas.{spot_told, spot_is_told}
use Rattle.cola_cell.proofs.RunLemmas.{put_is_told}

not_zero : (c : ℕ) → (suc c == 0) ≡ false
not_zero c = elim (eqb_tells (suc c) 0) [ inl e ↦ let f : suc c ≡ 0 = e.1 in absurd (omega (arith, f)) | inr e ↦ e.0 ]

module _ (g : Geometry) (front : FrontCells) (shadows now : List Shadow) (tails after : List ℕ) (level count : ℕ) (room : List ℕ) (device : IsOnDevice g level) (shape : IsShape g front shadows tails)
    (one : OneShadow shadows now level (grown count (shadow_at shadows level))) (few : count ≤ room_cells g level (shadow_at shadows level).len)
    (size : length room ≡ width g.format * room_cells g level (shadow_at shadows level).len)
    (put : after ≡ splice tails (width g.format * tail_number g level (shadow_at shadows level).len) room) where
  abbrev len : ℕ
  len = (shadow_at shadows level).len

  abbrev b : ℕ
  b = block_cells g

  some : 0 < b
  some = pow_pos g.block_exp

  rest : len % b < b
  rest = mod-lt len some

  -- the room ends before the block does
  ends : len % b + room_cells g level len + 1 ≤ b
  ends = let r = rest in omega (arith, r)

  room_fits : width g.format * tail_number g level len + length room ≤ length tails
  room_fits =
      let first : tail_number g level 0 + len % b ≡ tail_number g level len = (let z : 0 % b ≡ 0 = grind arith in omega (arith, z)) in
      let inside : tail_number g level len + room_cells g level len ≤ tail_number g level 0 + b = omega (arith, ends, first) in
      let right = mul-add (width g.format) (tail_number g level 0) b in
      let many = shape.tails_many in
      omega (arith, mul-le-mul_left (width g.format) inside, mul-add (width g.format) (tail_number g level len) (room_cells g level len), right, tail_room g level device, many, size)

  stands : IsShadow level (grown count (shadow_at shadows level))
  stands = let t = shape.shadows_fit level device.within in let a = t.within in record { slot_in = t.slot_in; within = omega (arith, few, a) }

  unsaved_by : (c : ℕ) → c ≤ room_cells g level len → (grown c (shadow_at shadows level)).saved ≡ false → (len + c) % b ≢ 0
  unsaved_by zero h e = λ z. shape.unsaved level device e (ap (λ (x : ℕ). x % b) (let y : len ≡ len + 0 = omega arith in y) ∙ z)
  unsaved_by (suc c) h e = λ z. let r = ends in let y : (len + suc c) % b ≡ len % b + suc c = (next-more b len (suc c) (omega (arith, r, h))).1 in absurd (let x : (len + suc c) % b ≡ 0 = z in omega (arith, x, y))

  pub woven_shape : IsShape g front now after
  woven_shape =
      shape-by g front shadows now tails after level (grown count (shadow_at shadows level)) shape one
      (ap (λ (xs : List ℕ). length xs) put ∙ length-splice tails (width g.format * tail_number g level len) room room_fits) stands (λ _ e. unsaved_by count few e)

  -- a cell of the tails outside the room
  stays_below : (c : ℕ) → c + 1 ≤ tail_number g level len → cell_bytes g.format after c ≡ cell_bytes g.format tails c
  stays_below c h = ap (λ (xs : List ℕ). cell_bytes g.format xs c) put ∙ cell-below g.format tails room (tail_number g level len) c (let r = room_fits in omega (arith, r)) h

  stays_above : (c : ℕ) → tail_number g level len + room_cells g level len ≤ c → cell_bytes g.format after c ≡ cell_bytes g.format tails c
  stays_above c h = ap (λ (xs : List ℕ). cell_bytes g.format xs c) put ∙ cell-above g.format tails room (tail_number g level len) (room_cells g level len) c (let r = room_fits in omega (arith, r)) size h

  other_tail : (l i : ℕ) → IsOnDevice g l → l ≢ level → cell_bytes g.format after (tail_number g l i) ≡ cell_bytes g.format tails (tail_number g l i)
  other_tail l i there d = elim (leb_tells level l) [
    | inl e ↦
        stays_above (tail_number g l i) (omega (arith, block-before b (level + 2 - g.block_exp) (l + 2 - g.block_exp) (omega (arith, e.1, d, device.whole)), ends))
    | inr e ↦
        stays_below (tail_number g l i) (omega (arith, block-before b (l + 2 - g.block_exp) (level + 2 - g.block_exp) (omega (arith, e.1, there.whole)), mod-lt i some))
  ]

  own_tail : (i : ℕ) → i / b ≡ len / b → i < len → cell_bytes g.format after (tail_number g level i) ≡ cell_bytes g.format tails (tail_number g level i)
  own_tail i e h =
      stays_below (tail_number g level i) (omega (arith, div-add-mod i b, div-add-mod len b, ap (λ (n : ℕ). b * n) e, h))

  saved_by : (bytes : List ℕ) → IsBacked g shadows tails bytes → (c : ℕ) → (shadow_at now level) ≡ grown c (shadow_at shadows level) → (shadow_at now level).saved ≡ true → IsSaved g now after bytes level
  saved_by bytes backed zero is e = λ i t.
      let same : shadow_at now level ≡ shadow_at shadows level = is ∙ ap (λ (l : ℕ). record { slot = (shadow_at shadows level).slot; len = l; saved = (shadow_at shadows level).saved }) (let z : len + 0 ≡ len = omega arith in z) in
      let here = subst (λ (x : Shadow). is_in_tail b x x.slot i ≡ true) same t in
      let p = in-tail b (shadow_at shadows level) (shadow_at shadows level).slot i here in
      ap (λ (x : Shadow). cell_bytes g.format bytes (number_of level x.slot i)) same
      ∙ backed.saved level device (ap (λ (x : Shadow). x.saved) (sym same) ∙ e) i here
      ∙ sym (own_tail i p.block_is p.within)
  saved_by bytes backed (suc c) is e = let f : false ≡ true = sym (ap (λ (t : Bool). if t then (shadow_at shadows level).saved else false) (not_zero c)) ∙ ap (λ (x : Shadow). x.saved) (sym is) ∙ e in absurd (true≢false (sym f))

  pub woven_backed : (bytes : List ℕ) → IsBacked g shadows tails bytes → IsBacked g now after bytes
  woven_backed bytes backed =
      backed-by g front shadows now tails after bytes bytes level 0 0 (grown count (shadow_at shadows level)) shape backed one (around-same g bytes bytes level 0 0 refl) other_tail
      (λ _ e. saved_by bytes backed count one.is (ap (λ (x : Shadow). x.saved) one.is ∙ e))

  -- ---- what stands in it

  abbrev lower : Option (List ℕ) → Lower
  lower told = record { told = told; shadows = shadows; tails = tails }

  abbrev lower_now : Option (List ℕ) → Lower
  lower_now told = record { told = told; shadows = now; tails = after }

  abbrev slot : ℕ
  slot = (shadow_at shadows level).slot

  now_slot : (shadow_at now level).slot ≡ slot
  now_slot = ap (λ (x : Shadow). x.slot) one.is

  now_len : (shadow_at now level).len ≡ len + count
  now_len = ap (λ (x : Shadow). x.len) one.is

  now_block : (shadow_at now level).len / b ≡ len / b
  now_block = ap (λ (x : ℕ). x / b) now_len ∙ (let r = ends in (next-more b len count (omega (arith, r, few))).0)

  new_place : (k : ℕ) → k < count → IsInTail b (shadow_at now level) slot (len + k)
  new_place k h = record {
    slot_is = sym now_slot;
    block_is = (let r = ends in (next-more b len k (omega (arith, r, few, h))).0) ∙ sym now_block;
    within = let e = now_len in omega (arith, e, h);
  }

  new_bytes : (k : ℕ) → k < count → cell_bytes g.format after (tail_number g level (len + k)) ≡ cell_bytes_at g.format k room
  new_bytes k h =
      ap (λ (xs : List ℕ). cell_bytes g.format xs (tail_number g level (len + k))) put
      ∙ ap (λ (n : ℕ). cell_bytes g.format (splice tails (width g.format * tail_number g level len) room) n)
      (let r = ends in let z : (len + k) % b ≡ len % b + k = (next-more b len k (omega (arith, r, few, h))).1 in let y : tail_number g level (len + k) ≡ tail_number g level len + k = omega (arith, z) in y)
      ∙ cell-inside g.format tails room (tail_number g level len) (room_cells g level len) k (let r = room_fits in omega (arith, r)) size (omega (arith, h, few))
      ∙ ap (λ (at : ℕ). take (width g.format) (drop at room)) (mul_comm (width g.format) k)

  new_there : (k : ℕ) → k < count → IsPlace (g.bottom + 1) level slot (len + k)
  new_there k h =
      let s = shape.shadows_fit level device.within in let a = s.within in let d = s.slot_in in let low = device.within in
      record { level_in = omega (arith, low); slot_in = d; index_in = omega (arith, few, a, h) }

  pub woven_cell : (told : Option (List ℕ)) (k : ℕ) → k < count → IsSpelling g.format (standing g.format (cell_bytes_at g.format k room)) (cell_bytes_at g.format k room) →
      spots_of (cells_by g front (lower_now told)) level slot (len + k) ≡ with_cell (spots_of (cells_by g front (lower told)) level slot (len + k)) (as_cell (standing g.format (cell_bytes_at g.format k room)))
  woven_cell None k h spelled = refl
  woven_cell (Some bytes) k h spelled =
      let place = new_there k h in
      let old : is_untold (spots_of (cells_by g front (lower (Some bytes))) level slot (len + k)) ≡ false =
      ap (λ (x : Spot). is_untold x) (spot-there (cells_by g front (lower (Some bytes))) bytes level slot (len + k) place ∙ spot-device (cells_by g front (lower (Some bytes))) bytes level slot (len + k) device.whole)
      ∙ spot_is_told g.format (device_cell g shadows tails bytes level slot (len + k)) in
      spot-there (cells_by g front (lower_now (Some bytes))) bytes level slot (len + k) place
      ∙ spot-device (cells_by g front (lower_now (Some bytes))) bytes level slot (len + k) device.whole
      ∙ ap (λ (x : List ℕ). spot_of_bytes g.format x) (device-in g now after bytes level slot (len + k) (new_place k h) ∙ new_bytes k h)
      ∙ spot_told g.format (standing g.format (cell_bytes_at g.format k room)) (cell_bytes_at g.format k room) spelled
      ∙ sym (put_is_told (spots_of (cells_by g front (lower (Some bytes))) level slot (len + k)) (as_cell (standing g.format (cell_bytes_at g.format k room))) old)

  -- every other place
  stays_here : (bytes : List ℕ) (s i : ℕ) → (s ≢ slot) ⊎ ((i < len) ⊎ (len + count ≤ i)) → device_cell g now after bytes level s i ≡ device_cell g shadows tails bytes level s i
  stays_here bytes s i d =
      device-is g shadows tails bytes level s i (device_cell g now after bytes level s i)
      (λ p. device-in g now after bytes level s i (record { slot_is = p.slot_is ∙ sym now_slot; block_is = p.block_is ∙ sym now_block; within = let e = now_len in let w = p.within in omega (arith, e, w) }) ∙ own_tail i p.block_is p.within)
      (λ n. device-out g now after bytes level s i (λ p. elim d [
        | inl e ↦ e (p.slot_is ∙ now_slot)
        | inr (inl e) ↦ n (record { slot_is = p.slot_is ∙ now_slot; block_is = p.block_is ∙ now_block; within = e })
        | inr (inr e) ↦ let f = now_len in let w = p.within in absurd (omega (arith, e, f, w))
      ]))

  pub woven_stays : (told : Option (List ℕ)) (l s i : ℕ) → (l ≢ level) ⊎ ((s ≢ slot) ⊎ ((i < len) ⊎ (len + count ≤ i))) →
      spots_of (cells_by g front (lower_now told)) l s i ≡ spots_of (cells_by g front (lower told)) l s i
  woven_stays told l s i d =
      spots-stay g front front (lower told) (lower_now told) l s i (λ p low. refl)
      (both-same told (λ x y. IsPlace (g.bottom + 1) l s i → g.block_exp ≤ l + 2 → device_cell g now after y l s i ≡ device_cell g shadows tails x l s i)
      (λ bytes p high. elim (eqb_tells l level) [
        | inr other ↦ other-cell g shadows now tails after bytes bytes level 0 0 (grown count (shadow_at shadows level)) one (around-same g bytes bytes level 0 0 refl) other_tail l s i p high other.1
        | inl same ↦
            let here : (s ≢ slot) ⊎ ((i < len) ⊎ (len + count ≤ i)) = elim d [ inl h ↦ absurd (h same.1) | inr h ↦ h ] in
            subst (λ (x : ℕ). device_cell g now after bytes x s i ≡ device_cell g shadows tails bytes x s i) (sym same.1) (stays_here bytes s i here)
      ]))
