-- The bytes of runs, where they lie, show the cells of a store.
use Rattle.std.proofs.Common.{eq-eqb, ◌≡◌, inl, inr, ℕ, ◌+◌, ◌-◌, ◌*◌, ◌%◌, ◌≤◌, ◌<◌, ◌==◌, min, ◌||◌, not, Bool, true, false, nat_le, nat_lt, List, length, take, drop, Option, None, Some, IfSome, refl, ap, sym, subst, ◌∙◌, arith}
use Rattle.std.proofs.Math.Nat.{div-add-mod, mul-le-mul_left, mul_comm, mod-lt}
use Rattle.std.proofs.lemmas.Nat.{pow_pos}
use Rattle.cola_cell.specs.declared.format.Format.{Format}
use Rattle.cola_cell.specs.declared.sink.Shadow.{Shadow}
use Rattle.cola_cell.specs.declared.cell.Cell.{Cell}
use Rattle.cola_cell.specs.Decoded.{decoded, spot_of_bytes}
use Rattle.cola_cell.specs.Flat.{shadow_at, spot_of}
use Rattle.cola_cell.specs.Format.{width}
use Rattle.cola_cell.specs.Held.{Tells}
use Rattle.cola_cell.specs.Places.{number_of, IsPlace}
use Rattle.cola_device.specs.Bytes.{part, Gives}
use Rattle.cola_device.proofs.BytesLemmas.{length-part, part-part}
use Rattle.cola_front.specs.Front.{cell_at, cell_bytes, spelled_at}
use Rattle.cola_layout.specs.declared.geometry.Geometry.{Geometry}
use Rattle.cola_run.specs.Cells.{Cells, IsBacked, block_bytes, block_cells, block_number, device_cell, is_in_tail, told_spot}
use Rattle.cola_run.specs.Store.{Store, IsStore, held_of, cells_of}
use Rattle.cola_run.specs.Weaving.{IsBelow, IsInFront, IsFound, IsRunHere, ahead, together, is_at_hand}
use Rattle.std.proofs.lemmas.Bool.{lt-leb, eqb-true, true≢false, cases_lt, le-ltb}
use Rattle.cola_run.proofs.Reading.{tells-by, tells-same}
use Rattle.cola_run.proofs.Bytes.{cell-part, block-from}
use Rattle.cola_run.proofs.Numbers.{place-is}
use Rattle.cola_run.proofs.Spots.{device-is, spot-there, spot-device, spot-front, tail-is, if-told}
use Rattle.cola_cell.specs.declared.windows.Reach.{Reach}
use Rattle.cola_cell.specs.Windows.{cell_bytes_at, IsRunIn, IsShown}

-- the bytes of a cell of a window
window_cell : (f : Format) (bytes window : List ℕ) (m many n : ℕ) → length window ≡ many * width f → window ≡ part bytes (width f * m) (length window) → n < many → cell_bytes_at f n window ≡ cell_bytes f bytes (m + n)
window_cell f bytes window m many n size is below =
    ap (λ (at : ℕ). take (width f) (drop at window)) (mul_comm n (width f))
    ∙ ap (λ (xs : List ℕ). cell_bytes f xs n) (is ∙ ap (λ (x : ℕ). part bytes (width f * m) x) (size ∙ mul_comm many (width f)))
    ∙ cell-part f bytes m many n below

-- the cells in the block of the first are a part of it
block_size : (f : Format) (copy found : List ℕ) (b at count : ℕ) → length copy ≡ width f * b → at + count ≤ b → found ≡ part copy (at * width f) (count * width f) → length found ≡ count * width f
block_size f copy found b at count whole inside is = ap length is ∙ length-part copy (at * width f) (count * width f) (omega (arith, whole, mul-le-mul_left (width f) inside))

block_gives : (f : Format) (told : Option (List ℕ)) (copy found : List ℕ) (b at count block number : ℕ) → length copy ≡ width f * b → at + count ≤ b → b * block + at ≡ number → found ≡ part copy (at * width f) (count * width f) →
    length found ≡ count * width f → Gives told (block * (width f * b)) copy → Gives told (width f * number) found
block_gives f None copy found b at count block number whole inside is here size given = tt
block_gives f (Some bytes) copy found b at count block number whole inside is here size given =
    let begin : block * (width f * b) ≡ width f * (b * block) = block-from f b block in
    let sum : width f * (b * block) + at * width f ≡ width f * number = omega (arith, ap (λ (n : ℕ). width f * n) is) in
    here ∙ ap (λ (xs : List ℕ). part xs (at * width f) (count * width f)) (given ∙ ap (λ (n : ℕ). part bytes (block * (width f * b)) n) whole ∙ ap (λ (n : ℕ). part bytes n (width f * b)) begin)
    ∙ part-part bytes (width f * (b * block)) (width f * b) (at * width f) (count * width f) (omega (arith, mul-le-mul_left (width f) inside))
    ∙ ap (λ (n : ℕ). part bytes n (count * width f)) sum ∙ ap (λ (n : ℕ). part bytes (width f * number) n) (sym size)

-- the bytes of cells in the block that a buffer holds are the device's
pub block_found : (told : Option (List ℕ)) (g : Geometry) (reach : Reach) (copy found : List ℕ) (count : ℕ) → g.block_exp ≤ reach.run.level + 2 → count ≡ min (ahead reach) (block_cells g - reach.from % block_cells g) →
    length copy ≡ block_bytes g → Gives told (block_number g reach.run.level reach.run.slot reach.from * block_bytes g) copy →
    found ≡ part copy (reach.from % block_cells g * width g.format) (count * width g.format) → IsBelow false told g reach found (count == ahead reach)
block_found told g reach copy found count low many whole given is =
    let b = block_cells g in
    let at = reach.from % b in
    let inside : at + count ≤ b = omega (arith, many, mod-lt reach.from (pow_pos g.block_exp)) in
    let place : number_of reach.run.level reach.run.slot reach.from % b ≡ at = place-is g.block_exp reach.run.level reach.run.slot reach.from low in
    let sum : b * block_number g reach.run.level reach.run.slot reach.from + at ≡ number_of reach.run.level reach.run.slot reach.from =
    ap (λ (n : ℕ). b * block_number g reach.run.level reach.run.slot reach.from + n) (sym place) ∙ div-add-mod (number_of reach.run.level reach.run.slot reach.from) b in
    let size : length found ≡ count * width g.format = block_size g.format copy found b at count whole inside is in
    record {
      size = size ∙ ap (λ (n : ℕ). n * width g.format) many;
      gives = block_gives g.format told copy found b at count (block_number g reach.run.level reach.run.slot reach.from) (number_of reach.run.level reach.run.slot reach.from) whole inside sum is size given;
      last = ap (λ (n : ℕ). n == ahead reach) many;
    }

-- those that lie together lie ahead
together_few : (lends : Bool) (g : Geometry) (reach : Reach) → together lends g reach ≤ ahead reach
together_few true g reach = omega arith
together_few false g reach = omega arith

-- the cells of a run that is on the device whole
below_shows : (cells : Cells) (lends : Bool) (told : Option (List ℕ)) (reach : Reach) (window : List ℕ) (last : Bool) (n : ℕ) → cells.lower.told ≡ told → IfSome told (IsBacked cells.geometry cells.lower.shadows cells.lower.tails) →
    IsBelow lends told cells.geometry reach window last → IsRunHere cells.geometry reach → cells.geometry.block_exp ≤ reach.run.level + 2 →
    (reach.run.slot ≡ (shadow_at cells.lower.shadows reach.run.level).slot → (shadow_at cells.lower.shadows reach.run.level).saved ≡ true) → n < together lends cells.geometry reach →
    Tells (told_spot cells told reach.run.level reach.run.slot (reach.from + n)) (spot_of_bytes cells.geometry.format (cell_bytes_at cells.geometry.format n window))
below_shows cells lends None reach window last n e backed found there whole saved below = tt
below_shows cells lends (Some bytes) reach window last n e backed found there whole saved below =
    let g = cells.geometry in
    let l = reach.run.level in
    let s = reach.run.slot in
    let i = reach.from + n in
    let within = there.within in
    let low = there.low in
    let place : IsPlace (g.bottom + 1) l s i = record { level_in = omega (arith, low); slot_in = there.slot_in; index_in = let few = together_few lends g reach in omega (arith, below, few, within) } in
    let same : cell_bytes g.format bytes (number_of l s i) ≡ device_cell g cells.lower.shadows cells.lower.tails bytes l s i =
    device-is g cells.lower.shadows cells.lower.tails bytes l s i (cell_bytes g.format bytes (number_of l s i))
    (λ p.
    let slot : s ≡ (shadow_at cells.lower.shadows l).slot = p.slot_is in
    let kept = backed.saved l (record { within = low; whole = whole }) (saved slot) i (subst (λ (x : ℕ). is_in_tail (block_cells g) (shadow_at cells.lower.shadows l) x i ≡ true) slot (tail-is (block_cells g) (shadow_at cells.lower.shadows l) s i p)) in
    ap (λ (x : ℕ). cell_bytes g.format bytes (number_of l x i)) slot ∙ kept)
    (λ d. refl) in
    let window_is : cell_bytes_at g.format n window ≡ cell_bytes g.format bytes (number_of l s reach.from + n) = window_cell g.format bytes window (number_of l s reach.from) (together lends g reach) n found.size found.gives below in
    tells-same (told_spot cells (Some bytes) l s i) (spot_of_bytes g.format (cell_bytes_at g.format n window))
    (spot-there cells bytes l s i place ∙ spot-device cells bytes l s i whole
    ∙ ap (λ (x : List ℕ). spot_of_bytes g.format x) (sym (window_is ∙ ap (λ (x : ℕ). cell_bytes g.format bytes x) (omega arith) ∙ same)))

-- the parts of the test whether a run is at hand
by_test : (a b t s : Bool) → (a || (b || (not t || s))) ≡ true → a ≡ false → b ≡ false → t ≡ true → s ≡ true
by_test true b t s e f h z = absurd (true≢false f)
by_test false true t s e f h z = absurd (true≢false h)
by_test false false true s e f h z = e
by_test false false false s e f h z = absurd (true≢false (sym z))

pub at_hand : (g : Geometry) (shadows : List Shadow) (reach : Reach) → is_at_hand g shadows reach ≡ true → reach.from < reach.run.len → g.block_exp ≤ reach.run.level + 2 →
    reach.run.slot ≡ (shadow_at shadows reach.run.level).slot → (shadow_at shadows reach.run.level).saved ≡ true
at_hand g shadows reach e h whole z =
    by_test (nat_le reach.run.len reach.from) (nat_lt (reach.run.level + 2) g.block_exp) (reach.run.slot == (shadow_at shadows reach.run.level).slot) (shadow_at shadows reach.run.level).saved e
    (lt-leb reach.run.len reach.from h) (le-ltb (reach.run.level + 2) g.block_exp whole) (eq-eqb reach.run.slot (shadow_at shadows reach.run.level).slot z)

-- the cells of a run of the front
front_shows : (cells : Cells) (told : Option (List ℕ)) (reach : Reach) (window : List ℕ) (last : Bool) (n : ℕ) → cells.front.format ≡ cells.geometry.format → IsInFront cells.front reach window last → IsRunHere cells.geometry reach →
    reach.run.level + 2 < cells.geometry.block_exp → n < ahead reach →
    Tells (told_spot cells told reach.run.level reach.run.slot (reach.from + n)) (spot_of_bytes cells.geometry.format (cell_bytes_at cells.geometry.format n window))
front_shows cells told reach window last n format found there low below =
    let f = cells.geometry.format in
    let l = reach.run.level in
    let s = reach.run.slot in
    let i = reach.from + n in
    let place : IsPlace (cells.geometry.bottom + 1) l s i = record { level_in = omega (arith, there.low); slot_in = there.slot_in; index_in = omega (arith, below, there.within) } in
    let number : number_of l s reach.from + n ≡ number_of l s i = omega arith in
    let spelled : spelled_at cells.front.format window n ≡ decoded f (cell_bytes_at f n window) =
    ap (λ (x : Format). spelled_at x window n) format ∙ ap (λ (at : ℕ). decoded f (take (width f) (drop at window))) (mul_comm (width f) n) in
    let here : cell_at cells.front (number_of l s i) ≡ decoded f (cell_bytes_at f n window) = ap (λ (p : ℕ). cell_at cells.front p) (sym number) ∙ found.shows n below ∙ spelled in
    tells-by cells told l s i (decoded f (cell_bytes_at f n window))
    (if-told told (λ bytes. spot-there cells bytes l s i place ∙ spot-front cells bytes l s i low ∙ ap (λ (c : Option Cell). spot_of c) here))

-- the bytes that were found show a run that is at hand
pub found_shown : {D : Type 0} (bytes : D → Option (List ℕ)) (store : Store D) (lends : Bool) (reach : Reach) (window : List ℕ) (last : Bool) → IsStore (bytes store.buffers.cache.device) store →
    IsFound lends (bytes store.buffers.cache.device) store.geometry store.front reach window last → (reach.from < reach.run.len → IsRunIn (held_of bytes store) reach) →
    is_at_hand store.geometry store.shadows reach ≡ true → IsShown (held_of bytes store) reach window last
found_shown bytes store lends reach window last sound found run hand = elim (cases_lt (reach.run.level + 2) store.geometry.block_exp) [
  | inl low ↦
      let f = found.in_front low in
      let format = sound.cells.shape.format in
      record {
        many = ahead reach;
        size = f.size ∙ ap (λ (x : Format). ahead reach * width x) format;
        within = omega arith;
        ends = λ _. refl;
        shows = λ n h.
            front_shows (cells_of (bytes store.buffers.cache.device) store) (bytes store.buffers.cache.device) reach window last n format f (here (omega (arith, h))) low h;
      }
  | inr high ↦
      let f = found.below high in
      record {
        many = together lends store.geometry reach;
        size = f.size;
        within = together_few lends store.geometry reach;
        ends = λ e. eqb-true (together lends store.geometry reach) (ahead reach) (sym f.last ∙ e);
        shows = λ n h.
            let there : reach.from < reach.run.len = let few = together_few lends store.geometry reach in omega (arith, h, few) in
            below_shows (cells_of (bytes store.buffers.cache.device) store) lends (bytes store.buffers.cache.device) reach window last n refl sound.cells.backed f (here there) high
            (at_hand store.geometry store.shadows reach hand there high) h;
      }
]
  where
    here : reach.from < reach.run.len → IsRunHere store.geometry reach
    here there = let r = run there in let level = r.level_in in record { low = omega (arith, level); slot_in = r.slot_in; within = r.within }

-- the first of them tells what stands at the index
first_together : (lends : Bool) (g : Geometry) (reach : Reach) → reach.from < reach.run.len → 0 < together lends g reach
first_together true g reach h = omega (arith, h)
first_together false g reach h = let rest = mod-lt reach.from (pow_pos g.block_exp) in omega (arith, h, rest)

pub first_shown : {D : Type 0} (bytes : D → Option (List ℕ)) (store : Store D) (lends : Bool) (reach : Reach) (window : List ℕ) (last : Bool) → IsStore (bytes store.buffers.cache.device) store →
    IsFound lends (bytes store.buffers.cache.device) store.geometry store.front reach window last → IsRunIn (held_of bytes store) reach → is_at_hand store.geometry store.shadows reach ≡ true →
    Tells ((held_of bytes store).spots reach.run.level reach.run.slot reach.from) (spot_of_bytes store.geometry.format (cell_bytes_at store.geometry.format 0 window))
first_shown bytes store lends reach window last sound found run hand =
    let told = bytes store.buffers.cache.device in
    let here : IsRunHere store.geometry reach = record { low = omega (arith, run.level_in); slot_in = run.slot_in; within = run.within } in
    let at : reach.from + 0 ≡ reach.from = omega arith in
    subst (λ (i : ℕ). Tells ((held_of bytes store).spots reach.run.level reach.run.slot i) (spot_of_bytes store.geometry.format (cell_bytes_at store.geometry.format 0 window))) at
    (elim (cases_lt (reach.run.level + 2) store.geometry.block_exp) [
      | inl low ↦ front_shows (cells_of told store) told reach window last 0 sound.cells.shape.format (found.in_front low) here low (omega (arith, run.some))
      | inr high ↦
          below_shows (cells_of told store) lends told reach window last 0 refl sound.cells.backed (found.below high) here high
          (at_hand store.geometry store.shadows reach hand run.some high) (first_together lends store.geometry reach run.some)
    ])
