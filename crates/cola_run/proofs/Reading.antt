-- That reads of a store meet the trait.
use Rattle.std.proofs.Common.{◌≡◌, inl, inr, ℕ, ◌+◌, ◌-◌, ◌*◌, ◌^◌, ◌<◌, ◌≤◌, List, length, set, Option, None, Some, IfSome, Result, Ok, Err, refl, sym, ap, subst, ◌∙◌, arith}
use Rattle.std.specs.Prelude.{OnOk}
use Rattle.std.proofs.lemmas.Nat.{pow-add}
use Rattle.std.proofs.lemmas.Result.{on_ok_weaker}
use Rattle.cola_cell.specs.declared.format.Format.{Format}
use Rattle.cola_cell.specs.declared.cell.Cell.{Cell}
use Rattle.cola_cell.specs.declared.cell.Reader.{Reader}
use Rattle.cola_cell.specs.declared.fault.ReadFault.{ReadFault}
use Rattle.cola_cell.specs.declared.fault.ReadFault.TheVariants.{Device, BadCell}
use Rattle.cola_cell.specs.Decoded.{decoded, spot_of_bytes}
use Rattle.cola_cell.specs.Flat.{found, spot_of, shadow_at}
use Rattle.cola_cell.specs.Format.{CellFits}
use Rattle.cola_cell.specs.Held.{Held, Spot, Untold, Bad, Told, Tells, span}
use Rattle.cola_cell.specs.Places.{slot_size, number_of, IsPlace, block_of}
use Rattle.cola_cell.specs.Spent.{Buffer, buffer_for, Ticks, StaysAt, ReadAnswers, ReadCalm}
use Rattle.cola_cell.specs.Reads.{Reads}
use Rattle.cola_cell.specs.State.{State}
use Rattle.cola_device.specs.declared.counts.Counts.{Counts}
use Rattle.cola_front.specs.Front.{cell_at, cell_bytes, ComesBack}
use Rattle.cola_front.proofs.FrontLemmas.{spelled_back}
use Rattle.cola_layout.specs.declared.geometry.Geometry.{Geometry}
use Rattle.cola_layout.specs.Geometry.{IsBlock}
use Rattle.cola_layout.proofs.Powers.{power-le}
use Rattle.cola_cache.specs.Blocks.{Blocks, Made, last_in}
use Rattle.cola_run.specs.Cells.{IsOnDevice, Cells, block_cells, block_number, tail_number, known_spot, told_spot, spots_of, device_levels}
use Rattle.cola_run.specs.Store.{Store, cells_of, held_of, spent_of, state_of, last_block, last_of}
use Rattle.cola_run.specs.Parts.{Finds}
use Rattle.cola_run.specs.Turns.{buffer_index, turned_last, Turns}
use Rattle.cola_run.proofs.Calls.{spelled-fits}
use Rattle.cola_run.proofs.Lasts.{block-number-is, held-is, others-stay, own-set, own-is, buffer-within}
use Rattle.cola_run.proofs.Spots.{IsInTail, device-in, device-out, spot-there, spot-front, spot-device, if-told}

-- a fact is one on Ok
pub on-ok : {T E P : Type 0} (result : Result T E) → P → OnOk result P
on-ok (Ok x) p = p
on-ok (Err e) p = tt

-- the cells of a block
pub span-is : (g : Geometry) → IsBlock g.block_exp g.bottom → 8 * 2 ^ (g.block_exp - 3) ≡ block_cells g
span-is g fits =
    sym (pow-add 2 3 (g.block_exp - 3)) ∙ ap (λ (n : ℕ). 2 ^ n) (omega (arith, fits.group))

-- a slot of a level on the device is no less than a block
pub not-small : (g : Geometry) (level : ℕ) → IsBlock g.block_exp g.bottom → g.block_exp ≤ level + 2 → slot_size level < 8 * 2 ^ (g.block_exp - 3) → ⊥
not-small g level fits high h = omega (arith, h, span-is g fits, power-le g.block_exp (level + 2) high)

-- what a place tells, where something is told
pub tells-same : (x y : Spot) → x ≡ y → Tells x y
tells-same Untold y e = tt
tells-same Bad y e = e
tells-same (Told c) y e = e

pub tells-by : (cells : Cells) (told : Option (List ℕ)) (l s i : ℕ) (c : Option Cell) → IfSome told (λ b. known_spot cells b l s i ≡ spot_of c) → Tells (told_spot cells told l s i) (spot_of c)
tells-by cells None l s i c e = tt
tells-by cells (Some b) l s i c e = tells-same (known_spot cells b l s i) (spot_of c) e

-- what was found has its cause
pub found-says : (held : Held) (before now l s i n : ℕ) (c : Option Cell) → Tells (held.spots l s i) (spot_of c) → IfSome c (CellFits held.fixed.format) → n ≡ number_of l s i → ReadAnswers held before now l s i (found n c)
found-says held before now l s i n None e h k = record { told = e; number_is = k }
found-says held before now l s i n (Some c) e h k = record { told = e; fits = h }

-- a cell of the front that stands there fits
pub front-fits : (f : Format) (c : Option Cell) → ComesBack f c → IfSome c (CellFits f)
front-fits f None back = tt
front-fits f (Some cell) back = let s = spelled_back f cell back in s.fits

-- a read of a cell in memory
calm-same : (faults : ℕ) (result : Result Cell ReadFault) → ReadCalm faults faults result
calm-same faults (Ok cell) = refl
calm-same faults (Err Device) = tt
calm-same faults (Err (BadCell n)) = refl

pub reads-memory : (old : State) (ticked : ℕ) (buffer : Buffer) (l s i : ℕ) (result : Result Cell ReadFault) → Ticks old.spent.ticked ticked 1
    → ReadAnswers old.held old.spent.faults old.spent.faults l s i result → Reads old (record old { spent = record old.spent { ticked = ticked } }) buffer l s i result
reads-memory old ticked buffer l s i result ticks answer = record {
  cells_stay = refl;
  answer = answer;
  faults_stay = omega arith;
  calm = calm-same old.spent.faults result;
  one_tick = ticks;
  written_is = refl;
  turned_stays = omega arith;
  turned_rises = omega arith;
  in_last = λ _. record { turned_is = refl; last_is = refl };
  in_small = λ _. record { turned_is = refl; last_is = refl };
  moves = on-ok result (λ h. absurd (omega (arith, h)));
  keeps = on-ok result (λ _. inl refl);
  others_stay = λ _ _. refl;
}

-- what stands at a place of the front, and at one in a tail
pub front-says : {D : Type 0} (bytes : D → Option (List ℕ)) (store : Store D) (faults l s i n : ℕ) (c : Option Cell) (result : Result Cell ReadFault) → IsPlace (store.geometry.bottom + 1) l s i → l + 2 < store.geometry.block_exp
    → c ≡ cell_at store.front (number_of l s i) → IfSome c (CellFits store.geometry.format) → n ≡ number_of l s i → result ≡ found n c → ReadAnswers (held_of bytes store) faults faults l s i result
front-says bytes store faults l s i n c result p low is fits number answer =
    subst (λ (r : Result Cell ReadFault). ReadAnswers (held_of bytes store) faults faults l s i r) (sym answer)
    (found-says (held_of bytes store) faults faults l s i n c
    (tells-by (cells_of (bytes store.buffers.cache.device) store) (bytes store.buffers.cache.device) l s i c
    (if-told (bytes store.buffers.cache.device) (λ b.
    spot-there (cells_of (bytes store.buffers.cache.device) store) b l s i p
    ∙ spot-front (cells_of (bytes store.buffers.cache.device) store) b l s i low
    ∙ ap (λ (x : Option Cell). spot_of x) (sym is))))
    fits number)

pub tail-says : {D : Type 0} (bytes : D → Option (List ℕ)) (store : Store D) (faults l s i n : ℕ) (c : Option Cell) (result : Result Cell ReadFault) → IsPlace (store.geometry.bottom + 1) l s i → store.geometry.block_exp ≤ l + 2
    → IsInTail (block_cells store.geometry) (shadow_at store.shadows l) s i → c ≡ decoded store.geometry.format (cell_bytes store.geometry.format store.tails (tail_number store.geometry l i)) → n ≡ number_of l s i → result ≡ found n c
    → ReadAnswers (held_of bytes store) faults faults l s i result
tail-says bytes store faults l s i n c result p high inside is number answer =
    subst (λ (r : Result Cell ReadFault). ReadAnswers (held_of bytes store) faults faults l s i r) (sym answer)
    (found-says (held_of bytes store) faults faults l s i n c
    (tells-by (cells_of (bytes store.buffers.cache.device) store) (bytes store.buffers.cache.device) l s i c
    (if-told (bytes store.buffers.cache.device) (λ b.
    spot-there (cells_of (bytes store.buffers.cache.device) store) b l s i p
    ∙ spot-device (cells_of (bytes store.buffers.cache.device) store) b l s i high
    ∙ ap (λ (x : List ℕ). spot_of_bytes store.geometry.format x) (device-in store.geometry store.shadows store.tails b l s i inside)
    ∙ ap (λ (x : Option Cell). spot_of x) (sym is))))
    (subst (λ (x : Option Cell). IfSome x (CellFits store.geometry.format)) (sym is) (spelled-fits store.geometry.format (cell_bytes store.geometry.format store.tails (tail_number store.geometry l i)))) number)

-- a read by way of a buffer, by what it answers
module _ {D : Type 0} (bytes : D → Option (List ℕ)) (counts : D → Counts) (store : Store D) (now : Blocks D) (ticked : ℕ) (reader : Option Reader) (l s i : ℕ) (result : Result Cell ReadFault)
    (fits : IsBlock store.geometry.block_exp store.geometry.bottom) (many : length store.buffers.lasts ≡ 1 + 3 * device_levels store.geometry)
    (p : IsPlace (store.geometry.bottom + 1) l s i) (device : IsOnDevice store.geometry l)
    (answer : ReadAnswers (held_of bytes store) (counts store.buffers.cache.device).faults (counts now.cache.device).faults l s i result)
    (turns : Turns counts store.buffers now (buffer_index store.geometry reader l) (block_number store.geometry l s i) result) (told_stays : bytes now.cache.device ≡ bytes store.buffers.cache.device) (ticks : Ticks store.ticked ticked 1) where
  abbrev g : Geometry
  g = store.geometry

  within : buffer_index g reader l < length store.buffers.lasts
  within = let h = buffer-within g reader l device in omega (arith, h, many)

  moved : (value : Cell) → result ≡ Ok value → last_of g now.lasts (buffer_for reader l) ≡ Some (block_of (span (held_of bytes store)) l s i)
  moved value ok =
      ap (λ (xs : List (Option ℕ)). last_of g xs (buffer_for reader l)) (turns.lasts_are ∙ ap (λ (r : Result Cell ReadFault). set store.buffers.lasts (buffer_index g reader l) (turned_last (block_number g l s i) r)) ok)
      ∙ own-set g store.buffers.lasts reader l (Some (block_number g l s i)) device.whole within
      ∙ block-number-is g l s i fits device.whole p
      ∙ ap (λ (n : ℕ). Some (block_of n l s i)) (sym (span-is g fits))

  moves-on : (r : Result Cell ReadFault) → r ≡ result → OnOk r (last_of g now.lasts (buffer_for reader l) ≡ Some (block_of (span (held_of bytes store)) l s i))
  moves-on (Ok value) e = moved value (sym e)
  moves-on (Err fault) e = tt

  in-last : last_of g store.buffers.lasts (buffer_for reader l) ≡ Some (block_of (span (held_of bytes store)) l s i) →
      StaysAt (spent_of counts store) (spent_of counts (record store { buffers = now; ticked = ticked })) (buffer_for reader l)
  in-last e =
      let block : last_block g (last_in store.buffers.lasts (buffer_index g reader l)) ≡ Some (block_of (block_cells g) l s i) =
      sym (own-is g store.buffers.lasts reader l device.whole) ∙ e ∙ ap (λ (n : ℕ). Some (block_of n l s i)) (span-is g fits) in
      let same : now ≡ store.buffers = turns.same (held-is g l s i (last_in store.buffers.lasts (buffer_index g reader l)) fits device.whole block) in
      record { turned_is = ap (λ (x : Blocks D). (counts x.cache.device).reads) same; last_is = ap (λ (x : Blocks D). last_of g x.lasts (buffer_for reader l)) same }

  abbrev held-by : Made → Option (List ℕ) → Held
  held-by made told = record (held_of bytes store) { fixed = record (held_of bytes store).fixed { made = record { reads = made.reads; faults = made.faults } }; spots = spots_of (cells_of told store) }

  pub reads-turned : Reads (state_of bytes counts store) (state_of bytes counts (record store { buffers = now; ticked = ticked })) (buffer_for reader l) l s i result
  reads-turned = record {
    cells_stay = ap (λ (made : Made). held-by made (bytes now.cache.device)) turns.stays.made ∙ ap (λ (told : Option (List ℕ)). held-by store.buffers.made told) told_stays;
    answer = answer;
    faults_stay = turns.faults_stay;
    calm = turns.calm;
    one_tick = ticks;
    written_is = turns.writes_is;
    turned_stays = turns.reads_stay;
    turned_rises = turns.reads_rise;
    in_last = in-last;
    in_small = λ h. absurd (not-small g l fits device.whole h);
    moves = on_ok_weaker result (λ h _. h) (moves-on result refl);
    keeps = on_ok_weaker result (λ h _. inr h) (moves-on result refl);
    others_stay = λ other apart.
        ap (λ (xs : List (Option ℕ)). last_of g xs other) turns.lasts_are ∙ others-stay g store.buffers.lasts reader l (turned_last (block_number g l s i) result) other device.whole apart;
  }

-- a read of a cell on the device
module _ {D : Type 0} (bytes : D → Option (List ℕ)) (counts : D → Counts) (store : Store D) (now : Blocks D) (ticked : ℕ) (reader : Option Reader) (l s i : ℕ) (result : Result Cell ReadFault)
    (fits : IsBlock store.geometry.block_exp store.geometry.bottom) (many : length store.buffers.lasts ≡ 1 + 3 * device_levels store.geometry)
    (p : IsPlace (store.geometry.bottom + 1) l s i) (device : IsOnDevice store.geometry l) (outside : IsInTail (block_cells store.geometry) (shadow_at store.shadows l) s i → ⊥)
    (finds : Finds (bytes store.buffers.cache.device) store.geometry.format (number_of l s i) result)
    (turns : Turns counts store.buffers now (buffer_index store.geometry reader l) (block_number store.geometry l s i) result) (told_stays : bytes now.cache.device ≡ bytes store.buffers.cache.device) (ticks : Ticks store.ticked ticked 1) where
  spot-is : (c : Option Cell) → IfSome (bytes store.buffers.cache.device) (λ b. decoded store.geometry.format (cell_bytes store.geometry.format b (number_of l s i)) ≡ c) →
      Tells (told_spot (cells_of (bytes store.buffers.cache.device) store) (bytes store.buffers.cache.device) l s i) (spot_of c)
  spot-is c h = tells-by (cells_of (bytes store.buffers.cache.device) store) (bytes store.buffers.cache.device) l s i c (by-case (bytes store.buffers.cache.device) h)
    where
      by-case : (x : Option (List ℕ)) → IfSome x (λ b. decoded store.geometry.format (cell_bytes store.geometry.format b (number_of l s i)) ≡ c) → IfSome x (λ b. known_spot (cells_of (bytes store.buffers.cache.device) store) b l s i ≡ spot_of c)
      by-case None h = tt
      by-case (Some b) h =
          spot-there (cells_of (bytes store.buffers.cache.device) store) b l s i p
          ∙ spot-device (cells_of (bytes store.buffers.cache.device) store) b l s i device.whole
          ∙ ap (λ (x : List ℕ). spot_of_bytes store.geometry.format x) (device-out store.geometry store.shadows store.tails b l s i outside)
          ∙ ap (λ (x : Option Cell). spot_of x) h

  answers : (r : Result Cell ReadFault) → Finds (bytes store.buffers.cache.device) store.geometry.format (number_of l s i) r → Turns counts store.buffers now (buffer_index store.geometry reader l) (block_number store.geometry l s i) r →
      ReadAnswers (held_of bytes store) (counts store.buffers.cache.device).faults (counts now.cache.device).faults l s i r
  answers (Ok cell) f t = record { told = spot-is (Some cell) f.1; fits = f.0 }
  answers (Err Device) f t = t.cause
  answers (Err (BadCell n)) f t = record { told = spot-is None f.1; number_is = f.0 }

  pub reads-device : Reads (state_of bytes counts store) (state_of bytes counts (record store { buffers = now; ticked = ticked })) (buffer_for reader l) l s i result
  reads-device = reads-turned bytes counts store now ticked reader l s i result fits many p device (answers result finds turns) turns told_stays ticks
