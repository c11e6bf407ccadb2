-- A store behind a merge over the bytes of runs into its front.
use Rattle.std.proofs.Common.{◌≡◌, ◌≢◌, ◌⊎◌, inl, inr, ℕ, ◌+◌, ◌-◌, ◌%◌, ◌≤◌, ◌<◌, List, length, Option, None, Some, refl, ap, sym, subst, ◌∙◌, arith}
use Rattle.std.proofs.Math.Nat.{mod-eq_of_lt}
use Rattle.std.proofs.lemmas.Bool.{cases_lt}
use Rattle.std.proofs.lemmas.Nat.{pow_pos}
use Rattle.cola_cell.specs.declared.cell.Cell.{Cell}
use Rattle.cola_cell.specs.declared.sink.Shadow.{Shadow}
use Rattle.cola_cell.specs.Decoded.{standing}
use Rattle.cola_cell.specs.Flat.{spot_of, shadow_at}
use Rattle.cola_cell.specs.Held.{as_cell, with_cell}
use Rattle.cola_cell.specs.Places.{slot_size, number_of, IsPlace}
use Rattle.cola_cell.specs.Windows.{AreSpelled, Grown, cell_bytes_at, grown}
use Rattle.cola_cell.proofs.RunLemmas.{put_is_told}
use Rattle.cola_device.specs.declared.counts.Counts.{Counts}
use Rattle.cola_front.specs.Front.{cell_at}
use Rattle.cola_layout.specs.declared.geometry.Geometry.{Geometry}
use Rattle.cola_layout.proofs.Places.{place-differ}
use Rattle.cola_layout.proofs.Powers.{power-le, next_power}
use Rattle.cola_cache.specs.Blocks.{Blocks}
use Rattle.cola_run.specs.Cells.{Lower, block_cells, end_number, known_spot, told_spot, cells_by}
use Rattle.cola_run.specs.Store.{Store, IsStore, cells_of, held_of}
use Rattle.cola_run.specs.Weaving.{PutInFront}
use Rattle.cola_run.proofs.Fronting.{same-around, spots-now}
use Rattle.cola_run.proofs.Sinks.{shape-with, sound-with}
use Rattle.cola_run.proofs.Reading.{span-is}
use Rattle.cola_run.proofs.Spots.{known-told, spot-there, spot-front}
use Rattle.cola_run.proofs.Standing.{front-stays, front-shape, front-backed}

module _ {D K : Type 0} (bytes : D → Option (List ℕ)) (counts : D → Counts) (kept : D → K) (store now : Store D) (level count : ℕ) (room : List ℕ)
    (sound : IsStore (bytes store.buffers.cache.device) store) (same : now.geometry ≡ store.geometry) (buffers : now.buffers ≡ store.buffers) (tails : now.tails ≡ store.tails)
    (low : level + 2 < store.geometry.block_exp) (within : level ≤ store.geometry.bottom) (put : PutInFront store.geometry store.front now.front store.shadows now.shadows level count room)
    (few : (shadow_at store.shadows level).len + count ≤ slot_size level) where
  abbrev g : Geometry
  g = store.geometry

  abbrev told : Option (List ℕ)
  told = bytes store.buffers.cache.device

  abbrev lower : Lower
  lower = (cells_of (bytes store.buffers.cache.device) store).lower

  abbrev lower-now : Lower
  lower-now = (cells_of (bytes now.buffers.cache.device) now).lower

  abbrev shadow : Shadow
  shadow = shadow_at store.shadows level

  told-same : bytes now.buffers.cache.device ≡ bytes store.buffers.cache.device
  told-same = ap (λ (b : Blocks D). bytes b.cache.device) buffers

  pub fronted-sound : IsStore (bytes now.buffers.cache.device) now
  fronted-sound =
      let stands = sound.cells.shape.shadows_fit level within in
      let h = front-shape g store.front store.front lower lower-now level (grown count shadow) sound.cells.shape told-same tails put.shadow low (record { slot_in = stands.slot_in; within = few }) in
      let b = front-backed g store.front store.front lower lower-now level (grown count shadow) sound.cells.shape told-same tails put.shadow low sound.cells.backed in
      sound-with bytes store now sound same (shape-with put.shape.format put.shape.block h) b
      (ap (λ (b : Blocks D). b.cache.size) buffers) (ap (λ (b : Blocks D). b.many) buffers) (ap (λ (b : Blocks D). length b.lasts) buffers)

  -- a slot of the front is less than a block
  small : slot_size level + 1 ≤ block_cells g
  small = omega (arith, power-le (level + 3) g.block_exp (omega (arith, low)), next_power (level + 2) (level + 3) (omega arith), pow_pos (level + 2))

  place : (k : ℕ) → k < count → IsPlace (g.bottom + 1) level shadow.slot (shadow.len + k)
  place k h = let stands = sound.cells.shape.shadows_fit level within in record { level_in = omega (arith, within); slot_in = stands.slot_in; index_in = omega (arith, few, h) }

  -- a cell that was put
  stands-now : (x : Option (List ℕ)) (k : ℕ) → k < count →
      told_spot (cells_by g now.front lower-now) x level shadow.slot (shadow.len + k)
      ≡ with_cell (told_spot (cells_by g store.front lower) x level shadow.slot (shadow.len + k)) (as_cell (standing g.format (cell_bytes_at g.format k room)))
  stands-now None k h = refl
  stands-now (Some b) k h =
      let c = standing g.format (cell_bytes_at g.format k room) in
      spot-there (cells_by g now.front lower-now) b level shadow.slot (shadow.len + k) (place k h)
      ∙ spot-front (cells_by g now.front lower-now) b level shadow.slot (shadow.len + k) low
      ∙ ap (λ (x : Option Cell). spot_of x) (ap (λ (n : ℕ). cell_at now.front n) (omega arith) ∙ put.placed k h)
      ∙ sym (put_is_told (known_spot (cells_by g store.front lower) b level shadow.slot (shadow.len + k)) (as_cell c) (known-told (cells_by g store.front lower) b level shadow.slot (shadow.len + k)))

  -- a place that is none of these
  elsewhere : (l s i : ℕ) → (l ≢ level) ⊎ ((s ≢ shadow.slot) ⊎ ((i < shadow.len) ⊎ (shadow.len + count ≤ i))) → IsPlace (g.bottom + 1) l s i → cell_at now.front (number_of l s i) ≡ cell_at store.front (number_of l s i)
  elsewhere l s i d p = elim (cases_lt (number_of l s i) (end_number store.shadows level)) [
    | inl before ↦ put.others (number_of l s i) (inl before)
    | inr from ↦ elim (cases_lt (number_of l s i) (end_number store.shadows level + count)) [
      | inr behind ↦ put.others (number_of l s i) (inr behind)
      | inl inside ↦
          let k = number_of l s i - end_number store.shadows level in
          let below : k < count = omega (arith, from, inside) in
          let (levels, slots, indices) = place-differ g.bottom l s i level shadow.slot (shadow.len + k) p (place k below) (omega (arith, from)) in
          absurd (elim d [
            | inl x ↦ x levels
            | inr (inl x) ↦ x slots
            | inr (inr (inl x)) ↦ omega (arith, x, indices)
            | inr (inr (inr x)) ↦ omega (arith, x, indices, below)
          ])
    ]
  ]

  pub fronted-grown : AreSpelled g.format count room → Grown (held_of bytes store) (held_of bytes now) level room count
  fronted-grown spelled = record {
    around = same-around bytes counts kept store now level (grown count shadow) sound same buffers tails put.shadow;
    shadow_is = put.shadow.is;
    fits = few;
    in_block = λ d.
        let rest : shadow.len % block_cells g ≡ shadow.len = mod-eq_of_lt (omega (arith, few, small)) in
        subst (λ (n : ℕ). shadow.len % n + count < n) (sym (span-is g sound.cells.shape.block)) (omega (arith, few, small, rest));
    spelled = spelled;
    cells_are = λ k h.
        spots-now bytes counts kept store now level (grown count shadow) sound same buffers tails put.shadow level shadow.slot (shadow.len + k)
        ∙ ap (λ (x : Option (List ℕ)). told_spot (cells_by g now.front lower-now) x level shadow.slot (shadow.len + k)) told-same ∙ stands-now told k h;
    others_stay = λ l s i d.
        spots-now bytes counts kept store now level (grown count shadow) sound same buffers tails put.shadow l s i
        ∙ front-stays g store.front now.front lower lower-now level (grown count shadow) sound.cells.shape told-same tails put.shadow low l s i (λ p _. elsewhere l s i d p);
  }
