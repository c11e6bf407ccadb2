-- What a flush leaves of the front's two blocks, refused or not.
use Rattle.std.proofs.Common.{◌≡◌, inl, inr, ℕ, ◌+◌, ◌-◌, ◌*◌, ◌<◌, ◌≤◌, List, ◌++◌, length, take, drop, Option, None, Some, IfSome, Err, sym, ap, subst, ◌∙◌, arith}
use Rattle.std.proofs.lemmas.List.{take-take, take_all, drop_at}
use Rattle.cola_outside.specs.Told.{Both}
use Rattle.cola_cell.specs.declared.format.Format.{Format}
use Rattle.cola_cell.specs.declared.format.Format.TheVariants.{One, Two}
use Rattle.cola_cell.specs.declared.sink.Shadow.{Shadow}
use Rattle.cola_cell.specs.Decoded.{decoded}
use Rattle.cola_cell.specs.Format.{width}
use Rattle.cola_cell.specs.Held.{Spots}
use Rattle.cola_cell.specs.Places.{number_of}
use Rattle.cola_device.specs.declared.device.Device as device
use Rattle.cola_device.specs.Settling.{IsSettled}
use Rattle.cola_device.specs.Bytes.{part}
use Rattle.cola_device.proofs.BytesLemmas.{part-part}
use Rattle.cola_front.specs.Front.{FrontCells, IsFront, InOrder, block_size, cell_at, cell_bytes, stored_all, second_block, image}
use Rattle.cola_front.proofs.Image.{image_cell}
use Rattle.cola_front.proofs.Writes.{image_is, headed_many, second_many}
use Rattle.cola_layout.specs.declared.geometry.Geometry.{Geometry}
use Rattle.cola_run.specs.Cells.{block_bytes, known_spot, spots_of, IsShape, IsBacked}
use Rattle.cola_run.specs.Saving.{IsFlushed, AreLevelSpots, AreSpotsBehind, SameFront, SameLevels, SameBehind, IsFirstLast, IsFrontLast}
use Rattle.cola_run.specs.Loading.{AreSavedBelow}
use Rattle.cola_run.proofs.Flushes.{front-size}
use Rattle.cola_run.proofs.Heads.{place-spots}
use Rattle.cola_run.proofs.Spots.{both-all}

-- a place behind block 0, as part of its block
begins : (f : Format) (block place : ℕ) → block ≤ place → width f * block + width f * (place - block) ≡ width f * place
begins One block place h = omega (arith, h)
begins Two block place h = omega (arith, h)

ends : (f : Format) (block place : ℕ) → block ≤ place → place < 2 * block → width f * (place - block) + width f ≤ width f * block
ends One block place h k = omega (arith, h, k)
ends Two block place h k = omega (arith, h, k)

-- a file whose block 1 is a front's
module _ (front : FrontCells) (header bytes : List ℕ) (is : IsFront front) (head : length header ≡ 512) (second : part bytes (block_size front) (block_size front) ≡ second_block front) where
  image-second : part (image front header) (block_size front) (block_size front) ≡ second_block front
  image-second =
      ap (λ (xs : List ℕ). part xs (block_size front) (block_size front)) (sym (image_is front is header head))
      ∙ (ap (take (block_size front)) (drop_at (header ++ drop 512 (stored_all front.format (take front.block front.cells))) (second_block front) (block_size front) (headed_many front is header head))
      ∙ take_all (block_size front) (second_block front) (let many = second_many front is header head in omega (arith, many)))

  -- its cells are those of the front
  pub second-cell : (place : ℕ) → front.block ≤ place → place < 2 * front.block → cell_at front place ≡ decoded front.format (cell_bytes front.format bytes place)
  second-cell place behind within =
      let f = front.format in
      let from : ℕ = width f * (place - front.block) in
      let piece : (xs : List ℕ) → part xs (block_size front) (block_size front) ≡ second_block front → part xs (width f * place) (width f) ≡ part (second_block front) from (width f) =
      (λ xs same.
      ap (λ (n : ℕ). part xs n (width f)) (sym (begins f front.block place behind))
      ∙ (sym (part-part xs (block_size front) (block_size front) from (width f) (ends f front.block place behind within))
      ∙ ap (λ (ys : List ℕ). part ys from (width f)) same)) in
      sym (ap (decoded f) (piece bytes second ∙ sym (piece (image front header) image-second))
      ∙ image_cell front header place is head (omega (arith, behind, is.some)) within)

-- the first block stays where both do
same-first : (n : ℕ) (b x : List ℕ) → take (2 * n) x ≡ take (2 * n) b → take n x ≡ take n b
same-first n b x same = sym (take-take n (2 * n) x (omega arith)) ∙ (ap (take n) same ∙ take-take n (2 * n) b (omega arith))

-- after a refused write of the front block 0 is as before, or the file has every cell behind it
module _ (g : Geometry) (front : FrontCells) (shadows : List Shadow) (tails header : List ℕ) (shape : IsShape g front shadows tails) (is : IsFront front) (head : length header ≡ 512) (saved : AreSavedBelow g shadows (g.bottom + 1)) where
  spots-behind : (bytes : List ℕ) → IsBacked g shadows tails bytes → part bytes (block_size front) (block_size front) ≡ second_block front
      → AreSpotsBehind g (known_spot (record { geometry = g; front = front; lower = record { told = Some bytes; shadows = shadows; tails = tails } }) bytes) bytes
  spots-behind bytes backed second l s i p behind =
      place-spots g front (record { told = Some bytes; shadows = shadows; tails = tails }) bytes shape backed saved l s i p
      (λ within. second-cell front header bytes is head second (number_of l s i) (omega (arith, behind, shape.front_block)) within)

  pub first-refused : {E : Type 0} (T : Type 0) (fault : E) (b x y : Option (List ℕ)) → IfSome y (IsBacked g shadows tails) → Both b x (SameFront g) → Both x y (InOrder {T = T} (Err fault) front)
      → Both b y (IsFirstLast g (spots_of (record { geometry = g; front = front; lower = record { told = y; shadows = shadows; tails = tails } })))
  first-refused T fault None None None backed same order = tt
  first-refused T fault None None (Some y) backed same order = absurd order
  first-refused T fault None (Some x) y backed same order = absurd same
  first-refused T fault (Some b) None y backed same order = absurd same
  first-refused T fault (Some b) (Some x) None backed same order = absurd order
  first-refused T fault (Some b) (Some x) (Some y) backed same order =
      elim order [
        | inl stays ↦ inl (subst (λ (n : ℕ). take n y ≡ take n x) (front-size g front shadows tails shape) stays ∙ same-first (block_bytes g) b x same)
        | inr second ↦ inr (spots-behind y backed second)
      ]

-- after an accepted one it has every cell
pub first-written : (g : Geometry) (header : List ℕ) (spots : Spots) (b y : Option (List ℕ)) → Both b y (SameBehind g) → IfSome y (IsFlushed g header spots) → Both b y (IsFirstLast g spots)
first-written g header spots b y both flushed =
    both-all (SameBehind g) (λ x y. IfSome y (IsFlushed g header spots) → Both x y (IsFirstLast g spots)) (λ _. tt) (λ b y _ flushed. inr (λ l s i p behind. flushed.cells_are l s i p)) b y both flushed

-- the front was not begun, or it waited for the levels
module _ {D : Type 0} (d : device.Ghosts D) (g : Geometry) (before last now : D) (same : d.bytes now ≡ d.bytes last) where
  pub front-unbegun : (spots : Spots) → Both (d.bytes before) (d.bytes last) (SameFront g) → IsFrontLast d g spots before now
  front-unbegun spots stays = inl (subst (λ (x : Option (List ℕ)). Both (d.bytes before) x (SameFront g)) (sym same) stays)

  pub front-waited : (spots : Option (List ℕ) → Spots) (between : D) → IsSettled d between → Both (d.bytes before) (d.bytes between) (SameFront g) → Both (d.bytes between) (d.bytes last) (SameLevels g)
      → IfSome (d.bytes last) (AreLevelSpots g (spots (d.bytes last))) → Both (d.bytes before) (d.bytes last) (IsFirstLast g (spots (d.bytes last))) → IsFrontLast d g (spots (d.bytes now)) before now
  front-waited spots between settled waits stay levels first = inr (record {
    between = between;
    levels_settled = settled;
    front_waits = waits;
    levels_stay = subst (λ (x : Option (List ℕ)). Both (d.bytes between) x (SameLevels g)) (sym same) stay;
    levels_are = subst (λ (x : Option (List ℕ)). IfSome x (AreLevelSpots g (spots x))) (sym same) levels;
    first_waits = subst (λ (x : Option (List ℕ)). Both (d.bytes before) x (IsFirstLast g (spots x))) (sym same) first;
  })
