-- What a flush leaves, step by step.
use Rattle.std.proofs.Common.{◌≡◌, inl, inr, ℕ, zero, suc, ◌+◌, ◌-◌, ◌*◌, ◌<◌, ◌≤◌, List, [], ◌∷◌, ◌++◌, length, take, drop, replicate, get_or, Option, None, Some, IfSome, option_map, Result, Ok, Err, refl, sym, ap, subst, ◌∙◌, arith, length-append}
use Rattle.std.specs.Prelude.{OnOk}
use Rattle.std.specs.Option.{unwrap_or}
use Rattle.std.proofs.lemmas.List.{drop-take, drop-replicate, length-replicate, replicate-append-replicate}
use Rattle.std.proofs.Math.Nat.{mul-le-mul_left}
use Rattle.std.proofs.Math.Seq.{take-append-add}
use Rattle.cola_outside.specs.Told.{Both}
use Rattle.cola_cell.specs.declared.format.Format.{Format}
use Rattle.cola_cell.specs.declared.format.Format.TheVariants.{One, Two}
use Rattle.cola_cell.specs.declared.cell.Cell.{Cell}
use Rattle.cola_cell.specs.declared.sink.Shadow.{Shadow}
use Rattle.cola_cell.specs.Decoded.{decoded}
use Rattle.cola_cell.specs.Format.{width}
use Rattle.cola_device.specs.declared.device.Device as device
use Rattle.cola_device.specs.declared.device.DeviceFault.{DeviceFault}
use Rattle.cola_device.specs.Settling.{IsSettled}
use Rattle.cola_device.proofs.SettlingLemmas.{settled-by}
use Rattle.cola_device.specs.Bytes.{part, splice, WroteSome, Wrote}
use Rattle.cola_device.proofs.BytesLemmas.{part-splice_inside}
use Rattle.cola_front.specs.Front.{FrontCells, IsFront, IsLoaded, block_size, stored, stored_all, second_block, image}
use Rattle.cola_front.proofs.Image.{image_cell}
use Rattle.cola_front.proofs.Writes.{image_is, headed_many, second_many}
use Rattle.cola_layout.specs.declared.geometry.Geometry.{Geometry}
use Rattle.cola_layout.specs.Geometry.{IsBlock}
use Rattle.cola_run.specs.Cells.{Lower, block_bytes, spots_of, IsShape, IsBacked}
use Rattle.cola_run.specs.Store.{Beside, beside}
use Rattle.cola_run.specs.Saving.{IsFlushed, AreLevelSpots, SameFront, SameLevels, SameBehind, SettlesTwice}
use Rattle.cola_run.specs.Loading.{StayRead, SameCells, AreSavedBelow}
use Rattle.cola_run.proofs.Spots.{both-all, both-two}
use Rattle.cola_run.proofs.Heads.{heads-backed, heads-behind, heads-spots, head-long, level-spots, saved-spots}

-- the bytes of the front's two blocks
pub image-many : (front : FrontCells) (header : List ℕ) → IsFront front → length header ≡ 512 → length (image front header) ≡ 2 * block_size front
image-many front header is head =
    ap (λ (xs : List ℕ). length xs) (sym (image_is front is header head))
    ∙ length-append (header ++ drop 512 (stored_all front.format (take front.block front.cells))) (second_block front)
    ∙ (let a = headed_many front is header head in let b = second_many front is header head in omega (arith, a, b))

pub front-size : (g : Geometry) (front : FrontCells) (shadows : List Shadow) (tails : List ℕ) → IsShape g front shadows tails → block_size front ≡ block_bytes g
front-size g front shadows tails shape = ap (λ (f : Format). width f * front.block) shape.format ∙ ap (λ (n : ℕ). width g.format * n) shape.front_block

pub image-fits : (g : Geometry) (front : FrontCells) (shadows : List Shadow) (tails header : List ℕ) → IsShape g front shadows tails → IsFront front → length header ≡ 512
    → 0 + length (image front header) ≤ 2 * block_bytes g
image-fits g front shadows tails header shape is head = let size = front-size g front shadows tails shape in let many = image-many front header is head in omega (arith, many, size)

-- places without a cell are zeros
stored-none : (f : Format) (cells : List (Option Cell)) (n : ℕ) → n ≤ length cells → ((place : ℕ) → place < n → get_or cells place None ≡ None) → take (width f * n) (stored_all f cells) ≡ replicate (width f * n) 0
stored-none f cells zero few none = let z : width f * 0 ≡ 0 = omega arith in rw z refl
stored-none f [] (suc n) few none = absurd (omega (arith, few))
stored-none f (cell ∷ cells) (suc n) few none =
    let e : width f * suc n ≡ width f + width f * n = omega arith in
    ap (λ (m : ℕ). take m (stored f cell ++ stored_all f cells)) e
    ∙ ap (λ (xs : List ℕ). take (width f + width f * n) (xs ++ stored_all f cells)) (ap (λ (c : Option Cell). stored f c) (none 0 (omega arith)))
    ∙ ap (λ (m : ℕ). take (m + width f * n) (replicate (width f) 0 ++ stored_all f cells)) (sym (length-replicate (width f) 0))
    ∙ take-append-add (replicate (width f) 0) (stored_all f cells) (width f * n)
    ∙ ap (λ (xs : List ℕ). replicate (width f) 0 ++ xs) (stored-none f cells n (omega (arith, few)) (λ place h. none (suc place) (omega (arith, h))))
    ∙ replicate-append-replicate (width f) (width f * n) 0
    ∙ ap (λ (m : ℕ). replicate m 0) (sym e)

-- the header's cells in the image: its bytes, and zeros
eight-of : (f : Format) → (512 ≤ 8 * width f) × (width f * 8 ≡ 8 * width f)
eight-of One = (omega arith, refl)
eight-of Two = (omega arith, refl)

pub image-head : (front : FrontCells) (header : List ℕ) → IsFront front → length header ≡ 512 → take (8 * width front.format) (image front header) ≡ header ++ replicate (8 * width front.format - 512) 0
image-head front header is head =
    let f = front.format in
    let all : List ℕ = stored_all f front.cells in
    let none : take (8 * width f) all ≡ replicate (8 * width f) 0 =
    subst (λ (m : ℕ). take m all ≡ replicate m 0) (eight-of f).1 (stored-none f front.cells 8 (omega (arith, is.some, is.many)) is.header) in
    ap (λ (m : ℕ). take m (header ++ drop 512 all)) (omega (arith, head, (eight-of f).0))
    ∙ take-append-add header (drop 512 all) (8 * width f - 512)
    ∙ ap (λ (xs : List ℕ). header ++ xs)
    (sym (drop-take 512 (8 * width f - 512) all)
    ∙ ap (λ (m : ℕ). drop 512 (take m all)) (omega (arith, (eight-of f).0))
    ∙ ap (λ (xs : List ℕ). drop 512 xs) none
    ∙ drop-replicate 512 (8 * width f) 0)

-- a device on which the image was written has the front's cells and the header
module _ (front : FrontCells) (header bytes : List ℕ) (is : IsFront front) (head : length header ≡ 512) (long : 2 * block_size front ≤ length bytes) where
  inside : (from count : ℕ) → from + count ≤ 2 * block_size front → part (splice bytes 0 (image front header)) from count ≡ part (image front header) from count
  inside from count h =
      let many = image-many front header is head in
      let e : 0 + from ≡ from = omega arith in
      ap (λ (n : ℕ). part (splice bytes 0 (image front header)) n count) (sym e) ∙ part-splice_inside bytes 0 (image front header) from count (omega arith) (omega (arith, h, many))

  pub written-loaded : IsLoaded (splice bytes 0 (image front header)) front
  written-loaded place behind within =
      sym (ap (λ (xs : List ℕ). decoded front.format xs) (inside (width front.format * place) (width front.format) (omega (arith, mul-le-mul_left (width front.format) within)))
      ∙ image_cell front header place is head behind within)

  pub written-head : take (8 * width front.format) (splice bytes 0 (image front header)) ≡ header ++ replicate (8 * width front.format - 512) 0
  written-head = inside 0 (8 * width front.format) (omega (arith, mul-le-mul_left (width front.format) is.some)) ∙ image-head front header is head

-- steps of a flush, one behind the other
beside-so : (g : Geometry) (P : List ℕ → List ℕ → Type 0) → ((b c : List ℕ) → beside g c ≡ beside g b → P b c)
    → (x y : Option (List ℕ)) → Both x y (λ _ _. Unit {0}) → option_map (beside g) y ≡ option_map (beside g) x → Both x y P
beside-so g P f x y h e =
    both-all (λ _ _. Unit {0}) (λ x y. option_map (beside g) y ≡ option_map (beside g) x → Both x y P) (λ _. tt) (λ b c _ e. f b c (ap (λ (o : Option Beside). unwrap_or o (beside g b)) e)) x y h e

-- the first two blocks stay where all that lies beside the levels on the device does
pub front-waits : (g : Geometry) (x y : Option (List ℕ)) → Both x y (λ _ _. Unit {0}) → option_map (beside g) y ≡ option_map (beside g) x → Both x y (SameFront g)
front-waits g = beside-so g (SameFront g) (λ b c e. ap (λ (o : Beside). o.front) e)

-- every cell of the levels on the device is in the file where each shadow is there
pub levels-saved : (g : Geometry) (front : FrontCells) (shadows : List Shadow) (tails : List ℕ) (y : Option (List ℕ)) → IfSome y (IsBacked g shadows tails) → AreSavedBelow g shadows (g.bottom + 1)
    → IfSome y (AreLevelSpots g (spots_of (record { geometry = g; front = front; lower = record { told = y; shadows = shadows; tails = tails } })))
levels-saved g front shadows tails None backed saved = tt
levels-saved g front shadows tails (Some c) backed saved = level-spots g front (record { told = Some c; shadows = shadows; tails = tails }) c backed saved

pub same-two : (g : Geometry) (front : FrontCells) (a b c : Lower) → SameCells g front a b → SameCells g front b c → SameCells g front a c
same-two g front a b c x y = record {
  behind = both-two a.told b.told c.told (SameBehind g) (SameBehind g) (SameBehind g) (λ _ _ _ h k. record { many = k.many ∙ h.many; behind = k.behind ∙ h.behind }) x.behind y.behind;
  slots_stay = λ l. y.slots_stay l ∙ x.slots_stay l;
  lens_stay = λ l. y.lens_stay l ∙ x.lens_stay l;
  shadows_many = y.shadows_many ∙ x.shadows_many;
  spots_stay = λ l s i apart.
      y.spots_stay l s i (elim apart [ inl d ↦ inl (λ e. d (e ∙ x.slots_stay l)) | inr d ↦ inr (let n = x.lens_stay l in omega (arith, d, n)) ]) ∙ x.spots_stay l s i apart;
}

pub same-read : (g : Geometry) (front : FrontCells) (a b : Lower) → IsShape g front a.shadows a.tails → IfSome a.told (IsBacked g a.shadows a.tails) → length b.shadows ≡ length a.shadows → StayRead g a b → SameCells g front a b
same-read g front a b shape backed many x = record {
  behind = beside-so g (SameBehind g) (λ b c e. record { many = ap (λ (o : Beside). o.size) e; behind = ap (λ (o : Beside). o.behind) e }) a.told b.told x.told (x.beside_stays front shape backed);
  slots_stay = x.slots_stay;
  lens_stay = x.lens_stay;
  shadows_many = many;
  spots_stay = x.spots_stay front shape backed;
}

-- the front was written, or was to be
pub same-head : {T E : Type 0} (g : Geometry) (front : FrontCells) (shadows : List Shadow) (tails : List ℕ) (result : Result T E) (at : ℕ) (from : List ℕ) (x y : Option (List ℕ)) → IsBlock g.block_exp g.bottom
    → at + length from ≤ 2 * block_bytes g → IfSome x (IsBacked g shadows tails) → Wrote result at from x y
    → SameCells g front (record { told = x; shadows = shadows; tails = tails }) (record { told = y; shadows = shadows; tails = tails })
same-head g front shadows tails result at from x y fits within backed w = record {
  behind = heads-behind g fits shadows tails result at from within x y w backed;
  slots_stay = λ l. refl;
  lens_stay = λ l. refl;
  shadows_many = refl;
  spots_stay = λ l s i apart. heads-spots g fits shadows tails result at from within front x y w backed l s i;
}

-- the file after an accepted flush
pub flushed-by : (T E : Type 0) (value : T) (g : Geometry) (front : FrontCells) (shadows : List Shadow) (tails header : List ℕ) (x y : Option (List ℕ)) → IsShape g front shadows tails → IsFront front → length header ≡ 512
    → IfSome x (IsBacked g shadows tails) → AreSavedBelow g shadows (g.bottom + 1) → Wrote {E = E} (Ok value) 0 (image front header) x y
    → IfSome y (IsFlushed g header (spots_of (record { geometry = g; front = front; lower = record { told = y; shadows = shadows; tails = tails } })))
flushed-by T E value g front shadows tails header x y shape is head backed saved w =
    both-all (WroteSome {E = E} (Ok value) 0 (image front header))
    (λ x y. IfSome x (IsBacked g shadows tails) → IfSome y (IsFlushed g header (spots_of (record { geometry = g; front = front; lower = record { told = y; shadows = shadows; tails = tails } })))) (λ _. tt)
    (λ b c v backed.
    let at : c ≡ splice b 0 (image front header) = v.others_stay ∙ ap (λ (left : List ℕ). splice b 0 left) v.exact in
    let within = image-fits g front shadows tails header shape is head in
    let ok : Result T E = Ok value in
    let inside : 2 * block_size front ≤ length b = omega (arith, head-long g shape.block, backed.long, front-size g front shadows tails shape) in
    record {
      header_is = ap (λ (xs : List ℕ). take (8 * width g.format) xs) at
          ∙ subst (λ (f : Format). take (8 * width f) (splice b 0 (image front header)) ≡ header ++ replicate (8 * width f - 512) 0) shape.format (written-head front header b is head inside);
      cells_are = λ l s i p. saved-spots g front (record { told = Some c; shadows = shadows; tails = tails }) c shape (heads-backed g shape.block shadows tails ok 0 (image front header) within (Some b) (Some c) v backed) saved
          (subst (λ (bytes : List ℕ). IsLoaded bytes front) (sym at) (written-loaded front header b is head inside)) l s i p;
    })
    x y w backed

-- a flush that settled, wrote the front and settled again
pub settles-twice : {D : Type 0} (d : device.Ghosts D) (g : Geometry) (result : Result (Unit {0}) DeviceFault) (before between last now : D) → IsSettled d between → Both (d.bytes before) (d.bytes between) (SameFront g)
    → Both (d.bytes between) (d.bytes last) (SameLevels g) → d.settles last result now → d.bytes now ≡ d.bytes last → OnOk result (SettlesTwice d g before now)
settles-twice d g (Ok value) before between last now settled waits stay settles same = record {
  between = between;
  levels_settled = settled;
  front_waits = waits;
  levels_stay = subst (λ (x : Option (List ℕ)). Both (d.bytes between) x (SameLevels g)) (sym same) stay;
  settled = settled-by d (Ok value) last now settles same;
}
settles-twice d g (Err fault) before between last now settled waits stay settles same = tt
