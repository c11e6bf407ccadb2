-- What the steps of loading and flushing leave, one behind the other.
use Rattle.std.proofs.Common.{◌≡◌, ◌≢◌, ◌⊎◌, inl, inr, ℕ, ◌+◌, ◌-◌, ◌*◌, ◌/◌, ◌%◌, ◌<◌, ◌≤◌, Bool, true, List, length, Option, None, Some, IfSome, Result, Ok, refl, sym, ap, subst, ◌∙◌, arith}
use Rattle.std.proofs.lemmas.Bool.{cases_eq, false≢true}
use Rattle.std.proofs.lemmas.Nat.{pow_pos}
use Rattle.cola_cell.specs.declared.fault.PushFault.{PushFault}
use Rattle.cola_cell.specs.declared.sink.Shadow.{Shadow}
use Rattle.cola_cell.specs.Flat.{shadow_at}
use Rattle.cola_cell.specs.Format.{width}
use Rattle.cola_cell.specs.Places.{number_of}
use Rattle.cola_device.specs.declared.counts.Counts.{Counts}
use Rattle.cola_device.specs.Bytes.{part, splice, Gives}
use Rattle.cola_device.proofs.BytesLemmas.{length-splice}
use Rattle.cola_front.specs.Front.{FrontCells, cell_bytes}
use Rattle.cola_front.proofs.Writes.{called_two}
use Rattle.cola_layout.specs.declared.geometry.Geometry.{Geometry}
use Rattle.cola_layout.specs.Geometry.{IsBlock}
use Rattle.cola_cache.specs.Blocks.{Blocks, Stays}
use Rattle.cola_run.specs.Cells.{IsOnDevice, Lower, block_cells, block_bytes, device_levels, block_number, tail_number, is_in_tail, IsShadow, IsShape, IsBacked}
use Rattle.cola_run.specs.Parts.{OneShadow, IsFinished}
use Rattle.cola_run.specs.Loading.{IsReading, IsWriting, StaySound, StayRead}
use Rattle.cola_run.proofs.Bytes.{block-from, block-cell, block-stays, block-is_new}
use Rattle.cola_run.proofs.Numbers.{same-block, place-is, tail-block}
use Rattle.cola_run.proofs.Spots.{in-tail, no-tail, both-two, if-told}
use Rattle.cola_run.proofs.Steps.{tail-first, tail-holds}
use Rattle.cola_run.proofs.Lowers.{around-same, TailsStay, backed-by, shape-by}
use Rattle.cola_run.proofs.Standing.{shadow-shape, shadow-backed}
use Rattle.cola_run.specs.Turns.{Writing}
use Rattle.cola_run.proofs.Sinks.{lasts-many}
use Rattle.cola_run.proofs.Finishes.{finish-beside, finish-told, finish-stays, finish-shape, finish-backed}

-- sizes that stay
stays-two : {D : Type 0} {a b c : Blocks D} → Stays a b → Stays b c → Stays a c
stays-two x y = record { blocks = y.blocks ∙ x.blocks; size = y.size ∙ x.size; many = y.many ∙ x.many; made = y.made ∙ x.made }

module _ {D K : Type 0} (bytes : D → Option (List ℕ)) (counts : D → Counts) (kept : D → K) where
  pub reading-two : {E : Type 0} {result : Result (Unit {0}) E} {a b c : Blocks D} {first second : ℕ} → IsReading {T = Unit {0}} {E = E} bytes counts kept a b first (Ok tt) → IsReading bytes counts kept b c second result
      → IsReading bytes counts kept a c (first + second) result
  reading-two {result = result} {a = a} {b = b} {c = c} {first = first} {second = second} x y = record {
    called = called_two tt result (counts a.cache.device) (counts b.cache.device) (counts c.cache.device) first 0 0 second 0 0 x.called y.called;
    bytes_stay = y.bytes_stay ∙ x.bytes_stay;
    kept_is = y.kept_is ∙ x.kept_is;
    many = y.many ∙ x.many;
    stays = stays-two x.stays y.stays;
  }

module _ {D K : Type 0} (counts : D → Counts) (kept : D → K) where
  pub writing-two : {E : Type 0} {result : Result (Unit {0}) E} {a b c : Blocks D} {first second : ℕ} → IsWriting {T = Unit {0}} {E = E} counts kept a b first 0 (Ok tt) → IsWriting counts kept b c second 0 result
      → IsWriting counts kept a c (first + second) 0 result
  writing-two {result = result} {a = a} {b = b} {c = c} {first = first} {second = second} x y = record {
    called = called_two tt result (counts a.cache.device) (counts b.cache.device) (counts c.cache.device) 0 first 0 0 second 0 x.called y.called;
    kept_is = y.kept_is ∙ x.kept_is;
    many = y.many ∙ x.many;
    stays = stays-two x.stays y.stays;
  }

-- soundness that stays, in two steps
pub sound-two : {g : Geometry} {a b c : Lower} → StaySound g a b → StaySound g b c → StaySound g a c
sound-two x y = record {
  shape = λ front h. y.shape front (x.shape front h);
  backed = λ front h k. y.backed front (x.shape front h) (x.backed front h k);
}

-- one shadow changes, and the device and the tails stay
pub sound-shadow : (g : Geometry) (old new : Lower) (level : ℕ) (shadow : Shadow) → new.told ≡ old.told → new.tails ≡ old.tails → OneShadow old.shadows new.shadows level shadow → IsShadow level shadow
    → (IsOnDevice g level → (shadow.saved ≡ true) × (shadow.len % block_cells g ≡ 0)) → StaySound g old new
sound-shadow g old new level shadow told tails one stands whole = record {
  shape = λ front h. shadow-shape g front front old new level shadow h told tails one stands (λ on e. absurd (false≢true (sym e ∙ (whole on).0)));
  backed = λ front h b. shadow-backed g front front old new level shadow h told tails one b
      (if-told old.told (λ b on e i t.
      let now = shadow_at new.shadows level in
      absurd (no-tail (block_cells g) now now.slot i (pow_pos g.block_exp) (ap (λ (x : Shadow). x.len % block_cells g) one.is ∙ (whole on).1) (in-tail (block_cells g) now now.slot i t))));
}

-- tails in which one was filled
module _ (g : Geometry) (fits : IsBlock g.block_exp g.bottom) (tails copy : List ℕ) (level : ℕ) (device : IsOnDevice g level) (many : length tails ≡ width g.format * (block_cells g * device_levels g)) (whole : length copy ≡ block_bytes g) where
  begin : width g.format * tail_number g level 0 ≡ (level + 2 - g.block_exp) * block_bytes g
  begin = ap (λ (n : ℕ). width g.format * n) (tail-first g level) ∙ sym (block-from g.format (block_cells g) (level + 2 - g.block_exp))

  holds : width g.format * (block_cells g * (level + 2 - g.block_exp)) ≤ length tails
  holds = omega (arith, tail-holds g tails level device many, ap (λ (n : ℕ). width g.format * n) (tail-first g level))

  pub filled-many : length (splice tails (width g.format * tail_number g level 0) copy) ≡ length tails
  filled-many = let h = tail-holds g tails level device many in length-splice tails (width g.format * tail_number g level 0) copy (omega (arith, h, whole))

  pub filled-stays : TailsStay g tails (splice tails (width g.format * tail_number g level 0) copy) level
  filled-stays l i on apart =
      ap (λ (n : ℕ). cell_bytes g.format (splice tails n copy) (tail_number g l i)) begin
      ∙ block-stays g.format tails copy (block_cells g) (level + 2 - g.block_exp) (pow_pos g.block_exp) holds whole (tail_number g l i)
      (λ same.
      apart (omega (arith, (tail-block g.block_exp (l + 2 - g.block_exp) i).0, same, on.whole, device.whole)))

  pub filled-there : (i : ℕ) → cell_bytes g.format (splice tails (width g.format * tail_number g level 0) copy) (tail_number g level i) ≡ cell_bytes g.format copy (i % block_cells g)
  filled-there i =
      let t = tail-block g.block_exp (level + 2 - g.block_exp) i in
      ap (λ (n : ℕ). cell_bytes g.format (splice tails n copy) (tail_number g level i)) begin
      ∙ block-is_new g.format tails copy (block_cells g) (level + 2 - g.block_exp) (pow_pos g.block_exp) holds whole (tail_number g level i) t.0
      ∙ ap (λ (n : ℕ). cell_bytes g.format copy n) t.1

-- a shadow's tail was filled with the block in which it ends
pub sound-filled : (g : Geometry) (old new : Lower) (level : ℕ) (shadow : Shadow) (copy : List ℕ) → IsOnDevice g level → new.told ≡ old.told → length copy ≡ block_bytes g
    → new.tails ≡ splice old.tails (width g.format * tail_number g level 0) copy → OneShadow old.shadows new.shadows level shadow → IsShadow level shadow → shadow.saved ≡ true
    → Gives old.told (block_number g level shadow.slot shadow.len * block_bytes g) copy → StaySound g old new
sound-filled g old new level shadow copy device told whole tails one stands saved given = record {
  shape = λ front h.
      shape-by g front old.shadows new.shadows old.tails new.tails level shadow h one
      (ap (λ (xs : List ℕ). length xs) tails ∙ filled-many g h.block old.tails copy level device h.tails_many whole) stands (λ on e. absurd (false≢true (sym e ∙ saved)));
  backed = λ front h k. subst (λ (x : Option (List ℕ)). IfSome x (IsBacked g new.shadows new.tails)) (sym told) (by-case front h old.told k given);
}
  where
    by-case : (front : FrontCells) → IsShape g front old.shadows old.tails → (x : Option (List ℕ)) → IfSome x (IsBacked g old.shadows old.tails) → Gives x (block_number g level shadow.slot shadow.len * block_bytes g) copy
        → IfSome x (IsBacked g new.shadows new.tails)
    by-case front h None k d = tt
    by-case front h (Some b) k d =
        backed-by g front old.shadows new.shadows old.tails new.tails b b level 0 0 shadow h k one (around-same g b b level 0 0 refl)
        (λ l i on apart. ap (λ (xs : List ℕ). cell_bytes g.format xs (tail_number g l i)) tails ∙ filled-stays g h.block old.tails copy level device h.tails_many whole l i on apart)
        (λ on e.
        subst (λ (x : Shadow). (i : ℕ) → is_in_tail (block_cells g) x x.slot i ≡ true → cell_bytes g.format b (number_of level x.slot i) ≡ cell_bytes g.format new.tails (tail_number g level i)) (sym one.is)
        (λ i t.
        let q = in-tail (block_cells g) shadow shadow.slot i t in
        let n : ℕ = number_of level shadow.slot i in
        let block : n / block_cells g ≡ block_number g level shadow.slot shadow.len = same-block g.block_exp level shadow.slot i shadow.len device.whole q.block_is in
        let is : copy ≡ part b (n / block_cells g * block_bytes g) (block_bytes g) =
        d ∙ ap (λ (m : ℕ). part b (block_number g level shadow.slot shadow.len * block_bytes g) m) whole ∙ ap (λ (m : ℕ). part b (m * block_bytes g) (block_bytes g)) (sym block) in
        sym (block-cell g.format b (block_cells g) n (pow_pos g.block_exp))
        ∙ ap (λ (xs : List ℕ). cell_bytes g.format xs (n % block_cells g)) (sym is)
        ∙ ap (λ (m : ℕ). cell_bytes g.format copy m) (place-is g.block_exp level shadow.slot i device.whole)
        ∙ sym (ap (λ (xs : List ℕ). cell_bytes g.format xs (tail_number g level i)) tails ∙ filled-there g h.block old.tails copy level device h.tails_many whole i)))

-- a finish
module _ (g : Geometry) (old new : Lower) (level : ℕ) {T : Type 0} (result : Result T PushFault) (device : IsOnDevice g level) (finished : IsFinished g old new level result) where
  abbrev shadow : Shadow
  shadow = shadow_at old.shadows level

  pub finish-sound : StaySound g old new
  finish-sound = record {
    shape = λ front h. finish-shape g front old new level result h device finished;
    backed = λ front h k. finish-backed g front old new level result h device finished k;
  }

  pub finish-read : StayRead g old new
  finish-read = record {
    told = finish-told g old new level result finished;
    beside_stays = λ front shape backed. finish-beside g front old new level result shape device finished backed;
    slots_stay = λ l. elim (cases_eq l level) [
      | inl e ↦ ap (λ (x : Shadow). x.slot) (ap (λ (n : ℕ). shadow_at new.shadows n) e ∙ finished.shadow.is) ∙ ap (λ (n : ℕ). (shadow_at old.shadows n).slot) (sym e)
      | inr d ↦ ap (λ (x : Shadow). x.slot) (finished.shadow.others l d)
    ];
    lens_stay = λ l. elim (cases_eq l level) [
      | inl e ↦ ap (λ (x : Shadow). x.len) (ap (λ (n : ℕ). shadow_at new.shadows n) e ∙ finished.shadow.is) ∙ ap (λ (n : ℕ). (shadow_at old.shadows n).len) (sym e)
      | inr d ↦ ap (λ (x : Shadow). x.len) (finished.shadow.others l d)
    ];
    spots_stay = λ front shape backed l s i apart.
        finish-stays g front old new level result shape device finished backed l s i
        (elim (cases_eq l level) [
          | inr d ↦ inl d
          | inl e ↦ inr (subst (λ (n : ℕ). (s ≢ (shadow_at old.shadows n).slot) ⊎ (i < (shadow_at old.shadows n).len)) e apart)
        ]);
  }

pub read-two : {g : Geometry} {a b c : Lower} → StaySound g a b → StayRead g a b → StayRead g b c → StayRead g a c
read-two {a = a} {b = b} {c = c} sound x y = record {
  told = both-two a.told b.told c.told (λ _ _. Unit {0}) (λ _ _. Unit {0}) (λ _ _. Unit {0}) (λ _ _ _ _ _. tt) x.told y.told;
  beside_stays = λ front h k. y.beside_stays front (sound.shape front h) (sound.backed front h k) ∙ x.beside_stays front h k;
  slots_stay = λ l. y.slots_stay l ∙ x.slots_stay l;
  lens_stay = λ l. y.lens_stay l ∙ x.lens_stay l;
  spots_stay = λ front h k l s i apart.
      y.spots_stay front (sound.shape front h) (sound.backed front h k) l s i
      (elim apart [
        | inl d ↦ inl (λ e. d (e ∙ x.slots_stay l))
        | inr d ↦ inr (let n = x.lens_stay l in omega (arith, d, n))
      ])
      ∙ x.spots_stay front h k l s i apart;
}

-- a finish behind other steps
pub sound-then : {g : Geometry} {a b c : Lower} {level : ℕ} {T : Type 0} {result : Result T PushFault} → StaySound g a b → IsOnDevice g level → IsFinished g b c level result → StaySound g a c
sound-then {g = g} {b = b} {c = c} {level = level} {result = result} x device finished = sound-two x (finish-sound g b c level result device finished)

pub read-then : {g : Geometry} {a b c : Lower} {level : ℕ} {T : Type 0} {result : Result T PushFault} → StaySound g a b → StayRead g a b → IsOnDevice g level → IsFinished g b c level result → StayRead g a c
read-then {g = g} {b = b} {c = c} {level = level} {result = result} x y device finished = read-two x y (finish-read g b c level result device finished)

-- a call that writes one block, as one of so many
pub writing-of : {D K T E F : Type 0} {wrote : Bool} {block : ℕ} {value : T} (counts : D → Counts) (kept : D → K) (before now : Blocks D) → Writing {T = T} {E = E} counts kept wrote before now block (Ok value)
    → IsWriting {T = Unit {0}} {E = F} counts kept before now 1 0 (Ok tt)
writing-of {wrote = wrote} {block = block} counts kept before now w = record {
  called = record {
    faults_stay = w.called.faults_stay;
    cause = tt;
    none_hidden = w.called.none_hidden;
    reads_stay = w.called.reads_stay;
    reads_rise = w.called.reads_rise;
    writes_stay = w.called.writes_stay;
    writes_rise = w.called.writes_rise;
    others_stay = w.called.others_stay;
    others_rise = w.called.others_rise;
  };
  kept_is = w.kept_is;
  many = lasts-many wrote block before.lasts now.lasts w.lasts_are;
  stays = w.stays;
}
