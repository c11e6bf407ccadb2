-- What restarts, pushes and finishes of a store keep and spend.
use Rattle.std.proofs.Common.{◌≡◌, ◌≢◌, inl, ℕ, ◌+◌, ◌-◌, ◌*◌, ◌^◌, ◌≤◌, Bool, true, false, if◌then◌else◌, List, length, map, take, drop, Option, Some, IfSome, option_map, Result, Ok, Err, refl, sym, ap, subst, ◌∙◌, arith}
use Rattle.std.proofs.lemmas.List.{length-map}
use Rattle.std.proofs.lemmas.Option.{IfSome_then}
use Rattle.std.proofs.Math.Nat.{mul-le-mul_right}
use Rattle.cola_outside.specs.Faults.{Rose}
use Rattle.cola_outside.specs.Told.{Both}
use Rattle.cola_cell.specs.declared.fault.PushFault.{PushFault}
use Rattle.cola_cell.specs.declared.fault.PushFault.TheVariants.{Device, Overfull}
use Rattle.cola_cell.specs.declared.sink.Shadow.{Shadow}
use Rattle.cola_cell.specs.Flat.{shadow_at}
use Rattle.cola_cell.specs.Places.{IsPlace, Block, block_of}
use Rattle.cola_cell.specs.Spent.{Buffer, Ticks}
use Rattle.cola_cell.specs.Shadows.{StaysAround, WriteCalm, Forgets, WritesNothing, Writes}
use Rattle.cola_device.specs.declared.counts.Counts.{Counts}
use Rattle.cola_device.specs.Bytes.{splice, WroteSome}
use Rattle.cola_device.specs.Counts.{Called}
use Rattle.cola_device.proofs.BytesLemmas.{part-splice_below}
use Rattle.cola_front.specs.Front.{FrontCells}
use Rattle.cola_layout.specs.declared.geometry.Geometry.{Geometry}
use Rattle.cola_layout.specs.Geometry.{IsBlock}
use Rattle.cola_cache.specs.Blocks.{Blocks, Made, forgotten}
use Rattle.cola_run.specs.Cells.{block_bytes, file_bytes, file_blocks, device_levels, block_number, spots_of, IsShape, IsBacked, cells_by}
use Rattle.cola_run.specs.Store.{Store, IsStore, cells_of, held_of, spent_of, kept_of, Beside, beside, last_of}
use Rattle.cola_run.specs.Parts.{WroteTail, tail_of, MetFault}
use Rattle.cola_run.specs.Turns.{Writing}
use Rattle.cola_run.proofs.Bytes.{drop-behind}
use Rattle.cola_run.proofs.Numbers.{block-behind}
use Rattle.cola_run.proofs.Steps.{written-many, block-fits}
use Rattle.cola_run.proofs.Lasts.{lasts-forget}
use Rattle.cola_run.proofs.Reading.{span-is}
use Rattle.cola_run.proofs.Spots.{both-all, telling-is}

-- nothing beside the levels on the device changes where a block of one was written
pub beside-written : (g : Geometry) (level slot index : ℕ) (bytes left : List ℕ) → IsBlock g.block_exp g.bottom → g.block_exp ≤ level + 2 → IsPlace (g.bottom + 1) level slot index → file_bytes g ≤ length bytes → length left ≡ block_bytes g →
    beside g (splice bytes (block_number g level slot index * block_bytes g) left) ≡ beside g bytes
beside-written g level slot index bytes left fits high place long whole =
    let ends = block-fits g fits level slot index high place bytes left long whole in
    let two : 2 ≤ block_number g level slot index = block-behind g.block_exp level slot index high in
    let now : List ℕ = splice bytes (block_number g level slot index * block_bytes g) left in
    ap (λ (n : ℕ). record { size = n; front = take (2 * block_bytes g) now; behind = drop (file_bytes g) now }) (written-many g fits level slot index high place bytes left long whole)
    ∙ ap (λ (xs : List ℕ). record { size = length bytes; front = xs; behind = drop (file_bytes g) now })
    (part-splice_below bytes (block_number g level slot index * block_bytes g) left 0 (2 * block_bytes g) (omega (arith, ends, long)) (omega (arith, mul-le-mul_right (block_bytes g) two)))
    ∙ ap (λ (xs : List ℕ). record { size = length bytes; front = take (2 * block_bytes g) bytes; behind = xs })
    (drop-behind bytes left (block_number g level slot index * block_bytes g) (file_bytes g) (omega (arith, ends, long)) ends)

pub beside-tail : {T E : Type 0} (result : Result T E) (g : Geometry) (tails : List ℕ) (level slot index : ℕ) (x y : Option (List ℕ)) → IsBlock g.block_exp g.bottom → g.block_exp ≤ level + 2 → IsPlace (g.bottom + 1) level slot index
    → length (tail_of g tails level) ≡ block_bytes g → IfSome x (λ b. file_bytes g ≤ length b) → WroteTail result g tails level slot index x y → option_map (beside g) y ≡ option_map (beside g) x
beside-tail result g tails level slot index x y fits high place whole long w =
    both-all (WroteSome result (block_number g level slot index * block_bytes g) (tail_of g tails level)) (λ x y. IfSome x (λ b. file_bytes g ≤ length b) → option_map (beside g) y ≡ option_map (beside g) x) (λ _. refl)
    (λ b c v long. ap (λ (xs : List ℕ). Some (beside g xs)) v.others_stay ∙ ap (λ (x : Beside). Some x) (beside-written g level slot index b v.left fits high place long (v.as_many ∙ whole))) x y w long

pub long-of : (g : Geometry) (shadows : List Shadow) (tails : List ℕ) (x : Option (List ℕ)) → IfSome x (IsBacked g shadows tails) → IfSome x (λ b. file_bytes g ≤ length b)
long-of g shadows tails x h = IfSome_then x h (λ b h. h.long)

-- what a store keeps, by its parts
pub kept-by : {D K : Type 0} (bytes : D → Option (List ℕ)) (counts : D → Counts) (kept : D → K) (old new : Store D) → new.geometry ≡ old.geometry → new.buffers.cache.blocks ≡ old.buffers.cache.blocks → kept new.buffers.cache.device ≡ kept old.buffers.cache.device
    → option_map (beside old.geometry) (bytes new.buffers.cache.device) ≡ option_map (beside old.geometry) (bytes old.buffers.cache.device)
    → (counts new.buffers.cache.device).others ≡ (counts old.buffers.cache.device).others → kept_of bytes counts kept new ≡ kept_of bytes counts kept old
kept-by bytes counts kept old new same blocks device around others =
    cc

-- what a call on the shadow of a level on the device spends
module _ {D K T E : Type 0} (counts : D → Counts) (kept : D → K) (store now : Store D) (level slot len : ℕ) (wrote : Bool) (result : Result T E) (ticks : ℕ) (fits : IsBlock store.geometry.block_exp store.geometry.bottom)
    (high : store.geometry.block_exp ≤ level + 2) (place : wrote ≡ true → IsPlace (store.geometry.bottom + 1) level slot len) (writing : Writing counts kept wrote store.buffers now.buffers (block_number store.geometry level slot len) result)
    (same : now.geometry ≡ store.geometry) (ticked : Ticks store.ticked now.ticked ticks) where
  lasts-now : last_of now.geometry now.buffers.lasts ≡ last_of store.geometry now.buffers.lasts
  lasts-now = ap (λ (g : Geometry). last_of g now.buffers.lasts) same

  pub spends-nothing : wrote ≡ false → WritesNothing (spent_of counts store) (spent_of counts now)
  spends-nothing e =
      let buffers : now.buffers ≡ store.buffers = writing.none e in
      record {
        written_is = ap (λ (b : Blocks D). (counts b.cache.device).writes) buffers;
        lasts_stay = λ buffer. ap (λ (f : _ → Option Block). f buffer) lasts-now ∙ ap (λ (b : Blocks D). last_of store.geometry b.lasts buffer) buffers;
      }

  pub spends-writes : Writes (spent_of counts store) (spent_of counts now) ticks (block_of (8 * 2 ^ (store.geometry.block_exp - 3)) level slot len)
  spends-writes =
      let c = writing.called in
      record {
        faults_stay = c.faults_stay;
        ticks_made = ticked;
        turned_is = (let x = c.reads_stay in let y = c.reads_rise in omega (arith, x, y));
        written_stays = c.writes_stay;
        written_rises = c.writes_rise;
        lasts_forget = by-test wrote refl writing.lasts_are;
      }
    where
      at : (buffer : Buffer) → wrote ≡ true → now.buffers.lasts ≡ map (forgotten (block_number store.geometry level slot len)) store.buffers.lasts →
          Forgets (block_of (8 * 2 ^ (store.geometry.block_exp - 3)) level slot len) (last_of store.geometry store.buffers.lasts buffer) (last_of now.geometry now.buffers.lasts buffer)
      at buffer e is =
          subst (λ (o : Option Block). Forgets (block_of (8 * 2 ^ (store.geometry.block_exp - 3)) level slot len) (last_of store.geometry store.buffers.lasts buffer) o) (sym (ap (λ (f : Buffer → Option Block). f buffer) lasts-now))
          (subst (λ (n : ℕ). Forgets (block_of n level slot len) (last_of store.geometry store.buffers.lasts buffer) (last_of store.geometry now.buffers.lasts buffer)) (sym (span-is store.geometry fits))
          (lasts-forget store.geometry level slot len store.buffers.lasts now.buffers.lasts fits high (place e) is buffer))

      by-test : (t : Bool) → wrote ≡ t → now.buffers.lasts ≡ (if t then map (forgotten (block_number store.geometry level slot len)) store.buffers.lasts else store.buffers.lasts) → (buffer : Buffer) →
          Forgets (block_of (8 * 2 ^ (store.geometry.block_exp - 3)) level slot len) (last_of store.geometry store.buffers.lasts buffer) (last_of now.geometry now.buffers.lasts buffer)
      by-test true e is buffer = at buffer e is
      by-test false e is buffer = inl (ap (λ (f : Buffer → Option Block). f buffer) lasts-now ∙ ap (λ (xs : List (Option ℕ)). last_of store.geometry xs buffer) is)

-- the cause of a refused call, and that an accepted one met no fault
abbrev pub HasCauseOf : {T : Type 0} → Result T PushFault → ℕ → ℕ → Type 0
HasCauseOf (Ok value) before now = Unit {0}
HasCauseOf (Err fault) before now = Rose before now

pub cause-of : {T : Type 0} (r : Result T PushFault) {before now : Counts} → Called before now 0 1 0 r → HasCauseOf r before.faults now.faults
cause-of (Ok value) called = tt
cause-of (Err fault) called = called.cause

pub calm-of : {T : Type 0} (r : Result T PushFault) {before now : Counts} → MetFault r → Called before now 0 1 0 r → WriteCalm before.faults now.faults r
calm-of (Ok value) fault called = called.none_hidden
calm-of (Err Device) fault called = tt
calm-of (Err (Overfull l)) fault called = absurd fault

-- as many buffers hold a block or none after one was written
pub lasts-many : (t : Bool) (block : ℕ) (lasts now : List (Option ℕ)) → now ≡ (if t then map (forgotten block) lasts else lasts) → length now ≡ length lasts
lasts-many true block lasts now e = ap (λ (xs : List (Option ℕ)). length xs) e ∙ length-map lasts (forgotten block)
lasts-many false block lasts now e = ap (λ (xs : List (Option ℕ)). length xs) e

-- a shape is that of another front of this format and block
pub shape-with : {g : Geometry} {front now : FrontCells} {shadows : List Shadow} {tails : List ℕ} → now.format ≡ front.format → now.block ≡ front.block → IsShape g front shadows tails → IsShape g now shadows tails
shape-with format block shape = record {
  block = shape.block;
  shallow = shape.shallow;
  format = format ∙ shape.format;
  front_block = block ∙ shape.front_block;
  shadows_many = shape.shadows_many;
  shadows_fit = shape.shadows_fit;
  tails_many = shape.tails_many;
  unsaved = shape.unsaved;
}

-- a store is sound whose cells are, and whose blocks have the same sizes
pub sound-with : {D : Type 0} (bytes : D → Option (List ℕ)) (store now : Store D) → IsStore (bytes store.buffers.cache.device) store → now.geometry ≡ store.geometry
    → IsShape store.geometry now.front now.shadows now.tails → IfSome (bytes now.buffers.cache.device) (IsBacked store.geometry now.shadows now.tails)
    → now.buffers.cache.size ≡ store.buffers.cache.size → now.buffers.many ≡ store.buffers.many → length now.buffers.lasts ≡ length store.buffers.lasts → IsStore (bytes now.buffers.cache.device) now
sound-with bytes store now sound same shape backed size many lasts = record {
  cells = record {
    shape = subst (λ (g : Geometry). IsShape g now.front now.shadows now.tails) (sym same) shape;
    backed = subst (λ (g : Geometry). IfSome (bytes now.buffers.cache.device) (IsBacked g now.shadows now.tails)) (sym same) backed;
  };
  size = size ∙ sound.size ∙ ap (λ (g : Geometry). block_bytes g) (sym same);
  many = many ∙ sound.many ∙ ap (λ (g : Geometry). file_blocks g) (sym same);
  buffers_many = lasts ∙ sound.buffers_many ∙ ap (λ (g : Geometry). 1 + 3 * device_levels g) (sym same);
}

pub sound-by : {D : Type 0} (bytes : D → Option (List ℕ)) (store now : Store D) → IsStore (bytes store.buffers.cache.device) store → now.geometry ≡ store.geometry → now.front ≡ store.front
    → IsShape store.geometry store.front now.shadows now.tails → IfSome (bytes now.buffers.cache.device) (IsBacked store.geometry now.shadows now.tails)
    → now.buffers.cache.size ≡ store.buffers.cache.size → now.buffers.many ≡ store.buffers.many → length now.buffers.lasts ≡ length store.buffers.lasts → IsStore (bytes now.buffers.cache.device) now
sound-by bytes store now sound same front shape = sound-with bytes store now sound same (subst (λ (f : FrontCells). IsShape store.geometry f now.shadows now.tails) (sym front) shape)

-- the cells of a store are those by the geometry and the front of one that has the same
pub spots-by : {D : Type 0} (told : Option (List ℕ)) (store now : Store D) → now.geometry ≡ store.geometry → now.front ≡ store.front → (l s i : ℕ)
    → spots_of (cells_of told now) l s i ≡ spots_of (cells_by store.geometry store.front (cells_of told now).lower) l s i
spots-by told store now same front l s i =
    ap (λ (x : Geometry). spots_of (cells_by x now.front (cells_of told now).lower) l s i) same ∙ ap (λ (x : FrontCells). spots_of (cells_by store.geometry x (cells_of told now).lower) l s i) front

-- what a call on one shadow leaves around it
pub around-by : {D : Type 0} (bytes : D → Option (List ℕ)) (store now : Store D) (level : ℕ) → now.geometry ≡ store.geometry → now.buffers.made ≡ store.buffers.made
    → ((l : ℕ) → l ≢ level → shadow_at now.shadows l ≡ shadow_at store.shadows l) → Both (bytes store.buffers.cache.device) (bytes now.buffers.cache.device) (λ _ _. Unit {0})
    → StaysAround (held_of bytes store) (held_of bytes now) level
around-by bytes store now level same made others told = record {
  fixed_is =
      ap (λ (g : Geometry). record { levels = g.bottom + 1; doublings = g.block_exp - 3; format = g.format; made = record { reads = now.buffers.made.reads; faults = now.buffers.made.faults } }) same
      ∙ ap (λ (m : Made). record { levels = store.geometry.bottom + 1; doublings = store.geometry.block_exp - 3; format = store.geometry.format; made = record { reads = m.reads; faults = m.faults } }) made;
  shadows_stay = others;
  telling_is = telling-is (cells_of (bytes store.buffers.cache.device) store) (cells_of (bytes now.buffers.cache.device) now) (λ _ _. Unit {0}) told;
}
