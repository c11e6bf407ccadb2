-- That restarts, and pushes and finishes of levels of the front, meet the trait.
use Rattle.std.proofs.Common.{◌≡◌, inl, inr, ℕ, ◌+◌, ◌%◌, ◌<◌, ◌≤◌, ◌==◌, true, List, length, set, Option, Some, IfSome, Ok, refl, sym, ap, subst, ◌∙◌, arith}
use Rattle.cola_outside.specs.Told.{Both}
use Rattle.cola_cell.specs.declared.cell.Cell.{Cell}
use Rattle.cola_cell.specs.declared.sink.Shadow.{Shadow}
use Rattle.cola_cell.specs.Flat.{shadow_at}
use Rattle.cola_cell.specs.Places.{slot_size, number_of, IsPlace}
use Rattle.cola_cell.specs.Shadows.{emptied, IsKept, StaysAround, Restarts, Pushes, Finishes}
use Rattle.cola_device.specs.declared.counts.Counts.{Counts}
use Rattle.cola_front.specs.Front.{FrontCells}
use Rattle.cola_layout.specs.declared.geometry.Geometry.{Geometry}
use Rattle.cola_cache.specs.Blocks.{Blocks}
use Rattle.cola_run.specs.Cells.{Lower, spots_of, IsShadow, IsShape, IsBacked, cells_by}
use Rattle.cola_run.specs.Store.{Store, IsStore, cells_of, held_of, state_of}
use Rattle.cola_run.specs.Parts.{OneShadow, fills}
use Rattle.cola_run.proofs.Reading.{not-small, span-is}
use Rattle.cola_run.proofs.Spots.{both-same}
use Rattle.cola_run.proofs.Standing.{restart-others, restart-kept, restart-shape, restart-backed, front-stays, front-shape, front-backed, put-elsewhere, put-end}
use Rattle.cola_run.proofs.Sinks.{shape-with, sound-with, sound-by, around-by, spots-by}

-- a change of one shadow, and perhaps of the front, that leaves the device and the tails
module _ {D K : Type 0} (bytes : D → Option (List ℕ)) (counts : D → Counts) (kept : D → K) (store now : Store D) (level : ℕ) (shadow-now : Shadow)
    (sound : IsStore (bytes store.buffers.cache.device) store) (same : now.geometry ≡ store.geometry) (buffers : now.buffers ≡ store.buffers) (tails : now.tails ≡ store.tails)
    (one : OneShadow store.shadows now.shadows level shadow-now) where
  abbrev g : Geometry
  g = store.geometry

  abbrev lower : Lower
  lower = (cells_of (bytes store.buffers.cache.device) store).lower

  abbrev lower-now : Lower
  lower-now = (cells_of (bytes now.buffers.cache.device) now).lower

  told-same : bytes now.buffers.cache.device ≡ bytes store.buffers.cache.device
  told-same = ap (λ (b : Blocks D). bytes b.cache.device) buffers

  pub same-around : StaysAround (held_of bytes store) (held_of bytes now) level
  same-around =
      around-by bytes store now level same (ap (λ (b : Blocks D). b.made) buffers) one.others
      (subst (λ (x : Option (List ℕ)). Both (bytes store.buffers.cache.device) x (λ _ _. Unit {0})) (sym told-same) (both-same (bytes store.buffers.cache.device) (λ _ _. Unit {0}) (λ _. tt)))

  pub spots-now : (l s i : ℕ) → spots_of (cells_of (bytes now.buffers.cache.device) now) l s i ≡ spots_of (cells_by g now.front lower-now) l s i
  spots-now l s i = ap (λ (x : Geometry). spots_of (cells_by x now.front lower-now) l s i) same

  sound-same : now.front ≡ store.front → IsShape g store.front now.shadows now.tails → IfSome (bytes now.buffers.cache.device) (IsBacked g now.shadows now.tails) → IsStore (bytes now.buffers.cache.device) now
  sound-same front shape backed =
      sound-by bytes store now sound same front shape backed (ap (λ (b : Blocks D). b.cache.size) buffers) (ap (λ (b : Blocks D). b.many) buffers) (ap (λ (b : Blocks D). length b.lasts) buffers)

  -- a restart
  module _ (slot : ℕ) (front : now.front ≡ store.front) (is : shadow-now ≡ emptied slot) where
    emptied-one : OneShadow store.shadows now.shadows level (emptied slot)
    emptied-one = subst (λ (x : Shadow). OneShadow store.shadows now.shadows level x) is one

    pub restarted-sound : slot < 2 → IsStore (bytes now.buffers.cache.device) now
    restarted-sound within =
        sound-same front (restart-shape g store.front lower lower-now level slot sound.cells.shape told-same tails emptied-one within)
        (restart-backed g store.front lower lower-now level slot sound.cells.shape told-same tails emptied-one sound.cells.backed)

    pub restarted-meets : Restarts (held_of bytes store) (held_of bytes now) level slot
    restarted-meets = record {
      around = same-around;
      shadow_is = emptied-one.is;
      others_stay = λ l s i apart. spots-by (bytes now.buffers.cache.device) store now same front l s i ∙ restart-others g store.front lower lower-now level slot sound.cells.shape told-same tails emptied-one l s i apart;
      kept_stay = λ k l s i. spots-by (bytes now.buffers.cache.device) store now same front l s i ∙ restart-kept g store.front lower lower-now level slot sound.cells.shape told-same tails emptied-one sound.cells.backed (saved-of k) l s i;
    }
      where
        saved-of : IsKept (held_of bytes store) level → g.block_exp ≤ level + 2 → (shadow_at store.shadows level).saved ≡ true
        saved-of k high = elim k.is [
          | inl h ↦ h
          | inr h ↦ absurd (not-small g level sound.cells.shape.block high h)
        ]

  -- a finish of a level of the front
  module _ (low : level + 2 < g.block_exp) (within : level ≤ g.bottom) (is : shadow-now ≡ record (shadow_at store.shadows level) { saved = true }) (front : now.front ≡ store.front) where
    pub front-finished-sound : IsStore (bytes now.buffers.cache.device) now
    front-finished-sound =
        let stands = sound.cells.shape.shadows_fit level within in
        sound-same front
        (front-shape g store.front store.front lower lower-now level shadow-now sound.cells.shape told-same tails one low (subst (λ (x : Shadow). IsShadow level x) (sym is) (record { slot_in = stands.slot_in; within = stands.within })))
        (front-backed g store.front store.front lower lower-now level shadow-now sound.cells.shape told-same tails one low sound.cells.backed)

    pub front-finished-meets : {T : Type 0} (value : T) → Finishes (state_of bytes counts store) (state_of bytes counts now) level (Ok value)
    front-finished-meets value = record {
      around = same-around;
      answer = tt;
      calm = ap (λ (b : Blocks D). (counts b.cache.device).faults) buffers;
      shadow_is = one.is ∙ is;
      others_stay = λ l s i _. spots-by (bytes now.buffers.cache.device) store now same front l s i ∙ front-stays g store.front store.front lower lower-now level shadow-now sound.cells.shape told-same tails one low l s i (λ _ _. refl);
    }

  -- a push to a level of the front
  module _ (cell : Cell) (low : level + 2 < g.block_exp) (within : level ≤ g.bottom) (room : (shadow_at store.shadows level).len < slot_size level)
      (front : now.front ≡ record store.front { cells = set store.front.cells (number_of level (shadow_at store.shadows level).slot (shadow_at store.shadows level).len) (Some cell) })
      (inside : number_of level (shadow_at store.shadows level).slot (shadow_at store.shadows level).len < length store.front.cells)
      (is : shadow-now ≡ record { slot = (shadow_at store.shadows level).slot; len = (shadow_at store.shadows level).len + 1; saved = fills g (shadow_at store.shadows level).len }) where
    abbrev shadow : Shadow
    shadow = shadow_at store.shadows level

    abbrev put : FrontCells
    put = record store.front { cells = set store.front.cells (number_of level shadow.slot shadow.len) (Some cell) }

    place : IsPlace (g.bottom + 1) level shadow.slot shadow.len
    place = let stands = sound.cells.shape.shadows_fit level within in record { level_in = omega (arith, within); slot_in = stands.slot_in; index_in = room }

    pub front-pushed-sound : IsStore (bytes now.buffers.cache.device) now
    front-pushed-sound =
        let stands = sound.cells.shape.shadows_fit level within in
        let h = front-shape g store.front store.front lower lower-now level shadow-now sound.cells.shape told-same tails one low (subst (λ (x : Shadow). IsShadow level x) (sym is) (record { slot_in = stands.slot_in; within = omega (arith, room) })) in
        let b = front-backed g store.front store.front lower lower-now level shadow-now sound.cells.shape told-same tails one low sound.cells.backed in
        sound-with bytes store now sound same (subst (λ (f : FrontCells). IsShape g f now.shadows now.tails) (sym front) (shape-with refl refl h)) b
        (ap (λ (b : Blocks D). b.cache.size) buffers) (ap (λ (b : Blocks D). b.many) buffers) (ap (λ (b : Blocks D). length b.lasts) buffers)

    put-now : (l s i : ℕ) → spots_of (cells_of (bytes now.buffers.cache.device) now) l s i ≡ spots_of (cells_by g put lower-now) l s i
    put-now l s i = spots-now l s i ∙ ap (λ (x : FrontCells). spots_of (cells_by g x lower-now) l s i) front

    pub front-pushed-meets : {T : Type 0} (value : T) → Pushes (state_of bytes counts store) (state_of bytes counts now) level cell (Ok value)
    front-pushed-meets value = record {
      around = same-around;
      answer = (room, put-now level shadow.slot shadow.len ∙ put-end g store.front cell lower lower-now level shadow.slot shadow.len place low inside told-same);
      calm = ap (λ (b : Blocks D). (counts b.cache.device).faults) buffers;
      shadow_is = one.is ∙ is ∙ ap (λ (n : ℕ). record { slot = shadow.slot; len = shadow.len + 1; saved = (shadow.len + 1) % n == 0 }) (sym (span-is g sound.cells.shape.block));
      others_stay = λ l s i apart. put-now l s i ∙ front-stays g store.front put lower lower-now level shadow-now sound.cells.shape told-same tails one low l s i (λ p _. put-elsewhere g store.front cell level shadow.slot shadow.len l s i place apart p);
    }
