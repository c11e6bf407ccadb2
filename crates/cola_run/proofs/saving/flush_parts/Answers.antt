use Rattle.std.proofs.Common.{◌≡◌, ◌≤◌, ◌+◌, ◌-◌, ◌*◌, ℕ, List, length, Option, Result, Ok, Err, refl, sym, subst, arith}
use Rattle.std.specs.Prelude.{IfSome, OnOk}
use Rattle.cola_outside.specs.Told.{Both}
use Rattle.cola_device.specs.declared.device.DeviceFault.{DeviceFault}
use Rattle.cola_device.specs.declared.device.Device as device
use Rattle.cola_device.specs.Bytes.{Wrote}
use Rattle.cola_cell.specs.declared.sink.Shadow.{Shadow}
use Rattle.cola_device.specs.Settling.{IsSettled}
use Rattle.cola_cache.specs.Blocks.{Blocks}
use Rattle.cola_front.specs.Front.{FrontCells, IsFront, InOrder, image}
use Rattle.cola_layout.specs.declared.geometry.Geometry.{Geometry}
use Rattle.cola_layout.proofs.Powers.{power-le}
use Rattle.cola_run.specs.Cells.{Lower, AreCells, cells_by, block_bytes, spots_of, IsShape, IsBacked}
use Rattle.cola_run.specs.Store.{lower_of}
use Rattle.cola_run.specs.Saving.{IsFlushed, IsFirstLast, SameLevels, SameFront, IsFrontLast, SettlesTwice}
use Rattle.cola_run.specs.Loading.{SameCells, StaySound, StayRead, AreSavedBelow}
use Rattle.cola_run.proofs.Finishes.{ends-within}
use Rattle.cola_run.proofs.Flushes.{image-fits, same-two, same-read, same-head, front-waits, levels-saved, flushed-by, settles-twice}
use Rattle.cola_run.proofs.Firsts.{first-refused, first-written, front-unbegun, front-waited}
use Rattle.cola_run.proofs.Reading.{on-ok}
use Rattle.cola_run.proofs.Heads.{heads-backed, heads-levels}
use Rattle.cola_run.proofs.saving.flush_parts.Goals as goal

pub save_tails-requires-clause-shape : goal.save_tails-requires-clause-shape
save_tails-requires-clause-shape g c = λ level on unsaved. ends-within c.args.geometry.now c.args.front.now c.args.shadows.now c.args.tails.now level c.requires.shape on unsaved

pub save_front-requires-clause-many : goal.save_front-requires-clause-many
save_front-requires-clause-many g c =
    let first = c.settle.ensures.stays.many in
    let second = c.save_tails.ensures.writing.stays.many in
    omega (arith, power-le 2 (c.args.geometry.now.bottom + 4 - c.args.geometry.now.block_exp) (omega (arith, c.args.geometry.now.block_fits.fits)), first, second, c.requires.many)

-- what a flush leaves of the cells, and the order of its writes
abbrev Ends : {D : Type 0} (d : device.Ghosts D) (geometry : Geometry) (front : FrontCells) (first shadows : List Shadow) (tails : List ℕ) (begin now : Blocks D) → Type 0
Ends d geometry front first shadows tails begin now =
    AreCells (cells_by geometry front (lower_of d.bytes now shadows tails))
    × SameCells geometry front (lower_of d.bytes begin first tails) (lower_of d.bytes now shadows tails)
    × IsFrontLast d geometry (spots_of (cells_by geometry front (lower_of d.bytes now shadows tails))) begin.cache.device now.cache.device

-- the tails were written, or were to be
module _ {D : Type 0} (d : device.Ghosts D) (geometry : Geometry) (front : FrontCells) (first shadows : List Shadow) (tails : List ℕ) (begin saved : Blocks D)
    (old-shape : IsShape geometry front first tails) (old-backed : IfSome (d.bytes begin.cache.device) (IsBacked geometry first tails)) (many : length shadows ≡ length first)
    (sound : StaySound geometry (lower_of d.bytes begin first tails) (lower_of d.bytes saved shadows tails))
    (stays : StayRead geometry (lower_of d.bytes begin first tails) (lower_of d.bytes saved shadows tails)) where
  abbrev old : Lower
  old = lower_of d.bytes begin first tails

  abbrev lower : Option (List ℕ) → Lower
  lower told = record { told = told; shadows = shadows; tails = tails }

  shape : IsShape geometry front shadows tails
  shape = sound.shape front old-shape

  module _ (settled : Blocks D) (same : d.bytes settled.cache.device ≡ d.bytes saved.cache.device) where
    backed : IfSome (d.bytes settled.cache.device) (IsBacked geometry shadows tails)
    backed = subst (λ (x : Option (List ℕ)). IfSome x (IsBacked geometry shadows tails)) (sym same) (sound.backed front old-shape old-backed)

    reads : SameCells geometry front old (lower (d.bytes settled.cache.device))
    reads = subst (λ (x : Option (List ℕ)). SameCells geometry front old (lower x)) (sym same) (same-read geometry front old (lower_of d.bytes saved shadows tails) old-shape old-backed many stays)

    waits : Both old.told (d.bytes saved.cache.device) (SameFront geometry)
    waits = front-waits geometry old.told (d.bytes saved.cache.device) stays.told (stays.beside_stays front old-shape old-backed)

    -- nothing was written behind them
    unwritten : Ends d geometry front first shadows tails begin settled
    unwritten = (
      record { shape = shape; backed = backed },
      reads,
      front-unbegun d geometry begin.cache.device saved.cache.device settled.cache.device same (spots_of (cells_by geometry front (lower_of d.bytes settled shadows tails))) waits,
    )

    -- the levels settled, and the front was written, or was to be
    module _ {T E : Type 0} (header : List ℕ) (now : Blocks D) (result : Result T E) (is : IsFront front) (head : length header ≡ 512) (all : AreSavedBelow geometry shadows (geometry.bottom + 1))
        (levels-settled : d.settles saved.cache.device (Ok (tt {0})) settled.cache.device) (wrote : Wrote result 0 (image front header) (d.bytes settled.cache.device) (d.bytes now.cache.device)) where
      within : 0 + length (image front header) ≤ 2 * block_bytes geometry
      within = image-fits geometry front shadows tails header shape is head

      file : IfSome (d.bytes now.cache.device) (IsBacked geometry shadows tails)
      file = heads-backed geometry shape.block shadows tails result 0 (image front header) within (d.bytes settled.cache.device) (d.bytes now.cache.device) wrote backed

      levels : Both (d.bytes settled.cache.device) (d.bytes now.cache.device) (SameLevels geometry)
      levels = heads-levels geometry shape.block shadows tails result 0 (image front header) within (d.bytes settled.cache.device) (d.bytes now.cache.device) wrote backed

      front-stays : Both old.told (d.bytes settled.cache.device) (SameFront geometry)
      front-stays = subst (λ (x : Option (List ℕ)). Both old.told x (SameFront geometry)) (sym same) waits

      written-reads : SameCells geometry front old (lower (d.bytes now.cache.device))
      written-reads =
          same-two geometry front old (lower (d.bytes settled.cache.device)) (lower (d.bytes now.cache.device)) reads
          (same-head geometry front shadows tails result 0 (image front header) (d.bytes settled.cache.device) (d.bytes now.cache.device) shape.block within backed wrote)

      between : IsSettled d settled.cache.device
      between = record { before = saved.cache.device; after = settled.cache.device; settled = levels-settled; bytes_stay = same; writes_stay = refl }

      written : (last : Blocks D) → d.bytes last.cache.device ≡ d.bytes now.cache.device
          → Both old.told (d.bytes now.cache.device) (IsFirstLast geometry (spots_of (cells_by geometry front (lower (d.bytes now.cache.device))))) → Ends d geometry front first shadows tails begin last
      written last final ordered = (
        record { shape = shape; backed = subst (λ (x : Option (List ℕ)). IfSome x (IsBacked geometry shadows tails)) (sym final) file },
        subst (λ (x : Option (List ℕ)). SameCells geometry front old (lower x)) (sym final) written-reads,
        front-waited d geometry begin.cache.device now.cache.device last.cache.device final (λ x. spots_of (cells_by geometry front (lower x))) settled.cache.device between front-stays levels
            (levels-saved geometry front shadows tails (d.bytes now.cache.device) file all) ordered,
      )

      refused-by : (fault : E) → Both (d.bytes settled.cache.device) (d.bytes now.cache.device) (InOrder {T = Unit {0}} (Err fault) front) → Ends d geometry front first shadows tails begin now
      refused-by fault ordered =
          written now refl
          (first-refused geometry front shadows tails header shape is head all (Unit {0}) fault old.told (d.bytes settled.cache.device) (d.bytes now.cache.device) file front-stays ordered)

      written-by : (value : T) → Wrote {E = E} (Ok value) 0 (image front header) (d.bytes settled.cache.device) (d.bytes now.cache.device)
          → (settle : Result (Unit {0}) DeviceFault) (last : Blocks D) → d.bytes last.cache.device ≡ d.bytes now.cache.device → d.settles now.cache.device settle last.cache.device
          → Ends d geometry front first shadows tails begin last
          × IfSome (d.bytes last.cache.device) (IsFlushed geometry header (spots_of (cells_by geometry front (lower (d.bytes last.cache.device)))))
          × OnOk settle (SettlesTwice d geometry begin.cache.device last.cache.device)
      written-by value exact settle last final settles =
          let flushed : IfSome (d.bytes now.cache.device) (IsFlushed geometry header (spots_of (cells_by geometry front (lower (d.bytes now.cache.device))))) =
          flushed-by T E value geometry front shadows tails header (d.bytes settled.cache.device) (d.bytes now.cache.device) shape is head backed all exact in (
            written last final (first-written geometry header (spots_of (cells_by geometry front (lower (d.bytes now.cache.device)))) old.told (d.bytes now.cache.device) written-reads.behind flushed),
            subst (λ (x : Option (List ℕ)). IfSome x (IsFlushed geometry header (spots_of (cells_by geometry front (lower x))))) (sym final) flushed,
            settles-twice d geometry settle begin.cache.device settled.cache.device now.cache.device last.cache.device between front-stays levels settles final,
          )

settled : (g : _) (c : goal.After-settle-in-Ok-save_front g) →
    Ends g.D.Device c.args.geometry.now c.args.front.now c.args.shadows.now c.save_tails.new.shadows c.args.tails.now c.args.buffers.now c.settle-in-Ok-save_front.new.self
    × IfSome (g.D.Device.bytes c.settle-in-Ok-save_front.new.self.cache.device) (IsFlushed c.args.geometry.now c.args.header.now
    (spots_of (cells_by c.args.geometry.now c.args.front.now (lower_of g.D.Device.bytes c.settle-in-Ok-save_front.new.self c.save_tails.new.shadows c.args.tails.now))))
    × OnOk c.settle-in-Ok-save_front.result (SettlesTwice g.D.Device c.args.geometry.now c.args.buffers.now.cache.device c.settle-in-Ok-save_front.new.self.cache.device)
settled g c =
    written-by g.D.Device c.args.geometry.now c.args.front.now c.args.shadows.now c.save_tails.new.shadows c.args.tails.now c.args.buffers.now
    c.save_tails.new.buffers c.requires.shape c.requires.backed c.save_tails.auto.shadows c.save_tails.ensures.sound c.save_tails.ensures.stays c.settle.new.self c.settle.ensures.bytes_stay c.args.header.now
    c.save_front.new.buffers c.save_front.result c.save_front.ensures.sound (omega (arith, c.told-header))
    c.in-Ok.ensures.saved c.in-Ok-settle.ensures.settled c.save_front.ensures.wrote c.in-Ok-save_front.field-0 c.in-Ok-save_front.ensures.wrote
    c.settle-in-Ok-save_front.result c.settle-in-Ok-save_front.new.self c.settle-in-Ok-save_front.ensures.bytes_stay c.settle-in-Ok-save_front.ensures.settled

pub returns-in-Ok-save_front-clause-flushed : goal.returns-in-Ok-save_front-clause-flushed
returns-in-Ok-save_front-clause-flushed g c = on-ok c.settle-in-Ok-save_front.result (settled g c).1

pub returns-in-Ok-save_front-clause-cells : goal.returns-in-Ok-save_front-clause-cells
returns-in-Ok-save_front-clause-cells g c = (settled g c).0.0

pub returns-in-Ok-save_front-clause-reads : goal.returns-in-Ok-save_front-clause-reads
returns-in-Ok-save_front-clause-reads g c = (settled g c).0.1

pub returns-in-Ok-save_front-clause-order : goal.returns-in-Ok-save_front-clause-order
returns-in-Ok-save_front-clause-order g c = (settled g c).0.2

pub returns-in-Ok-save_front-clause-settles : goal.returns-in-Ok-save_front-clause-settles
returns-in-Ok-save_front-clause-settles g c = (settled g c).2

refused : (g : _) (c : goal.In-Err-save_front g) → Ends g.D.Device c.args.geometry.now c.args.front.now c.args.shadows.now c.save_tails.new.shadows c.args.tails.now c.args.buffers.now c.save_front.new.buffers
refused g c =
    refused-by g.D.Device c.args.geometry.now c.args.front.now c.args.shadows.now c.save_tails.new.shadows c.args.tails.now c.args.buffers.now
    c.save_tails.new.buffers c.requires.shape c.requires.backed c.save_tails.auto.shadows c.save_tails.ensures.sound c.save_tails.ensures.stays c.settle.new.self c.settle.ensures.bytes_stay c.args.header.now
    c.save_front.new.buffers c.save_front.result c.save_front.ensures.sound (omega (arith, c.told-header))
    c.in-Ok.ensures.saved c.in-Ok-settle.ensures.settled c.save_front.ensures.wrote c.in-Err-save_front.fault c.in-Err-save_front.ensures.in_order

pub returns-in-Err-save_front-clause-cells : goal.returns-in-Err-save_front-clause-cells
returns-in-Err-save_front-clause-cells g c = (refused g c).0

pub returns-in-Err-save_front-clause-reads : goal.returns-in-Err-save_front-clause-reads
returns-in-Err-save_front-clause-reads g c = (refused g c).1

pub returns-in-Err-save_front-clause-order : goal.returns-in-Err-save_front-clause-order
returns-in-Err-save_front-clause-order g c = (refused g c).2

unsettled : (g : _) (c : goal.In-Err-settle g) → Ends g.D.Device c.args.geometry.now c.args.front.now c.args.shadows.now c.save_tails.new.shadows c.args.tails.now c.args.buffers.now c.settle.new.self
unsettled g c =
    unwritten g.D.Device c.args.geometry.now c.args.front.now c.args.shadows.now c.save_tails.new.shadows c.args.tails.now c.args.buffers.now
    c.save_tails.new.buffers c.requires.shape c.requires.backed c.save_tails.auto.shadows c.save_tails.ensures.sound c.save_tails.ensures.stays c.settle.new.self c.settle.ensures.bytes_stay

pub returns-in-Err-settle-clause-cells : goal.returns-in-Err-settle-clause-cells
returns-in-Err-settle-clause-cells g c = (unsettled g c).0

pub returns-in-Err-settle-clause-reads : goal.returns-in-Err-settle-clause-reads
returns-in-Err-settle-clause-reads g c = (unsettled g c).1

pub returns-in-Err-settle-clause-order : goal.returns-in-Err-settle-clause-order
returns-in-Err-settle-clause-order g c = (unsettled g c).2

unsaved : (g : _) (c : goal.In-Err g) → Ends g.D.Device c.args.geometry.now c.args.front.now c.args.shadows.now c.save_tails.new.shadows c.args.tails.now c.args.buffers.now c.save_tails.new.buffers
unsaved g c =
    unwritten g.D.Device c.args.geometry.now c.args.front.now c.args.shadows.now c.save_tails.new.shadows c.args.tails.now c.args.buffers.now
    c.save_tails.new.buffers c.requires.shape c.requires.backed c.save_tails.auto.shadows c.save_tails.ensures.sound c.save_tails.ensures.stays c.save_tails.new.buffers refl

pub returns-in-Err-clause-cells : goal.returns-in-Err-clause-cells
returns-in-Err-clause-cells g c = (unsaved g c).0

pub returns-in-Err-clause-reads : goal.returns-in-Err-clause-reads
returns-in-Err-clause-reads g c = (unsaved g c).1

pub returns-in-Err-clause-order : goal.returns-in-Err-clause-order
returns-in-Err-clause-order g c = (unsaved g c).2
