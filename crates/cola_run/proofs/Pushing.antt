-- That pushes to levels on the device meet the trait.
use Rattle.std.proofs.Common.{◌≡◌, ℕ, ◌+◌, ◌*◌, ◌%◌, ◌<◌, Bool, true, false, List, length, Option, option_map, Result, Ok, Err, refl, sym, ap, ◌∙◌, arith}
use Rattle.std.proofs.lemmas.Bool.{eqb-true, false_from_ne_true}
use Rattle.cola_cell.specs.declared.cell.Cell.{Cell}
use Rattle.cola_cell.specs.declared.fault.PushFault.{PushFault}
use Rattle.cola_cell.specs.declared.fault.PushFault.TheVariants.{Device, Overfull}
use Rattle.cola_cell.specs.declared.sink.Shadow.{Shadow}
use Rattle.cola_cell.specs.Flat.{shadow_at}
use Rattle.cola_cell.specs.Format.{width}
use Rattle.cola_cell.specs.Places.{slot_size, IsPlace}
use Rattle.cola_cell.specs.Spent.{Ticks}
use Rattle.cola_cell.specs.Shadows.{after_push, PushAnswers, Pushes, push_ticks, PushSpends}
use Rattle.cola_device.specs.declared.counts.Counts.{Counts}
use Rattle.cola_layout.specs.declared.geometry.Geometry.{Geometry}
use Rattle.cola_run.specs.Cells.{IsOnDevice, Lower, block_cells, device_levels, block_number, IsShape}
use Rattle.cola_run.specs.Store.{Store, IsStore, cells_of, state_of, kept_of, beside}
use Rattle.cola_run.specs.Parts.{fills, TailPushed, MetFault, IsPushed}
use Rattle.cola_run.specs.Turns.{Writing}
use Rattle.cola_run.proofs.Steps.{tail_many}
use Rattle.cola_run.proofs.Reading.{span-is}
use Rattle.cola_run.proofs.Pushes.{push-told, push-stays, push-end, push-shape, push-backed}
use Rattle.cola_run.proofs.Sinks.{beside-tail, long-of, kept-by, HasCauseOf, cause-of, calm-of, lasts-many, sound-by, spots-by, around-by, spends-nothing, spends-writes}

-- a push to a level on the device
module _ {D K T : Type 0} (bytes : D → Option (List ℕ)) (counts : D → Counts) (kept : D → K) (store now : Store D) (level : ℕ) (cell : Cell) (result : Result T PushFault)
    (sound : IsStore (bytes store.buffers.cache.device) store) (device : IsOnDevice store.geometry level) (room : (shadow_at store.shadows level).len < slot_size level)
    (same : now.geometry ≡ store.geometry) (front : now.front ≡ store.front)
    (pushed : IsPushed store.geometry (cells_of (bytes store.buffers.cache.device) store).lower (cells_of (bytes now.buffers.cache.device) now).lower level cell result)
    (writing : Writing counts kept (fills store.geometry (shadow_at store.shadows level).len) store.buffers now.buffers (block_number store.geometry level (shadow_at store.shadows level).slot (shadow_at store.shadows level).len) result)
    (ticked : Ticks store.ticked now.ticked (push_ticks result)) where
  abbrev g : Geometry
  g = store.geometry

  abbrev shadow : Shadow
  shadow = shadow_at store.shadows level

  shape : IsShape g store.front store.shadows store.tails
  shape = sound.cells.shape

  place : IsPlace (g.bottom + 1) level shadow.slot shadow.len
  place = record { level_in = omega (arith, device.within); slot_in = (shape.shadows_fit level device.within).slot_in; index_in = room }

  abbrev lower : Lower
  lower = (cells_of (bytes store.buffers.cache.device) store).lower

  abbrev lower-now : Lower
  lower-now = (cells_of (bytes now.buffers.cache.device) now).lower

  pub pushed-sound : IsStore (bytes now.buffers.cache.device) now
  pushed-sound =
      sound-by bytes store now sound same front (push-shape g store.front lower lower-now level cell result shape device room pushed) (push-backed g store.front lower lower-now level cell result shape device room pushed sound.cells.backed)
      writing.stays.size writing.stays.many (lasts-many (fills g shadow.len) (block_number g level shadow.slot shadow.len) store.buffers.lasts now.buffers.lasts writing.lasts_are)

  pub pushed-keeps : kept_of bytes counts kept now ≡ kept_of bytes counts kept store
  pushed-keeps = kept-by bytes counts kept store now same writing.stays.blocks writing.kept_is (by-test (fills g shadow.len) pushed.longer.device) (let low = writing.called.others_stay in let high = writing.called.others_rise in omega (arith, low, high))
    where
      tails-now : length now.tails ≡ width g.format * (block_cells g * device_levels g)
      tails-now = (push-shape g store.front lower lower-now level cell result shape device room pushed).tails_many

      by-test : (t : Bool) → TailPushed t result g now.tails level shadow.slot shadow.len (bytes store.buffers.cache.device) (bytes now.buffers.cache.device)
          → option_map (beside g) (bytes now.buffers.cache.device) ≡ option_map (beside g) (bytes store.buffers.cache.device)
      by-test true w =
          beside-tail result g now.tails level shadow.slot shadow.len (bytes store.buffers.cache.device) (bytes now.buffers.cache.device) shape.block device.whole place
          (tail_many g now.tails level shape.block device tails-now) (long-of g store.shadows store.tails (bytes store.buffers.cache.device) sound.cells.backed) w
      by-test false w = ap (λ (x : Option (List ℕ)). option_map (beside g) x) w.0

  answers : (r : Result T PushFault) → r ≡ result → MetFault r → HasCauseOf r (counts store.buffers.cache.device).faults (counts now.buffers.cache.device).faults → PushAnswers (state_of bytes counts store) (state_of bytes counts now) level cell r
  answers (Ok value) e fault cause = (room, spots-by (bytes now.buffers.cache.device) store now same front level shadow.slot shadow.len ∙ push-end g store.front lower lower-now level cell result shape device room pushed sound.cells.backed value (sym e))
  answers (Err Device) e fault cause = (room, cause)
  answers (Err (Overfull l)) e fault cause = absurd fault

  pub pushed-meets : Pushes (state_of bytes counts store) (state_of bytes counts now) level cell result
  pushed-meets = record {
    around = around-by bytes store now level same writing.stays.made pushed.longer.shadow.others (push-told g store.front lower lower-now level cell result shape device room pushed);
    answer = answers result refl pushed.longer.fault (cause-of result writing.called);
    calm = calm-of result pushed.longer.fault writing.called;
    shadow_is = pushed.longer.shadow.is ∙ ap (λ (n : ℕ). after_push n shadow result) (sym (span-is g shape.block));
    others_stay = λ l s i apart. spots-by (bytes now.buffers.cache.device) store now same front l s i ∙ push-stays g store.front lower lower-now level cell result shape device room pushed sound.cells.backed l s i apart;
  }

  pub pushed-spends : PushSpends (state_of bytes counts store) (state_of bytes counts now) level result
  pushed-spends = record {
    writes = spends-writes counts kept store now level shadow.slot shadow.len (fills g shadow.len) result (push_ticks result) shape.block device.whole (λ _. place) writing same ticked;
    only_full = λ part.
        spends-nothing counts kept store now level shadow.slot shadow.len (fills g shadow.len) result (push_ticks result) shape.block device.whole (λ _. place) writing same ticked
        (false_from_ne_true (fills g shadow.len) (λ e. part (ap (λ (n : ℕ). (shadow.len + 1) % n) (span-is g shape.block) ∙ eqb-true ((shadow.len + 1) % block_cells g) 0 e)));
  }
