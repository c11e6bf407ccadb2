-- That finishes of levels on the device meet the trait.
use Rattle.std.proofs.Common.{◌≡◌, inl, inr, ℕ, ◌+◌, not, Bool, true, false, List, Option, Result, Ok, Err, is_ok, refl, ap, ◌∙◌, arith}
use Rattle.std.proofs.lemmas.Bool.{false≢true, not-true}
use Rattle.cola_cell.specs.declared.fault.PushFault.{PushFault}
use Rattle.cola_cell.specs.declared.fault.PushFault.TheVariants.{Device, Overfull}
use Rattle.cola_cell.specs.declared.sink.Shadow.{Shadow}
use Rattle.cola_cell.specs.Flat.{shadow_at}
use Rattle.cola_cell.specs.Places.{IsPlace}
use Rattle.cola_cell.specs.Spent.{Ticks}
use Rattle.cola_cell.specs.Shadows.{IsKept, FinishAnswers, Finishes, FinishSpends}
use Rattle.cola_device.specs.declared.counts.Counts.{Counts}
use Rattle.cola_layout.specs.declared.geometry.Geometry.{Geometry}
use Rattle.cola_run.specs.Cells.{IsOnDevice, Lower, block_number, IsShape}
use Rattle.cola_run.specs.Store.{Store, IsStore, cells_of, held_of, state_of, kept_of}
use Rattle.cola_run.specs.Parts.{TailFinished, MetFault, IsFinished}
use Rattle.cola_run.specs.Turns.{Writing}
use Rattle.cola_run.proofs.Reading.{not-small}
use Rattle.cola_run.proofs.Finishes.{finish-beside, ends-within, finish-told, finish-stays, finish-shape, finish-backed}
use Rattle.cola_run.proofs.Sinks.{kept-by, HasCauseOf, cause-of, calm-of, lasts-many, sound-by, spots-by, around-by, spends-nothing, spends-writes}

-- a finish of a level on the device
module _ {D K T : Type 0} (bytes : D → Option (List ℕ)) (counts : D → Counts) (kept : D → K) (store now : Store D) (level : ℕ) (result : Result T PushFault)
    (sound : IsStore (bytes store.buffers.cache.device) store) (device : IsOnDevice store.geometry level)
    (same : now.geometry ≡ store.geometry) (front : now.front ≡ store.front)
    (finished : IsFinished store.geometry (cells_of (bytes store.buffers.cache.device) store).lower (cells_of (bytes now.buffers.cache.device) now).lower level result)
    (writing : Writing counts kept (not (shadow_at store.shadows level).saved) store.buffers now.buffers (block_number store.geometry level (shadow_at store.shadows level).slot (shadow_at store.shadows level).len) result)
    (ticked : Ticks store.ticked now.ticked 0) where
  abbrev g : Geometry
  g = store.geometry

  abbrev shadow : Shadow
  shadow = shadow_at store.shadows level

  abbrev lower : Lower
  lower = (cells_of (bytes store.buffers.cache.device) store).lower

  abbrev lower-now : Lower
  lower-now = (cells_of (bytes now.buffers.cache.device) now).lower

  shape : IsShape g store.front store.shadows store.tails
  shape = sound.cells.shape

  place : not shadow.saved ≡ true → IsPlace (g.bottom + 1) level shadow.slot shadow.len
  place e = ends-within g store.front store.shadows store.tails level shape device (not-true shadow.saved e)

  pub finished-sound : IsStore (bytes now.buffers.cache.device) now
  finished-sound =
      sound-by bytes store now sound same front (finish-shape g store.front lower lower-now level result shape device finished) (finish-backed g store.front lower lower-now level result shape device finished sound.cells.backed)
      writing.stays.size writing.stays.many (lasts-many (not shadow.saved) (block_number g level shadow.slot shadow.len) store.buffers.lasts now.buffers.lasts writing.lasts_are)

  pub finished-keeps : kept_of bytes counts kept now ≡ kept_of bytes counts kept store
  finished-keeps =
      kept-by bytes counts kept store now same writing.stays.blocks writing.kept_is (finish-beside g store.front lower lower-now level result shape device finished sound.cells.backed)
      (let low = writing.called.others_stay in let high = writing.called.others_rise in omega (arith, low, high))

  answers : (r : Result T PushFault) → r ≡ result → MetFault r → HasCauseOf r (counts store.buffers.cache.device).faults (counts now.buffers.cache.device).faults →
      FinishAnswers (held_of bytes store) (counts store.buffers.cache.device).faults (counts now.buffers.cache.device).faults level r
  answers (Ok value) e fault cause = tt
  answers (Err Device) e fault cause = (cause, by-test shadow.saved finished.device)
    where
      by-test : (t : Bool) → TailFinished t result g store.tails level shadow.slot shadow.len (bytes store.buffers.cache.device) (bytes now.buffers.cache.device) → t ≡ false
      by-test true w = absurd (false≢true (ap (λ (r : Result T PushFault). is_ok r) e ∙ w.1))
      by-test false w = refl
  answers (Err (Overfull l)) e fault cause = absurd fault

  pub finished-meets : Finishes (state_of bytes counts store) (state_of bytes counts now) level result
  finished-meets = record {
    around = around-by bytes store now level same writing.stays.made finished.shadow.others (finish-told g lower lower-now level result finished);
    answer = answers result refl finished.fault (cause-of result writing.called);
    calm = calm-of result finished.fault writing.called;
    shadow_is = finished.shadow.is;
    others_stay = λ l s i apart. spots-by (bytes now.buffers.cache.device) store now same front l s i ∙ finish-stays g store.front lower lower-now level result shape device finished sound.cells.backed l s i apart;
  }

  pub finished-spends : FinishSpends (state_of bytes counts store) (state_of bytes counts now) level
  finished-spends = record {
    writes = spends-writes counts kept store now level shadow.slot shadow.len (not shadow.saved) result 0 shape.block device.whole place writing same ticked;
    only_needed = λ kept_is. spends-nothing counts kept store now level shadow.slot shadow.len (not shadow.saved) result 0 shape.block device.whole place writing same ticked (saved-of kept_is);
  }
    where
      saved-of : IsKept (held_of bytes store) level → not shadow.saved ≡ false
      saved-of k = elim k.is [ inl h ↦ ap (λ (t : Bool). not t) h | inr h ↦ absurd (not-small g level shape.block device.whole h) ]
