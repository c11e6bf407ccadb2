-- How a workload ends, by its status.
use Rattle.std.proofs.Common.{◌≡◌, ◌⊎◌, inl, inr, ℕ, take, Ok, Err, refl, subst, arith}
use Rattle.cola_cell.specs.declared.fault.ReadFault.{ReadFault}
use Rattle.cola_cell.specs.declared.fault.ReadFault.TheVariants as read
use Rattle.cola_cell.specs.declared.format.Format.TheVariants.{One}
use Rattle.cola_cursor.specs.declared.cursor.Cursor.{Cursor}
use Rattle.cola_device.specs.declared.device.Device as device
use Rattle.cola_gen.specs.Answered.{State}
use Rattle.cola_gen.specs.declared.Tally.{Tally}
use Rattle.cola_io.specs.Counted.{after_fault}
use Rattle.cola_io.specs.Streams.{Appended}
use Rattle.cola_io.specs.declared.sink.Sink as sink
use Rattle.cola_store.specs.Create.{Created, Made}
use Rattle.cola_store.specs.Sessions.{OpensStore}
use Rattle.cola_store.specs.Store.{Stored}
use Rattle.cola_store.specs.declared.fault.CreateFault.{CreateFault}
use Rattle.cola_store.specs.declared.fault.CreateFault.TheVariants as create
use Rattle.cola_store.specs.declared.fault.OpenFault.{OpenFault}
use Rattle.cola_store.specs.declared.fault.OpenFault.TheVariants as open_fault
use Rattle.cola_workload.specs.Refused.{refusal_status}
use Rattle.cola_table.specs.declared.PutFault.{PutFault}
use Rattle.cola_table.specs.declared.PutFault.TheVariants as put
use Rattle.cola_table.specs.declared.table.Table as table
use Rattle.cola_workload.specs.Workload.{making_status, filling_status, asking_status, workload_line, ClosedOnce, ClosedLate, Filled, Asked, WasFilled, WasAsked, FillingRefused, AskingRefused, GenEnds}
use Rattle.cola_report.specs.Line.LineEnds.{WroteLine, WroteFront}
use Rattle.cola_workload.specs.Workload.FillingRefused.{NotMade, NotOpened, NotFilled, NotClosed}
use Rattle.cola_workload.specs.Workload.AskingRefused.{NotReopened, NotAsked, NotClosedAgain}
use Rattle.cola_workload.specs.Workload.AskEnds.{Told, AskRefused}
use Rattle.cola_workload.specs.Workload.GenEnds.{FillDone, FillRefused}

-- ---- a refusal has neither the status of a written line nor that of a front

abbrev IsRefusal : ℕ → Type 0
IsRefusal n = (n ≡ 0 → ⊥) × (n ≡ 4 → ⊥)

making-refuses : (why : CreateFault) (n : ℕ) → n ≡ making_status why → IsRefusal n
making-refuses create.Keys n is = (λ e. omega (arith, is, e), λ e. omega (arith, is, e))
making-refuses create.Block n is = (λ e. omega (arith, is, e), λ e. omega (arith, is, e))
making-refuses create.NotEmpty n is = (λ e. omega (arith, is, e), λ e. omega (arith, is, e))
making-refuses create.Device n is = (λ e. omega (arith, is, e), λ e. omega (arith, is, e))

opening-refuses : (why : OpenFault) (n : ℕ) → n ≡ refusal_status why → IsRefusal n
opening-refuses open_fault.NotStore n is = (λ e. omega (arith, is, e), λ e. omega (arith, is, e))
opening-refuses open_fault.NotClosed n is = (λ e. omega (arith, is, e), λ e. omega (arith, is, e))
opening-refuses open_fault.Small n is = (λ e. omega (arith, is, e), λ e. omega (arith, is, e))
opening-refuses open_fault.Device n is = (λ e. omega (arith, is, e), λ e. omega (arith, is, e))
opening-refuses open_fault.OutOfMemory n is = (λ e. omega (arith, is, e), λ e. omega (arith, is, e))
opening-refuses (open_fault.BadCell cell) n is = (λ e. omega (arith, is, e), λ e. omega (arith, is, e))

filling-refuses : (why : PutFault) (n : ℕ) → n ≡ filling_status why → IsRefusal n
filling-refuses put.Full n is = (λ e. omega (arith, is, e), λ e. omega (arith, is, e))
filling-refuses put.Worn n is = (λ e. omega (arith, is, e), λ e. omega (arith, is, e))
filling-refuses put.Device n is = (λ e. omega (arith, is, e), λ e. omega (arith, is, e))
filling-refuses (put.BadCell cell) n is = (λ e. omega (arith, is, e), λ e. omega (arith, is, e))
filling-refuses (put.Overfull level) n is = (λ e. omega (arith, is, e), λ e. omega (arith, is, e))

asking-refuses : (why : ReadFault) (n : ℕ) → n ≡ asking_status why → IsRefusal n
asking-refuses read.Device n is = (λ e. omega (arith, is, e), λ e. omega (arith, is, e))
asking-refuses (read.BadCell cell) n is = (λ e. omega (arith, is, e), λ e. omega (arith, is, e))

device-refuses : (n : ℕ) → n ≡ 5 → IsRefusal n
device-refuses n is = (λ e. omega (arith, is, e), λ e. omega (arith, is, e))

-- ---- only a device with bytes at the start has the status 8

eight-made : (why : CreateFault) → 8 ≡ making_status why → why ≡ create.NotEmpty
eight-made create.Keys is = absurd (omega (arith, is))
eight-made create.Block is = absurd (omega (arith, is))
eight-made create.NotEmpty is = refl
eight-made create.Device is = absurd (omega (arith, is))

eight-opened : (why : OpenFault) → 8 ≡ refusal_status why → ⊥
eight-opened open_fault.NotStore is = omega (arith, is)
eight-opened open_fault.NotClosed is = omega (arith, is)
eight-opened open_fault.Small is = omega (arith, is)
eight-opened open_fault.Device is = omega (arith, is)
eight-opened open_fault.OutOfMemory is = omega (arith, is)
eight-opened (open_fault.BadCell cell) is = omega (arith, is)

eight-filled : (why : PutFault) → 8 ≡ filling_status why → ⊥
eight-filled put.Full is = omega (arith, is)
eight-filled put.Worn is = omega (arith, is)
eight-filled put.Device is = omega (arith, is)
eight-filled (put.BadCell cell) is = omega (arith, is)
eight-filled (put.Overfull level) is = omega (arith, is)

module _ {D : Type 0} (d : device.Ghosts D) (t : table.Ghosts (Stored D) Cursor) (keys : ℕ) where
  filling-refused : (before now : D) (steps steps' n : ℕ) → FillingRefused d t keys before now steps steps' n → IsRefusal n
  filling-refused before now steps steps' n (NotMade why is created count) = making-refuses why n is
  filling-refused before now steps steps' n (NotOpened why made_on is was opened count) = opening-refuses why n is
  filling-refused before now steps steps' n (NotFilled why made_on last is was filled closed count) = filling-refuses why n is
  filling-refused before now steps steps' n (NotClosed made_on last is was filled closed count) = device-refuses n is

  asking-refused : (before now : D) (tally : Tally) (steps steps' n : ℕ) → AskingRefused d t keys before now tally steps steps' n → IsRefusal n
  asking-refused before now tally steps steps' n (NotReopened why is opened count) = opening-refuses why n is
  asking-refused before now tally steps steps' n (NotAsked why last is was closed count) = asking-refuses why n is
  asking-refused before now tally steps steps' n (NotClosedAgain last is was closed count) = device-refuses n is

  -- a refused half, by its call
  pub filling-by-call : (before now : D) (steps steps' status : ℕ) → FillingRefused d t keys before now steps steps' status →
      ((fault : CreateFault) × ((status ≡ making_status fault) × (Created d One keys 5 before now (Err fault) × (steps' ≡ steps))))
      ⊎ (((fault : OpenFault) × ((made : D) × ((status ≡ refusal_status fault) × (Made d One keys 5 before made × (OpensStore d made 0 (Err (now, fault)) × (steps' ≡ steps))))))
      ⊎ (((fault : PutFault) × ((made : D) × ((last : State (Stored D)) × ((status ≡ filling_status fault) × (Made d One keys 5 before made × (Filled d t keys made steps (Err fault) last × (ClosedOnce d last.table now × (steps' ≡ last.steps))))))))
      ⊎ ((made : D) × ((last : State (Stored D)) × ((status ≡ 5) × (Made d One keys 5 before made × (Filled d t keys made steps (Ok tt) last × (ClosedLate d last.table now × (steps' ≡ last.steps)))))))))
  filling-by-call before now steps steps' status (NotMade why is created count) = inl (why, (is, (created, count)))
  filling-by-call before now steps steps' status (NotOpened why made is was opened count) = inr (inl (why, (made, (is, (was, (opened, count))))))
  filling-by-call before now steps steps' status (NotFilled why made last is was filled closed count) = inr (inr (inl (why, (made, (last, (is, (was, (filled, (closed, count)))))))))
  filling-by-call before now steps steps' status (NotClosed made last is was filled closed count) = inr (inr (inr (made, (last, (is, (was, (filled, (closed, count))))))))

  pub asking-by-call : (before now : D) (tally : Tally) (steps steps' status : ℕ) → AskingRefused d t keys before now tally steps steps' status →
      ((fault : OpenFault) × ((status ≡ refusal_status fault) × (OpensStore d before 0 (Err (now, fault)) × (steps' ≡ steps))))
      ⊎ (((fault : ReadFault) × ((last : State (Stored D)) × ((status ≡ asking_status fault) × (Asked d t keys before tally steps (Err fault) last × (ClosedOnce d last.table now × (steps' ≡ last.steps))))))
      ⊎ ((last : State (Stored D)) × ((status ≡ 5) × (Asked d t keys before tally steps (Ok tt) last × (ClosedLate d last.table now × (steps' ≡ last.steps))))))
  asking-by-call before now tally steps steps' status (NotReopened why is opened count) = inl (why, (is, (opened, count)))
  asking-by-call before now tally steps steps' status (NotAsked why last is was closed count) = inr (inl (why, (last, (is, (was, (closed, count))))))
  asking-by-call before now tally steps steps' status (NotClosedAgain last is was closed count) = inr (inr (last, (is, (was, (closed, count)))))

  pub not-empty : (before now : D) (steps steps' : ℕ) → FillingRefused d t keys before now steps steps' 8 → Created d One keys 5 before now (Err create.NotEmpty) × (steps' ≡ steps)
  not-empty before now steps steps' (NotMade why is created count) = (subst (λ (f : CreateFault). Created d One keys 5 before now (Err f)) (eight-made why is) created, count)
  not-empty before now steps steps' (NotOpened why made is was opened count) = absurd (eight-opened why is)
  not-empty before now steps steps' (NotFilled why made last is was filled closed count) = absurd (eight-filled why is)
  not-empty before now steps steps' (NotClosed made last is was filled closed count) = absurd (omega (arith, is))

  module _ {K : Type 0} (k : sink.Ghosts K) (before now : D) (sink sink' : K) (steps steps' : ℕ) where
    pub well : GenEnds k d t keys before now sink sink' steps steps' 0 →
        (filled : State (Stored D)) × ((between : D) × (WasFilled d t keys before steps filled between
        × ((asked : State (Stored D)) × (WasAsked d t keys between filled.tally filled.steps asked now × ((steps' ≡ asked.steps)
        × (Appended (workload_line asked.tally asked.table.count) (k.written sink) (k.written sink') × (k.faults sink' ≡ k.faults sink)))))))
    well (FillDone filled between was (Told asked was' count (WroteLine is wrote calm))) = (filled, (between, (was, (asked, (was', (count, (wrote, calm)))))))
    well (FillDone filled between was (Told asked was' count (WroteFront is n wrote calm))) = absurd (omega (arith, is))
    well (FillDone filled between was (AskRefused refused stays)) = absurd ((asking-refused between now filled.tally filled.steps steps' 0 refused).0 refl)
    well (FillRefused refused stays) = absurd ((filling-refused before now steps steps' 0 refused).0 refl)

    pub front : GenEnds k d t keys before now sink sink' steps steps' 4 →
        (filled : State (Stored D)) × ((between : D) × (WasFilled d t keys before steps filled between
        × ((asked : State (Stored D)) × (WasAsked d t keys between filled.tally filled.steps asked now × ((steps' ≡ asked.steps)
        × ((size : ℕ) × (Appended (take size (workload_line asked.tally asked.table.count)) (k.written sink) (k.written sink') × (k.faults sink' ≡ after_fault (k.faults sink)))))))))
    front (FillDone filled between was (Told asked was' count (WroteLine is wrote calm))) = absurd (omega (arith, is))
    front (FillDone filled between was (Told asked was' count (WroteFront is n wrote calm))) = (filled, (between, (was, (asked, (was', (count, (n, (wrote, calm))))))))
    front (FillDone filled between was (AskRefused refused stays)) = absurd ((asking-refused between now filled.tally filled.steps steps' 4 refused).1 refl)
    front (FillRefused refused stays) = absurd ((filling-refused before now steps steps' 4 refused).1 refl)

    pub refused-half : (status : ℕ) → GenEnds k d t keys before now sink sink' steps steps' status → (status ≡ 0 → ⊥) → (status ≡ 4 → ⊥) →
        (sink' ≡ sink) × (FillingRefused d t keys before now steps steps' status
        ⊎ ((filled : State (Stored D)) × ((between : D) × (WasFilled d t keys before steps filled between × AskingRefused d t keys between now filled.tally filled.steps steps' status))))
    refused-half status (FillDone filled between was (Told asked was' count (WroteLine is wrote calm))) e f = absurd (e is)
    refused-half status (FillDone filled between was (Told asked was' count (WroteFront is n wrote calm))) e f = absurd (f is)
    refused-half status (FillDone filled between was (AskRefused refused stays)) e f = (stays, inr (filled, (between, (was, refused))))
    refused-half status (FillRefused refused stays) e f = (stays, inl refused)
