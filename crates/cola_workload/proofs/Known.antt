-- Each number that the workload ends with is that of a status.
use Rattle.std.proofs.Common.{◌≡◌, ℕ, List}
use Rattle.cola_cell.specs.declared.fault.ReadFault.{ReadFault}
use Rattle.cola_cell.specs.declared.fault.ReadFault.TheVariants as read
use Rattle.cola_device.specs.declared.device.Device as device
use Rattle.cola_gen.specs.declared.Tally.{Tally}
use Rattle.cola_io.specs.declared.sink.Sink as sink
use Rattle.cola_store.specs.declared.fault.CreateFault.{CreateFault}
use Rattle.cola_store.specs.declared.fault.CreateFault.TheVariants as create
use Rattle.cola_store.specs.declared.fault.OpenFault.{OpenFault}
use Rattle.cola_store.specs.declared.fault.OpenFault.TheVariants as fault
use Rattle.cola_store.specs.Table.{store_table}
use Rattle.cola_table.specs.declared.PutFault.{PutFault}
use Rattle.cola_table.specs.declared.PutFault.TheVariants as put
use Rattle.cola_status.specs.declared.status.Status.TheVariants as known
use Rattle.cola_status.specs.Statuses.{IsStatus}
use Rattle.cola_status.proofs.Known.{one}
use Rattle.cola_report.specs.Line.{LineEnds}
use Rattle.cola_workload.specs.Refused.{refusal_status}
use Rattle.cola_workload.specs.Workload.{making_status, filling_status, asking_status, FillingRefused, AskingRefused, AskEnds, GenEnds}
use Rattle.cola_report.specs.Line.LineEnds.{WroteLine, WroteFront}
use Rattle.cola_workload.specs.Workload.FillingRefused.{NotMade, NotOpened, NotFilled, NotClosed}
use Rattle.cola_workload.specs.Workload.AskingRefused.{NotReopened, NotAsked, NotClosedAgain}
use Rattle.cola_workload.specs.Workload.AskEnds.{Told, AskRefused}
use Rattle.cola_workload.specs.Workload.GenEnds.{FillDone, FillRefused}

-- ---- refusals

pub opening-known : (why : OpenFault) (n : ℕ) → n ≡ refusal_status why → IsStatus n
opening-known fault.OutOfMemory n is = one known.OutOfMemory n is
opening-known fault.Device n is = one known.DeviceFailed n is
opening-known fault.NotStore n is = one known.NotStore n is
opening-known fault.Small n is = one known.NotStore n is
opening-known fault.NotClosed n is = one known.NotClosed n is
opening-known (fault.BadCell cell) n is = one known.BadCell n is

making-known : (why : CreateFault) (n : ℕ) → n ≡ making_status why → IsStatus n
making-known create.Keys n is = one known.WrongWords n is
making-known create.Block n is = one known.WrongWords n is
making-known create.NotEmpty n is = one known.NotEmpty n is
making-known create.Device n is = one known.DeviceFailed n is

filling-known : (why : PutFault) (n : ℕ) → n ≡ filling_status why → IsStatus n
filling-known put.Full n is = one known.NoRoom n is
filling-known put.Worn n is = one known.NoRoom n is
filling-known put.Device n is = one known.DeviceFailed n is
filling-known (put.BadCell cell) n is = one known.BadCell n is
filling-known (put.Overfull level) n is = one known.NoRoom n is

asking-known : (why : ReadFault) (n : ℕ) → n ≡ asking_status why → IsStatus n
asking-known read.Device n is = one known.DeviceFailed n is
asking-known (read.BadCell cell) n is = one known.BadCell n is

-- ---- the calls

module _ {K D : Type 0} (h : sink.Ghosts K) (d : device.Ghosts D) where
  line-known : (text : List ℕ) (sink sink' : K) (n : ℕ) → LineEnds h text 0 sink sink' n → IsStatus n
  line-known text sink sink' n (WroteLine is wrote counted) = one known.Done n is
  line-known text sink sink' n (WroteFront is k wrote counted) = one known.SinkFailed n is

  asked-known : (keys : ℕ) (before now : D) (tally : Tally) (steps steps' n : ℕ) → AskingRefused d (store_table d) keys before now tally steps steps' n → IsStatus n
  asked-known keys before now tally steps steps' n (NotReopened why is opened count) = opening-known why n is
  asked-known keys before now tally steps steps' n (NotAsked why last is was closed count) = asking-known why n is
  asked-known keys before now tally steps steps' n (NotClosedAgain last is was closed count) = one known.DeviceFailed n is

  ask-known : (keys : ℕ) (before now : D) (tally : Tally) (sink sink' : K) (steps steps' n : ℕ) → AskEnds h d (store_table d) keys before now tally sink sink' steps steps' n → IsStatus n
  ask-known keys before now tally sink sink' steps steps' n (Told asked was count wrote) = line-known _ sink sink' n wrote
  ask-known keys before now tally sink sink' steps steps' n (AskRefused refused stays) = asked-known keys before now tally steps steps' n refused

  filled-known : (keys : ℕ) (before now : D) (steps steps' n : ℕ) → FillingRefused d (store_table d) keys before now steps steps' n → IsStatus n
  filled-known keys before now steps steps' n (NotMade why is created count) = making-known why n is
  filled-known keys before now steps steps' n (NotOpened why made_on is was opened count) = opening-known why n is
  filled-known keys before now steps steps' n (NotFilled why made_on last is was filled closed count) = filling-known why n is
  filled-known keys before now steps steps' n (NotClosed made_on last is was filled closed count) = one known.DeviceFailed n is

  pub gen-known : (keys : ℕ) (before now : D) (sink sink' : K) (steps steps' n : ℕ) → GenEnds h d (store_table d) keys before now sink sink' steps steps' n → IsStatus n
  gen-known keys before now sink sink' steps steps' n (FillDone filled between was ends) = ask-known keys between now _ sink sink' _ steps' n ends
  gen-known keys before now sink sink' steps steps' n (FillRefused refused stays) = filled-known keys before now steps steps' n refused
