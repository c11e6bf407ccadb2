-- How the calls of the workload are put together.
use Rattle.std.proofs.Common.{◌≡◌, ℕ, ◌+◌, ◌*◌, ◌≤◌, List, take, length, Result, Ok, Err, refl, subst, arith}
use Rattle.std.specs.Prelude.{OnOk, MatchResult}
use Rattle.cola_outside.specs.Faults.{Rose}
use Rattle.cola_cell.specs.declared.format.Format.TheVariants.{One}
use Rattle.cola_cell.specs.declared.fault.ReadFault.{ReadFault}
use Rattle.cola_cell.specs.declared.fault.ReadFault.TheVariants as read
use Rattle.cola_device.specs.declared.device.Device as device
use Rattle.cola_io.specs.Streams.{Appended}
use Rattle.cola_io.specs.Counted.{after_fault}
use Rattle.cola_io.specs.declared.sink.Sink as sink
use Rattle.cola_spec.specs.Map.{Map, empty_map}
use Rattle.cola_spec.specs.Bounds.{put_bound, get_bound}
use Rattle.cola_table.specs.declared.table.Table as table
use Rattle.cola_table.specs.declared.PutFault.{PutFault}
use Rattle.cola_table.specs.declared.PutFault.TheVariants as put
use Rattle.cola_table.specs.Answers.{PutFaults, ReadFaults}
use Rattle.cola_cursor.specs.declared.cursor.Cursor.{Cursor}
use Rattle.cola_gen.specs.declared.Tally.{Tally}
use Rattle.cola_gen.specs.Keys.{made, evens, HasOdd}
use Rattle.cola_gen.specs.Commands.{gets}
use Rattle.cola_gen.specs.Turns.{RisesBy, wrong_in}
use Rattle.cola_gen.specs.Answered.{State, Ran, Generated, Spent, MadeOdd, read_refused}
use Rattle.cola_store.specs.declared.fault.CreateFault.{CreateFault}
use Rattle.cola_store.specs.declared.fault.CreateFault.TheVariants as create
use Rattle.cola_store.specs.declared.fault.OpenFault.{OpenFault}
use Rattle.cola_store.specs.declared.fault.OpenFault.TheVariants as open_fault
use Rattle.cola_store.specs.Create.{Created}
use Rattle.cola_store.specs.Open.{Opens}
use Rattle.cola_store.specs.Store.{Stored}
use Rattle.cola_workload.specs.Refused.{refusal_status}
use Rattle.cola_report.specs.Line.{LineEnds}
use Rattle.cola_workload.specs.Workload.{Fills, Asks, FillEnds, AskEnds, GenEnds, making_status, filling_status, asking_status}
use Rattle.cola_report.specs.Line.LineEnds.{WroteLine, WroteFront}
use Rattle.cola_workload.specs.Workload.GenEnds.{FillDone}

-- ---- the line

-- a line's status is no fault of the device
pub line-calm : {K : Type 0} (k : sink.Ghosts K) (text : List ℕ) (sink sink' : K) (status : ℕ) → LineEnds k text 0 sink sink' status → status ≡ 5 → ⊥
line-calm k text sink sink' status (WroteLine is wrote counted) e = omega (arith, is, e)
line-calm k text sink sink' status (WroteFront is n wrote counted) e = omega (arith, is, e)

-- ---- causes

-- a count that rose stays so
pub rose-stays : (before mid now : ℕ) → Rose before mid → mid ≤ now → Rose before now
rose-stays before mid now rose h = omega (arith, rose, h)

pub made-cause : {D : Type 0} (d : device.Ghosts D) (keys : ℕ) (before now : D) (fault : CreateFault) → Created d One keys 5 before now (Err fault) → making_status fault ≡ 5 → Rose (d.counts before).faults (d.counts now).faults
made-cause d keys before now create.Keys is e = absurd (omega (arith, e))
made-cause d keys before now create.Block is e = absurd (omega (arith, e))
made-cause d keys before now create.NotEmpty is e = absurd (omega (arith, e))
made-cause d keys before now create.Device is e = is.cause

pub opened-cause : {D : Type 0} (d : device.Ghosts D) (before now : D) (fault : OpenFault) → Opens d before 0 (Err (now, fault)) → refusal_status fault ≡ 5 → Rose (d.counts before).faults (d.counts now).faults
opened-cause d before now open_fault.NotStore is e = absurd (omega (arith, e))
opened-cause d before now open_fault.NotClosed is e = absurd (omega (arith, e))
opened-cause d before now open_fault.Small is e = absurd (omega (arith, e))
opened-cause d before now open_fault.Device is e = is.cause
opened-cause d before now open_fault.OutOfMemory is e = absurd (omega (arith, e))
opened-cause d before now (open_fault.BadCell cell) is e = absurd (omega (arith, e))

pub filled-cause : (fault : PutFault) (before mid now : ℕ) → PutFaults {A = Unit {0}} (Err fault) before mid → mid ≤ now → filling_status fault ≡ 5 → Rose before now
filled-cause put.Full before mid now is h e = absurd (omega (arith, e))
filled-cause put.Worn before mid now is h e = absurd (omega (arith, e))
filled-cause put.Device before mid now is h e = rose-stays before mid now is h
filled-cause (put.BadCell cell) before mid now is h e = absurd (omega (arith, e))
filled-cause (put.Overfull level) before mid now is h e = absurd (omega (arith, e))

pub asked-cause : (fault : ReadFault) (before mid now : ℕ) → ReadFaults {A = Unit {0}} (Err fault) before mid → mid ≤ now → asking_status fault ≡ 5 → Rose before now
asked-cause read.Device before mid now is h e = rose-stays before mid now is h
asked-cause (read.BadCell cell) before mid now is h e = absurd (omega (arith, e))

-- ---- the calls

module _ {D : Type 0} (d : device.Ghosts D) (t : table.Ghosts (Stored D) Cursor) (keys : ℕ) (old new : State (Stored D)) where
  pub fills : (levels : ℕ) (result : Result (Unit {0}) PutFault) → levels ≡ (t.terms old.table).depth →
      Generated t (put_bound (t.terms old.table).depth) levels (made keys) result old new →
      (t.holds old.table empty_map → made keys ≤ (t.terms old.table).limit → MatchResult result (λ _. MadeOdd t (made keys) old new) (λ refusal. refusal ≡ put.Device)) →
      ((t.terms old.table).depth ≤ levels → new.tally.over ≡ old.tally.over) →
      RisesBy (made keys) (evens (made keys)) 0 (made keys + evens (made keys)) old.tally new.tally →
      Spent t ((made keys + evens (made keys)) * put_bound (t.terms old.table).depth) old new →
      PutFaults result (t.faults old.table) (t.faults new.table) → Fills d t keys result old new
  fills levels result is given empty over tallied spent faults = record {
    given = subst (λ (n : ℕ). Generated t (put_bound (t.terms old.table).depth) n (made keys) result old new) is given;
    from_empty = empty;
    none_over = over (omega (arith, is));
    tallied = tallied;
    spent = spent;
    faults = faults;
  }

  pub asks : (levels : ℕ) (result : Result (Unit {0}) ReadFault) → levels ≡ (t.terms old.table).depth →
      Ran t gets read_refused (get_bound (t.terms old.table).depth) levels (made keys) result old new →
      ((m : Map) → t.holds old.table m → t.holds new.table m) →
      ((m : Map) → t.holds old.table m → MatchResult result (λ _. new.tally.wrong ≡ old.tally.wrong + wrong_in m (made keys)) (λ refusal. refusal ≡ read.Device)) →
      ((m : Map) → t.holds old.table m → HasOdd (made keys) m → OnOk result (new.tally.wrong ≡ old.tally.wrong)) →
      ((t.terms old.table).depth ≤ levels → new.tally.over ≡ old.tally.over) →
      RisesBy 0 0 (made keys) (made keys) old.tally new.tally →
      Spent t (made keys * get_bound (t.terms old.table).depth) old new →
      ReadFaults result (t.faults old.table) (t.faults new.table) → Asks d t keys result old new
  asks levels result is given holds wrong none over tallied spent faults = record {
    given = subst (λ (n : ℕ). Ran t gets read_refused (get_bound (t.terms old.table).depth) n (made keys) result old new) is given;
    holds = holds;
    wrong = wrong;
    none_wrong = none;
    none_over = over (omega (arith, is));
    tallied = tallied;
    spent = spent;
    faults = faults;
  }

-- the second half follows the first
pub gen-ends : {K D : Type 0} (k : sink.Ghosts K) (d : device.Ghosts D) (t : table.Ghosts (Stored D) Cursor) (keys : ℕ) (before now between : D) (tally : Tally) (sink sink' : K) (steps mid steps' status : ℕ) →
    FillEnds d t keys before steps mid (Ok (between, tally)) → AskEnds k d t keys between now tally sink sink' mid steps' status → GenEnds k d t keys before now sink sink' steps steps' status
gen-ends k d t keys before now between tally sink sink' steps mid steps' status fill ends =
    FillDone fill.0 between fill.1.0
    (subst (λ (n : ℕ). AskEnds k d t keys between now fill.0.tally sink sink' n steps' status) fill.1.2 (subst (λ (x : Tally). AskEnds k d t keys between now x sink sink' mid steps' status) fill.1.1 ends))
