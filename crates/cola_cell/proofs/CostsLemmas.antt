-- How costs of reading calls add up.
use Rattle.std.proofs.Common.{◌≡◌, ℕ, ◌+◌, ◌≤◌, Result, Err, refl, ◌∙◌, arith}
use Rattle.cola_cell.specs.declared.cell.Cell.{Cell}
use Rattle.cola_cell.specs.declared.fault.ReadFault.{ReadFault}
use Rattle.cola_cell.specs.declared.fault.ReadFault.TheVariants.{Device, BadCell}
use Rattle.cola_cell.specs.Held.{Held, HasPlace}
use Rattle.cola_cell.specs.Spent.{Buffer, Spent}
use Rattle.cola_cell.specs.State.{State}
use Rattle.cola_cell.specs.Reads.{Reads}
use Rattle.cola_cell.specs.Costs.{Costs, ReadCause}

-- nothing was called
pub costs_none : (spent : Spent) (steps : ℕ) → Costs spent spent steps steps 0 0
costs_none spent steps = record {
  steps_stay = omega arith;
  steps_rise = omega arith;
  ticked_is = omega arith;
  turned_stays = omega arith;
  turned_rises = omega arith;
  written_is = refl;
  faults_stay = omega arith;
}

-- one read makes a tick, and turns to at most one block
pub costs_read : {old new : State} {buffer : Buffer} {level slot index : ℕ} {result : Result Cell ReadFault} {before after : ℕ} →
    Reads old new buffer level slot index result → after ≡ before + 1 → Costs old.spent new.spent before after 1 1
costs_read h e = record {
  steps_stay = omega (arith, e);
  steps_rise = omega (arith, e);
  ticked_is = omega (arith, e, h.one_tick);
  turned_stays = h.turned_stays;
  turned_rises = h.turned_rises;
  written_is = h.written_is;
  faults_stay = h.faults_stay;
}

-- one call after another
pub costs_then : {a b c : Spent} {s t u ticks turns more others : ℕ} → Costs a b s t ticks turns → Costs b c t u more others → Costs a c s u (ticks + more) (turns + others)
costs_then {a} {b} {c} {s} {t} {u} {ticks} {turns} {more} {others} h k = record {
  steps_stay = omega (arith, h.steps_stay, k.steps_stay);
  steps_rise = omega (arith, h.steps_rise, k.steps_rise);
  ticked_is = omega (arith, h.ticked_is, k.ticked_is);
  turned_stays = omega (arith, h.turned_stays, k.turned_stays);
  turned_rises = omega (arith, h.turned_rises, k.turned_rises);
  written_is = k.written_is ∙ h.written_is;
  faults_stay = omega (arith, h.faults_stay, k.faults_stay);
}

-- a bound may be larger
pub costs_within : {a b : Spent} {s t ticks turns more others : ℕ} → Costs a b s t ticks turns → ticks ≤ more → turns ≤ others → Costs a b s t more others
costs_within h m n = record {
  steps_stay = h.steps_stay;
  steps_rise = omega (arith, h.steps_rise, m);
  ticked_is = h.ticked_is;
  turned_stays = h.turned_stays;
  turned_rises = omega (arith, h.turned_rises, n);
  written_is = h.written_is;
  faults_stay = h.faults_stay;
}

-- a read after other calls
pub costs_read_then : {old : Spent} {mid new : State} {buffer : Buffer} {level slot index : ℕ} {result : Result Cell ReadFault} {before between after ticks turns : ℕ} →
    Costs old mid.spent before between ticks turns → Reads mid new buffer level slot index result → after ≡ between + 1 → Costs old new.spent before after (ticks + 1) (turns + 1)
costs_read_then h r e = costs_then h (costs_read r e)

-- a refused read has its cause
pub cause_of_read : {old new : State} {buffer : Buffer} {level slot index : ℕ} (fault : ReadFault) →
    HasPlace old.held level slot index → Reads old new buffer level slot index (Err fault) → ReadCause old.held old.spent.faults new.spent.faults fault
cause_of_read Device p r = r.answer
cause_of_read {level = level} {slot = slot} {index = index} (BadCell number) p r = record { level = level; slot = slot; index = index; place = p; bad = r.answer }

-- a cause after other calls is one of them all
pub cause_later : (held : Held) (before between now : ℕ) (fault : ReadFault) → before ≤ between → ReadCause held between now fault → ReadCause held before now fault
cause_later held before between now Device h c = omega (arith, h, c)
cause_later held before between now (BadCell number) h c = c
