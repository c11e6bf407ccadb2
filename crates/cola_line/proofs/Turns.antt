-- What a table answers is a step of the session machine from the map that it holds.
use Rattle.std.proofs.Common.{◌≡◌, ℕ, ◌-◌, ◌≤◌, Bool, arith, inl, inr, List, Option, Some, None, Result, Err, refl, sym, ap, ◌∙◌, subst}
use Rattle.cola_cell.specs.declared.fault.ReadFault.{ReadFault}
use Rattle.cola_cell.specs.declared.fault.ReadFault.TheVariants as read
use Rattle.cola_cell.specs.declared.fault.StepFault.{StepFault}
use Rattle.cola_cell.specs.declared.fault.StepFault.TheVariants as step
use Rattle.cola_table.specs.declared.PutFault.{PutFault}
use Rattle.cola_table.specs.declared.PutFault.TheVariants as fault
use Rattle.cola_spec.specs.Map.{Shape, Map, PutOutcome, settled, put_outcome, put_if_outcome, after_put, after_put_if, after_delete, with_value, value_of, stamp_of, count, range, scan}
use Rattle.cola_spec.specs.Map as map
use Rattle.cola_spec.specs.Command as spec
use Rattle.cola_spec.specs.Reply as reply
use Rattle.cola_spec.specs.Machine.{Turn, kind_of}
use Rattle.cola_io.specs.declared.sink.Sink as sink
use Rattle.cola_table.specs.declared.table.Table as table
use Rattle.cola_table.specs.Terms.{Call, shape}
use Rattle.cola_table.specs.Answers.{PutRefused, OnlyDevice, OnlyDeviceRead, PutFaults, StepFaults, ReadFaults}
use Rattle.cola_table.specs.Replies.{turn_of, put_refused, step_failure, read_failure}
use Rattle.cola_line.specs.declared.command.Command.{Command}
use Rattle.cola_line.specs.declared.command.Command.TheVariants as code
use Rattle.cola_line.specs.Spoken.{spoken, IsOfOneLine}
use Rattle.cola_line.specs.Replied.{Wrote, KindFaults, StepsFrom}
use Rattle.cola_line.specs.Given.{Given}
use Rattle.cola_line.specs.Listed.{Listed, RowsFor}
use Rattle.cola_line.specs.Answered.{Answered, Calls, GaveTurn}

module _ (shape : Shape) (m : Map) (Holds : Map → Type 0) where
  -- an accepted or refused put, by what it answered
  pub put_steps : (key value : List ℕ) (ticks : ℕ) (outcome : PutOutcome) → outcome ≡ put_outcome shape m key → Holds (after_put shape m key value) → StepsFrom shape m Holds (turn_of (spec.Put key value) (reply.Put outcome) ticks)
  put_steps key value ticks outcome is held = record { next = after_put shape m key value; holds = held; step = (ap reply.Put is, refl) }

  pub put_if_steps : (key : List ℕ) (seen : ℕ) (value : List ℕ) (ticks : ℕ) (outcome : PutOutcome) → outcome ≡ put_if_outcome shape m key seen → Holds (after_put_if shape m key seen value) → StepsFrom shape m Holds (turn_of (spec.PutIf key seen value) (reply.Put outcome) ticks)
  put_if_steps key seen value ticks outcome is held = record { next = after_put_if shape m key seen value; holds = held; step = (ap reply.Put is, refl) }

  kept : (outcome refused : PutOutcome) (new : Map) → outcome ≡ refused → ((old : Map) → settled refused old new ≡ old) → Holds m → Holds (settled outcome m new)
  kept outcome refused new is stays held = subst Holds (sym (ap (λ o. settled o m new) is ∙ stays m)) held

  pub put_refused_steps : (key value : List ℕ) (ticks : ℕ) (refusal : PutFault) → PutRefused (put_outcome shape m key) refusal → Holds m → StepsFrom shape m Holds (turn_of (spec.Put key value) (put_refused refusal) ticks)
  put_refused_steps key value ticks fault.Full is held =
      put_steps key value ticks map.Full (sym is) (kept (put_outcome shape m key) map.Full (with_value shape m key value) is (λ old. refl) held)
  put_refused_steps key value ticks fault.Worn is held =
      put_steps key value ticks map.Worn (sym is) (kept (put_outcome shape m key) map.Worn (with_value shape m key value) is (λ old. refl) held)
  put_refused_steps key value ticks fault.Device is held = record { next = m; holds = held; step = (refl, refl) }
  put_refused_steps key value ticks (fault.BadCell cell) is held = absurd is
  put_refused_steps key value ticks (fault.Overfull level) is held = absurd is

  pub put_if_refused_steps : (key : List ℕ) (seen : ℕ) (value : List ℕ) (ticks : ℕ) (refusal : PutFault) → PutRefused (put_if_outcome shape m key seen) refusal → Holds m → StepsFrom shape m Holds (turn_of (spec.PutIf key seen value) (put_refused refusal) ticks)
  put_if_refused_steps key seen value ticks fault.Full is held =
      put_if_steps key seen value ticks map.Full (sym is) (kept (put_if_outcome shape m key seen) map.Full (with_value shape m key value) is (λ old. refl) held)
  put_if_refused_steps key seen value ticks fault.Worn is held =
      put_if_steps key seen value ticks map.Worn (sym is) (kept (put_if_outcome shape m key seen) map.Worn (with_value shape m key value) is (λ old. refl) held)
  put_if_refused_steps key seen value ticks fault.Device is held = record { next = m; holds = held; step = (refl, refl) }
  put_if_refused_steps key seen value ticks (fault.BadCell cell) is held = absurd is
  put_if_refused_steps key seen value ticks (fault.Overfull level) is held = absurd is

  pub delete_steps : (key : List ℕ) (ticks : ℕ) (value : Option (List ℕ)) → value ≡ value_of m key → Holds (after_delete m key) → StepsFrom shape m Holds (turn_of (spec.Del key) (reply.Deleted value) ticks)
  delete_steps key ticks value is held = record { next = after_delete m key; holds = held; step = (ap reply.Deleted is, refl) }

  pub delete_refused_steps : (key : List ℕ) (ticks : ℕ) (refusal : StepFault) → OnlyDevice refusal → Holds m → StepsFrom shape m Holds (turn_of (spec.Del key) (reply.Failed (step_failure refusal)) ticks)
  delete_refused_steps key ticks step.Device is held = record { next = m; holds = held; step = (refl, refl) }
  delete_refused_steps key ticks (step.BadCell cell) is held = absurd is
  delete_refused_steps key ticks (step.Overfull level) is held = absurd is

  pub get_steps : (key : List ℕ) (ticks : ℕ) (value : Option (List ℕ)) → value ≡ value_of m key → Holds m → StepsFrom shape m Holds (turn_of (spec.Get key) (reply.Got value) ticks)
  get_steps key ticks value is held = record { next = m; holds = held; step = (ap reply.Got is, refl) }

  pub get_refused_steps : (key : List ℕ) (ticks : ℕ) (refusal : ReadFault) → OnlyDeviceRead refusal → Holds m → StepsFrom shape m Holds (turn_of (spec.Get key) (reply.Failed (read_failure refusal)) ticks)
  get_refused_steps key ticks read.Device is held = record { next = m; holds = held; step = (refl, refl) }
  get_refused_steps key ticks (read.BadCell cell) is held = absurd is

  pub stamp_steps : (key : List ℕ) (ticks : ℕ) (stamp : Option ℕ) → stamp ≡ stamp_of m key → Holds m → StepsFrom shape m Holds (turn_of (spec.Stamp key) (reply.Stamped stamp) ticks)
  stamp_steps key ticks stamp is held = record { next = m; holds = held; step = (ap reply.Stamped is, refl) }

  pub stamp_refused_steps : (key : List ℕ) (ticks : ℕ) (refusal : ReadFault) → OnlyDeviceRead refusal → Holds m → StepsFrom shape m Holds (turn_of (spec.Stamp key) (reply.Failed (read_failure refusal)) ticks)
  stamp_refused_steps key ticks read.Device is held = record { next = m; holds = held; step = (refl, refl) }
  stamp_refused_steps key ticks (read.BadCell cell) is held = absurd is

  pub count_steps : (ticks keys : ℕ) → keys ≡ count m → Holds m → StepsFrom shape m Holds (turn_of spec.Count (reply.Counted keys) ticks)
  count_steps ticks keys is held = record { next = m; holds = held; step = (ap reply.Counted is, refl) }

  -- rows as asked for, or cut by a fault

  pub range_steps : (low high : List ℕ) (ticks : ℕ) (answer : reply.Reply) → RowsFor (range m low high) answer → Holds m → StepsFrom shape m Holds (turn_of (spec.Range low high) answer ticks)
  range_steps low high ticks answer (inl is) held =
      subst (λ a. StepsFrom shape m Holds (turn_of (spec.Range low high) a ticks)) (sym is) (record { next = m; holds = held; step = (refl, refl) })
  range_steps low high ticks answer (inr (n, is)) held =
      subst (λ a. StepsFrom shape m Holds (turn_of (spec.Range low high) a ticks)) (sym is) (record { next = m; holds = held; step = ((n, refl), refl) })

  pub scan_steps : (low : List ℕ) (most ticks : ℕ) (answer : reply.Reply) → RowsFor (scan m low most) answer → Holds m → StepsFrom shape m Holds (turn_of (spec.Scan low most) answer ticks)
  scan_steps low most ticks answer (inl is) held =
      subst (λ a. StepsFrom shape m Holds (turn_of (spec.Scan low most) a ticks)) (sym is) (record { next = m; holds = held; step = (refl, refl) })
  scan_steps low most ticks answer (inr (n, is)) held =
      subst (λ a. StepsFrom shape m Holds (turn_of (spec.Scan low most) a ticks)) (sym is) (record { next = m; holds = held; step = ((n, refl), refl) })

-- The faults of a refusal are those of its reply's kind

pub put_faults : (A : Type 0) (refusal : PutFault) (f f' : ℕ) → PutFaults {A = A} (Err refusal) f f' → KindFaults (kind_of (put_refused refusal)) f f'
put_faults A fault.Full f f' counts = counts
put_faults A fault.Worn f f' counts = counts
put_faults A fault.Device f f' counts = counts
put_faults A (fault.BadCell cell) f f' counts = counts
put_faults A (fault.Overfull level) f f' counts = counts

pub step_faults : (A : Type 0) (refusal : StepFault) (f f' : ℕ) → StepFaults {A = A} (Err refusal) f f' → KindFaults (kind_of (reply.Failed (step_failure refusal))) f f'
step_faults A step.Device f f' counts = counts
step_faults A (step.BadCell cell) f f' counts = counts
step_faults A (step.Overfull level) f f' counts = counts

pub read_faults : (A : Type 0) (refusal : ReadFault) (f f' : ℕ) → ReadFaults {A = A} (Err refusal) f f' → KindFaults (kind_of (reply.Failed (read_failure refusal))) f f'
read_faults A read.Device f f' counts = counts
read_faults A (read.BadCell cell) f f' counts = counts

-- What a call keeps

pub calls : {T W : Type 0} (t : table.Ghosts T W) (old new : T) (steps steps' bound : ℕ) → t.kept new ≡ t.kept old → Call (t.terms old) (t.terms new) (t.faults old) (t.faults new) steps steps' bound → Calls t old new steps steps' bound
calls t old new steps steps' bound kept call = record { kept = kept; same_terms = call.same_terms; faults_kept = call.faults_kept; steps_kept = call.steps_kept; within = call.within }

-- A turn whose reply was written

module _ {T W K A E : Type 0} (t : table.Ghosts T W) (k : sink.Ghosts K) (m : Map) (cost : Bool) (result : Result A E) (old new : T) (sink sink' : K) (steps steps' : ℕ) where
  -- a command that is answered by one line
  line_given : (command : Command) (turn : Turn) → IsOfOneLine command → t.answers old turn new → Given t k (spoken command) result old sink turn new sink'
  line_given (code.Put key value) turn one answers = answers
  line_given (code.PutIf key seen value) turn one answers = answers
  line_given (code.Del key) turn one answers = answers
  line_given (code.Get key) turn one answers = answers
  line_given (code.Stamp key) turn one answers = answers
  line_given code.Count turn one answers = answers
  line_given (code.Range low high) turn one answers = absurd one
  line_given (code.Scan low most) turn one answers = absurd one
  line_given code.Close turn one answers = absurd one
  line_given code.Reopen turn one answers = absurd one

  -- the reply of one line, with the ticks that were counted
  pub line_answered : (command : Command) (answer : reply.Reply) (ticks : ℕ) → IsOfOneLine command → steps ≤ steps' → reply.reply_text cost ticks answer ≡ reply.reply_text cost (steps' - steps) answer → GaveTurn t old (turn_of (spoken command) answer (steps' - steps)) new → Wrote (reply.reply_text cost ticks answer) result (k.written sink) (k.written sink') → Answered t k m (spoken command) cost result old new sink sink' steps steps' (turn_of (spoken command) answer (steps' - steps))
  line_answered command answer ticks one least same gave wrote = record {
    asked = refl;
    wrote = subst (λ t. Wrote t result (k.written sink) (k.written sink')) same wrote;
    counted = omega arith;
    faults = gave.faults;
    given = line_given command (turn_of (spoken command) answer (steps' - steps)) one gave.given;
    step = gave.step m;
  }

  -- the rows of a range
  pub range_answered : (low high : List ℕ) (answer : reply.Reply) → steps ≤ steps' → (t.holds old m → t.holds new m) → Listed t k m low (Some high) None result old new sink sink' answer → Answered t k m (spec.Range low high) cost result old new sink sink' steps steps' (turn_of (spec.Range low high) answer (steps' - steps))
  range_answered low high answer least holds listed = record {
    asked = refl;
    wrote = subst (λ t. Wrote t result (k.written sink) (k.written sink')) (sym (listed.costless cost (steps' - steps))) listed.wrote;
    counted = omega arith;
    faults = listed.faults;
    given = listed.given;
    step = λ held. range_steps (shape (t.terms old)) m (t.holds new) low high (steps' - steps) answer (listed.rows held) (holds held);
  }

  -- and of a scan
  pub scan_answered : (low : List ℕ) (most : ℕ) (answer : reply.Reply) → steps ≤ steps' → (t.holds old m → t.holds new m) → Listed t k m low None (Some most) result old new sink sink' answer → Answered t k m (spec.Scan low most) cost result old new sink sink' steps steps' (turn_of (spec.Scan low most) answer (steps' - steps))
  scan_answered low most answer least holds listed = record {
    asked = refl;
    wrote = subst (λ t. Wrote t result (k.written sink) (k.written sink')) (sym (listed.costless cost (steps' - steps))) listed.wrote;
    counted = omega arith;
    faults = listed.faults;
    given = listed.given;
    step = λ held. scan_steps (shape (t.terms old)) m (t.holds new) low most (steps' - steps) answer (listed.rows held) (holds held);
  }
