-- A store that is closed has a settled device, but behind an opening that met a fault.
use Rattle.std.proofs.Common.{◌≡◌, ℕ, Bool, false, List, [], ◌∷◌, Option, Some, None, Result, Ok, Err, sym, subst, arith}
use Rattle.std.specs.Prelude.{⊤}
use Rattle.std.proofs.lemmas.Bool.{false≢true}
use Rattle.cola_device.specs.declared.device.Device as device
use Rattle.cola_device.specs.Settling.{IsSettled}
use Rattle.cola_device.proofs.SettlingLemmas.{settled-stays}
use Rattle.cola_io.specs.declared.sink.Sink as sink
use Rattle.cola_spec.specs.Command.{Command}
use Rattle.cola_spec.specs.Reply.{Reply}
use Rattle.cola_spec.specs.Machine.{Turn}
use Rattle.cola_table.specs.declared.table.Table as table
use Rattle.cola_cursor.specs.declared.cursor.Cursor.{Cursor}
use Rattle.cola_opening.specs.Judged.{IsSeen}
use Rattle.cola_store.specs.declared.fault.OpenFault.{OpenFault}
use Rattle.cola_store.specs.declared.fault.OpenFault.TheVariants as fault
use Rattle.cola_store.specs.Open.{Opens}
use Rattle.cola_store.specs.Store.{Stored}
use Rattle.cola_command.specs.declared.place.Place.{Place}
use Rattle.cola_command.specs.declared.place.Place.TheVariants as place
use Rattle.cola_session.specs.Home.{cut_by, cut_by_request, cut_after}
use Rattle.cola_command.specs.Turns.{CloseCause, OpenCause, refused_reply}
use Rattle.cola_command.proofs.PlaceCauses.{whether, AskCause, Cause, CausedBy}

-- a store that is closed has a settled device, but behind an opening that met a fault
abbrev pub IsSettledAt : {D : Type 0} (d : device.Ghosts D) → Place D d → Bool → Type 0
IsSettledAt d (place.Open store) cut = ⊤
IsSettledAt d (place.Closing closing) cut = ⊤
IsSettledAt d (place.Closed now) cut = cut ≡ false → IsSettled d now

module _ {D : Type 0} (d : device.Ghosts D) where
  settled-is : (old new : Place D d) (cut : Bool) → new ≡ old → IsSettledAt d old cut → IsSettledAt d new cut
  settled-is old new cut same at = subst (λ (p : Place D d). IsSettledAt d p cut) (sym same) at

  -- an attempt to close
  pub close-settles : (old : Place D d) (answer : Reply) (new : Place D d) (cut : Bool) → CloseCause d old answer new → IsSettledAt d old cut → IsSettledAt d new cut
  close-settles (place.Open store) answer new cut (Ok now, (closes, (answered, is))) at = settled-is (place.Closed now) new cut is (λ none. closes.closed.settles.settled)
  close-settles (place.Open store) answer new cut (Err closing, (closes, (answered, is))) at = settled-is (place.Closing closing) new cut is tt
  close-settles (place.Closing before) answer new cut (Ok now, (closes, (answered, is))) at = settled-is (place.Closed now) new cut is (λ none. closes.settles.settled)
  close-settles (place.Closing before) answer new cut (Err closing, (closes, (answered, is))) at = settled-is (place.Closing closing) new cut is tt
  close-settles (place.Closed now) answer new cut (answered, is) at = settled-is (place.Closed now) new cut is at

  -- a refused opening without a fault wrote nothing
  refused-settles : {why : List ℕ → Type 0} {reads others : ℕ} (before now : D) → IsSeen d before why reads others now → IsSettled d before → IsSettled d now
  refused-settles before now is at =
      let stay = is.spends.writes_stay in
      let rise = is.spends.writes_rise in
      settled-stays d before now is.bytes_stay (omega (arith, stay, rise)) at

  -- a refused opening wrote nothing, or met a fault
  refusal-settles : (cache : ℕ) (before now : D) (why : OpenFault) (cut : Bool) → Opens d before cache (Err (now, why)) → (cut ≡ false → IsSettled d before) → cut_by (refused_reply why) cut ≡ false → IsSettled d now
  refusal-settles cache before now fault.NotStore cut opens at none = refused-settles before now opens (at none)
  refusal-settles cache before now fault.NotClosed cut opens at none = refused-settles before now opens (at none)
  refusal-settles cache before now fault.Small cut opens at none = refused-settles before now opens (at none)
  refusal-settles cache before now fault.Device cut opens at none = absurd (false≢true (sym none))
  refusal-settles cache before now fault.OutOfMemory cut opens at none = refused-settles before now opens (at none)
  refusal-settles cache before now (fault.BadCell cell) cut opens at none = refused-settles before now opens.1 (at none)

  -- an opening
  open-settles : (cache : ℕ) (old : Place D d) (answer : Reply) (new : Place D d) (cut : Bool) → OpenCause d cache old answer new → IsSettledAt d old cut → IsSettledAt d new (cut_by answer cut)
  open-settles cache (place.Open store) answer new cut (answered, is) at = settled-is (place.Open store) new (cut_by answer cut) is tt
  open-settles cache (place.Closing closing) answer new cut (answered, is) at = settled-is (place.Closing closing) new (cut_by answer cut) is tt
  open-settles cache (place.Closed before) answer new cut (Ok store, (opens, (answered, is))) at = settled-is (place.Open store) new (cut_by answer cut) is tt
  open-settles cache (place.Closed before) answer new cut (Err (now, why), (opens, (answered, is))) at =
      settled-is (place.Closed now) new (cut_by answer cut) is (subst (λ (a : Reply). cut_by a cut ≡ false → IsSettled d now) (sym answered) (refusal-settles cache before now why cut opens at))

-- a turn, and those of a line
module _ {D K A E : Type 0} (t : table.Ghosts (Stored D) Cursor) (d : device.Ghosts D) (k : sink.Ghosts K) (cache : ℕ) (result : Result A E) (old : Place D d) (sink : K) (new : Place D d) (sink' : K) (cut : Bool) (at : IsSettledAt d old cut) where
  ask-settles : (command : Command) (turn : Turn) (old : Place D d) → AskCause t d k command result old sink turn new sink' → IsSettledAt d old cut → IsSettledAt d new cut
  ask-settles command turn (place.Open store) (after, (given, is)) at = settled-is d (place.Open after) new cut is tt
  ask-settles command turn (place.Closing closing) (answered, is) at = settled-is d (place.Closing closing) new cut is tt
  ask-settles command turn (place.Closed now) (answered, is) at = settled-is d (place.Closed now) new cut is at

  turn-settles : (request : Option Command) (turn : Turn) → Cause t d k cache request result old sink turn new sink' → IsSettledAt d new (cut_by_request request turn.answer cut)
  turn-settles None turn (answered, same) = settled-is d old new cut same at
  turn-settles (Some command) turn cause =
      whether (IsSettledAt d new) cut (cut_by turn.answer cut) cut command (λ closes. close-settles d old turn.answer new cut closes at) (λ opens. open-settles d cache old turn.answer new cut opens at) (λ asks. ask-settles command turn old asks at) cause

  pub line-settles : (turns : List Turn) → CausedBy t d k cache result old sink turns new sink' → IsSettledAt d new (cut_after turns cut)
  line-settles [] same = settled-is d old new cut same at
  line-settles (turn ∷ []) cause = turn-settles turn.request turn cause
  line-settles (turn ∷ next ∷ turns) cause = absurd cause
