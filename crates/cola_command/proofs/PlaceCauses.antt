-- The cause of a turn of a session over a file, by the places of its store.
use Rattle.std.proofs.Common.{◌≡◌, ◌⊎◌, inl, inr, ℕ, List, [], ◌∷◌, Option, Some, None, Result, refl, ap, ◌∙◌}
use Rattle.cola_device.specs.declared.device.Device as device
use Rattle.cola_io.specs.declared.sink.Sink as sink
use Rattle.cola_spec.specs.Command.{Command, Put, PutIf, Del, Get, Stamp, Range, Scan, Count, Close, Reopen}
use Rattle.cola_spec.specs.Reply as reply
use Rattle.cola_spec.specs.Machine.{Turn, by_command}
use Rattle.cola_table.specs.declared.table.Table as table
use Rattle.cola_cursor.specs.declared.cursor.Cursor.{Cursor}
use Rattle.cola_line.specs.Given.{Given}
use Rattle.cola_store.specs.Store.{Stored}
use Rattle.cola_command.specs.declared.file.Session.{Session}
use Rattle.cola_command.specs.declared.place.Place.{Place}
use Rattle.cola_command.specs.declared.place.Place.TheVariants.{Open, Closing, Closed}
use Rattle.cola_command.specs.File.{table_in}
use Rattle.cola_session.specs.Home as home
use Rattle.cola_command.specs.Turns.{CloseCause, OpenCause, file_home}

-- what a command does, by whether it closes, opens or asks
pub which : {A B C : Type 0} (command : Command) → by_command command A B C → ((command ≡ Close) × A) ⊎ (((command ≡ Reopen) × B) ⊎ C)
which (Put key value) c = inr (inr c)
which (PutIf key seen value) c = inr (inr c)
which (Del key) c = inr (inr c)
which (Get key) c = inr (inr c)
which (Stamp key) c = inr (inr c)
which (Range low high) c = inr (inr c)
which (Scan low most) c = inr (inr c)
which Count c = inr (inr c)
which Close a = inl (refl, a)
which Reopen b = inr (inl (refl, b))

-- the same, of what is chosen by it
pub whether {ℓ} : {A B C : Type 0} {X : Type ℓ} (P : X → Type 0) (x y z : X) (command : Command) → (A → P x) → (B → P y) → (C → P z) → by_command command A B C → P (by_command command x y z)
whether P x y z (Put key value) f g h c = h c
whether P x y z (PutIf key seen value) f g h c = h c
whether P x y z (Del key) f g h c = h c
whether P x y z (Get key) f g h c = h c
whether P x y z (Stamp key) f g h c = h c
whether P x y z (Range low high) f g h c = h c
whether P x y z (Scan low most) f g h c = h c
whether P x y z Count f g h c = h c
whether P x y z Close f g h a = f a
whether P x y z Reopen f g h b = g b

module _ {D K A E : Type 0} (t : table.Ghosts (Stored D) Cursor) (d : device.Ghosts D) (k : sink.Ghosts K) where
  -- all other commands are answered by the store while it is open
  abbrev pub AskCause : Command → Result A E → Place D d → K → Turn → Place D d → K → Type 0
  AskCause command result (Open store) sink turn new sink' = (after : Stored D) × (Given t k command result store sink turn after sink' × (new ≡ Open after))
  AskCause command result (Closing closing) sink turn new sink' = (turn.answer ≡ reply.Shut) × (new ≡ Closing closing)
  AskCause command result (Closed now) sink turn new sink' = (turn.answer ≡ reply.Shut) × (new ≡ Closed now)

  abbrev pub Cause : ℕ → Option Command → Result A E → Place D d → K → Turn → Place D d → K → Type 0
  Cause cache None result old sink turn new sink' = (turn.answer ≡ reply.Bad) × (new ≡ old)
  Cause cache (Some command) result old sink turn new sink' =
      by_command command (CloseCause d old turn.answer new) (OpenCause d cache old turn.answer new) (AskCause command result old sink turn new sink')

  abbrev pub CausedBy : ℕ → Result A E → Place D d → K → List Turn → Place D d → K → Type 0
  CausedBy cache result old sink [] new sink' = new ≡ old
  CausedBy cache result old sink (turn ∷ []) new sink' = Cause cache turn.request result old sink turn new sink'
  CausedBy cache result old sink (turn ∷ next ∷ turns) new sink' = ⊥

  -- those of a session's lines are these
  ask-place : (command : Command) (result : Result A E) (place : Place D d) (old : Session D d) (sink : K) (turn : Turn) (new : Session D d) (sink' : K) → old.place ≡ place → home.Asked t (file_home d) k (table_in place) command result old sink turn new sink'
      → AskCause command result place sink turn new.place sink'
  ask-place command result (Open store) old sink turn new sink' is cause = cause
  ask-place command result (Closing closing) old sink turn new sink' is (answered, same) = (answered, ap (λ (s : Session D d). s.place) same ∙ is)
  ask-place command result (Closed now) old sink turn new sink' is (answered, same) = (answered, ap (λ (s : Session D d). s.place) same ∙ is)

  module _ (result : Result A E) (old : Session D d) (sink : K) (turn : Turn) (new : Session D d) (sink' : K) where
    pub cause-place : (request : Option Command) → home.Cause t (file_home d) k request result old sink turn new sink' → Cause old.cache request result old.place sink turn new.place sink'
    cause-place None (answered, same) = (answered, ap (λ (s : Session D d). s.place) same)
    cause-place (Some command) cause = whether (λ (C : Type 0). C) (CloseCause d old.place turn.answer new.place) (OpenCause d old.cache old.place turn.answer new.place) (AskCause command result old.place sink turn new.place sink') command (λ closes. closes) (λ opens. opens)
        (ask-place command result old.place old sink turn new sink' refl) cause

  pub caused-place : (result : Result A E) (old : Session D d) (sink : K) (turns : List Turn) (new : Session D d) (sink' : K) → home.CausedBy t (file_home d) k result old sink turns new sink' → CausedBy old.cache result old.place sink turns new.place sink'
  caused-place result old sink [] new sink' same = ap (λ (s : Session D d). s.place) same
  caused-place result old sink (turn ∷ []) new sink' cause = cause-place result old sink turn new sink' turn.request cause
  caused-place result old sink (turn ∷ next ∷ turns) new sink' cause = absurd cause
