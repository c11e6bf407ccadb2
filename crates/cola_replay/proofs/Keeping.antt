-- What is on the disk stays found, through every run.
use Rattle.std.proofs.Common.{◌≡◌, ◌≢◌, ◌⊎◌, inl, inr, ℕ, Bool, true, false, List, [], ◌∷◌, ◌++◌, Option, Some, None, refl, sym, ◌∙◌, ap, subst}
use Rattle.std.specs.Prelude.{if◌then◌else◌, ◌&&◌, not}
use Rattle.cola_journal.specs.declared.stage.Stage.{Stage}
use Rattle.cola_journal.specs.declared.stage.Stage.TheVariants.{Rest, Journal, JournalSync, Found, Mark, MarkSync, Body, BodySync, Header, HeaderSync, Empty, EmptySync, Stuck, Littered}
use Rattle.cola_journal.specs.Disk.{Contents, Same, Pages}
use Rattle.cola_journal.specs.Runs as runs
use Rattle.cola_journal.specs.Runs.{World, IsComing, Stands, IsSafe, IsSettled, under_way, recovered, held_after, coming_after}
use Rattle.cola_log.specs.Format.{Logged, AllFit, first_sum, read_log}
use Rattle.cola_replay.specs.Crash.{first_page, sum_of, IsFront, LogDisk, last_calls, seen, WasToHave, LeavesLog, Logs, follows, EventCanHappen, event_happens, FindsHeld, FindsNext}
use Rattle.cola_replay.proofs.Leaving.{sum_same, followed, other_sum, front_nil, front_behind, were_to_have, front_found, read_same, passed_over}

-- Choices

pub chosen : (b : Bool) (x y : List Logged) → b ≡ true → (if b then x else y) ≡ x
chosen true x y is = refl
chosen false x y is = absurd (cc is)

pub left_out : (b : Bool) (x y : List Logged) → b ≡ false → (if b then x else y) ≡ y
left_out true x y is = absurd (cc is)
left_out false x y is = refl

pub both_ways_front : (b : Bool) (xs ys : List Logged) → IsFront xs ys → IsFront (if b then xs else []) (if b then ys else [])
both_ways_front true xs ys front = front
both_ways_front false xs ys front = front_nil []

pub not_both : (b c : Bool) (x y : List Logged) → b ≡ c → (if b && not c then x else y) ≡ y
not_both true true x y is = refl
not_both true false x y is = absurd (cc is)
not_both false c x y is = refl

pub turned : (b c : Bool) (x y : List Logged) → b ≡ true → c ≡ false → (if b && not c then x else y) ≡ x
turned true false x y is other = refl
turned true true x y is other = absurd (cc other)
turned false c x y is other = absurd (cc is)

pub not_none : {X : Type 0} (it : Option X) (x : X) → it ≡ None → it ≡ Some x → ⊥
not_none it x none some = cc

-- Steps of a checkpoint

-- a step leaves the checkpoint that holds, or none is under way behind it
pub record Stays (stage : Stage) (pages : Pages) (held : Contents) (coming : Option Contents) : Type 0 where
  pub held_is : held_after stage pages held ≡ held
  pub coming_was : (c : Contents) → coming_after stage coming ≡ Some c → coming ≡ Some c

pub same_coming : (stage : Stage) (pages : Pages) (held : Contents) (coming : Option Contents) → Stays stage pages held coming ⊎ (coming_after stage coming ≡ None)
same_coming Rest pages held coming = inl (record { held_is = refl; coming_was = λ c is. is })
same_coming Journal pages held coming = inl (record { held_is = refl; coming_was = λ c is. is })
same_coming JournalSync pages held coming = inr refl
same_coming Found pages held coming = inr refl
same_coming Mark pages held coming = inl (record { held_is = refl; coming_was = λ c is. is })
same_coming MarkSync pages held coming = inl (record { held_is = refl; coming_was = λ c is. is })
same_coming Body pages held coming = inl (record { held_is = refl; coming_was = λ c is. is })
same_coming BodySync pages held coming = inl (record { held_is = refl; coming_was = λ c is. is })
same_coming Header pages held coming = inl (record { held_is = refl; coming_was = λ c is. is })
same_coming HeaderSync pages held coming = inl (record { held_is = refl; coming_was = λ c is. is })
same_coming Empty pages held coming = inl (record { held_is = refl; coming_was = λ c is. is })
same_coming EmptySync pages held coming = inr refl
same_coming Stuck pages held coming = inl (record { held_is = refl; coming_was = λ c is. is })
same_coming Littered pages held coming = inl (record { held_is = refl; coming_was = λ c is. is })

pub coming_some : (coming : Option Contents) (file : Contents) → IsComing coming file → (c : Contents) × (coming ≡ Some c) × Same file c
coming_some None file is = absurd is
coming_some (Some c) file is = (c, refl, is)

abbrev pub AllFitIn : List (List Logged) → Type 0
AllFitIn [] = Unit {0}
AllFitIn (calls ∷ written) = AllFit calls × AllFitIn written

pub seen_fits : (calls : List Logged) (written : List (List Logged)) → AllFit calls → AllFitIn written → AllFit (last_calls calls written)
seen_fits calls [] fit all = fit
seen_fits calls (others ∷ written) fit all = all.0

module _ (reads : List ℕ → Option Pages) (start : Contents) where
  abbrev pub AreSafe : Type 0
  AreSafe = (events : List runs.Event) → runs.IsRun reads (runs.begin_with start) events → IsSafe reads (runs.behind reads (runs.begin_with start) events)

  abbrev pub AreSettled : Type 0
  AreSettled = (events : List runs.Event) → runs.IsRun reads (runs.begin_with start) events → (runs.behind reads (runs.begin_with start) events).stage ≡ Rest →
      IsSettled reads (runs.behind reads (runs.begin_with start) events)

  abbrev pub AreTurns : Type 0
  AreTurns = (events : List runs.Event) (event : runs.Event) → runs.IsRun reads (runs.begin_with start) events → runs.CanHappen reads (runs.behind reads (runs.begin_with start) events) event →
      Stands (runs.behind reads (runs.begin_with start) events) (runs.happens reads (runs.behind reads (runs.begin_with start) events) event).held

  run_more : (w : World) (events : List runs.Event) (event : runs.Event) → runs.IsRun reads w events → runs.CanHappen reads (runs.behind reads w events) event → runs.IsRun reads w (events ++ event ∷ [])
  run_more w [] event run can = (can, tt)
  run_more w (first ∷ events) event run can = (run.0, run_more (runs.happens reads w first) events event run.1 can)

  behind_more : (w : World) (events : List runs.Event) (event : runs.Event) → runs.behind reads w (events ++ event ∷ []) ≡ runs.happens reads (runs.behind reads w events) event
  behind_more w [] event = refl
  behind_more w (first ∷ events) event = behind_more (runs.happens reads w first) events event

  -- a run of the checkpoint came here
  pub record Reached (w : World) : Type 0 where
    pub events : List runs.Event
    pub run : runs.IsRun reads (runs.begin_with start) events
    pub is : runs.behind reads (runs.begin_with start) events ≡ w

  reached_more : (w : World) → Reached w → (event : runs.Event) → runs.CanHappen reads w event → Reached (runs.happens reads w event)
  reached_more w r event can = record {
    events = r.events ++ event ∷ [];
    run = run_more (runs.begin_with start) r.events event r.run (subst (λ (v : World). runs.CanHappen reads v event) (sym r.is) can);
    is = behind_more (runs.begin_with start) r.events event ∙ ap (λ (v : World). runs.happens reads v event) r.is;
  }

  pub reached_with : (w : World) → Reached w → (event : Option runs.Event) → EventCanHappen reads w event → Reached (event_happens reads w event)
  reached_with w r None can = r
  reached_with w r (Some event) can = reached_more w r event can

  -- the checkpoint under way
  pub record IsNext (log : LogDisk) (base next : List Logged) (held c : Contents) : Type 0 where
    pub begun : log.begun ≡ true
    pub follows_it : follows log held ≡ true
    pub synced : IsFront (base ++ log.calls) next
    pub other : first_sum log.page ≢ sum_of c

  -- what holds through a run, of the log beside a checkpoint that holds and one that comes
  pub record Holds (log : LogDisk) (base next : List Logged) (held : Contents) (coming : Option Contents) : Type 0 where
    pub fit : AllFit log.calls
    pub written_fit : AllFitIn log.written
    pub longer : IsFront log.calls (seen log)
    pub empty : log.begun ≡ false → log.calls ≡ []
    pub passed : follows log held ≡ false → log.begun ≡ true
    pub coming_is : (c : Contents) → coming ≡ Some c → IsNext log base next held c

  pub record Inv (w : Logs) : Type 0 where
    pub reached : Reached w.world
    pub holds : Holds w.log w.base w.next w.world.held w.world.coming

  -- Crashes

  module _ (log : LogDisk) (base next : List Logged) (held : Contents) (coming : Option Contents) (h : Holds log base next held coming) (bytes : List ℕ) where
    -- what is read of the log begins with what was synced
    pub synced_read : LeavesLog log bytes → (b : Bool) → log.begun ≡ b → IsFront log.calls (read_log log.page bytes)
    synced_read left true begun = let f = left.front begun in front_found log.page log.calls bytes f.0 h.fit f.1
    synced_read left false begun = subst (λ (l : List Logged). IsFront l (read_log log.page bytes)) (sym (h.empty begun)) (front_nil (read_log log.page bytes))

    -- a log that follows another checkpoint is passed over
    none_read : LeavesLog log bytes → log.begun ≡ true → (file : Contents) → first_sum log.page ≢ sum_of file → read_log (first_page file) bytes ≡ []
    none_read left begun file other = let f = left.front begun in passed_over log.page (first_page file) log.calls bytes f.0 f.1 other

  pub held_found : (w : Logs) → Inv w → (file : Contents) (bytes : List ℕ) → Same file w.world.held → LeavesLog w.log bytes → (b : Bool) → follows w.log w.world.held ≡ b → FindsHeld w file (read_log (first_page file) bytes)
  held_found w inv file bytes same left true is =
      let h = inv.holds in
      let log = w.log in
      let read : read_log (first_page file) bytes ≡ read_log log.page bytes =
      read_same (first_page file) log.page bytes (sum_same file w.world.held same ∙ sym (followed log w.world.held is)) in
      let front : IsFront log.calls (read_log log.page bytes) = synced_read log w.base w.next w.world.held w.world.coming h bytes left log.begun refl in
      record {
        file_is = same;
        synced = front_behind w.base (if follows log w.world.held then log.calls else []) (read_log (first_page file) bytes)
            (subst (λ (l : List Logged). IsFront l (read_log (first_page file) bytes)) (sym (chosen (follows log w.world.held) log.calls [] is))
            (subst (λ (l : List Logged). IsFront log.calls l) (sym read) front));
        were = λ yes. subst (λ (l : List Logged). WasToHave log l) (sym read) (were_to_have log bytes left.are left.unforged).0;
        none = λ no. absurd (cc (is, no));
      }
  held_found w inv file bytes same left false is =
      let h = inv.holds in
      let log = w.log in
      let none : read_log (first_page file) bytes ≡ [] = none_read log w.base w.next w.world.held w.world.coming h bytes left (h.passed is) file
      (λ e. other_sum log w.world.held is (e ∙ sum_same file w.world.held same)) in
      record {
        file_is = same;
        synced = front_behind w.base (if follows log w.world.held then log.calls else []) (read_log (first_page file) bytes)
            (subst (λ (l : List Logged). IsFront l (read_log (first_page file) bytes)) (sym (left_out (follows log w.world.held) log.calls [] is)) (front_nil (read_log (first_page file) bytes)));
        were = λ yes. absurd (cc (is, yes));
        none = λ no. none;
      }

  pub next_found : (w : Logs) → Inv w → (file : Contents) (bytes : List ℕ) → IsComing w.world.coming file → LeavesLog w.log bytes → FindsNext w file (read_log (first_page file) bytes)
  next_found w inv file bytes comes left =
      let h = inv.holds in
      let c = coming_some w.world.coming file comes in
      let n = h.coming_is c.0 c.1 in
      record {
        file_is = comes;
        synced = subst (λ (l : List Logged). IsFront (w.base ++ l) w.next) (sym (chosen (follows w.log w.world.held) w.log.calls [] n.follows_it)) n.synced;
        none = none_read w.log w.base w.next w.world.held w.world.coming h bytes left n.begun file (λ e. n.other (e ∙ sum_same file c.0 c.2));
      }

  -- Happenings

  -- the checkpoint that holds stays, and so does what comes
  pub stays : (w : Logs) → Inv w → (held : Contents) → follows w.log held ≡ follows w.log w.world.held → (coming : Option Contents) → ((c : Contents) → coming ≡ Some c → w.world.coming ≡ Some c) →
      Holds w.log w.base w.next held coming
  stays w inv held same coming was =
      let h = inv.holds in
      record {
        fit = h.fit;
        written_fit = h.written_fit;
        longer = h.longer;
        empty = h.empty;
        passed = λ no. h.passed (sym same ∙ no);
        coming_is = λ c is. let n = h.coming_is c (was c is) in record { begun = n.begun; follows_it = same ∙ n.follows_it; synced = n.synced; other = n.other };
      }
