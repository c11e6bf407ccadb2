-- Whatever happens behind the begin of a checkpoint, a recovery makes the last one or it.
use Rattle.std.proofs.Common.{◌≡◌, inl, inr, ⊎_elim, ◌∙◌, ℕ, List, [], ◌∷◌, ◌++◌, Option, Some, None, refl, sym, ap, subst}
use Rattle.std.specs.Prelude.{if◌then◌else◌}
use Rattle.cola_journal.specs.Disk.{Contents, Same, with_pages}
use Rattle.cola_journal.specs.Runs.{World, Event, Carried, Refused, Fallen, Died, Begins, Resumes, CanHappen, happens, IsRun, behind, begin_with, IsComing, Stands, IsSafe}
use Rattle.cola_journal_bytes.specs.Applied.{pages_read}
use Rattle.cola_replay.proofs.Mapping.{still_comes}
use Rattle.cola_c.specs.Checkpoints.{contents, NoneBegins, world_behind, saved_behind, saved_pages, saved_journal, IsSaved, Recovers, IsOneOf, PagesAreTheStore, JournalsAreRead}

-- Runs, one behind the other

run_on : (w : World) (past events : List Event) → IsRun pages_read w past → IsRun pages_read (behind pages_read w past) events → IsRun pages_read w (past ++ events)
run_on w [] events run more = more
run_on w (event ∷ past) events run more = (run.0, run_on (happens pages_read w event) past events run.1 more)

behind_on : (w : World) (past events : List Event) → behind pages_read w (past ++ events) ≡ behind pages_read (behind pages_read w past) events
behind_on w [] events = refl
behind_on w (event ∷ past) events = behind_on (happens pages_read w event) past events

module _ (safe : (file : Contents) (events : List Event) → IsRun pages_read (begin_with file) events → IsSafe pages_read (behind pages_read (begin_with file) events))
    (turns : (file : Contents) (events : List Event) (event : Event) → IsRun pages_read (begin_with file) events → CanHappen pages_read (behind pages_read (begin_with file) events) event →
    Stands (behind pages_read (begin_with file) events) (happens pages_read (behind pages_read (begin_with file) events) event).held)
    (start : Contents) where
  -- a run came here
  record Reached (w : World) : Type 0 where
    past : List Event
    run : IsRun pages_read (begin_with start) past
    is : behind pages_read (begin_with start) past ≡ w

  reached_with : (w : World) → Reached w → (event : Event) → CanHappen pages_read w event → Reached (happens pages_read w event)
  reached_with w r event can = record {
    past = r.past ++ event ∷ [];
    run = run_on (begin_with start) r.past (event ∷ []) r.run (subst (λ (v : World). CanHappen pages_read v event) (sym r.is) can, tt);
    is = behind_on (begin_with start) r.past (event ∷ []) ∙ ap (λ (v : World). happens pages_read v event) r.is;
  }

  turn_at : (w : World) → Reached w → (event : Event) → CanHappen pages_read w event → Stands w (happens pages_read w event).held
  turn_at w r event can =
      subst (λ (v : World). Stands v (happens pages_read v event).held) r.is (turns start r.past event r.run (subst (λ (v : World). CanHappen pages_read v event) (sym r.is) can))

  safe_at : (w : World) → Reached w → IsSafe pages_read w
  safe_at w r = subst (λ (v : World). IsSafe pages_read v) r.is (safe start r.past r.run)

  -- what may hold, and what comes, where anything does
  record Among (Has : Contents → Type 0) (now : Contents) (w : World) : Type 0 where
    holds : Has w.held
    comes : (c : Contents) → w.coming ≡ Some c → Same c now

  stands : (Has : Contents → Type 0) (now : Contents) → ((file other : Contents) → Same file other → Has other → Has file) → Has now → (w : World) → Among Has now w → (file : Contents) → Stands w file → Has file
  stands Has now respects is_now w a file (inl same) = respects file w.held same a.holds
  stands Has now respects is_now w a file (inr comes) = by_coming w.coming a.comes comes
    where
      by_coming : (coming : Option Contents) → ((c : Contents) → coming ≡ Some c → Same c now) → IsComing coming file → Has file
      by_coming None is none = absurd none
      by_coming (Some c) is same = respects file now (λ place. same place ∙ is c refl place) is_now

  -- nothing else comes
  comes_by : (w : World) (event : Event) (events : List Event) → NoneBegins (event ∷ events) → (c : Contents) → (happens pages_read w event).coming ≡ Some c → w.coming ≡ Some c
  comes_by w Carried events none c is = still_comes w.stage w.coming c is
  comes_by w (Refused file) events none c is = is
  comes_by w (Fallen file bytes) events none c is = is
  comes_by w (Died file bytes) events none c is = is
  comes_by w (Begins pages bytes) events none c is = absurd none
  comes_by w Resumes events none c is = is

  none_further : (event : Event) (events : List Event) → NoneBegins (event ∷ events) → NoneBegins events
  none_further Carried events none = none
  none_further (Refused file) events none = none
  none_further (Fallen file bytes) events none = none
  none_further (Died file bytes) events none = none
  none_further (Begins pages bytes) events none = absurd none
  none_further Resumes events none = none

  through : (Has : Contents → Type 0) (now : Contents) → ((file other : Contents) → Same file other → Has other → Has file) → Has now → (w : World) → Reached w → Among Has now w →
      (events : List Event) → NoneBegins events → IsRun pages_read w events → Recovers (behind pages_read w events) Has
  through Has now respects is_now w r a [] none run = λ file bytes left_file left_journal. stands Has now respects is_now w a _ (safe_at w r file bytes left_file left_journal)
  through Has now respects is_now w r a (event ∷ events) none run =
      through Has now respects is_now (happens pages_read w event) (reached_with w r event run.0)
      (record {
        holds = stands Has now respects is_now w a (happens pages_read w event).held (turn_at w r event run.0);
        comes = λ c is. a.comes c (comes_by w event events none c is);
      })
      events (none_further event events none) run.1

  module _ (pages_are : PagesAreTheStore) (marks before now : List ℕ) (past events : List Event) where
    -- the checkpoint begins
    abbrev begun : World
    begun = happens pages_read (world_behind start past) (Begins (saved_pages marks now) (saved_journal marks now))

    -- what it makes of what holds
    made : (it : IsSaved marks before now start past events) → Same (with_pages (saved_pages marks now) (world_behind start past).held) (contents now)
    made it place =
        ap (λ (byte : ℕ). if (saved_pages marks now).has place then (saved_pages marks now).byte place else byte) (it.held place) ∙ pages_are marks before now it.store place

    comes_now : (it : IsSaved marks before now start past events) → (c : Contents) → begun.coming ≡ Some c → Same c (contents now)
    comes_now it c is = let same : with_pages (saved_pages marks now) (world_behind start past).held ≡ c = cc is in subst (λ (file : Contents). Same file (contents now)) same (made it)

    reached_now : JournalsAreRead → IsSaved marks before now start past events → Reached begun
    reached_now are_read it =
        reached_with (world_behind start past) (record { past = past; run = it.came; is = refl }) (Begins (saved_pages marks now) (saved_journal marks now))
        (it.rest, are_read marks before now it.store)

    pub kept : JournalsAreRead → IsSaved marks before now start past events → Recovers (saved_behind marks now start past events) (IsOneOf before now)
    kept are_read it =
        through (IsOneOf before now) (contents now)
        (λ file other same. ⊎_elim (λ first. inl (λ place. same place ∙ first place)) (λ second. inr (λ place. same place ∙ second place)))
        (inr (λ place. refl)) begun (reached_now are_read it) (record { holds = inl it.held; comes = comes_now it }) events it.alone it.goes_on

  -- the journal was written, and synced: then the store holds
  pub saved : PagesAreTheStore → JournalsAreRead → (marks before now : List ℕ) (past events : List Event) → IsSaved marks before now start past (Carried ∷ Carried ∷ events) →
      Recovers (saved_behind marks now start past (Carried ∷ Carried ∷ events)) (λ file. Same file (contents now))
  saved pages_are are_read marks before now past events it =
      let first : World = begun pages_are marks before now past (Carried ∷ Carried ∷ events) in
      let second : World = happens pages_read first Carried in
      let third : World = happens pages_read second Carried in
      let at_first : Reached first = reached_now pages_are marks before now past (Carried ∷ Carried ∷ events) are_read it in
      let at_second : Reached second = reached_with first at_first Carried it.goes_on.0 in
      let at_third : Reached third = reached_with second at_second Carried it.goes_on.1.0 in
      through (λ file. Same file (contents now)) (contents now) (λ file other same is place. same place ∙ is place) (λ place. refl) third at_third
      (record { holds = made pages_are marks before now past (Carried ∷ Carried ∷ events) it; comes = λ c is. let none : None ≡ Some c = is in absurd (cc none) }) events it.alone it.goes_on.1.1
