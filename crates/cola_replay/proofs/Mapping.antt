-- The file that holds stands for the map behind the calls that its checkpoint has, through every run.
use Rattle.std.proofs.Common.{◌≡◌, ◌⊎◌, inl, inr, ◌∙◌, ℕ, false, List, [], ◌∷◌, ◌++◌, append-nil, Option, Some, refl, sym, ap, subst}
use Rattle.std.specs.Prelude.{if◌then◌else◌, ◌&&◌, not}
use Rattle.cola_spec.specs.Map.{Shape, Map}
use Rattle.cola_journal.specs.declared.stage.Stage.{Stage}
use Rattle.cola_journal.specs.declared.stage.Stage.TheVariants.{Rest, Journal, JournalSync, Found, Mark, MarkSync, Body, BodySync, Header, HeaderSync, Empty, EmptySync, Stuck, Littered}
use Rattle.cola_journal.specs.Disk.{Contents, Same, Pages, with_pages}
use Rattle.cola_journal.specs.Runs as runs
use Rattle.cola_journal.specs.Runs.{World, IsComing, under_way, recovered, coming_after}
use Rattle.cola_image.specs.Standing.{FileStandsFor}
use Rattle.cola_log.specs.Format.{Logged, read_log}
use Rattle.cola_replay.specs.Crash.{first_page, IsFront, Logs, follows, durable, history, Happening, Turns, Begins, Fallen, Died, NewLog, Appends, Breaks, Syncs, CanHappen, base_after, happens, IsRun, behind, begin_with, Finds, IsKept, IsAnswered}
use Rattle.cola_replay.specs.Made.{after, after_all}
use Rattle.cola_replay.specs.Maps.{Stands, Saves, AllSave, LeadsTo, AreMapsKept, AreMapsAnswered}
use Rattle.cola_replay.proofs.Leaving.{bytes_same, sum_same, follows_same, not_followed}
use Rattle.cola_replay.proofs.Keeping.{not_both, turned, coming_some, AreSafe, AreSettled, AreTurns, Inv}
use Rattle.cola_replay.proofs.Running.{turn_at, first, step}

-- calls behind others
after_both : (shape : Shape) (m : Map) (calls more : List Logged) → after_all shape m (calls ++ more) ≡ after_all shape (after_all shape m calls) more
after_both shape m [] more = refl
after_both shape m (it ∷ calls) more = after_both shape (after shape m it) calls more

pub still_comes : (stage : Stage) (coming : Option Contents) (c : Contents) → coming_after stage coming ≡ Some c → coming ≡ Some c
still_comes Rest coming c is = is
still_comes Journal coming c is = is
still_comes JournalSync coming c is = absurd (cc is)
still_comes Found coming c is = absurd (cc is)
still_comes Mark coming c is = is
still_comes MarkSync coming c is = is
still_comes Body coming c is = is
still_comes BodySync coming c is = is
still_comes Header coming c is = is
still_comes HeaderSync coming c is = is
still_comes Empty coming c is = is
still_comes EmptySync coming c is = absurd (cc is)
still_comes Stuck coming c is = is
still_comes Littered coming c is = is

module _ (reads : List ℕ → Option Pages) (start : Contents) (safe : AreSafe reads start) (settled : AreSettled reads start) (turns : AreTurns reads start)
    (size : ℕ) (shape : Shape) (m : Map) where
  -- equal files stand for the same maps
  same_stand : (file other : Contents) (n : Map) → Same file other → Stands size other n → Stands size file n
  same_stand file other n same stands = subst (λ (bytes : List ℕ). FileStandsFor bytes n) (sym (bytes_same size 0 file other same)) stands

  -- the checkpoint that holds stands for the map behind its calls, and so does the one under way
  record Stood (base next : List Logged) (held : Contents) (coming : Option Contents) : Type 0 where
    holds : Stands size held (after_all shape m base)
    comes : (c : Contents) → coming ≡ Some c → Stands size c (after_all shape m next)

  abbrev StoodIn : Logs → Type 0
  StoodIn w = Stood w.base w.next w.world.held w.world.coming

  -- what holds stays, and so do its calls
  held_stays : (w : Logs) (next : List Logged) (coming : Option Contents) → Stood w.base next w.world.held coming →
      Stood (if follows w.log w.world.held && not (follows w.log w.world.held) then w.next else w.base) next w.world.held coming
  held_stays w next coming s =
      subst (λ (base : List Logged). Stood base next w.world.held coming) (sym (not_both (follows w.log w.world.held) (follows w.log w.world.held) w.next w.base refl)) s

  module _ (w : Logs) (inv : Inv reads start w) (s : StoodIn w) where
    abbrev stepped : World
    stepped = runs.happens reads w.world runs.Carried

    turned_holds : Same stepped.held w.world.held ⊎ IsComing w.world.coming stepped.held → Stands size stepped.held (after_all shape m (base_after reads w stepped))
    turned_holds (inl same) =
        let f = follows_same w.log stepped.held w.world.held same in
        subst (λ (base : List Logged). Stands size stepped.held (after_all shape m base)) (sym (not_both (follows w.log w.world.held) (follows w.log stepped.held) w.next w.base (sym f)))
        (same_stand stepped.held w.world.held (after_all shape m w.base) same s.holds)
    turned_holds (inr comes) =
        let c = coming_some w.world.coming stepped.held comes in
        let n = inv.holds.coming_is c.0 c.1 in
        let no : follows w.log stepped.held ≡ false = not_followed w.log stepped.held (λ e. n.other (e ∙ sum_same stepped.held c.0 c.2)) in
        subst (λ (base : List Logged). Stands size stepped.held (after_all shape m base)) (sym (turned (follows w.log w.world.held) (follows w.log stepped.held) w.next w.base n.follows_it no))
        (same_stand stepped.held c.0 (after_all shape m w.next) c.2 (s.comes c.0 c.1))

  step_stood : (w : Logs) → Inv reads start w → StoodIn w → (it : Happening) → CanHappen reads w it → Saves reads size shape m w it → StoodIn (happens reads w it)
  step_stood w inv s (Turns runs.Carried) can saves = record {
    holds = turned_holds w inv s (turn_at reads start safe settled turns w.world inv.reached runs.Carried tt);
    comes = λ c is. s.comes c (still_comes w.world.stage w.world.coming c is);
  }
  step_stood w inv s (Turns (runs.Refused file)) can saves = held_stays w w.next w.world.coming s
  step_stood w inv s (Turns (runs.Fallen file bytes)) can saves = absurd can.1
  step_stood w inv s (Turns (runs.Died file bytes)) can saves = absurd can.1
  step_stood w inv s (Turns (runs.Begins pages bytes)) can saves = absurd can.1
  step_stood w inv s (Turns runs.Resumes) can saves = held_stays w w.next w.world.coming s
  step_stood w inv s (Begins pages journal) can saves =
      held_stays w (history w) (Some (with_pages pages w.world.held))
      (record { holds = s.holds; comes = λ c is. let same : with_pages pages w.world.held ≡ c = cc is in subst (λ (file : Contents). Stands size file (after_all shape m (history w))) same saves })
  step_stood w inv s (Fallen file journal bytes) can saves = held_stays w w.next w.world.coming s
  step_stood w inv s (Died file journal bytes) can saves = held_stays w w.next w.world.coming s
  step_stood w inv s NewLog can saves = held_stays w w.next w.world.coming s
  step_stood w inv s (Appends calls) can saves = held_stays w w.next w.world.coming s
  step_stood w inv s (Breaks calls) can saves = held_stays w w.next w.world.coming s
  step_stood w inv s Syncs can saves = held_stays w w.next w.world.coming s

  run_stood : (w : Logs) → Inv reads start w → StoodIn w → (its : List Happening) → IsRun reads w its → AllSave reads size shape m w its → StoodIn (behind reads w its)
  run_stood w inv s [] run saves = s
  run_stood w inv s (it ∷ its) run saves =
      run_stood (happens reads w it) (step reads start safe settled turns w inv it run.0) (step_stood w inv s it run.0 saves.0) its run.1 saves.1

  begin_stood : Stands size start m → StoodIn (begin_with start)
  begin_stood stands = record { holds = stands; comes = λ c is. absurd (cc is) }

  at_end : Stands size start m → (its : List Happening) → IsRun reads (begin_with start) its → AllSave reads size shape m (begin_with start) its → StoodIn (behind reads (begin_with start) its)
  at_end stands its run saves = run_stood (begin_with start) (first reads start safe settled turns) (begin_stood stands) its run saves

  leads : (w : Logs) (least base : List Logged) (file : Contents) (calls : List Logged) → Stands size file (after_all shape m base) → IsFront least (base ++ calls) →
      (base ++ calls ≡ w.base ++ calls) ⊎ (base ++ calls ≡ w.next) → LeadsTo reads size shape m w least file calls
  leads w least base file calls stands front were = record {
    from = after_all shape m base;
    stands = stands;
    all = base ++ calls;
    map = sym (after_both shape m base calls);
    were = were;
    enough = front;
  }

  found : (w : Logs) → StoodIn w → (file : Contents) (calls : List Logged) → Finds w file calls → LeadsTo reads size shape m w (durable w) file calls
  found w s file calls (inl held) =
      leads w (durable w) w.base file calls (same_stand file w.world.held (after_all shape m w.base) held.file_is s.holds) held.synced (inl refl)
  found w s file calls (inr next) =
      let c = coming_some w.world.coming file next.file_is in
      let all_next : w.next ++ calls ≡ w.next = ap (λ (l : List Logged). w.next ++ l) next.none ∙ append-nil w.next in
      leads w (durable w) w.next file calls (same_stand file c.0 (after_all shape m w.next) c.2 (s.comes c.0 c.1))
      (subst (λ (l : List Logged). IsFront (durable w) l) (sym all_next) next.synced) (inr all_next)

  pub maps_kept : Stands size start m → (its : List Happening) → IsRun reads (begin_with start) its → AllSave reads size shape m (begin_with start) its → IsKept reads (behind reads (begin_with start) its) →
      AreMapsKept reads size shape m (behind reads (begin_with start) its)
  maps_kept stands its run saves are_kept file journal bytes left_file left_journal left_log =
      found (behind reads (begin_with start) its) (at_end stands its run saves) (recovered (reads journal) file) (read_log (first_page (recovered (reads journal) file)) bytes)
      (are_kept file journal bytes left_file left_journal left_log)

  pub maps_answered : Stands size start m → (its : List Happening) → IsRun reads (begin_with start) its → AllSave reads size shape m (begin_with start) its → IsAnswered reads (behind reads (begin_with start) its) →
      AreMapsAnswered reads size shape m (behind reads (begin_with start) its)
  maps_answered stands its run saves answered file bytes left same =
      let w = behind reads (begin_with start) its in
      let s = at_end stands its run saves in
      leads w (history w) w.base file (read_log (first_page file) bytes) (same_stand file w.world.held (after_all shape m w.base) same s.holds) (answered file bytes left same) (inl refl)
