-- Each happening keeps what holds, and loses nothing that is on the disk.
use Rattle.std.proofs.Common.{◌≡◌, ◌≢◌, ◌⊎◌, inl, inr, ℕ, Bool, true, false, bytes_eq, List, [], ◌∷◌, ◌++◌, append-nil, take, Option, Some, None, refl, sym, ◌∙◌, ap, subst}
use Rattle.std.specs.Prelude.{if◌then◌else◌, ◌||◌, ◌&&◌, not}
use Rattle.std.proofs.lemmas.Bool.{or_parts, or_left}
use Rattle.cola_journal.specs.declared.stage.Stage.TheVariants.{Rest}
use Rattle.cola_journal.specs.Disk.{Contents, Same, Pages, with_pages}
use Rattle.cola_journal.specs.Runs as runs
use Rattle.cola_journal.specs.Runs.{World, IsComing, Stands, under_way, recovered}
use Rattle.cola_log.specs.Format.{Logged, AllFit, first_sum, read_log}
use Rattle.cola_replay.specs.Crash.{first_page, sum_of, IsFront, LogDisk, seen, LeavesLog, ReadsLog, Logs, follows, durable, history, Happening, Turns, Begins, Fallen, Died, NewLog, Appends, Breaks, Syncs, CanHappen, base_after, log_after, happens, IsRun, behind, begin_with, Finds, IsKept, IsAnswered}
use Rattle.cola_replay.proofs.Leaving.{sum_same, follows_same, followed, is_followed, not_followed, front_self, front_nil, front_more, front_longer, front_behind, fits_both, were_to_have, front_found, read_same}
use Rattle.cola_replay.proofs.Keeping.{chosen, left_out, both_ways_front, not_both, turned, not_none, same_coming, coming_some, seen_fits, AllFitIn, Stays, AreSafe, AreSettled, AreTurns, Reached, reached_with, IsNext, Holds, Inv, held_found, next_found, synced_read, stays}

module _ (reads : List ℕ → Option Pages) (start : Contents) (safe : AreSafe reads start) (settled : AreSettled reads start) (turns : AreTurns reads start) where
  pub safe_at : (w : World) → Reached reads start w → runs.IsSafe reads w
  safe_at w r = subst (λ (v : World). runs.IsSafe reads v) r.is (safe r.events r.run)

  none_comes : (w : World) → Reached reads start w → w.stage ≡ Rest → w.coming ≡ None
  none_comes w r rest =
      let s = settled r.events r.run (ap (λ (v : World). v.stage) r.is ∙ rest) in
      sym (ap (λ (v : World). v.coming) r.is) ∙ s.coming

  pub turn_at : (w : World) → Reached reads start w → (event : runs.Event) → runs.CanHappen reads w event → Stands w (runs.happens reads w event).held
  turn_at w r event can =
      subst (λ (v : World). Stands v (runs.happens reads v event).held) r.is (turns r.events event r.run (subst (λ (v : World). runs.CanHappen reads v event) (sym r.is) can))

  -- where the log still follows what holds, the calls of the checkpoint stay
  with_base : (w : Logs) (log : LogDisk) (next : List Logged) (held : Contents) (coming : Option Contents) → follows w.log w.world.held ≡ follows w.log held →
      Holds reads start log w.base next held coming → Holds reads start log (if follows w.log w.world.held && not (follows w.log held) then w.next else w.base) next held coming
  with_base w log next held coming same h =
      subst (λ (base : List Logged). Holds reads start log base next held coming) (sym (not_both (follows w.log w.world.held) (follows w.log held) w.next w.base same)) h

  -- what comes is vacuous where none does
  quiet : (log : LogDisk) (base next : List Logged) (held : Contents) (coming : Option Contents) → coming ≡ None → (c : Contents) → coming ≡ Some c → IsNext reads start log base next held c
  quiet log base next held coming none c is = absurd (not_none coming c none is)

  -- a step that is carried out
  module _ (w : Logs) (inv : Inv reads start w) where
    abbrev behind_step : World
    behind_step = runs.happens reads w.world runs.Carried

    passes : Same behind_step.held w.world.held ⊎ IsComing w.world.coming behind_step.held → follows w.log behind_step.held ≡ false → w.log.begun ≡ true
    passes (inl same) isnt = inv.holds.passed (sym (follows_same w.log behind_step.held w.world.held same) ∙ isnt)
    passes (inr comes) isnt = let c = coming_some w.world.coming behind_step.held comes in (inv.holds.coming_is c.0 c.1).begun

    carried_by : Stays w.world.stage w.world.pages w.world.held w.world.coming ⊎ (behind_step.coming ≡ None) → (base : List Logged) →
        Same behind_step.held w.world.held ⊎ IsComing w.world.coming behind_step.held →
        (follows w.log behind_step.held ≡ follows w.log w.world.held → base ≡ w.base) → Holds reads start w.log base w.next behind_step.held behind_step.coming
    carried_by (inl s) base stands base_is =
        let same : follows w.log behind_step.held ≡ follows w.log w.world.held = ap (λ (file : Contents). follows w.log file) s.held_is in
        subst (λ (l : List Logged). Holds reads start w.log l w.next behind_step.held behind_step.coming) (sym (base_is same))
        (stays reads start w inv behind_step.held same behind_step.coming s.coming_was)
    carried_by (inr none) base stands base_is = record {
      fit = inv.holds.fit;
      written_fit = inv.holds.written_fit;
      longer = inv.holds.longer;
      empty = inv.holds.empty;
      passed = passes stands;
      coming_is = quiet w.log base w.next behind_step.held behind_step.coming none;
    }

    carried : Holds reads start w.log (base_after reads w behind_step) w.next behind_step.held behind_step.coming
    carried =
        carried_by (same_coming w.world.stage w.world.pages w.world.held w.world.coming) (base_after reads w behind_step) (turn_at w.world inv.reached runs.Carried tt)
        (λ same. not_both (follows w.log w.world.held) (follows w.log behind_step.held) w.next w.base (sym same))

    -- nothing that is on the disk is lost by it
    carried_keeps : Same behind_step.held w.world.held ⊎ IsComing w.world.coming behind_step.held →
        IsFront (durable w) (base_after reads w behind_step ++ (if follows w.log behind_step.held then w.log.calls else []))
    carried_keeps (inl same) =
        let f = follows_same w.log behind_step.held w.world.held same in
        let base_is : base_after reads w behind_step ≡ w.base = not_both (follows w.log w.world.held) (follows w.log behind_step.held) w.next w.base (sym f) in
        let calls_are : (if follows w.log behind_step.held then w.log.calls else []) ≡ (if follows w.log w.world.held then w.log.calls else []) =
        ap (λ (b : Bool). if b then w.log.calls else []) f in
        subst (λ (l : List Logged). IsFront (durable w) l)
        (sym (ap (λ (l : List Logged). l ++ (if follows w.log behind_step.held then w.log.calls else [])) base_is ∙ ap (λ (l : List Logged). w.base ++ l) calls_are)) (front_self (durable w))
    carried_keeps (inr comes) =
        let c = coming_some w.world.coming behind_step.held comes in
        let n = inv.holds.coming_is c.0 c.1 in
        let no : follows w.log behind_step.held ≡ false = not_followed w.log behind_step.held (λ e. n.other (e ∙ sum_same behind_step.held c.0 c.2)) in
        let base_is : base_after reads w behind_step ≡ w.next = turned (follows w.log w.world.held) (follows w.log behind_step.held) w.next w.base n.follows_it no in
        let calls_are : (if follows w.log behind_step.held then w.log.calls else []) ≡ [] = left_out (follows w.log behind_step.held) w.log.calls [] no in
        let now : IsFront (durable w) w.next = subst (λ (l : List Logged). IsFront (w.base ++ l) w.next) (sym (chosen (follows w.log w.world.held) w.log.calls [] n.follows_it)) n.synced in
        subst (λ (l : List Logged). IsFront (durable w) l)
        (sym (ap (λ (l : List Logged). l ++ (if follows w.log behind_step.held then w.log.calls else [])) base_is ∙ ap (λ (l : List Logged). w.next ++ l) calls_are ∙ append-nil w.next)) now

  -- The others leave what holds

  -- the log is the same but for what it was to have
  rewritten : (w : Logs) → Inv reads start w → (log : LogDisk) → log.page ≡ w.log.page → log.calls ≡ w.log.calls → (w.log.begun ≡ true → log.begun ≡ true) → (log.begun ≡ false → w.log.begun ≡ false) →
      AllFitIn log.written → IsFront log.calls (seen log) → Holds reads start log w.base w.next w.world.held w.world.coming
  rewritten w inv log page calls begun not_begun all longer =
      let h = inv.holds in
      let same : follows log w.world.held ≡ follows w.log w.world.held = ap (λ (l : List ℕ). bytes_eq (first_sum l) (sum_of w.world.held)) page in
      record {
        fit = subst (λ (l : List Logged). AllFit l) (sym calls) h.fit;
        written_fit = all;
        longer = longer;
        empty = λ no. calls ∙ h.empty (not_begun no);
        passed = λ no. begun (h.passed (sym same ∙ no));
        coming_is = λ c is.
            let n = h.coming_is c is in
            record {
              begun = begun n.begun;
              follows_it = same ∙ n.follows_it;
              synced = subst (λ (l : List Logged). IsFront (w.base ++ l) w.next) (sym calls) n.synced;
              other = λ e. n.other (ap first_sum (sym page) ∙ e);
            };
      }

  begins : (w : Logs) → Inv reads start w → (pages : Pages) (journal : List ℕ) → CanHappen reads w (Begins pages journal) → Holds reads start w.log w.base (history w) w.world.held (Some (with_pages pages w.world.held))
  begins w inv pages journal can =
      let h = inv.holds in
      record {
        fit = h.fit;
        written_fit = h.written_fit;
        longer = h.longer;
        empty = h.empty;
        passed = h.passed;
        coming_is = λ c is.
            let same : with_pages pages w.world.held ≡ c = cc is in
            record {
              begun = can.1.begun;
              follows_it = can.1.follows_it;
              synced = subst (λ (l : List Logged). IsFront (w.base ++ w.log.calls) (w.base ++ l)) (sym (chosen (follows w.log w.world.held) (seen w.log) [] can.1.follows_it))
                  (front_behind w.base w.log.calls (seen w.log) h.longer);
              other = subst (λ (file : Contents). first_sum w.log.page ≢ sum_of file) same can.1.other;
            };
      }

  fallen : (w : Logs) → Inv reads start w → (bytes : List ℕ) → LeavesLog w.log bytes → (log : LogDisk) → (b : Bool) →
      log ≡ record w.log { begun = w.log.begun || b; written = read_log w.log.page bytes ∷ [] } → Holds reads start log w.base w.next w.world.held w.world.coming
  fallen w inv bytes left log b is =
      subst (λ (l : LogDisk). Holds reads start l w.base w.next w.world.held w.world.coming) (sym is)
      (rewritten w inv (record w.log { begun = w.log.begun || b; written = read_log w.log.page bytes ∷ [] }) refl refl (or_left w.log.begun b) (λ no. (or_parts w.log.begun b no).0)
      ((were_to_have w.log bytes left.are left.unforged).1, tt) (synced_read reads start w.log w.base w.next w.world.held w.world.coming inv.holds bytes left w.log.begun refl))

  died : (w : Logs) → Inv reads start w → (bytes : List ℕ) → ReadsLog w.log bytes → Holds reads start (record w.log { written = read_log w.log.page bytes ∷ w.log.written }) w.base w.next w.world.held w.world.coming
  died w inv bytes left =
      let h = inv.holds in
      let all : IsFront (seen w.log) (read_log w.log.page bytes) =
      front_found w.log.page (seen w.log) bytes left.front.0 (seen_fits w.log.calls w.log.written h.fit h.written_fit) left.front.1 in
      rewritten w inv (record w.log { written = read_log w.log.page bytes ∷ w.log.written }) refl refl (λ e. e) (λ e. e)
      ((were_to_have w.log bytes left.are left.unforged).1, h.written_fit) (front_longer w.log.calls (seen w.log) (read_log w.log.page bytes) h.longer all)

  self_follows : (held : Contents) → follows (record { page = first_page held; begun = false; calls = []; written = [] }) held ≡ true
  self_follows held = is_followed (record { page = first_page held; begun = false; calls = []; written = [] }) held refl

  new_log : (held : Contents) (base next : List Logged) (coming : Option Contents) → coming ≡ None → Holds reads start (record { page = first_page held; begun = false; calls = []; written = [] }) base next held coming
  new_log held base next coming none = record {
    fit = tt;
    written_fit = tt;
    longer = front_self [];
    empty = λ no. refl;
    passed = λ no. let yes = self_follows held in absurd (cc (yes, no));
    coming_is = quiet (record { page = first_page held; begun = false; calls = []; written = [] }) base next held coming none;
  }

  appends : (w : Logs) → Inv reads start w → (calls : List Logged) → AllFit calls → Holds reads start (record w.log { written = (seen w.log ++ calls) ∷ w.log.written }) w.base w.next w.world.held w.world.coming
  appends w inv calls fit =
      let h = inv.holds in
      let mine = seen_fits w.log.calls w.log.written h.fit h.written_fit in
      rewritten w inv (record w.log { written = (seen w.log ++ calls) ∷ w.log.written }) refl refl (λ e. e) (λ e. e) (fits_both (seen w.log) calls mine fit, h.written_fit)
      (front_longer w.log.calls (seen w.log) (seen w.log ++ calls) h.longer (front_more (seen w.log) calls))

  breaks : (w : Logs) → Inv reads start w → (calls : List Logged) → AllFit calls → Holds reads start (record w.log { written = seen w.log ∷ (seen w.log ++ calls) ∷ w.log.written }) w.base w.next w.world.held w.world.coming
  breaks w inv calls fit =
      let h = inv.holds in
      let mine = seen_fits w.log.calls w.log.written h.fit h.written_fit in
      rewritten w inv (record w.log { written = seen w.log ∷ (seen w.log ++ calls) ∷ w.log.written }) refl refl (λ e. e) (λ e. e) (mine, (fits_both (seen w.log) calls mine fit, h.written_fit)) h.longer

  syncs : (w : Logs) → Inv reads start w → w.world.coming ≡ None → Holds reads start (record w.log { begun = true; calls = seen w.log; written = [] }) w.base w.next w.world.held w.world.coming
  syncs w inv none =
      let h = inv.holds in
      let log : LogDisk = record w.log { begun = true; calls = seen w.log; written = [] } in
      record {
        fit = seen_fits w.log.calls w.log.written h.fit h.written_fit;
        written_fit = tt;
        longer = front_self (seen w.log);
        empty = λ no. absurd (cc no);
        passed = λ no. refl;
        coming_is = quiet log w.base w.next w.world.held w.world.coming none;
      }

  -- Every happening

  pub step : (w : Logs) → Inv reads start w → (it : Happening) → CanHappen reads w it → Inv reads start (happens reads w it)
  step w inv (Turns runs.Carried) can = record { reached = reached_with reads start w.world inv.reached (Some runs.Carried) can.0; holds = carried w inv }
  step w inv (Turns (runs.Refused file)) can = record {
    reached = reached_with reads start w.world inv.reached (Some (runs.Refused file)) can.0;
    holds = with_base w w.log w.next w.world.held w.world.coming refl inv.holds;
  }
  step w inv (Turns (runs.Fallen file bytes)) can = absurd can.1
  step w inv (Turns (runs.Died file bytes)) can = absurd can.1
  step w inv (Turns (runs.Begins pages bytes)) can = absurd can.1
  step w inv (Turns runs.Resumes) can = record {
    reached = reached_with reads start w.world inv.reached (Some runs.Resumes) can.0;
    holds = with_base w w.log w.next w.world.held w.world.coming refl inv.holds;
  }
  step w inv (Begins pages journal) can = record {
    reached = reached_with reads start w.world inv.reached (Some (runs.Begins pages journal)) can.0;
    holds = subst (λ (base : List Logged). Holds reads start w.log base (history w) w.world.held (Some (with_pages pages w.world.held)))
        (sym (not_both (follows w.log w.world.held) (follows w.log w.world.held) w.next w.base refl)) (begins w inv pages journal can);
  }
  step w inv (Fallen file journal bytes) can = record {
    reached = reached_with reads start w.world inv.reached (Some (runs.Fallen file journal)) can.0;
    holds = with_base w (log_after reads w (Fallen file journal bytes)) w.next w.world.held w.world.coming refl
        (fallen w inv bytes can.1 (log_after reads w (Fallen file journal bytes)) (bytes_eq (take 32 bytes) (first_sum w.log.page)) refl);
  }
  step w inv (Died file journal bytes) can = record {
    reached = reached_with reads start w.world inv.reached (Some (runs.Died file journal)) can.0;
    holds = with_base w (log_after reads w (Died file journal bytes)) w.next w.world.held w.world.coming refl (died w inv bytes can.1);
  }
  step w inv NewLog can = record {
    reached = inv.reached;
    holds = with_base w (log_after reads w NewLog) w.next w.world.held w.world.coming refl
        (new_log w.world.held w.base w.next w.world.coming (none_comes w.world inv.reached can.1.0));
  }
  step w inv (Appends calls) can = record {
    reached = inv.reached;
    holds = with_base w (log_after reads w (Appends calls)) w.next w.world.held w.world.coming refl (appends w inv calls can.1.fit);
  }
  step w inv (Breaks calls) can = record {
    reached = inv.reached;
    holds = with_base w (log_after reads w (Breaks calls)) w.next w.world.held w.world.coming refl (breaks w inv calls can.1.fit);
  }
  step w inv Syncs can = record {
    reached = inv.reached;
    holds = with_base w (log_after reads w Syncs) w.next w.world.held w.world.coming refl (syncs w inv (none_comes w.world inv.reached can.1));
  }

  pub first : Inv reads start (begin_with start)
  first = record { reached = record { events = []; run = tt; is = refl }; holds = new_log start [] [] None refl }

  pub run_from : (w : Logs) → Inv reads start w → (its : List Happening) → IsRun reads w its → Inv reads start (behind reads w its)
  run_from w inv [] run = inv
  run_from w inv (it ∷ its) run = run_from (happens reads w it) (step w inv it run.0) its run.1

  -- The laws

  kept_by : (w : Logs) → Inv reads start w → (file : Contents) (bytes : List ℕ) → Stands w.world file → LeavesLog w.log bytes → Finds w file (read_log (first_page file) bytes)
  kept_by w inv file bytes (inl same) left = inl (held_found reads start w inv file bytes same left (follows w.log w.world.held) refl)
  kept_by w inv file bytes (inr comes) left = inr (next_found reads start w inv file bytes comes left)

  pub are_kept : (its : List Happening) → IsRun reads (begin_with start) its → IsKept reads (behind reads (begin_with start) its)
  are_kept its run file journal bytes left_file left_journal left_log =
      let w = behind reads (begin_with start) its in
      let inv = run_from (begin_with start) first its run in
      kept_by w inv (recovered (reads journal) file) bytes (safe_at w.world inv.reached file journal left_file left_journal) left_log

  answered_by : (w : Logs) → Inv reads start w → (file : Contents) (bytes : List ℕ) → ReadsLog w.log bytes → Same file w.world.held → (b : Bool) → follows w.log w.world.held ≡ b →
      IsFront (history w) (w.base ++ read_log (first_page file) bytes)
  answered_by w inv file bytes left same true is =
      let h = inv.holds in
      let read : read_log (first_page file) bytes ≡ read_log w.log.page bytes =
      read_same (first_page file) w.log.page bytes (sum_same file w.world.held same ∙ sym (followed w.log w.world.held is)) in
      let all : IsFront (seen w.log) (read_log w.log.page bytes) =
      front_found w.log.page (seen w.log) bytes left.front.0 (seen_fits w.log.calls w.log.written h.fit h.written_fit) left.front.1 in
      front_behind w.base (if follows w.log w.world.held then seen w.log else []) (read_log (first_page file) bytes)
      (subst (λ (l : List Logged). IsFront l (read_log (first_page file) bytes)) (sym (chosen (follows w.log w.world.held) (seen w.log) [] is))
      (subst (λ (l : List Logged). IsFront (seen w.log) l) (sym read) all))
  answered_by w inv file bytes left same false is =
      front_behind w.base (if follows w.log w.world.held then seen w.log else []) (read_log (first_page file) bytes)
      (subst (λ (l : List Logged). IsFront l (read_log (first_page file) bytes)) (sym (left_out (follows w.log w.world.held) (seen w.log) [] is)) (front_nil (read_log (first_page file) bytes)))

  pub are_answered : (its : List Happening) → IsRun reads (begin_with start) its → IsAnswered reads (behind reads (begin_with start) its)
  are_answered its run file bytes left same =
      let w = behind reads (begin_with start) its in
      let inv = run_from (begin_with start) first its run in
      answered_by w inv file bytes left same (follows w.log w.world.held) refl

  -- what is on the disk stays there
  same_durable : (w : Logs) (calls : List Logged) → IsFront w.log.calls calls →
      IsFront (durable w) ((if follows w.log w.world.held && not (follows w.log w.world.held) then w.next else w.base) ++ (if follows w.log w.world.held then calls else []))
  same_durable w calls front =
      subst (λ (base : List Logged). IsFront (durable w) (base ++ (if follows w.log w.world.held then calls else [])))
      (sym (not_both (follows w.log w.world.held) (follows w.log w.world.held) w.next w.base refl))
      (front_behind w.base (if follows w.log w.world.held then w.log.calls else []) (if follows w.log w.world.held then calls else []) (both_ways_front (follows w.log w.world.held) w.log.calls calls front))

  empty_if : (b : Bool) (calls : List Logged) → calls ≡ [] → (if b then calls else []) ≡ []
  empty_if true calls is = is
  empty_if false calls is = refl

  nothing_synced : (w : Logs) → Inv reads start w → (follows w.log w.world.held ≡ false) ⊎ (w.log.begun ≡ false) → (if follows w.log w.world.held then w.log.calls else []) ≡ []
  nothing_synced w inv (inl isnt) = left_out (follows w.log w.world.held) w.log.calls [] isnt
  nothing_synced w inv (inr isnt) = empty_if (follows w.log w.world.held) w.log.calls (inv.holds.empty isnt)

  still_durable : (w : Logs) → Inv reads start w → (it : Happening) → CanHappen reads w it → IsFront (durable w) (durable (happens reads w it))
  still_durable w inv (Turns runs.Carried) can = carried_keeps w inv (turn_at w.world inv.reached runs.Carried tt)
  still_durable w inv (Turns (runs.Refused file)) can = same_durable w w.log.calls (front_self w.log.calls)
  still_durable w inv (Turns (runs.Fallen file bytes)) can = absurd can.1
  still_durable w inv (Turns (runs.Died file bytes)) can = absurd can.1
  still_durable w inv (Turns (runs.Begins pages bytes)) can = absurd can.1
  still_durable w inv (Turns runs.Resumes) can = same_durable w w.log.calls (front_self w.log.calls)
  still_durable w inv (Begins pages journal) can = same_durable w w.log.calls (front_self w.log.calls)
  still_durable w inv (Fallen file journal bytes) can = same_durable w w.log.calls (front_self w.log.calls)
  still_durable w inv (Died file journal bytes) can = same_durable w w.log.calls (front_self w.log.calls)
  still_durable w inv NewLog can =
      let log : LogDisk = record { page = first_page w.world.held; begun = false; calls = []; written = [] } in
      let base_is = not_both (follows w.log w.world.held) (follows w.log w.world.held) w.next w.base refl in
      let none : durable w ≡ w.base = ap (λ (l : List Logged). w.base ++ l) (nothing_synced w inv can.1.1) ∙ append-nil w.base in
      subst (λ (l : List Logged). IsFront l (durable (happens reads w NewLog))) (sym none)
      (subst (λ (base : List Logged). IsFront w.base (base ++ (if follows log w.world.held then [] else []))) (sym base_is) (front_more w.base (if follows log w.world.held then [] else [])))
  still_durable w inv (Appends calls) can = same_durable w w.log.calls (front_self w.log.calls)
  still_durable w inv (Breaks calls) can = same_durable w w.log.calls (front_self w.log.calls)
  still_durable w inv Syncs can = same_durable w (seen w.log) inv.holds.longer

  pub stay_durable : (its : List Happening) (it : Happening) → IsRun reads (begin_with start) its → CanHappen reads (behind reads (begin_with start) its) it →
      IsFront (durable (behind reads (begin_with start) its)) (durable (happens reads (behind reads (begin_with start) its) it))
  stay_durable its it run can = still_durable (behind reads (begin_with start) its) (run_from (begin_with start) first its run) it can
