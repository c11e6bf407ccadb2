-- A cursor on its way to its next pair.
use Rattle.std.proofs.Common.{◌≡◌, inl, inr, ℕ, ◌+◌, ◌≤◌, true, List, [], ◌∷◌, length, Option, None, Some, Result, Ok, Err, option_map, sym, ap, subst, ◌∙◌, arith, Bool}
use Rattle.std.specs.List.{AllByRecursion, refill}
use Rattle.cola_runs.specs.Cells as laws
use Rattle.cola_cell.specs.declared.cell.Cell.{Cell}
use Rattle.cola_cell.specs.declared.cell.Item.{Item}
use Rattle.cola_cell.specs.declared.cell.Item.TheVariants.{Value, Tombstone}
use Rattle.cola_cell.specs.declared.cell.Run.{Run}
use Rattle.cola_cell.specs.declared.fault.ReadFault.{ReadFault}
use Rattle.cola_cell.specs.declared.fault.ReadFault.TheVariants.{Device, BadCell}
use Rattle.cola_cell.specs.declared.source.CellSource as source
use Rattle.cola_cell.specs.Held.{Held, LawCell, Stamped, as_item}
use Rattle.cola_cell.specs.Looks.{OnlyLooks}
use Rattle.cola_cell.specs.Order.{key_cmp}
use Rattle.cola_look.specs.Runs.{AreRuns}
use Rattle.cola_look.proofs.RunLists.{sampled_rise}
use Rattle.cola_pairs.specs.Live.{live, with_answer}
use Rattle.cola_pairs.specs.Walk.{HeadsFrom}
use Rattle.cola_pairs.proofs.Onward.{live_ends}
use Rattle.cola_cursor.specs.Way.{way_cmp, within_end}
use Rattle.cola_cursor.proofs.Keys.{way_total, way_closes}
use Rattle.cola_cursor.specs.declared.line.Line.{Line}
use Rattle.cola_cursor.specs.declared.cursor.Cursor.{Cursor}
use Rattle.cola_cursor.specs.Lines.{LineFits, IsReady, Reading, all_left}
use Rattle.cola_cursor.specs.Passing.{PassAll}
use Rattle.cola_cursor.specs.Results.{FetchAll, HasBadLine, LinesCause, least_from}
use Rattle.cola_cursor.specs.Standing.{runs_of, rests, befores, AreApart, StandsAlong, Stands, Ahead, AheadAlong, TakesNext, AnswerCause, IsPassed, answered_key, HeadEnds, LineEnds, LinesPassed, none_hidden}
use Rattle.cola_cursor.specs.Giving.{NextGives, OneGives}
use Rattle.cola_cursor.proofs.Least.{HeadPast, AnyHas, IsLeast, least_is, least_none}
use Rattle.cola_cursor.proofs.Lists.{refilled}
use Rattle.cola_cursor.proofs.Stepping.{fetch_runs, fetch_fit, fetch_ready, fetch_bad, fetch_rests, fetch_befores, pass_runs, pass_fit, pass_ready, pass_bad, heads_from, heads_past, onward_rests, step_lives, step_apart}
use Rattle.cola_cursor.proofs.Behind.{fetch_passes, passes_then, look_passes, tombstone_passes, answer_passes}

module _ (falls : Bool) where
  -- what a cursor has passed on its way from some lines to others: no pair, and keys that were apart stay so
  pub record Going (held : Held) (end : Option (List ℕ)) (olds news : List Line) (answered : Option (List ℕ)) : Type 0 where
    pub fit : AllByRecursion (LineFits falls held) news
    pub ready : AllByRecursion IsReady news
    pub runs_are : runs_of news ≡ runs_of olds
    pub bad : (number : ℕ) → HasBadLine falls held number news → HasBadLine falls held number olds
    pub apart : (lists : List (List LawCell)) → AreRuns held (runs_of olds) lists → AllByRecursion (laws.IsRising key_cmp) lists →
        AreApart falls (befores falls olds lists) (rests falls olds lists) → AreApart falls (befores falls news lists) (rests falls news lists)
    pub passed : LinesPassed falls held answered none_hidden olds news

  -- and no live pair was passed
  pub record Quiet (held : Held) (end : Option (List ℕ)) (olds news : List Line) : Type 0 where
    pub going : Going held end olds news None
    pub lives : (lists : List (List LawCell)) → AreRuns held (runs_of olds) lists → AllByRecursion (laws.IsRising key_cmp) lists →
        live (way_cmp falls) (within_end falls end) (rests falls olds lists) ≡ live (way_cmp falls) (within_end falls end) (rests falls news lists)

  module _ (held : Held) (cursor : Cursor) where
    pub quiet_begins : (news : List Line) → FetchAll falls held cursor.lines.items news → Quiet held cursor.end cursor.lines.items news
    quiet_begins news f = record {
      going = record {
        fit = fetch_fit falls held cursor.lines.items news f;
        ready = fetch_ready falls held cursor.lines.items news f;
        runs_are = fetch_runs falls held cursor.lines.items news f;
        bad = λ number b. fetch_bad falls held cursor.lines.items news number f b;
        apart = λ lists r h a. apart_of lists a;
        passed = fetch_passes falls held None none_hidden cursor.lines.items news f;
      };
      lives = λ lists r h. ap (live (way_cmp falls) (within_end falls cursor.end)) (sym (fetch_rests falls held cursor.lines.items news lists f));
    }
      where
        apart_of : (lists : List (List LawCell)) → AreApart falls (befores falls cursor.lines.items lists) (rests falls cursor.lines.items lists) → AreApart falls (befores falls news lists) (rests falls news lists)
        apart_of lists a =
            subst (λ (x : List (List LawCell)). AreApart falls x (rests falls news lists)) (sym (fetch_befores falls held cursor.lines.items news lists f))
            (subst (λ (x : List (List LawCell)). AreApart falls (befores falls cursor.lines.items lists) x) (sym (fetch_rests falls held cursor.lines.items news lists f)) a)

  module _ {held : Held} {end : Option (List ℕ)} {olds mids : List Line} (q : Quiet held end olds mids) (k : List ℕ) (least : least_from falls end None mids ≡ Some k) where
    least_fact : IsLeast falls end None mids k
    least_fact = least_is falls end None mids k least

    -- the key is below the upper end, and some head has it
    pub key_below : within_end falls end k ≡ true
    key_below = least_fact.below (λ a e. absurd (cc))

    pub key_there : AnyHas falls k mids
    key_there = elim least_fact.any [ inl e ↦ absurd (cc) | inr a ↦ a ]

    in_mids : (lists : List (List LawCell)) → AreRuns held (runs_of olds) lists → AreRuns held (runs_of mids) lists
    in_mids lists r = subst (λ (x : List Run). AreRuns held x lists) (sym q.going.runs_are) r

    heads : (lists : List (List LawCell)) → AreRuns held (runs_of olds) lists → HeadsFrom (way_cmp falls) k (rests falls mids lists)
    heads lists r = heads_from falls held end k mids lists q.going.fit q.going.ready (in_mids lists r) key_below least_fact.from

    -- a step over the key
    pub going_on : (answered : Option (List ℕ)) (news : List Line) (item : Option Item) → PassAll falls held k mids news item → LinesPassed falls held answered none_hidden mids news → Going held end olds news answered
    going_on answered news item p l = record {
      fit = pass_fit falls held k mids news item p;
      ready = pass_ready falls held k mids news item p;
      runs_are = pass_runs falls held k mids news item p ∙ q.going.runs_are;
      bad = λ number b. q.going.bad number (pass_bad falls held k mids news item number p b);
      apart = λ lists r h a. step_apart falls k held mids news item lists p (in_mids lists r) h (heads lists r) (q.going.apart lists r h a);
      passed = passes_then falls held answered none_hidden none_hidden none_hidden olds mids news q.going.passed l (λ x y. y) (λ x y. y);
    }

    step_live : (news : List Line) (item : Option Item) → PassAll falls held k mids news item → (lists : List (List LawCell)) → AreRuns held (runs_of olds) lists → AllByRecursion (laws.IsRising key_cmp) lists →
        live (way_cmp falls) (within_end falls end) (rests falls olds lists) ≡ with_answer k (option_map as_item item) (live (way_cmp falls) (within_end falls end) (rests falls news lists))
    step_live news item p lists r h = q.lives lists r h ∙ step_lives falls held end k mids news item lists p (in_mids lists r) h key_below (heads lists r)

    -- no item, or a tombstone
    pub quiet_none : (news : List Line) (item : Option Item) → PassAll falls held k mids news item → item ≡ None → Quiet held end olds news
    quiet_none news item p e = record {
      going = going_on None news item p (look_passes falls held k none_hidden mids news item e p);
      lives = λ lists r h. step_live news item p lists r h ∙ ap (λ x. with_answer k (option_map as_item x) (live (way_cmp falls) (within_end falls end) (rests falls news lists))) e;
    }

    pub quiet_tombstone : (news : List Line) (item : Option Item) → PassAll falls held k mids news item → item ≡ Some Tombstone → Quiet held end olds news
    quiet_tombstone news item p e = record {
      going = going_on None news item p (tombstone_passes falls held k none_hidden mids news item e p);
      lives = λ lists r h. step_live news item p lists r h ∙ ap (λ x. with_answer k (option_map as_item x) (live (way_cmp falls) (within_end falls end) (rests falls news lists))) e;
    }

    -- a value: the answer
    pub answer_going : (news : List Line) (item : Option Item) → PassAll falls held k mids news item → Going held end olds news (Some k)
    answer_going news item p = going_on (Some k) news item p (answer_passes falls held k none_hidden mids news item p)

    pub answer_lives : (news : List Line) (item : Option Item) (value : List ℕ) (stamp : ℕ) → PassAll falls held k mids news item → item ≡ Some (Value value stamp) →
        (lists : List (List LawCell)) → AreRuns held (runs_of olds) lists → AllByRecursion (laws.IsRising key_cmp) lists →
        live (way_cmp falls) (within_end falls end) (rests falls olds lists) ≡ (k, record { value = value; stamp = stamp }) ∷ live (way_cmp falls) (within_end falls end) (rests falls news lists)
    answer_lives news item value stamp p e lists r h = step_live news item p lists r h ∙ ap (λ x. with_answer k (option_map as_item x) (live (way_cmp falls) (within_end falls end) (rests falls news lists))) e

  -- where a cursor stands then
  pub stands_then : {held : Held} {end answered : Option (List ℕ)} (old new : Cursor) → StandsAlong falls held old → Going held end old.lines.items new.lines.items answered → StandsAlong falls held new
  stands_then {held} old new s g = record {
    fit = g.fit;
    apart = λ lists r a.
        let told : AreRuns held (runs_of old.lines.items) lists = subst (λ (x : List Run). AreRuns held x lists) g.runs_are r in
        g.apart lists told (sampled_rise key_cmp lists (a []).sampled) (s.apart lists told a);
  }

  -- the pair that is taken
  pub takes_pair : {held : Held} {mids : List Line} (old new : Cursor) (q : Quiet held old.end old.lines.items mids) (k : List ℕ) (least : least_from falls old.end None mids ≡ Some k) (item : Option Item) (value : List ℕ) (stamp : ℕ) →
      new.end ≡ old.end → PassAll falls held k mids new.lines.items item → item ≡ Some (Value value stamp) →
      (pairs : List (List ℕ × Stamped)) → AheadAlong falls held old pairs → TakesNext (AheadAlong falls held new) pairs (Ok (Some (k, value, stamp)))
  takes_pair {held} old new q k least item value stamp e p i pairs a =
      let g = answer_going q k least new.lines.items item p in (
        live (way_cmp falls) (within_end falls old.end) (rests falls new.lines.items a.lists),
        a.pairs_are ∙ answer_lives q k least new.lines.items item value stamp p i a.lists a.told a.rising,
        record {
          lists = a.lists;
          told = subst (λ (x : List Run). AreRuns held x a.lists) (sym g.runs_are) a.told;
          rising = a.rising;
          apart = g.apart a.lists a.told a.rising a.apart;
          pairs_are = ap (λ x. live (way_cmp falls) (within_end falls x) (rests falls new.lines.items a.lists)) (sym e);
        },
      )

  pub takes_none : {held : Held} (old new : Cursor) (q : Quiet held old.end old.lines.items new.lines.items) → new.end ≡ old.end → least_from falls old.end None new.lines.items ≡ None →
      (pairs : List (List ℕ × Stamped)) → AheadAlong falls held old pairs → TakesNext (AheadAlong falls held new) pairs (Ok None)
  takes_none {held} old new q e l pairs a =
      let told : AreRuns held (runs_of new.lines.items) a.lists = subst (λ (x : List Run). AreRuns held x a.lists) (sym q.going.runs_are) a.told in
      let none : live (way_cmp falls) (within_end falls old.end) (rests falls new.lines.items a.lists) ≡ [] =
      live_ends (way_total falls) (within_end falls old.end) (way_closes falls old.end) (rests falls new.lines.items a.lists) (onward_rests falls new.lines.items a.lists a.rising)
      (heads_past falls held old.end new.lines.items a.lists q.going.fit q.going.ready told (least_none falls old.end None new.lines.items l).1) in (
        a.pairs_are ∙ q.lives a.lists a.told a.rising ∙ none,
        record {
          lists = a.lists;
          told = told;
          rising = a.rising;
          apart = q.going.apart a.lists a.told a.rising a.apart;
          pairs_are = sym none ∙ ap (λ x. live (way_cmp falls) (within_end falls x) (rests falls new.lines.items a.lists)) (sym e);
        },
      )

  -- none is left
  ends_at : (end : Option (List ℕ)) (line : Line) → IsReady line → HeadPast falls end line.head → LineEnds falls end line
  ends_at end line r h = go line.head r h
    where
      go : (x : Option Cell) → Rattle.cola_cursor.specs.Lines.HeadIsRead line.place line.run.len x → HeadPast falls end x → HeadEnds falls end line.place line.run.len x
      go None r h = r
      go (Some c) r h = h

  pub all_end : (end : Option (List ℕ)) (lines : List Line) → AllByRecursion IsReady lines → AllByRecursion (λ line. HeadPast falls end line.head) lines → AllByRecursion (LineEnds falls end) lines
  all_end end [] r h = tt
  all_end end (line ∷ lines) r h = (ends_at end line r.0 h.0, all_end end lines r.1 h.1)

  -- a refusal on the way
  pub cause_on_way : {held : Held} {end answered : Option (List ℕ)} {olds news : List Line} (before now : ℕ) (fault : ReadFault) → Going held end olds news answered → LinesCause falls held news before now fault → LinesCause falls held olds before now fault
  cause_on_way before now Device g c = c
  cause_on_way before now (BadCell number) g c = g.bad number c

  -- ---- the same over an equal object, list and end

  pub same_pass : {held object : Held} (key : List ℕ) (olds news : List Line) (item : Option Item) → held ≡ object → PassAll falls held key olds news item → PassAll falls object key olds news item
  same_pass key olds news item e h = subst (λ (x : Held). PassAll falls x key olds news item) e h

  -- what a refused step says of the lines of the cursor
  pub step_cause : {held object : Held} {end : Option (List ℕ)} {olds news : List Line} (before between now : ℕ) (fault : ReadFault) → held ≡ object → between ≡ before → Quiet object end olds news →
      LinesCause falls held news between now fault → LinesCause falls object olds before now fault
  step_cause {held} {object} {end} {olds} {news} before between now fault e c q h =
      let a : LinesCause falls object news between now fault = subst (λ (x : Held). LinesCause falls x news between now fault) e h in
      cause_on_way before now fault q.going (subst (λ n. LinesCause falls object news n now fault) c a)

  -- ---- what a step gives, put together

  module _ {W : Type 0} (w : source.Ghosts W) (before now : W) (old new : Cursor) (ticks ticks_now : ℕ)
      (reading : Reading (w.state before) (w.state now) ticks ticks_now) where
    -- a step that was carried out
    pub went : (found : Option (List ℕ × List ℕ × ℕ)) → OnlyLooks w before now (Ok found) → StandsAlong falls (w.state before).held old → ticks_now + all_left new.lines.items ≤ ticks + all_left old.lines.items → new.end ≡ old.end → old.falls ≡ falls → new.falls ≡ falls →
        Going (w.state before).held old.end old.lines.items new.lines.items (answered_key found) → AnswerCause falls new (answered_key found) → IsPassed falls (w.state before).held old.lines.items new.lines.items found →
        ((pairs : List (List ℕ × Stamped)) → AheadAlong falls (w.state before).held old pairs → TakesNext (AheadAlong falls (w.state before).held new) pairs (Ok found)) → NextGives falls w before now old new ticks ticks_now (Ok found)
    went found looks stood left end way way_now going answers pair takes = record {
      takes = λ pairs ahead.
          subst (λ (b : Bool). TakesNext (AheadAlong b (w.state now).held new) pairs (Ok found)) (sym way_now)
          (subst (λ (h : Held). TakesNext (AheadAlong falls h new) pairs (Ok found)) (sym looks.cells_stay) (takes pairs ahead));
      answers = answers;
      pair = pair;
      passes = going.passed;
      stands = subst (λ (b : Bool). StandsAlong b (w.state now).held new) (sym way_now) (subst (λ (h : Held). StandsAlong falls h new) (sym looks.cells_stay) (stands_then old new stood going));
      end_stays = end;
      way_stays = way_now ∙ sym way;
      refused = tt;
      left = left;
      at_most = omega (arith, left);
      reading = reading;
      cause = tt;
      looks = looks;
    }

    -- a step that was refused
    pub stayed : (result : Result (Option (List ℕ × List ℕ × ℕ)) ReadFault) (fault : ReadFault) → OnlyLooks w before now result → result ≡ Err fault → new ≡ old → old.falls ≡ falls → StandsAlong falls (w.state before).held old →
        ticks_now + 0 ≤ ticks + all_left old.lines.items → LinesCause falls (w.state before).held old.lines.items (w.state before).spent.faults (w.state now).spent.faults fault →
        NextGives falls w before now old new ticks ticks_now result
    stayed result fault looks is same way stands most cause = subst (λ x. OnlyLooks w before now x → NextGives falls w before now old new ticks ticks_now x) (sym is) (λ looks. record {
      takes = λ pairs ahead. subst (λ (c : Cursor). Ahead (w.state now).held c pairs) (sym same)
          (subst (λ (b : Bool). AheadAlong b (w.state now).held old pairs) (sym way) (subst (λ (h : Held). AheadAlong falls h old pairs) (sym looks.cells_stay) ahead));
      answers = tt;
      pair = tt;
      passes = tt;
      stands = subst (λ (c : Cursor). Stands (w.state now).held c) (sym same)
          (subst (λ (b : Bool). StandsAlong b (w.state now).held old) (sym way) (subst (λ (h : Held). StandsAlong falls h old) (sym looks.cells_stay) stands));
      end_stays = ap (λ (c : Cursor). c.end) same;
      way_stays = ap (λ (c : Cursor). c.falls) same;
      refused = same;
      left = tt;
      at_most = omega (arith, most);
      reading = reading;
      cause = cause;
      looks = looks;
    }) looks

  -- a step on one line, seen in the lines that it was lent
  pub one_gives : {W : Type 0} (w : source.Ghosts W) (before now : W) (end : Option (List ℕ)) (olds lines news : List Line) (ticks ticks_now : ℕ) (result answer : Result (Option (List ℕ × List ℕ × ℕ)) ReadFault) → result ≡ answer → lines ≡ olds → length news ≡ length lines →
      OneGives falls w before now end lines news ticks ticks_now result → OneGives falls w before now end olds (refill (length olds) olds news) ticks ticks_now answer
  one_gives w before now end olds lines news ticks ticks_now result answer e l n h =
      subst (λ (xs : List Line). OneGives falls w before now end xs (refill (length xs) xs news) ticks ticks_now answer) l
      (subst (λ ys. OneGives falls w before now end lines ys ticks ticks_now answer) (sym (refilled falls lines news n)) (subst (λ x. OneGives falls w before now end lines news ticks ticks_now x) e h))
