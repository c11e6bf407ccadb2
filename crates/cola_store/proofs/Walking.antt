-- Walks over a store: where they begin, what they take, what they may still read, and why they are refused.
use Rattle.std.proofs.Common.{◌≡◌, ℕ, suc, ◌+◌, ◌*◌, ◌<◌, ◌≤◌, ◌^◌, Bool, true, false, cond, ◌&&◌, T, List, [], ◌∷◌, length, map, filter, Option, Some, None, Result, Ok, Err, option_map, refl, ap, sym, subst, ◌∙◌, inl, inr, arith}
use Rattle.std.specs.Prelude.{IfOk, IfErr, OnErr, OnSome}
use Rattle.std.specs.List.{AllByRecursion}
use Rattle.std.specs.Ordering.{is_lt, eq_by_cmp}
use Rattle.std.specs.FinMap as finite
use Rattle.std.specs.FinMap.Entries.{find, is_sorted, below_all}
use Rattle.std.specs.Cmp.Lexicographic.{nat_list_cmp_total}
use Rattle.std.proofs.Math.Pow.{pow_mono}
use Rattle.cola_laws.specs.Chain.{value_at}
use Rattle.cola_cell.specs.declared.cell.Cell.{Cell}
use Rattle.cola_cell.specs.declared.cell.Run.{Run}
use Rattle.cola_cell.specs.declared.fault.ReadFault.{ReadFault}
use Rattle.cola_cell.specs.declared.fault.ReadFault.TheVariants.{Device, BadCell}
use Rattle.cola_cell.specs.Held.{Held, LawCell, Stamped}
use Rattle.cola_cell.specs.Listed.{IsRun}
use Rattle.cola_cell.specs.Order.{key_cmp}
use Rattle.cola_cell.specs.Spent.{Spent, IsBad}
use Rattle.cola_cell.proofs.RunLemmas.{run_tells, told_is_good}
use Rattle.cola_abstract.specs.Cell as laws
use Rattle.cola_spec.specs.Map as spec
use Rattle.cola_spec.specs.Map.{Map, pairs_between, is_before}
use Rattle.cola_table.specs.Answers.{OnlyDeviceRead, RangeAnswers, NextAnswers}
use Rattle.cola_shapes.specs.Shapes.{stamped_of}
use Rattle.cola_image.specs.Standing.{found_in}
use Rattle.cola_device.specs.declared.counts.Counts.{Counts}
use Rattle.cola_level.specs.declared.level.Level.{Level}
use Rattle.cola_look.specs.Outcome.{Answers}
use Rattle.cola_look.specs.Runs.{AreRuns}
use Rattle.cola_pairs.specs.Live.{live, between, below_end}
use Rattle.cola_pairs.proofs.LivePairs.{live_entries}
use Rattle.cola_cursor.specs.declared.line.Line.{Line}
use Rattle.cola_cursor.specs.declared.cursor.Cursor.{Cursor}
use Rattle.cola_cursor.specs.Lines.{LineFits, heads_of, all_left, all_ahead}
use Rattle.cola_cursor.specs.Results.{LinesCause, HasBadLine}
use Rattle.cola_cursor.specs.Giving.{SeekGives}
use Rattle.cola_cursor.specs.Seeking.{LevelsRise, RunsCause, HasBadRun, places_from, places_of, places_told, range_ticks, left_sought}
use Rattle.cola_cursor.specs.Standing as standing
use Rattle.cola_cursor.specs.Standing.{runs_of, TakesNext, LinesPassed, AnyHasValue, IsPassed, none_hidden, answered_key, with_stamp}
use Rattle.cola_look.proofs.KeyLemmas.{keys_alike}
use Rattle.cola_cursor.proofs.Keys.{at_within}
use Rattle.cola_cursor.specs.Way.{at}
use Rattle.cola_chain.specs.Contents as chain
use Rattle.cola_chain.specs.Contents.{Contents}
use Rattle.cola_chain.specs.Runs.{visible_runs, AreSearched}
use Rattle.cola_store.specs.Store as opened
use Rattle.cola_store.specs.Store.{Stored, Holds, held_of, spent_of, levels_of}
use Rattle.cola_store.proofs.Storing.{same, turns_few, ticks_then, none_made}
use Rattle.cola_store.specs.Walks.{Stands, Ahead, Begins, GoesOn, Stays, Then, TurnsWithin, pair_of, left_of, cells_ahead}

-- The visible runs, as a range takes them

pub levels-rise : (t j : ℕ) (levels : List Level) → LevelsRise j (visible_runs t j levels)
levels-rise t j [] = tt
levels-rise t j (l ∷ ls) = let e : j ≤ j = omega arith in (e, levels-rise t (suc j) ls)

-- Refusals: in runs that are told no cell is bad

not-bad : (held : Held) (run : Run) (cells : List LawCell) (index number : ℕ) → IsRun held run cells → index < run.len → IsBad held run.level run.slot index number → ⊥
not-bad held run cells index number told within bad =
    let d : LawCell = laws.Look [] 0 in
    told_is_good (held.spots run.level run.slot index) _ (run_tells held run cells index d told within) bad.told

no-bad-run : (held : Held) (runs : List Run) (lists : List (List LawCell)) (number : ℕ) → AreRuns held runs lists → HasBadRun held number runs → ⊥
no-bad-run held [] lists number told bad = bad
no-bad-run held (run ∷ runs) [] number told bad = told
no-bad-run held (run ∷ runs) (cells ∷ lists) number told (inl b) = not-bad held run cells b.index number told.0 b.within b.bad
no-bad-run held (run ∷ runs) (cells ∷ lists) number told (inr b) = no-bad-run held runs lists number told.1 b

no-bad-line : (falls : Bool) (held : Held) (lines : List Line) (lists : List (List LawCell)) (number : ℕ) → AreRuns held (runs_of lines) lists → HasBadLine falls held number lines → ⊥
no-bad-line falls held [] lists number told bad = bad
no-bad-line falls held (line ∷ lines) [] number told bad = told
no-bad-line falls held (line ∷ lines) (cells ∷ lists) number told (inl b) = not-bad held line.run cells (at falls line.run.len b.index) number told.0 (at_within falls line.run.len b.index b.within) b.bad
no-bad-line falls held (line ∷ lines) (cells ∷ lists) number told (inr b) = no-bad-line falls held lines lists number told.1 b

pub only-runs : (held : Held) (runs : List Run) (lists : List (List LawCell)) (before now : ℕ) (fault : ReadFault) → AreRuns held runs lists → RunsCause held runs before now fault → OnlyDeviceRead fault
only-runs held runs lists before now Device told cause = tt
only-runs held runs lists before now (BadCell number) told cause = no-bad-run held runs lists number told cause

pub only-lines : (falls : Bool) (held : Held) (lines : List Line) (lists : List (List LawCell)) (before now : ℕ) (fault : ReadFault) → AreRuns held (runs_of lines) lists → LinesCause falls held lines before now fault → OnlyDeviceRead fault
only-lines falls held lines lists before now Device told cause = tt
only-lines falls held lines lists before now (BadCell number) told cause = no-bad-line falls held lines lists number told cause

-- Lines that go on

pub same-runs : (falls : Bool) (held : Held) (answered : Option (List ℕ)) (hidden : List ℕ → Type 0) (olds news : List Line) → LinesPassed falls held answered hidden olds news → runs_of news ≡ runs_of olds
same-runs falls held answered hidden [] [] p = refl
same-runs falls held answered hidden [] (new ∷ news) p = absurd p
same-runs falls held answered hidden (old ∷ olds) [] p = absurd p
same-runs falls held answered hidden (old ∷ olds) (new ∷ news) p =
    ap (λ (r : Run). r ∷ runs_of news) p.0.run_is ∙ ap (λ (rs : List Run). old.run ∷ rs) (same-runs falls held answered _ olds news p.1)

ahead-falls : (falls : Bool) (held : Held) (answered : Option (List ℕ)) (hidden : List ℕ → Type 0) (olds news : List Line) → LinesPassed falls held answered hidden olds news → all_ahead news ≤ all_ahead olds
ahead-falls falls held answered hidden [] [] p = omega arith
ahead-falls falls held answered hidden [] (new ∷ news) p = absurd p
ahead-falls falls held answered hidden (old ∷ olds) [] p = absurd p
ahead-falls falls held answered hidden (old ∷ olds) (new ∷ news) p =
    let n : new.run.len ≡ old.run.len = ap (λ (r : Run). r.len) p.0.run_is in
    let g = p.0.goes in
    let rest = ahead-falls falls held answered _ olds news p.1 in
    omega (arith, n, g, rest)

fewer : (falls now : Bool) (held other : Held) (answered : Option (List ℕ)) (hidden : List ℕ → Type 0) (key value : List ℕ) (stamp : ℕ) (olds news : List Line) →
    LinesPassed falls held answered hidden olds news → AllByRecursion (LineFits now other) news → AnyHasValue falls held key value stamp olds news → all_ahead news < all_ahead olds
fewer falls now held other answered hidden key value stamp [] news p fits h = absurd h
fewer falls now held other answered hidden key value stamp (old ∷ olds) [] p fits h = absurd h
fewer falls now held other answered hidden key value stamp (old ∷ olds) (new ∷ news) p fits (inl h) =
    let n : new.run.len ≡ old.run.len = ap (λ (r : Run). r.len) p.0.run_is in
    let a = h.from in
    let b = h.before in
    let c = fits.0.place_in in
    let rest = ahead-falls falls held answered _ olds news p.1 in
    omega (arith, n, a, b, c, rest)
fewer falls now held other answered hidden key value stamp (old ∷ olds) (new ∷ news) p fits (inr h) =
    let n : new.run.len ≡ old.run.len = ap (λ (r : Run). r.len) p.0.run_is in
    let g = p.0.goes in
    let rest = fewer falls now held other answered _ key value stamp olds news p.1 fits.1 h in
    omega (arith, n, g, rest)

one-head : (head : Option Cell) → heads_of head ≤ 1
one-head None = omega arith
one-head (Some cell) = omega arith

-- a line has to pass what it has to read, and its head
ahead-left : (lines : List Line) → all_ahead lines ≤ all_left lines + length lines
ahead-left [] = omega arith
ahead-left (line ∷ lines) =
    let one = one-head line.head in
    let rest = ahead-left lines in
    omega (arith, one, rest)

length-runs : (lines : List Line) → length (runs_of lines) ≡ length lines
length-runs [] = refl
length-runs (line ∷ lines) = ap suc (length-runs lines)

few-lines : (lines : List Line) (runs : List Run) (levels before after : ℕ) → runs_of lines ≡ runs → length runs ≤ 23 → levels ≤ 23 →
    before ≤ after → after + all_left lines ≤ before + range_ticks levels → all_ahead lines < 2 ^ 64
few-lines lines runs levels before after visible n few stays left =
    let l : length lines ≡ length runs = sym (length-runs lines) ∙ ap (λ (rs : List Run). length rs) visible in
    let a = ahead-left lines in
    let e : levels + 2 ≤ 25 = omega (arith, few) in
    let p : 2 ^ (levels + 2) ≤ 2 ^ 25 = pow_mono e in
    omega (arith, l, n, a, p, few, stays, left)

-- a walk has few cells ahead where it begins
pub few-ahead : (end : Option (List ℕ)) (falls : Bool) (runs : List Run) (levels before after : ℕ) (result : Result Cursor ReadFault) → length runs ≤ 23 → levels ≤ 23 →
    IfOk result (λ walk. (runs_of walk.lines.items ≡ runs) × (walk.end ≡ end) × (walk.falls ≡ falls)) → before ≤ after → after + left_sought result ≤ before + range_ticks levels →
    IfOk result (λ walk. cells_ahead walk < 2 ^ 64)
few-ahead end falls runs levels before after (Ok walk) n few begins stays left = few-lines walk.lines.items runs levels before after begins.0 n few stays left
few-ahead end falls runs levels before after (Err fault) n few begins stays left = tt

-- The pairs of a map are the live pairs of runs that have of each key what the map has

unfoldable pub stored : List ℕ × spec.Stored → List ℕ × Stamped
stored e = (e.0, stamped_of e.1)

found-stored : (b : Bool) (s : spec.Stored) (x : Option spec.Stored) → cond b (Some (stamped_of s)) (option_map stamped_of x) ≡ option_map stamped_of (cond b (Some s) x)
found-stored true s x = refl
found-stored false s x = refl

pub find-stored : (q : List ℕ) (es : List (List ℕ × spec.Stored)) → find key_cmp q (map stored es) ≡ option_map stamped_of (find key_cmp q es)
unfolding stored
find-stored q [] = refl
find-stored q (e ∷ es) =
    ap (λ (x : Option Stamped). cond (eq_by_cmp key_cmp q e.0) (Some (stamped_of e.1)) x) (find-stored q es)
    ∙ found-stored (eq_by_cmp key_cmp q e.0) e.1 (find key_cmp q es)

below-stored : (k : List ℕ) (es : List (List ℕ × spec.Stored)) → below_all key_cmp k (map stored es) ≡ below_all key_cmp k es
unfolding stored
below-stored k [] = refl
below-stored k (e ∷ es) = ap (λ (b : Bool). is_lt (key_cmp k e.0) && b) (below-stored k es)

pub sorted-stored : (es : List (List ℕ × spec.Stored)) → is_sorted key_cmp (map stored es) ≡ is_sorted key_cmp es
unfolding stored
sorted-stored [] = refl
sorted-stored (e ∷ es) =
    ap (λ (b : Bool). b && is_sorted key_cmp (map stored es)) (below-stored e.0 es)
    ∙ ap (λ (b : Bool). below_all key_cmp e.0 es && b) (sorted-stored es)

ends-same : (high : Option (List ℕ)) (k : List ℕ) → is_before high k ≡ below_end key_cmp high k
ends-same None k = refl
ends-same (Some h) k = refl

pub kept-pair : (b : Bool) (e : List ℕ × spec.Stored) (es : List (List ℕ × Stamped)) → cond b (spec.pair_of e ∷ map pair_of es) (map pair_of es) ≡ map pair_of (cond b (stored e ∷ es) es)
unfolding stored
kept-pair true e es = refl
kept-pair false e es = refl

between-stored : (low : List ℕ) (high : Option (List ℕ)) (es : List (List ℕ × spec.Stored)) →
    filter (λ pair. spec.is_from low pair.0 && is_before high pair.0) (map spec.pair_of es) ≡ map pair_of (filter (λ e. between key_cmp low high e.0) (map stored es))
unfolding stored
between-stored low high [] = refl
between-stored low high (e ∷ es) =
    let rest = filter (λ e. between key_cmp low high e.0) (map stored es) in
    ap (λ (ps : List (List ℕ × List ℕ)). cond (spec.is_from low e.0 && is_before high e.0) (spec.pair_of e ∷ ps) ps) (between-stored low high es)
    ∙ ap (λ (b : Bool). cond (spec.is_from low e.0 && b) (spec.pair_of e ∷ map pair_of rest) (map pair_of rest)) (ends-same high e.0)
    ∙ kept-pair (between key_cmp low high e.0) e rest

pub pairs-live : (m : Map) (low : List ℕ) (high : Option (List ℕ)) (lists : List (List LawCell)) → ((key : List ℕ) → value_at key_cmp lists key ≡ found_in m key) →
    pairs_between m low high ≡ map pair_of (live key_cmp (between key_cmp low high) lists)
pairs-live m low high lists values =
    let es = finite.entries m.entries in
    between-stored low high es
    ∙ ap (λ (ps : List (List ℕ × Stamped)). map pair_of ps)
    (live_entries nat_list_cmp_total (between key_cmp low high) lists keys_alike (map stored es)
    (subst (λ (b : Bool). T b) (sym (sorted-stored es)) (finite.entries_sorted m.entries))
    (λ q. find-stored q es ∙ ap (λ (x : Option spec.Stored). option_map stamped_of x) (sym (finite.get-entries m.entries q)) ∙ sym (values q)))

-- The calls on walks

after-runs : (held : Held) (result : Result (Option (List ℕ × List ℕ × ℕ)) ReadFault) (walk after : Cursor) →
    IfOk result (λ answer. LinesPassed walk.falls held (answered_key answer) none_hidden walk.lines.items after.lines.items) → OnErr result (after ≡ walk) →
    runs_of after.lines.items ≡ runs_of walk.lines.items
after-runs held (Ok answer) walk after passes refused = same-runs walk.falls held (answered_key answer) none_hidden walk.lines.items after.lines.items passes
after-runs held (Err fault) walk after passes refused = ap (λ (w : Cursor). runs_of w.lines.items) refused

pub fewer-ahead : (held other : Held) (stamp : ℕ) (result : Result (Option (List ℕ × List ℕ)) ReadFault) (walk after : Cursor) →
    IfOk (with_stamp stamp result) (λ answer. LinesPassed walk.falls held (answered_key answer) none_hidden walk.lines.items after.lines.items) → IfOk (with_stamp stamp result) (IsPassed walk.falls held walk.lines.items after.lines.items) →
    standing.Stands other after → IfOk result (λ answer. OnSome answer (cells_ahead after < cells_ahead walk))
fewer-ahead held other stamp (Ok None) walk after passes pair stands = tt
fewer-ahead held other stamp (Ok (Some p)) walk after passes pair stands = fewer walk.falls after.falls held other (Some p.0) none_hidden p.0 p.1 stamp walk.lines.items after.lines.items passes stands.fit pair
fewer-ahead held other stamp (Err fault) walk after passes pair stands = tt

module _ {D : Type 0} (bytes : D → Option (List ℕ)) (old new : Stored D) (held_is : held_of bytes new ≡ held_of bytes old) (runs_are : opened.runs_of new ≡ opened.runs_of old) where
  pub range-right : (m : Map) (low : List ℕ) (high : Option (List ℕ)) (runs : List Run) (lists : List (List LawCell)) (before now : ℕ) (result : Result Cursor ReadFault) →
      Holds bytes new m → runs ≡ opened.runs_of old → AreSearched (held_of bytes old) runs lists (found_in m) →
      ((lists : List (List LawCell)) → AreRuns (held_of bytes old) runs lists → standing.AreSearched low lists → IfOk result (λ walk. standing.Ahead (held_of bytes old) walk (live key_cmp (between key_cmp low high) lists))) →
      IfOk result (λ walk. (runs_of walk.lines.items ≡ runs) × (walk.end ≡ high) × (walk.falls ≡ false)) → IfErr result (RunsCause (held_of bytes old) runs before now) →
      RangeAnswers m low high (Holds bytes new) (Ahead bytes new) result
  range-right m low high runs lists before now (Ok walk) holds visible ready ahead begins cause = (
    record {
      stamped = live key_cmp (between key_cmp low high) lists;
      cursor = subst (λ (h : Held). standing.Ahead h walk (live key_cmp (between key_cmp low high) lists)) (sym held_is) (ahead lists ready.told (record { sampled = ready.sampled; near = ready.near low }));
      pairs_are = pairs-live m low high lists ready.values;
      visible = begins.0 ∙ visible ∙ sym runs_are;
    },
    holds,
  )
  range-right m low high runs lists before now (Err fault) holds visible ready ahead begins cause =
      (only-runs (held_of bytes old) runs lists before now fault ready.told cause, holds)

  pub next-stands : (stamp : ℕ) (result : Result (Option (List ℕ × List ℕ)) ReadFault) (walk after : Cursor) → Stands bytes old walk → standing.Stands (held_of bytes new) after →
      IfOk (with_stamp stamp result) (λ answer. LinesPassed walk.falls (held_of bytes old) (answered_key answer) none_hidden walk.lines.items after.lines.items) → OnErr (with_stamp stamp result) (after ≡ walk) → Stands bytes new after
  next-stands stamp result walk after stood stands passes refused =
      record { cursor = stands; visible = after-runs (held_of bytes old) (with_stamp stamp result) walk after passes refused ∙ stood.visible ∙ sym runs_are }

  pub next-right : (pairs : List (List ℕ × List ℕ)) (stamp : ℕ) (result : Result (Option (List ℕ × List ℕ)) ReadFault) (walk after : Cursor) (before now : ℕ) → Ahead bytes old walk pairs →
      ((stamped : List (List ℕ × Stamped)) → standing.Ahead (held_of bytes old) walk stamped → TakesNext (standing.Ahead (held_of bytes new) after) stamped (with_stamp stamp result)) →
      IfOk (with_stamp stamp result) (λ answer. LinesPassed walk.falls (held_of bytes old) (answered_key answer) none_hidden walk.lines.items after.lines.items) → OnErr (with_stamp stamp result) (after ≡ walk) →
      IfErr (with_stamp stamp result) (LinesCause walk.falls (held_of bytes old) walk.lines.items before now) → NextAnswers (Ahead bytes new after) pairs result
  next-right pairs stamp result walk after before now ahead takes passes refused cause =
      answers result (takes ahead.stamped ahead.cursor) (after-runs (held_of bytes old) (with_stamp stamp result) walk after passes refused ∙ ahead.visible ∙ sym runs_are) cause
    where
      answers : (result : Result (Option (List ℕ × List ℕ)) ReadFault) → TakesNext (standing.Ahead (held_of bytes new) after) ahead.stamped (with_stamp stamp result) → runs_of after.lines.items ≡ opened.runs_of new →
          IfErr (with_stamp stamp result) (LinesCause walk.falls (held_of bytes old) walk.lines.items before now) → NextAnswers (Ahead bytes new after) pairs result
      answers (Ok None) took visible cause = (
        ahead.pairs_are ∙ ap (λ (ps : List (List ℕ × Stamped)). map pair_of ps) took.0,
        record { stamped = []; cursor = took.1; pairs_are = refl; visible = visible },
      )
      answers (Ok (Some pair)) took visible cause = (
        map pair_of took.0,
        ahead.pairs_are ∙ ap (λ (ps : List (List ℕ × Stamped)). map pair_of ps) took.1,
        record { stamped = took.0; cursor = took.2; pairs_are = refl; visible = visible },
      )
      answers (Err fault) took visible cause = (
        only-lines walk.falls (held_of bytes old) walk.lines.items ahead.cursor.lists before now fault ahead.cursor.told cause,
        record { stamped = ahead.stamped; cursor = took; pairs_are = ahead.pairs_are; visible = visible },
      )

-- How a walk begins, on every file

pub begun-end : (runs : List Run) (end : Option (List ℕ)) (falls : Bool) (result : Result Cursor ReadFault) → IfOk result (λ walk. (runs_of walk.lines.items ≡ runs) × (walk.end ≡ end) × (walk.falls ≡ falls)) → IfOk result (λ walk. walk.end ≡ end)
begun-end runs end falls (Ok walk) begins = begins.1
begun-end runs end falls (Err fault) begins = tt

pub begun-way : (runs : List Run) (end : Option (List ℕ)) (falls : Bool) (result : Result Cursor ReadFault) → IfOk result (λ walk. (runs_of walk.lines.items ≡ runs) × (walk.end ≡ end) × (walk.falls ≡ falls)) → IfOk result (λ walk. walk.falls ≡ falls)
begun-way runs end falls (Ok walk) begins = begins.2
begun-way runs end falls (Err fault) begins = tt

module _ {D K : Type 0} (bytes : D → Option (List ℕ)) (counts : D → Counts) (kept : D → K) where
  pub range-given : (store : Stored D) (now : Contents D) (low : List ℕ) (high : Option (List ℕ)) (runs : List Run) (ticks ticks' : ℕ) (result : Result Cursor ReadFault) → runs ≡ opened.runs_of store →
      chain.held_of bytes now ≡ held_of bytes store → chain.kept_of bytes counts kept now ≡ chain.kept_of bytes counts kept store.chain →
      SeekGives runs low high (record { held = held_of bytes store; spent = spent_of counts store }) (record { held = chain.held_of bytes now; spent = chain.spent_of counts now }) ticks ticks' result →
      Begins bytes counts store low high result (record { chain = now; count = store.count; last = store.last; account = store.account })
  range-given store now low high runs ticks ticks' result visible held_is kept_is seeks =
      record {
        ends = begun-end runs high false result seeks.begins;
        way = begun-way runs high false result seeks.begins;
        places = subst (λ (rs : List Run). (lists : List (List LawCell)) → AreRuns (held_of bytes store) rs lists → IfOk result (λ walk. map (λ line. line.place) walk.lines.items ≡ places_from low 0 lists)) visible seeks.places;
        exact = subst (λ (rs : List Run). Answers (places_told (held_of bytes store) low 0 rs) (λ (walk : Cursor). places_of walk.lines) result) visible seeks.exact;
        few = subst (λ (rs : List Run). (chain.spent_of counts now).turned ≤ (spent_of counts store).turned + 2 * length rs) visible seeks.costs.turned_rises;
        cause = subst (λ (rs : List Run). IfErr result (RunsCause (held_of bytes store) rs (spent_of counts store).faults (chain.spent_of counts now).faults)) visible seeks.cause;
        turns = turns_few (spent_of counts store) (chain.spent_of counts now) ticks ticks' (left_sought result) (range_ticks (levels_of store)) seeks.reading.costs seeks.left;
        same = same bytes counts kept store now store.account held_is kept_is;
        account_is = refl;
      }

pub gone-cause : (stamp : ℕ) (result : Result (Option (List ℕ × List ℕ)) ReadFault) (Cause : ReadFault → Type 0) → IfErr (with_stamp stamp result) Cause → IfErr result Cause
gone-cause stamp (Ok answer) Cause cause = tt
gone-cause stamp (Err fault) Cause cause = cause

-- Calls on a walk, one after another

turns-then : (old mid new : Spent) (most left less : ℕ) → TurnsWithin old mid left most → TurnsWithin mid new less left → TurnsWithin old new less most
turns-then old mid new most left less a b =
    let x = a.turned_stays in
    let y = a.turned_rises in
    let z = b.turned_stays in
    let w = b.turned_rises in
    record {
      turned_stays = omega (arith, x, z);
      turned_rises = omega (arith, y, w);
      written_is = b.written_is ∙ a.written_is;
      ticks = ticks_then old mid new most left less a.ticks b.ticks;
    }

module _ {D : Type 0} (bytes : D → Option (List ℕ)) (counts : D → Counts) where
  goes-on : (mid new : Stored D) (walk last : Cursor) → GoesOn bytes counts mid walk new last → TurnsWithin (spent_of counts mid) (spent_of counts new) (left_of last) (left_of walk)
  goes-on mid new walk last Stays = record { turned_stays = omega arith; turned_rises = omega arith; written_is = refl; ticks = none_made (spent_of counts mid) (left_of walk) }
  goes-on old new walk last (Then {mid = mid} {after = after} answer goes rest) =
      turns-then (spent_of counts old) (spent_of counts mid) (spent_of counts new) (left_of walk) (left_of after) (left_of last) goes.turns (goes-on mid new after last rest)

  pub walk-turns : (old mid new : Stored D) (walk last : Cursor) → TurnsWithin (spent_of counts old) (spent_of counts mid) (left_of walk) (range_ticks (levels_of old)) →
      GoesOn bytes counts mid walk new last → TurnsWithin (spent_of counts old) (spent_of counts new) (left_of last) (range_ticks (levels_of old))
  walk-turns old mid new walk last begun goes =
      turns-then (spent_of counts old) (spent_of counts mid) (spent_of counts new) (range_ticks (levels_of old)) (left_of walk) (left_of last) begun (goes-on mid new walk last goes)
