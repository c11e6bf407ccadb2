-- The pairs of a file that are copied to a new one: one pair more of a walk, all of them, and what that answers where the file stands for a map.
use Rattle.std.proofs.Common.{Bool, false, ◌≡◌, inl, inr, ℕ, ◌+◌, ◌-◌, ◌≤◌, ◌<◌, List, [], ◌∷◌, ◌++◌, length, map, Option, Some, None, Result, Ok, Err, refl, sym, ap, subst, ◌∙◌, arith, zero, suc, ◌%◌, take, get_or, All, nat_le, ◌&&◌, true, cond, T, filter, Less, Ordering, ◌==◌, if◌then◌else◌}
use Rattle.std.specs.Prelude.{IfSome, IsErrAnd, OnOk}
use Rattle.std.proofs.lemmas.List.{append_assoc, append-nil, map-append, length-append, length-map, take_more, take_all}
use Rattle.std.proofs.lemmas.Option.{IfSome_then}
use Rattle.cola_outside.specs.Told.{Both}
use Rattle.cola_cell.specs.declared.cell.Run.{Run}
use Rattle.cola_cell.specs.declared.fault.ReadFault.{ReadFault}
use Rattle.cola_cell.specs.declared.fault.ReadFault.TheVariants as read
use Rattle.cola_cell.specs.Held.{Held, Stamped, LawCell, Spot, Spots, Untold, Bad, Told, Tells}
use Rattle.cola_cursor.specs.declared.cursor.Cursor.{Cursor}
use Rattle.cola_cursor.specs.declared.line.Line.{Line}
use Rattle.cola_cursor.specs.Results.{LinesCause, HasBadLine}
use Rattle.cola_cursor.specs.Seeking.{HasBadRun, LevelsRise, RunsCause}
use Rattle.cola_cursor.specs.Standing.{Ahead, TakesNext, LinesPassed, AnyHasValue, IsPassed, none_hidden, answered_key, runs_of, AreSearched}
use Rattle.cola_cursor.specs.Lines.{LineFits}
use Rattle.cola_cursor.specs.Way.{at}
use Rattle.cola_look.proofs.KeyLemmas.{keys_alike}
use Rattle.cola_cursor.proofs.Keys.{at_within}
use Rattle.cola_runs.proofs.Order.{all_append}
use Rattle.std.specs.List.{AllByRecursion}
use Rattle.cola_device.specs.declared.counts.Counts.{Counts}
use Rattle.cola_device.specs.Counts.{Called}
use Rattle.cola_opening.specs.Counted.{Spends}
use Rattle.cola_opening.proofs.Spending.{spends-then, spends-more, called-spends}
use Rattle.cola_layout.specs.declared.geometry.Geometry.{Geometry}
use Rattle.cola_load.specs.declared.fault.GrowFault.{GrowFault}
use Rattle.cola_load.specs.declared.growing.Filling.{Filling}
use Rattle.cola_load.specs.declared.fault.GrowFault.TheVariants.{BadCell, Disorder, Device}
use Rattle.cola_load.specs.Filled.{Row, row_of_entry, rows_of, AreRows, IsFilled}
use Rattle.cola_load.specs.Loading.{Loading, HoldsRows, IsHeadless, StaysInFront, Pushes, last_key, full_blocks, IsAbove, IsUnfinished, Finishes, HasBegun, Begins}
use Rattle.cola_load.proofs.Blocks.{blocks-rise}
use Rattle.cola_load.proofs.Placing.{some-given}
use Rattle.cola_load.proofs.Saving.{last-is, headless-then}
use Rattle.cola_load.specs.Growing.{IsValueOf, pair_of, Breaks, IsFillingOf, GaveAll, IsCopied, IsStopped, CopiesNext, CopiesAll, WritesOne, WritesNext, WritesRows, unread_as, visible_runs, runs_in, least, AreValuesOf, IsWalked, Walks, OfPairs, IsBegun}
use Rattle.std.proofs.lemmas.List.Elements.{All-from_recursion, All-same, All-head, All-tail}
use Rattle.cola_clock.specs.Clock.{period, visible_slot}
use Rattle.cola_clock.specs.Marks.{Marks, AreAllMarks, marks_at, Marks as LevelMarks}
use Rattle.cola_layout.specs.declared.header.Header.{Header}
use Rattle.cola_layout.specs.declared.marks.Marks as layout
use Rattle.cola_layout.specs.Marks.{all_numbers, marks_of}
use Rattle.cola_layout.proofs.Levels.{numbers-length, number-at}
use Rattle.cola_look.specs.Runs.{HasRun, AreRuns, BeginsNear}
use Rattle.std.specs.FinMap as finite
use Rattle.std.specs.FinMap.{is_sorted}
use Rattle.std.specs.FinMap.Entries.{below_all}
use Rattle.std.specs.Ordering.{is_lt, is_le, ordering_then}
use Rattle.std.specs.Cmp.{nat_cmp_is}
use Rattle.std.proofs.lemmas.Bool.{and_parts, leb-true}
use Rattle.std.specs.Cmp.Lexicographic.{nat_list_cmp_total}
use Rattle.cola_cell.specs.declared.cell.Cell.{Cell}
use Rattle.cola_cell.specs.declared.format.Format.{Format}
use Rattle.cola_cell.specs.Decoded.{decoded}
use Rattle.cola_cell.specs.Flat.{spot_of}
use Rattle.cola_cell.specs.Listed.{Stands}
use Rattle.cola_cell.specs.Order.{key_cmp}
use Rattle.cola_cell.specs.Places.{number_of, slot_size}
use Rattle.cola_layout.specs.Cells.{cell_bytes, file_spots, slot_cells}
use Rattle.cola_image.specs.Standing.{found_in, AreRunsTold, AreRunsAlike, LevelsStandFor, HeaderStandsFor}
use Rattle.cola_laws.specs.Chain.{visibles, value_at}
use Rattle.cola_laws.specs.Plain.{IsSoundChain}
use Rattle.cola_laws.specs.Slots.{levels_of}
use Rattle.cola_laws.proofs.Facts.{visible-sampled}
use Rattle.cola_pairs.specs.Live.{live, between}
use Rattle.cola_pairs.proofs.LivePairs.{live_entries}
use Rattle.cola_pairs.proofs.Order.{first, second, holds as is_true, all_change}
use Rattle.cola_run.specs.Saving as run
use Rattle.cola_runs.specs.Cells.{key_of, Entry, Value}
use Rattle.cola_runs.specs.Search as laws
use Rattle.cola_spec.specs.Map.{Map, EntryFits, Shape, is_key, count}
use Rattle.cola_shapes.specs.Shapes.{shape_of}
use Rattle.cola_cell.specs.ToldCells.{IsTold, cells}
use Rattle.cola_cell.proofs.CellLists.{length-cells}
use Rattle.cola_cell.proofs.ToldRuns.{told_is}
use Rattle.cola_verdict.specs.Tests.{live_pairs, run_len, tested_of}
use Rattle.cola_verdict.proofs.Living.{pairs-find, pairs-rise}
use Rattle.cola_verdict.proofs.Mapped.{stored-pair, entries-are, count-is}
use Rattle.cola_load.specs.Grow.{AreListed, AreInFile, OfFilePairs, AreFilePairs, IsForNone, IsLeftHeadless, Copies, Uncalled, NotBegun, Headless, NotFinished, unbegun_as}
use Rattle.cola_outside.specs.Faults.{Rose}
use Rattle.cola_device.specs.declared.device.Device as device
use Rattle.cola_device.specs.Settling.{IsSettled}
use Rattle.cola_image.proofs.StandingLemmas.{stand-alike}
use Rattle.cola_layout.specs.Fields.{fields_of}
use Rattle.cola_verdict.proofs.Runs.{told-cells}
use Rattle.cola_load.specs.declared.fault.LoadFault.{LoadFault}
use Rattle.cola_load.specs.declared.fault.LoadFault.TheVariants as load

-- ---- lines that go on

pub same-runs : (falls : Bool) (held : Held) (answered : Option (List ℕ)) (hidden : List ℕ → Type 0) (olds news : List Line) → LinesPassed falls held answered hidden olds news → runs_of news ≡ runs_of olds
same-runs falls held answered hidden [] [] p = refl
same-runs falls held answered hidden (old ∷ olds) (new ∷ news) p =
    ap (λ (r : Run). r ∷ runs_of news) p.0.run_is ∙ ap (λ (rs : List Run). old.run ∷ rs) (same-runs falls held answered _ olds news p.1)
same-runs falls held answered hidden olds news p = absurd p

bad-run : (falls : Bool) (held : Held) (number : ℕ) (lines : List Line) → HasBadLine falls held number lines → HasBadRun held number (runs_of lines)
bad-run falls held number [] bad = bad
bad-run falls held number (line ∷ lines) (inl b) = inl (record { index = at falls line.run.len b.index; within = at_within falls line.run.len b.index b.within; bad = b.bad })
bad-run falls held number (line ∷ lines) (inr b) = inr (bad-run falls held number lines b)

-- a value that was passed stands in a run
pub passed-value : (falls now : Bool) (held other : Held) (answered : Option (List ℕ)) (hidden : List ℕ → Type 0) (row : Row) (olds news : List Line) → LinesPassed falls held answered hidden olds news → AllByRecursion (LineFits now other) news →
    AnyHasValue falls held row.key row.value row.stamp olds news → IsValueOf held.spots (runs_of olds) row
passed-value falls now held other answered hidden row (old ∷ olds) (new ∷ news) p fits (inl h) =
    let n : new.run.len ≡ old.run.len = ap (λ (r : Run). r.len) p.0.run_is in
    inl (record { index = at falls old.run.len h.index; within = at_within falls old.run.len h.index (omega (arith, n, h.before, fits.0.place_in)); young = h.young; link = h.link; told = h.told })
passed-value falls now held other answered hidden row (old ∷ olds) (new ∷ news) p fits (inr h) = inr (passed-value falls now held other answered _ row olds news p.1 fits.1 h)
passed-value falls now held other answered hidden row olds news p fits h = absurd h

-- ---- a file that has no header yet

pub no-header : (loading : Loading) (told : Option (List ℕ)) (rows : List Row) → IfSome told (λ bytes. HoldsRows loading bytes rows) → IfSome told IsHeadless
no-header loading told rows holds = IfSome_then told holds (λ bytes h. h.no_header)

-- nor after a block behind the front was refused
pub no-header-then : (loading : Loading) (told now : Option (List ℕ)) (rows : List Row) → IfSome told (λ bytes. HoldsRows loading bytes rows) → Both told now (StaysInFront loading.geometry) → IfSome now IsHeadless
no-header-then loading told now rows holds stays = some-given told now holds stays (λ x y held s. headless-then loading.geometry x y s held.no_header)

-- ---- one more pair

module _ {held now : Held} {begun old : Cursor} {loading : Loading} {told : Option (List ℕ)} {rows : List Row} (same : now ≡ held) (copied : IsCopied held begun old loading told rows) (new : Cursor) (answer : Option (List ℕ × List ℕ × ℕ))
    (passes : LinesPassed old.falls held (answered_key answer) none_hidden old.lines.items new.lines.items) (takes : (pairs : List (List ℕ × Stamped)) → Ahead held old pairs → TakesNext (Ahead now new) pairs (Ok answer)) where
  runs-stay : runs_of new.lines.items ≡ runs_of begun.lines.items
  runs-stay = same-runs old.falls held (answered_key answer) none_hidden old.lines.items new.lines.items passes ∙ copied.runs_are

  -- the pairs that were ahead are the rows so far, and those of which this answer takes the first
  took : (o : Option (List ℕ × List ℕ × ℕ)) → answer ≡ o → (pairs : List (List ℕ × Stamped)) → Ahead held begun pairs →
      (left : List (List ℕ × Stamped)) × ((pairs ≡ map pair_of rows ++ left) × TakesNext (Ahead held new) left (Ok o))
  took o is pairs ahead =
      let before = copied.gave pairs ahead in
      (before.0, (before.1.0, subst (λ (x : Option (List ℕ × List ℕ × ℕ)). TakesNext (Ahead held new) before.0 (Ok x)) is (subst (λ (h : Held). TakesNext (Ahead h new) before.0 (Ok answer)) same (takes before.0 before.1.1))))

  pub next-none : answer ≡ None → IsCopied held begun new loading told rows × GaveAll held begun rows
  next-none is =
      let whole : IsCopied held begun new loading told rows = record {
        runs_are = runs-stay;
        gave = λ pairs ahead. let t = took None is pairs ahead in ([], (t.1.0 ∙ ap (λ (left : List (List ℕ × Stamped)). map pair_of rows ++ left) t.1.1.0, t.1.1.1));
        many = copied.many;
        key_is = copied.key_is;
        holds = copied.holds;
        given = copied.given;
      } in
      (whole, λ pairs ahead. (whole.gave pairs ahead).1.0 ∙ append-nil (map pair_of rows))

  module _ (pair : List ℕ × List ℕ × ℕ) (is : answer ≡ Some pair) (fits : AllByRecursion (LineFits new.falls now) new.lines.items) (passed : IsPassed old.falls held old.lines.items new.lines.items answer) where
    abbrev the-row : Row
    the-row = record { key = pair.0; value = pair.1; stamp = pair.2 }

    given-here : IsValueOf held.spots (runs_of begun.lines.items) the-row
    given-here = subst (λ (rs : List Run). IsValueOf held.spots rs the-row) copied.runs_are
        (passed-value old.falls new.falls held now (answered_key answer) none_hidden the-row old.lines.items new.lines.items passes fits (subst (IsPassed old.falls held old.lines.items new.lines.items) is passed))

    pub next-stops : (filling : Filling) → IsFillingOf filling loading → Breaks filling.geometry filling.last filling.rows filling.key the-row →
        IsStopped held begun filling.geometry filling.last told rows (filling.rows + 1)
    next-stops filling fills breaks =
        let many : filling.rows ≡ length rows = sym fills.rows_are ∙ copied.many in
        let key : filling.key ≡ last_key rows = sym fills.key_is ∙ copied.key_is in
        record {
          row = the-row;
          number_is = ap (λ (n : ℕ). n + 1) many;
          breaks = subst (λ (n : ℕ). Breaks filling.geometry filling.last n (last_key rows) the-row) many (subst (λ (k : Option (List ℕ)). Breaks filling.geometry filling.last filling.rows k the-row) key breaks);
          gave = λ pairs ahead. let t = took (Some pair) is pairs ahead in (t.1.1.0, t.1.0 ∙ ap (λ (left : List (List ℕ × Stamped)). map pair_of rows ++ left) t.1.1.1);
          given = (given-here, copied.given);
          headless = no-header loading told rows copied.holds;
        }

    pub next-copied : {T : Type 0} (E : Type 0) (done : T) (after : Loading) (told_now : Option (List ℕ)) → Both told told_now (Pushes {T = T} {E = E} (Ok done) loading after the-row) →
        after.rows ≡ loading.rows + 1 → after.key ≡ Some the-row.key → IsCopied held begun new after told_now (rows ++ the-row ∷ [])
    next-copied E done after told_now pushes more key = record {
      runs_are = runs-stay;
      gave = λ pairs ahead.
          let t = took (Some pair) is pairs ahead in (
            t.1.1.0,
            (
              t.1.0 ∙ ap (λ (left : List (List ℕ × Stamped)). map pair_of rows ++ left) t.1.1.1
                  ∙ sym (append_assoc (map pair_of rows) (pair_of the-row ∷ []) t.1.1.0)
                  ∙ ap (λ (ps : List (List ℕ × Stamped)). ps ++ t.1.1.0) (sym (map-append pair_of rows (the-row ∷ []))),
              t.1.1.2,
            ),
          );
      many = let e = copied.many in let l = length-append rows (the-row ∷ []) in omega (arith, more, e, l);
      key_is = key ∙ sym (last-is rows the-row);
      holds = some-given told told_now copied.holds pushes (λ x y held p. p rows held);
      given = all_append (IsValueOf held.spots (runs_of begun.lines.items)) rows (the-row ∷ []) copied.given (given-here, tt);
    }

-- ---- a refusal

pub next-unread : (held : Held) (begun old new : Cursor) (loading after : Loading) (told : Option (List ℕ)) (rows : List Row) (geometry : Geometry) (last before now : ℕ) (fault : ReadFault) (result : GrowFault) →
    result ≡ unread_as fault → LinesCause old.falls held old.lines.items before now fault → IsCopied held begun old loading told rows → CopiesNext held begun geometry last rows new after told (Err result)
next-unread held begun old new loading after told rows geometry last before now (read.BadCell number) result is cause copied =
    rw is (subst (HasBadRun held number) copied.runs_are (bad-run old.falls held number old.lines.items cause), no-header loading told rows copied.holds)
next-unread held begun old new loading after told rows geometry last before now read.Device result is cause copied = rw is (no-header loading told rows copied.holds)

-- a fault that is handed on
pub refused-as : {T : Type 0} (result : Result T GrowFault) (fault : GrowFault) (P : Result T GrowFault → Type 0) → IsErrAnd result (λ e. e ≡ fault) → P (Err fault) → P result
refused-as (Ok value) fault P is h = absurd is
refused-as (Err other) fault P is h = subst (λ (f : GrowFault). P (Err f)) (sym is) h

-- ---- what is written

pub pushed-spends : {T E : Type 0} {result : Result T E} {before now : Counts} (filling : Filling) (loading : Loading) → IsFillingOf filling loading → filling.rows < filling.geometry.keys →
    Called before now 0 (full_blocks loading.geometry (loading.rows + 1) - full_blocks loading.geometry loading.rows) 0 result →
    (filling.rows < filling.geometry.keys) × Spends before now 0 (full_blocks filling.geometry (filling.rows + 1) - full_blocks filling.geometry filling.rows) 0
pushed-spends filling loading fills room called = (room, rw (← fills.geometry_is, ← fills.rows_are) (called-spends called))

-- ---- all pairs

-- what copying the next pair says behind the rows so far, where the cells stay
pub copied-next : {held now : Held} {begun cursor : Cursor} {loading : Loading} {told : Option (List ℕ)} {rows : List Row} {result shown : Result (Option Filling) GrowFault}
    (geometry : Geometry) (last : ℕ) (new : Cursor) (after : Loading) (told_now : Option (List ℕ)) →
    now ≡ held → result ≡ shown → ((begun : Cursor) (rows : List Row) → IsCopied now begun cursor loading told rows → CopiesNext now begun geometry last rows new after told_now result) → IsCopied held begun cursor loading told rows →
    CopiesNext held begun geometry last rows new after told_now shown
copied-next {held = held} {begun = begun} {cursor = cursor} {loading = loading} {told = told} {rows = rows} {result = result} geometry last new after told_now same is copies copied =
    subst (CopiesNext held begun geometry last rows new after told_now) is
    (subst (λ (h : Held). IsCopied h begun cursor loading told rows → CopiesNext h begun geometry last rows new after told_now result) same (copies begun rows) copied)

pub all-refused : (held : Held) (begun cursor : Cursor) (loading : Loading) (told : Option (List ℕ)) (geometry : Geometry) (last : ℕ) (rows : List Row) (fault : GrowFault) →
    CopiesNext held begun geometry last rows cursor loading told (Err fault) → CopiesAll held begun geometry last cursor loading told (Err fault)
all-refused held begun cursor loading told geometry last rows (Disorder number) next = (rows, next)
all-refused held begun cursor loading told geometry last rows fault next = next

-- a call that wrote for one row more behind those for so many, and one that did so or was refused before
module _ (geometry : Geometry) (filling : Filling) (a b c : Counts) (same : filling.geometry ≡ geometry) (before : Spends a b 0 (full_blocks geometry filling.rows) 0) where
  pub writes-one : WritesOne filling b c → Spends a c 0 (full_blocks geometry (filling.rows + 1)) 0
  writes-one wrote =
      let step = subst (λ (g : Geometry). Spends b c 0 (full_blocks g (filling.rows + 1) - full_blocks g filling.rows) 0) same wrote.1 in
      spends-then before step (omega arith) (omega (arith, blocks-rise geometry filling.rows (filling.rows + 1) (omega arith))) (omega arith)

  pub writes-refused : (fault : GrowFault) → filling.rows ≤ filling.geometry.keys → WritesNext filling b c (Err fault) → WritesRows geometry a c 0 0 (Err fault)
  writes-refused fault few (inl stays) = record { rows = filling.rows; few = subst (λ (g : Geometry). filling.rows ≤ g.keys) same few; rows_are = tt; spends = rw stays (spends-more before (omega arith) (omega arith) (omega arith)) }
  writes-refused fault few (inr wrote) =
      let room = subst (λ (g : Geometry). filling.rows < g.keys) same wrote.0 in
      record { rows = filling.rows + 1; few = omega (arith, room); rows_are = tt; spends = spends-more (writes-one wrote) (omega arith) (omega arith) (omega arith) }

-- ---- the visible runs of a header, as a cursor takes them

pub slot-in : (t j : ℕ) → visible_slot t j < 2
unfolding visible_slot
slot-in t j = let h : period t j % 2 < 2 = omega arith in h

pub levels-rise : (t j : ℕ) (marks : List Marks) → LevelsRise j (visible_runs t j marks)
levels-rise t j [] = tt
levels-rise t j (m ∷ ms) = let e : j ≤ j = omega arith in (e, levels-rise t (suc j) ms)

runs-have : (held : Held) (t j above : ℕ) (marks : List Marks) → AreAllMarks 0 t j above marks → j + length marks ≤ held.fixed.levels → AllByRecursion (HasRun held) (visible_runs t j marks)
runs-have held t j above [] fit within = tt
runs-have held t j above (m ∷ ms) fit within = (
  record { level_in = omega (arith, within); slot_in = slot-in t j; within = fit.0.visible_fits },
  runs-have held t (suc j) m.visible ms fit.1 (omega (arith, within)),
)

-- the runs of a header are those of an object with its levels
pub header-has : (header : Header) (held : Held) → held.fixed.levels ≡ header.geometry.bottom + 1 → All (HasRun held) (runs_in header)
header-has header held levels =
    All-from_recursion (HasRun held) (runs_in header) (runs-have held header.clock 0 0 (all_numbers header.levels.items) header.marks_fit (omega (arith, header.one_each, numbers-length header.levels.items, levels)))

-- ---- one run more

-- a run for each level
pub runs-many : (t j : ℕ) (marks : List Marks) → length (visible_runs t j marks) ≡ length marks
runs-many t j [] = refl
runs-many t j (m ∷ ms) = ap suc (runs-many t (suc j) ms)

-- the run of a level
run-at : (t j k : ℕ) (marks : List Marks) (none : Run) → k < length marks → get_or (visible_runs t j marks) k none ≡ record { level = j + k; slot = visible_slot t (j + k); len = (marks_at marks k).visible }
run-at t j k [] none within = absurd (omega (arith, within))
run-at t j zero (m ∷ ms) none within = let e : j ≡ j + 0 = omega arith in ap {B = Run} (λ (n : ℕ). record { level = n; slot = visible_slot t n; len = m.visible }) e
run-at t j (suc k) (m ∷ ms) none within =
    let e : suc j + k ≡ j + suc k = omega arith in run-at t (suc j) k ms none (omega (arith, within)) ∙ ap {B = Run} (λ (n : ℕ). record { level = n; slot = visible_slot t n; len = (marks_at ms k).visible }) e

-- runs that were pushed, and that of a level
pub one-more : (header : Header) (j slot : ℕ) (marks : layout.Marks) (runs : List Run) → j < header.geometry.bottom + 1 → slot ≡ visible_slot header.clock j → marks ≡ marks_of header.levels.items j →
    runs ≡ take j (runs_in header) → runs ++ record { level = j; slot = slot; len = marks.visible } ∷ [] ≡ take (j + 1) (runs_in header)
one-more header j slot marks runs within slot-is marks-are so_far =
    let numbers = all_numbers header.levels.items in
    let e : j ≡ 0 + j = omega arith in
    let here : j < length numbers = omega (arith, within, header.one_each, numbers-length header.levels.items) in
    let run : Run = record { level = j; slot = slot; len = marks.visible } in
    (λ i. so_far i ++ record { level = e i; slot = (slot-is ∙ ap (visible_slot header.clock) e) i; len = (ap (λ (m : layout.Marks). m.visible) marks-are ∙ ap (λ (m : Marks). m.visible) (sym (number-at header.levels.items j))) i } ∷ [])
    ∙ ap (λ (r : Run). take j (runs_in header) ++ r ∷ []) (sym (run-at header.clock 0 j numbers run here)) ∙ sym (take_more (runs_in header) j run (omega (arith, here, runs-many header.clock 0 numbers)))

pub all-pushed : (header : Header) (j : ℕ) (runs : List Run) → header.geometry.bottom + 1 ≤ j → runs ≡ take j (runs_in header) → runs ≡ runs_in header
all-pushed header j runs past so_far =
    so_far ∙ take_all j (runs_in header) (omega (arith, past, header.one_each, numbers-length header.levels.items, runs-many header.clock 0 (all_numbers header.levels.items)))

-- ---- the runs of an object that tells the cells of a file

module _ (geometry : Geometry) (held : Held) (bytes : List ℕ) (same : run.AreFileSpots geometry held.spots bytes) (t : ℕ) where
  pub runs-alike : (j above : ℕ) (marks : List Marks) → AreAllMarks 0 t j above marks → j + length marks ≤ geometry.bottom + 1 →
      AreRunsAlike (file_spots geometry.format bytes) held.spots t j marks
  runs-alike j above [] fit within = tt
  runs-alike j above (m ∷ ms) fit within = (
    λ i h. same j (visible_slot t j) i (record { level_in = omega (arith, within); slot_in = slot-in t j; index_in = let f : m.visible ≤ slot_size j = fit.0.visible_fits in omega (arith, h, f) }),
    λ i h. same j (1 - visible_slot t j) i (record { level_in = omega (arith, within); slot_in = omega arith; index_in = let f : m.shadow ≤ slot_size j = fit.0.shadow_fits in omega (arith, h, f) }),
    runs-alike (suc j) m.visible ms fit.1 (omega (arith, within)),
  )

-- cells that stand somewhere stand where spots are alike
stands-there : (there here : ℕ → Spot) (i : ℕ) (cells : List LawCell) → ((k : ℕ) → k < i + length cells → here k ≡ there k) → Stands there i cells → Stands here i cells
stands-there there here i [] alike told = tt
stands-there there here i (c ∷ cells) alike told = (alike i (omega arith) ∙ told.0, stands-there there here (suc i) cells (λ k h. alike k (omega (arith, h))) told.1)

tells-bad : (found : Option Cell) → Tells (spot_of found) Bad → found ≡ None
tells-bad None e = refl
tells-bad (Some cell) e = cc

not-bad : (spot : Spot) → IsTold spot → Tells spot Bad → ⊥
not-bad Untold told bad = cc
not-bad spot told bad = cc

module _ (format : Format) (held : Held) (bytes : List ℕ) (t : ℕ) where
  -- runs that the file tells to be lists are those of the object
  pub runs-listed : (j : ℕ) (marks : List Marks) → AreRunsAlike (file_spots format bytes) held.spots t j marks → (lists : List (List LawCell)) →
      AreListed (file_spots format bytes) (visible_runs t j marks) lists → AreRuns held (visible_runs t j marks) lists
  runs-listed j [] alike [] listed = tt
  runs-listed j (m ∷ ms) alike (cells ∷ lists) listed = (
    record {
      length_is = listed.0.0;
      stands = stands-there (file_spots format bytes j (visible_slot t j)) (held.spots j (visible_slot t j)) 0 cells (λ k h. alike.0 k (let e : m.visible ≡ length cells = listed.0.0 in omega (arith, h, e))) listed.0.1;
    },
    runs-listed (suc j) ms alike.2 lists listed.1,
  )
  runs-listed j marks alike lists listed = absurd listed

  -- a bad cell of a visible run is one of the file
  pub bad-cell : (number j : ℕ) (marks : List Marks) → AreRunsAlike (file_spots format bytes) held.spots t j marks → HasBadRun held number (visible_runs t j marks) → decoded format (cell_bytes format bytes number) ≡ None
  bad-cell number j [] alike bad = absurd bad
  bad-cell number j (m ∷ ms) alike (inl b) = subst (λ (n : ℕ). decoded format (cell_bytes format bytes n) ≡ None) (sym b.bad.number_is)
      (tells-bad (decoded format (cell_bytes format bytes (number_of j (visible_slot t j) b.index))) (subst (λ (s : Spot). Tells s Bad) (alike.0 b.index b.within) b.bad.told))
  bad-cell number j (m ∷ ms) alike (inr b) = bad-cell number (suc j) ms alike.2 b

  -- and a value of one is a value of the file
  pub value-there : (row : Row) (j : ℕ) (marks : List Marks) → AreRunsAlike (file_spots format bytes) held.spots t j marks → IsValueOf held.spots (visible_runs t j marks) row → IsValueOf (file_spots format bytes) (visible_runs t j marks) row
  value-there row j [] alike h = absurd h
  value-there row j (m ∷ ms) alike (inl h) =
      inl (record {
        index = h.index;
        within = h.within;
        young = h.young;
        link = h.link;
        told = subst (λ (s : Spot). Tells s (Told (Entry row.key (Value (record { value = row.value; stamp = row.stamp })) h.young h.link))) (alike.0 h.index h.within) h.told;
      })
  value-there row j (m ∷ ms) alike (inr h) = inr (value-there row (suc j) ms alike.2 h)

-- the visible runs are told to be those of the levels
pub runs-are : (held : Held) (t j : ℕ) (marks : List Marks) → AreRunsTold held.spots t j marks → AreRuns held (visible_runs t j marks) (visibles (levels_of (slot_cells held.spots) t j marks))
runs-are held t j [] told = tt
runs-are held t j (m ∷ ms) told = (told_is held (record { level = j; slot = visible_slot t j; len = m.visible }) told.0, runs-are held t (suc j) ms told.2)

place-within : (key : List ℕ) (list : List LawCell) → laws.place key_cmp key list ≤ length list
place-within key [] = omega arith
place-within key (c ∷ list) = elim (is_lt (key_cmp (key_of c) key)) as (λ b. cond b (suc (laws.place key_cmp key list)) 0 ≤ suc (length list)) [
  | true ↦ omega (arith, place-within key list)
  | false ↦ omega arith
]

pub begins-near : (spots : Spots) (t above : ℕ) (marks : List Marks) → AreAllMarks 0 t 0 above marks → (key : List ℕ) → BeginsNear key (visibles (levels_of (slot_cells spots) t 0 marks))
begins-near spots t above [] fit key = tt
begins-near spots t above (m ∷ ms) fit key =
    omega (arith, length-cells (spots 0 (visible_slot t 0)) 0 m.visible, place-within key (cells (spots 0 (visible_slot t 0)) 0 m.visible), fit.0.visible_fits)

pub chain-says : (most t : ℕ) (f : List ℕ → Option Stamped) (spots : Spots) (marks : List Marks) → IsSoundChain key_cmp most t f (levels_of (slot_cells spots) t 0 marks) →
    laws.AreSampled key_cmp (visibles (levels_of (slot_cells spots) t 0 marks)) × ((q : List ℕ) → value_at key_cmp (visibles (levels_of (slot_cells spots) t 0 marks)) q ≡ f q)
chain-says most t f spots [] sound = absurd sound
chain-says most t f spots (m ∷ ms) sound = (visible-sampled key_cmp most t 0 (visibles (levels_of (slot_cells spots) t 0 (m ∷ ms))) sound.sound.visible, sound.sound.stands)

-- ---- a key of a map is not below the least key

from-least : (key : List ℕ) → 1 ≤ length key → is_le (key_cmp least key) ≡ true
from-least [] some = absurd (omega (arith, some))
from-least (zero ∷ []) some = refl
from-least (zero ∷ byte ∷ bytes) some = refl
from-least (suc n ∷ bytes) some =
    ap (λ (r : Ordering). is_le (ordering_then r (key_cmp [] bytes))) (sym (nat_cmp_is 0 (suc n) Less (omega arith)))

key-size : (shape : Shape) (key : List ℕ) → is_key shape key ≡ true → (1 ≤ length key) × (length key ≤ shape.key_limit)
key-size shape key e =
    let parts = and_parts (nat_le 1 (length key)) (nat_le (length key) shape.key_limit) e in (leb-true 1 (length key) parts.0, leb-true (length key) shape.key_limit parts.1)

all-kept : (shape : Shape) (last : ℕ) (pairs : List (List ℕ × Stamped)) → All (EntryFits shape last) (map stored-pair pairs) → filter (λ e. between key_cmp least None e.0) pairs ≡ pairs
all-kept shape last [] fit = refl
all-kept shape last (pair ∷ pairs) fit =
    let from : is_le (key_cmp least pair.0) ≡ true = from-least pair.0 (key-size shape pair.0 (All-head (EntryFits shape last) (stored-pair pair) (map stored-pair pairs) fit).key_fits).0 in
    ap (λ (b : Bool). cond (b && true) (pair ∷ filter (λ e. between key_cmp least None e.0) pairs) (filter (λ e. between key_cmp least None e.0) pairs)) from
    ∙ ap (λ (ps : List (List ℕ × Stamped)). pair ∷ ps) (all-kept shape last pairs (All-tail (EntryFits shape last) (stored-pair pair) (map stored-pair pairs) fit))

-- ---- the pairs of a map

module _ (shape : Shape) (m : Map) (runs : List (List LawCell)) (fitting : All (EntryFits shape m.last) (finite.entries m.entries)) (says : (q : List ℕ) → value_at key_cmp runs q ≡ found_in m q) where
  all-fit : All (EntryFits shape m.last) (map stored-pair (live_pairs runs))
  all-fit = All-same (EntryFits shape m.last) _ _ (sym (entries-are m runs says)) fitting

  -- the live pairs from the least key on are all live pairs
  pub pairs-all : live key_cmp (between key_cmp least None) runs ≡ live_pairs runs
  pairs-all =
      sym (live_entries nat_list_cmp_total (between key_cmp least None) runs keys_alike (live_pairs runs) (pairs-rise runs) (pairs-find runs)) ∙ all-kept shape m.last (live_pairs runs) all-fit

  back : (rows : List Row) → map row_of_entry (map stored-pair (map pair_of rows)) ≡ rows
  back [] = refl
  back (row ∷ rows) = ap (λ (rs : List Row). row ∷ rs) (back rows)

  -- rows that are these pairs are the rows of the map
  pub rows-are : (rows : List Row) → live_pairs runs ≡ map pair_of rows → rows ≡ rows_of m
  rows-are rows e =
      sym (back rows) ∙ ap (λ (ps : List (List ℕ × Stamped)). map row_of_entry (map stored-pair ps)) (sym e) ∙ ap (map row_of_entry) (sym (entries-are m runs says))

  above-last : (rows : List Row) (row : Row) (others : List (List ℕ × Stamped)) → T (is_sorted key_cmp (map pair_of rows ++ pair_of row ∷ others)) → IsAbove (last_key rows) row.key
  above-last [] row others h = tt
  above-last (last ∷ []) row others h =
      is_true (is_lt (key_cmp last.key row.key)) (first _ _ (first (below_all key_cmp last.key (pair_of row ∷ others)) (is_sorted key_cmp (pair_of row ∷ others)) h))
  above-last (before ∷ next ∷ rows) row others h =
      above-last (next ∷ rows) row others (second (below_all key_cmp before.key (map pair_of (next ∷ rows) ++ pair_of row ∷ others)) (is_sorted key_cmp (map pair_of (next ∷ rows) ++ pair_of row ∷ others)) h)

  one-fits : (rows : List Row) (row : Row) (others : List (List ℕ × Stamped)) → All (EntryFits shape m.last) (map stored-pair (map pair_of rows ++ pair_of row ∷ others)) → EntryFits shape m.last (stored-pair (pair_of row))
  one-fits [] row others fit = All-head (EntryFits shape m.last) (stored-pair (pair_of row)) (map stored-pair others) fit
  one-fits (before ∷ rows) row others fit =
      one-fits rows row others (All-tail (EntryFits shape m.last) (stored-pair (pair_of before)) (map stored-pair (map pair_of rows ++ pair_of row ∷ others)) fit)

  -- each of these pairs may be pushed behind those before it
  pub none-breaks : (geometry : Geometry) (rows : List Row) (row : Row) (others : List (List ℕ × Stamped)) → shape ≡ shape_of geometry.format shape.limit → count m ≤ geometry.keys →
      live_pairs runs ≡ map pair_of rows ++ pair_of row ∷ others → Breaks geometry m.last (length rows) (last_key rows) row → ⊥
  none-breaks geometry rows row others shape-is few pairs (inl low) = low (above-last rows row others (subst (λ (ps : List (List ℕ × Stamped)). T (is_sorted key_cmp ps)) pairs (pairs-rise runs)))
  none-breaks geometry rows row others shape-is few pairs (inr (inl full)) =
      omega (arith, count-is m runs says, ap length pairs, length-append (map pair_of rows) (pair_of row ∷ others), length-map rows pair_of, few, full)
  none-breaks geometry rows row others shape-is few pairs (inr (inr (inl late))) =
      let fits = one-fits rows row others (subst (λ (ps : List (List ℕ × Stamped)). All (EntryFits shape m.last) (map stored-pair ps)) pairs all-fit) in
      omega (arith, fits.given, late)
  none-breaks geometry rows row others shape-is few pairs (inr (inr (inr unfit))) =
      let fits = one-fits rows row others (subst (λ (ps : List (List ℕ × Stamped)). All (EntryFits shape m.last) (map stored-pair ps)) pairs all-fit) in
      unfit (
        subst (λ (s : Shape). length row.key ≤ s.key_limit) shape-is (key-size shape row.key fits.key_fits).1,
        subst (λ (s : Shape). length row.value ≤ s.value_limit) shape-is (leb-true (length row.value) shape.value_limit fits.value_fits),
      )

-- where runs are told none is
pub no-bad : (held : Held) (t number j : ℕ) (marks : List Marks) → AreRunsTold held.spots t j marks → HasBadRun held number (visible_runs t j marks) → ⊥
no-bad held t number j [] told bad = bad
no-bad held t number j (m ∷ ms) told (inl b) = not-bad (held.spots j (visible_slot t j) b.index) (told.0 b.index b.within) b.bad.told
no-bad held t number j (m ∷ ms) told (inr b) = no-bad held t number (suc j) ms told.2 b

-- ---- a file that is filled with the pairs of runs

-- what the end of a load leaves, where the device tells its bytes
ended : {T E : Type 0} (result : Result T E) (loading : Loading) (rows : List Row) (geometry : Geometry) (last : ℕ) (told now : Option (List ℕ)) (P : Geometry → ℕ → List ℕ → Type 0)
    → loading.geometry ≡ geometry → loading.last ≡ last → IfSome told (λ bytes. HoldsRows loading bytes rows) → Both told now (Finishes result loading)
    → ((x y : List ℕ) → HoldsRows loading x rows → Finishes result loading x y → P loading.geometry loading.last y) → IfSome now (P geometry last)
ended result loading rows geometry last told now P same final holds finishes f = some-given told now holds finishes (λ x y held finish.
    subst (λ (n : ℕ). P geometry n y) final (subst (λ (g : Geometry). P g loading.last y) same (f x y held finish)))

-- a cell that was not read where a walk begins: the file has no header
pub seek-refused : (held : Held) (runs : List Run) (geometry : Geometry) (last : ℕ) (counts : Counts) (before now : ℕ) (loading : Loading) (told : Option (List ℕ)) (fault : ReadFault) (result : GrowFault) → result ≡ unread_as fault →
    RunsCause held runs before now fault → IfSome told (λ bytes. HoldsRows loading bytes []) → Walks held runs geometry last counts counts told (Err result)
seek-refused held runs geometry last counts before now loading told (read.BadCell number) result is cause holds =
    rw is (cause, record { headless = no-header loading told [] holds; no_others = omega arith })
seek-refused held runs geometry last counts before now loading told read.Device result is cause holds =
    rw is (inl (record { headless = no-header loading told [] holds; no_others = omega arith }))

module _ {held other : Held} (same : other ≡ held) {runs : List Run} {key : List ℕ} (key-is : key ≡ least) (cursor : Cursor) (begins : runs_of cursor.lines.items ≡ runs)
    (found : (lists : List (List LawCell)) → AreRuns held runs lists → AreSearched key lists → Ahead held cursor (live key_cmp (between key_cmp key None) lists)) (geometry : Geometry) (last : ℕ) where
  ahead : (lists : List (List LawCell)) → AreRuns held runs lists → AreSearched least lists → Ahead other cursor (live key_cmp (between key_cmp least None) lists)
  ahead lists told searched =
      subst (λ (h : Held). Ahead h cursor (live key_cmp (between key_cmp least None) lists)) (sym same)
      (subst (λ (k : List ℕ). AreSearched k lists → Ahead held cursor (live key_cmp (between key_cmp k None) lists)) key-is (found lists told) searched)

  values : (rows : List Row) → AreValuesOf other.spots (runs_of cursor.lines.items) rows → AreValuesOf held.spots runs rows
  values rows given = subst (λ (rs : List Run). AreValuesOf held.spots rs rows) begins (subst (λ (h : Held). AreValuesOf h.spots (runs_of cursor.lines.items) rows) same given)

  pub fill-refused : (after : Cursor) (loading : Loading) (told : Option (List ℕ)) (before now : Counts) (fault : GrowFault) → now.others ≤ before.others →
      CopiesAll other cursor geometry last after loading told (Err fault) → Walks held runs geometry last before now told (Err fault)
  fill-refused after loading told before now (BadCell number) none all =
      (subst (λ (rs : List Run). HasBadRun held number rs) begins (subst (λ (h : Held). HasBadRun h number (runs_of cursor.lines.items)) same all.0), record { headless = all.1; no_others = none })
  fill-refused after loading told before now (Disorder number) none all = (
    all.0,
    record {
      row = all.1.row;
      number_is = all.1.number_is;
      breaks = all.1.breaks;
      pairs_are = λ lists are searched. all.1.gave (live key_cmp (between key_cmp least None) lists) (ahead lists are searched);
      given = values (all.1.row ∷ all.0) all.1.given;
      begun = record { headless = all.1.headless; no_others = none };
    },
  )
  fill-refused after loading told before now Device none all = inl (record { headless = all; no_others = none })
  fill-refused after loading told before now fault none all = all

  pub fill-walked : {T : Type 0} (E : Type 0) (value : T) (after : Cursor) (loading : Loading) (told now : Option (List ℕ)) (found count : ℕ) → CopiesAll other cursor geometry last after loading told (Ok found) →
      loading.geometry ≡ geometry → loading.last ≡ last → count ≡ loading.rows → Both told now (Finishes {T = T} {E = E} (Ok value) loading) → (rows : List Row) × IsWalked held runs geometry last now rows count
  fill-walked E value after loading told now found count all geometry-is last-is count-is finishes =
      let rows = all.0 in
      let copied = all.1.1.0 in (
        rows,
        record {
          count_is = count-is ∙ copied.many;
          are_rows = ended {E = E} (Ok value) loading rows geometry last told now (λ g n y. AreRows (shape_of g.format g.keys) n rows) geometry-is last-is copied.holds finishes (λ x y held finish. held.are_rows);
          filled = ended {E = E} (Ok value) loading rows geometry last told now (λ g n y. IsFilled g n rows y) geometry-is last-is copied.holds finishes (λ x y held finish. finish rows held);
          pairs_are = λ lists are searched. all.1.1.1 (live key_cmp (between key_cmp least None) lists) (ahead lists are searched);
          given = values rows copied.given;
        },
      )

  pub fill-unfinished : (T : Type 0) {E : Type 0} (why : E) (after : Cursor) (loading : Loading) (told now : Option (List ℕ)) (found : ℕ) (counts counts_now : Counts) → CopiesAll other cursor geometry last after loading told (Ok found) →
      loading.geometry ≡ geometry → loading.last ≡ last → Rose counts.faults counts_now.faults → Both told now (Finishes {T = T} {E = E} (Err why) loading) → Walks held runs geometry last counts counts_now now (Err Device)
  fill-unfinished T why after loading told now found counts counts_now all geometry-is last-is cause finishes =
      let rows = all.0 in
      let copied = all.1.1.0 in
      inr (
        rows,
        record {
          cause = cause;
          left = ended {T = T} (Err why) loading rows geometry last told now (λ g n y. IsUnfinished g n rows y) geometry-is last-is copied.holds finishes (λ x y held finish. finish rows held);
          pairs_are = λ lists are searched. all.1.1.1 (live key_cmp (between key_cmp least None) lists) (ahead lists are searched);
          given = values rows copied.given;
        },
      )

-- ---- a file that stands for a map

module _ (header : Header) (held : Held) (bytes : List ℕ) (same : run.AreFileSpots header.geometry held.spots bytes) where
  abbrev marks : List LevelMarks
  marks = all_numbers header.levels.items

  alike : AreRunsAlike (file_spots header.geometry.format bytes) held.spots header.clock 0 marks
  alike = runs-alike header.geometry held bytes same header.clock 0 0 marks header.marks_fit (omega (arith, header.one_each, numbers-length header.levels.items))

  module _ (m : Map) (stands : HeaderStandsFor (fields_of header) bytes m) where
    levels : LevelsStandFor header.geometry.keys header.clock marks held.spots m
    levels = stand-alike header.geometry.keys header.clock marks (file_spots header.geometry.format bytes) held.spots m alike stands.levels

    abbrev lists : List (List LawCell)
    lists = visibles (levels_of (slot_cells held.spots) header.clock 0 marks)

    abbrev shape : Shape
    shape = shape_of header.geometry.format header.geometry.keys

    says : laws.AreSampled key_cmp lists × ((q : List ℕ) → value_at key_cmp lists q ≡ found_in m q)
    says = chain-says header.geometry.keys header.clock _ held.spots marks levels.sound

    -- what holds of the pairs of the runs holds of those of the map
    of-map : (P : List (List ℕ × Stamped) → Type 0) → OfPairs held (runs_in header) P → P (live_pairs lists)
    of-map P pairs = subst P (pairs-all shape m lists stands.is_map.fitting says.1)
        (pairs lists (runs-are held header.clock 0 marks levels.told) (record { sampled = says.0; near = begins-near held.spots header.clock 0 marks header.marks_fit least }))

    file-rows : (rows : List Row) → OfPairs held (runs_in header) (λ pairs. pairs ≡ map pair_of rows) → rows ≡ rows_of m
    file-rows rows pairs = rows-are shape m lists stands.is_map.fitting says.1 rows (of-map (λ pairs. pairs ≡ map pair_of rows) pairs)

    file-orders : (geometry : Geometry) (rows : List Row) (row : Row) → geometry.format ≡ header.geometry.format → header.count ≤ geometry.keys →
        OfPairs held (runs_in header) (λ pairs. (others : List (List ℕ × Stamped)) × (pairs ≡ map pair_of rows ++ pair_of row ∷ others)) → Breaks geometry header.last (length rows) (last_key rows) row → ⊥
    file-orders geometry rows row format few pairs breaks =
        let given = of-map (λ pairs. (others : List (List ℕ × Stamped)) × (pairs ≡ map pair_of rows ++ pair_of row ∷ others)) pairs in
        none-breaks shape m lists stands.is_map.fitting says.1 geometry rows row given.0 (ap (λ f. shape_of f header.geometry.keys) (sym format)) (subst (λ (n : ℕ). n ≤ geometry.keys) stands.counted few)
        given.1 (subst (λ (n : ℕ). Breaks geometry n (length rows) (last_key rows) row) stands.numbered breaks)

    file-spelled : (number : ℕ) → HasBadRun held number (runs_in header) → ⊥
    file-spelled number bad = no-bad held header.clock number 0 marks levels.told bad

  file-pairs : (P : List (List ℕ × Stamped) → Type 0) → OfPairs held (runs_in header) P → OfFilePairs header P bytes
  file-pairs P pairs = λ lists listed searched. pairs lists (runs-listed header.geometry.format held bytes header.clock 0 marks alike lists listed) searched

  file-bad : (number : ℕ) → HasBadRun held number (runs_in header) → decoded header.geometry.format (cell_bytes header.geometry.format bytes number) ≡ None
  file-bad number bad = bad-cell header.geometry.format held bytes header.clock number 0 marks alike bad

  file-values : (rows : List Row) → AreValuesOf held.spots (runs_in header) rows → AreInFile header rows bytes
  file-values rows given = all_change (λ row h. value-there header.geometry.format held bytes header.clock row 0 marks alike h) rows given

-- ---- a cell of the front that is bad

module _ (header : Header) (bytes : List ℕ) (number : ℕ) (bad : run.IsLowestBad header (file_spots header.geometry.format bytes) number) where
  front-bad : decoded header.geometry.format (cell_bytes header.geometry.format bytes number) ≡ None
  front-bad = subst (λ (n : ℕ). decoded header.geometry.format (cell_bytes header.geometry.format bytes n) ≡ None) (sym bad.at)
      (tells-bad (decoded header.geometry.format (cell_bytes header.geometry.format bytes (number_of bad.level bad.slot bad.index))) (rw bad.bad refl))

  front-none : IsForNone header bytes
  front-none m stands =
      let front : bad.level + 2 < header.geometry.block_exp = bad.run.front in
      let block : header.geometry.block_exp ≤ header.geometry.bottom + 2 = omega (arith, header.geometry.block_fits.fits) in
      let same-len : run.run_len header bad.level bad.slot ≡ run_len (tested_of (fields_of header) bytes) bad.level bad.slot =
      ap (λ (m : LevelMarks). if bad.slot == visible_slot header.clock bad.level then m.visible else m.shadow) (sym (number-at header.levels.items bad.level)) in
      not-bad (file_spots header.geometry.format bytes bad.level bad.slot bad.index)
      (told-cells (tested_of (fields_of header) bytes) stands.levels.told bad.level bad.slot bad.index
      (record { level_in = omega (arith, header.one_each, numbers-length header.levels.items, front, block); slot_in = bad.run.slot_in; within = subst (λ (n : ℕ). bad.index < n) same-len bad.run.within }))
      (rw bad.bad refl)

-- ---- the answers

module _ {E : Type 0} (e : device.Ghosts E) (header : Header) (geometry : Geometry) where
  pub load-refused : (told : Option (List ℕ)) (to : E) (before now : ℕ) (fault : ReadFault) (result : GrowFault) → result ≡ unread_as fault → run.LoadAnswers header told before now (Err fault) →
      Copies e header geometry told to to (Err result)
  load-refused told to before now (read.BadCell number) result is answer =
      rw is (record { bad = IfSome_then told answer (λ bytes bad. front-bad header bytes number bad); no_map = IfSome_then told answer (λ bytes bad. front-none header bytes number bad); left = inl refl })
  load-refused told to before now read.Device result is answer = rw is (Uncalled refl)

  -- the new file was not begun
  pub begin-refused : (told : Option (List ℕ)) (to now : E) (fault : LoadFault) (result : GrowFault) → result ≡ unbegun_as fault → Begins e geometry header.last to now (Err fault) → Spends (e.counts to) (e.counts now) 0 0 2 →
      Copies e header geometry told to now (Err result)
  begin-refused told to now load.NotEmpty result is begins spends = rw is (record { was = begins.why_is; bytes_stay = begins.bytes_stay; spends = begins.spends })
  begin-refused told to now load.OutOfMemory result is begins spends = rw is (record { bytes_stay = begins.bytes_stay; left = inr begins.why_is; spends = begins.spends })
  begin-refused told to now load.Device result is begins spends = rw is (NotBegun (record { failed = begins; spends = spends }))

  module _ (held : Held) (told : Option (List ℕ)) (same : IfSome told (run.AreFileSpots header.geometry held.spots)) (format : geometry.format ≡ header.geometry.format) (few : header.count ≤ geometry.keys) where
    map-is : (rows : List Row) → OfPairs held (runs_in header) (λ pairs. pairs ≡ map pair_of rows) → IfSome told (λ bytes. (m : Map) → HeaderStandsFor (fields_of header) bytes m → rows ≡ rows_of m)
    map-is rows pairs = IfSome_then told same (λ bytes s m stands. file-rows header held bytes s m stands rows pairs)

    in-file : (rows : List Row) → AreValuesOf held.spots (runs_in header) rows → IfSome told (AreInFile header rows)
    in-file rows given = IfSome_then told same (λ bytes s. file-values header held bytes s rows given)

    all-pairs : (rows : List Row) → OfPairs held (runs_in header) (λ pairs. pairs ≡ map pair_of rows) → IfSome told (AreFilePairs header rows)
    all-pairs rows pairs = IfSome_then told same (λ bytes s. file-pairs header held bytes s (λ pairs. pairs ≡ map pair_of rows) pairs)

    -- the new file without a header, by its calls from its beginning on
    left-headless : (to mid now : E) (loading : Loading) → HasBegun e geometry header.last to mid loading → Spends (e.counts to) (e.counts mid) 0 0 2 → IsBegun (e.counts mid) (e.counts now) (e.bytes now) → IsLeftHeadless e to now
    left-headless to mid now loading begun spends undone = record {
      was_empty = begun.was_empty;
      no_header = undone.headless;
      few_others = (let few = spends.others_rise in let none = undone.no_others in omega (arith, few, none));
    }

    copied : (to mid now : E) (loading : Loading) → HasBegun e geometry header.last to mid loading → Spends (e.counts to) (e.counts mid) 0 0 2 → (result : Result ℕ GrowFault) →
        Walks held (runs_in header) geometry header.last (e.counts mid) (e.counts now) (e.bytes now) result → OnOk result (IsSettled e now) → Copies e header geometry told to now result
    copied to mid now loading begun spends (Ok count) walks settled =
        let walked = walks.1 in (
          walks.0,
          record {
            count_is = walked.count_is;
            was_empty = begun.was_empty;
            are_rows = walked.are_rows;
            filled = walked.filled;
            map_is = map-is walks.0 walked.pairs_are;
            given = in-file walks.0 walked.given;
            pairs_are = all-pairs walks.0 walked.pairs_are;
            settled = settled;
          },
        )
    copied to mid now loading begun spends (Err (BadCell number)) walks settled =
        record {
          bad = IfSome_then told same (λ bytes s. file-bad header held bytes s number walks.0);
          no_map = IfSome_then told same (λ bytes s m stands. file-spelled header held bytes s m stands number walks.0);
          left = inr (left-headless to mid now loading begun spends walks.1);
        }
    copied to mid now loading begun spends (Err (Disorder number)) walks settled =
        let broken = walks.1 in
        record {
          rows = walks.0;
          row = broken.row;
          number_is = broken.number_is;
          breaks = broken.breaks;
          given = in-file (broken.row ∷ walks.0) broken.given;
          pairs_are = IfSome_then told same (λ bytes s. file-pairs header held bytes s (λ pairs. (others : List (List ℕ × Stamped)) × (pairs ≡ map pair_of walks.0 ++ pair_of broken.row ∷ others)) broken.pairs_are);
          no_map = IfSome_then told same (λ bytes s m stands. file-orders header held bytes s m stands geometry walks.0 broken.row format few broken.pairs_are broken.breaks);
          left = left-headless to mid now loading begun spends broken.begun;
        }
    copied to mid now loading begun spends (Err Device) walks settled = elim walks [
      | inl undone ↦ Headless (left-headless to mid now loading begun spends undone)
      | inr w ↦ NotFinished w.0 (record {
        cause = subst (λ (n : ℕ). Rose n (e.counts now).faults) begun.no_fault w.1.cause;
        was_empty = begun.was_empty;
        left = w.1.left;
        map_is = map-is w.0 w.1.pairs_are;
        given = in-file w.0 w.1.given;
        pairs_are = all-pairs w.0 w.1.pairs_are;
      })
    ]
    copied to mid now loading begun spends (Err fault) walks settled = absurd walks

    pub store-copied : (runs : List Run) → runs ≡ runs_in header → (to mid now : E) (loading : Loading) → HasBegun e geometry header.last to mid loading → Spends (e.counts to) (e.counts mid) 0 0 2 → (result : Result ℕ GrowFault) →
        Walks held runs geometry header.last (e.counts mid) (e.counts now) (e.bytes now) result → OnOk result (IsSettled e now) → Copies e header geometry told to now result
    store-copied runs are to mid now loading begun spends result walks settled =
        copied to mid now loading begun spends result (subst (λ (rs : List Run). Walks held rs geometry header.last (e.counts mid) (e.counts now) (e.bytes now) result) are walks) settled
