-- The runs of a filled file, the bottom's of the rows and each other one the sample of the run below it, and the map that the rows give.
use Rattle.std.proofs.Common.{◌≡◌, ℕ, zero, suc, ◌+◌, ◌-◌, ◌*◌, ◌/◌, ◌^◌, ◌≤◌, List, [], ◌∷◌, length, map, refl, sym, ap, ◌∙◌, arith, Bool, true, false, cond, All, Option, Some, None, option_map, subst}
use Rattle.std.proofs.Math.Nat.{pow-suc}
use Rattle.cola_abstract.specs.Cell as laws
use Rattle.cola_cell.specs.Held.{Stamped, LawCell, Spot, Told, as_cell}
use Rattle.cola_runs.specs.Cells.{key_of, every_eighth, sample, place_cmp, IsRising, IsLinked, IsOldValue}
use Rattle.cola_runs.specs.Weave.{look_at, relinked}
use Rattle.cola_cell.specs.ToldCells.{cell_at, cells}
use Rattle.cola_laws.specs.Chain.{Level, visibles, first_keys, value_at}
use Rattle.cola_laws.specs.Plain.{showing, look_run, loaded}
use Rattle.cola_load.proofs.Rowing.{next-run}
use Rattle.cola_load.specs.Filled.{Row, row_at, run_len, bottom_cell, filled_cell, bottom_run, entry_of, map_of, row_of_entry, rows_of, AreRows}
use Rattle.std.specs.declared.cmp.Ordering.{Ordering}
use Rattle.std.specs.declared.cmp.Ordering.TheVariants.{Less, Equal}
use Rattle.std.specs.FinMap as finite
use Rattle.std.proofs.lemmas.List.{length-map}
use Rattle.std.specs.FinMap.{FinMap}
use Rattle.std.specs.FinMap.Entries.{find, below_all, is_sorted}
use Rattle.std.specs.List.{AllByRecursion}
use Rattle.std.specs.List.Sorted.{IsStrictlySortedBy}
use Rattle.std.specs.Option.{option_or}
use Rattle.std.specs.Ordering.{eq_by_cmp, is_lt, ordering_then}
use Rattle.cola_cell.specs.declared.format.Format.{Format}
use Rattle.cola_cell.specs.declared.format.Format.TheVariants.{One, Two}
use Rattle.cola_cell.specs.Format.{stamp_limit}
use Rattle.cola_image.specs.Standing.{found_in}
use Rattle.cola_image.proofs.WorkedMaps.{and-both}
use Rattle.cola_laws.specs.Sound.{IsBottomRun}
use Rattle.cola_runs.specs.Seen.{Seen, Old, holds, seen, value_of}
use Rattle.cola_runs.proofs.Deciding.{is_less}
use Rattle.cola_pairs.proofs.Order.{holds as is_true, passed}
use Rattle.cola_spec.specs.Map.{Shape, Stored, Map, IsMap, EntryFits, key_cmp, count}
use Rattle.cola_shapes.specs.Shapes.{stamped_of, shape_of}

-- ---- the sample of a run

-- the lookahead cells of each eighth cell, where so many more cells come before the first of them
looks-of : (spots above : ℕ → Spot) → ((k : ℕ) → above k ≡ Told (laws.Look (key_of (cell_at (spots (8 * k + 7)))) (8 * k))) → (n rest at index many : ℕ) →
    at + rest ≡ 8 * index + 7 → rest ≤ 7 → many ≡ (n + (7 - rest)) / 8 → relinked index (map look_at (every_eighth rest (cells spots at n))) ≡ cells above index many
looks-of spots above is zero rest at index many here few count =
    let none : many ≡ 0 = omega arith in ap (λ (m : ℕ). cells above index m) (sym none)
looks-of spots above is (suc n) zero at index many here few count =
    let more : many ≡ suc (n / 8) = omega arith in
    let place : at ≡ 8 * index + 7 = omega arith in
    let head : ◌≡◌ {A = LawCell} (laws.Look (key_of (cell_at (spots at))) (8 * index)) (cell_at (above index)) =
    ap {B = LawCell} (λ (a : ℕ). laws.Look (key_of (cell_at (spots a))) (8 * index)) place ∙ sym (ap cell_at (is index)) in
    let tail = looks-of spots above is n 7 (suc at) (suc index) (n / 8) (omega arith) (omega arith) (omega arith) in
    (λ i. head i ∷ tail i) ∙ ap (λ (m : ℕ). cells above index m) (sym more)
looks-of spots above is (suc n) (suc rest) at index many here few count =
    looks-of spots above is n rest (suc at) index many (omega arith) (omega arith) (let same : n + (7 - rest) ≡ suc n + (7 - suc rest) = omega arith in rw same count)

-- ---- the runs in closed form

-- the cells so many levels above the bottom, by index
abbrev pub spots_at : List Row → ℕ → ℕ → Spot
spots_at rows height index = Told (as_cell (filled_cell rows height index))

abbrev pub run_at : List Row → ℕ → List LawCell
run_at rows height = cells (spots_at rows height) 0 (run_len (length rows) height)

above-is : (rows : List Row) (height k : ℕ) → spots_at rows (suc height) k ≡ Told (laws.Look (key_of (cell_at (spots_at rows height (8 * k + 7)))) (8 * k))
above-is rows zero k = let e : 8 ^ 1 * suc k - 1 ≡ 8 * k + 7 = omega arith in ap (λ (index : ℕ). Told (laws.Look (row_at rows index).key (8 * k))) e
above-is rows (suc height) k =
    let e : 8 ^ suc height * 8 * suc k ≡ 8 ^ suc height * suc (8 * k + 7) = omega arith in
    ap (λ (index : ℕ). Told (laws.Look (row_at rows index).key (8 * k))) (ap (λ (power : ℕ). power * suc k - 1) (pow-suc 8 (suc height)) ∙ ap (λ (n : ℕ). n - 1) e)

-- each run above the bottom is the sample of the run below it
run-above : (rows : List Row) (height : ℕ) → look_run (sample (run_at rows height)) ≡ run_at rows (suc height)
run-above rows height =
    looks-of (spots_at rows height) (spots_at rows (suc height)) (above-is rows height) (run_len (length rows) height) 7 0 0 (run_len (length rows) (suc height))
    (omega arith) (omega arith) (let eighth = next-run (length rows) height in omega arith)

-- the cell of a row at the bottom
abbrev pub row_cell : Row → LawCell
row_cell row = as_cell (bottom_cell row)

-- cells that are those of the rows
row-cells : (rows : List Row) (spots : ℕ → Spot) (at : ℕ) → ((k : ℕ) → spots (at + k) ≡ Told (row_cell (row_at rows k))) → cells spots at (length rows) ≡ map row_cell rows
row-cells [] spots at is = refl
row-cells (row ∷ rows) spots at is =
    let here : at ≡ at + 0 = omega arith in
    let head : cell_at (spots at) ≡ row_cell row = ap (λ (a : ℕ). cell_at (spots a)) here ∙ ap cell_at (is 0) in
    let tail = row-cells rows spots (suc at) (λ k. ap spots (let e : suc at + k ≡ at + suc k = omega arith in e) ∙ is (suc k)) in
    λ i. head i ∷ tail i

-- the bottom's run is the rows
run-bottom : (rows : List Row) → run_at rows 0 ≡ bottom_run rows
run-bottom rows =
    ap (λ (many : ℕ). cells (spots_at rows 0) 0 many) (let e : length rows / 8 ^ 0 ≡ length rows = omega arith in e)
    ∙ row-cells rows (spots_at rows 0) 0 (λ k. ap (spots_at rows 0) (let e : 0 + k ≡ k = omega arith in e))

-- ---- the levels

-- the levels from so many above the bottom on
abbrev pub levels_at : List Row → ℕ → List (Level (List ℕ) Stamped)
levels_at rows zero = showing (run_at rows zero) ∷ []
levels_at rows (suc height) = showing (run_at rows (suc height)) ∷ levels_at rows height

first-at : (rows : List Row) (height : ℕ) → first_keys (visibles (levels_at rows height)) ≡ sample (run_at rows height)
first-at rows zero = refl
first-at rows (suc height) = refl

pub levels-loaded : (rows : List Row) (height : ℕ) → levels_at rows height ≡ loaded height (bottom_run rows)
levels-loaded rows zero = ap (λ (run : List LawCell). showing run ∷ []) (run-bottom rows)
levels-loaded rows (suc height) =
    ap (λ (run : List LawCell). showing run ∷ levels_at rows height) (sym (ap look_run (first-at rows height) ∙ run-above rows height))
    ∙ ap (λ (below : List (Level (List ℕ) Stamped)). showing (look_run (first_keys (visibles below))) ∷ below) (levels-loaded rows height)

-- ---- the map that rows give, as a finite list and as what a run of these rows has of each key

-- ---- entries and rows

rows-again : (rows : List Row) → map row_of_entry (map entry_of rows) ≡ rows
rows-again [] = refl
rows-again (row ∷ rows) = ap (λ (left : List Row). row ∷ left) (rows-again rows)

entries-again : (es : List (List ℕ × Stored)) → map entry_of (map row_of_entry es) ≡ es
entries-again [] = refl
entries-again (e ∷ es) = ap (λ (left : List (List ℕ × Stored)). e ∷ left) (entries-again es)

pub entries-are : (shape : Shape) (last : ℕ) (rows : List Row) → AreRows shape last rows → finite.entries (map_of last rows).entries ≡ map entry_of rows
entries-are shape last rows are = finite.entries-from_sorted key_cmp (map entry_of rows) (passed (is_sorted key_cmp (map entry_of rows)) are.rising)

pub count-is : (shape : Shape) (last : ℕ) (rows : List Row) → AreRows shape last rows → count (map_of last rows) ≡ length rows
count-is shape last rows are =
    finite.len-entries (map_of last rows).entries ∙ ap (λ (es : List (List ℕ × Stored)). length es) (entries-are shape last rows are) ∙ length-map rows entry_of

pub rows-are : (shape : Shape) (last : ℕ) (rows : List Row) → AreRows shape last rows → rows_of (map_of last rows) ≡ rows
rows-are shape last rows are = ap (λ (es : List (List ℕ × Stored)). map row_of_entry es) (entries-are shape last rows are) ∙ rows-again rows

pub is-map : (format : Format) (keys last : ℕ) (rows : List Row) → last ≤ stamp_limit format → AreRows (shape_of format keys) last rows → IsMap (shape_of format keys) (map_of last rows)
is-map One keys last rows within are = record {
  within = let n : count (map_of last rows) ≡ length rows = count-is (shape_of One keys) last rows are in omega (arith, n, are.few);
  fitting = subst (λ (es : List (List ℕ × Stored)). All (EntryFits (shape_of One keys) last) es) (sym (entries-are (shape_of One keys) last rows are)) are.fitting;
  last_given = omega arith;
  unstamped = omega arith;
}
is-map Two keys last rows within are = record {
  within = let n : count (map_of last rows) ≡ length rows = count-is (shape_of Two keys) last rows are in omega (arith, n, are.few);
  fitting = subst (λ (es : List (List ℕ × Stored)). All (EntryFits (shape_of Two keys) last) es) (sym (entries-are (shape_of Two keys) last rows are)) are.fitting;
  last_given = omega arith;
  unstamped = tt;
}

-- ---- the rows of a map

pub map-again : (m : Map) → map_of m.last (rows_of m) ≡ m
map-again m = ap (λ (entries : FinMap key_cmp Stored). record { entries = entries; last = m.last })
    (ap (λ (es : List (List ℕ × Stored)). finite.from_sorted {R = key_cmp} es) (entries-again (finite.entries m.entries))
    ∙ finite.same_entries_map (finite.from_sorted (finite.entries m.entries)) m.entries (finite.entries-from_sorted key_cmp (finite.entries m.entries) (finite.entries_sorted m.entries)))

pub are-rows : (shape : Shape) (m : Map) → IsMap shape m → AreRows shape m.last (rows_of m)
are-rows shape m is = record {
  rising = subst (λ (es : List (List ℕ × Stored)). is_sorted key_cmp es ≡ true) (sym (entries-again (finite.entries m.entries)))
      (is_true (is_sorted key_cmp (finite.entries m.entries)) (finite.entries_sorted m.entries));
  few =
      let same : length (map entry_of (rows_of m)) ≡ length (finite.entries m.entries) = ap (λ (es : List (List ℕ × Stored)). length es) (entries-again (finite.entries m.entries)) in
      omega (arith, length-map (rows_of m) entry_of, same, finite.len-entries m.entries, is.within);
  fitting = subst (λ (es : List (List ℕ × Stored)). All (EntryFits shape m.last) es) (sym (entries-again (finite.entries m.entries))) is.fitting;
}

-- ---- what the run of the rows has

found-step : (b : Bool) (row : Row) (cells : Seen Stamped) (entries : Option Stored) → value_of (option_or (holds cells) None) ≡ option_map stamped_of entries →
    value_of (option_or (holds (cond b (Old (laws.Value (record { value = row.value; stamp = row.stamp }))) cells)) None)
    ≡ option_map stamped_of (cond b (Some (record { value = row.value; stamp = row.stamp })) entries)
found-step true row cells entries rest = refl
found-step false row cells entries rest = rest

found-rows : (q : List ℕ) (rows : List Row) → value_at key_cmp (map row_cell rows ∷ []) q ≡ option_map stamped_of (find key_cmp q (map entry_of rows))
found-rows q [] = refl
found-rows q (row ∷ rows) =
    found-step (eq_by_cmp key_cmp q row.key) row (seen key_cmp q (map row_cell rows)) (find key_cmp q (map entry_of rows)) (found-rows q rows)

pub found-is : (shape : Shape) (last : ℕ) (rows : List Row) → AreRows shape last rows → (q : List ℕ) → value_at key_cmp (bottom_run rows ∷ []) q ≡ found_in (map_of last rows) q
found-is shape last rows are q =
    found-rows q rows
    ∙ ap (λ (o : Option Stored). option_map stamped_of o) (sym (finite.get-from_sorted key_cmp (map entry_of rows) q (passed (is_sorted key_cmp (map entry_of rows)) are.rising)))

-- ---- it is a run of the bottom

below-rows : (row : Row) (rows : List Row) → below_all key_cmp row.key (map entry_of rows) ≡ true → AllByRecursion (λ (d : LawCell). place_cmp key_cmp (row_cell row) d ≡ Less) (map row_cell rows)
below-rows row [] h = tt
below-rows row (next ∷ rows) h =
    let both = and-both (is_lt (key_cmp row.key next.key)) (below_all key_cmp row.key (map entry_of rows)) h in
    (ap (λ (r : Ordering). ordering_then r Equal) (is_less (key_cmp row.key next.key) both.0), below-rows row rows both.1)

rising-rows : (rows : List Row) → is_sorted key_cmp (map entry_of rows) ≡ true → IsRising key_cmp (map row_cell rows)
unfolding IsStrictlySortedBy
rising-rows [] h = tt
rising-rows (row ∷ rows) h =
    let both = and-both (below_all key_cmp row.key (map entry_of rows)) (is_sorted key_cmp (map entry_of rows)) h in
    (below-rows row rows both.0, rising-rows rows both.1)

linked-rows : (rows : List Row) → IsLinked 0 (map row_cell rows) × AllByRecursion (λ (c : LawCell). IsOldValue c) (map row_cell rows)
linked-rows [] = (tt, tt)
linked-rows (row ∷ rows) = let h = linked-rows rows in ((refl, h.0), (tt, h.1))

pub bottom-run : (shape : Shape) (last : ℕ) (rows : List Row) → AreRows shape last rows → IsBottomRun key_cmp shape.limit (bottom_run rows)
bottom-run shape last rows are = record {
  formed = record { rising = rising-rows rows are.rising; linked = (linked-rows rows).0 };
  values = (linked-rows rows).1;
  few = let n = length-map rows row_cell in omega (arith, n, are.few);
}
