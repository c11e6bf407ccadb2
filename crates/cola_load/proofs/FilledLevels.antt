-- The levels of a filled file, and the map that it stands for.
use Rattle.std.proofs.Common.{◌≡◌, ℕ, zero, suc, ◌+◌, ◌-◌, ◌^◌, ◌≤◌, ◌<◌, List, [], ◌∷◌, Option, length, refl, sym, ap, ◌∙◌, subst, arith}
use Rattle.std.proofs.Math.Nat.{zero-div}
use Rattle.std.proofs.Math.Path.{fun_ext}
use Rattle.std.specs.Cmp.Lexicographic.{nat_list_cmp_total}
use Rattle.cola_cell.specs.declared.cell.Cell.{Cell}
use Rattle.cola_cell.specs.Flat.{spot_of}
use Rattle.cola_cell.specs.Format.{stamp_limit}
use Rattle.cola_cell.specs.Held.{Stamped, LawCell, Spots, Told}
use Rattle.cola_clock.specs.Clock.{period, visible_slot}
use Rattle.cola_layout.specs.Cells.{file_spots, slot_cells}
use Rattle.cola_image.specs.Standing.{found_in, AreRunsTold, HeaderStandsFor}
use Rattle.cola_laws.specs.Chain.{Level, value_at}
use Rattle.cola_laws.specs.Plain.{showing, loaded, IsSoundChain}
use Rattle.cola_laws.specs.Slots.{levels_of}
use Rattle.cola_laws.proofs.Loaded.{loaded-sound}
use Rattle.cola_layout.specs.declared.geometry.Geometry.{Geometry}
use Rattle.cola_layout.specs.Marks.{all_numbers}
use Rattle.cola_spec.specs.Map.{key_cmp}
use Rattle.cola_shapes.specs.Shapes.{shape_of}
use Rattle.cola_cell.specs.ToldCells.{cell_at, AreTold}
use Rattle.cola_cell.proofs.CellLists.{cells-same}
use Rattle.cola_load.specs.Filled.{Row, map_of, AreRows, run_len, bottom_run, marks_from, filled_header, HasFilledCells, IsFilled}
use Rattle.cola_load.proofs.FilledMaps.{spots_at, run_at, levels_at, levels-loaded, count-is, is-map, found-is, bottom-run}

-- at clock 0 each visible run stands in slot 0
slot-zero : (j : ℕ) → visible_slot 0 j ≡ 0
unfolding visible_slot period
slot-zero j = let e = zero-div (2 ^ j) in rw e refl

module _ (bottom : ℕ) (rows : List Row) (spots : Spots)
    (same : (level index : ℕ) → level ≤ bottom → index < run_len (length rows) (bottom - level) → spots level 0 index ≡ spots_at rows (bottom - level) index) where
  run-is : (level height : ℕ) → level + height ≡ bottom → slot_cells spots level 0 (run_len (length rows) height) ≡ run_at rows height
  run-is level height is =
      let left : bottom - level ≡ height = omega arith in
      cells-same (spots level 0) (spots_at rows height) 0 (run_len (length rows) height)
      (λ k h. same level k (omega (arith, is)) (subst (λ (n : ℕ). k < run_len (length rows) n) (sym left) (omega (arith, h))) ∙ ap (λ (n : ℕ). spots_at rows n k) left)

  level-is : (level height : ℕ) → level + height ≡ bottom → showing (slot_cells spots level (visible_slot 0 level) (run_len (length rows) height)) ≡ showing (run_at rows height)
  level-is level height is =
      ap (λ (slot : ℕ). showing (slot_cells spots level slot (run_len (length rows) height))) (slot-zero level)
      ∙ ap (λ (run : List LawCell). showing run) (run-is level height is)

  levels-are : (level height : ℕ) → level + height ≡ bottom → levels_of (slot_cells spots) 0 level (all_numbers (marks_from (length rows) height)) ≡ levels_at rows height
  levels-are level zero is = ap (λ (l : Level (List ℕ) Stamped). l ∷ []) (level-is level zero is)
  levels-are level (suc height) is =
      let top = level-is level (suc height) is in
      let below = levels-are (suc level) height (omega (arith, is)) in
      λ i. top i ∷ below i

  visible-told : (level height : ℕ) → level + height ≡ bottom → AreTold (spots level (visible_slot 0 level)) (run_len (length rows) height)
  visible-told level height is =
      subst (λ (slot : ℕ). AreTold (spots level slot) (run_len (length rows) height)) (sym (slot-zero level))
      (λ k h.
      let left : bottom - level ≡ height = omega (arith, is) in
      let here = same level k (omega (arith, is)) (subst (λ (n : ℕ). k < run_len (length rows) n) (sym left) h) in
      subst (λ spot. spot ≡ Told (cell_at spot)) (sym here) refl)

  all-told : (level height : ℕ) → level + height ≡ bottom → AreRunsTold spots 0 level (all_numbers (marks_from (length rows) height))
  all-told level zero is = (visible-told level zero is, λ k h. absurd (omega (arith, h)), tt)
  all-told level (suc height) is = (visible-told level (suc height) is, λ k h. absurd (omega (arith, h)), all-told (suc level) height (omega (arith, is)))

-- the cells of a filled file are told
file-tells : (geometry : Geometry) (rows : List Row) (bytes : List ℕ) → HasFilledCells geometry rows bytes →
    (level index : ℕ) → level ≤ geometry.bottom → index < run_len (length rows) (geometry.bottom - level) → file_spots geometry.format bytes level 0 index ≡ spots_at rows (geometry.bottom - level) index
file-tells geometry rows bytes cells level index low within = ap (λ (found : Option Cell). spot_of found) (cells level index low within)

-- its levels are a bottom of the rows, under the samples that a loaded chain has
pub filled-levels : (geometry : Geometry) (rows : List Row) (bytes : List ℕ) → HasFilledCells geometry rows bytes →
    levels_of (slot_cells (file_spots geometry.format bytes)) 0 0 (all_numbers (marks_from (length rows) geometry.bottom)) ≡ loaded geometry.bottom (bottom_run rows)
filled-levels geometry rows bytes cells =
    levels-are geometry.bottom rows (file_spots geometry.format bytes) (file-tells geometry rows bytes cells) 0 geometry.bottom (omega arith)
    ∙ levels-loaded rows geometry.bottom

-- a chain of two levels and more over the bottom run of a filled file is sound for the map of its rows
filled-sound : (geometry : Geometry) (last : ℕ) (rows : List Row) (bytes : List ℕ) → AreRows (shape_of geometry.format geometry.keys) last rows → HasFilledCells geometry rows bytes →
    IsSoundChain key_cmp geometry.keys 0 (found_in (map_of last rows)) (levels_of (slot_cells (file_spots geometry.format bytes)) 0 0 (all_numbers (marks_from (length rows) geometry.bottom)))
filled-sound geometry last rows bytes are cells =
    let shape = shape_of geometry.format geometry.keys in
    let run : List LawCell = bottom_run rows in
    let up : suc (geometry.bottom - 1) ≡ geometry.bottom = omega (arith, geometry.bottom_fits.three) in
    let sound = subst (λ (n : ℕ). IsSoundChain key_cmp geometry.keys 0 (value_at key_cmp (run ∷ [])) (loaded n run)) up
    (loaded-sound nat_list_cmp_total geometry.keys run (bottom-run shape last rows are) (geometry.bottom - 1)) in
    subst (λ (levels : List (Level (List ℕ) Stamped)). IsSoundChain key_cmp geometry.keys 0 (found_in (map_of last rows)) levels) (sym (filled-levels geometry rows bytes cells))
    (subst (λ (f : List ℕ → Option Stamped). IsSoundChain key_cmp geometry.keys 0 f (loaded geometry.bottom run)) (fun_ext (found-is shape last rows are)) sound)

-- a filled file stands for the map of its rows
pub filled-stands : (geometry : Geometry) (last : ℕ) (rows : List Row) (bytes : List ℕ) → last ≤ stamp_limit geometry.format →
    AreRows (shape_of geometry.format geometry.keys) last rows → IsFilled geometry last rows bytes → HeaderStandsFor (filled_header geometry last (length rows)) bytes (map_of last rows)
filled-stands geometry last rows bytes within are filled = record {
  spelled = filled.header;
  closed = refl;
  whole = let size = filled.whole in omega (arith, size);
  counted = sym (count-is (shape_of geometry.format geometry.keys) last rows are);
  numbered = refl;
  is_map = is-map geometry.format geometry.keys last rows within are;
  levels = record {
    told = all-told geometry.bottom rows (file_spots geometry.format bytes) (file-tells geometry rows bytes filled.cells) 0 geometry.bottom (omega arith);
    sound = filled-sound geometry last rows bytes are filled.cells;
  };
}
