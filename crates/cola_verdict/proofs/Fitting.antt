-- What stands in the cells that a file's bytes spell fits the format, and so do the entries of the map that its runs answer as.
use Rattle.std.proofs.Common.{◌≡◌, ℕ, zero, suc, ◌+◌, ◌<◌, ◌≤◌, Bool, true, false, List, [], ◌∷◌, length, map, refl, Option, Some, None, All, arith, ◌&&◌}
use Rattle.std.specs.Bool.{OnFalse}
use Rattle.std.specs.List.{AllByRecursion}
use Rattle.std.proofs.lemmas.Bool.{le-leb}
use Rattle.std.proofs.lemmas.List.Elements.{All-nil, All-cons}
use Rattle.cola_cell.specs.declared.format.Format.{Format}
use Rattle.cola_cell.specs.declared.format.Format.TheVariants.{One, Two}
use Rattle.cola_cell.specs.declared.cell.Cell.{Cell}
use Rattle.cola_cell.specs.declared.cell.Cell.TheVariants as cell
use Rattle.cola_cell.specs.declared.cell.Item.TheVariants as item
use Rattle.cola_cell.specs.Decoded.{decoded}
use Rattle.cola_cell.specs.Flat.{spot_of}
use Rattle.cola_cell.specs.Format.{stamp_limit}
use Rattle.cola_cell.specs.Held.{LawCell, Spot, Stamped, as_cell}
use Rattle.cola_cell.specs.Spelling.{IsSpelling}
use Rattle.cola_cell.proofs.DecodedLemmas.{decoded_spells}
use Rattle.cola_clock.specs.Clock.{visible_slot}
use Rattle.cola_clock.specs.Marks.{Marks}
use Rattle.cola_layout.specs.Cells.{slot_cells, file_spots, cell_bytes}
use Rattle.cola_image.specs.Standing.{AreRunsTold}
use Rattle.cola_cell.specs.Places.{number_of}
use Rattle.cola_laws.specs.Chain.{visibles}
use Rattle.cola_laws.specs.Slots.{levels_of}
use Rattle.cola_spec.specs.Map.{EntryFits, is_key, is_value, last_stamp}
use Rattle.cola_shapes.specs.Shapes.{shape_of, is_stamped}
use Rattle.cola_cell.specs.ToldCells.{cells, cell_at, IsTold}
use Rattle.cola_verdict.proofs.Holding.{CellHolds}
use Rattle.cola_verdict.proofs.Mapped.{stored-pair}

-- a key and a value are within the limits of the format
pub record PairFits (format : Format) (pair : List ℕ × Stamped) : Type 0 where
  pub key_fits : is_key (shape_of format 0) pair.0 ≡ true
  pub value_fits : is_value (shape_of format 0) pair.1.value ≡ true

both-tests : (a b : Bool) → a ≡ true → b ≡ true → (a && b) ≡ true
both-tests true b e f = f
both-tests false b e f = cc

spelled-fits : (format : Format) (c : Cell) (bytes : List ℕ) → IsSpelling format c bytes → CellHolds (PairFits format) (as_cell c)
spelled-fits format (cell.Item key (item.Value value stamp) young link) bytes s = record {
  key_fits = both-tests _ _ (le-leb 1 (length key) s.some_key) (le-leb (length key) _ s.fits.0);
  value_fits = le-leb (length value) _ s.fits.1.0;
}
spelled-fits format (cell.Item key item.Tombstone young link) bytes s = tt
spelled-fits format (cell.Look key link) bytes s = tt

found-fits : (format : Format) (bytes : List ℕ) (found : Option Cell) → decoded format bytes ≡ found → IsTold (spot_of found) → CellHolds (PairFits format) (cell_at (spot_of found))
found-fits format bytes None is told = cc
found-fits format bytes (Some c) is told = spelled-fits format c bytes (decoded_spells format bytes c is)

all-cells : (R : LawCell → Type 0) (f : ℕ → Spot) (i n : ℕ) → ((k : ℕ) → k < i + n → R (cell_at (f k))) → AllByRecursion R (cells f i n)
all-cells R f i zero h = tt
all-cells R f i (suc n) h = (h i (omega arith), all-cells R f (suc i) n (λ k l. h k (omega (arith, l))))

-- the cells of the visible runs of a file, where they are told
pub visible-fit : (format : Format) (bytes : List ℕ) (t j : ℕ) (marks : List Marks) → AreRunsTold (file_spots format bytes) t j marks →
    AllByRecursion (AllByRecursion (CellHolds (PairFits format))) (visibles (levels_of (slot_cells (file_spots format bytes)) t j marks))
visible-fit format bytes t j [] told = tt
visible-fit format bytes t j (m ∷ marks) told = (
  all-cells (CellHolds (PairFits format)) (file_spots format bytes j (visible_slot t j)) 0 m.visible
      (λ k l. let here = cell_bytes format bytes (number_of j (visible_slot t j) k) in found-fits format here (decoded format here) refl (told.0 k (omega (arith, l)))),
  visible-fit format bytes t (suc j) marks told.2,
)

-- so the entries that a map has of them fit its shape
pub entries-fit : (format : Format) (most last : ℕ) (pairs : List (List ℕ × Stamped)) → AllByRecursion (PairFits format) pairs → AllByRecursion (λ pair. pair.1.stamp ≤ last) pairs →
    All (EntryFits (shape_of format most) last) (map stored-pair pairs)
entries-fit format most last [] fit given = All-nil (EntryFits (shape_of format most) last)
entries-fit format most last (pair ∷ pairs) fit given =
    All-cons (EntryFits (shape_of format most) last) (stored-pair pair) (map stored-pair pairs)
    (record { key_fits = fit.0.key_fits; value_fits = fit.0.value_fits; given = given.0 })
    (entries-fit format most last pairs fit.1 given.1)

-- the last number of a header is one of a map of its format
pub last-fits : (format : Format) (last : ℕ) → last ≤ stamp_limit format → last ≤ last_stamp
last-fits One last h = omega (arith, h)
last-fits Two last h = h

pub last-unstamped : (format : Format) (last : ℕ) → last ≤ stamp_limit format → OnFalse (is_stamped format) (last ≡ 0)
last-unstamped One last h = let e : last ≡ 0 = omega (arith, h) in e
last-unstamped Two last h = tt
