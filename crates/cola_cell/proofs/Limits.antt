-- What it says of the parts of a cell that it fits a format.
use Rattle.std.proofs.Common.{◌≤◌, length, arith}
use Rattle.cola_cell.specs.declared.format.Format.{Format}
use Rattle.cola_cell.specs.declared.cell.Item.TheVariants.{Value, Tombstone}
use Rattle.cola_cell.specs.declared.cell.Cell.{Cell}
use Rattle.cola_cell.specs.declared.cell.Cell.TheVariants as cell
use Rattle.cola_cell.specs.Cell.{key_of, value_of, stamp_of}
use Rattle.cola_cell.specs.Format.{key_limit, value_limit, stamp_limit, CellFits}

-- its key is within the format's limit
pub small-key : (format : Format) (cell : Cell) → CellFits format cell → length (key_of cell) ≤ key_limit format
small-key format (cell.Item key item young link) fits = fits.0
small-key format (cell.Look key link) fits = fits

-- its value is
pub small-value : (format : Format) (cell : Cell) → CellFits format cell → length (value_of cell) ≤ value_limit format
small-value format (cell.Item key (Value value stamp) young link) fits = fits.1.0
small-value format (cell.Item key Tombstone young link) fits = omega arith
small-value format (cell.Look key link) fits = omega arith

-- its stamp is
pub small-stamp : (format : Format) (cell : Cell) → CellFits format cell → stamp_of cell ≤ stamp_limit format
small-stamp format (cell.Item key (Value value stamp) young link) fits = fits.1.1
small-stamp format (cell.Item key Tombstone young link) fits = omega arith
small-stamp format (cell.Look key link) fits = omega arith

-- a cell whose key, value and stamp are fits
pub within-limits : (format : Format) (cell : Cell) → length (key_of cell) ≤ key_limit format → length (value_of cell) ≤ value_limit format
    → stamp_of cell ≤ stamp_limit format → CellFits format cell
within-limits format (cell.Item key (Value value stamp) young link) in_key in_value in_stamp = (in_key, (in_value, in_stamp))
within-limits format (cell.Item key Tombstone young link) in_key in_value in_stamp = (in_key, tt)
within-limits format (cell.Look key link) in_key in_value in_stamp = in_key
