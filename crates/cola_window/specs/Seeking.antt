-- A search of a window.
use Rattle.std.specs.Prelude.{◌≡◌, ◌⊎◌, ℕ, ◌*◌, ◌≤◌, ◌<◌, List, length, take, drop}
use Rattle.std.specs.declared.cmp.Ordering.{Ordering}
use Rattle.std.specs.declared.cmp.Ordering.TheVariants.{Less, Equal, Greater}
use Rattle.cola_cell.specs.declared.format.Format.{Format}
use Rattle.cola_cell.specs.Cell.{key_of}
use Rattle.cola_cell.specs.Format.{width}
use Rattle.cola_cell.specs.Decoded.{standing}
use Rattle.cola_cell.specs.Order.{key_cmp}
use Rattle.cola_cell.specs.Spelling.{IsNoSpelling}
use Rattle.cola_window.specs.Windows.{Spells}
use Rattle.cola_window.specs.declared.seeking.Stop.{Stop}
use Rattle.cola_window.specs.declared.seeking.Stop.TheVariants as stop

-- the bytes of the n-th cell of a window
abbrev pub nth : Format → List ℕ → ℕ → List ℕ
nth format window n = take (width format) (drop (n * width format) window)

-- the window has so many cells more behind so many
abbrev pub HasCell : Format → List ℕ → ℕ → Type 0
HasCell format window n = width format ≤ length (drop (n * width format) window)

-- bytes spell a cell, whose key has this order to a key
pub record IsOrdered (format : Format) (key bytes : List ℕ) (order : Ordering) : Type 0 where
  pub spells : Spells format bytes
  pub order_is : key_cmp (key_of (standing format bytes)) key ≡ order

-- the first cells of a window are cells, with keys below this one
abbrev pub AllBelow : Format → List ℕ → List ℕ → ℕ → Type 0
AllBelow format key window n = (k : ℕ) → k < n → HasCell format window k × IsOrdered format key (nth format window k) Less

-- a search stops at the cell of this number, which is one of so many
pub record StopsAt (format : Format) (key window : List ℕ) (most n : ℕ) (order : Ordering) : Type 0 where
  pub within : n < most
  pub has : HasCell format window n
  pub ordered : IsOrdered format key (nth format window n) order

-- why a search stops at the cell of this number
abbrev pub SeekStops : Format → List ℕ → List ℕ → ℕ → ℕ → Stop → Type 0
SeekStops format key window most n stop.Equal = StopsAt format key window most n Equal
SeekStops format key window most n stop.Above = StopsAt format key window most n Greater
SeekStops format key window most n stop.Bad = HasCell format window n × IsNoSpelling format (nth format window n)
SeekStops format key window most n stop.End = (n ≡ most) ⊎ (length (drop (n * width format) window) < width format)
