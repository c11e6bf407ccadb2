-- The keys of cells, and keys that tie.
use Rattle.std.proofs.Common.{◌≡◌, ℕ, true, List, Less, Equal, Greater, Ordering, refl}
use Rattle.std.specs.Ordering.{is_eq}
use Rattle.std.specs.FinMap.{IsAntisymmetric, slice_cmp-IsAntisymmetric, nat_cmp-IsAntisymmetric}
use Rattle.cola_runs.specs.Cells as laws
use Rattle.cola_cell.specs.declared.cell.Cell.{Cell}
use Rattle.cola_cell.specs.declared.cell.Cell.TheVariants as cell
use Rattle.cola_cell.specs.Cell.{key_of}
use Rattle.cola_cell.specs.Held.{as_cell}
use Rattle.cola_cell.specs.Order.{key_cmp}

-- the key of a cell is that of the laws' cell
pub key_same : (c : Cell) → laws.key_of (as_cell c) ≡ key_of c
key_same (cell.Item key item young link) = refl
key_same (cell.Look key link) = refl

-- keys that tie are the same
pub keys_alike : IsAntisymmetric key_cmp
keys_alike = slice_cmp-IsAntisymmetric nat_cmp-IsAntisymmetric

pub same_key : (x y : List ℕ) → is_eq (key_cmp x y) ≡ true → x ≡ y
same_key x y e = keys_alike x y (tie (key_cmp x y) e)
  where
    tie : (r : Ordering) → is_eq r ≡ true → r ≡ Equal
    tie Less f = cc
    tie Equal f = refl
    tie Greater f = cc
