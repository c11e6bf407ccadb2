-- What the law of stores says.
use Rattle.std.specs.Prelude.{◌≡◌, ℕ, ◌*◌, ◌≤◌, ◌<◌, List, length}
use Rattle.cola_front.specs.Front.{FrontCells, IsFront, cell_at, spelled_at, image}

-- what the bytes of a front spell at each place behind the header is what stands there
abbrev pub StoredCellsAreLoaded : Type 0
StoredCellsAreLoaded =
    (front : FrontCells) (header : List ℕ) (place : ℕ) →
    IsFront front → length header ≡ 512 → 8 ≤ place → place < 2 * front.block →
    spelled_at front.format (image front header) place ≡ cell_at front place
