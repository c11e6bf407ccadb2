-- What a chain and its file have for each other: the map for which their levels stand.
use Rattle.std.specs.Prelude.{ℕ, List, Option}
use Rattle.cola_spec.specs.Map.{Map}
use Rattle.cola_cell.specs.Held.{Held, IsTelling}
use Rattle.cola_layout.specs.declared.header.Header.{Header}
use Rattle.cola_layout.specs.Marks.{all_numbers}
use Rattle.cola_layout.specs.Cells.{file_spots}
use Rattle.cola_image.specs.Standing.{LevelsStandFor, found_in}
use Rattle.cola_mutation.specs.Standing.{StandsFor}
use Rattle.cola_run.specs.Saving.{SameReads, AreFileSpots}
use Rattle.cola_chain.specs.Contents.{Contents, held_of}

-- a chain, where it tells its cells, stands for a map for which the levels of a file of these bytes stand by this header
abbrev pub StandsForFile : {D : Type 0} → (D → Option (List ℕ)) → Contents D → Header → List ℕ → Type 0
StandsForFile told chain header bytes = (most : ℕ) (m : Map) → IsTelling (held_of told chain) →
    LevelsStandFor most header.clock (all_numbers header.levels.items) (file_spots header.geometry.format bytes) m →
    StandsFor (held_of told chain) most chain.clock chain.levels (found_in m)

-- a file with this header and the cells of a chain's runs, as a flush leaves it, has levels that stand for a map for which
-- the chain's do
abbrev pub FileStandsFor : {D : Type 0} → (D → Option (List ℕ)) → Contents D → Header → Type 0
FileStandsFor told chain header = (most : ℕ) (m : Map) (flushed : Held) (bytes : List ℕ) →
    StandsFor (held_of told chain) most chain.clock chain.levels (found_in m) →
    SameReads (held_of told chain) flushed → AreFileSpots chain.store.geometry flushed.spots bytes →
    LevelsStandFor most header.clock (all_numbers header.levels.items) (file_spots header.geometry.format bytes) m
