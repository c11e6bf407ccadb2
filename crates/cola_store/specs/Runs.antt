-- A store whose cells are in memory and on a device: when it stands for a map.
use Rattle.std.specs.Prelude.{◌≡◌, ℕ, ◌≤◌, List}
use Rattle.cola_cell.specs.Held.{Held}
use Rattle.cola_layout.specs.declared.header.Header.{Header}
use Rattle.cola_layout.specs.Marks.{all_numbers}
use Rattle.cola_spec.specs.Map.{Map, IsMap, count}
use Rattle.cola_shapes.specs.Shapes.{shape_of}
use Rattle.cola_image.specs.Standing.{LevelsStandFor, FileStandsFor}
use Rattle.cola_run.specs.Saving.{header_shadow}

-- each shadow is that of the header
abbrev pub HasShadowsOf : Header → Held → Type 0
HasShadowsOf header held =
    (level : ℕ) → level ≤ header.geometry.bottom → held.shadows level ≡ header_shadow header level

-- the shadow of each level stands beside the visible run, with the length of the header's marks
pub record AreShadowsOf (header : Header) (held : Held) : Type 0 where
  pub slots : (level : ℕ) → level ≤ header.geometry.bottom →
      (held.shadows level).slot ≡ (header_shadow header level).slot
  pub lens : (level : ℕ) → level ≤ header.geometry.bottom →
      (held.shadows level).len ≡ (header_shadow header level).len

-- a store with this header, whose cells are these, stands for a map: the header has the map's count and last number, the map
-- is one of its format and keys, the cells stand for it by the header's marks, and the shadows are the header's
pub record StoreStandsFor (header : Header) (held : Held) (m : Map) : Type 0 where
  pub counted : header.count ≡ count m
  pub numbered : header.last ≡ m.last
  pub is_map : IsMap (shape_of header.geometry.format header.geometry.keys) m
  pub levels : LevelsStandFor header.geometry.keys header.clock
      (all_numbers header.levels.items) held.spots m
  pub shadows : AreShadowsOf header held

-- it stands for whichever map these bytes stand for
abbrev pub StandsForFile : Header → Held → List ℕ → Type 0
StandsForFile header held bytes = (m : Map) → FileStandsFor bytes m → StoreStandsFor header held m
