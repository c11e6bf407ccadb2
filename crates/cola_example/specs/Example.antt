-- What a caller knows of a store that was written, closed and read.
use Rattle.std.specs.Prelude.{◌≡◌, ℕ, List, [], ◌∷◌, Option, Some, None, IsSomeAnd}
use Rattle.cola_spec.specs.Map.{Shape, Map, empty_map, after_put, pairs_between}
use Rattle.cola_image.specs.Standing.{FileStandsFor}

-- the first of a list, where it has one
abbrev pub first_of : {A : Type 0} → List A → Option A
first_of [] = None
first_of (a ∷ more) = Some a

-- the file stands for the map, and the first pair of the map from a key on was read
pub record Reads (told : Option (List ℕ)) (m : Map) (low : List ℕ) (pair : Option (List ℕ × List ℕ)) : Type 0 where
  pub file : IsSomeAnd told (λ bytes. FileStandsFor bytes m)
  pub pair_is : pair ≡ first_of (pairs_between m low None)

-- the same of the map with a put
pub record Writes (told : Option (List ℕ)) (m : Map) (key value : List ℕ) (pair : Option (List ℕ × List ℕ)) : Type 0 where
  pub shape : Shape
  pub reads : Reads told (after_put shape m key value) key pair

-- a new store with one put was read twice
pub record IsNewWithPut (told : Option (List ℕ)) (key value : List ℕ) (before after : Option (List ℕ × List ℕ)) : Type 0 where
  pub writes : Writes told empty_map key value before
  pub reads : Reads told (after_put writes.shape empty_map key value) key after
