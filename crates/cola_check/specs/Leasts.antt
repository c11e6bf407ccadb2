-- The least keys of the walks over several levels, from the first level down to each.
use Rattle.std.specs.Prelude.{◌≡◌, ℕ, zero, suc, false, List, [], ◌∷◌, Option, ⊤}
use Rattle.cola_check.specs.declared.level_walks.LevelWalks.{LevelWalks}
use Rattle.cola_check.specs.declared.tally.Said.TheVariants.{Nothing}
use Rattle.cola_check.specs.Walks.{has_key, lesser}

-- the least of a key and of the heads of a level's walks, where there is one of them
abbrev pub level_lesser : Option (List ℕ) → LevelWalks → Option (List ℕ)
level_lesser least level = lesser (lesser least level.visible.walk.head) level.shadow.walk.head

-- each is the least of a key and of the heads of the walks down to its level
abbrev pub AreLeasts : Option (List ℕ) → List (Option (List ℕ)) → List LevelWalks → Type 0
AreLeasts before [] [] = ⊤
AreLeasts before [] (level ∷ levels) = ⊥
AreLeasts before (least ∷ leasts) [] = ⊥
AreLeasts before (least ∷ leasts) (level ∷ levels) = (least ≡ level_lesser before level) × AreLeasts least leasts levels

-- the same of so many, the first ones
abbrev pub AreFirstLeasts : ℕ → Option (List ℕ) → List (Option (List ℕ)) → List LevelWalks → Type 0
AreFirstLeasts zero before leasts levels = ⊤
AreFirstLeasts (suc n) before [] levels = ⊤
AreFirstLeasts (suc n) before (least ∷ leasts) [] = ⊤
AreFirstLeasts (suc n) before (least ∷ leasts) (level ∷ levels) = (least ≡ level_lesser before level) × AreFirstLeasts n least leasts levels

-- neither walk of a level stands at a key
pub record IsAwayFrom (key : List ℕ) (level : LevelWalks) : Type 0 where
  pub visible : has_key key level.visible.walk.head ≡ false
  pub shadow : has_key key level.shadow.walk.head ≡ false

-- the same of so many levels, the first ones
abbrev pub AreAwayFrom : ℕ → List ℕ → List LevelWalks → Type 0
AreAwayFrom zero key levels = ⊤
AreAwayFrom (suc n) key [] = ⊤
AreAwayFrom (suc n) key (level ∷ levels) = IsAwayFrom key level × AreAwayFrom n key levels

-- the walks of a level stay where they are
pub record Stays (old new : LevelWalks) : Type 0 where
  pub visible : new.visible.walk ≡ old.visible.walk
  pub shadow : new.shadow.walk ≡ old.shadow.walk

-- nothing is said of its runs, and its period is the same
pub record IsHushed (old new : LevelWalks) : Type 0 where
  pub visible : new.visible.said ≡ Nothing
  pub shadow : new.shadow.said ≡ Nothing
  pub odd_is : new.odd ≡ old.odd

-- the walks of so many levels, the first ones, stay where they are
abbrev pub FirstStay : ℕ → List LevelWalks → List LevelWalks → Type 0
FirstStay zero olds news = ⊤
FirstStay (suc n) [] news = ⊤
FirstStay (suc n) (old ∷ olds) [] = ⊤
FirstStay (suc n) (old ∷ olds) (new ∷ news) = Stays old new × FirstStay n olds news
