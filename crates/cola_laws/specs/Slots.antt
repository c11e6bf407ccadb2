-- Levels as they stand in slots, by their marks: lengths and cursors alone. The rules on marks are the clock's.
use Rattle.std.specs.Prelude.{◌≡◌, ℕ, suc, ◌-◌, List, [], ◌∷◌, length, ⊤}
use Rattle.cola_clock.specs.Clock.{visible_slot}
use Rattle.cola_clock.specs.Marks.{Marks}
use Rattle.cola_runs.specs.Cells.{Cell}
use Rattle.cola_laws.specs.Chain.{Level}

module _ {K V : Type 0} where
  -- the marks that a level has
  abbrev pub marks_of : Level K V → Marks
  marks_of l = record { visible = length l.visible; shadow = length l.shadow; own = l.own; incoming = l.incoming; sampled = l.sampled }

  -- the marks of all levels
  abbrev pub all_marks_of : List (Level K V) → List Marks
  all_marks_of [] = []
  all_marks_of (l ∷ ls) = marks_of l ∷ all_marks_of ls

  -- level j with these marks at clock t, where `cells j s n` are the first n cells of slot s of level j: its visible run
  -- stands in slot 0 in an even period and in slot 1 in an odd one, its shadow in the other
  abbrev pub level_of : (ℕ → ℕ → ℕ → List (Cell K V)) → ℕ → ℕ → Marks → Level K V
  level_of cells t j m = record {
    visible = cells j (visible_slot t j) m.visible;
    shadow = cells j (1 - visible_slot t j) m.shadow;
    own = m.own;
    incoming = m.incoming;
    sampled = m.sampled;
  }

  -- the same of level j and of all below it
  abbrev pub levels_of : (ℕ → ℕ → ℕ → List (Cell K V)) → ℕ → ℕ → List Marks → List (Level K V)
  levels_of cells t j [] = []
  levels_of cells t j (m ∷ ms) = level_of cells t j m ∷ levels_of cells t (suc j) ms

  -- the slots of level j and of all below it hold as many cells as the marks say
  abbrev pub AreHeld : (ℕ → ℕ → ℕ → List (Cell K V)) → ℕ → ℕ → List Marks → Type 0
  AreHeld cells t j [] = ⊤
  AreHeld cells t j (m ∷ ms) =
      (length (cells j (visible_slot t j) m.visible) ≡ m.visible) × (length (cells j (1 - visible_slot t j) m.shadow) ≡ m.shadow) × AreHeld cells t (suc j) ms
