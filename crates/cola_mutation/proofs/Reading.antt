-- What levels that stand for a map say to a search.
use Rattle.std.proofs.Common.{◌≡◌, ℕ, List, [], ◌∷◌, Option}
use Rattle.cola_runs.specs.Search.{AreSampled}
use Rattle.cola_laws.specs.Chain.{visibles, value_at}
use Rattle.cola_laws.specs.Sound.{HasAtMost}
use Rattle.cola_laws.proofs.Facts.{visible-sampled, sound-map}
use Rattle.cola_cell.specs.Held.{Held, Stamped}
use Rattle.cola_cell.specs.Order.{key_cmp}
use Rattle.cola_level.specs.declared.level.Level.{Level}
use Rattle.cola_level.specs.Marks.{marks_of, all_marks_of}
use Rattle.cola_level.specs.Standing.{stood, all_stood}
use Rattle.cola_mutation.specs.Standing.{StandsFor}

pub runs_sampled : (held : Held) (most t : ℕ) (levels : List Level) (m : List ℕ → Option Stamped) → StandsFor held most t levels m → AreSampled key_cmp (visibles (all_stood held t 0 (all_marks_of levels)))
runs_sampled held most t [] m s = absurd s.sound
runs_sampled held most t (top ∷ below) m s = visible-sampled key_cmp most t 0 (visibles (all_stood held t 0 (all_marks_of (top ∷ below)))) s.sound.sound.visible

pub runs_answer : (held : Held) (most t : ℕ) (levels : List Level) (m : List ℕ → Option Stamped) → StandsFor held most t levels m → (q : List ℕ) → value_at key_cmp (visibles (all_stood held t 0 (all_marks_of levels))) q ≡ m q
runs_answer held most t [] m s q = absurd s.sound
runs_answer held most t (top ∷ below) m s q = s.sound.sound.stands q

pub runs_few : (held : Held) (most t : ℕ) (levels : List Level) (m : List ℕ → Option Stamped) → StandsFor held most t levels m → HasAtMost key_cmp most m
runs_few held most t [] m s = absurd s.sound
runs_few held most t (top ∷ below) m s = sound-map key_cmp most 0 t m (stood held t 0 (marks_of top)) (all_stood held t 1 (all_marks_of below)) s.sound.sound
