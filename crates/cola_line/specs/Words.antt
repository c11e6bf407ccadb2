-- The words of a text, taken one by one.
use Rattle.std.specs.Prelude.{ℕ, List, [], ◌∷◌, Option, Some, None}
use Rattle.cola_spec.specs.Command.{words_of}

-- the words that are left of a text: none where it has ended, else its parts between single spaces
abbrev pub words_left : Option (List ℕ) → List (List ℕ)
words_left None = []
words_left (Some text) = words_of text

-- the only word
abbrev pub only_word : List (List ℕ) → Option (List ℕ)
only_word (word ∷ []) = Some word
only_word _ = None

-- the only two words
abbrev pub only_two : List (List ℕ) → Option (List ℕ × List ℕ)
only_two (first ∷ second ∷ []) = Some (first, second)
only_two _ = None

-- the only three words
abbrev pub only_three : List (List ℕ) → Option (List ℕ × List ℕ × List ℕ)
only_three (first ∷ second ∷ third ∷ []) = Some (first, second, third)
only_three _ = None
