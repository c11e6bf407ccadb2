use Rattle.std.proofs.Common.{◌≡◌, [], ◌++◌, take, drop}
use Rattle.cola_shapes.specs.Shapes.{shape_of}
use Rattle.cola_load.specs.PlainLines.{lines_of}
use Rattle.cola_load.specs.Rows.{first_word, lines_before_word, word_of}
use Rattle.cola_load.proofs.plain.rows_of.Given as goal

-- no line so far has a word: the first one is among those that are left
abbrev pub invariant-loop-at : goal.invariant-loop-at
invariant-loop-at l = record {
  word : word_of (shape_of l.format l.keys) (lines_of l.lines) ≡ first_word (shape_of l.format l.keys) (lines_of (take l.at l.lines)) (lines_of (drop l.at l.lines));
  lines : lines_before_word (shape_of l.format l.keys) [] (lines_of l.lines)
      ≡ lines_of (take l.at l.lines) ++ lines_before_word (shape_of l.format l.keys) (lines_of (take l.at l.lines)) (lines_of (drop l.at l.lines));
}
