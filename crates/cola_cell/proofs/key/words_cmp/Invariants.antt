use Rattle.std.proofs.Common.{◌≡◌, ◌*◌, drop}
use Rattle.std.specs.Ordering.{nat_cmp}
use Rattle.std.specs.Cmp.Lexicographic.{slice_cmp}
use Rattle.cola_cell.proofs.key.words_cmp.Given as goal

abbrev pub invariant-loop-word : goal.invariant-loop-word
invariant-loop-word l = slice_cmp nat_cmp l.left l.right ≡ slice_cmp nat_cmp (drop (8 * l.word) l.left) (drop (8 * l.word) l.right)
