use Rattle.std.proofs.Common.{◌≡◌, length}
use Rattle.cola_cursor.specs.Saving.{SavedOnce, restored}
use Rattle.cola_cursor.proofs.saved.put_back.Given as goal

abbrev pub invariant-loop-one : goal.invariant-loop-one
invariant-loop-one l = record {
  once : SavedOnce (length l.lines) l.saved.items;
  restores : restored l.saved.items l.lines ≡ restored l.fn.saved.items l.fn.lines;
}

abbrev pub decreases-loop-one : goal.decreases-loop-one
decreases-loop-one l = length l.saved.items
