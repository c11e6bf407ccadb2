use Rattle.std.proofs.Common.{◌≡◌, ◌≤◌, length, take, drop}
use Rattle.cola_check.proofs.Common.{visible_said, shadow_said, counted}
use Rattle.cola_check.proofs.tally.add_live.Given as goal

-- the levels from an index on are counted, and the counts of those above it stand as they stood
abbrev pub invariant-loop-left : goal.invariant-loop-left
invariant-loop-left l = record {
  within : l.left ≤ length l.levels;
  visible : l.answers.visible ≡ visible_said (drop l.left l.levels);
  shadow : l.answers.shadow ≡ shadow_said (drop l.left l.levels);
  first : take l.left l.counts ≡ take l.left l.fn.counts;
  counted : drop l.left l.counts ≡ counted (drop l.left l.fn.counts) (drop l.left l.levels);
}

abbrev pub decreases-loop-left : goal.decreases-loop-left
decreases-loop-left l = l.left
