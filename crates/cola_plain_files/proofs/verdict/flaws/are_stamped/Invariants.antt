use Rattle.std.proofs.Common.{◌↔◌, ◌≤◌, drop}
use Rattle.std.specs.List.{AllByRecursion}
use Rattle.cola_plain_files.proofs.verdict.flaws.are_stamped.Given as goal

-- what is left to look at decides
abbrev pub invariant-loop-pair : goal.invariant-loop-pair
invariant-loop-pair l = AllByRecursion (λ pair. pair.1.stamp ≤ l.last) l.pairs ↔ AllByRecursion (λ pair. pair.1.stamp ≤ l.last) (drop l.pair-index l.pairs)
