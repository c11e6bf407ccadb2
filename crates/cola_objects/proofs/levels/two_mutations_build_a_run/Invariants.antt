-- The ledger of the steps is the one that the blank opens.
use Rattle.cola_objects.proofs.levels.two_mutations_build_a_run.Given as goal

abbrev pub ghosts-works : goal.ghosts-works
ghosts-works g a = record { name = a.blank.name; parts = a.blank.parts }
