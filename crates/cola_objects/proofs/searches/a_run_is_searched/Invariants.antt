-- The ledger of the steps is the one that the blank opens.
use Rattle.cola_objects.proofs.searches.a_run_is_searched.Given as goal

abbrev pub ghosts-seeks : goal.ghosts-seeks
ghosts-seeks g a = record { name = a.blank.name; parts = a.blank.parts }
