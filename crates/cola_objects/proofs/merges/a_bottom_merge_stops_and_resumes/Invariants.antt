-- The ledger of the steps is the one that the blank opens.
use Rattle.cola_objects.proofs.merges.a_bottom_merge_stops_and_resumes.Given as goal

abbrev pub ghosts-bottom_merges : goal.ghosts-bottom_merges
ghosts-bottom_merges g a = record { name = a.blank.name; parts = a.blank.parts }
