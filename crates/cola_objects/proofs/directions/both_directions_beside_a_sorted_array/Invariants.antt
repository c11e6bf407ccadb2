-- The ledger of the steps is the one that the blank opens.
use Rattle.cola_objects.proofs.directions.both_directions_beside_a_sorted_array.Given as goal

abbrev pub ghosts-one_store : goal.ghosts-one_store
ghosts-one_store g a = record { name = a.blank.name; parts = a.blank.parts }
