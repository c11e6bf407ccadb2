-- The ledger of the steps is the one that the blank opens.
use Rattle.cola_objects.proofs.required.required_calls_are_enough.Given as goal

abbrev pub ghosts-required_calls : goal.ghosts-required_calls
ghosts-required_calls g a = record { name = a.blank.name; parts = a.blank.parts }
