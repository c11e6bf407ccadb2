-- The ledger of the steps is the one that the blank opens.
use Rattle.cola_objects.proofs.searches.chains_answer_as_plain_programs.Given as goal

abbrev pub ghosts-chains : goal.ghosts-chains
ghosts-chains g a = record { name = a.blank.name; parts = a.blank.parts }
