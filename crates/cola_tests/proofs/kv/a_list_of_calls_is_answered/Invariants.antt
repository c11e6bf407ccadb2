-- The ledger of the steps is the one that the blank opens.
use Rattle.cola_tests.proofs.kv.a_list_of_calls_is_answered.Given as goal

abbrev pub ghosts-play : goal.ghosts-play
ghosts-play g a = record { name = a.blank.name; parts = a.blank.parts }
