-- The ledger of the steps is the one that the blank opens.
use Rattle.cola_kv.proofs.kv.Kv.get.Given as goal

abbrev pub ghosts-get_on : goal.ghosts-get_on
ghosts-get_on g a = record { name = a.blank.name; parts = a.blank.parts }
