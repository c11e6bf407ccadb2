-- The ledger of the steps is the one that the blank opens.
use Rattle.cola_kv.proofs.kv.Kv.last.Given as goal

abbrev pub ghosts-last_on : goal.ghosts-last_on
ghosts-last_on g a = record { name = a.blank.name; parts = a.blank.parts }
