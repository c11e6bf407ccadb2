-- The ledger of the steps is the one that the blank opens.
use Rattle.cola_kv.proofs.kv.Kv.delete.Given as goal

abbrev pub ghosts-delete_on : goal.ghosts-delete_on
ghosts-delete_on g a = record { name = a.blank.name; parts = a.blank.parts }
