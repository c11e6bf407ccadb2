-- The ledger of the steps is the one that the blank opens.
use Rattle.cola_kv.proofs.kv.Kv.put.Given as goal

abbrev pub ghosts-put_on : goal.ghosts-put_on
ghosts-put_on g a = record { name = a.blank.name; parts = a.blank.parts }
