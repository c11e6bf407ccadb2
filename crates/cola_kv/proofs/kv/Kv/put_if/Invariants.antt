-- The ledger of the steps is the one that the blank opens.
use Rattle.cola_kv.proofs.kv.Kv.put_if.Given as goal

abbrev pub ghosts-put_if_on : goal.ghosts-put_if_on
ghosts-put_if_on g a = record { name = a.blank.name; parts = a.blank.parts }
