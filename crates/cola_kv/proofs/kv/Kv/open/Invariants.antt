-- The ledger of the steps is the one that the blank opens.
use Rattle.cola_kv.proofs.kv.Kv.open.Given as goal

abbrev pub ghosts-open_store : goal.ghosts-open_store
ghosts-open_store g a = record { name = a.blank.name; parts = a.blank.parts }
