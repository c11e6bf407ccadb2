-- The ledger of the steps is the one that the blank opens.
use Rattle.cola_kv.proofs.kv.Kv.prefix.Given as goal

abbrev pub ghosts-prefix_on : goal.ghosts-prefix_on
ghosts-prefix_on g a = record { name = a.blank.name; parts = a.blank.parts }
