-- The ledger of the steps is the one that the blank opens.
use Rattle.cola_kv.proofs.kv.Kv.stamp.Given as goal

abbrev pub ghosts-stamp_on : goal.ghosts-stamp_on
ghosts-stamp_on g a = record { name = a.blank.name; parts = a.blank.parts }
