-- The ledger of the steps is the one that the blank opens.
use Rattle.cola_kv.proofs.kv.Kv.range_back.Given as goal

abbrev pub ghosts-range_back_on : goal.ghosts-range_back_on
ghosts-range_back_on g a = record { name = a.blank.name; parts = a.blank.parts }
