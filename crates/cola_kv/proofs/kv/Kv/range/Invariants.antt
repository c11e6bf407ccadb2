-- The ledger of the steps is the one that the blank opens.
use Rattle.cola_kv.proofs.kv.Kv.range.Given as goal

abbrev pub ghosts-range_on : goal.ghosts-range_on
ghosts-range_on g a = record { name = a.blank.name; parts = a.blank.parts }
