-- The ledger of the steps is the one that the blank opens.
use Rattle.cola_kv.proofs.range.Range.try_next.Given as goal

abbrev pub ghosts-next_on : goal.ghosts-next_on
ghosts-next_on g a = record { name = a.blank.name; parts = a.blank.parts }
