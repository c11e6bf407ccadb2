-- The ledger of the steps is the one that the blank opens.
use Rattle.cola_tests.proofs.table.puts_that_depend_on_a_stamp.Given as goal

abbrev pub ghosts-put_once : goal.ghosts-put_once
ghosts-put_once g a = record { name = a.blank.name; parts = a.blank.parts }
