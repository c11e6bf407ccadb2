-- The ledger of the steps is the one that the blank opens.
use Rattle.cola_objects.proofs.merges.every_list_of_quotas_gives_the_plain_weave.Given as goal

abbrev pub ghosts-small_merges : goal.ghosts-small_merges
ghosts-small_merges g a = record { name = a.blank.name; parts = a.blank.parts }
