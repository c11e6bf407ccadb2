use Rattle.cola_c.proofs.walks.cola_core_prev.Given as goal

abbrev pub ghosts-prev_on : goal.ghosts-prev_on
ghosts-prev_on a = record { name = a.blank.name; parts = a.blank.parts }
