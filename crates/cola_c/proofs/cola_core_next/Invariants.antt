use Rattle.cola_c.proofs.cola_core_next.Given as goal

abbrev pub ghosts-next_on : goal.ghosts-next_on
ghosts-next_on a = record { name = a.blank.name; parts = a.blank.parts }
