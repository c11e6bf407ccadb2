use Rattle.cola_c.proofs.tools.cola_core_grow.Given as goal

abbrev pub ghosts-grow_on : goal.ghosts-grow_on
ghosts-grow_on a = record { name = a.blank.name; parts = a.blank.parts }
