use Rattle.cola_rows.proofs.files.serve_rows.Given as goal

abbrev pub ghosts-serve_on : goal.ghosts-serve_on
ghosts-serve_on a = record { name = a.blank.name; parts = a.blank.parts }
