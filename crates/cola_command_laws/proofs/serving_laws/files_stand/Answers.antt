use Rattle.cola_command_laws.proofs.serving_laws.files_stand.Goals as goal

pub returns : goal.returns
returns c = λ sizes m bytes s. (s.header, s.stands)
