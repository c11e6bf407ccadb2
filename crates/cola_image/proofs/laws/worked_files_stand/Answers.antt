use Rattle.cola_image.proofs.WorkedFiles.{four-stands, eight-stands, eleven-stands, sixteen-stands}
use Rattle.cola_image.proofs.laws.worked_files_stand.Goals as goal

pub returns-clause-four : goal.returns-clause-four
returns-clause-four c = four-stands

pub returns-clause-eight : goal.returns-clause-eight
returns-clause-eight c = eight-stands

pub returns-clause-eleven : goal.returns-clause-eleven
returns-clause-eleven c = eleven-stands

pub returns-clause-sixteen : goal.returns-clause-sixteen
returns-clause-sixteen c = sixteen-stands
