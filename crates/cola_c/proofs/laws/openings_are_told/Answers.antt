use Rattle.cola_c.proofs.TellingBytes.{refusals-told, openings-told, checkpoints-told, closings-told}
use Rattle.cola_c.proofs.laws.openings_are_told.Goals as goal

pub returns-clause-refusals : goal.returns-clause-refusals
returns-clause-refusals c = refusals-told

pub returns-clause-openings : goal.returns-clause-openings
returns-clause-openings c = openings-told

pub returns-clause-checkpoints : goal.returns-clause-checkpoints
returns-clause-checkpoints c = checkpoints-told

pub returns-clause-closings : goal.returns-clause-closings
returns-clause-closings c = closings-told
