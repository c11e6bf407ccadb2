use Rattle.cola_replay.proofs.Running.{are_kept, are_answered, stay_durable}
use Rattle.cola_replay.proofs.laws.synced_calls_are_kept.Goals as goal

pub returns-clause-kept : goal.returns-clause-kept
returns-clause-kept c = λ reads none has file.
    let law = c.checkpoints_are_kept.ensures in
    are_kept reads file (law.safe reads none has file) (law.settled reads none has file) (law.turns reads none has file)

pub returns-clause-durable : goal.returns-clause-durable
returns-clause-durable c = λ reads none has file.
    let law = c.checkpoints_are_kept.ensures in
    stay_durable reads file (law.safe reads none has file) (law.settled reads none has file) (law.turns reads none has file)

pub returns-clause-answered : goal.returns-clause-answered
returns-clause-answered c = λ reads none has file.
    let law = c.checkpoints_are_kept.ensures in
    are_answered reads file (law.safe reads none has file) (law.settled reads none has file) (law.turns reads none has file)
