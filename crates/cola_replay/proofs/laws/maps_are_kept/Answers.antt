use Rattle.cola_replay.proofs.Mapping.{maps_kept, maps_answered}
use Rattle.cola_replay.proofs.laws.maps_are_kept.Goals as goal

pub returns-clause-kept : goal.returns-clause-kept
returns-clause-kept c = λ reads none has size shape m file first its run saves.
    let law = c.checkpoints_are_kept.ensures in
    maps_kept reads file (law.safe reads none has file) (law.settled reads none has file) (law.turns reads none has file) size shape m first its run saves
    (c.synced_calls_are_kept.ensures.kept reads none has file its run)

pub returns-clause-answered : goal.returns-clause-answered
returns-clause-answered c = λ reads none has size shape m file first its run saves.
    let law = c.checkpoints_are_kept.ensures in
    maps_answered reads file (law.safe reads none has file) (law.settled reads none has file) (law.turns reads none has file) size shape m first its run saves
    (c.synced_calls_are_kept.ensures.answered reads none has file its run)
