use Rattle.cola_device.proofs.BytesLemmas.{part-splice_below, part-splice_above}
use Rattle.cola_device.proofs.laws.other_bytes_stay.Goals as goal

pub returns-clause-below : goal.returns-clause-below
returns-clause-below c =
    λ bytes new at from count inside apart. part-splice_below bytes at new from count inside apart

pub returns-clause-above : goal.returns-clause-above
returns-clause-above c =
    λ bytes new at from count inside apart. part-splice_above bytes at new from count inside apart
