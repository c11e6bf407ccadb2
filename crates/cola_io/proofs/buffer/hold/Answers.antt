use Rattle.cola_io.proofs.BufferLemmas.{hold_long}
use Rattle.cola_io.proofs.buffer.hold.Goals as goal

pub returns-in-Long-clause-part : goal.returns-in-Long-clause-part
returns-in-Long-clause-part c = hold_long _ _ _ c.in-Long.is
