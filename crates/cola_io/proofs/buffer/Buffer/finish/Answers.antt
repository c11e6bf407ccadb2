use Rattle.std.proofs.Common.{refl}
use Rattle.cola_io.proofs.BufferLemmas.{finish_long}
use Rattle.cola_io.proofs.buffer.Buffer.finish.Goals as goal

pub returns-in-Long-clause-finished : goal.returns-in-Long-clause-finished
returns-in-Long-clause-finished c = (finish_long _ _ _ c.args.self.now c.self.view_is c.in-Long.is, refl)
