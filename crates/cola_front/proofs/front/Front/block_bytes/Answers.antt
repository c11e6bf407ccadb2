use Rattle.cola_front.proofs.Stored.{sound_of}
use Rattle.cola_front.proofs.front.Front.block_bytes.Goals as goal

pub returns-clause-sound : goal.returns-clause-sound
returns-clause-sound c = let i = c.self.inside in sound_of i.format i.block i.bytes.items.items c.args.self.now c.self.view_is c.self.invariant
