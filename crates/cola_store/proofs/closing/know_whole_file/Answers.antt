use Rattle.cola_store.proofs.Closed.{whole-file}
use Rattle.cola_store.proofs.closing.know_whole_file.Goals as goal

pub returns : goal.returns
returns g c = whole-file (g.D.Device.bytes c.args.runs.now.buffers.cache.device) c.args.runs.now c.transfers-reads.ensures.sound
