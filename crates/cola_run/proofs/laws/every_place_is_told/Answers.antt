use Rattle.std.proofs.Common.{◌∙◌}
use Rattle.cola_run.specs.Store.{cells_of}
use Rattle.cola_run.proofs.Spots.{told-there}
use Rattle.cola_run.proofs.laws.every_place_is_told.Goals as goal

pub returns : goal.returns
returns g c = λ tells store level slot index place. told-there (cells_of (g.D.Device.bytes store.buffers.cache.device) store) (g.met.D.Device.told store.buffers.cache.device ∙ tells) level slot index
