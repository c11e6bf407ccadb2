use Rattle.cola_store.proofs.Filled.{is_made}
use Rattle.cola_store.proofs.laws.new_file_is_made.Goals as goal

pub returns : goal.returns
returns g c = is_made g.D.Device
