use Rattle.cola_command_laws.proofs.NewFiles.{file_completes}
use Rattle.cola_command_laws.proofs.laws.new_files_complete.Goals as goal

pub returns : goal.returns
returns g c = file_completes g.D.Device
