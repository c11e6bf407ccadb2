use Rattle.std.proofs.Common.{subst}
use Rattle.cola_command.specs.declared.place.Place.{Place}
use Rattle.cola_command.specs.Moves.{AreFew}
use Rattle.cola_command_laws.proofs.definition_laws.stores_read_each_block_once.Goals as goal

pub returns-clause-line : goal.returns-clause-line
returns-clause-line g c = λ line result turns old new store is leads. (subst (λ (p : Place g.row.D.Denot g.D.Device). AreFew g.D.Device p) is leads.few).reads_once

pub returns-clause-last : goal.returns-clause-last
returns-clause-last g c = λ cache steps steps' cost device device' lines turns answer sink sink' store led is. (subst (λ (p : Place g.row.D.Denot g.D.Device). AreFew g.D.Device p) is led.few).reads_once
