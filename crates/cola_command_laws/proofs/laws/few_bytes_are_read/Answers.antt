use Rattle.cola_io.specs.Reads.{bytes_read}
use Rattle.cola_session.proofs.InMemory.{taken_of}
use Rattle.cola_command_laws.proofs.laws.few_bytes_are_read.Goals as goal

pub returns : goal.returns
returns g c = λ answered source source' reads few read. taken_of (bytes_read reads) (g.S.Source.left source) (g.S.Source.left source') few read.took
