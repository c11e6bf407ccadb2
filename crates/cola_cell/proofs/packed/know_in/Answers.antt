use Rattle.cola_cell.specs.Decoded.{standing}
use Rattle.cola_cell.proofs.DecodedLemmas.{spelled-so}
use Rattle.cola_cell.proofs.packed.know_in.Goals as goal

pub returns : goal.returns
returns c = spelled-so c.args.format (standing c.args.own c.args.bytes.now) c.requires.fits c.requires.spelled.some_key c.requires.spelled.small_link
