use Rattle.cola_cell.specs.Packed.{passed}
use Rattle.cola_cell.proofs.DecodedLemmas.{spelled-so}
use Rattle.cola_front.proofs.FrontLemmas.{spelling_is}
use Rattle.cola_front.proofs.block.fill_as.Goals as goal

pub returns-clause-put : goal.returns-clause-put
returns-clause-put c = spelling_is c.args.format (passed c.args.pass c.args.cell.now) c.write_as.new.into c.write_as.ensures

pub returns-clause-spelled : goal.returns-clause-spelled
returns-clause-spelled c = spelled-so c.args.format (passed c.args.pass c.args.cell.now) c.write_as.ensures.fits c.write_as.ensures.some_key c.write_as.ensures.small_link
