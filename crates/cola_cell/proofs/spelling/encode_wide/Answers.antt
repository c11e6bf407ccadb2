use Rattle.cola_cell.specs.declared.format.Format.TheVariants.{Two}
use Rattle.cola_cell.proofs.Limits.{within-limits}
use Rattle.cola_cell.proofs.spelling.encode_wide.Goals as goal

pub encode_in-requires-clause-fits : goal.encode_in-requires-clause-fits
encode_in-requires-clause-fits c = within-limits Two c.args.cell.now c.know_limits.ensures.key.1 c.know_limits.ensures.value c.requires
