use Rattle.std.proofs.Common.{ap, ◌∙◌}
use Rattle.cola_cell.specs.Format.{width}
use Rattle.cola_cell.proofs.packed.copy_in.Goals as goal

pub copy_narrow-requires-clause-from : goal.copy_narrow-requires-clause-from
copy_narrow-requires-clause-from c = c.requires.from ∙ ap width c.in-One.is

pub copy_narrow-requires-clause-into : goal.copy_narrow-requires-clause-into
copy_narrow-requires-clause-into c = c.requires.into ∙ ap width c.in-One.is

pub copy_wide-requires-clause-from : goal.copy_wide-requires-clause-from
copy_wide-requires-clause-from c = c.requires.from ∙ ap width c.in-Two.is

pub copy_wide-requires-clause-into : goal.copy_wide-requires-clause-into
copy_wide-requires-clause-into c = c.requires.into ∙ ap width c.in-Two.is
