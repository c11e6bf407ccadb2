use Rattle.cola_load.proofs.Chains.{a_printed_row}
use Rattle.cola_load.proofs.laws.printed_rows_are_read.Goals as goal

pub returns : goal.returns
returns c = a_printed_row
