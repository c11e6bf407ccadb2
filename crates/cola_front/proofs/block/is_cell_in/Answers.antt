use Rattle.std.proofs.Common.{ℕ, List, ap, ◌∙◌}
use Rattle.std.specs.Prelude.{is_some}
use Rattle.cola_cell.specs.Decoded.{decoded}
use Rattle.cola_front.proofs.FrontLemmas.{tested}
use Rattle.cola_front.proofs.block.is_cell_in.Goals as goal

pub returns : goal.returns
returns c = tested c.args.format c.cell_in.result.now c.is_cell.result c.is_cell.ensures ∙ ap (λ (xs : List ℕ). is_some (decoded c.args.format xs)) c.cell_in.ensures
