use Rattle.std.proofs.Common.{List, ℕ, Option, subst, arith, IfSome}
use Rattle.cola_check.proofs.Common.{HasVerdict}
use Rattle.cola_check.proofs.Judging.{eighty}
use Rattle.cola_check.proofs.laws.tested_files_are_read_by_blocks.Goals as goal

pub returns-clause-ticks : goal.returns-clause-ticks
returns-clause-ticks g c = λ device device' from to verdict bytes tested told.
    let same = eighty tested.header.bottom in
    (tested.header, (subst (λ (o : Option (List ℕ)). IfSome o (HasVerdict tested.header verdict)) told tested.is).was, omega (arith, tested.reading.few_ticks, same))
