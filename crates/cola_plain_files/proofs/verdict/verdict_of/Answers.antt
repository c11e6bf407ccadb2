use Rattle.std.proofs.Common.{IfOk, subst}
use Rattle.cola_verdict.specs.Tests.{Tested}
use Rattle.cola_verdict.specs.Verdict.{IsVerdict}
use Rattle.cola_plain_files.proofs.File.{file_is}
use Rattle.cola_plain_files.proofs.verdict.verdict_of.Goals as goal

pub returns : goal.returns
returns c = subst (λ (file : Tested). IfOk c.verdict_of_file.result (IsVerdict file)) (file_is c.args.header.now c.args.bytes.now) c.verdict_of_file.ensures
