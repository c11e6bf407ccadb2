use Rattle.std.proofs.Common.{ap}
use Rattle.std.specs.Option.{option_copied}
use Rattle.cola_line.proofs.Splits.{not_only_word}
use Rattle.cola_load.proofs.words.one.Goals as goal

pub returns-in_default-Some : goal.returns-in_default-Some
returns-in_default-Some c =
    rw c.in-Some.is (not_only_word c.in-Some.text.now c.cut.result.0.now _ c.in_default-Some.field-0-1.now c.cut.ensures (ap option_copied c.in_default-Some.is-1))
