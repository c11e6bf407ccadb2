use Rattle.std.proofs.Common.{◌+◌, ◌∙◌, sym, ap, arith}
use Rattle.cola_layout.proofs.Powers.{power-le}
use Rattle.cola_cell.specs.Places.{number_of}
use Rattle.cola_clock.specs.Clock.{visible_slot}
use Rattle.cola_plain_files.proofs.File.{file_says}
use Rattle.cola_plain_files.proofs.verdict.flaws.visible_cell.Goals as goal

pub returns-clause-value : goal.returns-clause-value
returns-clause-value c = λ bytes.
    c.place.ensures.value ∙ ap (λ slot. number_of c.args.level slot 0) (c.slot_of.ensures.value ∙ ap (λ t. visible_slot t c.args.level) (sym (file_says c.args.header.now bytes).clock))

pub returns-clause-small : goal.returns-clause-small
returns-clause-small c = let grows = power-le (c.args.header.now.geometry.bottom + 4) 26 (omega (arith, c.args.header.now.geometry.shallow)) in omega (arith, grows, c.place.ensures.within)
