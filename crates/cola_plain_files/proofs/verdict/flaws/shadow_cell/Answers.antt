use Rattle.std.proofs.Common.{◌-◌, ◌∙◌, sym, ap}
use Rattle.cola_cell.specs.Places.{number_of}
use Rattle.cola_clock.specs.Clock.{visible_slot}
use Rattle.cola_plain_files.proofs.File.{file_says}
use Rattle.cola_plain_files.proofs.verdict.flaws.shadow_cell.Goals as goal

pub returns : goal.returns
returns c = λ bytes.
    c.place.ensures.value ∙ ap (λ slot. number_of c.args.level (1 - slot) 0) (c.slot_of.ensures.value ∙ ap (λ t. visible_slot t c.args.level) (sym (file_says c.args.header.now bytes).clock))
