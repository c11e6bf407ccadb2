-- A cell is pushed where there is one.
use Rattle.std.proofs.Common.{Option, Some, sym, ap, ◌∙◌}
use Rattle.std.specs.Prelude.{option_copied}
use Rattle.cola_cell.specs.declared.packed.Pass.{Pass}
use Rattle.cola_cell.specs.Packed.{passed}
use Rattle.cola_merge.specs.Rules.{emitted_of}
use Rattle.cola_merge.proofs.Pushing.{emission_of}
use Rattle.cola_merge.proofs.merging.emit.Goals as goal

pub returns-in-Some-Some-clause-adds : goal.returns-in-Some-Some-clause-adds
returns-in-Some-Some-clause-adds g c =
    emission_of (emitted_of c.args.pass c.args.head.now.cell) (passed c.in-Some-Some.pass c.in-Some-Some.cell.now) c.args.slot c.args.steps.now c.push_as.new.steps c.push_as.result
    (ap (λ (p : Option Pass). emitted_of p c.args.head.now.cell) c.in-Some-Some.is-0 ∙ ap (emitted_of (Some c.in-Some-Some.pass)) (sym c.cell.ensures ∙ ap option_copied c.in-Some-Some.is-1))
    c.push_as.ensures.pushes c.push_as.ensures.spends c.push_as.ensures.ticks
    c.requires.level_in c.requires.slot_in c.requires.in_slot
