use Rattle.std.proofs.Common.{◌∙◌, ℕ, List, Ok, Err, sym, ap, subst}
use Rattle.cola_mapped.specs.Region.{bytes_in}
use Rattle.cola_tools.specs.declared.fault.ToolFault.{ToolFault}
use Rattle.cola_tools.specs.Growing.{Grows, refusal}
use Rattle.cola_tools.specs.New.{New, place_of}
use Rattle.cola_tools.specs.Shown.{Showing}
use Rattle.cola_tools.proofs.Grown.{answered, grown, refused}
use Rattle.cola_tools.proofs.growing.grow_into.Goals as goal

pub returns-in-Ok-clause-grows : goal.returns-in-Ok-clause-grows
returns-in-Ok-clause-grows g c =
    let before : List ℕ = bytes_in c.args.into.bytes in
    let now : New = c.grow-answer.new.to in
    subst (λ (bytes : List ℕ). Grows c.args.keys c.args.block_exp c.args.from.now before bytes c.args.steps.now c.grow-answer.new.steps (Ok c.in-Ok.count)) (sym (ap bytes_in c.into_region.ensures.bytes))
    (grown c.args.into.at c.args.into.len c.args.from.now before c.requires.zero c.grow-answer.result.0 now c.args.steps.now c.grow-answer.new.steps c.args.keys c.args.block_exp
    (c.grow-answer.ensures.no_write ∙ ap (λ (d : Showing). d.writes) c.over.ensures) c.into_region.ensures.sound (c.grow-answer.ensures.other_kept ∙ ap place_of c.over-device.ensures) c.in-Ok.count
    (answered c.over.result c.over-device.result c.args.into.at c.args.into.len c.args.from.now before c.grow-answer.result.0 now c.args.steps.now c.grow-answer.new.steps c.args.keys c.args.block_exp
    c.grow-answer.result.1 (Ok c.in-Ok.count) c.over.ensures c.over-device.ensures c.in-Ok.is c.grow-answer.ensures.grows))

pub returns-in-Err-clause-grows : goal.returns-in-Err-clause-grows
returns-in-Err-clause-grows g c =
    let before : List ℕ = bytes_in c.args.into.bytes in
    let now : New = c.grow-answer.new.to in
    subst (λ (why : ToolFault). Grows c.args.keys c.args.block_exp c.args.from.now before (bytes_in c.into_region-in-Err.result.bytes) c.args.steps.now c.grow-answer.new.steps (Err why)) (sym c.refusal.ensures)
    (subst (λ (bytes : List ℕ). Grows c.args.keys c.args.block_exp c.args.from.now before bytes c.args.steps.now c.grow-answer.new.steps (Err (refusal c.in-Err.fault))) (sym (ap bytes_in c.into_region-in-Err.ensures.bytes))
    (refused c.args.into.at c.args.into.len c.args.from.now before c.requires.zero c.grow-answer.result.0 now c.args.steps.now c.grow-answer.new.steps c.args.keys c.args.block_exp
    (c.grow-answer.ensures.no_write ∙ ap (λ (d : Showing). d.writes) c.over.ensures) c.into_region-in-Err.ensures.sound (c.grow-answer.ensures.other_kept ∙ ap place_of c.over-device.ensures) c.in-Err.fault
    (answered c.over.result c.over-device.result c.args.into.at c.args.into.len c.args.from.now before c.grow-answer.result.0 now c.args.steps.now c.grow-answer.new.steps c.args.keys c.args.block_exp
    c.grow-answer.result.1 (Err c.in-Err.fault) c.over.ensures c.over-device.ensures c.in-Err.is c.grow-answer.ensures.grows)))
