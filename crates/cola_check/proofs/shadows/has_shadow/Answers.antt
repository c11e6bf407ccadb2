use Rattle.std.proofs.Common.{sym, ◌∙◌}
use Rattle.cola_check.proofs.Common.{tested_by}
use Rattle.cola_check.proofs.ShadowTests.{in-phase, before-has, inside-has, after-has, same-answer}
use Rattle.cola_check.proofs.shadows.has_shadow.Goals as goal

pub has_cut-requires-clause-inside : goal.has_cut-requires-clause-inside
has_cut-requires-clause-inside g c = (in-phase c.args.header.now.clock c.args.level).inside c.in-Inside.field-0 (sym c.phase_of.ensures ∙ c.in-Inside.is)

pub returns-in-Before-clause-has : goal.returns-in-Before-clause-has
returns-in-Before-clause-has g c =
    λ reached. before-has (tested_by c.args.header.now (g.W.CellSource.state c.args.work.now).held) c.args.level ((in-phase c.args.header.now.clock c.args.level).before (sym c.phase_of.ensures ∙ c.in-Before.is))

pub returns-in-Inside-clause-has : goal.returns-in-Inside-clause-has
returns-in-Inside-clause-has g c =
    let file = tested_by c.args.header.now (g.W.CellSource.state c.args.work.now).held in
    let works = (in-phase c.args.header.now.clock c.args.level).inside c.in-Inside.field-0 (sym c.phase_of.ensures ∙ c.in-Inside.is) in
    same-answer file c.args.level (inside-has file c.args.level c.requires.above works) c.has_cut.result c.has_cut.ensures.cut

pub returns-in-After-clause-has : goal.returns-in-After-clause-has
returns-in-After-clause-has g c =
    let file = tested_by c.args.header.now (g.W.CellSource.state c.args.work.now).held in
    let over = (in-phase c.args.header.now.clock c.args.level).after (sym c.phase_of.ensures ∙ c.in-After.is) in
    same-answer file c.args.level (after-has file c.args.level c.requires.above over) c.is_finished.result c.is_finished.ensures.finished
