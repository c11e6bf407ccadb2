-- The two passes of the test.
use Rattle.std.proofs.Common.{true, false, sym, subst}
use Rattle.cola_check.proofs.Common.{Held, Merger, HasHeads, err_is}
use Rattle.cola_check.proofs.Cuts.{heads_at, heads_fresh, from_fresh, from_cursors, first_fails, first_differs, second_tells}
use Rattle.cola_check.proofs.RunBlocks.{cut-differs, cut-compared}
use Rattle.cola_check.proofs.cut.is_cut.Goals as goal

pub gives_run-requires-clause-heads : goal.gives_run-requires-clause-heads
gives_run-requires-clause-heads g c = subst (λ (m : Merger). HasHeads (g.W.CellSource.state c.args.work.now).held c.args.aim.now m) (sym c.begin-whole.ensures) (heads_fresh c.requires.fits)

pub gives_same-requires-clause-second : goal.gives_same-requires-clause-second
gives_same-requires-clause-second g c =
    subst (λ (h : Held). HasHeads h c.args.aim.now c.resume-rest.result) (sym c.in_ok-gives_run.ensures.looks.cells_stay)
    (subst (λ (m : Merger). HasHeads (g.W.CellSource.state c.args.work.now).held c.args.aim.now m) (sym c.resume-rest.ensures) (heads_at c.requires.fits))

pub returns-in_err-gives_run-clause-reads : goal.returns-in_err-gives_run-clause-reads
returns-in_err-gives_run-clause-reads g c =
    (first_fails c.requires.fits c.from_residual.result c.in_err-gives_run.field-0.0 (err_is c.from_residual.result c.in_err-gives_run.field-0.0 c.from_residual.ensures.1) c.in_err-gives_run.ensures.followed).reads

pub returns-then-not-branch-clause-cut : goal.returns-then-not-branch-clause-cut
returns-then-not-branch-clause-cut g c = (first_differs c.requires.fits (from_fresh false c.begin-whole.ensures c.if-not-branch.true c.in_ok-gives_run.ensures.followed)).cut

pub returns-then-not-branch-clause-blocks : goal.returns-then-not-branch-clause-blocks
returns-then-not-branch-clause-blocks g c =
    cut-differs (g.W.CellSource.state c.args.work.now) (g.W.CellSource.state c.gives_run.new.work) c.args.aim.now c.args.shadow.now c.begin-whole.result c.gives_run.new.merger
    (c.in_ok-gives_run.ensures.blocks c.requires.fits.shadow_away)

pub returns-then-not-branch-clause-reads : goal.returns-then-not-branch-clause-reads
returns-then-not-branch-clause-reads g c = (first_differs c.requires.fits (from_fresh false c.begin-whole.ensures c.if-not-branch.true c.in_ok-gives_run.ensures.followed)).reads

pub returns-clause-cut : goal.returns-clause-cut
returns-clause-cut g c =
    (second_tells c.requires.fits (from_fresh true c.begin-whole.ensures c.if-not-branch.false c.in_ok-gives_run.ensures.followed) c.in_ok-gives_run.ensures.looks.calm c.gives_same.result
    (from_cursors (g.W.CellSource.state c.args.work.now).held c.args.cursors.now c.in_ok-gives_run.ensures.looks.cells_stay c.resume-rest.ensures c.gives_same.ensures.compared)).cut

pub returns-clause-blocks : goal.returns-clause-blocks
returns-clause-blocks g c =
    let w = g.W.CellSource in
    cut-compared (w.state c.args.work.now) (w.state c.gives_run.new.work) c.args.aim.now c.args.shadow.now c.begin-whole.result c.gives_run.new.merger
    (c.in_ok-gives_run.ensures.blocks c.requires.fits.shadow_away) c.in_ok-gives_run.ensures.looks.cells_stay (w.state c.gives_same.new.work) c.resume-rest.result c.gives_same.result c.requires.fits.spread c.gives_same.ensures.blocks

pub returns-clause-reads : goal.returns-clause-reads
returns-clause-reads g c =
    (second_tells c.requires.fits (from_fresh true c.begin-whole.ensures c.if-not-branch.false c.in_ok-gives_run.ensures.followed) c.in_ok-gives_run.ensures.looks.calm c.gives_same.result
    (from_cursors (g.W.CellSource.state c.args.work.now).held c.args.cursors.now c.in_ok-gives_run.ensures.looks.cells_stay c.resume-rest.ensures c.gives_same.ensures.compared)).reads
