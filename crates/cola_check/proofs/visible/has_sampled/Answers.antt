use Rattle.std.proofs.Common.{Some, sym, ap, ◌∙◌, arith}
use Rattle.cola_check.proofs.Common.{as_cell, same_Some}
use Rattle.cola_runs.specs.Cells.{key_of}
use Rattle.cola_check.proofs.RunBlocks.{sample-past, sample-reads}
use Rattle.cola_check.proofs.Prefixes.{sampled-at, sampled-past}
use Rattle.cola_check.proofs.visible.has_sampled.Goals as goal

pub returns-then-number-run-clause-sampled : goal.returns-then-number-run-clause-sampled
returns-then-number-run-clause-sampled g c = λ told. sampled-past (g.W.CellSource.state c.args.work.now).held c.args.run.now c.args.number (key_of (as_cell c.args.cell.now)) c.if-number-run.true

pub returns-clause-sampled : goal.returns-clause-sampled
returns-clause-sampled g c = λ told.
    let at = sampled-at (g.W.CellSource.state c.args.work.now).held c.args.run.now c.args.number c.read_packed.new.into told (omega (arith, c.if-number-run.false)) c.in_ok-read_packed.ensures.reads.answer in
    (λ t. at ∙ ap Some (c.has_key_of.ensures.0 t), λ e. c.has_key_of.ensures.1 (same_Some (key_of (as_cell c.read_packed.new.into)) (key_of (as_cell c.args.cell.now)) (sym at ∙ e)))

pub returns-then-number-run-clause-blocks : goal.returns-then-number-run-clause-blocks
returns-then-number-run-clause-blocks g c = sample-past (g.W.CellSource.state c.args.work.now) c.args.run.now c.args.number c.if-number-run.true

pub returns-clause-blocks : goal.returns-clause-blocks
returns-clause-blocks g c = sample-reads c.args.run.now c.read_packed.new.into c.args.number c.in_ok-read_packed.ensures.reads (omega (arith, c.if-number-run.false))
