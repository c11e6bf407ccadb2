use Rattle.std.proofs.Common.{◌≡◌, ◌++◌, length, take, ◌∙◌, arith, rules}
use Rattle.cola_filedev.specs.Work.{beyond}
use Rattle.cola_filedev.proofs.Pieces.{length-left, after-piece, after-again, after-refused, after-ended, after-all, put-rest, length-joined}
use Rattle.cola_filedev.proofs.handle.read.Goals as goal

pub returns-then-into-at : goal.returns-then-into-at
returns-then-into-at g c = beyond (omega (arith, c.if-into-at.true, c.ranges.at.fits))

pub returns-in-Ok-eq0 : goal.returns-in-Ok-eq0
returns-in-Ok-eq0 g c =
    rw (put-rest c.loop-done.into c.read_at.new.into c.loop-done.done)
    (after-ended g.F.OpenedFile.gave c.args.file.now c.args.at c.args.into.now c.loop-done.file c.read_at.new.self c.loop-done.done c.in-Ok-eq0.field-0 c.loop-done.into c.read_at.new.into c.from-in-Ok-eq0.result c.in-Ok-eq0.field-0-test c.loop-done-test.true c.in-Ok-eq0.ensures.gave c.loop-done.invariant.3)

pub loop-done-preserved-in-Ok : goal.loop-done-preserved-in-Ok
loop-done-preserved-in-Ok g c =
    let long : length (take c.loop-done.done c.loop-done.into ++ c.read_at.new.into) ≡ length c.loop-done.into =
    length-joined c.loop-done.into c.read_at.new.into c.loop-done.done c.loop-done.invariant.0 c.read_at.auto.into in
    rw (put-rest c.loop-done.into c.read_at.new.into c.loop-done.done)
    (omega (arith, long, c.read_at.auto.into ∙ length-left c.loop-done.into c.loop-done.done, c.loop-done.invariant.0, c.in-Ok.ensures.count), long ∙ c.loop-done.invariant.1, omega (arith, long, c.loop-done.invariant.2), after-piece g.F.OpenedFile.gave c.args.file.now c.args.at c.args.into.now c.loop-done.file c.read_at.new.self c.loop-done.done c.in-Ok.count c.loop-done.into c.read_at.new.into c.loop-done.invariant.0 (omega (arith, c.in-Ok.count-test.1)) c.in-Ok.ensures.gave c.loop-done.invariant.3)

pub returns-then-tries-eq0 : goal.returns-then-tries-eq0
returns-then-tries-eq0 g c =
    rw (put-rest c.loop-done.into c.read_at.new.into c.loop-done.done)
    (after-refused g.F.OpenedFile.gave c.args.file.now c.args.at c.args.into.now c.loop-done.file c.read_at.new.self c.loop-done.done c.loop-done.into c.read_at.new.into c.in-Err.error c.in-Err.ensures.gave c.loop-done.invariant.3)

pub loop-done-preserved : goal.loop-done-preserved
loop-done-preserved g c =
    let long : length (take c.loop-done.done c.loop-done.into ++ c.read_at.new.into) ≡ length c.loop-done.into =
    length-joined c.loop-done.into c.read_at.new.into c.loop-done.done c.loop-done.invariant.0 c.read_at.auto.into in
    rw (put-rest c.loop-done.into c.read_at.new.into c.loop-done.done)
    (omega (arith, long, c.loop-done.invariant.0), long ∙ c.loop-done.invariant.1, omega (arith, long, c.loop-done.invariant.2), after-again g.F.OpenedFile.gave c.args.file.now c.args.at c.args.into.now c.loop-done.file c.read_at.new.self c.loop-done.done c.loop-done.into c.read_at.new.into c.in-Err.error c.loop-done.invariant.0 c.in-Err.ensures.gave (search (rules, c.is_interrupted.ensures, c.if-not-is_interrupted.false)) c.loop-done.invariant.3)

pub returns : goal.returns
returns g c = after-all g.F.OpenedFile.gave c.args.file.now c.args.at c.args.into.now c.loop-done.file c.loop-done.done c.loop-done.into (omega (arith, c.loop-done.invariant.0, c.loop-done-test.false)) c.loop-done.invariant.3
