use Rattle.std.proofs.Common.{ℕ, ◌+◌, List, drop, Err, sym, subst, arith, rules}
use Rattle.std.proofs.lemmas.List.{take-append-drop}
use Rattle.cola_filedev.specs.Work.{InPieces, Taking, beyond}
use Rattle.cola_filedev.proofs.Pieces.{Continues, left-is, length-left, after-piece, after-again, after-refused, after-ended, after-all}
use Rattle.cola_filedev.proofs.handle.put.Goals as goal

pub returns-then-from-at : goal.returns-then-from-at
returns-then-from-at g c = beyond (omega (arith, c.if-from-at.true, c.ranges.at.fits))

pub returns-in-Ok-eq0 : goal.returns-in-Ok-eq0
returns-in-Ok-eq0 g c =
    let from : List ℕ = c.args.from.now in
    subst (λ (xs : List ℕ). InPieces (Taking g.F.OpenedFile.took) c.args.file.now c.args.at from (Err c.from-in-Ok-eq0.result) xs c.write_at.new.self) (take-append-drop c.loop-done.done from)
    (after-ended (Taking g.F.OpenedFile.took) c.args.file.now c.args.at from c.loop-done.file c.write_at.new.self c.loop-done.done c.in-Ok-eq0.field-0 from (drop c.loop-done.done from) c.from-in-Ok-eq0.result c.in-Ok-eq0.field-0-test c.loop-done-test.true (c.in-Ok-eq0.ensures.took, sym (left-is from c.loop-done.done)) c.loop-done.invariant.2)

pub loop-done-preserved-in-Ok : goal.loop-done-preserved-in-Ok
loop-done-preserved-in-Ok g c =
    let from : List ℕ = c.args.from.now in (
      omega (arith, length-left from c.loop-done.done, c.loop-done.invariant.0, c.in-Ok.ensures.count),
      c.loop-done.invariant.1,
      subst (λ (xs : List ℕ). Continues (Taking g.F.OpenedFile.took) c.args.file.now c.args.at from c.write_at.new.self (c.loop-done.done + c.in-Ok.count) xs) (take-append-drop c.loop-done.done from)
          (after-piece (Taking g.F.OpenedFile.took) c.args.file.now c.args.at from c.loop-done.file c.write_at.new.self c.loop-done.done c.in-Ok.count from (drop c.loop-done.done from) c.loop-done.invariant.0 (omega (arith, c.in-Ok.count-test.1)) (c.in-Ok.ensures.took, sym (left-is from c.loop-done.done)) c.loop-done.invariant.2),
    )

pub returns-then-tries-eq0 : goal.returns-then-tries-eq0
returns-then-tries-eq0 g c =
    let from : List ℕ = c.args.from.now in
    subst (λ (xs : List ℕ). InPieces (Taking g.F.OpenedFile.took) c.args.file.now c.args.at from (Err c.in-Err.error) xs c.write_at.new.self) (take-append-drop c.loop-done.done from)
    (after-refused (Taking g.F.OpenedFile.took) c.args.file.now c.args.at from c.loop-done.file c.write_at.new.self c.loop-done.done from (drop c.loop-done.done from) c.in-Err.error (c.in-Err.ensures.took, sym (left-is from c.loop-done.done)) c.loop-done.invariant.2)

pub loop-done-preserved : goal.loop-done-preserved
loop-done-preserved g c =
    let from : List ℕ = c.args.from.now in (
      c.loop-done.invariant.0,
      c.loop-done.invariant.1,
      subst (λ (xs : List ℕ). Continues (Taking g.F.OpenedFile.took) c.args.file.now c.args.at from c.write_at.new.self c.loop-done.done xs) (take-append-drop c.loop-done.done from)
          (after-again (Taking g.F.OpenedFile.took) c.args.file.now c.args.at from c.loop-done.file c.write_at.new.self c.loop-done.done from (drop c.loop-done.done from) c.in-Err.error c.loop-done.invariant.0 (c.in-Err.ensures.took, sym (left-is from c.loop-done.done)) (search (rules, c.is_interrupted.ensures, c.if-not-is_interrupted.false)) c.loop-done.invariant.2),
    )

pub returns : goal.returns
returns g c = after-all (Taking g.F.OpenedFile.took) c.args.file.now c.args.at c.args.from.now c.loop-done.file c.loop-done.done c.args.from.now (omega (arith, c.loop-done.invariant.0, c.loop-done-test.false)) c.loop-done.invariant.2
