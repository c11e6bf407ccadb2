-- Each look goes on with the search, or ends it.
use Rattle.std.proofs.Common.{◌+◌, ◌*◌, ◌/◌, refl, ap, arith}
use Rattle.cola_look.specs.Seek.{seat_of, seat_in}
use Rattle.cola_look.proofs.Looking.{err_is, looks_then}
use Rattle.cola_look.proofs.ScanLemmas.{looked_at, seeking_on, seeks_on, misses_on, passed_within}
use Rattle.cola_look.proofs.SeekLemmas.{seeks_refused, seeks_end}
use Rattle.cola_look.proofs.seeking.seek_into.Goals as goal

pub returns-in_err-look-clause-seeks : goal.returns-in_err-look-clause-seeks
returns-in_err-look-clause-seeks g c =
    let i = c.loop-index.invariant in
    let fault = c.in_err-look.field-0.0 in
    let refused = c.in_err-look.ensures.looks in
    let last = c.window-first.ensures.last in
    seeks_refused fault (seat_in c.look.new.sight c.from_residual.result) i.seeking i.low (omega (arith, last, c.loop-index-test.true)) i.looks.calm refused.0 refused.1
    (ap (seat_in c.look.new.sight) (err_is c.from_residual.result fault c.from_residual.ensures.1))

pub returns-then-sight-clause-seeks : goal.returns-then-sight-clause-seeks
returns-then-sight-clause-seeks g c =
    let i = c.loop-index.invariant in
    let seat = seat_of c.look.new.sight (c.loop-index.index + c.look.new.sight.passed) in
    seeks_on i.seeking i.low c.window-first.ensures.last c.loop-index-test.true c.in_ok-look.ensures.looks c.if-sight.true seat refl

pub loop-index-preserved : goal.loop-index-preserved
loop-index-preserved g c =
    let i = c.loop-index.invariant in
    let last = c.window-first.ensures.last in
    let looks = c.in_ok-look.ensures.looks in
    record {
      looks = looks_then i.looks (looked_at c.look.ensures.kept looks);
      seeking = seeking_on i.seeking i.low last c.loop-index-test.true looks c.if-sight.false;
      low = omega (arith, i.low);
      none = misses_on i.seeking i.low last c.loop-index-test.true looks c.if-sight.false;
      high = passed_within i.seeking i.low last c.loop-index-test.true looks;
    }

pub returns-clause-seeks : goal.returns-clause-seeks
returns-clause-seeks g c =
    let i = c.loop-index.invariant in
    let high = i.high in
    let last = c.window-first.ensures.last in
    seeks_end (record { pos = c.args.run.now.len; hit = c.loop-index.sight.hit; link = 8 * (c.args.next_len / 8) }) i.seeking (omega (arith, high, last, c.loop-index-test.false))
    (rw i.none refl)
