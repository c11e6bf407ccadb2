use Rattle.std.proofs.Common.{arith}
use Rattle.cola_cell.specs.declared.cell.Run.{Run}
use Rattle.cola_look.specs.Seek.{seat_of}
use Rattle.cola_look.proofs.Looking.{err_is, looks_then}
use Rattle.cola_search.proofs.FindLemmas.{finding_goes_on, finds_same, finds_hit, finds_refused, finds_none, hit_none, hit_some}
use Rattle.cola_search.proofs.finding.find.Goals as goal

-- the run that is not there
abbrev none : Run
none = record { level = 0; slot = 0; len = 0 }

pub loop-i-preserved : goal.loop-i-preserved
loop-i-preserved g c =
    let hit = hit_none c.seek_into.new.sight.hit c.is_some.result c.is_some.ensures c.if-is_some.false in
    record {
      none = hit;
      looks = looks_then c.loop-i.invariant.looks c.in_ok-seek_into.ensures.looks;
      finding = finding_goes_on none c.length_at-next_len.result c.loop-i.invariant.finding c.loop-i-test.true c.length_at-next_len.ensures (seat_of c.seek_into.new.sight c.in_ok-seek_into.field-0)
          c.in_ok-seek_into.ensures.looks.cells_stay c.in_ok-seek_into.ensures.seeks hit;
    }

pub returns-in_err-seek_into-clause-finds : goal.returns-in_err-seek_into-clause-finds
returns-in_err-seek_into-clause-finds g c =
    let fault = c.in_err-seek_into.field-0.0 in
    finds_same c.as_slice-runs.ensures.value
    (finds_refused none c.length_at-next_len.result c.loop-i.invariant.finding c.loop-i-test.true c.length_at-next_len.ensures fault c.from_residual.result c.loop-i.invariant.looks.calm
    c.in_err-seek_into.ensures.seeks (err_is c.from_residual.result fault c.from_residual.ensures.1))

pub returns-then-is_some-clause-finds : goal.returns-then-is_some-clause-finds
returns-then-is_some-clause-finds g c =
    finds_same c.as_slice-runs.ensures.value
    (finds_hit none c.length_at-next_len.result c.loop-i.invariant.finding c.loop-i-test.true c.length_at-next_len.ensures (seat_of c.seek_into.new.sight c.in_ok-seek_into.field-0)
    c.in_ok-seek_into.ensures.seeks (hit_some c.seek_into.new.sight.hit c.is_some.result c.is_some.ensures c.if-is_some.true))

pub returns-clause-finds : goal.returns-clause-finds
returns-clause-finds g c = finds_same c.as_slice-runs.ensures.value (finds_none c.loop-i.invariant.finding (omega arith))
