-- Source cells are consumed until one is given.
use Rattle.std.proofs.Common.{◌+◌, ◌<◌, ◌≤◌, refl, sym, subst, ◌∙◌}
use Rattle.cola_cell.specs.Held.{Held}
use Rattle.cola_merge.specs.Fetched.{Head}
use Rattle.cola_merge.specs.Rules.{HeadFits}
use Rattle.cola_merge.specs.States.{state}
use Rattle.cola_merge.proofs.Reading.{err_is}
use Rattle.cola_merge.proofs.Stepping.{small_after}
use Rattle.cola_merge.proofs.Taking.{looked_none}
use Rattle.cola_merge.proofs.Pulling.{gave_look, gave_then, gave_chosen, given_fits, suits_by, consumed_chosen, ended_at, drawn_some, none_given, stopped_at, fewer_left}
use Rattle.cola_merge.proofs.merging.Merger.draw.Goals as goal

pub loop-next-init : goal.loop-next-init
loop-next-init g c = record {
  kept = refl;
  gave = gave_look (looked_none (state (g.W.CellSource.state c.args.work.now) c.args.self.now c.args.steps.now) c.requires.heads);
}

pub next-requires : goal.next-requires
next-requires g c =
    let e = c.loop-next.invariant.gave.cells_stay in
    record { ends = c.ends-ends.ensures; heads = rw e c.loop-next.invariant.gave.heads; levels = rw e c.requires.levels }

pub returns-in_err-next-clause-drawn : goal.returns-in_err-next-clause-drawn
returns-in_err-next-clause-drawn g c =
    stopped_at c.from_residual.result c.in_err-next.field-0.0 (err_is c.from_residual.result c.in_err-next.field-0.0 c.from_residual.ensures.1) c.loop-next.invariant.gave c.in_err-next.ensures.next

pub pass-requires : goal.pass-requires
pass-requires g c =
    let s = rw c.in-Some.is at c.in_ok-next.ensures.next in
    subst (λ (h : Head). h.at + 1 < 4294967296) (sym c.head_mut-head.ensures.value)
    (small_after c.in-Some.next.head s.looked.looks.heads (subst (λ (h : Held). h.fixed.levels ≤ 23) (sym c.loop-next.invariant.gave.cells_stay) c.requires.levels))

pub returns-then-is_some-clause-drawn : goal.returns-then-is_some-clause-drawn
returns-then-is_some-clause-drawn g c =
    let s = rw c.in-Some.is at c.in_ok-next.ensures.next in
    drawn_some c.given-cell.result (sym c.is_some.ensures ∙ c.if-is_some.true)
    (subst (λ (h : Held). HeadFits h.fixed.format c.given-cell.result) c.loop-next.invariant.gave.cells_stay (given_fits c.in-Some.next s c.given-cell.result (c.given-cell.ensures.fits _) c.head_mut-head.ensures.value))
    (gave_then c.loop-next.invariant.gave (gave_chosen c.in-Some.next s c.head_mut-head.ensures.value c.pass.ensures c.given-cell.result c.given-cell.ensures.value))

pub loop-next-smaller : goal.loop-next-smaller
loop-next-smaller g c =
    let s = rw c.in-Some.is at c.in_ok-next.ensures.next in
    let gave = gave_chosen c.in-Some.next s c.head_mut-head.ensures.value c.pass.ensures c.given-cell.result c.given-cell.ensures.value in
    fewer_left c.loop-next.self gave.heads (consumed_chosen c.in-Some.next s c.head_mut-head.ensures.value c.pass.ensures)

pub loop-next-preserved : goal.loop-next-preserved
loop-next-preserved g c =
    let s = rw c.in-Some.is at c.in_ok-next.ensures.next in
    record {
      kept = c.in_ok-next.ensures.kept ∙ c.loop-next.invariant.kept;
      gave = gave_then c.loop-next.invariant.gave (none_given c.given-cell.result (sym c.is_some.ensures ∙ c.if-is_some.false)
          (gave_chosen c.in-Some.next s c.head_mut-head.ensures.value c.pass.ensures c.given-cell.result c.given-cell.ensures.value));
    }

pub returns-clause-drawn : goal.returns-clause-drawn
returns-clause-drawn g c = ended_at c.in_ok-next.field-0 c.in_default.is c.loop-next.invariant.gave c.in_ok-next.ensures.next

pub given-cell-requires : goal.given-cell-requires
given-cell-requires g c =
    let s = rw c.in-Some.is at c.in_ok-next.ensures.next in
    record { suits = suits_by c.in-Some.next s c.head_mut-head.ensures.value }
