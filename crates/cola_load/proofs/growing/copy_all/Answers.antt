-- What copying all pairs answers.
use Rattle.std.proofs.Common.{ℕ, ◌≤◌, [], ◌∷◌, ◌++◌, Ok, Err, refl, sym, ap, subst, ◌∙◌, arith}
use Rattle.cola_cursor.proofs.Readings.{reading_then}
use Rattle.cola_layout.specs.declared.geometry.Geometry.{Geometry}
use Rattle.cola_opening.specs.Counted.{Spends}
use Rattle.cola_load.specs.Loading.{Loading, full_blocks}
use Rattle.cola_load.specs.Growing.{CopiesNext, CopiesAll, WritesRows}
use Rattle.cola_load.proofs.Copying.{copied-next, all-refused, writes-one, writes-refused, refused-as}
use Rattle.cola_load.proofs.growing.copy_all.Goals as goal

pub loop-next-preserved : goal.loop-next-preserved
loop-next-preserved g c =
    let i = c.loop-next.invariant in
    let e = c.in_ok-next.ensures in
    let next = copied-next c.loop-next.filling.geometry c.loop-next.filling.last c.copy_next.new.cursor c.copy_next.new.loader (g.E.Device.bytes c.copy_next.new.to) i.held_is (ap Ok c.in-Some.is) e.copies i.copied.1 in
    let same = rw c.in-Some.is at e.same in
    record {
      held_is = e.cells_stay ∙ i.held_is;
      kept_is = e.kept ∙ i.kept_is;
      other_kept = e.other_kept ∙ i.other_kept;
      calm = e.faults.0 ∙ i.calm;
      other_calm = e.faults.1 ∙ i.other_calm;
      reading = reading_then i.reading e.reading;
      left = (let l = e.left in let q = i.left in omega (arith, l, q));
      stands = e.stands;
      filling = next.0;
      geometry_is = same.0 ∙ i.geometry_is;
      last_is = same.1 ∙ i.last_is;
      few = subst (λ (g : Geometry). c.in-Some.next.rows ≤ g.keys) (sym same.0) (rw c.in-Some.is at e.room);
      writes = subst (λ (n : ℕ). Spends (g.E.Device.counts c.args.to.now) (g.E.Device.counts c.copy_next.new.to) 0 (full_blocks c.args.begun.now.geometry n) 0) (sym (rw c.in-Some.is at e.next))
          (writes-one c.args.begun.now.geometry c.loop-next.filling (g.E.Device.counts c.args.to.now) (g.E.Device.counts c.loop-next.to) (g.E.Device.counts c.copy_next.new.to) i.geometry_is i.writes (rw c.in-Some.is at e.writes));
      copied = (i.copied.0 ++ next.1.0 ∷ [], next.1.1);
    }

pub returns-clause-copies : goal.returns-clause-copies
returns-clause-copies g c =
    let i = c.loop-next.invariant in
    let e = c.in_ok-next.ensures in
    let next = copied-next c.loop-next.filling.geometry c.loop-next.filling.last c.copy_next.new.cursor c.copy_next.new.loader (g.E.Device.bytes c.copy_next.new.to) i.held_is (ap Ok c.in_default.is) e.copies i.copied.1 in
    let stays = rw c.in_default.is at e.stays in
    (i.copied.0, (sym i.filling.rows_are ∙ sym (ap (λ (l : Loading). l.rows) stays) ∙ next.0.many, next))

pub returns-in_err-next-clause-copies : goal.returns-in_err-next-clause-copies
returns-in_err-next-clause-copies g c =
    let i = c.loop-next.invariant in
    let held = (g.W.CellSource.state c.args.work.now).held in
    let fault = c.in_err-next.field-0.0 in
    let next = copied-next {result = Err fault} c.loop-next.filling.geometry c.loop-next.filling.last c.copy_next.new.cursor c.copy_next.new.loader (g.E.Device.bytes c.copy_next.new.to) i.held_is refl c.in_err-next.ensures.copies i.copied.1 in
    refused-as c.from_residual.result fault (CopiesAll held c.args.cursor.now c.args.begun.now.geometry c.args.begun.now.last c.copy_next.new.cursor c.copy_next.new.loader (g.E.Device.bytes c.copy_next.new.to)) c.from_residual.ensures.1
    (all-refused held c.args.cursor.now c.copy_next.new.cursor c.copy_next.new.loader (g.E.Device.bytes c.copy_next.new.to) c.args.begun.now.geometry c.args.begun.now.last i.copied.0 fault
    (subst (λ (n : ℕ). CopiesNext held c.args.cursor.now c.args.begun.now.geometry n i.copied.0 c.copy_next.new.cursor c.copy_next.new.loader (g.E.Device.bytes c.copy_next.new.to) (Err fault)) i.last_is
    (subst (λ (x : Geometry). CopiesNext held c.args.cursor.now x c.loop-next.filling.last i.copied.0 c.copy_next.new.cursor c.copy_next.new.loader (g.E.Device.bytes c.copy_next.new.to) (Err fault)) i.geometry_is next)))

pub returns-in_err-next-clause-writes : goal.returns-in_err-next-clause-writes
returns-in_err-next-clause-writes g c =
    let i = c.loop-next.invariant in
    let fault = c.in_err-next.field-0.0 in
    refused-as c.from_residual.result fault (WritesRows c.args.begun.now.geometry (g.E.Device.counts c.args.to.now) (g.E.Device.counts c.copy_next.new.to) 0 0) c.from_residual.ensures.1
    (writes-refused c.args.begun.now.geometry c.loop-next.filling (g.E.Device.counts c.args.to.now) (g.E.Device.counts c.loop-next.to) (g.E.Device.counts c.copy_next.new.to) i.geometry_is i.writes fault i.few c.in_err-next.ensures.writes)
