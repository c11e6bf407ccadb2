-- What copying the next pair answers.
use Rattle.std.proofs.Common.{inr, ℕ, ◌+◌, sym, ap, ◌∙◌}
use Rattle.cola_device.specs.declared.device.DeviceFault.{DeviceFault}
use Rattle.cola_load.proofs.Copying.{next-none, next-stops, next-copied, next-unread, no-header-then, pushed-spends}
use Rattle.cola_load.proofs.growing.copy_next.Goals as goal

pub returns-in-Ok-None-clause-copies : goal.returns-in-Ok-None-clause-copies
returns-in-Ok-None-clause-copies g c = λ begun rows copied.
    next-none c.next_stamped.ensures.looks.cells_stay copied c.next_stamped.new.self c.in-Ok-None.field-0 c.in-Ok-None.ensures.passes c.in-Ok-None.ensures.takes c.in-Ok-None.field-0-is

pub returns-in-Err-clause-copies : goal.returns-in-Err-clause-copies
returns-in-Err-clause-copies g c = λ begun rows copied.
    next-unread (g.W.CellSource.state c.args.work.now).held begun c.args.cursor.now c.next_stamped.new.self c.args.loader.now c.args.loader.now (g.E.Device.bytes c.args.to.now) rows c.args.filling.now.geometry c.args.filling.now.last
    (g.W.CellSource.state c.args.work.now).spent.faults (g.W.CellSource.state c.next_stamped.new.work).spent.faults c.in-Err.fault c.unread.result c.unread.ensures c.in-Err.ensures.cause copied

pub returns-then-not-admits-clause-copies : goal.returns-then-not-admits-clause-copies
returns-then-not-admits-clause-copies g c = λ begun rows copied.
    next-stops c.next_stamped.ensures.looks.cells_stay copied c.next_stamped.new.self c.in-Ok-Some.field-0 c.in-Ok-Some.ensures.passes c.in-Ok-Some.ensures.takes c.in-Ok-Some.pair c.in-Ok-Some.field-0-is
    c.next_stamped.ensures.stands.fit c.in-Ok-Some.ensures.pair c.args.filling.now c.requires.filling (c.admits.ensures.no c.if-not-admits.true)

pub returns-in-Ok-clause-copies : goal.returns-in-Ok-clause-copies
returns-in-Ok-clause-copies g c = λ begun rows copied.
    let push = c.in-Ok.ensures in (
      record {
        geometry_is = push.geometry ∙ c.requires.filling.geometry_is ∙ sym c.with.ensures.geometry;
        last_is = push.last ∙ c.requires.filling.last_is ∙ sym c.with.ensures.last;
        rows_are = push.rows ∙ ap (λ (n : ℕ). n + 1) c.requires.filling.rows_are ∙ sym c.with.ensures.rows;
        key_is = push.key ∙ sym c.with.ensures.key;
      },
      (
        record { key = c.in-Ok-Some.pair.0; value = c.in-Ok-Some.pair.1; stamp = c.in-Ok-Some.pair.2 },
        next-copied c.next_stamped.ensures.looks.cells_stay copied c.next_stamped.new.self c.in-Ok-Some.field-0 c.in-Ok-Some.ensures.passes c.in-Ok-Some.ensures.takes c.in-Ok-Some.pair c.in-Ok-Some.field-0-is
            c.next_stamped.ensures.stands.fit c.in-Ok-Some.ensures.pair DeviceFault c.in-Ok.field-0 c.push.new.self (g.E.Device.bytes c.push.new.device) push.pushes push.rows push.key,
      ),
    )

pub returns-in-Ok-clause-writes : goal.returns-in-Ok-clause-writes
returns-in-Ok-clause-writes g c = (pushed-spends c.args.filling.now c.args.loader.now c.requires.filling (c.admits.ensures.yes c.if-not-admits.false).room c.push.ensures.counts)

pub returns-in-Err-push-clause-writes : goal.returns-in-Err-push-clause-writes
returns-in-Err-push-clause-writes g c = inr (pushed-spends c.args.filling.now c.args.loader.now c.requires.filling (c.admits.ensures.yes c.if-not-admits.false).room c.push.ensures.counts)

pub returns-in-Err-push-clause-copies : goal.returns-in-Err-push-clause-copies
returns-in-Err-push-clause-copies g c = λ begun rows copied.
    no-header-then c.args.loader.now (g.E.Device.bytes c.args.to.now) (g.E.Device.bytes c.push.new.device) rows copied.holds c.push.ensures.front_stays
