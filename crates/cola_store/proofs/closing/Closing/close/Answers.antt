use Rattle.std.proofs.Common.{◌∙◌, ◌≤◌, length, Ok, Err, refl, sym, ap, subst}
use Rattle.std.specs.Prelude.{IfSome}
use Rattle.cola_outside.specs.Told.{Both}
use Rattle.cola_layout.specs.declared.geometry.Geometry.{Geometry}
use Rattle.cola_opening.specs.Judged.{file_size}
use Rattle.cola_run.specs.Store.{held_of}
use Rattle.cola_run.specs.Saving.{IsFrontLast, SameBehind, SettlesTwice}
use Rattle.cola_store.specs.Close.{IsClosed}
use Rattle.cola_store.proofs.Closed.{told-file, stands-still, closing-spends}
use Rattle.cola_store.proofs.Whole.{file-map}
use Rattle.cola_store.proofs.closing.Closing.close.Goals as goal

pub invariant_of-result : goal.invariant_of-result
invariant_of-result g c = record { closed = c.args.self.closed; fits = c.args.self.fits ∙ sym c.flush-flushed.ensures.geometry }

pub returns-in-Ok-clause-closed : goal.returns-in-Ok-clause-closed
returns-in-Ok-clause-closed g c =
    let d = g.D.Device in
    let header = c.args.self.header in
    let before = c.args.self.runs in
    let now = c.flush-flushed.new.self in
    let fits = c.args.self.fits in
    subst (λ x. IsClosed d header before x) (sym c.into_device.ensures)
    (record {
      file = told-file header before.geometry (held_of d.bytes before) (held_of d.bytes now) c.bytes_of-bytes.result (d.bytes now.buffers.cache.device) fits c.flush-flushed.ensures.reads c.bytes_of-bytes.ensures.spelled c.bytes_of-bytes.ensures.size c.args.self.closed
          (subst (λ (geometry : Geometry). IfSome (d.bytes now.buffers.cache.device) (λ bytes. file_size geometry.format geometry.bottom ≤ length bytes)) c.flush-flushed.ensures.geometry c.know_whole_file.ensures)
          c.in-Ok.ensures.flushed;
      behind = subst (λ (geometry : Geometry). Both (d.bytes before.buffers.cache.device) (d.bytes now.buffers.cache.device) (SameBehind geometry)) (sym fits) c.flush-flushed.ensures.behind;
      settles = subst (λ (geometry : Geometry). SettlesTwice d geometry before.buffers.cache.device now.buffers.cache.device) (sym fits) c.in-Ok.ensures.settles;
      spends = closing-spends d header before now (Ok c.in-Ok.field-0) fits c.in-Ok.ensures.counts;
      no_fault = c.in-Ok.ensures.counts.none_hidden;
    })

pub returns-in-Ok-clause-kept_device : goal.returns-in-Ok-clause-kept_device
returns-in-Ok-clause-kept_device g c = ap g.D.Device.kept c.into_device.ensures ∙ c.flush-flushed.ensures.kept

pub returns-in-Err-clause-owes : goal.returns-in-Err-clause-owes
returns-in-Err-clause-owes g c =
    let d = g.D.Device in
    let header = c.args.self.header in
    let before = c.args.self.runs in
    let now = c.flush-flushed.new.self in
    let fits = c.args.self.fits in
    record {
      cause = c.in-Err.ensures.counts.cause;
      header_is = refl;
      reads = c.flush-flushed.ensures.reads;
      geometry = c.flush-flushed.ensures.geometry;
      order = subst (λ (geometry : Geometry). IsFrontLast d geometry (held_of d.bytes now).spots before.buffers.cache.device now.buffers.cache.device) (sym fits) c.flush-flushed.ensures.order;
      behind = subst (λ (geometry : Geometry). Both (d.bytes before.buffers.cache.device) (d.bytes now.buffers.cache.device) (SameBehind geometry)) (sym fits) c.flush-flushed.ensures.behind;
      spends = closing-spends d header before now (Err c.in-Err.field-0) fits c.in-Err.ensures.counts;
      stands = stands-still header (held_of d.bytes before) (held_of d.bytes now) c.flush-flushed.ensures.reads;
    }

pub returns-in-Err-clause-kept : goal.returns-in-Err-clause-kept
returns-in-Err-clause-kept g c = c.flush-flushed.ensures.kept

pub returns-in-Ok-clause-map : goal.returns-in-Ok-clause-map
returns-in-Ok-clause-map g c = λ m owes. file-map c.args.self.header (held_of g.D.Device.bytes c.args.self.runs) (g.D.Device.bytes c.into_device.result) (returns-in-Ok-clause-closed g c).file m owes

pub returns-in-Err-clause-map : goal.returns-in-Err-clause-map
returns-in-Err-clause-map g c = stands-still c.args.self.header (held_of g.D.Device.bytes c.args.self.runs) (held_of g.D.Device.bytes c.flush-flushed.new.self) c.flush-flushed.ensures.reads
