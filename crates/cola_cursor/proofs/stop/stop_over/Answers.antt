use Rattle.std.proofs.Common.{◌*◌, ◌/◌, ℕ, None, Err, refl, sym, subst, arith}
use Rattle.cola_cell.specs.Held.{Held, HasPlace}
use Rattle.cola_look.specs.Seek.{first_of, last_of}
use Rattle.cola_look.proofs.Looking.{err_is, looked_none, looks_as, looks_then, looks_refused, looks_read}
use Rattle.cola_look.proofs.SeekLemmas.{Seeking, seeking_begins, seeking_goes_on, seeks_refused, seeks_found, seeks_end}
use Rattle.cola_cursor.specs.Turning.{over_key}
use Rattle.cola_cursor.proofs.Stopping.{hit_for, seat_is, compared_over, stops_refused}
use Rattle.cola_cursor.proofs.stop.stop_over.Goals as goal

pub read_packed-requires : goal.read_packed-requires
read_packed-requires g c =
    let P : Held → Type 0 = λ h. HasPlace h c.args.run.now.level c.args.run.now.slot c.loop-index.index in
    subst P (sym c.loop-index.invariant.looks.cells_stay) (record { level_in = c.requires.level_in; slot_in = c.requires.slot_in; index_in = omega (arith, c.requires.within) })

pub loop-index-init : goal.loop-index-init
loop-index-init g c =
    let old = g.W.CellSource.state c.args.work.now in
    let P : ℕ → Type 0 = λ i. Seeking c.args.run.now c.args.next_len c.args.start (over_key c.args.key.now) old old
    c.args.steps.now c.args.steps.now (first_of c.args.start c.args.run.now.len) (last_of c.args.start c.args.run.now.len) i in
    record { looks = looked_none; seeking = subst P (sym c.window-first.ensures.first) (seeking_begins c.args.run.now c.args.next_len c.args.start (over_key c.args.key.now) old c.args.steps.now) }

pub loop-index-preserved : goal.loop-index-preserved
loop-index-preserved g c =
    let read = c.in_ok-read_packed.ensures in
    record {
      looks = looks_then c.loop-index.invariant.looks (looks_read read.kept read.reads);
      seeking = seeking_goes_on {first = first_of c.args.start c.args.run.now.len} {last = last_of c.args.start c.args.run.now.len} c.read_packed.new.into c.loop-index.invariant.seeking (omega arith) (omega arith) read.reads
          (compared_over c.args.key.now _ c.key_cmp-order.result c.is_gt.result _ c.key_cmp-order.ensures c.is_gt.ensures c.if-is_gt.false) read.one_tick;
    }

pub returns-in_err-read_packed : goal.returns-in_err-read_packed
returns-in_err-read_packed g c =
    let fault = c.in_err-read_packed.field-0.0 in
    let read = c.in_err-read_packed.ensures in
    let is = err_is c.from_residual.result fault c.from_residual.ensures.1 in
    record {
      looks = looks_refused fault c.from_residual.result c.loop-index.invariant.looks (looks_read read.kept read.reads) is;
      stops = stops_refused fault c.from_residual.result is
          (seeks_refused fault (Err fault) c.loop-index.invariant.seeking (omega arith) (omega arith) c.loop-index.invariant.looks.calm read.reads read.one_tick refl);
    }

pub returns-then-is_gt : goal.returns-then-is_gt
returns-then-is_gt g c =
    let read = c.in_ok-read_packed.ensures in
    record {
      looks = looks_then c.loop-index.invariant.looks (looks_read read.kept read.reads);
      stops = record {
        hit = hit_for (over_key c.args.key.now) c.read_packed.new.into;
        seeks = seeks_found c.read_packed.new.into (record { pos = c.loop-index.index; hit = hit_for (over_key c.args.key.now) c.read_packed.new.into; link = c.link.result })
            c.loop-index.invariant.seeking (omega arith) (omega arith) read.reads read.one_tick
            (compared_over c.args.key.now _ c.key_cmp-order.result c.is_gt.result _ c.key_cmp-order.ensures c.is_gt.ensures c.if-is_gt.true)
            (seat_is (over_key c.args.key.now) c.loop-index.index c.read_packed.new.into c.link.result c.link.ensures);
      };
    }

pub returns : goal.returns
returns g c = record {
  looks = looks_as c.loop-index.invariant.looks;
  stops = record {
    hit = None;
    seeks = seeks_end (record { pos = c.args.run.now.len; hit = None; link = 8 * (c.args.next_len / 8) }) c.loop-index.invariant.seeking (omega arith) refl;
  };
}
