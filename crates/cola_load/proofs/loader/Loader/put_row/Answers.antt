use Rattle.std.proofs.Common.{◌≡◌, ◌+◌, ◌^◌, ℕ, refl, ap, subst, arith, rules}
use Rattle.cola_outside.specs.Told.{Both}
use Rattle.cola_device.specs.declared.device.DeviceFault.{DeviceFault}
use Rattle.cola_run.proofs.Spots.{both-same}
use Rattle.cola_load.specs.Filled.{Row}
use Rattle.cola_load.specs.Loading.{Loading, StaysInFront}
use Rattle.cola_load.proofs.Rowing.{PutsAmid, amid-begin, amid-below, done-told, index-small, next-index, next-called-all, next-done, next-rowed}
use Rattle.cola_load.proofs.loader.Loader.put_row.Goals as goal

pub loop-height-init : goal.loop-height-init
loop-height-init g c =
    let told = g.D.Device.bytes c.args.device.now in
    let old = c.args.self.now in
    let row : Row = record { key = c.args.key.now; value = c.args.value.now; stamp = c.args.stamp } in
    let rows : c.self.inside.rows ≡ old.rows = ap (λ (z : Loading). z.rows) c.self.view_is in
    record {
      exact = (let o : 8 ^ 0 ≡ 1 = refl in omega (arith, rows, o));
      stays = record { geometry = refl; last = refl; rows = refl; key = refl };
      cells = both-same told (PutsAmid old old row 0) (λ x. amid-begin old row x);
      front = both-same told (StaysInFront old.geometry) (λ x. record { size_stays = refl; front_stays = refl });
      kept_stays = refl;
      called = search rules;
    }

pub cell_of-cell-requires : goal.cell_of-cell-requires
cell_of-cell-requires g c = index-small c.args.self.now c.loop-height.height c.loop-height.index c.requires.room c.loop-height.invariant.exact

pub put-requires-clause-index : goal.put-requires-clause-index
put-requires-clause-index g c = next-index c.self.view_is c.self-in-loop-height.view_is c.loop-height-test.true c.levels-height-end.ensures.value c.loop-height.invariant c.requires.room

pub returns-in-Err-clause-counts : goal.returns-in-Err-clause-counts
returns-in-Err-clause-counts g c =
    next-called-all c.self.view_is c.self-in-loop-height.view_is c.loop-height-test.true c.levels-height-end.ensures.value c.loop-height.invariant c.requires.room
    c.cell_of-cell.ensures c.put.ensures.stays c.put.new.device c.in-Err.ensures.counts

pub returns-then-index-ne0-clause-puts : goal.returns-then-index-ne0-clause-puts
returns-then-index-ne0-clause-puts g c =
    next-done c.self.view_is c.self-in-loop-height.view_is c.loop-height-test.true c.levels-height-end.ensures.value c.loop-height.invariant c.requires.room
    c.cell_of-cell.ensures c.put.ensures.stays c.put.new.device (tt {0}) c.if-index-ne0.true c.in-Ok.ensures.puts

pub returns-then-index-ne0-clause-counts : goal.returns-then-index-ne0-clause-counts
returns-then-index-ne0-clause-counts g c =
    next-called-all c.self.view_is c.self-in-loop-height.view_is c.loop-height-test.true c.levels-height-end.ensures.value c.loop-height.invariant c.requires.room
    c.cell_of-cell.ensures c.put.ensures.stays c.put.new.device c.in-Ok.ensures.counts

pub loop-height-preserved : goal.loop-height-preserved
loop-height-preserved g c =
    next-rowed c.self.view_is c.self-in-loop-height.view_is c.loop-height-test.true c.levels-height-end.ensures.value c.loop-height.invariant c.requires.room
    c.cell_of-cell.ensures c.put.ensures.stays c.put.new.device (tt {0}) c.if-index-ne0.false c.in-Ok.ensures.puts c.put.ensures.front_stays c.put.ensures.kept c.in-Ok.ensures.counts

pub returns-clause-puts : goal.returns-clause-puts
returns-clause-puts g c =
    let old = c.args.self.now in
    let row : Row = record { key = c.args.key.now; value = c.args.value.now; stamp = c.args.stamp } in
    let deep : c.self.inside.geometry.bottom ≡ old.geometry.bottom = ap (λ (z : Loading). z.geometry.bottom) c.self.view_is in
    let at : c.loop-height.height ≡ old.geometry.bottom + 1 = omega (arith, c.loop-height-test.false, c.levels-height-end.ensures.value, c.loop-height.auto.height-end, deep) in
    let told = g.D.Device.bytes c.args.device.now in
    let last = g.D.Device.bytes c.loop-height.device in
    done-told DeviceFault (tt {0}) old c.loop-height.self row (old.geometry.bottom + 1) told last c.loop-height.invariant.stays.geometry
    (λ height low. amid-below old.rows (old.geometry.bottom + 1) height (omega (arith, low)))
    (subst (λ (k : ℕ). Both told last (PutsAmid old c.loop-height.self row k)) at c.loop-height.invariant.cells)
