use Rattle.cola_runs.specs.Weave.{relinked}
use Rattle.cola_plain_runs.specs.Runs.{as_run, as_part}
use Rattle.cola_plain_runs.proofs.Weaving.{assembled, few_cells, value_is, weave_of_unlinked}
use Rattle.cola_plain_runs.proofs.weave.weave.Goals as goal

pub link_cells-requires : goal.link_cells-requires
link_cells-requires g c =
    let made = assembled g.K.Ord.cmp (as_part c.args.part.now) (as_run c.args.own.now) (as_run c.args.incoming.now) c.args.keys.now
    c.as_slice-4.result.now c.set_all-2.new.cells.items c.as_slice-3.result.now c.in_ok-looks.looks.items c.in_ok-cells.cells.items c.as_slice-2.result.now c.set_all.new.cells.items c.as_slice.result.now c.in_ok-newer.newer.items c.in_ok-items.items.items
    c.as_slice-4.ensures.value c.in_ok-set_all-2.ensures c.as_slice-3.ensures.value c.in_ok-looks.ensures c.in_ok-cells.ensures c.as_slice-2.ensures.value c.in_ok-set_all.ensures c.as_slice.ensures.value c.in_ok-newer.ensures c.in_ok-items.ensures in
    few_cells g.K.Ord.cmp (as_part c.args.part.now) c.args.own.now c.args.incoming.now c.as_slice-4.result.now c.args.keys.now _ made c.requires

pub returns : goal.returns
returns g c =
    let made = assembled g.K.Ord.cmp (as_part c.args.part.now) (as_run c.args.own.now) (as_run c.args.incoming.now) c.args.keys.now
    c.as_slice-4.result.now c.set_all-2.new.cells.items c.as_slice-3.result.now c.in_ok-looks.looks.items c.in_ok-cells.cells.items c.as_slice-2.result.now c.set_all.new.cells.items c.as_slice.result.now c.in_ok-newer.newer.items c.in_ok-items.items.items
    c.as_slice-4.ensures.value c.in_ok-set_all-2.ensures c.as_slice-3.ensures.value c.in_ok-looks.ensures c.in_ok-cells.ensures c.as_slice-2.ensures.value c.in_ok-set_all.ensures c.as_slice.ensures.value c.in_ok-newer.ensures c.in_ok-items.ensures in
    value_is c.link_cells.result (λ v. as_run v.items) (relinked 0 (as_run c.as_slice-4.result.now)) _
    (weave_of_unlinked g.K.Ord.cmp (as_part c.args.part.now) (as_run c.args.own.now) (as_run c.args.incoming.now) c.args.keys.now (as_run c.as_slice-4.result.now) made) c.link_cells.ensures
