use Rattle.std.proofs.Common.{◌≡◌, ◌≤◌, ◌<◌, length, sym, ap, subst, ◌∙◌, arith, vec_len}
use Rattle.std.proofs.lemmas.Result.{IfOk-weaker}
use Rattle.cola_layout.specs.Cells.{slot_cells}
use Rattle.cola_plain_runs.specs.Runs.{as_run}
use Rattle.cola_plain_runs.proofs.Lists.{run_length}
use Rattle.cola_cell.specs.ToldCells.{IsTold}
use Rattle.cola_plain_files.specs.Levels.{found_cells}
use Rattle.cola_plain_files.specs.File.{file_of, ArePlacesTold}
use Rattle.cola_plain_files.proofs.File.{file_says, found_all, found_fewer}
use Rattle.cola_plain_files.proofs.verdict.file.run_at.Goals as goal

pub returns-clause-cells : goal.returns-clause-cells
returns-clause-cells c =
    let file = file_of c.args.header.now c.args.bytes.now in
    let spots = (file_says c.args.header.now c.args.bytes.now).spots in
    let many = c.in_ok-found.ensures.many in
    IfOk-weaker c.plain_run.result (λ run. as_run run.items ≡ found_cells c.as_slice.result.now) (λ run. ArePlacesTold file c.args.level c.args.slot c.args.len → as_run run.items ≡ slot_cells file.spots c.args.level c.args.slot c.args.len)
    (λ run e told. e ∙ ap found_cells c.as_slice.ensures.value
    ∙ found_all c.in_ok-found.found.items (λ i h. let lt : i < c.args.len = omega (arith, h, many) in
    subst IsTold (sym (c.in_ok-found.ensures.each i lt ∙ ap (λ s. s c.args.level c.args.slot i) (sym spots))) (told i lt))
    ∙ c.in_ok-found.ensures.listed ∙ ap (λ s. slot_cells s c.args.level c.args.slot c.args.len) (sym spots))
    c.plain_run.ensures

pub returns-clause-small : goal.returns-clause-small
returns-clause-small c =
    IfOk-weaker c.plain_run.result (λ run. as_run run.items ≡ found_cells c.as_slice.result.now) (λ run. vec_len run ≤ c.args.len)
    (λ run e. omega (arith, ap length e, run_length run.items, found_fewer c.as_slice.result.now, ap length c.as_slice.ensures.value, c.in_ok-found.ensures.many, run.ok.0))
    c.plain_run.ensures
