use Rattle.std.proofs.Common.{◌∙◌, arith, length, List, Option, MatchOption, sym, ap, subst}
use Rattle.cola_cell.specs.declared.cell.Cell.{Cell}
use Rattle.cola_plain_files.specs.File.{file_of, AllFound, IsFirstNone}
use Rattle.cola_plain_files.proofs.File.{file_says, first_bad_of, bad_fits}
use Rattle.cola_plain_files.proofs.verdict.file.first_bad.Goals as goal

pub returns-clause-bad : goal.returns-clause-bad
returns-clause-bad c =
    first_bad_of (file_of c.args.header.now c.args.bytes.now) c.args.level c.args.slot c.run_len-len.result c.in_ok-found.found.items c.in_ok-found.ensures.many
    (c.run_len-len.ensures.value c.args.bytes.now) (λ k h. c.in_ok-found.ensures.each k h ∙ ap (λ spots. spots c.args.level c.args.slot k) (sym (file_says c.args.header.now c.args.bytes.now).spots)) c.first_none.result
    (subst (λ (found : List (Option Cell)). MatchOption c.first_none.result (AllFound found) (IsFirstNone found)) c.as_slice.ensures.value c.first_none.ensures)

pub returns-clause-fits : goal.returns-clause-fits
returns-clause-fits c =
    bad_fits c.as_slice.result.now _ c.first_none.result (omega (arith, ap length c.as_slice.ensures.value, c.in_ok-found.ensures.many, c.run_len-len.ensures.fits)) c.first_none.ensures
