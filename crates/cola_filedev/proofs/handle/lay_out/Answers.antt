use Rattle.std.proofs.lemmas.Result.{err_from_is_err_and}
use Rattle.cola_filedev.specs.Work.{emptied, not_emptied}
use Rattle.cola_filedev.proofs.handle.lay_out.Goals as goal

pub returns-in_err-set_size : goal.returns-in_err-set_size
returns-in_err-set_size g c =
    let p = err_from_is_err_and c.from_residual.result c.from_residual.ensures.1 in
    rw (p.1, p.2) (not_emptied c.in_err-set_size.ensures)

pub returns : goal.returns
returns g c = emptied c.in_ok-set_size.ensures c.set_size-2.ensures
