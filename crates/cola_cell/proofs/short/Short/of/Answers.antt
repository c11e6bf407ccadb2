use Rattle.std.proofs.Common.{ap, ◌∙◌, ◌++◌, length, drop, replicate}
use Rattle.cola_cell.proofs.Padding.{holds-list, overwritten}
use Rattle.cola_cell.proofs.short.Short.of.Goals as goal

pub invariant_of-result : goal.invariant_of-result
invariant_of-result g c =
    holds-list g.row.N c.args.bytes.now (c.copy_from_slice.new.self ++ drop (length c.args.bytes.now) (replicate g.row.N 0)) c.requires.fits
    (ap (λ xs. xs ++ drop (length c.args.bytes.now) (replicate g.row.N 0)) c.copy_from_slice.ensures.after
    ∙ overwritten g.row.N c.args.bytes.now)
