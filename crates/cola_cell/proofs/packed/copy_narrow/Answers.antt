use Rattle.std.proofs.Common.{sym, ◌∙◌, arith}
use Rattle.std.proofs.lemmas.List.{length-take-le}
use Rattle.cola_cell.proofs.Packs.{whole-copy}
use Rattle.cola_cell.proofs.packed.copy_narrow.Goals as goal

pub slice_bounds-copy_from_slice-end-2 : goal.slice_bounds-copy_from_slice-end-2
slice_bounds-copy_from_slice-end-2 c = sym (length-take-le 64 c.args.into.now (omega (arith, c.requires.into)))

pub slice_bounds-copy_from_slice-end-3 : goal.slice_bounds-copy_from_slice-end-3
slice_bounds-copy_from_slice-end-3 c = sym (length-take-le 64 c.args.from.now (omega (arith, c.requires.from)))

pub copy_from_slice-requires : goal.copy_from_slice-requires
copy_from_slice-requires c =
    length-take-le 64 c.args.into.now (omega (arith, c.requires.into)) ∙ sym (length-take-le 64 c.args.from.now (omega (arith, c.requires.from)))

pub returns : goal.returns
returns c = whole-copy 64 c.copy_from_slice.new.self c.args.from.now c.args.into.now c.requires.from c.requires.into c.copy_from_slice.ensures.after
