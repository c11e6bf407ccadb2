use Rattle.std.proofs.Common.{ℕ, List, ◌++◌, drop, sym, ap, ◌∙◌, arith}
use Rattle.std.proofs.lemmas.List.{length-take-le}
use Rattle.cola_wide.proofs.copying.put_head.Goals as goal

pub copy_from_slice-requires : goal.copy_from_slice-requires
copy_from_slice-requires c = let long = length-take-le 512 c.args.wide.now c.requires in omega (arith, long, c.told-head)

pub returns : goal.returns
returns c =
    ap (λ (xs : List ℕ). xs ++ drop 512 c.args.wide.now) c.copy_from_slice.ensures.after
    ∙ ap (λ (n : ℕ). c.args.head.now ++ drop n c.args.wide.now) (sym c.told-head)
