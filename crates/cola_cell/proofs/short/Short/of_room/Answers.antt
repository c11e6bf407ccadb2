use Rattle.std.proofs.Common.{ℕ, ap, ◌∙◌}
use Rattle.std.proofs.lemmas.List.{length-replicate}
use Rattle.cola_cell.specs.Bytes.{padded}
use Rattle.cola_cell.proofs.Padding.{holds-copied, copied}
use Rattle.cola_cell.proofs.short.Short.of_room.Goals as goal

pub invariant_of-result : goal.invariant_of-result
invariant_of-result g c =
    holds-copied g.row.N c.args.len c.args.room.now c.put_room.new.into c.requires.fits c.requires.filled
    (c.put_room.ensures ∙ ap (λ (n : ℕ). padded n c.args.room.now) (length-replicate {A = ℕ} g.row.N 0))

pub returns : goal.returns
returns g c =
    (copied g.row.N c.args.len c.args.room.now c.put_room.new.into c.requires.fits c.requires.filled
    (c.put_room.ensures ∙ ap (λ (n : ℕ). padded n c.args.room.now) (length-replicate {A = ℕ} g.row.N 0))).1
