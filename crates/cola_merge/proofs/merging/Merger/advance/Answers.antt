-- What the steps of a quota say to a caller.
use Rattle.std.proofs.Common.{ℕ, ◌≤◌, subst}
use Rattle.cola_cell.specs.Places.{slot_size}
use Rattle.cola_merge.proofs.Advancing.{advances}
use Rattle.cola_merge.proofs.merging.Merger.advance.Goals as goal

pub returns-clause-advances : goal.returns-clause-advances
returns-clause-advances g c =
    advances c.run.result c.requires (subst (λ (x : ℕ). x ≤ slot_size c.args.aim.now.level) c.shadow_len.ensures.value c.shadow_len.ensures.within) c.run.ensures.ran
