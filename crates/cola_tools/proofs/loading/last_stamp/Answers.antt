use Rattle.std.proofs.Common.{◌≤◌, ℕ, sym, subst}
use Rattle.cola_cell.specs.Format.{stamp_limit}
use Rattle.cola_tools.proofs.Loaded.{last-fits}
use Rattle.cola_tools.proofs.loading.last_stamp.Goals as goal

pub returns-clause-fits : goal.returns-clause-fits
returns-clause-fits c =
    subst (λ (n : ℕ). n ≤ stamp_limit c.args.geometry.now.format) (sym c.stamp_of.ensures) (last-fits c.args.geometry.now.format c.args.geometry.now.keys c.args.geometry.now.keys_in_range)
