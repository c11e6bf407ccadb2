-- A step that can be taken is.
use Rattle.std.proofs.Common.{◌≡◌, ◌<◌, subst, sym}
use Rattle.cola_cell.specs.declared.format.Format.{Format}
use Rattle.cola_window.specs.Windows.{bytes_in, lasts_in, consumed}
use Rattle.cola_window.specs.Stopping.{CanStep}
use Rattle.cola_window.proofs.Stopping.{goes_on}
use Rattle.cola_window.proofs.windows.merge_windows.Goals as goal

pub returns-in-One-clause-goes_on : goal.returns-in-One-clause-goes_on
returns-in-One-clause-goes_on c =
    subst (λ (f : Format). CanStep f (bytes_in c.args.own c.args.incoming c.args.sample) (lasts_in c.args.own c.args.incoming c.args.sample) c.merge_in.new.room c.args.quota → 0 < consumed c.merge_in.result)
    (sym c.in-One.is) (goes_on _ _ _ _ _ _ _ _ c.merge_in.ensures.merged c.merge_in.ensures.stops)

pub returns-in-Two-clause-goes_on : goal.returns-in-Two-clause-goes_on
returns-in-Two-clause-goes_on c =
    subst (λ (f : Format). CanStep f (bytes_in c.args.own c.args.incoming c.args.sample) (lasts_in c.args.own c.args.incoming c.args.sample) c.merge_in-in-Two.new.room c.args.quota → 0 < consumed c.merge_in-in-Two.result)
    (sym c.in-Two.is) (goes_on _ _ _ _ _ _ _ _ c.merge_in-in-Two.ensures.merged c.merge_in-in-Two.ensures.stops)
