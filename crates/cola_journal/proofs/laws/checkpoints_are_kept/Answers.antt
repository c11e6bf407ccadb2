use Rattle.std.proofs.Common.{subst, refl}
use Rattle.cola_journal.specs.declared.stage.Stage.{Stage}
use Rattle.cola_journal.specs.Runs.{behind, begin_with}
use Rattle.cola_journal.proofs.Kept.{Inv, safe, all_kept, at_first, turns}
use Rattle.cola_journal.proofs.Told.{told, kinds_kept}
use Rattle.cola_journal.proofs.laws.checkpoints_are_kept.Goals as goal

pub returns-clause-safe : goal.returns-clause-safe
returns-clause-safe c reads none header file events run =
    safe reads none header (behind reads (begin_with file) events) (all_kept reads none header (begin_with file) (at_first reads none header file) events run)

pub returns-clause-settled : goal.returns-clause-settled
returns-clause-settled c reads none header file events run rest =
    subst (λ (s : Stage). Inv reads s (behind reads (begin_with file) events)) rest (all_kept reads none header (begin_with file) (at_first reads none header file) events run)

pub returns-clause-turns : goal.returns-clause-turns
returns-clause-turns c reads none header file events event run can =
    turns reads none header (behind reads (begin_with file) events) (all_kept reads none header (begin_with file) (at_first reads none header file) events run) event

pub returns-clause-told : goal.returns-clause-told
returns-clause-told c reads none header file events run stay left leaves whole =
    told reads none header (behind reads (begin_with file) events) (all_kept reads none header (begin_with file) (at_first reads none header file) events run)
    (kinds_kept reads none header (begin_with file) (at_first reads none header file) (λ place. refl) events run stay) left leaves whole
