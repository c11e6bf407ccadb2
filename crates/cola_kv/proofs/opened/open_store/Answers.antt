use Rattle.std.proofs.Common.{refl, sym, subst}
use Rattle.cola_kv.specs.declared.error.Error.{Error}
use Rattle.cola_kv.specs.Opened.{OpenCause, IsOpenRefusal}
use Rattle.cola_kv.proofs.Openings.{is-open, opens-sound, open-cause, refuses-sound}
use Rattle.cola_kv.proofs.opened.open_store.Goals as goal

pub returns-in-Ok-clause-open : goal.returns-in-Ok-clause-open
returns-in-Ok-clause-open g c = is-open g.D.Device c.args.device c.args.cache _ c.min-cache.ensures refl c.in-Ok.ensures.opens

pub returns-in-Ok-clause-sound : goal.returns-in-Ok-clause-sound
returns-in-Ok-clause-sound g c = λ m file. opens-sound g.D.Device c.args.device c.min-cache.result m c.in-Ok.store file c.in-Ok.ensures.opens

pub returns-clause-cause : goal.returns-clause-cause
returns-clause-cause g c =
    subst (λ (e : Error). OpenCause g.D.Device c.args.device c.in-Err.device e) (sym c.from.ensures)
    (open-cause g.D.Device c.args.device c.in-Err.device c.min-cache.result c.in-Err.fault c.in-Err.ensures.opens)

pub returns-clause-sound : goal.returns-clause-sound
returns-clause-sound g c = λ m file.
    subst (λ (e : Error). IsOpenRefusal g.D.Device c.args.device c.in-Err.device e) (sym c.from.ensures)
    (refuses-sound g.D.Device c.args.device c.in-Err.device c.min-cache.result m c.in-Err.fault file c.in-Err.ensures.opens)
