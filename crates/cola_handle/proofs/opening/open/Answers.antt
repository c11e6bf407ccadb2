use Rattle.std.proofs.Common.{ℕ, List, Option, sym, subst}
use Rattle.std.specs.Prelude.{IfErr}
use Rattle.cola_mapped.specs.Region.{bytes_in}
use Rattle.cola_handle.specs.Lent.{StandsFor, OpenCause}
use Rattle.cola_handle.proofs.opening.open.Goals as goal

pub returns-clause-cause : goal.returns-clause-cause
returns-clause-cause c = subst (λ (b : Option (List ℕ)). IfErr c.open_lent.result (λ refusal. OpenCause (bytes_in b) refusal.2)) c.of-lent.ensures.bytes c.open_lent.ensures.cause

pub returns-clause-only : goal.returns-clause-only
returns-clause-only c = λ m stands. c.open_lent.ensures.only m (subst (λ (b : Option (List ℕ)). StandsFor b m) (sym c.of-lent.ensures.bytes) stands)
