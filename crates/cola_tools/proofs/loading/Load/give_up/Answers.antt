use Rattle.std.proofs.Common.{inr, ℕ, List, sym, ap, subst}
use Rattle.cola_load.specs.Loading.{IsHeadless}
use Rattle.cola_mapped.specs.Region.{bytes_in}
use Rattle.cola_tools.proofs.NewFiles.{headless}
use Rattle.cola_tools.proofs.loading.Load.give_up.Goals as goal

pub returns-clause-no_header : goal.returns-clause-no_header
returns-clause-no_header c =
    inr (subst (λ (bytes : List ℕ). IsHeadless bytes) (sym (ap bytes_in c.into_region.ensures.bytes)) (headless c.self.inside.device c.into_region.ensures.sound c.self.invariant.laid c.self.invariant.no_header))
