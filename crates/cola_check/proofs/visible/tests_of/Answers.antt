use Rattle.std.proofs.Common.{sym, ◌∙◌}
use Rattle.cola_check.proofs.Prefixes.{sample-whole, sample-begins}
use Rattle.cola_check.proofs.visible.tests_of.Goals as goal

pub returns-clause-sampled : goal.returns-clause-sampled
returns-clause-sampled c = λ held rest cells is. (
  λ t. let both = c.has_sample.ensures.0 t in sample-whole held c.args.below rest cells (is.sampled_is.0 both.0) (sym is.looks_is ∙ both.1),
  λ h. let both = sample-begins held c.args.below rest cells h in c.has_sample.ensures.1 (is.sampled_is.1 both.0, is.looks_is ∙ both.1),
)
