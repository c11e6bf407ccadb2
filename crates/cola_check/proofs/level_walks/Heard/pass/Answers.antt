use Rattle.std.proofs.Common.{refl, sym, ◌∙◌}
use Rattle.cola_check.proofs.Fronts.{stands_still}
use Rattle.cola_check.specs.declared.walk.Found.TheVariants.{Nothing}
use Rattle.cola_check.proofs.level_walks.Heard.pass.Goals as goal

pub returns-then-not-has_key-clause-hears : goal.returns-then-not-has_key-clause-hears
returns-then-not-has_key-clause-hears g c = record {
  found = Nothing;
  passes = stands_still c.requires.fits c.requires.ready (sym c.has_key.ensures ∙ c.if-not-has_key.true);
  said_is = refl;
}
