use Rattle.cola_c.proofs.tools.grow_on.Goals as goal

pub returns-clause-grows : goal.returns-clause-grows
returns-clause-grows g c = (_, (_, c.grow.ensures.grows))
