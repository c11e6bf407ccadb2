use Rattle.cola_c.proofs.FewMarked.{few_marked}
use Rattle.cola_c.proofs.laws.few_pages_are_marked.Goals as goal

pub returns : goal.returns
returns c = few_marked c.args.session.now c.writes.ensures.within
