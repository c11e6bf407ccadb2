use Rattle.cola_c.proofs.PrefixesTold.{prefixes-told}
use Rattle.cola_c.proofs.laws_of_walks.seeks_of_prefixes_are_told.Goals as goal

pub returns : goal.returns
returns c = prefixes-told
