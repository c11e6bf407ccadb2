use Rattle.std.proofs.Common.{refl}
use Rattle.cola_filedev.proofs.laws.opens_as_wanted.Goals as goal

pub returns : goal.returns
returns c = λ make. record { reads = refl; writes = refl; makes = refl; appends_not = refl; empties_not = refl; may_be_there = refl }
