use Rattle.cola_layout.proofs.Powers.{bottom-of_leading, bottom-shallow}
use Rattle.cola_layout.proofs.geometry.bottom_of.Goals as goal

pub returns-clause-is : goal.returns-clause-is
returns-clause-is c = rw c.max.ensures (bottom-of_leading c.args.keys c.requires.some c.ranges.keys.fits)

pub returns-clause-shallow : goal.returns-clause-shallow
returns-clause-shallow c =
    bottom-shallow c.args.keys _ c.requires.few (rw c.max.ensures (bottom-of_leading c.args.keys c.requires.some c.ranges.keys.fits))
