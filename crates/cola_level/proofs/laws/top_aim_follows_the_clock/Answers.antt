-- What level 0 builds and reads.
use Rattle.cola_merge.specs.declared.aims.Feed.TheVariants.{One}
use Rattle.cola_level.proofs.Sources.{keys_of_next, part_of_aim}
use Rattle.cola_level.proofs.laws.top_aim_follows_the_clock.Goals as goal

pub returns-clause-part : goal.returns-clause-part
returns-clause-part c = λ held t own cell below. part_of_aim held t 0 own (One cell) below

pub returns-clause-keys : goal.returns-clause-keys
returns-clause-keys c = λ held t own cell below. keys_of_next held t 0 below
