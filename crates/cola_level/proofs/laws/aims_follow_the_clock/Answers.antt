-- What an aim builds and reads.
use Rattle.std.proofs.Common.{ℕ, suc, ◌+◌, ap}
use Rattle.cola_merge.specs.declared.aims.Feed.TheVariants.{Run}
use Rattle.cola_level.specs.Aims.{visible_run}
use Rattle.cola_level.proofs.Sources.{keys_of_next, part_of_aim, sample_len}
use Rattle.cola_level.proofs.laws.aims_follow_the_clock.Goals as goal

pub returns-clause-part : goal.returns-clause-part
returns-clause-part c = λ held t i own above below. part_of_aim held t (suc i) own (Run (visible_run t i above)) below

pub returns-clause-keys : goal.returns-clause-keys
returns-clause-keys c = λ held t i own above below. keys_of_next held t (suc i) below

pub returns-clause-lengths : goal.returns-clause-lengths
returns-clause-lengths c = λ t i own above below. ap (λ (n : ℕ). own + above + n) (sample_len t (suc i) below)
