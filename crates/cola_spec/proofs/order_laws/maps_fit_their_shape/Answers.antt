use Rattle.cola_spec.proofs.OrderLaws.{pair_fits, stamp_fits, last_fits, unstamped, nothing_in_empty, empty_counts_none, empty_has_no_stamp}
use Rattle.cola_spec.proofs.order_laws.maps_fit_their_shape.Goals as goal

pub returns-clause-count : goal.returns-clause-count
returns-clause-count c = λ shape m is. is.within

pub returns-clause-pairs : goal.returns-clause-pairs
returns-clause-pairs c = pair_fits

pub returns-clause-stamps : goal.returns-clause-stamps
returns-clause-stamps c = stamp_fits

pub returns-clause-last : goal.returns-clause-last
returns-clause-last c = last_fits

pub returns-clause-unstamped : goal.returns-clause-unstamped
returns-clause-unstamped c = unstamped

pub returns-clause-nothing : goal.returns-clause-nothing
returns-clause-nothing c = nothing_in_empty

pub returns-clause-none : goal.returns-clause-none
returns-clause-none c = empty_counts_none

pub returns-clause-no_stamp : goal.returns-clause-no_stamp
returns-clause-no_stamp c = empty_has_no_stamp
