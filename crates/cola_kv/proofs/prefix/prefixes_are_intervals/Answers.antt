use Rattle.cola_kv.proofs.Beginning.{begins-rest, rest-begins, interval}
use Rattle.std.proofs.Common.{◌∙◌, ap}
use Rattle.cola_kv.specs.Prefix.{begins_with}
use Rattle.cola_kv.proofs.prefix.prefixes_are_intervals.Goals as goal

pub returns-clause-begins : goal.returns-clause-begins
returns-clause-begins c = λ prefix key. (begins-rest prefix key, λ is. ap (begins_with prefix) is.1 ∙ rest-begins prefix is.0)

pub returns-clause-interval : goal.returns-clause-interval
returns-clause-interval c = interval
