use Rattle.cola_spec.proofs.MapLaws.{after_put_is_map, after_put_if_is_map, after_delete_is_map, empty_is_map}
use Rattle.cola_spec.proofs.laws.maps_keep_their_shape.Goals as goal

pub returns-clause-empty : goal.returns-clause-empty
returns-clause-empty c = empty_is_map

pub returns-clause-put : goal.returns-clause-put
returns-clause-put c = after_put_is_map

pub returns-clause-put_if : goal.returns-clause-put_if
returns-clause-put_if c = after_put_if_is_map

pub returns-clause-delete : goal.returns-clause-delete
returns-clause-delete c = after_delete_is_map
