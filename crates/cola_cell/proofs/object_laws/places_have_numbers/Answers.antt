use Rattle.cola_cell.proofs.PlaceNumbers.{numbers_differ, number_below_next}
use Rattle.cola_cell.proofs.object_laws.places_have_numbers.Goals as goal

pub returns : goal.returns
returns c = record {
  differ = λ levels level slot index l s i p q d. numbers_differ level slot index l s i p.slot_in p.index_in q.slot_in q.index_in d;
  within = λ levels level slot index p. number_below_next levels level slot index p;
}
