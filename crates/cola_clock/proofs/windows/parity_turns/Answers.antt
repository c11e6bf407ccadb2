use Rattle.cola_clock.proofs.Laws.{is_odd-next_flip, period-next_stay}
use Rattle.cola_clock.proofs.Wrap.{slot-of_parity, slot-stays, slot-turns}
use Rattle.cola_clock.proofs.windows.parity_turns.Goals as goal

pub returns-clause-flips_turn : goal.returns-clause-flips_turn
returns-clause-flips_turn c = is_odd-next_flip

pub returns-clause-others_stay : goal.returns-clause-others_stay
returns-clause-others_stay c = period-next_stay

pub returns-clause-slot : goal.returns-clause-slot
returns-clause-slot c = slot-of_parity

pub returns-clause-slot_turns : goal.returns-clause-slot_turns
returns-clause-slot_turns c = slot-turns

pub returns-clause-slot_stays : goal.returns-clause-slot_stays
returns-clause-slot_stays c = slot-stays
