use Rattle.cola_cursor.proofs.stop.stop_at.Goals as goal

pub returns-in-Ok-clause-stops : goal.returns-in-Ok-clause-stops
returns-in-Ok-clause-stops g c = record { hit = c.in-Ok.seat.hit; seeks = c.in-Ok.ensures.seeks }
