use Rattle.cola_command.proofs.Ending.{closed-at-end}
use Rattle.cola_command_laws.proofs.definition_laws.sessions_are_led.Goals as goal

pub returns-clause-well : goal.returns-clause-well
returns-clause-well g c = λ cache steps steps' cost sink sink' device device' known lines is all.
    let one = all known is in
    let l = one.led in
    (one.turns, (one.answer, (l.first, (l.last, (l.begun, (l.led, closed-at-end g.D.Device l.last.place one.answer l.place device' l.close l.device_is one.ends.0))))))

pub returns-clause-anyhow : goal.returns-clause-anyhow
returns-clause-anyhow g c = λ cache steps steps' cost sink sink' device device' known lines is all.
    let one = all known is in
    let l = one.led in
    (one.turns, (one.answer, (l.first, (l.last, (l.place, (l.begun, (l.led, (l.close, l.device_is))))))))

pub returns-clause-front : goal.returns-clause-front
returns-clause-front g c = λ cache steps steps' cost sink sink' device device' known before line is all.
    let one = all known is in
    let l = one.led in
    (one.turns, (one.answer, (l.first, (l.last, (l.place, (l.begun, (l.led, (l.close, l.device_is))))))))
