-- What the turns of this crate stand for.
use Rattle.std.specs.Prelude.{List, map}
use Rattle.cola_plain.specs.declared.turn.Turn.{Turn}
use Rattle.cola_plain.specs.Command.{request_with}
use Rattle.cola_plain.specs.Reply.{reply_with}
use Rattle.cola_spec.specs.Machine as spec

-- the turn by its bytes
abbrev pub turn_with : Turn → spec.Turn
turn_with turn = record { request = request_with turn.request; answer = reply_with turn.answer; ticks = turn.ticks }

-- the turns by their bytes
abbrev pub turns_with : List Turn → List spec.Turn
turns_with turns = map turn_with turns
