-- Runs by a script: how each step goes.
use Rattle.std.specs.Prelude.{◌<◌, if◌then◌else◌, List, [], ◌∷◌, Option, Some, is_some, unwrap_or}
use Rattle.cola_spec.specs.Map.{Shape}
use Rattle.cola_spec.specs.Command.{Command}
use Rattle.cola_spec.specs.Reply.{Reply}
use Rattle.cola_spec.specs.Machine.{State, Turn, plain_after, plain_reply}
use Rattle.cola_plain.specs.declared.script.Choice.{Choice}
use Rattle.cola_plain.specs.declared.script.Choice.TheVariants.{Plain, Faulted, ShortOfMemory}
use Rattle.cola_plain.specs.declared.script.Move.{Move}
use Rattle.cola_plain.specs.Faults.{faulted_after, faulted_reply, short_reply}

-- the byte that a fault leaves is a byte
abbrev pub IsChoice : Choice → Type 0
IsChoice Plain = Unit {0}
IsChoice (Faulted rows byte) = byte < 256
IsChoice ShortOfMemory = Unit {0}

-- what a request is answered where the step goes as chosen, if it can go so
abbrev pub chosen_reply : Choice → Shape → State → Option Command → Option Reply
chosen_reply Plain shape state request = Some (plain_reply shape state request)
chosen_reply (Faulted rows byte) shape state request = faulted_reply rows state request
chosen_reply ShortOfMemory shape state request = short_reply state request

-- the state after it
abbrev pub chosen_after : Choice → Shape → State → Option Command → State
chosen_after Plain shape state request = plain_after shape state request
chosen_after (Faulted rows byte) shape state request = faulted_after byte state request
chosen_after ShortOfMemory shape state request = state

-- what a request is answered where the step goes as chosen, or plainly where it cannot go so
abbrev pub scripted_reply : Choice → Shape → State → Option Command → Reply
scripted_reply choice shape state request = unwrap_or (chosen_reply choice shape state request) (plain_reply shape state request)

-- the state after it
abbrev pub scripted_after : Choice → Shape → State → Option Command → State
scripted_after choice shape state request =
    if is_some (chosen_reply choice shape state request) then chosen_after choice shape state request else plain_after shape state request

-- the turn of a request that goes as a move says
abbrev pub scripted_turn : Move → Shape → State → Option Command → Turn
scripted_turn next shape state request = record { request = request; answer = scripted_reply next.choice shape state request; ticks = next.ticks }

-- the next move of a script: behind its end a plain step that costs nothing
abbrev pub next_move : List Move → Move
next_move [] = record { choice = Plain; ticks = 0 }
next_move (move ∷ moves) = move

-- the moves after the next
abbrev pub later_moves : List Move → List Move
later_moves [] = []
later_moves (move ∷ moves) = moves

-- the turns of requests that go as a script says
abbrev pub scripted_turns : List Move → Shape → State → List (Option Command) → List Turn
scripted_turns script shape state [] = []
scripted_turns script shape state (request ∷ requests) =
    scripted_turn (next_move script) shape state request ∷ scripted_turns (later_moves script) shape (scripted_after (next_move script).choice shape state request) requests

-- the state after them
abbrev pub scripted_last : List Move → Shape → State → List (Option Command) → State
scripted_last script shape state [] = state
scripted_last script shape state (request ∷ requests) =
    scripted_last (later_moves script) shape (scripted_after (next_move script).choice shape state request) requests
