-- The turns of a session whose reads and writes are worked out.
use Rattle.std.specs.Prelude.{ℕ, List, [], ◌∷◌, Some, None}
use Rattle.cola_cell.specs.declared.format.Format.TheVariants.{One}
use Rattle.cola_spec.specs.Map as map
use Rattle.cola_spec.specs.Command.{Put, Del, Get, Close, Reopen}
use Rattle.cola_spec.specs.Reply as reply
use Rattle.cola_spec.specs.Machine.{Turn}
use Rattle.cola_table.specs.Replies.{turn_of}
use Rattle.cola_command.specs.File.{Sizes}

-- a put, a close, a put that is shut out, an opening, two deletes of which one finds its key, and a get
abbrev pub example : List Turn
example =
    turn_of (Put (1 ∷ []) []) (reply.Put map.New) 0
    ∷ turn_of Close reply.Closed 0
    ∷ turn_of (Put (2 ∷ []) []) reply.Shut 0
    ∷ turn_of Reopen (reply.Opened 1) 0
    ∷ turn_of (Del (1 ∷ [])) (reply.Deleted (Some [])) 0
    ∷ turn_of (Del (2 ∷ [])) (reply.Deleted None) 0
    ∷ turn_of (Get (2 ∷ [])) (reply.Got None) 0
    ∷ []

-- for 512 keys: 8 levels, and blocks of 8 cells
abbrev pub example_sizes : Sizes
example_sizes = record { format = One; keys = 512; bottom = 7; block_exp = 3 }
