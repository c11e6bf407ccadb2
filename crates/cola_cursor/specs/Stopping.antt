-- Where the search of a run stops, without the item there.
use Rattle.std.specs.Prelude.{ℕ, List, Option, Result, Ok, Err}
use Rattle.cola_cell.specs.declared.cell.Item.{Item}
use Rattle.cola_cell.specs.declared.cell.Run.{Run}
use Rattle.cola_cell.specs.declared.fault.ReadFault.{ReadFault}
use Rattle.cola_cell.specs.State.{State}
use Rattle.cola_look.specs.declared.seeking.Seat.{Seat}
use Rattle.cola_look.specs.Seeks.{Seeks}
use Rattle.cola_cursor.specs.declared.stop.Stop.{Stop}

-- the answer of a search that stops there, with this item
abbrev pub with_hit : Option Item → Result Stop ReadFault → Result Seat ReadFault
with_hit hit (Ok stop) = Ok (record { pos = stop.place; hit = hit; link = stop.link })
with_hit hit (Err fault) = Err fault

-- what the search of a run says but of the item that it finds: with some item it is the search for the key
pub record Stops (run : Run) (next_len start : ℕ) (key : List ℕ) (old new : State) (before after : ℕ) (result : Result Stop ReadFault) : Type 0 where
  pub hit : Option Item
  pub seeks : Seeks run next_len start key old new before after (with_hit hit result)
