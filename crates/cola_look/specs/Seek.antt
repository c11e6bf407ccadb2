-- The search of a run, over what an object tells of its places.
use Rattle.std.specs.Prelude.{ℕ, zero, suc, ◌+◌, ◌-◌, ◌*◌, ◌/◌, ◌%◌, ◌≤◌, ◌<◌, ◌==◌, min, Bool, false, cond, List, if◌then◌else◌, Result, Ok, Err}
use Rattle.std.specs.declared.option.Option.{Option}
use Rattle.std.specs.declared.option.Option.TheVariants.{None, Some}
use Rattle.std.specs.Ordering.{is_lt}
use Rattle.std.specs.Option.{option_map, option_map_or}
use Rattle.cola_outside.specs.Faults.{Rose}
use Rattle.cola_runs.specs.Cells.{key_of, link_of}
use Rattle.cola_runs.specs.Seen.{seen, holds}
use Rattle.cola_runs.specs.Search as laws
use Rattle.cola_cell.specs.declared.cell.Run.{Run}
use Rattle.cola_cell.specs.declared.fault.ReadFault.{ReadFault}
use Rattle.cola_cell.specs.declared.fault.ReadFault.TheVariants.{Device, BadCell}
use Rattle.cola_cell.specs.Places.{number_of}
use Rattle.cola_cell.specs.Held.{Held, Spot, Untold, Bad, Told, LawCell, Stamped, as_item}
use Rattle.cola_cell.specs.Spent.{IsBad}
use Rattle.cola_look.specs.declared.scanning.Sight.{Sight}
use Rattle.cola_look.specs.declared.seeking.Seat.{Seat}
use Rattle.cola_cell.specs.Order.{key_cmp}
use Rattle.cola_look.specs.Outcome.{Outcome, Found, BadAt, Open}

-- the first index that a search may read, and the index after the last: at most 8 cells, and none past the length
abbrev pub first_of : (link len : ℕ) → ℕ
first_of link len = min link len

abbrev pub last_of : (link len : ℕ) → ℕ
last_of link len = min (link + 8) len

-- whether a search goes on behind a place: a cell with a lower key is told there
abbrev pub is_passed : List ℕ → Spot → Bool
is_passed key Untold = false
is_passed key Bad = false
is_passed key (Told c) = is_lt (key_cmp (key_of c) key)

-- the first of so many places from an index on that a search does not pass, if there is one
abbrev pub first_stop : (ℕ → Spot) → List ℕ → ℕ → ℕ → Option ℕ
first_stop spots key i zero = None
first_stop spots key i (suc n) = cond (is_passed key (spots i)) (first_stop spots key (suc i) n) (Some i)

-- the seat at a cell
abbrev pub seat_at : List ℕ → ℕ → LawCell → laws.Seat Stamped
seat_at key i c = record { pos = i; hit = laws.hit_of key_cmp key (Some c); link = link_of c }

-- what a search that stops at a place finds there
abbrev pub found_at : List ℕ → Run → ℕ → Spot → Outcome (laws.Seat Stamped)
found_at key run i Untold = Open
found_at key run i Bad = BadAt (number_of run.level run.slot i)
found_at key run i (Told c) = Found (seat_at key i c)

-- what a search that passes all its places finds: the end of the run, and the link to the last whole eight of the next
abbrev pub found_end : Run → ℕ → Outcome (laws.Seat Stamped)
found_end run next_len = Found (record { pos = run.len; hit = None; link = 8 * (next_len / 8) })

-- the search of so many places of a run from an index on
abbrev pub found_from : Held → Run → ℕ → List ℕ → ℕ → ℕ → Outcome (laws.Seat Stamped)
found_from held run next_len key i n =
    option_map_or (λ j. found_at key run j (held.spots run.level run.slot j)) (first_stop (held.spots run.level run.slot) key i n) (found_end run next_len)

-- the search of a run from a link
abbrev pub found_in : Held → Run → ℕ → ℕ → List ℕ → Outcome (laws.Seat Stamped)
found_in held run next_len start key = found_from held run next_len key (first_of start run.len) (last_of start run.len - first_of start run.len)

-- the seat of a key in a list of cells: the first index at or above it, the key's item, and the link there
abbrev pub seat_of_key : List ℕ → List LawCell → ℕ → laws.Seat Stamped
seat_of_key key cells next_len =
    record {
      pos = laws.place key_cmp key cells;
      hit = holds (seen key_cmp key cells);
      link = laws.link_at cells next_len (laws.place key_cmp key cells);
    }

-- a seat of the program as one of the laws
abbrev pub as_seat : Seat → laws.Seat Stamped
as_seat seat = record { pos = seat.pos; hit = option_map as_item seat.hit; link = seat.link }

-- the seat at a place, with what a room has
abbrev pub seat_of : Sight → ℕ → Seat
seat_of sight pos = record { pos = pos; hit = sight.hit; link = sight.link }

-- what a search answers that leaves what it found in a room: the seat at the place where it stopped, or why it was refused
abbrev pub seat_in : Sight → Result ℕ ReadFault → Result Seat ReadFault
seat_in sight (Ok pos) = Ok (seat_of sight pos)
seat_in sight (Err fault) = Err fault

-- a cell of the window of a run whose bytes spell none, and its number
pub record HasBadIn (held : Held) (run : Run) (start number : ℕ) : Type 0 where
  pub index : ℕ
  pub from : start ≤ index
  pub within : index < last_of start run.len
  pub bad : IsBad held run.level run.slot index number

-- the cause of a refused search: the count of faults rose, or a cell of the window is bad
abbrev pub SeekCause : Held → Run → ℕ → ℕ → ℕ → ReadFault → Type 0
SeekCause held run start before now Device = Rose before now
SeekCause held run start before now (BadCell number) = HasBadIn held run start number

-- the blocks that a search may turn to: the cells of an aligned eight lie in one block
abbrev pub turns_from : ℕ → ℕ
turns_from start = if start % 8 == 0 then 1 else 2
