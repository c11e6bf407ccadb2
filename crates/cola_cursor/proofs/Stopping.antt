-- The search for the first key above a key.
use Rattle.std.proofs.Common.{◌≡◌, ℕ, not, Bool, cond, List, Option, None, Result, Err, refl, sym, ap, subst, ◌∙◌, Less, Equal, Greater, Ordering}
use Rattle.std.specs.Ordering.{is_lt, is_le, is_gt, is_eq, nat_cmp}
use Rattle.std.specs.Cmp.Lexicographic.{slice_cmp}
use Rattle.cola_runs.proofs.Order.{by_bool}
use Rattle.cola_cell.specs.declared.cell.Item.{Item}
use Rattle.cola_cell.specs.declared.cell.Cell.{Cell}
use Rattle.cola_cell.specs.declared.cell.Run.{Run}
use Rattle.cola_cell.specs.declared.fault.ReadFault.{ReadFault}
use Rattle.cola_cell.specs.Cell as parts
use Rattle.cola_cell.specs.Held.{as_cell}
use Rattle.cola_cell.specs.Order.{key_cmp}
use Rattle.cola_cell.specs.Packed.{item_of}
use Rattle.cola_cell.specs.State.{State}
use Rattle.cola_look.specs.Seek.{seat_at, as_seat}
use Rattle.cola_look.specs.Seeks.{Seeks}
use Rattle.cola_look.proofs.Seats.{seat_of_hit, seat_of_miss}
use Rattle.cola_reverse.proofs.Over.{over}
use Rattle.cola_cursor.specs.declared.stop.Stop.{Stop}
use Rattle.cola_cursor.specs.Stopping.{Stops}
use Rattle.cola_cursor.specs.Turning.{over_key}

-- the item that a search for a key finds at a cell
abbrev pub hit_for : List ℕ → Cell → Option Item
hit_for key c = cond (is_eq (key_cmp (parts.key_of c) key)) (item_of c) None

pub seat_is : (key : List ℕ) (i : ℕ) (c : Cell) (link : ℕ) → link ≡ parts.link_of c → as_seat (record { pos = i; hit = hit_for key c; link = link }) ≡ seat_at key i (as_cell c)
seat_is key i c link e =
    by_bool (λ b. is_eq (key_cmp (parts.key_of c) key) ≡ b → as_seat (record { pos = i; hit = cond b (item_of c) None; link = link }) ≡ seat_at key i (as_cell c))
    (λ f. seat_of_hit key i c (item_of c) link f refl e) (λ f. seat_of_miss key i c None link f refl e) (is_eq (key_cmp (parts.key_of c) key)) refl

not_above : (r : Ordering) → is_le r ≡ not (is_gt r)
not_above Less = refl
not_above Equal = refl
not_above Greater = refl

-- a cell whose key is not above the key is below the least string above it
pub compared_over : (key found : List ℕ) (order : Ordering) (above b : Bool) → order ≡ slice_cmp nat_cmp found key → above ≡ is_gt order → above ≡ b → is_lt (key_cmp found (over_key key)) ≡ not b
compared_over key found order above b e f h =
    over found key ∙ not_above (slice_cmp nat_cmp found key) ∙ ap not (ap is_gt (sym e) ∙ sym f ∙ h)

-- a refused search
pub stops_refused : {run : Run} {next_len start : ℕ} {key : List ℕ} {old new : State} {before after : ℕ} (fault : ReadFault) (result : Result Stop ReadFault) → result ≡ Err fault →
    Seeks run next_len start key old new before after (Err fault) → Stops run next_len start key old new before after result
stops_refused {run} {next_len} {start} {key} {old} {new} {before} {after} fault result is seeks =
    let E : Result Stop ReadFault → Type 0 = λ x. Stops run next_len start key old new before after x in
    subst E (sym is) (record { hit = None; seeks = seeks })
