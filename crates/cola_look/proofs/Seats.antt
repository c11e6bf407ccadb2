-- The seat at a cell, whose key is compared with the key that is sought.
use Rattle.std.proofs.Common.{◌≡◌, ℕ, Bool, true, false, cond, List, Option, None, Some, refl, sym, ap, ◌∙◌}
use Rattle.std.specs.Ordering.{is_eq, nat_cmp, ordering_reverse}
use Rattle.std.specs.Cmp.Lexicographic.{slice_cmp, nat_list_cmp_total}
use Rattle.cola_runs.proofs.Order.{by_ordering}
use Rattle.cola_runs.specs.Cells as laws
use Rattle.cola_cell.specs.declared.cell.Item.{Item}
use Rattle.cola_cell.specs.declared.cell.Cell.{Cell}
use Rattle.cola_cell.specs.declared.cell.Cell.TheVariants as cell
use Rattle.cola_cell.specs.Cell as parts
use Rattle.cola_cell.specs.Packed.{item_of}
use Rattle.cola_cell.specs.Held.{Stamped, as_cell, as_item}
use Rattle.cola_cell.specs.Order.{key_cmp}
use Rattle.cola_look.specs.Seek.{seat_at, as_seat}

-- two keys tie in both orders
pub swapped : (a b : List ℕ) → is_eq (key_cmp a b) ≡ is_eq (key_cmp b a)
swapped a b =
    ap is_eq (nat_list_cmp_total.antisymm a b) ∙ by_ordering (λ r. is_eq (ordering_reverse r) ≡ is_eq r) refl refl refl (slice_cmp nat_cmp b a)

hit_at : (item : Item) (b x : Bool) → x ≡ b → cond b (Some (as_item item)) None ≡ cond x (Some (as_item item)) None
hit_at item b x e = ap (λ (y : Bool). cond y (Some (as_item item)) None) (sym e)

-- a cell of the key that is sought
pub seat_of_hit : (key : List ℕ) (i : ℕ) (c : Cell) (hit : Option Item) (link : ℕ) → is_eq (key_cmp (parts.key_of c) key) ≡ true → hit ≡ item_of c → link ≡ parts.link_of c →
    as_seat (record { pos = i; hit = hit; link = link }) ≡ seat_at key i (as_cell c)
seat_of_hit key i (cell.Item k item young l) hit link e is_hit is_link =
    rw (is_hit, is_link) (ap (λ (h : Option (laws.Item Stamped)). record { pos = i; hit = h; link = l }) (hit_at item true (is_eq (key_cmp key k)) (swapped key k ∙ e)))
seat_of_hit key i (cell.Look k l) hit link e is_hit is_link = rw (is_hit, is_link) refl

-- a cell of another key
pub seat_of_miss : (key : List ℕ) (i : ℕ) (c : Cell) (hit : Option Item) (link : ℕ) → is_eq (key_cmp (parts.key_of c) key) ≡ false → hit ≡ None → link ≡ parts.link_of c →
    as_seat (record { pos = i; hit = hit; link = link }) ≡ seat_at key i (as_cell c)
seat_of_miss key i (cell.Item k item young l) hit link e is_hit is_link =
    rw (is_hit, is_link) (ap (λ (h : Option (laws.Item Stamped)). record { pos = i; hit = h; link = l }) (hit_at item false (is_eq (key_cmp key k)) (swapped key k ∙ e)))
seat_of_miss key i (cell.Look k l) hit link e is_hit is_link = rw (is_hit, is_link) refl
