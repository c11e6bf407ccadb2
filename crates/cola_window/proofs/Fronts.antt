-- The fronts of windows.
use Rattle.std.proofs.Common.{◌≡◌, ℕ, ◌+◌, ◌-◌, ◌≤◌, ◌<◌, nat_le, Bool, true, false, List, ◌++◌, length, take, drop, Option, Some, None, refl, ap, sym, subst, ◌∙◌, arith}
use Rattle.std.proofs.lemmas.Bool.{true≢false, leb-true, le-leb}
use Rattle.std.proofs.lemmas.Slice.{take-put_mid}
use Rattle.std.proofs.lemmas.List.{drop-take, length-take-le}
use Rattle.std.proofs.Math.Seq.{drop-append_seam}
use borrow.Rule.Slice.PartMut.{put_mid}
use Rattle.cola_cell.specs.declared.cell.Cell.{Cell}
use Rattle.cola_cell.specs.declared.format.Format.{Format}
use Rattle.cola_cell.specs.Format.{width}
use Rattle.cola_cell.specs.Decoded.{standing}
use Rattle.cola_cell.specs.Spelling.{IsSpelling}
use Rattle.std.proofs.Common.{cond}
use Rattle.std.specs.Option.{option_map}
use Rattle.std.specs.declared.cmp.Ordering.{Ordering}
use Rattle.std.specs.declared.cmp.Ordering.TheVariants.{Less, Equal, Greater}
use Rattle.cola_cell.specs.Cell.{key_of}
use Rattle.cola_cell.specs.Order.{key_cmp}
use Rattle.cola_cell.specs.Held.{as_cell}
use Rattle.cola_runs.specs.Steps as laws
use Rattle.cola_runs.specs.Cells as cells
use Rattle.cola_runs.specs.Steps.{Take, emitted, item_or_look, least, skips_own, skips_incoming}
use Rattle.cola_runs.specs.Weave.{Part}
use Rattle.std.specs.Ordering.{is_gt, match_ordering}
use Rattle.cola_cell.specs.declared.cell.Cell.TheVariants as cell
use Rattle.cola_cell.specs.declared.cell.Reader.{Reader}
use Rattle.cola_window.specs.declared.windows.Rules.{Rules}
use Rattle.cola_window.specs.declared.windows.Act.{Act}
use Rattle.cola_window.specs.declared.windows.Does.{Does}
use Rattle.cola_window.specs.Windows.{front_cell, above_front, Spells, ActSuits, Suits, pick, as_head, as_action, part_of, ActsLeast, ActsLook, PassesOn, pass_of, emitted_of, asked}

-- a window with a front
pub front_is : (f : Format) (w : List ℕ) (b : Bool) → b ≡ nat_le (width f) (length w) → b ≡ true → front_cell f w ≡ Some (standing f (take (width f) w))
front_is f w b e h = let k : nat_le (width f) (length w) ≡ true = sym e ∙ h in rw k refl

pub front_by : (f : Format) (w : List ℕ) (b : Bool) (cell : List ℕ) → b ≡ nat_le (width f) (length w) → b ≡ true → cell ≡ take (width f) w → front_cell f w ≡ Some (standing f cell)
front_by f w b cell e h k = front_is f w b e h ∙ ap (λ (x : List ℕ). Some (standing f x)) (sym k)

pub no_front : (f : Format) (w : List ℕ) (b : Bool) → b ≡ nat_le (width f) (length w) → b ≡ false → front_cell f w ≡ None
no_front f w b e h = let k : nat_le (width f) (length w) ≡ false = sym e ∙ h in rw k refl

pub long_front : (f : Format) (w : List ℕ) (b : Bool) → b ≡ nat_le (width f) (length w) → b ≡ true → width f ≤ length w
long_front f w b e h = leb-true (width f) (length w) (sym e ∙ h)

-- the bytes of a front are a cell's
pub spelled : (f : Format) (w : List ℕ) (b : Bool) (cell : List ℕ) → b ≡ nat_le (width f) (length w) → b ≡ true → cell ≡ take (width f) w → (width f ≤ length w → Spells f (take (width f) w)) → Spells f cell
spelled f w b cell e h k s = subst (Spells f) (sym k) (s (long_front f w b e h))

-- a cell above a front is above one that is there
pub above_some : (c : Cell) (z : Option Cell) {P : Type 0} → above_front c z ≡ true → ((next : Cell) → z ≡ Some next → P) → P
above_some c None h k = absurd (true≢false (sym h))
above_some c (Some next) h k = k next refl

-- what was put into a room
pub put_part : (at n : ℕ) (room new : List ℕ) → at + n ≤ length room → length new ≡ n → take n (drop at (put_mid at (at + n - at) room new)) ≡ new
put_part at n room new h e =
    sym (drop-take at n (put_mid at (at + n - at) room new))
    ∙ ap (drop at) (take-put_mid at (at + n - at) room new (at + n) (omega arith) (omega arith))
    ∙ ap (λ (k : ℕ). drop k (take at room ++ new)) (sym (length-take-le at room (omega arith)))
    ∙ drop-append_seam (take at room) new

pub cond_true : {A : Type 0} (b : Bool) (x y : A) → b ≡ true → cond b x y ≡ x
cond_true b x y h = rw h refl

pub cond_false : {A : Type 0} (b : Bool) (x y : A) → b ≡ false → cond b x y ≡ y
cond_false b x y h = rw h refl

-- the key of a cell is that which the laws have
pub key_of-as_cell : (c : Cell) → key_of c ≡ cells.key_of (as_cell c)
key_of-as_cell (cell.Item key item young link) = refl
key_of-as_cell (cell.Look key link) = refl

keys_order : (c d : Cell) → key_cmp (cells.key_of (as_cell c)) (cells.key_of (as_cell d)) ≡ key_cmp (key_of c) (key_of d)
keys_order c d = ap (λ (k : List ℕ). key_cmp k (cells.key_of (as_cell d))) (sym (key_of-as_cell c)) ∙ ap (key_cmp (key_of c)) (sym (key_of-as_cell d))

-- of two fronts, the rule by the order of their keys
pub least_is : (o : Ordering) (rules : Rules) (link : ℕ) (x y : Option Cell) (key : Option (List ℕ)) (c d : Cell) → x ≡ Some c → y ≡ Some d → key_cmp (key_of c) (key_of d) ≡ o →
    least key_cmp (part_of rules) link (option_map as_cell x) (option_map as_cell y) key
    ≡ match_ordering o (item_or_look key_cmp (part_of rules) link laws.Own (as_cell c) key) (Take laws.Own None) (item_or_look key_cmp (part_of rules) link laws.Incoming (as_cell d) key)
least_is o rules link x y key c d e f h =
    ap (λ (w : Option Cell). least key_cmp (part_of rules) link (option_map as_cell w) (option_map as_cell y) key) e
    ∙ ap (λ (w : Option Cell). least key_cmp (part_of rules) link (Some (as_cell c)) (option_map as_cell w) key) f
    ∙ ap (λ (r : Ordering). match_ordering r (item_or_look key_cmp (part_of rules) link laws.Own (as_cell c) key) (Take laws.Own None) (item_or_look key_cmp (part_of rules) link laws.Incoming (as_cell d) key)) (keys_order c d ∙ h)

-- a front of the sample that a cell is above is emitted first
pub look_first : (rules : Rules) (link : ℕ) (head : Reader) (c : Cell) (sample : Option Cell) (act : Option Act) (x y z : Option Cell) → above_front c sample ≡ true → z ≡ sample → ActsLook rules link act →
    as_action rules link x y z act ≡ item_or_look key_cmp (part_of rules) link (as_head head) (as_cell c) (option_map key_of sample)
look_first rules link head c None act x y z h e k = absurd (true≢false (sym h))
look_first rules link head c (Some next) act x y z h e k =
    ap (λ (o : Option Cell). as_action rules link x y o act) e ∙ k x y next
    ∙ sym (cond_true (is_gt (key_cmp (cells.key_of (as_cell c)) (key_of next))) (Take laws.Sample (Some (cells.Look (key_of next) link))) (Take (as_head head) (emitted (part_of rules) link (as_head head) (as_cell c)))
    (ap (λ (w : List ℕ). is_gt (key_cmp w (key_of next))) (sym (key_of-as_cell c)) ∙ h))

-- what was put spells the cell, in the room where it was put
pub put_spells : (f : Format) (at n : ℕ) (room new : List ℕ) (c : Cell) → n ≡ width f → at + width f ≤ length room → IsSpelling f c new → IsSpelling f c (take (width f) (drop at (put_mid at (at + n - at) room new)))
put_spells f at n room new c e h s =
    subst (IsSpelling f c) (sym (ap (λ (k : ℕ). take (width f) (drop at (put_mid at (at + k - at) room new))) e ∙ put_part at (width f) room new h s.size)) s

-- a front that is passed over is there
pub skipped_own : (part : Part) (x : Option Cell) {P : Type 0} → skips_own part (option_map as_cell x) ≡ true → ((c : Cell) → x ≡ Some c → P) → P
skipped_own part None h k = absurd (true≢false (sym h))
skipped_own part (Some c) h k = k c refl

pub skipped_new : (x : Option Cell) {P : Type 0} → skips_incoming (option_map as_cell x) ≡ true → ((c : Cell) → x ≡ Some c → P) → P
skipped_new None h k = absurd (true≢false (sym h))
skipped_new (Some c) h k = k c refl

-- an item goes first that is not above the front of the sample
pub item_first : (rules : Rules) (link : ℕ) (head : Reader) (c : Cell) (sample : Option Cell) (does : Does) (x y z : Option Cell) → above_front c sample ≡ false → pick head x y z ≡ Some c → PassesOn rules link head c does →
    as_action rules link x y z (Some (record { head = head; does = does })) ≡ item_or_look key_cmp (part_of rules) link (as_head head) (as_cell c) (option_map key_of sample)
item_first rules link head c sample does x y z h e k =
    ap (λ (o : Option Cell). Take (as_head head) (option_map as_cell (emitted_of (pass_of rules link head does) o))) e ∙ ap (Take (as_head head)) k ∙ sym (first sample h)
  where
    first : (sample : Option Cell) → above_front c sample ≡ false → item_or_look key_cmp (part_of rules) link (as_head head) (as_cell c) (option_map key_of sample) ≡ Take (as_head head) (emitted (part_of rules) link (as_head head) (as_cell c))
    first None h = refl
    first (Some next) h = cond_false (is_gt (key_cmp (cells.key_of (as_cell c)) (key_of next))) (Take laws.Sample (Some (cells.Look (key_of next) link))) (Take (as_head head) (emitted (part_of rules) link (as_head head) (as_cell c)))
        (ap (λ (w : List ℕ). is_gt (key_cmp w (key_of next))) (sym (key_of-as_cell c)) ∙ h)

-- where no front is passed over
pub asked_least : (rules : Rules) (link : ℕ) (x y z : Option Cell) (act : Option Act) → skips_own (part_of rules) (option_map as_cell x) ≡ false → skips_incoming (option_map as_cell y) ≡ false → ActsLeast rules link x y z act →
    as_action rules link x y z act ≡ asked rules link x y z
asked_least rules link x y z act h k e =
    let rest = least key_cmp (part_of rules) link (option_map as_cell x) (option_map as_cell y) (option_map key_of z) in
    e ∙ sym (cond_false (skips_own (part_of rules) (option_map as_cell x)) (Take laws.Own None) (cond (skips_incoming (option_map as_cell y)) (Take laws.Incoming None) rest) h
    ∙ cond_false (skips_incoming (option_map as_cell y)) (Take laws.Incoming None) rest k)
