-- What is told of a place: of one in the front, one in a tail, and one on the device.
use Rattle.std.proofs.Common.{◌∙◌, arith, ◌%◌, eq-eqb, ◌≡◌, inl, inr, ℕ, ◌+◌, ◌/◌, ◌<◌, ◌≤◌, ◌==◌, nat_lt, ◌&&◌, Bool, true, false, if◌then◌else◌, List, Option, None, Some, IfSome, is_some, refl, sym, ap}
use Rattle.std.proofs.lemmas.Bool.{and_parts, cond-false, cond-true, eqb-true, false≢true, false_from_ne_true, ltb-true, lt-ltb, le-ltb, cases_lt}
use Rattle.cola_outside.specs.Told.{Both}
use Rattle.cola_cell.specs.declared.cell.Cell.{Cell}
use Rattle.cola_cell.specs.declared.sink.Shadow.{Shadow}
use Rattle.cola_cell.specs.Decoded.{spot_of_bytes}
use Rattle.cola_cell.specs.Flat.{spot_of, shadow_at, is_place}
use Rattle.cola_cell.specs.Held.{Spot, LawCell, Untold, Bad, Told, is_untold, with_cell}
use Rattle.cola_cell.specs.Places.{slot_size, number_of, IsPlace}
use Rattle.cola_cell.proofs.DecodedLemmas.{spot_is_told}
use Rattle.cola_front.specs.Front.{FrontCells, cell_at, cell_bytes}
use Rattle.cola_layout.specs.declared.geometry.Geometry.{Geometry}
use Rattle.cola_run.proofs.Numbers.{first-place}
use Rattle.cola_run.specs.Cells.{block_cells, tail_number, is_in_tail, device_cell, Lower, Cells, standing_spot, known_spot, told_spot, spots_of, cells_by}

-- a choice by a test that is true, and by one that is false
pub choose-then : {A : Type 0} (t : Bool) (x y : A) → t ≡ true → (if t then x else y) ≡ x
choose-then t x y e = cond-true t x y e

pub choose-else : {A : Type 0} (t : Bool) (x y : A) → t ≡ false → (if t then x else y) ≡ y
choose-else t x y e = cond-false t x y e

-- what is so of every content is so of one that is told
pub if-told : {A : Type 0} {P : A → Type 0} (x : Option A) → ((a : A) → P a) → IfSome x P
if-told None f = tt
if-told (Some a) f = f a

-- what is so of two contents that are not told, and of two that are and stand in a relation, is so where both are told or neither
pub both-all : {A B : Type 0} (P : A → B → Type 0) (Q : Option A → Option B → Type 0) → Q None None → ((x : A) (y : B) → P x y → Q (Some x) (Some y)) → (a : Option A) (b : Option B) → Both a b P → Q a b
both-all P Q n f None None h = n
both-all P Q n f None (Some y) h = absurd h
both-all P Q n f (Some x) None h = absurd h
both-all P Q n f (Some x) (Some y) h = f x y h

-- a relation of two told contents that follows from another
pub both-so : {A B : Type 0} (a : Option A) (b : Option B) (P Q : A → B → Type 0) → ((x : A) (y : B) → P x y → Q x y) → Both a b P → Both a b Q
both-so a b P Q f h = both-all P (λ x y. Both x y Q) tt f a b h

-- a content that is told again
pub both-same : {A : Type 0} (a : Option A) (P : A → A → Type 0) → ((x : A) → P x x) → Both a a P
both-same None P f = tt
both-same (Some x) P f = f x

-- relations of told contents, one behind the other
pub both-two : {A B C : Type 0} (x : Option A) (y : Option B) (z : Option C) (P : A → B → Type 0) (Q : B → C → Type 0) (R : A → C → Type 0)
    → ((a : A) (b : B) (c : C) → P a b → Q b c → R a c) → Both x y P → Both y z Q → Both x z R
both-two None None None P Q R f h k = tt
both-two None None (Some c) P Q R f h k = absurd k
both-two None (Some b) z P Q R f h k = absurd h
both-two (Some a) None z P Q R f h k = absurd h
both-two (Some a) (Some b) None P Q R f h k = absurd k
both-two (Some a) (Some b) (Some c) P Q R f h k = f a b c h k

-- a place of the tail
pub record IsInTail (span : ℕ) (shadow : Shadow) (slot index : ℕ) : Type 0 where
  pub slot_is : slot ≡ shadow.slot
  pub block_is : index / span ≡ shadow.len / span
  pub within : index < shadow.len

pub in-tail : (span : ℕ) (shadow : Shadow) (slot index : ℕ) → is_in_tail span shadow slot index ≡ true → IsInTail span shadow slot index
in-tail span shadow slot index e =
    let h = and_parts (slot == shadow.slot && index / span == shadow.len / span) (nat_lt index shadow.len) e in
    let k = and_parts (slot == shadow.slot) (index / span == shadow.len / span) h.0 in
    record { slot_is = eqb-true slot shadow.slot k.0; block_is = eqb-true (index / span) (shadow.len / span) k.1; within = ltb-true index shadow.len h.1 }

pub tail-is : (span : ℕ) (shadow : Shadow) (slot index : ℕ) → IsInTail span shadow slot index → is_in_tail span shadow slot index ≡ true
tail-is span shadow slot index p = rw (eq-eqb slot shadow.slot p.slot_is, eq-eqb (index / span) (shadow.len / span) p.block_is, lt-ltb index shadow.len p.within) refl

pub tail-not : (span : ℕ) (shadow : Shadow) (slot index : ℕ) → (IsInTail span shadow slot index → ⊥) → is_in_tail span shadow slot index ≡ false
tail-not span shadow slot index d = false_from_ne_true (is_in_tail span shadow slot index) (λ e. d (in-tail span shadow slot index e))

-- a shadow that ends with a block has none
pub no-tail : (span : ℕ) (shadow : Shadow) (slot index : ℕ) → 0 < span → shadow.len % span ≡ 0 → IsInTail span shadow slot index → ⊥
no-tail span shadow slot index some ends p = omega (arith, p.within, first-place span index shadow.len some p.block_is ends)

-- the bytes of a cell of a level on the device
module _ (g : Geometry) (shadows : List Shadow) (tails bytes : List ℕ) (l s i : ℕ) where
  pub device-in : IsInTail (block_cells g) (shadow_at shadows l) s i → device_cell g shadows tails bytes l s i ≡ cell_bytes g.format tails (tail_number g l i)
  device-in p =
      cond-true (is_in_tail (block_cells g) (shadow_at shadows l) s i) (cell_bytes g.format tails (tail_number g l i)) (cell_bytes g.format bytes (number_of l s i))
      (tail-is (block_cells g) (shadow_at shadows l) s i p)

  pub device-out : (IsInTail (block_cells g) (shadow_at shadows l) s i → ⊥) → device_cell g shadows tails bytes l s i ≡ cell_bytes g.format bytes (number_of l s i)
  device-out d =
      cond-false (is_in_tail (block_cells g) (shadow_at shadows l) s i) (cell_bytes g.format tails (tail_number g l i)) (cell_bytes g.format bytes (number_of l s i))
      (tail-not (block_cells g) (shadow_at shadows l) s i d)

  -- they are these where both ways give these
  pub device-is : (x : List ℕ) → (IsInTail (block_cells g) (shadow_at shadows l) s i → x ≡ cell_bytes g.format tails (tail_number g l i))
      → ((IsInTail (block_cells g) (shadow_at shadows l) s i → ⊥) → x ≡ cell_bytes g.format bytes (number_of l s i)) → x ≡ device_cell g shadows tails bytes l s i
  device-is x inside outside = by-test (is_in_tail (block_cells g) (shadow_at shadows l) s i) refl
    where
      by-test : (t : Bool) → is_in_tail (block_cells g) (shadow_at shadows l) s i ≡ t → x ≡ device_cell g shadows tails bytes l s i
      by-test true e = let p = in-tail (block_cells g) (shadow_at shadows l) s i e in inside p ∙ sym (device-in p)
      by-test false e =
          let d : IsInTail (block_cells g) (shadow_at shadows l) s i → ⊥ = λ p. false≢true (sym e ∙ tail-is (block_cells g) (shadow_at shadows l) s i p) in outside d ∙ sym (device-out d)

-- the test of a place
pub place-of : (levels l s i : ℕ) → is_place levels l s i ≡ true → IsPlace levels l s i
place-of levels l s i e =
    let h = and_parts (nat_lt l levels && nat_lt s 2) (nat_lt i (slot_size l)) e in
    let k = and_parts (nat_lt l levels) (nat_lt s 2) h.0 in
    record { level_in = ltb-true l levels k.0; slot_in = ltb-true s 2 k.1; index_in = ltb-true i (slot_size l) h.1 }

pub place-so : (levels l s i : ℕ) → IsPlace levels l s i → is_place levels l s i ≡ true
place-so levels l s i p = rw (lt-ltb l levels p.level_in, lt-ltb s 2 p.slot_in, lt-ltb i (slot_size l) p.index_in) refl

-- what is told of a place, where its device has these bytes
pub spot-there : (cells : Cells) (bytes : List ℕ) (l s i : ℕ) → IsPlace (cells.geometry.bottom + 1) l s i → known_spot cells bytes l s i ≡ standing_spot cells bytes l s i
spot-there cells bytes l s i p = cond-true (is_place (cells.geometry.bottom + 1) l s i) (standing_spot cells bytes l s i) Bad (place-so (cells.geometry.bottom + 1) l s i p)

pub spot-front : (cells : Cells) (bytes : List ℕ) (l s i : ℕ) → l + 2 < cells.geometry.block_exp → standing_spot cells bytes l s i ≡ spot_of (cell_at cells.front (number_of l s i))
spot-front cells bytes l s i low =
    cond-true (nat_lt (l + 2) cells.geometry.block_exp) (spot_of (cell_at cells.front (number_of l s i)))
    (spot_of_bytes cells.geometry.format (device_cell cells.geometry cells.lower.shadows cells.lower.tails bytes l s i)) (lt-ltb (l + 2) cells.geometry.block_exp low)

pub spot-device : (cells : Cells) (bytes : List ℕ) (l s i : ℕ) → cells.geometry.block_exp ≤ l + 2 →
    standing_spot cells bytes l s i ≡ spot_of_bytes cells.geometry.format (device_cell cells.geometry cells.lower.shadows cells.lower.tails bytes l s i)
spot-device cells bytes l s i high =
    cond-false (nat_lt (l + 2) cells.geometry.block_exp) (spot_of (cell_at cells.front (number_of l s i)))
    (spot_of_bytes cells.geometry.format (device_cell cells.geometry cells.lower.shadows cells.lower.tails bytes l s i)) (le-ltb (l + 2) cells.geometry.block_exp high)

-- what is told of a place stays where its cell in the front, or its bytes below that, do
module _ (g : Geometry) (front now : FrontCells) (old new : Lower) (l s i : ℕ)
    (fronts : IsPlace (g.bottom + 1) l s i → l + 2 < g.block_exp → cell_at now (number_of l s i) ≡ cell_at front (number_of l s i)) where
  abbrev before-cells : Cells
  before-cells = record { geometry = g; front = front; lower = old }

  abbrev now-cells : Cells
  now-cells = record { geometry = g; front = now; lower = new }

  known-stays : (b c : List ℕ) → (IsPlace (g.bottom + 1) l s i → g.block_exp ≤ l + 2 → device_cell g new.shadows new.tails c l s i ≡ device_cell g old.shadows old.tails b l s i) →
      known_spot now-cells c l s i ≡ known_spot before-cells b l s i
  known-stays b c lowers = by-test (is_place (g.bottom + 1) l s i) refl
    where
      standing : IsPlace (g.bottom + 1) l s i → standing_spot now-cells c l s i ≡ standing_spot before-cells b l s i
      standing p = elim (cases_lt (l + 2) g.block_exp) [
        | inl low ↦ spot-front now-cells c l s i low ∙ ap (λ (x : Option Cell). spot_of x) (fronts p low) ∙ sym (spot-front before-cells b l s i low)
        | inr high ↦ spot-device now-cells c l s i high ∙ ap (λ (x : List ℕ). spot_of_bytes g.format x) (lowers p high) ∙ sym (spot-device before-cells b l s i high)
      ]

      by-test : (t : Bool) → is_place (g.bottom + 1) l s i ≡ t → known_spot now-cells c l s i ≡ known_spot before-cells b l s i
      by-test true e = let p = place-of (g.bottom + 1) l s i e in spot-there now-cells c l s i p ∙ standing p ∙ sym (spot-there before-cells b l s i p)
      by-test false e =
          cond-false (is_place (g.bottom + 1) l s i) (standing_spot now-cells c l s i) Bad e ∙ sym (cond-false (is_place (g.bottom + 1) l s i) (standing_spot before-cells b l s i) Bad e)

  pub spots-stay : Both old.told new.told (λ b c. IsPlace (g.bottom + 1) l s i → g.block_exp ≤ l + 2 → device_cell g new.shadows new.tails c l s i ≡ device_cell g old.shadows old.tails b l s i) →
      spots_of (cells_by g now new) l s i ≡ spots_of (cells_by g front old) l s i
  spots-stay h =
      both-all (λ b c. IsPlace (g.bottom + 1) l s i → g.block_exp ≤ l + 2 → device_cell g new.shadows new.tails c l s i ≡ device_cell g old.shadows old.tails b l s i)
      (λ x y. told_spot now-cells y l s i ≡ told_spot before-cells x l s i) refl known-stays old.told new.told h

-- a place is told where the device tells its bytes, and only there
front-told : (c : Option Cell) → is_untold (spot_of c) ≡ false
front-told None = refl
front-told (Some c) = refl

standing-told : (cells : Cells) (bytes : List ℕ) (l s i : ℕ) (t : Bool) →
    is_untold (if t then spot_of (cell_at cells.front (number_of l s i)) else spot_of_bytes cells.geometry.format (device_cell cells.geometry cells.lower.shadows cells.lower.tails bytes l s i)) ≡ false
standing-told cells bytes l s i true = front-told (cell_at cells.front (number_of l s i))
standing-told cells bytes l s i false = spot_is_told cells.geometry.format (device_cell cells.geometry cells.lower.shadows cells.lower.tails bytes l s i)

known-by : (cells : Cells) (bytes : List ℕ) (l s i : ℕ) (t : Bool) → is_untold (if t then standing_spot cells bytes l s i else Bad) ≡ false
known-by cells bytes l s i true = standing-told cells bytes l s i (nat_lt (l + 2) cells.geometry.block_exp)
known-by cells bytes l s i false = refl

pub known-told : (cells : Cells) (bytes : List ℕ) (l s i : ℕ) → is_untold (known_spot cells bytes l s i) ≡ false
known-told cells bytes l s i = known-by cells bytes l s i (is_place (cells.geometry.bottom + 1) l s i)

pub telling-is : (old new : Cells) (P : List ℕ → List ℕ → Type 0) → Both old.lower.told new.lower.told P → (l s i : ℕ) → is_untold (spots_of new l s i) ≡ is_untold (spots_of old l s i)
telling-is old new P h l s i =
    both-all P (λ x y. is_untold (told_spot new y l s i) ≡ is_untold (told_spot old x l s i)) refl (λ b c _. known-told new c l s i ∙ sym (known-told old b l s i)) old.lower.told new.lower.told h

-- what is so of a told content, beside a relation to another
pub both-with : {A B : Type 0} (a : Option A) (b : Option B) (Q : A → Type 0) (P : A → B → Type 0) → IfSome a Q → Both a b P → Both a b (λ x y. Q x × P x y)
both-with a b Q P q h = both-all P (λ x y. IfSome x Q → Both x y (λ x y. Q x × P x y)) (λ _. tt) (λ x y p q. (q, p)) a b h q

-- what follows of the second of two told contents
pub both-second : {A B : Type 0} (a : Option A) (b : Option B) (P : A → B → Type 0) (Q : B → Type 0) → ((x : A) (y : B) → P x y → Q y) → Both a b P → IfSome b Q
both-second a b P Q f h = both-all P (λ x y. IfSome y Q) tt f a b h

-- a cell that is put in a place that is told
pub with-told : (x : Spot) (c : LawCell) → is_untold x ≡ false → Told c ≡ with_cell x c
with-told Untold c e = absurd (false≢true (sym e))
with-told Bad c e = refl
with-told (Told b) c e = refl

pub told-there : (cells : Cells) → is_some cells.lower.told ≡ true → (l s i : ℕ) → is_untold (spots_of cells l s i) ≡ false
told-there cells told l s i = by-case cells.lower.told told
  where
    by-case : (x : Option (List ℕ)) → is_some x ≡ true → is_untold (told_spot cells x l s i) ≡ false
    by-case None e = absurd (false≢true e)
    by-case (Some bytes) e = known-told cells bytes l s i
