-- A reader that goes forward turns to at most one block for each group of its places.
use Rattle.std.proofs.Common.{◌≡◌, ◌⊎◌, inl, inr, ℕ, suc, ◌+◌, ◌-◌, ◌*◌, ◌/◌, ◌^◌, ◌≤◌, ◌<◌, ◌==◌, ◌&&◌, Bool, true, false, if◌then◌else◌, Option, None, Some, Result, Ok, refl, sym, ap, ◌∙◌, arith}
use Rattle.std.proofs.Math.Nat.{div-div-eq-div-mul, div-eq_of_lt-le, lt-div-mul-add, div-mul-le_self}
use Rattle.std.proofs.lemmas.Nat.{le-div}
use Rattle.std.proofs.lemmas.Bool.{eqb-true, eq-eqb, cases_order}
use Rattle.cola_cell.specs.declared.cell.Cell.{Cell}
use Rattle.cola_cell.specs.declared.fault.ReadFault.{ReadFault}
use Rattle.cola_cell.specs.Places.{Block, block_of}
use Rattle.cola_cell.specs.Held.{span}
use Rattle.cola_cell.specs.Spent.{Buffer}
use Rattle.cola_cell.specs.State.{State}
use Rattle.cola_cell.specs.Reads.{Reads}
use Rattle.cola_look.specs.Turns.{is_in, turns_left}

-- ---- whole groups

-- the next place is in the same group or in the next one
next_group : (i size : ℕ) → 0 < size → (suc i / size ≡ i / size) ⊎ (suc i / size ≡ suc (i / size))
next_group i size h =
    let low : i / size * size ≤ i = div-mul-le_self i size in
    let high : i < i / size * size + size = lt-div-mul-add h in
    let cases : (suc i < i / size * size + size) ⊎ (suc i ≡ i / size * size + size) = grind arith in
    elim cases [
      | inl x ↦ inl (div-eq_of_lt-le size (omega arith) (let e : (i / size + 1) * size ≡ i / size * size + size = grind arith in omega arith))
      | inr x ↦ inr (div-eq_of_lt-le size (let e : suc (i / size) * size ≡ i / size * size + size = grind arith in omega arith)
          (let e : (suc (i / size) + 1) * size ≡ i / size * size + size + size = grind arith in omega arith))
    ]

-- the group of a place below the end is one of those that are left
some_left : (i end size : ℕ) → 0 < size → i < end → i / size < (end + (size - 1)) / size
some_left i end size h l =
    let low : i / size * size ≤ i = div-mul-le_self i size in
    le-div (suc (i / size)) (end + (size - 1)) size h (let e : suc (i / size) * size ≡ i / size * size + size = grind arith in omega arith)

-- ---- whether a buffer has a block

both_true : (a b : Bool) → (a && b) ≡ true → (a ≡ true) × (b ≡ true)
both_true true true e = (refl, refl)
both_true true false e = cc
both_true false b e = cc

-- a block by its parts
abbrev block_by : ℕ → ℕ → ℕ → Block
block_by l s n = record { level = l; slot = s; number = n }

same_block : (l s n l' s' n' : ℕ) → l ≡ l' → s ≡ s' → n ≡ n' → block_by l s n ≡ block_by l' s' n'
same_block l s n l' s' n' e f g = rw (e, f, g) refl

pub in_is : (block : Block) (last : Option Block) → is_in block last ≡ true → last ≡ Some block
in_is block None e = cc
in_is block (Some b) e =
    let first = both_true ((b.level == block.level) && (b.slot == block.slot)) (b.number == block.number) e in
    let second = both_true (b.level == block.level) (b.slot == block.slot) first.0 in
    let l : b.level ≡ block.level = eqb-true b.level block.level second.0 in
    let s : b.slot ≡ block.slot = eqb-true b.slot block.slot second.1 in
    let n : b.number ≡ block.number = eqb-true b.number block.number first.1 in
    ap Some (same_block b.level b.slot b.number block.level block.slot block.number l s n)

in_itself : (block : Block) → is_in block (Some block) ≡ true
in_itself block = rw (eq-eqb block.level block.level refl, eq-eqb block.slot block.slot refl, eq-eqb block.number block.number refl) refl

-- ---- one read

-- the next place is of the same group
same_group : (t t' most at : ℕ) (x x' : Bool) → at < most → t' ≤ t + 1 → (x ≡ true → (t' ≡ t) × (x' ≡ true)) → (t < t' → x' ≡ true) →
    t' + (most - at - (if x' then 1 else 0)) ≤ t + (most - at - (if x then 1 else 0))
same_group t t' most at true true h r s m = let e = (s refl).0 in omega arith
same_group t t' most at true false h r s m = let e : false ≡ true = (s refl).1 in cc
same_group t t' most at false true h r s m = omega arith
same_group t t' most at false false h r s m =
    let cases : (t < t') ⊎ (t' ≤ t) = grind arith in
    elim cases [ inl k ↦ let e : false ≡ true = m k in cc | inr k ↦ omega arith ]

-- the next place is of the next group
other_group : (t t' most at : ℕ) (x x' : Bool) → at < most → t' ≤ t + 1 → (x ≡ true → t' ≡ t) →
    t' + (most - suc at - (if x' then 1 else 0)) ≤ t + (most - at - (if x then 1 else 0))
other_group t t' most at true true h r s = let e = s refl in omega arith
other_group t t' most at true false h r s = let e = s refl in omega arith
other_group t t' most at false true h r s = omega arith
other_group t t' most at false false h r s = omega arith

-- what an accepted read of a block says of turns
pub record Turned (turned turned' : ℕ) (last last' : Option Block) (block : Block) : Type 0 where
  pub rises : turned' ≤ turned + 1
  pub stays : last ≡ Some block → (turned' ≡ turned) × (last' ≡ last)
  pub moves : turned < turned' → last' ≡ Some block

-- it leaves as many turns fewer as it took
pub turn_once : (turned turned' : ℕ) (last last' : Option Block) (block next : Block) (size i end : ℕ) → 0 < size → i < end →
    (suc i / size ≡ i / size → next ≡ block) → Turned turned turned' last last' block →
    turned' + turns_left last' next size (suc i) end ≤ turned + turns_left last block size i end
turn_once turned turned' last last' block next size i end h l same r =
    let some : i / size < (end + (size - 1)) / size = some_left i end size h l in
    let held : is_in block last ≡ true → (turned' ≡ turned) × (last' ≡ last) = λ e. r.stays (in_is block last e) in
    elim (next_group i size h) [
      | inl e ↦
          let b : next ≡ block = same e in
          rw (e, b) (same_group turned turned' ((end + (size - 1)) / size) (i / size) (is_in block last) (is_in block last') some r.rises
          (λ f. ((held f).0, ap (is_in block) (held f).1 ∙ f)) (λ f. ap (is_in block) (r.moves f) ∙ in_itself block))
      | inr e ↦ rw e (other_group turned turned' ((end + (size - 1)) / size) (i / size) (is_in block last) (is_in next last') some r.rises (λ f. (held f).0))
    ]

-- who goes on and turns to none has no more turns left
pub turns_on : (last : Option Block) (block next : Block) (size i j end : ℕ) → 0 < size → i ≤ j → (j / size ≡ i / size → next ≡ block) → turns_left last next size j end ≤ turns_left last block size i end
turns_on last block next size i j end h l same =
    let low : i / size * size ≤ i = div-mul-le_self i size in
    let more : i / size ≤ j / size = le-div (i / size) j size h (omega (arith, low, l)) in
    elim (cases_order (i / size) (j / size)) [
      | inl e ↦ rw (sym e, same (sym e)) (omega arith)
      | inr d ↦ elim d [
        | inl k ↦ fewer ((end + (size - 1)) / size) (i / size) (j / size) (is_in block last) (is_in next last) k
        | inr k ↦ absurd (omega (arith, more, k))
      ]
    ]
  where
    fewer : (most at to : ℕ) (x y : Bool) → at < to → most - to - (if y then 1 else 0) ≤ most - at - (if x then 1 else 0)
    fewer most at to true true k = omega (arith, k)
    fewer most at to true false k = omega (arith, k)
    fewer most at to false true k = omega (arith, k)
    fewer most at to false false k = omega (arith, k)

-- of an accepted read
pub read_turned : {old new : State} {buffer : Buffer} {level slot index : ℕ} {cell : Cell} → Reads old new buffer level slot index (Ok cell) →
    Turned old.spent.turned new.spent.turned (old.spent.lasts buffer) (new.spent.lasts buffer) (block_of (span old.held) level slot index)
read_turned r = record { rises = r.turned_rises; stays = λ e. ((r.in_last e).turned_is, (r.in_last e).last_is); moves = r.moves }

-- a refused read takes no more turns than are left
refused_turn : (t t' most at : ℕ) (x : Bool) → at < most → t' ≤ t + 1 → (x ≡ true → t' ≡ t) → t' ≤ t + (most - at - (if x then 1 else 0))
refused_turn t t' most at true h r s = let e = s refl in omega arith
refused_turn t t' most at false h r s = omega arith

pub read_within : {old new : State} {buffer : Buffer} {level slot index : ℕ} {result : Result Cell ReadFault} (block : Block) (size i end : ℕ) → 0 < size → i < end →
    Reads old new buffer level slot index result → block ≡ block_of (span old.held) level slot index →
    new.spent.turned ≤ old.spent.turned + turns_left (old.spent.lasts buffer) block size i end
read_within {old} {new} {buffer} block size i end h l r e =
    refused_turn old.spent.turned new.spent.turned ((end + (size - 1)) / size) (i / size) (is_in block (old.spent.lasts buffer)) (some_left i end size h l) r.turned_rises
    (λ f. (r.in_last (in_is block (old.spent.lasts buffer) f ∙ ap Some e)).turned_is)

-- ---- groups of eight

-- the cells of an aligned eight lie in one block
pub eight_in_block : (doublings i j : ℕ) → i / 8 ≡ j / 8 → i / (8 * 2 ^ doublings) ≡ j / (8 * 2 ^ doublings)
eight_in_block doublings i j e = sym (div-div-eq-div-mul i 8 (2 ^ doublings)) ∙ ap (λ n. n / 2 ^ doublings) e ∙ div-div-eq-div-mul j 8 (2 ^ doublings)
