-- Blocks that are left of a run.
use Rattle.std.proofs.Common.{◌≡◌, ◌≢◌, ◌⊎◌, inl, inr, ℕ, suc, ◌+◌, ◌-◌, ◌*◌, ◌/◌, ◌^◌, ◌<◌, ◌≤◌, Bool, true, false, ◌&&◌, ◌==◌, nat_lt, if◌then◌else◌, Option, Some, None, refl, ap, sym, subst, ◌∙◌, arith}
use Rattle.std.proofs.lemmas.Bool.{true≢false, false_from_ne_true, and_parts, eqb-true, eq-eqb, ltb-true, lt-ltb}
use Rattle.std.specs.Cmp.Derive.{both_true}
use Rattle.std.proofs.lemmas.Bool.Decides.{eqb_tells}
use Rattle.std.proofs.lemmas.Nat.{le-div, div_below, div-mul-add}
use Rattle.std.proofs.Math.Nat.{div-mul-le_self, lt-mul-div-succ, div-div-eq-div-mul}
use Rattle.cola_cell.specs.declared.cell.Run.{Run}
use Rattle.cola_cell.specs.Places.{slot_size, Block}
use Rattle.cola_merge.specs.Blocks.{is_last, groups, run_left}

-- 1 where it holds
abbrev pub one_if : Bool → ℕ
one_if b = if b then 1 else 0

-- ---- quotients

pub div-next_at_most : (n k : ℕ) → 0 < k → (n + 1) / k ≤ n / k + 1
div-next_at_most n k h =
    let e : n < k * (n / k + 1) = lt-mul-div-succ n h in
    let d : (n / k + 2) * k ≡ k * (n / k + 1) + k = grind arith in
    let f : (n + 1) / k < n / k + 2 = div_below (n + 1) k (n / k + 2) h (omega (arith, e, d, h)) in
    omega (arith, f)

pub div-mono : (m n k : ℕ) → 0 < k → m ≤ n → m / k ≤ n / k
div-mono m n k h l = let e : m / k * k ≤ m = div-mul-le_self m k in le-div (m / k) n k h (omega (arith, e, l))

-- the block of a sampled cell is that of its cursor, by eights
pub sampled_block : (i d : ℕ) → (8 * i + 7) / (8 * 2 ^ d) ≡ i / 2 ^ d
sampled_block i d =
    let e : i * 8 + 7 ≡ 8 * i + 7 = omega arith in
    let f : (i * 8 + 7) / 8 ≡ i = div-mul-add i 8 7 (omega arith) in
    sym (div-div-eq-div-mul (8 * i + 7) 8 (2 ^ d)) ∙ ap (λ (x : ℕ). x / 8 / 2 ^ d) (sym e) ∙ ap (λ (x : ℕ). x / 2 ^ d) f

-- ---- the block that was read last

-- the block that was read last is the one of its level, slot and number
pub last_is : (last : Option Block) (l s k : ℕ) → is_last last l s k ≡ true → last ≡ Some (record { level = l; slot = s; number = k })
last_is None l s k e = absurd (true≢false (sym e))
last_is (Some b) l s k e =
    let p = and_parts (b.level == l) ((b.slot == s) && (b.number == k)) e in
    let q = and_parts (b.slot == s) (b.number == k) p.1 in
    ap (λ (x : ℕ). Some (record { level = x; slot = b.slot; number = b.number })) (eqb-true b.level l p.0)
    ∙ ap (λ (x : ℕ). Some (record { level = l; slot = x; number = b.number })) (eqb-true b.slot s q.0)
    ∙ ap (λ (x : ℕ). Some (record { level = l; slot = s; number = x })) (eqb-true b.number k q.1)

pub is_last-block : (l s k : ℕ) → is_last (Some (record { level = l; slot = s; number = k })) l s k ≡ true
is_last-block l s k = both_true (eq-eqb l l refl) (both_true (eq-eqb s s refl) (eq-eqb k k refl))

-- a block of another slot is not the one
pub is_last-other : (b : Block) (l s k : ℕ) → (l ≢ b.level) ⊎ (s ≢ b.slot) → is_last (Some b) l s k ≡ false
is_last-other b l s k d = false_from_ne_true (is_last (Some b) l s k) (λ e.
    let p = and_parts (b.level == l) ((b.slot == s) && (b.number == k)) e in
    elim d [ inl f ↦ f (sym (eqb-true b.level l p.0)) | inr f ↦ f (sym (eqb-true b.slot s (and_parts (b.slot == s) (b.number == k) p.1).0)) ])

-- ---- groups

groups-some : (size first end : ℕ) → first < end → groups size first end ≡ (end - 1) / size - first / size + 1
groups-some size first end h = ap (λ (b : Bool). if b then (end - 1) / size - first / size + 1 else 0) (lt-ltb first end h)

groups-none : (size first end : ℕ) → end ≤ first → groups size first end ≡ 0
groups-none size first end h =
    ap (λ (b : Bool). if b then (end - 1) / size - first / size + 1 else 0) (false_from_ne_true (nat_lt first end) (λ e. let l : first < end = ltb-true first end e in omega (arith, l, h)))

-- a cell that is left lies in a block that is left
pub groups-pos : (size first end : ℕ) → first < end → 1 ≤ groups size first end
groups-pos size first end h = let e : groups size first end ≡ (end - 1) / size - first / size + 1 = groups-some size first end h in omega (arith, e)

-- ---- one read

read_by : (g o n : ℕ) (x y : Bool) → 1 ≤ g → n ≤ o + 1 → (x ≡ true → (n ≡ o) × (y ≡ true)) → (o < n → y ≡ true) → n + (g - one_if y) ≤ o + (g - one_if x)
read_by g o n true true p r s m = let e : n ≡ o = (s refl).0 in omega (arith, e)
read_by g o n true false p r s m = absurd (true≢false (sym (s refl).1))
read_by g o n false true p r s m = omega (arith, p, r)
read_by g o n false false p r s m = not_more (λ h. true≢false (sym (m h)))
  where
    not_more : (o < n → ⊥) → n + (g - 0) ≤ o + (g - 0)
    not_more h = omega (arith, h)

small_by : (b : Bool) (o n g h : ℕ) → (b ≡ true → n ≡ o) → (b ≡ false → n + g ≤ o + h) → n + (if b then 0 else g) ≤ o + (if b then 0 else h)
small_by true o n g h s m = let e : n ≡ o = s refl in omega (arith, e)
small_by false o n g h s m = m refl

-- a read of the cell at the cursor takes as many blocks as it turns to
pub read_left : (span : ℕ) (before now : Option Block) (run : Run) (size end at o n : ℕ) → at < end → n ≤ o + 1 →
    (slot_size run.level < span → n ≡ o) →
    (before ≡ Some (record { level = run.level; slot = run.slot; number = at / size }) → (n ≡ o) × (now ≡ before)) →
    (o < n → now ≡ Some (record { level = run.level; slot = run.slot; number = at / size })) →
    n + run_left span now run size end at ≤ o + run_left span before run size end at
read_left span before now run size end at o n h r small same moves =
    let b : Block = record { level = run.level; slot = run.slot; number = at / size } in
    small_by (nat_lt (slot_size run.level) span) o n
    (groups size at end - one_if (is_last now run.level run.slot (at / size))) (groups size at end - one_if (is_last before run.level run.slot (at / size)))
    (λ e. small (ltb-true (slot_size run.level) span e))
    (λ _. read_by (groups size at end) o n (is_last before run.level run.slot (at / size)) (is_last now run.level run.slot (at / size)) (groups-pos size at end h) r
    (λ e. let i : before ≡ Some b = last_is before run.level run.slot (at / size) e in
    ((same i).0, subst (λ (x : Option Block). is_last x run.level run.slot (at / size) ≡ true) (sym ((same i).1 ∙ i)) (is_last-block run.level run.slot (at / size))))
    (λ m. subst (λ (x : Option Block). is_last x run.level run.slot (at / size) ≡ true) (sym (moves m)) (is_last-block run.level run.slot (at / size))))

-- ---- one cell consumed

one_small : (b : Bool) → one_if b ≤ 1
one_small true = omega arith
one_small false = omega arith

next_by : (g h : ℕ) (x y : Bool) → (h ≡ g → y ≡ x) → (h ≡ g) ⊎ (suc h ≡ g) ⊎ (h ≡ 0) → h - one_if y ≤ g - one_if x
next_by g h x y s (inl e) = subst (λ (z : Bool). h - one_if z ≤ g - one_if x) (sym (s e)) (omega (arith, e))
next_by g h x y s (inr (inl e)) = let a = one_small x in omega (arith, e, a)
next_by g h x y s (inr (inr e)) = omega (arith, e)

near : (a b : ℕ) → a ≤ b → b ≤ a + 1 → (b ≡ a) ⊎ (b ≡ a + 1)
near a b h k = elim (eqb_tells b a) [ inl e ↦ inl e.1 | inr e ↦ inr (let d : b ≢ a = e.1 in omega (arith, h, k, d)) ]

-- how the groups that are left change
groups-next : (size at end : ℕ) → 0 < size → at < end → (groups size (at + 1) end ≡ groups size at end → (at + 1) / size ≡ at / size)
    × ((groups size (at + 1) end ≡ groups size at end) ⊎ (suc (groups size (at + 1) end) ≡ groups size at end) ⊎ (groups size (at + 1) end ≡ 0))
groups-next size at end p h = elim (eqb_tells (at + 1) end) [
  | inl e ↦
      let g0 : groups size (at + 1) end ≡ 0 = groups-none size (at + 1) end (let f : at + 1 ≡ end = e.1 in omega (arith, f)) in
      (λ f. let g = groups-pos size at end h in absurd (omega (arith, f, g, g0)), inr (inr g0))
  | inr e ↦
      let ne : at + 1 ≢ end = e.1 in
      let l : at + 1 < end = omega (arith, h, ne) in
      let g0 : groups size at end ≡ (end - 1) / size - at / size + 1 = groups-some size at end h in
      let g1 : groups size (at + 1) end ≡ (end - 1) / size - (at + 1) / size + 1 = groups-some size (at + 1) end l in
      let m : (at + 1) / size ≤ (end - 1) / size = div-mono (at + 1) (end - 1) size p (omega (arith, l)) in
      elim (near (at / size) ((at + 1) / size) (div-mono at (at + 1) size p (omega arith)) (div-next_at_most at size p)) [
        | inl f ↦ (λ _. f, inl (omega (arith, g0, g1, f)))
        | inr f ↦ (λ k. absurd (omega (arith, g0, g1, f, m, k)), inr (inl (omega (arith, g0, g1, f, m))))
      ]
]

-- a consumed cell leaves no more blocks
pub run_left-next : (span : ℕ) (last : Option Block) (run : Run) (size end at : ℕ) → 0 < size → at < end → run_left span last run size end (at + 1) ≤ run_left span last run size end at
run_left-next span last run size end at p h =
    let k = groups-next size at end p h in
    let l = next_by (groups size at end) (groups size (at + 1) end) (is_last last run.level run.slot (at / size)) (is_last last run.level run.slot ((at + 1) / size))
    (λ e. ap (λ (n : ℕ). is_last last run.level run.slot n) (k.0 e)) k.1 in
    let m = small_by (nat_lt (slot_size run.level) span) 0 0
    (groups size (at + 1) end - one_if (is_last last run.level run.slot ((at + 1) / size))) (groups size at end - one_if (is_last last run.level run.slot (at / size)))
    (λ _. refl) (λ _. omega (arith, l)) in omega (arith, m)

-- ---- another block that was read last

pub run_left-same : (span : ℕ) (before now : Option Block) (run : Run) (size end at : ℕ) → is_last now run.level run.slot (at / size) ≡ is_last before run.level run.slot (at / size) →
    run_left span now run size end at ≡ run_left span before run size end at
run_left-same span before now run size end at e = ap (λ (b : Bool). if nat_lt (slot_size run.level) span then 0 else groups size at end - one_if b) e
