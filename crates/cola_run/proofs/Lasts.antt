-- The blocks that were read last, by their numbers in the file.
use Rattle.std.proofs.Common.{◌≡◌, ◌≢◌, inl, inr, ℕ, zero, suc, ◌+◌, ◌-◌, ◌*◌, ◌/◌, ◌%◌, ◌^◌, ◌<◌, ◌≤◌, ◌==◌, nat_lt, Bool, true, false, if◌then◌else◌, List, [], ◌∷◌, length, map, set, Option, None, Some, refl, sym, ap, subst, ◌∙◌, arith}
use Rattle.std.proofs.Math.Nat.{div-add-mod, mod-lt, mul-le-mul_left, mul_comm}
use Rattle.std.proofs.lemmas.Bool.{cond-false, cond-true, cases_lt, lt-ltb, ltb-false, le-ltb, eqb-true}
use Rattle.std.proofs.lemmas.List.{get_or-set_same, get_or-set_other}
use Rattle.std.proofs.lemmas.Nat.{pow_pos, div-mul-add, mod-mul-add}
use Rattle.cola_cell.specs.declared.cell.Reader.{Reader}
use Rattle.cola_cell.specs.declared.cell.Reader.TheVariants.{Own, Incoming, Sample}
use Rattle.cola_cell.specs.Places.{IsPlace, Block, block_of}
use Rattle.cola_cell.specs.Shadows.{Forgets}
use Rattle.cola_cell.specs.Spent.{Buffer, Search, By, buffer_for}
use Rattle.cola_layout.specs.declared.geometry.Geometry.{Geometry}
use Rattle.cola_layout.specs.Geometry.{IsBlock}
use Rattle.cola_layout.proofs.Powers.{next_power, power-le}
use Rattle.cola_cache.specs.Blocks.{last_in, forgotten}
use Rattle.cola_run.specs.Cells.{IsOnDevice, block_cells, block_number, device_levels}
use Rattle.cola_run.specs.Store.{slot_block, as_block, last_block, last_of, buffer_number, reader_number}
use Rattle.cola_run.specs.Turns.{buffer_index}
use Rattle.cola_run.proofs.Numbers.{block-is, block-within, block-behind}

-- the block of a slot that has a number, by its level, slot and number there
pub slot-block-is : (first more m s r : ℕ) → m ≤ more → s < 2 → r < 2 ^ m → slot_block first more ((2 + s) * 2 ^ m + r) ≡ record { level = first + m; slot = s; number = r }
slot-block-is first zero m s r few slot within =
    let none : m ≡ 0 = omega (arith, few) in
    subst (λ (n : ℕ). r < 2 ^ n → slot_block first zero ((2 + s) * 2 ^ n + r) ≡ record { level = first + n; slot = s; number = r }) (sym none)
    (λ h.
    let rest : r ≡ 0 = omega (arith, h) in
    let slots : (2 + s) * 2 ^ 0 + r - 2 ≡ s = omega (arith, rest) in
    let levels : first ≡ first + 0 = omega arith in
    ap (λ (x : ℕ). record { level = first; slot = x; number = 0 }) slots ∙ ap (λ (x : ℕ). record { level = first; slot = s; number = x }) (sym rest) ∙ ap (λ (x : ℕ). record { level = x; slot = s; number = r }) levels)
    within
slot-block-is first (suc more) m s r few slot within = elim (cases_lt m (suc more)) [
  | inl below ↦
      let more_is : 2 ^ (suc m + 1) ≤ 2 ^ (suc more + 1) = power-le (suc m + 1) (suc more + 1) (omega (arith, below)) in
      let two : (2 + s) * 2 ^ m ≤ 3 * 2 ^ m = elim (cases_lt s 1) [
        | inl h ↦ (let e : s ≡ 0 = omega (arith, h) in rw e (omega arith))
        | inr h ↦ (let e : s ≡ 1 = omega (arith, h, slot) in rw e (omega arith))
      ] in
      let small : (2 + s) * 2 ^ m + r < 2 ^ (suc more + 1) = omega (arith, next_power m (suc m) (omega arith), next_power (suc m) (suc m + 1) (omega arith), more_is, two, within) in
      cond-true (nat_lt ((2 + s) * 2 ^ m + r) (2 ^ (suc more + 1))) (slot_block first more ((2 + s) * 2 ^ m + r))
      (record { level = first + suc more; slot = ((2 + s) * 2 ^ m + r) / 2 ^ suc more - 2; number = ((2 + s) * 2 ^ m + r) % 2 ^ suc more }) (lt-ltb ((2 + s) * 2 ^ m + r) (2 ^ (suc more + 1)) small)
      ∙ slot-block-is first more m s r (omega (arith, below)) slot within
  | inr above ↦
      let e : suc more ≡ m = omega (arith, few, above) in
      subst (λ (n : ℕ). slot_block first (suc more) ((2 + s) * 2 ^ n + r) ≡ record { level = first + n; slot = s; number = r }) e
      (let here : r < 2 ^ suc more = subst (λ (n : ℕ). r < 2 ^ n) (sym e) within in
      let twice : 2 ^ (suc more + 1) ≡ 2 ^ suc more + 2 ^ suc more = next_power (suc more) (suc more + 1) (omega arith) in
      let large : 2 ^ (suc more + 1) ≤ (2 + s) * 2 ^ suc more + r = (let x : (2 + s) * 2 ^ suc more ≡ 2 * 2 ^ suc more + s * 2 ^ suc more = omega arith in omega (arith, twice, x)) in
      let slots : ((2 + s) * 2 ^ suc more + r) / 2 ^ suc more - 2 ≡ s = (let q = div-mul-add (2 + s) (2 ^ suc more) r here in omega (arith, q)) in
      cond-false (nat_lt ((2 + s) * 2 ^ suc more + r) (2 ^ (suc more + 1))) (slot_block first more ((2 + s) * 2 ^ suc more + r))
      (record { level = first + suc more; slot = ((2 + s) * 2 ^ suc more + r) / 2 ^ suc more - 2; number = ((2 + s) * 2 ^ suc more + r) % 2 ^ suc more }) (le-ltb ((2 + s) * 2 ^ suc more + r) (2 ^ (suc more + 1)) large)
      ∙ ap (λ (x : ℕ). record { level = first + suc more; slot = x; number = ((2 + s) * 2 ^ suc more + r) % 2 ^ suc more }) slots
      ∙ ap (λ (x : ℕ). record { level = first + suc more; slot = s; number = x }) (mod-mul-add (2 + s) (2 ^ suc more) r here))
]

-- the number that a block of a slot has in the file
abbrev file-number : ℕ → Block → ℕ
file-number first block = (2 + block.slot) * 2 ^ (block.level - first) + block.number

pub slot-block-back : (first more k : ℕ) → 2 ≤ k → k ≡ file-number first (slot_block first more k)
slot-block-back first zero k behind =
    let none : first - first ≡ 0 = omega arith in
    rw none (omega (arith, behind))
slot-block-back first (suc more) k behind = by-test (nat_lt k (2 ^ (suc more + 1))) refl (slot-block-back first more k behind)
  where
    by-test : (t : Bool) → nat_lt k (2 ^ (suc more + 1)) ≡ t → k ≡ file-number first (slot_block first more k) →
        k ≡ file-number first (if t then slot_block first more k else record { level = first + suc more; slot = k / 2 ^ suc more - 2; number = k % 2 ^ suc more })
    by-test true e below = below
    by-test false e below =
        let large : 2 ^ (suc more + 1) ≤ k = ltb-false k (2 ^ (suc more + 1)) e in
        let twice : 2 ^ (suc more + 1) ≡ 2 ^ suc more + 2 ^ suc more = next_power (suc more) (suc more + 1) (omega arith) in
        let levels : first + suc more - first ≡ suc more = omega arith in
        let i = div-add-mod k (2 ^ suc more) in
        let two : 2 ≤ k / 2 ^ suc more = elim (cases_lt (k / 2 ^ suc more) 2) [
          | inr h ↦ h
          | inl h ↦ absurd (omega (arith, mul-le-mul_left {m = k / 2 ^ suc more} {n = 1} (2 ^ suc more) (omega (arith, h)), i, mod-lt k (pow_pos (suc more)), large, twice))
        ] in
        let up : 2 + (k / 2 ^ suc more - 2) ≡ k / 2 ^ suc more = omega (arith, two) in
        rw (levels, up) (omega (arith, mul_comm (k / 2 ^ suc more) (2 ^ suc more), i))

-- the number of a place's block, and the block
pub block-number-is : (g : Geometry) (l s i : ℕ) → IsBlock g.block_exp g.bottom → g.block_exp ≤ l + 2 → IsPlace (g.bottom + 1) l s i → as_block g (block_number g l s i) ≡ Some (block_of (block_cells g) l s i)
block-number-is g l s i fits high p =
    let low : l < g.bottom + 1 = p.level_in in
    let two : 2 ≤ block_number g l s i = block-behind g.block_exp l s i high in
    let levels : g.block_exp - 2 + (l + 2 - g.block_exp) ≡ l = omega (arith, fits.group, high) in
    cond-false (nat_lt (block_number g l s i) 2) None (Some (slot_block (g.block_exp - 2) (g.bottom + 2 - g.block_exp) (block_number g l s i))) (le-ltb (block_number g l s i) 2 two)
    ∙ ap (λ (k : ℕ). Some (slot_block (g.block_exp - 2) (g.bottom + 2 - g.block_exp) k)) (block-is g.block_exp l s i high)
    ∙ ap (λ (b : Block). Some b) (slot-block-is (g.block_exp - 2) (g.bottom + 2 - g.block_exp) (l + 2 - g.block_exp) s (i / block_cells g) (omega (arith, low)) p.slot_in (block-within g.block_exp l s i high p.index_in))
    ∙ ap (λ (x : ℕ). Some (record { level = x; slot = s; number = i / block_cells g })) levels

-- a buffer that has this block holds the block of this number
pub held-is : (g : Geometry) (l s i : ℕ) (held : Option ℕ) → IsBlock g.block_exp g.bottom → g.block_exp ≤ l + 2 → last_block g held ≡ Some (block_of (block_cells g) l s i) → held ≡ Some (block_number g l s i)
held-is g l s i None fits high e = absurd (cc)
held-is g l s i (Some k) fits high e = by-test (nat_lt k 2) refl e
  where
    get : Option Block → Block
    get None = record { level = 0; slot = 0; number = 0 }
    get (Some b) = b

    by-test : (t : Bool) → nat_lt k 2 ≡ t → (if t then None else Some (slot_block (g.block_exp - 2) (g.bottom + 2 - g.block_exp) k)) ≡ Some (block_of (block_cells g) l s i) → Some k ≡ Some (block_number g l s i)
    by-test true low e = absurd (cc)
    by-test false low e =
        let same : slot_block (g.block_exp - 2) (g.bottom + 2 - g.block_exp) k ≡ block_of (block_cells g) l s i = ap get e in
        let back : k ≡ file-number (g.block_exp - 2) (slot_block (g.block_exp - 2) (g.bottom + 2 - g.block_exp) k) = slot-block-back (g.block_exp - 2) (g.bottom + 2 - g.block_exp) k (ltb-false k 2 low) in
        let levels : l - (g.block_exp - 2) ≡ l + 2 - g.block_exp = omega (arith, fits.group, high) in
        ap Some (back ∙ ap (λ (b : Block). file-number (g.block_exp - 2) b) same ∙ ap (λ (m : ℕ). (2 + s) * 2 ^ m + i / block_cells g) levels ∙ sym (block-is g.block_exp l s i high))

-- different buffers of the trait have different buffers
reader-within : (reader : Reader) → reader_number reader < 3
reader-within Own = omega arith
reader-within Incoming = omega arith
reader-within Sample = omega arith

readers-differ : (r q : Reader) → reader_number r ≡ reader_number q → r ≡ q
readers-differ Own Own e = refl
readers-differ Own Incoming e = absurd (omega (arith, e))
readers-differ Own Sample e = absurd (omega (arith, e))
readers-differ Incoming Own e = absurd (omega (arith, e))
readers-differ Incoming Incoming e = refl
readers-differ Incoming Sample e = absurd (omega (arith, e))
readers-differ Sample Own e = absurd (omega (arith, e))
readers-differ Sample Incoming e = absurd (omega (arith, e))
readers-differ Sample Sample e = refl

-- what a buffer of the trait has after one buffer was set
pub others-stay : (g : Geometry) (lasts : List (Option ℕ)) (reader : Option Reader) (level : ℕ) (now : Option ℕ) (other : Buffer) → g.block_exp ≤ level + 2 → other ≢ buffer_for reader level →
    last_of g (set lasts (buffer_index g reader level) now) other ≡ last_of g lasts other
others-stay g lasts None level now Search high apart = absurd (apart refl)
others-stay g lasts (Some q) level now Search high apart = ap (λ (x : Option ℕ). last_block g x) (get_or-set_other lasts (buffer_number g q level) 0 now None (λ e. omega (arith, e)))
others-stay g lasts reader level now (By r l) high apart = by-test (nat_lt (l + 2) g.block_exp) refl
  where
    differ : (other : Option Reader) → By r l ≢ buffer_for other level → g.block_exp ≤ l + 2 → buffer_number g r l ≢ buffer_index g other level
    differ None apart here same = omega (arith, same)
    differ (Some q) apart here same =
        let levels : l ≡ level = omega (arith, same, here, high, reader-within r, reader-within q) in
        apart (ap (λ (z : Reader). By z l) (readers-differ r q (omega (arith, same, here, high, reader-within r, reader-within q))) ∙ ap (λ (z : ℕ). By q z) levels)

    by-test : (t : Bool) → nat_lt (l + 2) g.block_exp ≡ t → (if t then None else last_block g (last_in (set lasts (buffer_index g reader level) now) (buffer_number g r l)))
        ≡ (if t then None else last_block g (last_in lasts (buffer_number g r l)))
    by-test true e = refl
    by-test false e = ap (λ (x : Option ℕ). last_block g x) (get_or-set_other lasts (buffer_index g reader level) (buffer_number g r l) now None (differ reader apart (ltb-false (l + 2) g.block_exp e)))

-- what the buffer of a reader has, and what it has once it was set
pub own-is : (g : Geometry) (lasts : List (Option ℕ)) (reader : Option Reader) (level : ℕ) → g.block_exp ≤ level + 2 → last_of g lasts (buffer_for reader level) ≡ last_block g (last_in lasts (buffer_index g reader level))
own-is g lasts None level high = refl
own-is g lasts (Some q) level high = cond-false (nat_lt (level + 2) g.block_exp) None (last_block g (last_in lasts (buffer_number g q level))) (le-ltb (level + 2) g.block_exp high)

pub own-set : (g : Geometry) (lasts : List (Option ℕ)) (reader : Option Reader) (level : ℕ) (now : Option ℕ) → g.block_exp ≤ level + 2 → buffer_index g reader level < length lasts →
    last_of g (set lasts (buffer_index g reader level) now) (buffer_for reader level) ≡ last_block g now
own-set g lasts reader level now high within =
    own-is g (set lasts (buffer_index g reader level) now) reader level high ∙ ap (λ (x : Option ℕ). last_block g x) (get_or-set_same lasts (buffer_index g reader level) now None within)

-- there is a buffer for each
pub buffer-within : (g : Geometry) (reader : Option Reader) (level : ℕ) → IsOnDevice g level → buffer_index g reader level < 1 + 3 * device_levels g
buffer-within g None level device = omega arith
buffer-within g (Some q) level device = omega (arith, device.within, device.whole, reader-within q)

-- what a buffer has after a block was written
map-forgotten : (block : ℕ) (lasts : List (Option ℕ)) (n : ℕ) → last_in (map (forgotten block) lasts) n ≡ forgotten block (last_in lasts n)
map-forgotten block [] n = refl
map-forgotten block (x ∷ lasts) zero = refl
map-forgotten block (x ∷ lasts) (suc n) = map-forgotten block lasts n

forgets-one : (g : Geometry) (l s i : ℕ) (held : Option ℕ) → IsBlock g.block_exp g.bottom → g.block_exp ≤ l + 2 → IsPlace (g.bottom + 1) l s i →
    Forgets (block_of (block_cells g) l s i) (last_block g held) (last_block g (forgotten (block_number g l s i) held))
forgets-one g l s i None fits high p = inl refl
forgets-one g l s i (Some k) fits high p = by-test (k == block_number g l s i) refl
  where
    by-test : (t : Bool) → (k == block_number g l s i) ≡ t → Forgets (block_of (block_cells g) l s i) (last_block g (Some k)) (last_block g (if t then None else Some k))
    by-test true e = inr (ap (λ (x : ℕ). as_block g x) (eqb-true k (block_number g l s i) e) ∙ block-number-is g l s i fits high p, refl)
    by-test false e = inl refl

pub lasts-forget : (g : Geometry) (l s i : ℕ) (lasts now : List (Option ℕ)) → IsBlock g.block_exp g.bottom → g.block_exp ≤ l + 2 → IsPlace (g.bottom + 1) l s i → now ≡ map (forgotten (block_number g l s i)) lasts →
    (buffer : Buffer) → Forgets (block_of (block_cells g) l s i) (last_of g lasts buffer) (last_of g now buffer)
lasts-forget g l s i lasts now fits high p is buffer = subst (λ (x : List (Option ℕ)). Forgets (block_of (block_cells g) l s i) (last_of g lasts buffer) (last_of g x buffer)) (sym is) (by-buffer buffer)
  where
    at : (n : ℕ) → Forgets (block_of (block_cells g) l s i) (last_block g (last_in lasts n)) (last_block g (last_in (map (forgotten (block_number g l s i)) lasts) n))
    at n = subst (λ (x : Option ℕ). Forgets (block_of (block_cells g) l s i) (last_block g (last_in lasts n)) (last_block g x)) (sym (map-forgotten (block_number g l s i) lasts n)) (forgets-one g l s i (last_in lasts n) fits high p)

    by-test : (t : Bool) (n : ℕ) → Forgets (block_of (block_cells g) l s i) (if t then None else last_block g (last_in lasts n)) (if t then None else last_block g (last_in (map (forgotten (block_number g l s i)) lasts) n))
    by-test true n = inl refl
    by-test false n = at n

    by-buffer : (buffer : Buffer) → Forgets (block_of (block_cells g) l s i) (last_of g lasts buffer) (last_of g (map (forgotten (block_number g l s i)) lasts) buffer)
    by-buffer Search = at 0
    by-buffer (By r k) = by-test (nat_lt (k + 2) g.block_exp) (buffer_number g r k)
