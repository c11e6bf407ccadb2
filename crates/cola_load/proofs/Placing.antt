-- Where a cell stands, and what putting one leaves of the others.
use Rattle.std.proofs.Common.{eq-eqb, ◌≡◌, ◌≢◌, ◌⊎◌, inl, inr, ℕ, ◌+◌, ◌*◌, ◌/◌, ◌%◌, ◌^◌, ◌<◌, ◌≤◌, ◌==◌, nat_lt, true, false, Bool, if◌then◌else◌, List, length, take, set, Option, None, Some, Result, Ok, Err, refl, sym, ap, subst, ◌∙◌, arith}
use Rattle.std.specs.Prelude.{IfSome}
use Rattle.std.proofs.lemmas.Bool.{lt-ltb, le-ltb, ne_eqb, cases_lt, cases_eq}
use Rattle.std.proofs.Math.Nat.{mul-le-mul_right}
use Rattle.std.proofs.lemmas.List.{get_or-set_same, get_or-set_other}
use Rattle.std.proofs.lemmas.Nat.{pow_pos}
use Rattle.std.proofs.lemmas.Option.{IfSome_then}
use Rattle.cola_outside.specs.Told.{Both}
use Rattle.cola_cell.specs.declared.cell.Cell.{Cell}
use Rattle.cola_cell.specs.Decoded.{decoded, spelling}
use Rattle.cola_cell.specs.Format.{width}
use Rattle.cola_cell.specs.Places.{number_of, slot_size, IsPlace}
use Rattle.cola_cell.specs.Spelling.{IsSpelling}
use Rattle.cola_device.specs.Bytes.{splice, HasRange}
use Rattle.cola_device.proofs.BytesLemmas.{part-splice_below}
use Rattle.cola_front.specs.Front.{FrontCells, cell_at, cell_bytes}
use Rattle.cola_front.proofs.FrontLemmas.{comes_back}
use Rattle.cola_layout.proofs.Places.{front-below, place-differ}
use Rattle.cola_layout.proofs.Powers.{next_power}
use Rattle.cola_layout.specs.declared.geometry.Geometry.{Geometry}
use Rattle.cola_run.specs.Cells.{IsOnDevice, block_cells, block_bytes, block_number, file_bytes, tail_number, tails_bytes}
use Rattle.cola_run.specs.Parts.{tail_of, fills, WroteTail, TailPushed}
use Rattle.cola_run.proofs.Numbers.{IsMore, IsFull, next-split, one-place, first-place, block-behind}
use Rattle.cola_run.proofs.Spots.{choose-then, choose-else, both-same, both-so, both-second, both-with}
use Rattle.cola_run.proofs.Steps.{block-fits, tail_many, tail-cell, put-many, put-there, put-stays, written-many, written-there, written-stays}
use Rattle.cola_load.specs.Loading.{Loading, HasMore, Puts, StaysInFront, standing_cell}

-- what follows of two contents that are told, where the first has something
pub both-given : {A B : Type 0} {Q : A → Type 0} {P R : A → B → Type 0} (a : Option A) (b : Option B) → IfSome a Q → Both a b P → ((x : A) (y : B) → Q x → P x y → R x y) → Both a b R
both-given {Q = Q} {P = P} {R = R} a b q p f = both-so a b (λ x y. Q x × P x y) R (λ x y h. f x y h.0 h.1) (both-with a b Q P q p)

-- what follows of two relations
pub both-both : {A B : Type 0} {P Q R : A → B → Type 0} (a : Option A) (b : Option B) → Both a b P → Both a b Q → ((x : A) (y : B) → P x y → Q x y → R x y) → Both a b R
both-both (Some x) (Some y) p q f = f x y p q
both-both None None p q f = tt
both-both a b p q f = absurd p

-- and the second then
pub some-given : {A B : Type 0} {Q : A → Type 0} {P : A → B → Type 0} {S : B → Type 0} (a : Option A) (b : Option B) → IfSome a Q → Both a b P → ((x : A) (y : B) → Q x → P x y → S y) → IfSome b S
some-given {Q = Q} {P = P} {S = S} a b q p f = both-second a b (λ x y. Q x × P x y) S (λ x y h. f x y h.0 h.1) (both-with a b Q P q p)

-- a level is on the device
pub on-level : (g : Geometry) (level : ℕ) → g.block_exp ≤ level + 2 → level ≤ g.bottom → IsOnDevice g level
on-level g level high low = record { within = low; whole = high }

pub in-slot : (bottom level index : ℕ) → level ≤ bottom → index < slot_size level → IsPlace (bottom + 1) level 0 index
in-slot bottom level index low within = record { level_in = omega (arith, low); slot_in = omega arith; index_in = within }

-- a block that is written lies in the file
pub write_inside : (told : Option (List ℕ)) (g : Geometry) (level index : ℕ) (tails : List ℕ) (at : ℕ) → IsOnDevice g level → index < slot_size level
    → length tails ≡ tails_bytes g → HasRange told 0 (file_bytes g) → at ≡ block_number g level 0 index * block_bytes g → HasRange told at (length (tail_of g tails level))
write_inside told g level index tails at device within many inside at_is = IfSome_then told inside (λ bytes long.
    let tail = tail_many g tails level g.block_fits device many in
    omega (arith, tail, block-fits g g.block_fits level 0 index device.whole (in-slot g.bottom level index device.within within) bytes (tail_of g tails level) (omega (arith, long)) tail, at_is, long))

-- where a cell of a level stands
module _ (loading : Loading) (bytes : List ℕ) (len level index : ℕ) where
  abbrev g : Geometry
  g = loading.geometry

  abbrev tailed : Option Cell
  tailed = decoded g.format (cell_bytes g.format loading.tails (tail_number g level index))

  abbrev blocked : Option Cell
  blocked = decoded g.format (cell_bytes g.format bytes (number_of level 0 index))

  abbrev in-front : Option Cell
  in-front = cell_at loading.front (number_of level 0 index)

  abbrev on-device : Option Cell
  on-device = if index / block_cells g == len / block_cells g then tailed else blocked

  pub stands-front : level + 2 < g.block_exp → standing_cell loading bytes len level index ≡ in-front
  stands-front low = choose-then (nat_lt (level + 2) g.block_exp) in-front on-device (lt-ltb (level + 2) g.block_exp low)

  stands-behind : g.block_exp ≤ level + 2 → standing_cell loading bytes len level index ≡ on-device
  stands-behind high = choose-else (nat_lt (level + 2) g.block_exp) in-front on-device (le-ltb (level + 2) g.block_exp high)

  pub stands-tail : g.block_exp ≤ level + 2 → index / block_cells g ≡ len / block_cells g → standing_cell loading bytes len level index ≡ tailed
  stands-tail high same = stands-behind high ∙ choose-then (index / block_cells g == len / block_cells g) tailed blocked (eq-eqb (index / block_cells g) (len / block_cells g) same)

  pub stands-block : g.block_exp ≤ level + 2 → index / block_cells g ≢ len / block_cells g → standing_cell loading bytes len level index ≡ blocked
  stands-block high apart = stands-behind high ∙ choose-else (index / block_cells g == len / block_cells g) tailed blocked (ne_eqb (index / block_cells g) (len / block_cells g) apart)

-- the cells of a level on the device are the same where its tail's and its block's are
pub stands-same : (old new : Loading) (x y : List ℕ) (len level index : ℕ) → new.geometry ≡ old.geometry → old.geometry.block_exp ≤ level + 2
    → cell_bytes old.geometry.format new.tails (tail_number old.geometry level index) ≡ cell_bytes old.geometry.format old.tails (tail_number old.geometry level index)
    → cell_bytes old.geometry.format y (number_of level 0 index) ≡ cell_bytes old.geometry.format x (number_of level 0 index)
    → standing_cell new y len level index ≡ standing_cell old x len level index
stands-same old new x y len level index geometry high tails blocks =
    let g = old.geometry in
    let moved : Loading = record new { geometry = g } in
    ap (λ (z : Geometry). standing_cell (record new { geometry = z }) y len level index) geometry ∙ elim (cases_eq (index / block_cells g) (len / block_cells g)) [
      | inl here ↦ stands-tail moved y len level index high here ∙ ap (λ (xs : List ℕ). decoded g.format xs) tails ∙ sym (stands-tail old x len level index high here)
      | inr apart ↦ stands-block moved y len level index high apart ∙ ap (λ (xs : List ℕ). decoded g.format xs) blocks ∙ sym (stands-block old x len level index high apart)
    ]

differ : (bottom l i level index : ℕ) → l ≤ bottom → level ≤ bottom → i < slot_size l → index < slot_size level → (l ≢ level) ⊎ (i ≢ index) → number_of l 0 i ≢ number_of level 0 index
differ bottom l i level index low_l low inside within apart same =
    let (levels, slots, indices) = place-differ bottom l 0 i level 0 index (in-slot bottom l i low_l inside) (in-slot bottom level index low within) same in
    elim apart [ inl h ↦ h levels | inr h ↦ h indices ]

-- the number of a cell of the front
pub front-number : (block level index : ℕ) → index < slot_size level → level + 2 < block → number_of level 0 index < 2 ^ block + 2 ^ block
front-number block level index within low =
    omega (arith, front-below block level 0 index (omega arith) within low, next_power block (block + 1) (omega arith))

-- a cell that was put into the front
module _ (loading : Loading) (front : FrontCells) (bytes : List ℕ) (level index : ℕ) (cell : Cell) (low : level ≤ loading.geometry.bottom) (inside : level + 2 < loading.geometry.block_exp)
    (within : index < slot_size level) (room : number_of level 0 index < length loading.front.cells)
    (is : front ≡ record loading.front { cells = set loading.front.cells (number_of level 0 index) (Some cell) }) where
  abbrev put-front : Loading
  put-front = record loading { front = front }

  at-other : (n : ℕ) → n ≢ number_of level 0 index → cell_at front n ≡ cell_at loading.front n
  at-other n apart = ap (λ (f : FrontCells). cell_at f n) is ∙ get_or-set_other loading.front.cells (number_of level 0 index) n (Some cell) None apart

  pub front-put : HasMore loading put-front level index cell bytes bytes
  front-put = record {
    is =
        stands-front put-front bytes (index + 1) level index inside
        ∙ ap (λ (f : FrontCells). cell_at f (number_of level 0 index)) is ∙ get_or-set_same loading.front.cells (number_of level 0 index) (Some cell) None room;
    same = λ i before.
        stands-front put-front bytes (index + 1) level i inside
        ∙ at-other (number_of level 0 i) (differ loading.geometry.bottom level i level index low low (omega (arith, before, within)) within (inr (λ e. omega (arith, e, before))))
        ∙ sym (stands-front loading bytes index level i inside);
    others = λ l i len low_l apart inside_l. elim (cases_lt (l + 2) loading.geometry.block_exp) [
      | inl front_l ↦
          stands-front put-front bytes len l i front_l
          ∙ at-other (number_of l 0 i) (differ loading.geometry.bottom l i level index low_l low inside_l within (inl apart))
          ∙ sym (stands-front loading bytes len l i front_l)
      | inr high ↦ stands-same loading put-front bytes bytes len l i refl high refl refl
    ];
  }

-- a cell that was put into the tail of a level
module _ (loading : Loading) (tails x y : List ℕ) (level index : ℕ) (cell : Cell) (low : level ≤ loading.geometry.bottom) (high : loading.geometry.block_exp ≤ level + 2)
    (within : index < slot_size level) (many : length loading.tails ≡ tails_bytes loading.geometry)
    (long : file_bytes loading.geometry ≤ length x)
    (spelled : IsSpelling loading.geometry.format cell (spelling loading.geometry.format cell))
    (is : tails ≡ splice loading.tails (width loading.geometry.format * tail_number loading.geometry level index) (spelling loading.geometry.format cell)) where
  abbrev h : Geometry
  h = loading.geometry

  abbrev put-tail : Loading
  put-tail = record loading { tails = tails }

  on : IsOnDevice h level
  on = on-level h level high low

  some : 0 < block_cells h
  some = pow_pos h.block_exp

  tail-there : cell_bytes h.format tails (tail_number h level index) ≡ spelling h.format cell
  tail-there = ap (λ (xs : List ℕ). cell_bytes h.format xs (tail_number h level index)) is ∙ put-there h loading.tails (spelling h.format cell) level index h.block_fits on many spelled.size

  tail-stays : (l i : ℕ) → IsOnDevice h l → (l ≢ level) ⊎ (i % block_cells h ≢ index % block_cells h) → cell_bytes h.format tails (tail_number h l i) ≡ cell_bytes h.format loading.tails (tail_number h l i)
  tail-stays l i device apart =
      ap (λ (xs : List ℕ). cell_bytes h.format xs (tail_number h l i)) is ∙ put-stays h loading.tails (spelling h.format cell) level index h.block_fits on many spelled.size l i device apart

  back : decoded h.format (spelling h.format cell) ≡ Some cell
  back = comes_back h.format cell (spelling h.format cell) spelled

  elsewhere : (i : ℕ) → i < index → i / block_cells h ≡ index / block_cells h → i % block_cells h ≢ index % block_cells h
  elsewhere i before here same = let e = one-place (block_cells h) i index some here same in omega (arith, e, before)

  -- the cells of the other levels, where a device's blocks of them stay
  beside : ((l i : ℕ) → h.block_exp ≤ l + 2 → l ≤ h.bottom → i < slot_size l → l ≢ level → cell_bytes h.format y (number_of l 0 i) ≡ cell_bytes h.format x (number_of l 0 i))
      → (l i len : ℕ) → l ≤ h.bottom → l ≢ level → i < slot_size l → standing_cell put-tail y len l i ≡ standing_cell loading x len l i
  beside blocks l i len low_l apart inside = elim (cases_lt (l + 2) h.block_exp) [
    | inl front_l ↦ stands-front put-tail y len l i front_l ∙ sym (stands-front loading x len l i front_l)
    | inr high_l ↦ stands-same loading put-tail x y len l i refl high_l (tail-stays l i (on-level h l high_l low_l) (inl apart)) (blocks l i high_l low_l inside apart)
  ]

  -- the block is not full
  pub put-amid : IsMore (block_cells h) index → y ≡ x → HasMore loading put-tail level index cell x y
  put-amid more stays = record {
    is = stands-tail put-tail y (index + 1) level index high (sym more.block_is) ∙ ap (λ (xs : List ℕ). decoded h.format xs) tail-there ∙ back;
    same = λ i before. elim (cases_eq (i / block_cells h) (index / block_cells h)) [
      | inl here ↦
          stands-tail put-tail y (index + 1) level i high (here ∙ sym more.block_is)
          ∙ ap (λ (xs : List ℕ). decoded h.format xs) (tail-stays level i on (inr (elsewhere i before here)))
          ∙ sym (stands-tail loading x index level i high here)
      | inr apart ↦
          stands-block put-tail y (index + 1) level i high (λ e. apart (e ∙ more.block_is))
          ∙ ap (λ (xs : List ℕ). decoded h.format (cell_bytes h.format xs (number_of level 0 i))) stays
          ∙ sym (stands-block loading x index level i high apart)
    ];
    others = beside (λ l i high_l low_l inside apart. ap (λ (xs : List ℕ). cell_bytes h.format xs (number_of l 0 i)) stays);
  }

  -- the block is full and was written
  pub put-last : IsFull (block_cells h) index → y ≡ splice x (block_number h level 0 index * block_bytes h) (tail_of h tails level) → HasMore loading put-tail level index cell x y
  put-last full stays =
      let tails-long = ap length is ∙ put-many h loading.tails (spelling h.format cell) level index h.block_fits on many spelled.size ∙ many in
      let tail = tail_many h tails level h.block_fits on tails-long in
      let place = in-slot h.bottom level index low within in
      let behind : (i : ℕ) → i < index + 1 → i / block_cells h ≢ (index + 1) / block_cells h =
      λ i before e. (let f = first-place (block_cells h) i (index + 1) some e full.place_is in omega (arith, f, before)) in
      let there : (i : ℕ) → i / block_cells h ≡ index / block_cells h → cell_bytes h.format y (number_of level 0 i) ≡ cell_bytes h.format tails (tail_number h level i) =
      λ i here. ap (λ (xs : List ℕ). cell_bytes h.format xs (number_of level 0 i)) stays
      ∙ written-there h h.block_fits level 0 index high place x (tail_of h tails level) long tail i here ∙ tail-cell h tails level i in
      let others : (l i : ℕ) → h.block_exp ≤ l + 2 → l ≤ h.bottom → i < slot_size l → (l ≢ level) ⊎ (0 ≢ 0) ⊎ (i / block_cells h ≢ index / block_cells h) →
      cell_bytes h.format y (number_of l 0 i) ≡ cell_bytes h.format x (number_of l 0 i) =
      λ l i high_l low_l inside apart. ap (λ (xs : List ℕ). cell_bytes h.format xs (number_of l 0 i)) stays
      ∙ written-stays h h.block_fits level 0 index high place x (tail_of h tails level) long tail l 0 i high_l (in-slot h.bottom l i low_l inside) apart in
      record {
        is = stands-block put-tail y (index + 1) level index high (behind index (omega arith)) ∙ ap (λ (xs : List ℕ). decoded h.format xs) (there index refl ∙ tail-there) ∙ back;
        same = λ i before. stands-block put-tail y (index + 1) level i high (behind i (omega (arith, before)))
            ∙ elim (cases_eq (i / block_cells h) (index / block_cells h)) [
              | inl here ↦
                  ap (λ (xs : List ℕ). decoded h.format xs) (there i here ∙ tail-stays level i on (inr (elsewhere i before here)))
                  ∙ sym (stands-tail loading x index level i high here)
              | inr apart ↦
                  ap (λ (xs : List ℕ). decoded h.format xs) (others level i high low (omega (arith, before, within)) (inr (inr apart)))
                  ∙ sym (stands-block loading x index level i high apart)
            ];
        others = beside (λ l i high_l low_l inside apart. others l i high_l low_l inside (inl apart));
      }

-- what putting one into a tail says
module _ {T E : Type 0} (loading : Loading) (tails : List ℕ) (level index : ℕ) (cell : Cell) (low : level ≤ loading.geometry.bottom) (high : loading.geometry.block_exp ≤ level + 2)
    (within : index < slot_size level) (many : length loading.tails ≡ tails_bytes loading.geometry)
    (spelled : IsSpelling loading.geometry.format cell (spelling loading.geometry.format cell))
    (is : tails ≡ splice loading.tails (width loading.geometry.format * tail_number loading.geometry level index) (spelling loading.geometry.format cell)) where
  puts-written : (result : Result T E) (a b : Option (List ℕ)) → IsFull (block_cells loading.geometry) index → HasRange a 0 (file_bytes loading.geometry) → WroteTail result loading.geometry tails level 0 index a b
      → Both a b (Puts result loading (record loading { tails = tails }) level index cell)
  puts-written (Err fault) a b full inside wrote = both-so a b _ _ (λ x y w. tt) wrote
  puts-written (Ok value) a b full inside wrote = both-given a b inside wrote (λ x y long w.
      put-last loading tails x y level index cell low high within many (omega (arith, long)) spelled is full
      (w.others_stay ∙ ap (λ (left : List ℕ). splice x (block_number loading.geometry level 0 index * block_bytes loading.geometry) left) w.exact))

  puts-kept : (result : Result T E) (a : Option (List ℕ)) → IsMore (block_cells loading.geometry) index → HasRange a 0 (file_bytes loading.geometry)
      → Both a a (Puts result loading (record loading { tails = tails }) level index cell)
  puts-kept result None amid inside = tt
  puts-kept (Err fault) (Some x) amid inside = tt
  puts-kept (Ok value) (Some x) amid inside = put-amid loading tails x x level index cell low high within many (omega (arith, inside)) spelled is amid refl

  pub puts-tail : (result : Result T E) (a b : Option (List ℕ)) → HasRange a 0 (file_bytes loading.geometry) → TailPushed (fills loading.geometry index) result loading.geometry tails level 0 index a b
      → Both a b (Puts result loading (record loading { tails = tails }) level index cell)
  puts-tail result a b inside pushed =
      let tested = λ (t : Bool) (e : fills loading.geometry index ≡ t). subst (λ (t : Bool). TailPushed t result loading.geometry tails level 0 index a b) e pushed in
      elim (next-split (block_cells loading.geometry) index (pow_pos loading.geometry.block_exp)) [
        | inl more ↦
            let apart : (index + 1) % block_cells loading.geometry ≢ 0 = λ e. omega (arith, e, more.place_is) in
            subst (λ (z : Option (List ℕ)). Both a z (Puts result loading (record loading { tails = tails }) level index cell)) (sym (tested false (ne_eqb _ 0 apart)).0) (puts-kept result a more inside)
        | inr full ↦ puts-written result a b full inside (tested true (eq-eqb _ 0 full.place_is))
      ]

-- a device that stays keeps its front
pub front-same : (g : Geometry) (a b : Option (List ℕ)) → b ≡ a → Both a b (StaysInFront g)
front-same g a b stays = subst (λ (z : Option (List ℕ)). Both a z (StaysInFront g)) (sym stays) (both-same a (StaysInFront g) (λ x. record { size_stays = refl; front_stays = refl }))

-- a device on which at most a block behind the front was written
module _ {T E : Type 0} (g : Geometry) (tails : List ℕ) (level index : ℕ) (low : level ≤ g.bottom) (high : g.block_exp ≤ level + 2) (within : index < slot_size level)
    (many : length tails ≡ tails_bytes g) where
  pub front-written : (result : Result T E) (a b : Option (List ℕ)) → HasRange a 0 (file_bytes g) → WroteTail result g tails level 0 index a b → Both a b (StaysInFront g)
  front-written result a b inside wrote = both-given a b inside wrote (λ x y long w.
      let tail = tail_many g tails level g.block_fits (on-level g level high low) many in
      let place = in-slot g.bottom level index low within in
      let whole : length w.left ≡ block_bytes g = w.as_many ∙ tail in
      let ends = block-fits g g.block_fits level 0 index high place x w.left (omega (arith, long)) whole in
      let far : 2 * block_bytes g ≤ block_number g level 0 index * block_bytes g = mul-le-mul_right (block_bytes g) (block-behind g.block_exp level 0 index high) in
      record {
        size_stays = ap (λ (xs : List ℕ). length xs) w.others_stay ∙ written-many g g.block_fits level 0 index high place x w.left (omega (arith, long)) whole;
        front_stays = ap (λ (xs : List ℕ). take (2 * block_bytes g) xs) w.others_stay
            ∙ part-splice_below x (block_number g level 0 index * block_bytes g) w.left 0 (2 * block_bytes g) (omega (arith, ends, long)) (omega (arith, far));
      })

  pub front-pushed : (t : Bool) (result : Result T E) (a b : Option (List ℕ)) → HasRange a 0 (file_bytes g) → TailPushed t result g tails level 0 index a b → Both a b (StaysInFront g)
  front-pushed true result a b inside w = front-written result a b inside w
  front-pushed false result a b inside w = front-same g a b w.0

-- a loader whose parts are these lies in the same range and has the same levels
pub same-range : {loading self : Loading} (told : Option (List ℕ)) → loading ≡ self → HasRange told 0 (file_bytes self.geometry) → HasRange told 0 (file_bytes loading.geometry)
same-range told is = subst (λ (z : Loading). HasRange told 0 (file_bytes z.geometry)) (sym is)

pub same-level : {loading self : Loading} (level : ℕ) → loading ≡ self → level ≤ self.geometry.bottom → level ≤ loading.geometry.bottom
same-level level is = subst (λ (z : Loading). level ≤ z.geometry.bottom) (sym is)

-- the same of such a loader
module _ {loading self : Loading} (level index : ℕ) (cell : Cell) (is : loading ≡ self) (within : level ≤ self.geometry.bottom) (inside : index < slot_size level) where
  pub front-put-of : {T : Type 0} (E : Type 0) (value : T) (told : Option (List ℕ)) {front : FrontCells} {number : ℕ} → level + 2 < loading.geometry.block_exp → number_of level 0 index < length loading.front.cells
      → front ≡ record loading.front { cells = set loading.front.cells number (Some cell) } → number ≡ number_of level 0 index
      → Both told told (Puts {T = T} {E = E} (Ok value) self (record loading { front = front }) level index cell)
  front-put-of {T} E value told {front} low room after number-is =
      subst (λ (z : Loading). Both told told (Puts {T = T} {E = E} (Ok value) z (record loading { front = front }) level index cell)) is
      (both-same told (Puts {T = T} {E = E} (Ok value) loading (record loading { front = front }) level index cell)
      (λ x. front-put loading front x level index cell (same-level level is within) low inside room (after ∙ ap (λ (n : ℕ). record loading.front { cells = set loading.front.cells n (Some cell) }) number-is)))

  module _ {T E : Type 0} (result : Result T E) (a b : Option (List ℕ)) (high : loading.geometry.block_exp ≤ level + 2) (room : HasRange a 0 (file_bytes self.geometry)) (tails : List ℕ)
      (pushed : TailPushed (fills loading.geometry index) result loading.geometry tails level 0 index a b) where
    pub tail-put-of : length loading.tails ≡ tails_bytes loading.geometry → IsSpelling loading.geometry.format cell (spelling loading.geometry.format cell)
        → tails ≡ splice loading.tails (width loading.geometry.format * tail_number loading.geometry level index) (spelling loading.geometry.format cell)
        → Both a b (Puts result self (record loading { tails = tails }) level index cell)
    tail-put-of many spelled after =
        subst (λ (z : Loading). Both a b (Puts result z (record loading { tails = tails }) level index cell)) is
        (puts-tail loading tails level index cell (same-level level is within) high inside many spelled after result a b (same-range a is room) pushed)

    pub tail-front-of : length tails ≡ tails_bytes loading.geometry → Both a b (StaysInFront self.geometry)
    tail-front-of many = subst (λ (z : Loading). Both a b (StaysInFront z.geometry)) is
        (front-pushed loading.geometry tails level index (same-level level is within) high inside many (fills loading.geometry index) result a b (same-range a is room) pushed)
