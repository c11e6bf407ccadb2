-- What a written block leaves of the copy.
use Rattle.std.proofs.Common.{◌≡◌, ℕ, ◌+◌, ◌-◌, ◌*◌, ◌%◌, ◌^◌, ◌<◌, ◌≤◌, List, length, Option, Some, None, Result, Ok, Err, sym, ap, subst, ◌∙◌, arith}
use Rattle.std.specs.Prelude.{IfSome, OnOk}
use Rattle.std.proofs.Math.Nat.{mul-le-mul_left}
use Rattle.std.proofs.lemmas.Nat.{pow-add, pow_pos}
use Rattle.cola_device.specs.Bytes.{splice, HasRange, WroteSome, Wrote}
use Rattle.cola_device.proofs.ToldLemmas.{length-WroteSome}
use Rattle.cola_layout.specs.declared.header.Header.{Header}
use Rattle.cola_layout.specs.Fields.{fields_of}
use Rattle.cola_layout.specs.Header.{Fields}
use Rattle.cola_layout.proofs.Powers.{power-le}
use Rattle.cola_wide.specs.Copied.{block_cells, block_count, cells_of, wide_size, IsBlockOf, AreSpelled, AreCopied, IsBegun, IsFilled}
use Rattle.cola_wide.proofs.Told.{some-then, some-both, both-then}
use Rattle.cola_wide.proofs.Blocks.{begun-stays, copied-more, copied-behind, first-filled, spelled-of}

-- ---- sizes

-- a power of two that was made by a shift
pub shifted : (n : ℕ) → n < 2 ^ 64 → 1 * n % 2 ^ 64 ≡ n
shifted n small = omega (arith, small)

pub span-some : (h : Header) → 8 ≤ block_cells (fields_of h)
span-some h = power-le 3 h.geometry.block_exp h.geometry.block_fits.group

pub span-most : (h : Header) → block_cells (fields_of h) ≤ 512
span-most h = let fits = h.geometry.block_fits.fits in power-le h.geometry.block_exp 9 (omega (arith, fits))

pub blocks-some : (h : Header) → 1 ≤ block_count (fields_of h)
blocks-some h = let some = pow_pos (h.geometry.bottom + 4 - h.geometry.block_exp) in omega (arith, some)

pub blocks-whole : (h : Header) → block_cells (fields_of h) * block_count (fields_of h) ≡ cells_of (fields_of h)
blocks-whole h =
    let fits = h.geometry.block_fits.fits in
    let is : h.geometry.block_exp + (h.geometry.bottom + 4 - h.geometry.block_exp) ≡ h.geometry.bottom + 4 = omega (arith, fits) in
    sym (pow-add 2 h.geometry.block_exp (h.geometry.bottom + 4 - h.geometry.block_exp)) ∙ ap (λ (n : ℕ). 2 ^ n) is

pub block-within : (h : Header) (block : ℕ) → block < block_count (fields_of h) → block_cells (fields_of h) * block + block_cells (fields_of h) ≤ cells_of (fields_of h)
block-within h block below =
    let more : block_cells (fields_of h) * (block + 1) ≤ block_cells (fields_of h) * block_count (fields_of h) = mul-le-mul_left (block_cells (fields_of h)) (omega (arith, below)) in
    omega (arith, more, blocks-whole h)

pub span-within : (h : Header) → block_cells (fields_of h) ≤ cells_of (fields_of h)
span-within h = let some = blocks-some h in let within = block-within h 0 (omega (arith, some)) in omega (arith, within)

-- the block behind another begins so
pub block-after : (span block : ℕ) → span * block + span ≡ span * (block + 1)
block-after span block = omega arith

-- ---- a block behind the first

-- what was written is there after Ok
pub wrote-exact : {T : Type 0} (E : Type 0) (value : T) (at : ℕ) (from before now : List ℕ) → WroteSome {T = T} {E = E} (Ok value) at from before now → now ≡ splice before at from
wrote-exact E value at from before now wrote = wrote.others_stay ∙ ap (splice before at) wrote.exact

module _ (header : Fields) (first : ℕ) (wide : List ℕ) (long : length wide ≡ 128 * block_cells header) (inside : first + block_cells header ≤ cells_of header) (before now : Option (List ℕ)) where
  pub write-inside : IfSome before (IsBegun header) → HasRange before (128 * first) (length wide)
  write-inside begun = some-then (IsBegun header) (λ bytes. 128 * first + length wide ≤ length bytes) before (λ new b. omega (arith, b.size, long, inside)) begun

  pub begun-after : {T E : Type 0} (result : Result T E) → 8 ≤ first → Wrote result (128 * first) wide before now → IfSome before (IsBegun header) → IfSome now (IsBegun header)
  begun-after result behind wrote begun =
      both-then (WroteSome result (128 * first) wide) (IsBegun header) (IsBegun header) before now
      (λ x y w b. subst (IsBegun header) (sym w.others_stay) (begun-stays header x w.left (128 * first) (omega (arith, behind)) (omega (arith, b.size, long, inside, w.as_many)) b)) wrote begun

  pub copied-after : {T : Type 0} (E : Type 0) (value : T) (told : Option (List ℕ)) (low : ℕ) → Wrote {T = T} {E = E} (Ok value) (128 * first) wide before now → IfSome before (IsBegun header) →
      IfSome told (λ old. IfSome before (AreCopied header low first old)) → IfSome told (λ old. IsBlockOf header first old wide) → IfSome told (λ old. IfSome now (AreCopied header low (first + block_cells header) old))
  copied-after {T = T} E value told low wrote begun copied block =
      some-both (λ old. IfSome before (AreCopied header low first old)) (λ old. IsBlockOf header first old wide) (λ old. IfSome now (AreCopied header low (first + block_cells header) old)) told
      (λ old was here.
      both-then (WroteSome {T = T} {E = E} (Ok value) (128 * first) wide) (λ x. IsBegun header x × AreCopied header low first old x) (AreCopied header low (first + block_cells header) old) before now
      (λ x y w both. subst (AreCopied header low (first + block_cells header) old) (sym (wrote-exact E value (128 * first) wide x y w)) (copied-more header old x wide low first (omega (arith, both.0.size, inside)) long both.1 here))
      wrote (some-both (IsBegun header) (AreCopied header low first old) (λ x. IsBegun header x × AreCopied header low first old x) before (λ x b c. (b, c)) begun was))
      copied block

-- ---- the first block

pub spelled-first : (header : Fields) (old wide : List ℕ) → IsBlockOf header 0 old wide → AreSpelled header 0 (block_cells header) old
spelled-first header old wide block = λ n from below run. spelled-of header old wide 0 block n from (omega (arith, below)) run

module _ (header : Fields) (left : List ℕ) (long : length left ≡ 128 * block_cells header) (within : block_cells header ≤ cells_of header) (before now : Option (List ℕ)) (begun : IfSome before (IsBegun header)) where
  pub first-inside : HasRange before 0 (length left)
  first-inside = some-then (IsBegun header) (λ bytes. 0 + length left ≤ length bytes) before (λ new b. omega (arith, b.size, long, within)) begun

  pub first-size : {T E : Type 0} (result : Result T E) → Wrote result 0 left before now → IfSome now (λ new. length new ≡ wide_size header)
  first-size result wrote =
      both-then (WroteSome result 0 left) (IsBegun header) (λ new. length new ≡ wide_size header) before now
      (λ x y w b. length-WroteSome w (omega (arith, b.size, long, within)) ∙ b.size) wrote begun

  pub first-behind : {T E : Type 0} (result : Result T E) (told : Option (List ℕ)) → Wrote result 0 left before now → IfSome told (λ old. IfSome before (AreCopied header (block_cells header) (cells_of header) old)) →
      IfSome told (λ old. IfSome now (AreCopied header (block_cells header) (cells_of header) old))
  first-behind result told wrote copied =
      some-then (λ old. IfSome before (AreCopied header (block_cells header) (cells_of header) old)) (λ old. IfSome now (AreCopied header (block_cells header) (cells_of header) old)) told
      (λ old was.
      both-then (WroteSome result 0 left) (AreCopied header (block_cells header) (cells_of header) old) (AreCopied header (block_cells header) (cells_of header) old) before now
      (λ x y w c. subst (AreCopied header (block_cells header) (cells_of header) old) (sym w.others_stay) (copied-behind header old x w.left (block_cells header) (cells_of header) (w.as_many ∙ long) c)) wrote was) copied

pub first-whole : {T : Type 0} (E : Type 0) (value : T) (header : Fields) (head wide : List ℕ) (told before now : Option (List ℕ)) → length head ≡ 512 → 8 ≤ block_cells header → length wide ≡ 128 * block_cells header →
    Wrote {T = T} {E = E} (Ok value) 0 (splice wide 0 head) before now → IfSome told (λ old. IfSome before (AreCopied header (block_cells header) (cells_of header) old)) → IfSome told (λ old. IsBlockOf header 0 old wide) →
    IfSome told (λ old. IfSome now (IsFilled header head old))
first-whole {T = T} E value header head wide told before now long some many wrote copied block =
    some-both (λ old. IfSome before (AreCopied header (block_cells header) (cells_of header) old)) (λ old. IsBlockOf header 0 old wide) (λ old. IfSome now (IsFilled header head old)) told
    (λ old was here.
    both-then (WroteSome {T = T} {E = E} (Ok value) 0 (splice wide 0 head)) (AreCopied header (block_cells header) (cells_of header) old) (IsFilled header head old) before now
    (λ x y w c. subst (IsFilled header head old) (sym (wrote-exact E value 0 (splice wide 0 head) x y w)) (first-filled header head old x wide long some many c here)) wrote was) copied block

-- a fact is one on Ok
pub on-ok : {T E P : Type 0} (result : Result T E) → P → OnOk result P
on-ok (Ok value) p = p
on-ok (Err fault) p = tt

-- a write, and something after it that changes no byte
pub wrote-then : {T U E : Type 0} (F : Type 0) (value : U) (result : Result T E) (at : ℕ) (from : List ℕ) (x y z : Option (List ℕ)) → z ≡ y → Wrote {T = U} {E = F} (Ok value) at from x y → Wrote result at from x z
wrote-then F value result at from None None z same w = subst (λ (o : Option (List ℕ)). Wrote result at from None o) (sym same) tt
wrote-then F value result at from None (Some y) z same w = absurd w
wrote-then F value result at from (Some x) None z same w = absurd w
wrote-then {U = U} F value result at from (Some x) (Some y) z same w =
    subst (λ (o : Option (List ℕ)). Wrote result at from (Some x) o) (sym same)
    (let v : WroteSome {T = U} {E = F} (Ok value) at from x y = w in record { left = v.left; as_many = v.as_many; others_stay = v.others_stay; exact = on-ok result v.exact })

-- a write that was refused, by another word
pub wrote-err : (T : Type 0) {U E F : Type 0} (result : Result U F) (fault : E) (at : ℕ) (from : List ℕ) (x y : Option (List ℕ)) → Wrote result at from x y → Wrote {T = T} (Err fault) at from x y
wrote-err T result fault at from None None w = tt
wrote-err T result fault at from None (Some y) w = absurd w
wrote-err T result fault at from (Some x) None w = absurd w
wrote-err T result fault at from (Some x) (Some y) w = record { left = w.left; as_many = w.as_many; others_stay = w.others_stay; exact = tt }
