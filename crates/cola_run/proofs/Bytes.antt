-- Cells among bytes of which some were written.
use Rattle.std.proofs.lemmas.List.{drop-drop}
use Rattle.std.proofs.Common.{◌≡◌, ◌≢◌, ℕ, ◌+◌, ◌*◌, ◌/◌, ◌%◌, ◌<◌, ◌≤◌, List, length, inl, inr, sym, ap, ◌∙◌, arith, drop, ◌-◌}
use Rattle.std.proofs.Math.Nat.{div-add-mod, mod-lt, mul-add, mul-le-mul_left, mul_comm, mul_left_comm}
use Rattle.cola_cell.specs.declared.format.Format.{Format}
use Rattle.cola_cell.specs.Format.{width}
use Rattle.cola_device.specs.Bytes.{part, splice}
use Rattle.cola_device.proofs.BytesLemmas.{drop-splice_end, part-splice_inside, part-splice_below, part-splice_above, part-part}
use Rattle.cola_front.specs.Front.{cell_bytes}
use Rattle.cola_run.proofs.Numbers.{block-apart}

-- a cell before those that were written stays
pub cell-below : (f : Format) (bytes new : List ℕ) (m c : ℕ) → width f * m ≤ length bytes → c + 1 ≤ m → cell_bytes f (splice bytes (width f * m) new) c ≡ cell_bytes f bytes c
cell-below f bytes new m c holds below = part-splice_below bytes (width f * m) new (width f * c) (width f) holds (omega (arith, mul-le-mul_left (width f) below))

-- and so does one behind them
pub cell-above : (f : Format) (bytes new : List ℕ) (m n c : ℕ) → width f * m ≤ length bytes → length new ≡ width f * n → m + n ≤ c → cell_bytes f (splice bytes (width f * m) new) c ≡ cell_bytes f bytes c
cell-above f bytes new m n c holds many above = part-splice_above bytes (width f * m) new (width f * c) (width f) holds (omega (arith, many, mul-le-mul_left (width f) above))

-- one of them is new
pub cell-inside : (f : Format) (bytes new : List ℕ) (m n p : ℕ) → width f * m ≤ length bytes → length new ≡ width f * n → p < n → cell_bytes f (splice bytes (width f * m) new) (m + p) ≡ cell_bytes f new p
cell-inside f bytes new m n p holds many within =
    ap (λ (at : ℕ). part (splice bytes (width f * m) new) at (width f)) (mul-add (width f) m p)
    ∙ part-splice_inside bytes (width f * m) new (width f * p) (width f) holds (omega (arith, many, mul-le-mul_left (width f) within))

-- bytes of as many cells have room for fewer
pub room-of : (f : Format) (m n : ℕ) → m ≤ n → width f * m ≤ width f * n
room-of f m n h = mul-le-mul_left (width f) h

pub room-sum : (f : Format) (m n : ℕ) → width f * m + width f * n ≡ width f * (m + n)
room-sum f m n = sym (mul-add (width f) m n)

-- a cell of a part
pub cell-part : (f : Format) (bytes : List ℕ) (m n p : ℕ) → p < n → cell_bytes f (part bytes (width f * m) (width f * n)) p ≡ cell_bytes f bytes (m + p)
cell-part f bytes m n p within =
    part-part bytes (width f * m) (width f * n) (width f * p) (width f) (omega (arith, mul-le-mul_left (width f) within)) ∙ ap (λ (at : ℕ). part bytes at (width f)) (sym (mul-add (width f) m p))

-- where a block begins, in bytes
pub block-from : (f : Format) (block k : ℕ) → k * (width f * block) ≡ width f * (block * k)
block-from f block k = mul_left_comm k (width f) block ∙ ap (λ (n : ℕ). width f * n) (mul_comm k block)

-- bytes in which one whole block was written
module _ (f : Format) (bytes new : List ℕ) (block k : ℕ) (some : 0 < block) (holds : width f * (block * k) ≤ length bytes) (whole : length new ≡ width f * block) where
  -- a cell of another block stays
  pub block-stays : (c : ℕ) → c / block ≢ k → cell_bytes f (splice bytes (k * (width f * block)) new) c ≡ cell_bytes f bytes c
  block-stays c apart =
      ap (λ (at : ℕ). cell_bytes f (splice bytes at new) c) (block-from f block k)
      ∙ elim (block-apart block k c some apart) [
        | inl below ↦ cell-below f bytes new (block * k) c holds below
        | inr above ↦ cell-above f bytes new (block * k) block c holds whole above
      ]

  -- a cell of this one is new
  pub block-is_new : (c : ℕ) → c / block ≡ k → cell_bytes f (splice bytes (k * (width f * block)) new) c ≡ cell_bytes f new (c % block)
  block-is_new c here =
      let at : block * k + c % block ≡ c = ap (λ (n : ℕ). block * n + c % block) (sym here) ∙ div-add-mod c block in
      ap (λ (from : ℕ). cell_bytes f (splice bytes from new) c) (block-from f block k)
      ∙ ap (λ (n : ℕ). cell_bytes f (splice bytes (width f * (block * k)) new) n) (sym at)
      ∙ cell-inside f bytes new (block * k) block (c % block) holds whole (mod-lt c some)

-- a cell of a whole block
pub block-cell : (f : Format) (bytes : List ℕ) (block c : ℕ) → 0 < block → cell_bytes f (part bytes (c / block * (width f * block)) (width f * block)) (c % block) ≡ cell_bytes f bytes c
block-cell f bytes block c some =
    ap (λ (at : ℕ). cell_bytes f (part bytes at (width f * block)) (c % block)) (block-from f block (c / block))
    ∙ cell-part f bytes (block * (c / block)) block (c % block) (mod-lt c some)
    ∙ ap (λ (n : ℕ). cell_bytes f bytes n) (div-add-mod c block)

-- what lies behind a piece that was written stays
pub drop-behind : (bytes new : List ℕ) (at end : ℕ) → at + length new ≤ length bytes → at + length new ≤ end → drop end (splice bytes at new) ≡ drop end bytes
drop-behind bytes new at end holds behind =
    let e : at + length new + (end - (at + length new)) ≡ end = omega (arith, behind) in
    ap (λ (n : ℕ). drop n (splice bytes at new)) (sym e)
    ∙ sym (drop-drop (end - (at + length new)) (at + length new) (splice bytes at new))
    ∙ ap (λ (xs : List ℕ). drop (end - (at + length new)) xs) (drop-splice_end bytes at new (omega (arith, holds)))
    ∙ drop-drop (end - (at + length new)) (at + length new) bytes
    ∙ ap (λ (n : ℕ). drop n bytes) e
