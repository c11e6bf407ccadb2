-- What stands in a window behind the cells that a head went on by.
use Rattle.std.proofs.Common.{◌≡◌, inl, inr, ℕ, zero, suc, ◌+◌, ◌-◌, ◌*◌, ◌<◌, ◌≤◌, min, List, length, take, drop, Option, Some, None, refl, ap, sym, ◌∙◌, arith}
use Rattle.std.proofs.lemmas.Bool.Decides.{leb_tells}
use Rattle.std.proofs.Math.ListN.{drop_of_length-le}
use Rattle.std.proofs.Math.Seq.{take-length}
use Rattle.std.proofs.lemmas.List.{length-drop}
use Rattle.std.proofs.lemmas.Option.{none-some}
use Rattle.cola_cell.specs.declared.cell.Cell.{Cell}
use Rattle.cola_cell.specs.declared.format.Format.{Format}
use Rattle.cola_merge.specs.Fetched.{Head}
use Rattle.cola_cell.specs.Decoded.{stands}
use Rattle.cola_merge.specs.Weaving.{gone_cell, gone, standing_head}

-- a head that was not held, or went on
pub gone_on : (format : Format) (step count : ℕ) (window : List ℕ) (at : ℕ) (head : Head) → ((count ≡ 0) → head.cell ≡ None) → at ≡ head.at + count → standing_head format at (drop (count * step) window) ≡ gone format step count window head
gone_on format step count window at head h e =
    ap (λ (n : ℕ). record { at = n; cell = stands format (drop (count * step) window) }) e
    ∙ ap (λ (x : Option Cell). record { at = head.at + count; cell = x }) (by count head.cell (drop (count * step) window) h)
  where
    by : (n : ℕ) (x : Option Cell) (bytes : List ℕ) → ((n ≡ 0) → x ≡ None) → stands format bytes ≡ gone_cell format n bytes x
    by zero None bytes h = refl
    by zero (Some c) bytes h = absurd (none-some c (sym (h refl)))
    by (suc n) x bytes h = refl

-- nothing lies behind the end
pub drop_least : (n : ℕ) (xs : List ℕ) → drop (min n (length xs)) xs ≡ drop n xs
drop_least n xs = elim (leb_tells n (length xs)) [
  | inl e ↦ let l : n ≤ length xs = e.1 in ap (λ (m : ℕ). drop m xs) (let z : min n (length xs) ≡ n = omega (arith, l) in z)
  | inr e ↦
      let l : length xs < n = e.1 in
      ap (λ (m : ℕ). drop m xs) (let z : min n (length xs) ≡ length xs = omega (arith, l) in z)
      ∙ drop_of_length-le xs (omega arith) ∙ sym (drop_of_length-le xs (omega (arith, l)))
]

pub take_rest : (n : ℕ) (xs : List ℕ) → take (length xs - n) (drop n xs) ≡ drop n xs
take_rest n xs = ap (λ (m : ℕ). take m (drop n xs)) (sym (length-drop n xs)) ∙ take-length (drop n xs)
