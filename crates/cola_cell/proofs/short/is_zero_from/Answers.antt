use Rattle.std.proofs.Common.{◌≡◌, ◌≤◌, ◌<◌, ◌+◌, ◌-◌, ◌*◌, ◌^◌, ◌↔◌, ℕ, List, length, take, drop, slice_index, eq-eqb, arith, sym, ap, ◌∙◌, inl, inr}
use Rattle.std.proofs.lemmas.Bool.{cases_lt, eqb-true}
use Rattle.std.proofs.lemmas.List.{get_or_past}
use Rattle.std.proofs.lemmas.Nat.{le_or_l, le_or_r}
use Rattle.std.specs.Int.Bits.{bit_and, bit_or}
use Rattle.byteorder.specs.Endian.{little_number}
use Rattle.cola_cell.proofs.Words.{zero-behind, zero-left, mask-bytes, mask-word}
use Rattle.cola_cell.proofs.short.is_zero_from.Goals as goal

-- how many bytes of a word stand before the start
abbrev used : ℕ → ℕ → ℕ
used start word = 8 - (8 - (start - 8 * word))

-- the mask of a word
mask-of : (start word mask : ℕ) (masks : List ℕ) → masks ≡ mask-bytes → start ≤ 72 → word < 9
    → mask ≡ little_number 8 (take (length masks - (72 - start + 8 * word)) (drop (72 - start + 8 * word) masks)) → mask ≡ 2 ^ 64 - 2 ^ (8 * used start word)
mask-of start word mask masks are low few is =
    let at : 72 - (72 - start + 8 * word) ≡ start - 8 * word = omega arith in
    is ∙ ap (λ (xs : List ℕ). little_number 8 (take (length xs - (72 - start + 8 * word)) (drop (72 - start + 8 * word) xs))) are
    ∙ mask-word (72 - start + 8 * word) (omega arith) ∙ ap (λ (n : ℕ). 2 ^ 64 - 2 ^ (8 * (8 - (8 - n)))) at

-- what is gathered is zero where both parts are
both-zero : (a b : ℕ) → (bit_or a b ≡ 0) ↔ ((a ≡ 0) × (b ≡ 0))
both-zero a b = (
  λ is. (omega (arith, le_or_l a b), omega (arith, le_or_r a b)),
  λ are. ap (λ (x : ℕ). bit_or x b) are.0 ∙ are.1,
)

pub loop-word-preserved : goal.loop-word-preserved
loop-word-preserved c =
    let mask = mask-of c.args.start c.loop-word.word c.read_u64-mask.result c.as_flattened-masks.result.now c.as_flattened-masks.ensures.value
    (omega arith) (omega arith) c.read_u64-mask.ensures in
    let fits : (i : ℕ) → slice_index c.args.room.now i < 256 = λ i. let low = c.type_inv.room i in omega arith in
    let parts = both-zero c.loop-word.rest (bit_and c.read_u64.result c.read_u64-mask.result) in (
      λ is k low high. elim (cases_lt k (8 * c.loop-word.word)) [
        | inl before ↦ c.loop-word.invariant.0 (parts.0 is).0 k low before
        | inr here ↦ zero-behind c.args.room.now fits (8 * c.loop-word.word) (used c.args.start c.loop-word.word) (length c.args.room.now - 8 * c.loop-word.word) (omega arith) (omega arith)
            c.read_u64.result c.read_u64.ensures (omega (arith, c.read_u64.type_inv)) (sym (ap (bit_and c.read_u64.result) mask) ∙ (parts.0 is).1)
            k (omega arith) (omega arith)
      ],
      λ all. parts.1 (
        c.loop-word.invariant.1 (λ k low high. all k low (omega arith)),
        ap (bit_and c.read_u64.result) mask
            ∙ zero-left c.args.room.now fits (8 * c.loop-word.word) (used c.args.start c.loop-word.word) (length c.args.room.now - 8 * c.loop-word.word) (omega arith) (omega arith)
            c.read_u64.result c.read_u64.ensures (omega (arith, c.read_u64.type_inv)) (λ k low high. all k (omega arith) (omega arith)),
      ),
    )

pub returns : goal.returns
returns c = (
  λ is k low. elim (cases_lt k (length c.args.room.now)) [
    | inl inside ↦ c.loop-word.invariant.0 (eqb-true c.loop-word.rest 0 is) k low (omega arith)
    | inr past ↦ get_or_past c.args.room.now k 0 past
  ],
  λ all. eq-eqb c.loop-word.rest 0 (c.loop-word.invariant.1 (λ k low high. all k low)),
)
