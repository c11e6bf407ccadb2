-- The cells of a file and of its copy, among bytes that are read and written.
use Rattle.std.proofs.Common.{◌≡◌, ℕ, ◌+◌, ◌-◌, ◌*◌, ◌<◌, ◌≤◌, inl, inr, List, ◌++◌, length, take, drop, replicate, refl, sym, ap, subst, ◌∙◌, arith}
use borrow.Rule.Slice.PartMut.{put_mid}
use Rattle.std.proofs.lemmas.Bool.{cases_lt}
use Rattle.std.proofs.lemmas.List.{take_all}
use Rattle.cola_cell.specs.declared.format.Format.TheVariants.{One, Two}
use Rattle.cola_cell.specs.Spelling.{IsNoSpelling}
use Rattle.cola_device.specs.Bytes.{part, splice}
use Rattle.cola_device.proofs.BytesLemmas.{length-splice, part-splice, part-splice_inside, part-splice_below, part-splice_above, part-part, part-append}
use Rattle.cola_layout.specs.Header.{Fields}
use Rattle.cola_layout.proofs.Places.{place-behind}
use Rattle.cola_clock.specs.Clock.{visible_slot}
use Rattle.cola_layout.specs.Cells.{cell_bytes}
use Rattle.cola_wide.specs.Runs.{IsOfRun}
use Rattle.cola_wide.specs.Copied.{block_cells, cells_of, IsSpelled, SpellSameCell, IsCopied, IsBad, IsBlockCopied, IsBlockBad, IsBlockOf, AreSpelled, AreCopied, IsLowestBad, IsBegun, IsFilled}

-- a number by its place behind another
place-in : (first number : ℕ) → first ≤ number → first + (number - first) ≡ number
place-in first number from = omega arith

-- ---- a block, cell by cell

-- a cell that was put into a block
cell-put : (wide two : List ℕ) (place : ℕ) → 128 * place ≤ length wide → length two ≡ 128 → cell_bytes Two (splice wide (128 * place) two) place ≡ two
cell-put wide two place holds long = ap (λ (n : ℕ). take n (drop (128 * place) (splice wide (128 * place) two))) (sym long) ∙ part-splice wide (128 * place) two holds

-- one more cell of a block
pub block-next : (header : Fields) (first place : ℕ) (narrow wide two : List ℕ) → 128 * place + 128 ≤ length wide → length two ≡ 128 → IsBlockCopied header first place narrow wide →
    IsCopied header (first + place) (take (64 * place + 64 - 64 * place) (drop (64 * place) narrow)) two → IsBlockCopied header first (place + 1) narrow (put_mid (128 * place) (128 * place + 128 - 128 * place) wide two)
block-next header first place narrow wide two room long copied next =
    let more : 128 * place + 128 - 128 * place ≡ length two = omega (arith, long) in
    let many : 64 * place + 64 - 64 * place ≡ 64 = omega arith in
    subst (λ (n : ℕ). IsBlockCopied header first (place + 1) narrow (put_mid (128 * place) n wide two)) (sym more)
    (λ k below. elim (cases_lt k place) [
      | inl before ↦
          subst (λ (xs : List ℕ). IsCopied header (first + k) (cell_bytes One narrow k) xs)
          (sym (part-splice_below wide (128 * place) two (128 * k) 128 (omega (arith, room)) (omega (arith, before)))) (copied k before)
      | inr behind ↦
          let here : place ≡ k = omega (arith, behind, below) in
          subst (λ (n : ℕ). IsCopied header (first + n) (cell_bytes One narrow n) (cell_bytes Two (splice wide (128 * place) two) n)) here
          (subst (λ (xs : List ℕ). IsCopied header (first + place) (cell_bytes One narrow place) xs) (sym (cell-put wide two place (omega (arith, room)) long))
          (subst (λ (n : ℕ). IsCopied header (first + place) (take n (drop (64 * place) narrow)) two) many next))
    ])

-- a cell of a block that is bad, behind others that are copied
pub block-bad : (header : Fields) (first count place : ℕ) (narrow wide : List ℕ) → place < count → IsBlockCopied header first place narrow wide → IsBad header (first + place) (take (64 * place + 64 - 64 * place) (drop (64 * place) narrow)) →
    IsBlockBad header first count narrow (first + place)
block-bad header first count place narrow wide within copied bad = record {
  place = place;
  within = within;
  at = refl;
  bad = subst (λ (n : ℕ). IsBad header (first + place) (take n (drop (64 * place) narrow))) (let e : 64 * place + 64 - 64 * place ≡ 64 = omega arith in e) bad;
  lowest = λ k below run. let same : SpellSameCell (cell_bytes One narrow k) (cell_bytes Two wide k) = (copied k below).run run in (same.cell, same.was);
}

-- ---- bytes that were read

-- a cell of a block that was read from a file
cell-read : (old narrow : List ℕ) (first count k : ℕ) → narrow ≡ part old (64 * first) (length narrow) → length narrow ≡ 64 * count → k < count → cell_bytes One narrow k ≡ cell_bytes One old (first + k)
cell-read old narrow first count k is long within =
    ap (λ (xs : List ℕ). part xs (64 * k) 64) (is ∙ ap (λ (n : ℕ). part old (64 * first) n) long)
    ∙ part-part old (64 * first) (64 * count) (64 * k) 64 (omega (arith, within))
    ∙ ap (λ (at : ℕ). part old at 64) (let e : 64 * first + 64 * k ≡ 64 * (first + k) = omega arith in e)

-- a block of the copy, by the bytes that were read
pub block-of : (header : Fields) (old narrow wide : List ℕ) (first count : ℕ) → narrow ≡ part old (64 * first) (length narrow) → length narrow ≡ 64 * count → count ≡ block_cells header → IsBlockCopied header first count narrow wide →
    IsBlockOf header first old wide
block-of header old narrow wide first count is long many copied k within =
    let below : k < count = omega (arith, within, many) in
    subst (λ (xs : List ℕ). IsCopied header (first + k) xs (cell_bytes Two wide k)) (cell-read old narrow first count k is long below) (copied k below)

-- the lowest bad cell of a block is the lowest from the block's first on
pub bad-of : (header : Fields) (old narrow : List ℕ) (first count number : ℕ) → narrow ≡ part old (64 * first) (length narrow) → length narrow ≡ 64 * count → first + count ≤ cells_of header → IsBlockBad header first count narrow number →
    IsLowestBad header first number old
bad-of header old narrow first count number is long inside bad = record {
  from = omega (arith, bad.at);
  within = omega (arith, bad.at, bad.within, inside);
  bad = subst (λ (n : ℕ). IsBad header n (cell_bytes One old n)) (sym bad.at)
      (record { run = bad.bad.run; none = subst (λ (xs : List ℕ). IsNoSpelling One xs) (cell-read old narrow first count bad.place is long bad.within) bad.bad.none });
  lowest = λ n from below run.
      let e : first + (n - first) ≡ n = place-in first n from in
      subst (λ (x : ℕ). IsSpelled (cell_bytes One old x)) e
      (subst (λ (xs : List ℕ). IsSpelled xs) (cell-read old narrow first count (n - first) is long (omega (arith, below, from, bad.at, bad.within)))
      (bad.lowest (n - first) (omega (arith, below, from, bad.at)) (subst (λ (x : ℕ). IsOfRun header x) (sym e) run)));
}

-- ---- cells that are spelled

pub spelled-of : (header : Fields) (old wide : List ℕ) (first : ℕ) → IsBlockOf header first old wide → AreSpelled header first (first + block_cells header) old
spelled-of header old wide first block = λ n from below run.
    let e : first + (n - first) ≡ n = place-in first n from in
    let same : SpellSameCell (cell_bytes One old (first + (n - first))) (cell_bytes Two wide (n - first)) = (block (n - first) (omega (arith, from, below))).run (subst (λ (x : ℕ). IsOfRun header x) (sym e) run) in
    subst (λ (x : ℕ). IsSpelled (cell_bytes One old x)) e (same.cell, same.was)

pub spelled-join : (header : Fields) (old : List ℕ) (low mid high : ℕ) → AreSpelled header low mid old → AreSpelled header mid high old → AreSpelled header low high old
spelled-join header old low mid high first second = λ n from below run. elim (cases_lt n mid) [
  | inl before ↦ first n from before run
  | inr behind ↦ second n behind below run
]

pub bad-later : (header : Fields) (old : List ℕ) (low mid number : ℕ) → low ≤ mid → AreSpelled header low mid old → IsLowestBad header mid number old → IsLowestBad header low number old
bad-later header old low mid number order first bad = record {
  from = omega (arith, order, bad.from);
  within = bad.within;
  bad = bad.bad;
  lowest = spelled-join header old low mid number first bad.lowest;
}

-- ---- bytes that were written

-- a cell of a block that was written
cell-written : (new wide : List ℕ) (first count k : ℕ) → 128 * first ≤ length new → length wide ≡ 128 * count → k < count → cell_bytes Two (splice new (128 * first) wide) (first + k) ≡ cell_bytes Two wide k
cell-written new wide first count k holds long within =
    ap (λ (at : ℕ). part (splice new (128 * first) wide) at 128) (let e : 128 * (first + k) ≡ 128 * first + 128 * k = omega arith in e)
    ∙ part-splice_inside new (128 * first) wide (128 * k) 128 holds (omega (arith, long, within))

-- one more block of the copy
pub copied-more : (header : Fields) (old new wide : List ℕ) (low first : ℕ) → 128 * first ≤ length new → length wide ≡ 128 * block_cells header → AreCopied header low first old new → IsBlockOf header first old wide →
    AreCopied header low (first + block_cells header) old (splice new (128 * first) wide)
copied-more header old new wide low first holds long copied block = λ n from below. elim (cases_lt n first) [
  | inl before ↦
      subst (λ (xs : List ℕ). IsCopied header n (cell_bytes One old n) xs) (sym (part-splice_below new (128 * first) wide (128 * n) 128 holds (omega (arith, before)))) (copied n from before)
  | inr behind ↦
      let e : first + (n - first) ≡ n = place-in first n behind in
      let within : n - first < block_cells header = omega (arith, below, behind) in
      subst (λ (x : ℕ). IsCopied header x (cell_bytes One old x) (cell_bytes Two (splice new (128 * first) wide) x)) e
      (subst (λ (xs : List ℕ). IsCopied header (first + (n - first)) (cell_bytes One old (first + (n - first))) xs)
      (sym (cell-written new wide first (block_cells header) (n - first) holds long within)) (block (n - first) within))
]

-- a copy that was begun stays so where a block behind the first is written
pub begun-stays : (header : Fields) (new left : List ℕ) (at : ℕ) → 512 ≤ at → at + length left ≤ length new → IsBegun header new → IsBegun header (splice new at left)
begun-stays header new left at behind inside begun = record {
  size = length-splice new at left inside ∙ begun.size;
  no_header = part-splice_below new at left 0 512 (omega (arith, inside)) (omega (arith, behind)) ∙ begun.no_header;
}

-- all behind the first block stays where that is written
pub copied-behind : (header : Fields) (old new left : List ℕ) (count high : ℕ) → length left ≡ 128 * count → AreCopied header count high old new → AreCopied header count high old (splice new 0 left)
copied-behind header old new left count high long copied = λ n from below.
    subst (λ (xs : List ℕ). IsCopied header n (cell_bytes One old n) xs) (sym (part-splice_above new 0 left (128 * n) 128 (omega arith) (omega (arith, long, from)))) (copied n from below)

-- ---- the first block

-- the cells before 8 are of no run
no-run : (header : Fields) (number : ℕ) → number < 8 → IsOfRun header number → ⊥
no-run header number low (level, (within, inl among)) = omega (arith, low, among.0, place-behind level (visible_slot header.clock level) 0)
no-run header number low (level, (within, inr among)) = omega (arith, low, among.0, place-behind level (1 - visible_slot header.clock level) 0)

-- so they are zero
zero-cell : (header : Fields) (old wide : List ℕ) (k : ℕ) → k < 8 → 8 ≤ block_cells header → IsBlockOf header 0 old wide → cell_bytes Two wide k ≡ replicate 128 0
zero-cell header old wide k low some block = (block k (omega (arith, low, some))).other (no-run header (0 + k) (omega (arith, low)))

zero-behind : (header : Fields) (old wide : List ℕ) → 8 ≤ block_cells header → IsBlockOf header 0 old wide → part wide 512 512 ≡ replicate 512 0
zero-behind header old wide some block =
    let four : part wide 512 128 ≡ replicate 128 0 = zero-cell header old wide 4 (omega arith) some block in
    let five : part wide 640 128 ≡ replicate 128 0 = zero-cell header old wide 5 (omega arith) some block in
    let six : part wide 768 128 ≡ replicate 128 0 = zero-cell header old wide 6 (omega arith) some block in
    let seven : part wide 896 128 ≡ replicate 128 0 = zero-cell header old wide 7 (omega arith) some block in
    let low : part wide 512 256 ≡ replicate 128 0 ++ replicate 128 0 = sym (part-append wide 512 128 128) ∙ ap (λ (xs : List ℕ). xs ++ part wide 640 128) four ∙ ap (λ (xs : List ℕ). replicate 128 0 ++ xs) five in
    let high : part wide 768 256 ≡ replicate 128 0 ++ replicate 128 0 = sym (part-append wide 768 128 128) ∙ ap (λ (xs : List ℕ). xs ++ part wide 896 128) six ∙ ap (λ (xs : List ℕ). replicate 128 0 ++ xs) seven in
    sym (part-append wide 512 256 256) ∙ ap (λ (xs : List ℕ). xs ++ part wide 768 256) low ∙ ap (λ (xs : List ℕ). (replicate 128 0 ++ replicate 128 0) ++ xs) high

-- a part of bytes at whose begin others were put
part-start : (bytes new : List ℕ) (from count : ℕ) → from + count ≤ length new → part (splice bytes 0 new) from count ≡ part new from count
part-start bytes new from count inside =
    ap (λ (at : ℕ). part (splice bytes 0 new) at count) (let e : from ≡ 0 + from = omega arith in e) ∙ part-splice_inside bytes 0 new from count (omega arith) inside

-- the copy is whole where its first block is written with the header's bytes
pub first-filled : (header : Fields) (head old new wide : List ℕ) → length head ≡ 512 → 8 ≤ block_cells header → length wide ≡ 128 * block_cells header →
    AreCopied header (block_cells header) (cells_of header) old new → IsBlockOf header 0 old wide → IsFilled header head old (splice new 0 (splice wide 0 head))
first-filled header head old new wide long some many copied block =
    let first : List ℕ = splice wide 0 head in
    let size : length first ≡ 128 * block_cells header = length-splice wide 0 head (omega (arith, long, some, many)) ∙ many in
    record {
      head_is =
          part-start new first 0 512 (omega (arith, size, some))
          ∙ part-start wide head 0 512 (omega (arith, long))
          ∙ take_all 512 head (omega (arith, long));
      behind_head =
          part-start new first 512 512 (omega (arith, size, some))
          ∙ part-splice_above wide 0 head 512 512 (omega arith) (omega (arith, long))
          ∙ zero-behind header old wide some block;
      cells = λ n from below. elim (cases_lt n (block_cells header)) [
        | inl before ↦
            subst (λ (xs : List ℕ). IsCopied header n (cell_bytes One old n) xs)
            (sym (part-start new first (128 * n) 128 (omega (arith, size, before))
            ∙ part-splice_above wide 0 head (128 * n) 128 (omega arith) (omega (arith, long, from))))
            (subst (λ (x : ℕ). IsCopied header x (cell_bytes One old x) (cell_bytes Two wide n)) (let e : 0 + n ≡ n = omega arith in e) (block n before))
        | inr behind ↦ copied-behind header old new first (block_cells header) (cells_of header) size copied n behind below
      ];
    }
