-- One block of bytes after another, written into a list.
use Rattle.std.proofs.Common.{◌≡◌, ℕ, ◌+◌, ◌*◌, ◌<◌, ◌≤◌, List, [], ◌∷◌, ◌++◌, length, take, drop, get_or, flat_map, cond, refl, sym, ◌∙◌, ap, arith}
use Rattle.std.proofs.lemmas.List.{take_at, length-take-le, length-append, length-drop, append_assoc, take_all, take_more, flat_map_more}
use Rattle.std.specs.Prelude.{codes}
use Rattle.byteorder.specs.Endian.{little_bytes}
use Rattle.cola_layout.specs.declared.marks.Marks.{Marks}
use Rattle.cola_layout.specs.Marks.{no_marks}
use Rattle.cola_layout.specs.Header.{Fields, head_bytes, marks_bytes, version_of}

-- a list after a block of n bytes was written at a place
pub record Written (at n : ℕ) (block before after : List ℕ) : Type 0 where
  pub is : after ≡ take at before ++ (block ++ drop (at + n) before)
  pub long : length block ≡ n
  pub fits : at + n ≤ length before

module _ {at n : ℕ} {block before after : List ℕ} (w : Written at n block before after) where
  -- it keeps its length
  pub written-length : length after ≡ length before
  written-length =
      let fits : at + n ≤ length before = w.fits in
      let front : length (take at before) ≡ at = length-take-le at before (omega arith) in
      let long : length block ≡ n = w.long in
      rw w.is (simp (length-append, length-drop) (omega arith))

  -- what stood before the block, and the block, are its front
  pub written-front : (end : ℕ) → end ≡ at + n → (front : List ℕ) → take at before ≡ front → take end after ≡ front ++ block
  written-front end end_is front e =
      let fits : at + n ≤ length before = w.fits in
      let front_long : length (take at before) ≡ at = length-take-le at before (omega arith) in
      let long : length block ≡ n = w.long in
      let both : length (take at before ++ block) ≡ at + n = length-append (take at before) block ∙ omega (arith, front_long, long) in
      ap (λ (k : ℕ). take k after) end_is ∙ ap (take (at + n)) (w.is ∙ sym (append_assoc (take at before) block (drop (at + n) before)))
      ∙ take_at (take at before ++ block) (drop (at + n) before) (at + n) both
      ∙ ap (λ (xs : List ℕ). xs ++ block) e

-- blocks behind a front
regroup : (p a b c d e : List ℕ) → ((((p ++ a) ++ b) ++ c) ++ d) ++ e ≡ p ++ ((((a ++ b) ++ c) ++ d) ++ e)
regroup p a b c d e = simp append_assoc

-- a level's marks, number by number
pub marks-written : (at : ℕ) (m : Marks) (s0 s1 s2 s3 s4 s5 : List ℕ) → at + 20 ≤ length s0 →
    s1 ≡ take at s0 ++ (little_bytes 4 m.visible ++ drop (at + 4) s0) →
    s2 ≡ take (at + 4) s1 ++ (little_bytes 4 m.shadow ++ drop (at + 4 + 4) s1) →
    s3 ≡ take (at + 8) s2 ++ (little_bytes 4 m.own ++ drop (at + 8 + 4) s2) →
    s4 ≡ take (at + 12) s3 ++ (little_bytes 4 m.incoming ++ drop (at + 12 + 4) s3) →
    s5 ≡ take (at + 16) s4 ++ (little_bytes 4 m.sample ++ drop (at + 16 + 4) s4) →
    take (at + 20) s5 ≡ take at s0 ++ marks_bytes m
unfolding marks_bytes
marks-written at m s0 s1 s2 s3 s4 s5 fits e1 e2 e3 e4 e5 =
    let w1 : Written at 4 (little_bytes 4 m.visible) s0 s1 = record { is = e1; long = refl; fits = omega arith } in
    let l1 : length s1 ≡ length s0 = written-length w1 in
    let f1 = written-front w1 (at + 4) refl (take at s0) refl in
    let w2 : Written (at + 4) 4 (little_bytes 4 m.shadow) s1 s2 = record { is = e2; long = refl; fits = omega arith } in
    let l2 : length s2 ≡ length s1 = written-length w2 in
    let f2 = written-front w2 (at + 8) (omega arith) (take at s0 ++ little_bytes 4 m.visible) f1 in
    let w3 : Written (at + 8) 4 (little_bytes 4 m.own) s2 s3 = record { is = e3; long = refl; fits = omega arith } in
    let l3 : length s3 ≡ length s2 = written-length w3 in
    let f3 = written-front w3 (at + 12) (omega arith) _ f2 in
    let w4 : Written (at + 12) 4 (little_bytes 4 m.incoming) s3 s4 = record { is = e4; long = refl; fits = omega arith } in
    let l4 : length s4 ≡ length s3 = written-length w4 in
    let f4 = written-front w4 (at + 16) (omega arith) _ f3 in
    let w5 : Written (at + 16) 4 (little_bytes 4 m.sample) s4 s5 = record { is = e5; long = refl; fits = omega arith } in
    written-front w5 (at + 20) (omega arith) _ f4
    ∙ regroup (take at s0) (little_bytes 4 m.visible) (little_bytes 4 m.shadow) (little_bytes 4 m.own) (little_bytes 4 m.incoming) (little_bytes 4 m.sample)

-- the bytes before the levels' marks, part by part
pub head-written : (f : Fields) (s0 s1 s2 s3 s4 s5 s6 s7 : List ℕ) → length s0 ≡ 512 →
    s1 ≡ take 0 s0 ++ (codes "COLASTOR" ++ drop 8 s0) →
    s2 ≡ take 8 s1 ++ (little_bytes 4 (version_of f.format) ++ drop 12 s1) →
    s3 ≡ take 12 s2 ++ ((f.block_exp ∷ f.bottom ∷ cond f.closed 0 1 ∷ 0 ∷ []) ++ drop 16 s2) →
    s4 ≡ take 16 s3 ++ (little_bytes 8 f.keys ++ drop 24 s3) →
    s5 ≡ take 24 s4 ++ (little_bytes 8 f.count ++ drop 32 s4) →
    s6 ≡ take 32 s5 ++ (little_bytes 8 f.clock ++ drop 40 s5) →
    s7 ≡ take 40 s6 ++ (little_bytes 8 f.last ++ drop 48 s6) →
    take 48 s7 ≡ head_bytes f
unfolding head_bytes
head-written f s0 s1 s2 s3 s4 s5 s6 s7 size e1 e2 e3 e4 e5 e6 e7 =
    let w1 : Written 0 8 (codes "COLASTOR") s0 s1 = record { is = e1; long = refl; fits = omega arith } in
    let l1 : length s1 ≡ length s0 = written-length w1 in
    let f1 = written-front w1 8 refl [] refl in
    let w2 : Written 8 4 (little_bytes 4 (version_of f.format)) s1 s2 = record { is = e2; long = refl; fits = omega arith } in
    let l2 : length s2 ≡ length s1 = written-length w2 in
    let f2 = written-front w2 12 refl _ f1 in
    let w3 : Written 12 4 (f.block_exp ∷ f.bottom ∷ cond f.closed 0 1 ∷ 0 ∷ []) s2 s3 = record { is = e3; long = refl; fits = omega arith } in
    let l3 : length s3 ≡ length s2 = written-length w3 in
    let f3 = written-front w3 16 refl _ f2 in
    let w4 : Written 16 8 (little_bytes 8 f.keys) s3 s4 = record { is = e4; long = refl; fits = omega arith } in
    let l4 : length s4 ≡ length s3 = written-length w4 in
    let f4 = written-front w4 24 refl _ f3 in
    let w5 : Written 24 8 (little_bytes 8 f.count) s4 s5 = record { is = e5; long = refl; fits = omega arith } in
    let l5 : length s5 ≡ length s4 = written-length w5 in
    let f5 = written-front w5 32 refl _ f4 in
    let w6 : Written 32 8 (little_bytes 8 f.clock) s5 s6 = record { is = e6; long = refl; fits = omega arith } in
    let l6 : length s6 ≡ length s5 = written-length w6 in
    let f6 = written-front w6 40 refl _ f5 in
    let w7 : Written 40 8 (little_bytes 8 f.last) s6 s7 = record { is = e7; long = refl; fits = omega arith } in
    written-front w7 48 refl _ f6

-- one level's marks more
pub levels-more : (j : ℕ) (front before after : List ℕ) (levels : List Marks) → j < length levels →
    take (48 + 20 * j) before ≡ front ++ flat_map marks_bytes (take j levels) →
    take (48 + 20 * j + 20) after ≡ take (48 + 20 * j) before ++ marks_bytes (get_or levels j no_marks) →
    take (48 + 20 * (j + 1)) after ≡ front ++ flat_map marks_bytes (take (j + 1) levels)
levels-more j front before after levels within so_far text =
    let end : 48 + 20 * (j + 1) ≡ 48 + 20 * j + 20 = omega arith in
    ap (λ (k : ℕ). take k after) end
    ∙ text
    ∙ ap (λ (xs : List ℕ). xs ++ marks_bytes (get_or levels j no_marks)) so_far
    ∙ flat_map_more marks_bytes front (take j levels) (get_or levels j no_marks)
    ∙ ap (λ (ms : List Marks). front ++ flat_map marks_bytes ms) (sym (take_more levels j no_marks within))

-- all levels' marks
pub levels-all : (j : ℕ) (front into : List ℕ) (levels : List Marks) → length levels ≡ j →
    take (48 + 20 * j) into ≡ front ++ flat_map marks_bytes (take j levels) →
    take (48 + 20 * length levels) into ≡ front ++ flat_map marks_bytes levels
levels-all j front into levels is so_far =
    ap (λ (k : ℕ). take (48 + 20 * k) into) is
    ∙ so_far
    ∙ ap (λ (ms : List Marks). front ++ flat_map marks_bytes ms) (take_all j levels (omega arith))
