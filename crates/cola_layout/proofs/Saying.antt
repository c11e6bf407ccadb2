-- A header from its bytes and its bytes from what they say.
use Rattle.std.proofs.Common.{◌≡◌, ℕ, ◌+◌, ◌-◌, ◌*◌, ◌^◌, ◌<◌, ◌≤◌, cond, List, [], ◌∷◌, ◌++◌, length, take, drop, slice_index, replicate, flat_map, refl, sym, ◌∙◌, ap, subst, arith}
use Rattle.std.proofs.lemmas.List.{drop_more, take-append-drop, drop-drop, length-drop}
use Rattle.std.proofs.Math.Seq.{take-add}
use Rattle.byteorder.specs.Endian.{little_number, little_bytes}
use Rattle.byteorder.specs.Numbers.{little_number-reads_back}
use Rattle.cola_cell.specs.declared.format.Format.{Format}
use Rattle.cola_cell.specs.declared.format.Format.TheVariants.{One, Two}
use Rattle.cola_cell.specs.Format.{stamp_limit}
use Rattle.cola_cell.proofs.Numbers.{AreBytes, bytes-of-first, drop-bytes}
use Rattle.cola_layout.specs.Header.{Fields, IsSound, IsSpelling, head_bytes, marks_bytes, header_bytes}
use Rattle.cola_layout.specs.Read.{Says, IsZeroBehind, levels_in}
use Rattle.cola_layout.proofs.Powers.{power-le, bottom-shallow}
use Rattle.cola_layout.proofs.Readings.{levels-in_bytes, levels-bytes_in}
use Rattle.cola_layout.proofs.Small.{sound-small}

-- a block behind a front
more-bytes : (n w k : ℕ) (xs front block : List ℕ) → k ≡ n + w → take n xs ≡ front → take w (drop n xs) ≡ block → take k xs ≡ front ++ block
more-bytes n w k xs front block e f b = rw (e, take-add, f, b) refl

-- four bytes at a place
four-bytes : (xs : List ℕ) → 16 ≤ length xs → take 4 (drop 12 xs) ≡ slice_index xs 12 ∷ slice_index xs 13 ∷ slice_index xs 14 ∷ slice_index xs 15 ∷ []
four-bytes xs fits =
    rw (drop_more xs 12 0 (omega arith), drop_more xs 13 0 (omega arith), drop_more xs 14 0 (omega arith), drop_more xs 15 0 (omega arith)) refl

-- a number of 64 bits at a place
eight-bytes : (n : ℕ) (xs : List ℕ) (x : ℕ) → n + 8 ≤ length xs → AreBytes xs → x ≡ little_number 8 (drop n xs) → take 8 (drop n xs) ≡ little_bytes 8 x
eight-bytes n xs x fits small e = rw e (sym (bytes-of-first 8 (drop n xs) (rw length-drop (omega arith)) (drop-bytes n xs small)))

-- the bytes before the levels' marks, from what they say
head-from : (f : Fields) (xs : List ℕ) → length xs ≡ 512 → AreBytes xs → Says f xs → take 48 xs ≡ head_bytes f
unfolding head_bytes
head-from f xs size small says =
    let g = says.geometry in
    let four : take 4 (drop 12 xs) ≡ f.block_exp ∷ f.bottom ∷ cond f.closed 0 1 ∷ 0 ∷ [] = four-bytes xs (omega arith) ∙ rw (g.block_is, g.bottom_is, says.state, g.zero_is) refl in
    let f16 = more-bytes 12 4 16 xs _ _ refl g.format_is four in
    let f24 = more-bytes 16 8 24 xs _ _ refl f16 (eight-bytes 16 xs f.keys (omega arith) small g.keys_is) in
    let f32 = more-bytes 24 8 32 xs _ _ refl f24 (eight-bytes 24 xs f.count (omega arith) small says.count) in
    let f40 = more-bytes 32 8 40 xs _ _ refl f32 (eight-bytes 32 xs f.clock (omega arith) small says.clock) in
    more-bytes 40 8 48 xs _ _ refl f40 (eight-bytes 40 xs f.last (omega arith) small says.last)

-- the bytes, from what they say
pub text-from : (f : Fields) (xs : List ℕ) → length xs ≡ 512 → AreBytes xs → length f.levels ≡ f.bottom + 1 → f.bottom ≤ 22 →
    Says f xs → IsZeroBehind (f.bottom + 1) xs → xs ≡ header_bytes f
text-from f xs size small one_each shallow says zeros =
    let n = f.bottom + 1 in
    let room : 20 * (f.bottom + 1) ≤ length (drop 48 xs) = rw length-drop (omega arith) in
    let marks : take (20 * (f.bottom + 1)) (drop 48 xs) ≡ flat_map marks_bytes f.levels =
    sym (levels-bytes_in (f.bottom + 1) (drop 48 xs) room (drop-bytes 48 xs small)) ∙ ap (flat_map marks_bytes) (sym says.levels) in
    let behind : drop (20 * (f.bottom + 1)) (drop 48 xs) ≡ replicate (464 - 20 * length f.levels) 0 =
    drop-drop (20 * (f.bottom + 1)) 48 xs ∙ zeros ∙ ap (λ (k : ℕ). replicate (464 - 20 * k) 0) (sym one_each) in
    sym (take-append-drop 48 xs)
    ∙ ap (λ (ys : List ℕ). ys ++ drop 48 xs) (head-from f xs size small says)
    ∙ ap (λ (ys : List ℕ). head_bytes f ++ ys) (sym (take-append-drop (20 * (f.bottom + 1)) (drop 48 xs)))
    ∙ ap (λ (ys : List ℕ). head_bytes f ++ (ys ++ drop (20 * (f.bottom + 1)) (drop 48 xs))) marks
    ∙ ap (λ (ys : List ℕ). head_bytes f ++ (flat_map marks_bytes f.levels ++ ys)) behind

last-small : (format : Format) (last : ℕ) → last ≤ stamp_limit format → last ≤ 2 ^ 63
last-small One last h = omega arith
last-small Two last h = h

-- what a header's bytes say
says-head : (f : Fields) (rest : List ℕ) → IsSound f → f.levels ≡ levels_in (f.bottom + 1) rest → Says f (head_bytes f ++ rest)
unfolding head_bytes
says-head f rest sound levels =
    let keys_few : f.keys ≤ 2 ^ 24 = sound.keys_in_range.few in
    let count_few : f.count ≤ f.keys = sound.count_fits in
    let shallow : f.bottom ≤ 22 = bottom-shallow f.keys f.bottom keys_few sound.bottom_fits in
    let clock_small : f.clock < 2 ^ 23 = (let below : f.clock < 2 ^ (f.bottom + 1) = sound.clock_fits in let more : 2 ^ (f.bottom + 1) ≤ 2 ^ 23 = power-le (f.bottom + 1) 23 (omega arith) in omega arith) in
    let last_small : f.last ≤ 2 ^ 63 = last-small f.format f.last sound.last_fits in
    let last_bytes = little_bytes 8 f.last ++ rest in
    let clock_bytes = little_bytes 8 f.clock ++ last_bytes in
    let count_bytes = little_bytes 8 f.count ++ clock_bytes in
    record {
      geometry = record {
        format_is = refl;
        block_is = refl;
        bottom_is = refl;
        zero_is = refl;
        keys_is = sym (little_number-reads_back 8 f.keys count_bytes (omega arith));
      };
      state = refl;
      count = sym (little_number-reads_back 8 f.count clock_bytes (omega arith));
      clock = sym (little_number-reads_back 8 f.clock last_bytes (omega arith));
      last = sym (little_number-reads_back 8 f.last rest (omega arith));
      levels = levels;
    }

pub head-length : (f : Fields) → length (head_bytes f) ≡ 48
unfolding head_bytes
head-length f = refl

pub text-says : (f : Fields) (bytes : List ℕ) → IsSpelling f bytes → Says f bytes
text-says f bytes s =
    let marks : levels_in (f.bottom + 1) (flat_map marks_bytes f.levels ++ replicate (464 - 20 * length f.levels) 0) ≡ f.levels =
    ap (λ (k : ℕ). levels_in k (flat_map marks_bytes f.levels ++ replicate (464 - 20 * length f.levels) 0)) (sym s.sound.one_each)
    ∙ levels-in_bytes f.levels (replicate (464 - 20 * length f.levels) 0) (sound-small f s.sound) in
    subst (Says f) (sym s.text) (says-head f (flat_map marks_bytes f.levels ++ replicate (464 - 20 * length f.levels) 0) s.sound (sym marks))
