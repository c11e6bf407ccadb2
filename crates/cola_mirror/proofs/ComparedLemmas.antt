-- A comparison of two devices, piece after piece.
use Rattle.std.proofs.Common.{◌≡◌, ◌≢◌, ℕ, ◌+◌, ◌≤◌, min, inl, inr, List, [], ◌∷◌, ◌++◌, length, drop, Option, Some, None, Result, Ok, Err, refl, sym, ap, subst, ◌∙◌, arith, length-drop}
use Rattle.std.specs.Prelude.{IfSome}
use Rattle.std.specs.Option.{option_map}
use Rattle.std.proofs.lemmas.List.{take-append-drop}
use Rattle.cola_outside.specs.Faults.{Rose}
use Rattle.cola_device.specs.declared.device.Device as device
use Rattle.cola_device.specs.declared.device.DeviceFault.{DeviceFault}
use Rattle.cola_device.specs.Bytes.{part, HasSize, HasRange}
use Rattle.cola_device.specs.Counts.{Called}
use Rattle.cola_device.proofs.BytesLemmas.{length-part}
use Rattle.cola_opening.proofs.Spending.{spends-none, called-spends, spends-then}
use Rattle.cola_mirror.specs.Differ.{first_difference, differ_within, pieces_of, IfBoth, OnlyRead, IsPlace, Compares, OnlyCompared}
use Rattle.cola_mirror.proofs.DifferLemmas.{map-none, difference-shared, difference-none, difference-found, none-same, within-join, within-found}

-- ---- told bytes

-- a range that lies within another
pub range-in : (told : Option (List ℕ)) (at count size : ℕ) → at + count ≤ size → HasRange told 0 size → HasRange told at count
range-in None at count size within has = tt
range-in (Some bytes) at count size within has = omega (arith, within, has)

pub both-then : (P Q : List ℕ → List ℕ → Type 0) (first second : Option (List ℕ)) → ((xs ys : List ℕ) → P xs ys → Q xs ys) → IfBoth first second P → IfBoth first second Q
both-then P Q None second f p = tt
both-then P Q (Some xs) None f p = tt
both-then P Q (Some xs) (Some ys) f p = f xs ys p

pub both-join : (P Q R : List ℕ → List ℕ → Type 0) (first second : Option (List ℕ)) → ((xs ys : List ℕ) → P xs ys → Q xs ys → R xs ys) → IfBoth first second P → IfBoth first second Q → IfBoth first second R
both-join P Q R None second f p q = tt
both-join P Q R (Some xs) None f p q = tt
both-join P Q R (Some xs) (Some ys) f p q = f xs ys p q

-- what is so of each
pub both-of : (P Q : List ℕ → Type 0) (first second : Option (List ℕ)) → IfSome first P → IfSome second Q → IfBoth first second (λ xs ys. P xs × Q ys)
both-of P Q None second p q = tt
both-of P Q (Some xs) None p q = tt
both-of P Q (Some xs) (Some ys) p q = (p, q)

pub both-any : (P : List ℕ → List ℕ → Type 0) (first second : Option (List ℕ)) → ((xs ys : List ℕ) → P xs ys) → IfBoth first second P
both-any P None second f = tt
both-any P (Some xs) None f = tt
both-any P (Some xs) (Some ys) f = f xs ys

ranged : (told : Option (List ℕ)) (size : ℕ) → HasRange told 0 size → IfSome told (λ xs. size ≤ length xs)
ranged None size has = tt
ranged (Some bytes) size has = omega (arith, has)

anything : (told : Option (List ℕ)) → IfSome told (λ ys. Unit {0})
anything None = tt
anything (Some bytes) = tt

-- ---- lists

some-none : (place : Option ℕ) → None ≡ option_map (λ k. 0 + k) place → place ≡ None
some-none None is = refl
some-none (Some k) is = cc

-- no difference in no bytes
pub none-within : (xs ys : List ℕ) → None ≡ differ_within 0 0 xs ys
none-within xs ys = refl

-- a place in two lists, from the beginning
within-none : (place : Option ℕ) (a : ℕ) (xs ys : List ℕ) → place ≡ first_difference (part xs 0 a) (part ys 0 a) → place ≡ differ_within 0 a xs ys
within-none place a xs ys is = is ∙ map-none (first_difference (part xs 0 a) (part ys 0 a))

none-then : (place : Option ℕ) (a c : ℕ) (xs ys : List ℕ) → a + c ≤ length xs → None ≡ differ_within 0 a xs ys → place ≡ differ_within a c xs ys → place ≡ differ_within 0 (a + c) xs ys
none-then place a c xs ys fits none is =
    within-none place (a + c) xs ys (is ∙ sym (within-join xs ys a c (omega (arith, fits)) (some-none (first_difference (part xs 0 a) (part ys 0 a)) none)))

some-then : (k a c : ℕ) (xs ys : List ℕ) → a ≤ length xs → a ≤ length ys → Some k ≡ differ_within 0 a xs ys → Some k ≡ differ_within 0 (a + c) xs ys
some-then k a c xs ys fits others_fit found =
    within-none (Some k) (a + c) xs ys (sym (within-found xs ys a c k fits others_fit (map-none (first_difference (part xs 0 a) (part ys 0 a)) ∙ sym found)))

-- of two lists one has ended, and the other has not
ended : (xs ys : List ℕ) → min (length xs) (length ys) ≡ 0 → length xs ≢ length ys → first_difference xs ys ≡ Some 0
ended [] [] none differ = absurd (differ refl)
ended [] (y ∷ ys) none differ = refl
ended (x ∷ xs) [] none differ = refl
ended (x ∷ xs) (y ∷ ys) none differ = absurd (omega (arith, none))

front-of : (bytes : List ℕ) (m : ℕ) → bytes ≡ part bytes 0 m ++ drop m bytes
front-of bytes m = sym (take-append-drop m bytes)

both-ended : (xs ys : List ℕ) → length xs ≡ 0 → length ys ≡ 0 → xs ≡ ys
both-ended [] [] one two = refl
both-ended [] (y ∷ ys) one two = absurd (omega (arith, two))
both-ended (x ∷ xs) ys one two = absurd (omega (arith, one))

-- all bytes, by the first ones
pub all-same : (xs ys : List ℕ) → length xs ≡ length ys → None ≡ differ_within 0 (min (length xs) (length ys)) xs ys → None ≡ first_difference xs ys
all-same xs ys many none =
    let m : ℕ = min (length xs) (length ys) in
    let same : part xs 0 m ≡ part ys 0 m = none-same (part xs 0 m) (part ys 0 m) (some-none (first_difference (part xs 0 m) (part ys 0 m)) none) in
    let rest : drop m xs ≡ drop m ys = both-ended (drop m xs) (drop m ys) (omega (arith, length-drop m xs)) (omega (arith, many, length-drop m ys)) in
    let all : xs ≡ ys = front-of xs m ∙ (ap (λ (zs : List ℕ). zs ++ drop m xs) same ∙ (ap (λ (zs : List ℕ). part ys 0 m ++ zs) rest ∙ sym (front-of ys m))) in
    sym (ap (λ (zs : List ℕ). first_difference xs zs) (sym all) ∙ difference-none xs)

pub shorter-ends : (xs ys : List ℕ) → length xs ≢ length ys → None ≡ differ_within 0 (min (length xs) (length ys)) xs ys → Some (min (length xs) (length ys)) ≡ first_difference xs ys
shorter-ends xs ys differ none =
    let m : ℕ = min (length xs) (length ys) in
    let same : part xs 0 m ≡ part ys 0 m = none-same (part xs 0 m) (part ys 0 m) (some-none (first_difference (part xs 0 m) (part ys 0 m)) none) in
    let long : length (part xs 0 m) ≡ m = length-part xs 0 m (omega arith) in
    let behind : first_difference (drop m xs) (drop m ys) ≡ Some 0 = ended (drop m xs) (drop m ys) (omega (arith, length-drop m xs, length-drop m ys)) (λ e. differ (omega (arith, e, length-drop m xs, length-drop m ys))) in
    sym (ap (λ (zs : List ℕ). first_difference zs ys) (front-of xs m)
    ∙ (ap (λ (zs : List ℕ). first_difference (part xs 0 m ++ drop m xs) zs) (front-of ys m ∙ ap (λ (zs : List ℕ). zs ++ drop m ys) (sym same))
    ∙ (difference-shared (part xs 0 m) (drop m xs) (drop m ys)
    ∙ (ap (λ (place : Option ℕ). option_map (λ k. length (part xs 0 m) + k) place) behind
    ∙ ap Some (omega (arith, long))))))

pub found-in_front : (k : ℕ) (xs ys : List ℕ) → Some k ≡ differ_within 0 (min (length xs) (length ys)) xs ys → Some k ≡ first_difference xs ys
found-in_front k xs ys found =
    let m : ℕ = min (length xs) (length ys) in
    let long : length (part xs 0 m) ≡ length (part ys 0 m) = length-part xs 0 m (omega arith) ∙ sym (length-part ys 0 m (omega arith)) in
    sym (ap (λ (zs : List ℕ). first_difference zs ys) (front-of xs m)
    ∙ (ap (λ (zs : List ℕ). first_difference (part xs 0 m ++ drop m xs) zs) (front-of ys m)
    ∙ difference-found (part xs 0 m) (part ys 0 m) (drop m xs) (drop m ys) k long (map-none (first_difference (part xs 0 m) (part ys 0 m)) ∙ sym found)))

-- ---- two devices

pub rose-after : (a b c : ℕ) → b ≡ a → Rose b c → Rose a c
rose-after a b c same rose = subst (λ (n : ℕ). Rose n c) same rose

module _ {D E : Type 0} (d : device.Ghosts D) (e : device.Ghosts E) where
  pub read-none : (first : D) (second : E) (reads others : ℕ) → OnlyRead d e first first second second reads others
  read-none first second reads others = record { bytes_stay = refl; kept = refl; spends = spends-none; second_bytes_stay = refl; second_kept = refl; second_spends = spends-none }

  pub read-then : (first mid now : D) (second other last : E) (q r reads o t others : ℕ) → q + r ≤ reads → o + t ≤ others → OnlyRead d e first mid second other q o → OnlyRead d e mid now other last r t → OnlyRead d e first now second last reads others
  read-then first mid now second other last q r reads o t others few asked x y = record {
    bytes_stay = y.bytes_stay ∙ x.bytes_stay;
    kept = y.kept ∙ x.kept;
    spends = spends-then x.spends y.spends few (omega arith) asked;
    second_bytes_stay = y.second_bytes_stay ∙ x.second_bytes_stay;
    second_kept = y.second_kept ∙ x.second_kept;
    second_spends = spends-then x.second_spends y.second_spends few (omega arith) asked;
  }

  -- nothing was compared yet
  pub place-none : (first : D) (second : E) → IsPlace d e first first second second (differ_within 0 0) None
  place-none first second = record { place_is = both-any (λ xs ys. None ≡ differ_within 0 0 xs ys) (d.bytes first) (e.bytes second) none-within; no_fault = refl; second_no_fault = refl }

  -- one piece more
  pub place-then : (first mid now : D) (second other last : E) (a c : ℕ) (result : Result (Option ℕ) DeviceFault) → HasRange (d.bytes first) 0 (a + c) → d.bytes mid ≡ d.bytes first → e.bytes other ≡ e.bytes second →
      IsPlace d e first mid second other (differ_within 0 a) None → Compares d e mid now other last (differ_within a c) result → Compares d e first now second last (differ_within 0 (a + c)) result
  place-then first mid now second other last a c (Ok place) fits stay others_stay none here =
      let piece : IfBoth (d.bytes first) (e.bytes second) (λ xs ys. place ≡ differ_within a c xs ys) =
      subst (λ (t : Option (List ℕ)). IfBoth t (e.bytes second) (λ xs ys. place ≡ differ_within a c xs ys)) stay (subst (λ (t : Option (List ℕ)). IfBoth (d.bytes mid) t (λ xs ys. place ≡ differ_within a c xs ys)) others_stay here.place_is) in
      let room : IfBoth (d.bytes first) (e.bytes second) (λ xs ys. a + c ≤ length xs) = both-then (λ xs ys. (a + c ≤ length xs) × Unit {0}) (λ xs ys. a + c ≤ length xs) (d.bytes first) (e.bytes second) (λ xs ys both. both.0)
      (both-of (λ xs. a + c ≤ length xs) (λ ys. Unit {0}) (d.bytes first) (e.bytes second) (ranged (d.bytes first) (a + c) fits) (anything (e.bytes second))) in
      record {
        place_is = both-join (λ xs ys. (a + c ≤ length xs) × (None ≡ differ_within 0 a xs ys)) (λ xs ys. place ≡ differ_within a c xs ys) (λ xs ys. place ≡ differ_within 0 (a + c) xs ys) (d.bytes first) (e.bytes second)
            (λ xs ys front is. none-then place a c xs ys front.0 front.1 is)
            (both-join (λ xs ys. a + c ≤ length xs) (λ xs ys. None ≡ differ_within 0 a xs ys) (λ xs ys. (a + c ≤ length xs) × (None ≡ differ_within 0 a xs ys)) (d.bytes first) (e.bytes second) (λ xs ys p q. (p, q)) room none.place_is) piece;
        no_fault = here.no_fault ∙ none.no_fault;
        second_no_fault = here.second_no_fault ∙ none.second_no_fault;
      }
  place-then first mid now second other last a c (Err fault) fits stay others_stay none here =
      elim here [
        | inl mine ↦ inl (rose-after (d.counts first).faults (d.counts mid).faults (d.counts now).faults none.no_fault mine)
        | inr others ↦ inr (rose-after (e.counts second).faults (e.counts other).faults (e.counts last).faults none.second_no_fault others)
      ]

  -- a place that was found in the first bytes is the place in more of them
  pub place-stays : (first now : D) (second last : E) (a c k : ℕ) → HasRange (d.bytes first) 0 a → HasRange (e.bytes second) 0 a → IsPlace d e first now second last (differ_within 0 a) (Some k) → IsPlace d e first now second last (differ_within 0 (a + c)) (Some k)
  place-stays first now second last a c k fits others_fit is = record {
    place_is = both-join (λ xs ys. (a ≤ length xs) × (a ≤ length ys)) (λ xs ys. Some k ≡ differ_within 0 a xs ys) (λ xs ys. Some k ≡ differ_within 0 (a + c) xs ys) (d.bytes first) (e.bytes second)
        (λ xs ys both found. some-then k a c xs ys both.0 both.1 found)
        (both-of (λ xs. a ≤ length xs) (λ ys. a ≤ length ys) (d.bytes first) (e.bytes second) (ranged (d.bytes first) a fits) (ranged (e.bytes second) a others_fit)) is.place_is;
    no_fault = is.no_fault;
    second_no_fault = is.second_no_fault;
  }

  -- both were asked for their sizes, and answered
  module _ (first mid now : D) (second other last : E) (size length_of_second : ℕ) (sized : HasSize (d.bytes first) size) (second_sized : HasSize (e.bytes second) length_of_second)
      (asked : Called {T = ℕ} {E = DeviceFault} (d.counts first) (d.counts mid) 0 0 1 (Ok size)) (second_asked : Called {T = ℕ} {E = DeviceFault} (e.counts second) (e.counts other) 0 0 1 (Ok length_of_second))
      (stay : d.bytes mid ≡ d.bytes first) (second_stay : e.bytes other ≡ e.bytes second) where
    sizes : IfBoth (d.bytes first) (e.bytes second) (λ xs ys. (size ≡ length xs) × (length_of_second ≡ length ys))
    sizes = both-of (λ xs. size ≡ length xs) (λ ys. length_of_second ≡ length ys) (d.bytes first) (e.bytes second) sized second_sized

    -- what was compared of the first bytes says what is so of all
    pub place-whole : (shorter : ℕ) (part_place place : Option ℕ) → shorter ≡ min size length_of_second → ((xs ys : List ℕ) → size ≡ length xs → length_of_second ≡ length ys → part_place ≡ differ_within 0 (min (length xs) (length ys)) xs ys → place ≡ first_difference xs ys) →
        IsPlace d e mid now other last (differ_within 0 shorter) part_place → IsPlace d e first now second last first_difference place
    place-whole shorter part_place place short say is =
        let here : IfBoth (d.bytes first) (e.bytes second) (λ xs ys. part_place ≡ differ_within 0 shorter xs ys) =
        subst (λ (t : Option (List ℕ)). IfBoth t (e.bytes second) (λ xs ys. part_place ≡ differ_within 0 shorter xs ys)) stay (subst (λ (t : Option (List ℕ)). IfBoth (d.bytes mid) t (λ xs ys. part_place ≡ differ_within 0 shorter xs ys)) second_stay is.place_is) in
        record {
          place_is = both-join (λ xs ys. (size ≡ length xs) × (length_of_second ≡ length ys)) (λ xs ys. part_place ≡ differ_within 0 shorter xs ys) (λ xs ys. place ≡ first_difference xs ys) (d.bytes first) (e.bytes second)
              (λ xs ys long found. say xs ys long.0 long.1 (subst (λ (n : ℕ). part_place ≡ differ_within 0 n xs ys) (let e : shorter ≡ min (length xs) (length ys) = omega (arith, short, long.0, long.1) in e) found)) sizes here;
          no_fault = is.no_fault ∙ asked.none_hidden;
          second_no_fault = is.second_no_fault ∙ second_asked.none_hidden;
        }

    -- and how often both were read
    pub only-compared : (shorter : ℕ) → shorter ≡ min size length_of_second → d.kept mid ≡ d.kept first → e.kept other ≡ e.kept second → OnlyRead d e mid now other last (pieces_of shorter) 0 → OnlyCompared d e first now second last
    only-compared shorter short keeps second_keeps read = record {
      reads = pieces_of shorter;
      few = both-then (λ xs ys. (size ≡ length xs) × (length_of_second ≡ length ys)) (λ xs ys. pieces_of shorter ≤ pieces_of (min (length xs) (length ys))) (d.bytes first) (e.bytes second)
          (λ xs ys long. let e : shorter ≡ min (length xs) (length ys) = omega (arith, short, long.0, long.1) in subst (λ (n : ℕ). pieces_of shorter ≤ pieces_of n) e (omega arith)) sizes;
      only_read = read-then first mid now second other last 0 (pieces_of shorter) (pieces_of shorter) 1 0 1 (omega arith) (omega arith)
          (record { bytes_stay = stay; kept = keeps; spends = called-spends asked; second_bytes_stay = second_stay; second_kept = second_keeps; second_spends = called-spends second_asked }) read;
    }
