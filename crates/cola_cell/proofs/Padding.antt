-- A list with zeros behind it, to the end of its room.
use Rattle.std.proofs.Common.{◌≡◌, ℕ, zero, suc, Bool, true, false, ◌+◌, ◌-◌, ◌≤◌, List, [], ◌∷◌, ◌++◌, slice_index, append_assoc, length, take, drop, replicate, refl, sym, ap, ◌∙◌, arith, length-append}
use Rattle.std.proofs.lemmas.List.{drop-replicate, get_or-drop, length-drop, length-replicate, length-take-le, replicate-append-replicate, take-append-drop, take-append-le}
use Rattle.std.proofs.Math.Seq.{take-append_seam}
use Rattle.std.specs.Bool.{IsTrue, MatchBool}
use Rattle.cola_cell.specs.Bytes.{padded, Fills}

-- its front is the list
pub padded-front : (room : ℕ) (xs : List ℕ) → take (length xs) (padded room xs) ≡ xs
padded-front room xs = take-append_seam xs (replicate (room - length xs) 0)

-- it fills the room
pub length-padded : (room : ℕ) (xs : List ℕ) → length xs ≤ room → length (padded room xs) ≡ room
length-padded room xs h = omega (arith, length-append xs (replicate (room - length xs) 0), length-replicate {A = ℕ} (room - length xs) 0)

-- a room of zeros whose front is overwritten is a padded list
pub overwritten : (room : ℕ) (xs : List ℕ) → xs ++ drop (length xs) (replicate room 0) ≡ padded room xs
overwritten room xs = ap (λ zs. xs ++ zs) (drop-replicate (length xs) room 0)

-- what is known of a room that holds a list
pub holds-list : (room : ℕ) (xs whole : List ℕ) → length xs ≤ room → whole ≡ padded room xs → (length xs ≤ room) × (length whole ≡ room) × (whole ≡ padded room (take (length xs) whole))
holds-list room xs whole fits is =
    (fits, ap length is ∙ length-padded room xs fits, is ∙ ap (padded room) (sym (ap (take (length xs)) is ∙ padded-front room xs)))

-- a list of zeros
zeros : (xs : List ℕ) → ((k : ℕ) → slice_index xs k ≡ 0) → xs ≡ replicate (length xs) 0
zeros [] all = refl
zeros (x ∷ xs) all = ap (λ (y : ℕ). y ∷ xs) (all 0) ∙ ap (λ (ys : List ℕ). 0 ∷ ys) (zeros xs (λ k. all (suc k)))

-- a list that is zero from n on is its first n items, padded
pub padded-from : (n : ℕ) (xs : List ℕ) → n ≤ length xs → ((k : ℕ) → n ≤ k → slice_index xs k ≡ 0) → xs ≡ padded (length xs) (take n xs)
padded-from n xs fits all =
    let long : length (drop n xs) ≡ length xs - length (take n xs) = omega (arith, length-drop n xs, length-take-le n xs fits) in
    sym (take-append-drop n xs)
    ∙ ap (λ (ys : List ℕ). take n xs ++ ys) (zeros (drop n xs) (λ k. get_or-drop n xs k 0 ∙ all (n + k) (omega arith)) ∙ ap (λ (m : ℕ). replicate m 0) long)

-- a list of zeros is zero at each place, and past its end
zero-at : (m k : ℕ) → slice_index (replicate m 0) k ≡ 0
zero-at zero k = refl
zero-at (suc m) zero = refl
zero-at (suc m) (suc k) = zero-at m k

-- behind a list with zeros after it is zero
zero-after : (xs : List ℕ) (m k : ℕ) → length xs ≤ k → slice_index (xs ++ replicate m 0) k ≡ 0
zero-after [] m k low = zero-at m k
zero-after (x ∷ xs) m zero low = absurd (omega arith)
zero-after (x ∷ xs) m (suc k) low = zero-after xs m k (omega arith)

-- padding twice is padding to the larger room
pub padded-twice : (small large : ℕ) (xs : List ℕ) → length xs ≤ small → small ≤ large → padded large (padded small xs) ≡ padded large xs
padded-twice small large xs fits order =
    let long = length-padded small xs fits in
    let sum : (small - length xs) + (large - length (padded small xs)) ≡ large - length xs = omega arith in
    append_assoc xs (replicate (small - length xs) 0) (replicate (large - length (padded small xs)) 0)
    ∙ ap (λ (ys : List ℕ). xs ++ ys)
    (replicate-append-replicate (small - length xs) (large - length (padded small xs)) 0 ∙ ap (λ (m : ℕ). replicate m 0) sum)

-- the list of a room that was checked
pub fills : (room : List ℕ) (n : ℕ) → n ≤ length room → ((k : ℕ) → n ≤ k → slice_index room k ≡ 0) → Fills room n (take n room)
fills room n fits all =
    record { long = length-take-le n room fits; within = omega (arith, length-take-le n room fits); is = padded-from n room fits all }

-- a list that fills a room has no byte but zeros behind it
pub fills-zero : (room : List ℕ) (n : ℕ) (list : List ℕ) → Fills room n list → (k : ℕ) → n ≤ k → slice_index room k ≡ 0
fills-zero room n list f k low = ap (λ (xs : List ℕ). slice_index xs k) f.is ∙ zero-after list (length room - length list) k (omega (arith, f.long))

-- a room that a list fills is at least as long, and is the list, padded
filled : (room : List ℕ) (len : ℕ) → Fills room len (take len room) → len ≤ length room
filled room len f = omega (arith, f.long, f.within)

-- a filled room, copied to a larger room of zeros
pub copied : (size len : ℕ) (room whole : List ℕ) → length room ≤ size → Fills room len (take len room) → whole ≡ padded size room
    → (whole ≡ padded size (take len room)) × (take len whole ≡ take len room)
copied size len room whole order f is = (
  is ∙ ap (padded size) f.is ∙ padded-twice (length room) size (take len room) f.within order,
  ap (take len) is ∙ take-append-le len room (replicate (size - length room) 0) (filled room len f),
)

-- what that makes of the larger room
pub holds-copied : (size len : ℕ) (room whole : List ℕ) → length room ≤ size → Fills room len (take len room) → whole ≡ padded size room
    → (len ≤ size) × (length whole ≡ size) × (whole ≡ padded size (take len whole))
holds-copied size len room whole order f is =
    let at = copied size len room whole order f is in
    let front = filled room len f in
    (omega arith, ap length is ∙ length-padded size room order, at.0 ∙ ap (padded size) (sym at.1))

-- the answer to whether a list fills a room, from whether the room is zero behind it
pub fills-answer : (room : List ℕ) (len : ℕ) (answer : Bool) → len ≤ length room
    → (IsTrue answer → (k : ℕ) → len ≤ k → slice_index room k ≡ 0) × (((k : ℕ) → len ≤ k → slice_index room k ≡ 0) → IsTrue answer)
    → MatchBool answer (Fills room len (take len room)) ((list : List ℕ) → ¬ Fills room len list)
fills-answer room len true fits is = fills room len fits (is.0 refl)
fills-answer room len false fits is = λ list f. let no : IsTrue false = is.1 (fills-zero room len list f) in cc
