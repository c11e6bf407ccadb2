-- A room that is copied into a larger one, word by word.
use Rattle.std.proofs.Common.{◌≡◌, ℕ, ◌+◌, ◌-◌, ◌≤◌, List, ◌++◌, length, take, drop, replicate, append_assoc, sym, ap, ◌∙◌, arith, length-drop}
use Rattle.std.proofs.lemmas.List.{drop-append-le, drop-replicate, length-take-le, take-append-le, take-replicate, take_all}
use Rattle.std.proofs.Math.Seq.{drop-append-add, take-add, take-append-add, take-append_seam}
use Rattle.byteorder.specs.Endian.{little_bytes, little_number}
use Rattle.cola_cell.specs.Bytes.{padded}
use Rattle.cola_cell.proofs.Numbers.{AreBytes, bytes-of-number, drop-bytes, take-bytes}
use Rattle.cola_cell.proofs.Padding.{length-padded}

-- a word that was read of a room is the one that stands there in a larger room
pub word-read : (n place size x : ℕ) (room : List ℕ) → AreBytes room → place + 8 ≤ length room → size ≡ 8
    → x ≡ little_number 8 (take size (drop place room)) → little_bytes 8 x ≡ take 8 (drop place (padded n room))
word-read n place size x room small fits eight is =
    let long : 8 ≤ length (drop place room) = omega (arith, length-drop place room) in
    let zeros = replicate (n - length room) 0 in
    ap (little_bytes 8) (is ∙ ap (λ (k : ℕ). little_number 8 (take k (drop place room))) eight)
    ∙ bytes-of-number 8 (take 8 (drop place room)) (length-take-le 8 (drop place room) long) (take-bytes 8 (drop place room) (drop-bytes place room small))
    ∙ sym (ap (take 8) (drop-append-le place room zeros (omega arith)) ∙ take-append-le 8 (drop place room) zeros long)

-- a word behind the room is zero in a larger room
pub word-behind : (n place : ℕ) (room : List ℕ) → length room ≤ place → place + 8 ≤ n → little_bytes 8 0 ≡ take 8 (drop place (padded n room))
word-behind n place room behind fits =
    let zeros = replicate (n - length room) 0 in
    let at : place ≡ length room + (place - length room) = omega arith in
    sym
    (ap (λ (p : ℕ). take 8 (drop p (room ++ zeros))) at
    ∙ ap (take 8) (drop-append-add room zeros (place - length room) ∙ drop-replicate (place - length room) (n - length room) 0)
    ∙ take-replicate 8 (n - length room - (place - length room)) 0 (omega arith))

-- a list whose front is that of another is so for one word more, once that word is written
pub word-put : (place : ℕ) (whole old part word more rest : List ℕ) → place ≤ length old → take place old ≡ take place whole
    → length word ≡ 8 → word ≡ take 8 (drop place whole) → part ≡ word ++ more
    → take (place + 8) (take place old ++ (part ++ rest)) ≡ take (place + 8) whole
word-put place whole old part word more rest fits front eight is written =
    let long : length (take place old) ≡ place = length-take-le place old fits in
    ap (λ (xs : List ℕ). take (place + 8) (take place old ++ (xs ++ rest))) written
    ∙ ap (λ (xs : List ℕ). take (place + 8) (take place old ++ xs)) (append_assoc word more rest)
    ∙ ap (λ (k : ℕ). take (k + 8) (take place old ++ (word ++ (more ++ rest)))) (sym long)
    ∙ take-append-add (take place old) (word ++ (more ++ rest)) 8
    ∙ ap (λ (k : ℕ). take place old ++ take k (word ++ (more ++ rest))) (sym eight)
    ∙ ap (λ (xs : List ℕ). take place old ++ xs) (take-append_seam word (more ++ rest) ∙ is)
    ∙ ap (λ (xs : List ℕ). xs ++ take 8 (drop place whole)) front
    ∙ sym (take-add place 8 whole)

-- a list of at most nine words whose first nine are a room's with zeros behind it is that room
pub words-put : (n m : ℕ) (room new : List ℕ) → take 72 new ≡ take 72 (padded m room) → m ≡ n → length new ≡ n → n ≤ 72 → length room ≤ n
    → new ≡ padded n room
words-put n m room new front same long small fits =
    sym (take_all 72 new (omega arith)) ∙ front ∙ ap (λ (k : ℕ). take 72 (padded k room)) same
    ∙ take_all 72 (padded n room) (omega (arith, length-padded n room fits))
